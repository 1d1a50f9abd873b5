use Rattle.sample_arrays.proofs.States.{rest_is, word_is}
use Rattle.sample_arrays.specs.Words.{answers}
use Rattle.sample_arrays.proofs.words.next.Goals as goal

pub returns-clause-word : goal.returns-clause-word
unfolding answers
returns-clause-word c = word_is c.next_u64.result c.args.generator.now (answers c.next_u64.new.self) c.next_u64.ensures

pub returns-clause-rest : goal.returns-clause-rest
unfolding answers
returns-clause-rest c = rest_is c.next_u64.result c.args.generator.now (answers c.next_u64.new.self) c.next_u64.ensures
