use Rattle.near_tables.proofs.torn_table.TornTable.build.Goals as goal

pub add_strips-requires-clause-none : goal.add_strips-requires-clause-none
add_strips-requires-clause-none g c = λ bytes. c.in_ok-table.ensures.none bytes c.args.many c.args.end c.args.limit c.args.head.now
