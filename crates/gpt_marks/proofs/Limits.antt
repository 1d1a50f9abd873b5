-- What a caller may rely on in what was read.
use Rattle.std.proofs.Common.{◌≡◌, ℕ, ◌<◌, List, ◌+◌, Some, true, arith, ◌^◌}
use Rattle.sector_fields.specs.Fields.{u64_le}
use Rattle.std.proofs.lemmas.Bool.Decides.{nat_tests}
use Rattle.gpt_marks.specs.Header.{gpt_header, gpt_header_of, is_gpt_header}
use Rattle.gpt_marks.specs.Entry.{first_lba, is_used_entry}
use Rattle.gpt_marks.specs.declared.header.GptHeader.{GptHeader}

-- MyLBA is below the limit
pub my_lba_within : (s : List ℕ) (h : GptHeader) → h ≡ gpt_header_of s → is_gpt_header s ≡ true → h.my_lba < 2 ^ 55
unfolding gpt_header_of is_gpt_header
my_lba_within s h e t = grind (arith, nat_tests)

-- the same of the header that was read
pub my_lba_below : (s : List ℕ) (h : GptHeader) → gpt_header s ≡ Some h → h.my_lba < 2 ^ 55
unfolding gpt_header gpt_header_of is_gpt_header
my_lba_below s h e = grind (arith, nat_tests)

-- so is the first block of an entry
pub first_within : (s : List ℕ) (alternate at : ℕ) → is_used_entry s alternate at ≡ true → u64_le s (at + 32) < 2 ^ 55
unfolding is_used_entry
first_within s alternate at t = grind (arith, nat_tests)

-- the same of the block that was read
pub first_below : (s : List ℕ) (alternate at first : ℕ) → first_lba s alternate at ≡ Some first → first < 2 ^ 55
unfolding first_lba is_used_entry
first_below s alternate at first e = grind (arith, nat_tests)
