-- Reading a set list, a line at a time.
use Rattle.std.proofs.Common.{ℕ, ◌≡◌, ◌+◌, ◌≤◌, List, [], ◌∷◌, ◌++◌, length, All, refl, sym, ap, ◌∙◌, arith, append-nil, append_assoc, length-append, subst}
use Rattle.std.specs.List.{cons_option}
use Rattle.std.specs.declared.option.Option.{Option}
use Rattle.std.specs.declared.option.Option.TheVariants.{Some}
use Rattle.std.specs.declared.result.Result.{Result}
use Rattle.std.specs.declared.result.Result.TheVariants.{Ok, Err}
use Rattle.std.proofs.lemmas.List.Elements.{All-append, All-cons, All-head, All-nil, All-tail}
use Rattle.raid_params.specs.declared.types.Geometry.{Geometry}
use Rattle.value_text.proofs.Spellings.{IsWithout, first_separator, has_separator}
use Rattle.volume_classes.specs.declared.fault.ClassFault.{ClassFault}
use Rattle.volume_classes.specs.declared.fault.ClassFault.TheVariants.{Line, Memory}
use Rattle.volume_classes.specs.SetLists.{Adds, AddsSet, AreEntries, AreRead, Entry, IsEntry, IsRefusedLine, ReadsSets, entry_line, list_text, set_of, sets_in}
use Rattle.volume_classes.proofs.SetLines.{entry_name, line_is, name_is_line, one_entry, sets_more, text_more}

-- the lines that were read are those of entries
pub record IsFar (images end : ℕ) (text rest : List ℕ) (taken : ℕ) (sets : List Geometry) : Type 0 where
  pub entries : List Entry
  pub are : AreEntries images end entries
  pub text_is : text ≡ list_text entries ++ rest
  pub count : taken ≡ length entries
  pub sets_are : sets ≡ sets_in entries
  pub few : taken + length rest ≤ length text

pub far_none : (images end : ℕ) (text : List ℕ) → IsFar images end text text 0 []
far_none images end text = record {
  entries = [];
  are = record { each = All-nil (IsEntry images end); few = omega arith };
  text_is = refl;
  count = refl;
  sets_are = refl;
  few = omega arith;
}

pub few_sets : {images end taken : ℕ} {text rest : List ℕ} {sets : List Geometry} → IsFar images end text rest taken sets → length sets ≤ 1024
few_sets far = let few = far.are.few in let same = ap length far.sets_are in omega arith

-- one more entry
pub far_more : {images end taken : ℕ} {text rest : List ℕ} {sets : List Geometry} (far : IsFar images end text rest taken sets) (line more : List ℕ) (new : List Geometry) (entry : Entry) → rest ≡ line ++ 10 ∷ more →
    IsEntry images end entry → line ++ 10 ∷ [] ≡ entry_line entry → new ≡ sets ++ sets_in (entry ∷ []) → length new ≤ 1024 → IsFar images end text more (taken + 1) new
far_more {images = images} {end = end} {taken = taken} {text = text} {rest = rest} {sets = sets} far line more new entry cut is e added few =
    let same : new ≡ sets_in (far.entries ++ entry ∷ []) = added ∙ ap (λ (gs : List Geometry). gs ++ sets_in (entry ∷ [])) far.sets_are ∙ sym (sets_more far.entries entry) in
    let long = ap length same in
    let rest_is : rest ≡ entry_line entry ++ more = cut ∙ sym (append_assoc line (10 ∷ []) more) ∙ ap (λ (bytes : List ℕ). bytes ++ more) e in
    record {
      entries = far.entries ++ entry ∷ [];
      are = record { each = All-append (IsEntry images end) far.entries (entry ∷ []) far.are.each (All-cons (IsEntry images end) entry [] is (All-nil (IsEntry images end))); few = omega arith };
      text_is = far.text_is ∙ ap (λ (bytes : List ℕ). list_text far.entries ++ bytes) rest_is ∙ sym (text_more far.entries entry more);
      count = let n = far.count in omega (arith, length-append far.entries (entry ∷ []));
      sets_are = same;
      few = let n = far.few in omega (arith, ap length cut, length-append line (10 ∷ more));
    }

-- the last of entries
last_is : (images end : ℕ) (entries : List Entry) (entry : Entry) → AreEntries images end (entries ++ entry ∷ []) → IsEntry images end entry
last_is images end entries entry are = All-head (IsEntry images end) entry [] (All-right entries are.each)
  where
    All-right : (xs : List Entry) → All (IsEntry images end) (xs ++ entry ∷ []) → All (IsEntry images end) (entry ∷ [])
    All-right [] all = all
    All-right (x ∷ xs) all = All-right xs (All-tail (IsEntry images end) x (xs ++ entry ∷ []) all)

-- a line that tells no entry is refused
pub far_refused : {images end taken : ℕ} {text rest : List ℕ} {sets : List Geometry} (far : IsFar images end text rest taken sets) (line more : List ℕ) (number : ℕ) (new : List Geometry) (fault : ClassFault) → rest ≡ line ++ 10 ∷ more →
    IsWithout 10 line → number ≡ taken + 1 → Adds images end number line sets new (Err fault) → ReadsSets images end text (Err fault)
far_refused far line more number new Memory cut plain at adds = tt
far_refused {images = images} {end = end} {taken = taken} {text = text} {rest = rest} {sets = sets} far line more number new (Line refused) cut plain at adds = record {
  before = far.entries;
  are = far.are;
  number_is = let e = adds.0 in let n = far.count in omega arith;
  rest = rest;
  text_is = far.text_is;
  some = omega (arith, ap length cut, length-append line (10 ∷ more));
  refused = λ entry after are same.
      let is = last_is images end far.entries entry are in
      let begins : line ++ 10 ∷ more ≡ entry_name entry ++ 10 ∷ after = sym cut ∙ same ∙ ap (λ (bytes : List ℕ). bytes ++ after) (line_is entry) ∙ append_assoc (entry_name entry) (10 ∷ []) after in
      let name : line ≡ entry_name entry = (first_separator 10 line (entry_name entry) more after plain (name_is_line images end entry is) begins).0 in
      let long = ap length (sets_more far.entries entry) in
      let before = ap length far.sets_are in
      let few = are.few in
      adds.1 entry is (omega (arith, length-append sets (sets_in (entry ∷ [])), length-append (sets_in far.entries) (sets_in (entry ∷ []))))
      (ap (λ (bytes : List ℕ). bytes ++ 10 ∷ []) name ∙ sym (line_is entry));
}

-- and so is what follows the last line feed
pub far_end : {images end taken : ℕ} {text rest : List ℕ} {sets : List Geometry} (far : IsFar images end text rest taken sets) → IsWithout 10 rest → 1 ≤ length rest → IsRefusedLine images end text (taken + 1)
far_end {images = images} {end = end} {taken = taken} {text = text} {rest = rest} {sets = sets} far plain some = record {
  before = far.entries;
  are = far.are;
  number_is = let n = far.count in omega arith;
  rest = rest;
  text_is = far.text_is;
  some = some;
  refused = λ entry after are same.
      has_separator 10 (entry_name entry) after (subst (IsWithout 10) (same ∙ ap (λ (bytes : List ℕ). bytes ++ after) (line_is entry) ∙ append_assoc (entry_name entry) (10 ∷ []) after) plain);
}

-- where nothing follows all is read
pub far_done : {images end taken : ℕ} {text rest : List ℕ} {sets : List Geometry} (far : IsFar images end text rest taken sets) → rest ≡ [] → AreRead images end text sets
far_done {images = images} {end = end} {taken = taken} {text = text} {rest = rest} {sets = sets} far none = record {
  entries = far.entries;
  are = far.are;
  text_is = far.text_is ∙ ap (λ (bytes : List ℕ). list_text far.entries ++ bytes) none ∙ append-nil (list_text far.entries);
  sets_are = far.sets_are;
}

-- an entry whose line tells a set tells that set
pub same_set : (images end : ℕ) (text : List ℕ) (one other : Entry) (geo : Geometry) (old : List Geometry) → IsEntry images end one → IsEntry images end other → text ++ 10 ∷ [] ≡ entry_line one → text ++ 10 ∷ [] ≡ entry_line other →
    set_of one ≡ Some geo → 1024 ≤ length old → length (old ++ sets_in (other ∷ [])) ≤ 1024 → ⊥
same_set images end text one other geo old is other_is e f tells full few =
    let same = one_entry images end one other is other_is (sym e ∙ f) in
    let one_more : length (sets_in (other ∷ [])) ≡ 1 = ap (λ (t : Entry). length (sets_in (t ∷ []))) (sym same) ∙ ap (λ (o : Option Geometry). length (cons_option o [])) tells in
    omega (arith, length-append old (sets_in (other ∷ [])))

-- adding the set of an entry
pub added_set : (images end number : ℕ) (text : List ℕ) (geo : Geometry) (old new : List Geometry) (entry : Entry) (answer : Result (Unit {0}) ClassFault) → IsEntry images end entry → text ++ 10 ∷ [] ≡ entry_line entry →
    Some geo ≡ set_of entry → AddsSet number geo old new answer → Adds images end number text old new answer
added_set images end number text geo old new entry (Ok done) is e tells adds =
    (entry, is, e, adds.0 ∙ ap (λ (o : Option Geometry). old ++ cons_option o []) tells, adds.1)
added_set images end number text geo old new entry (Err (Line refused)) is e tells adds =
    (adds.0, λ other other_is few f. same_set images end text entry other geo old is other_is e f (sym tells) adds.1 few)
added_set images end number text geo old new entry (Err Memory) is e tells adds = tt
