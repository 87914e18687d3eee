-- Laws of results: a unit of good parts, within the limits, that meets 5 to 10 is valid as bytes. And what acceptance
-- says.
use Rattle.xliff.specs.Good.{each_cons, GoodRecord, AllGood, GoodParts}
use Prim.Native.Nat.{ℕ, ◌≤◌}
use mathlib.Core.Path.{◌≡◌, refl, sym, ap, ◌∙◌, subst}
use mathlib.Core.Bool.{Bool, true, false, true≢false, false≢true}
use mathlib.Core.List.{List, [], ◌∷◌}
use mathlib.Core.Option.{Option, none, some}
use native.Mathlib.Omega.{arith}
use lib.ListN.{length}
use lib.Dec.{ltb}
use borrow.Author.Tests.{ltb-false}
use Rattle.xliff.specs.Bytes.{Bytes}
use Rattle.xliff.specs.Answer.{Refusal, applies, ◌then◌, of_result, result, unless}
use Rattle.xliff.specs.Unit.{Part, XliffUnit}
use Rattle.xliff.specs.Encode.{Record, opening, closing, part_head, target_head, text_run, inline, ill_text, broken, unit_records, encode}
use Rattle.xliff.specs.Parse.{most_bytes, most_records, most_parts, Stage, unit_due, part_due, step, unit_step, part_step, may_end, entries, records, reading, take_record, opening_of, unit, table_fault}
use Rattle.xliff.specs.Rules.{fault_5, fault_6_to_10}
use Rattle.xliff.specs.Check.{table_refusal, Valid, too_large, operation}
use Rattle.xliff.proofs.lists.Tests.{none_some, or_left, or_right}
use Rattle.xliff.proofs.records.Parse.{records_unit}
use Rattle.xliff.proofs.unit.Table.{Runs, at_end, goes_on, fault_on, on_on, table_walked}
use Rattle.xliff.proofs.unit.Valid.{unit_runs, good_unit_passes, unit_good}

-- taking refusals apart
pub then_left : (a b : Option Refusal) → (a then b) ≡ none → a ≡ none
unfolding ◌then◌
then_left none b e = refl
then_left (some r) b e = e

pub then_right : (a b : Option Refusal) → (a then b) ≡ none → b ≡ none
unfolding ◌then◌
then_right none b e = e
then_right (some r) b e = absurd (none_some (sym e))

pub then_none : (a b : Option Refusal) → a ≡ none → b ≡ none → (a then b) ≡ none
unfolding ◌then◌
then_none none b p q = q
then_none (some r) b p q = p

pub then_last : (a b c : Option Refusal) → a ≡ none → b ≡ none → (a then (b then c)) ≡ c
unfolding ◌then◌
then_last a b c p q = rw (p, q)

pub applies_none : (n : ℕ) (b : Bool) → applies n b ≡ none → b ≡ false
unfolding applies
applies_none n true e = absurd (none_some (sym e))
applies_none n false e = refl

pub applies_false : (n : ℕ) (b : Bool) → b ≡ false → applies n b ≡ none
unfolding applies
applies_false n true e = absurd (true≢false e)
applies_false n false e = refl

-- number 1 leaves at most 8,192 bytes
pub small_table : (t : List ℕ) → table_refusal t ≡ none → length t ≤ most_bytes
unfolding table_refusal
small_table t v = ltb-false most_bytes (length t) (applies_none 1 (ltb most_bytes (length t)) (then_left _ _ v))

pub of_result_none : (o : Option Refusal) → of_result o ≡ none → o ≡ none
unfolding of_result
of_result_none none e = refl
of_result_none (some r) e = absurd (none_some (sym e))

pub unless_result : (o : Option Refusal) (s r : List ℕ) → unless o s ≡ result r → (o ≡ none) × (s ≡ r)
unfolding unless
unless_result none s r e = (refl, cc)
unless_result (some x) s r e = let z : ◌≡◌ {A = ℕ} 0 1 = cc in absurd (let y : ⊥ = omega arith in y)

-- an operation that was accepted: the table is valid, none of its own numbers applied, the bytes are the unit's
pub operation_result : (t : List ℕ) (own : Option Refusal) (v : XliffUnit) (r : List ℕ) → operation t own v ≡ result r
    → (table_refusal t ≡ none) × (own ≡ none) × (encode v ≡ r)
unfolding operation
operation_result t own v r e =
    let (o, s) = unless_result (table_refusal t then own) (encode v) r e in
    (then_left (table_refusal t) own o, then_right (table_refusal t) own o, s)

-- a valid table: what it says of the unit
pub record Sent (u : XliffUnit) : Type 0 where
  pub letter : GoodRecord (opening u.opening)
  pub first : Part
  pub others : List Part
  pub parts : u.parts ≡ first ∷ others
  pub good : GoodParts u.parts
  pub rule_5 : fault_5 u.parts ≡ none
  pub rules : fault_6_to_10 u.parts ≡ none

part_first : (rs : List Record) → Runs part_due rs → (p : Part) × (ps : List Part) × ((reading rs).parts ≡ p ∷ ps)
unfolding reading take_record step part_step may_end
part_first [] (at_end e) = absurd (false≢true e)
part_first (opening c ∷ rs) (goes_on e run) = absurd (fault_on e)
part_first (closing ∷ rs) (goes_on e run) = absurd (fault_on e)
part_first (part_head h ∷ rs) (goes_on e run) = (_, _, refl)
part_first (target_head q ∷ rs) (goes_on e run) = absurd (fault_on e)
part_first (text_run cs ∷ rs) (goes_on e run) = absurd (fault_on e)
part_first (inline x ∷ rs) (goes_on e run) = absurd (fault_on e)
part_first (ill_text ∷ rs) (goes_on e run) = absurd (fault_on e)
part_first (broken b ∷ rs) (goes_on e run) = absurd (fault_on e)

two_heads : (rs : List Record) → Runs unit_due rs → AllGood rs
    → GoodRecord (opening (opening_of rs)) × ((p : Part) × (ps : List Part) × ((reading rs).parts ≡ p ∷ ps))
unfolding reading take_record step unit_step may_end opening_of
two_heads [] (at_end e) a = absurd (false≢true e)
two_heads (opening c ∷ rs) (goes_on e run) (each_cons g a) = (g, part_first rs (subst (λ (z : Stage). Runs z rs) (sym (on_on e)) run))
two_heads (closing ∷ rs) (goes_on e run) a = absurd (fault_on e)
two_heads (part_head h ∷ rs) (goes_on e run) a = absurd (fault_on e)
two_heads (target_head q ∷ rs) (goes_on e run) a = absurd (fault_on e)
two_heads (text_run cs ∷ rs) (goes_on e run) a = absurd (fault_on e)
two_heads (inline x ∷ rs) (goes_on e run) a = absurd (fault_on e)
two_heads (ill_text ∷ rs) (goes_on e run) a = absurd (fault_on e)
two_heads (broken b ∷ rs) (goes_on e run) a = absurd (fault_on e)

pub sent : (t : List ℕ) → Bytes t → Valid t → Sent (unit t)
unfolding Valid table_refusal unit records entries
sent t b v =
    let f : table_fault t ≡ none = then_left _ _ (then_right _ _ v) in
    let g = then_right _ _ (then_right _ _ v) in
    let w = table_walked t b f in
    let (l, (p, ps, e)) = two_heads (records t) w.runs w.good in
    record
    { letter = l; first = p; others = ps; parts = e; good = unit_good t b f; rule_5 = then_left _ _ g; rules = then_right _ _ g }

-- a result is valid
pub result_valid : (room : ℕ) (v : XliffUnit) → Sent v → too_large room v ≡ false → Valid (encode v)
unfolding Valid table_refusal too_large
result_valid room v s e =
    let a : ltb room (length (encode v)) ≡ false = or_left _ _ e in
    let f = or_right (ltb room (length (encode v))) _ e in
    let b : ltb most_bytes (length (encode v)) ≡ false = or_left _ _ f in
    let g = or_right (ltb most_bytes (length (encode v))) _ f in
    let c : length (unit_records v) ≤ most_records = ltb-false most_records (length (unit_records v)) (or_left _ _ g) in
    let d : length v.parts ≤ most_parts = ltb-false most_parts (length v.parts) (or_right (ltb most_records (length (unit_records v))) _ g) in
    let (good, runs) = unit_runs v s.first s.others s.parts s.letter s.good in
    let back : unit (encode v) ≡ v = records_unit v good (omega arith) in
    then_none _ _ (applies_false 1 _ b)
    (then_none _ _ (good_unit_passes v s.first s.others s.parts s.letter s.good c d)
    (then_none _ _ (ap (λ (u : XliffUnit). fault_5 u.parts) back ∙ s.rule_5) (ap (λ (u : XliffUnit). fault_6_to_10 u.parts) back ∙ s.rules)))
