-- The unit without the target: its parts are good, and it is within the limits.
use Prim.Native.Nat.{ℕ, ◌≤◌}
use mathlib.Core.Path.{◌≡◌, ap, subst}
use mathlib.Core.List.{List, [], ◌∷◌, ◌++◌}
use mathlib.Core.Option.{none}
use native.Mathlib.Omega.{arith}
use lib.ListN.{length, get_or, length-append}
use mir.Val.{Fits}
use mir.Syntax.{w8}
use Rattle.xliff.specs.Unit.{Part, XliffUnit}
use Rattle.xliff.specs.Encode.{content_records, target_records, part_records, unit_records}
use Rattle.xliff.specs.Parse.{unit}
use Rattle.xliff.specs.Check.{Valid, table_refusal}
use Rattle.xliff.specs.Focus.{with_parts}
use Rattle.xliff.specs.RemoveTarget.{remove_focus}
use Rattle.xliff.specs.Good.{each_cons, GoodParts}
use Rattle.xliff.proofs.lists.Each.{each_append, each_apart}
use Rattle.xliff.proofs.unit.Valid.{heads_unit}
use Rattle.xliff.proofs.operations.RemoveValid.{initial_good}
use Rattle.xliff.proofs.unit.Result.{Sent, sent, small_table}
use Rattle.xliff.proofs.operations.SetValid.{some_part}
use Rattle.part_at.specs.declared.PartPlace.{PartPlace}
use Rattle.part_at.specs.Stands.{PartStands}
use Rattle.table.proofs.WidthLaws.{bytes_known}
use Rattle.part_at.proofs.CheckedLaws.{table_passes}
use Rattle.result_rules.proofs.GoodLaws.{GoodUnit}
use Rattle.removed_target.specs.Removed.{removed_unit}
use Rattle.removed_target.proofs.RemovedLaws.{bared, in_order, removed_long}
use Rattle.part_at.proofs.CountLaws.{count, count_append, count_cons, unit_count}

bared_fewer : (p : Part) → length (part_records (bared p)) ≤ length (part_records p)
unfolding part_records target_records
bared_fewer p = omega (arith, length-append (content_records p.source) [], length-append (content_records p.source) (target_records p.target))

module _ (u : XliffUnit) (b : List Part) (p : Part) (a : List Part) (e : u.parts ≡ b ++ (p ∷ a)) where
  fewer_records : length (unit_records (removed_unit u b p a)) ≤ length (unit_records u)
  unfolding removed_unit with_parts remove_focus
  fewer_records =
      let z : count u.parts ≡ count (b ++ (p ∷ a)) = ap count e in
      omega (arith, z, unit_count (removed_unit u b p a), unit_count u, count_append b (bared p ∷ a), count_cons (bared p) a, count_append b (p ∷ a), count_cons p a, bared_fewer p)

  same_parts : length (removed_unit u b p a).parts ≡ length u.parts
  unfolding removed_unit with_parts remove_focus
  same_parts =
      let z : length u.parts ≡ length (b ++ (p ∷ a)) = ap (λ (l : List Part). length l) e in
      omega (arith, z, length-append b (bared p ∷ a), length-append b (p ∷ a))

module _ (t : List ℕ) (h : (i : ℕ) → Fits w8 (get_or t i 0)) (v : table_refusal t ≡ none) (b : List Part) (p : Part) (a : List Part) (place : PartPlace) (s : PartStands t b p a place) where
  before : Sent (unit t)
  unfolding Valid
  before = sent t (bytes_known t h) v

  good_parts : GoodParts (b ++ (bared p ∷ a))
  good_parts =
      let (gb, gp, ga) = each_apart b p a (subst GoodParts s.all before.good) in
      each_append b (bared p ∷ a) gb (each_cons (record { head = initial_good p.head gp.head; source = gp.source; target = tt }) ga)

  pub removed_good : GoodUnit (removed_unit (unit t) b p a)
  unfolding removed_unit with_parts remove_focus
  removed_good =
      let k = table_passes t h v in
      let o = in_order t b p a place s in
      let (x, xs, shown) = some_part b (bared p) a in
      record {
        letter = before.letter;
        first = x;
        others = xs;
        parts = shown;
        good = good_parts;
        size = omega (arith, removed_long t b p a place s, small_table t v);
        few = omega (arith, fewer_records (unit t) b p a s.all, k.few);
        few_parts = omega (arith, same_parts (unit t) b p a s.all, k.few_parts, heads_unit (unit t));
      }
