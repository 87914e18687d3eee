-- The joined unit of a valid table: its parts are good, and it is within the limits.
use Prim.Native.Nat.{ℕ}
use mathlib.Core.Path.{◌≡◌, ap, subst}
use mathlib.Core.List.{List, ◌∷◌, ◌++◌}
use mathlib.Core.Option.{none}
use native.Mathlib.Omega.{arith}
use lib.ListN.{length, get_or}
use mir.Val.{Fits}
use mir.Syntax.{w8}
use Rattle.xliff.specs.Unit.{Part}
use Rattle.xliff.specs.Encode.{encode}
use Rattle.xliff.specs.Parse.{unit}
use Rattle.xliff.specs.Check.{Valid, table_refusal}
use Rattle.xliff.specs.Focus.{here, order_parts, with_parts}
use Rattle.xliff.specs.Join.{join_parts, join_order, join_focus}
use Rattle.xliff.specs.Good.{each_cons, GoodPart, GoodParts}
use Rattle.xliff.proofs.lists.Each.{each_append, each_apart}
use Rattle.xliff.proofs.unit.Valid.{heads_unit}
use Rattle.xliff.proofs.unit.Result.{Sent, sent, small_table}
use Rattle.xliff.proofs.operations.SetValid.{some_part}
use Rattle.xliff.proofs.operations.JoinValid.{part_good, orders_good}
use Rattle.table.proofs.WidthLaws.{bytes_known}
use Rattle.part_at.proofs.CheckedLaws.{table_passes}
use Rattle.result_rules.proofs.GoodLaws.{GoodUnit}
use Rattle.join_result.specs.Result.{joined_unit}
use Rattle.join_result.proofs.SizeLaws.{fewer_bytes, fewer_records, fewer_parts}

parts_good : (p q : Part) (a : List Part) → GoodPart p → GoodParts (q ∷ a) → GoodParts (join_parts p q ∷ a)
parts_good p q a g (each_cons k h) = each_cons (part_good p q g k) h

module _ (t : List ℕ) (h : (i : ℕ) → Fits w8 (get_or t i 0)) (v : table_refusal t ≡ none) (b : List Part) (p q : Part) (a : List Part) (e : (unit t).parts ≡ b ++ (p ∷ q ∷ a)) where
  abbrev f : ℕ → ℕ
  f = join_order (unit t).parts p.target q.target

  before : Sent (unit t)
  unfolding Valid
  before = sent t (bytes_known t h) v

  listed : (x : Part) × (xs : List Part) × (join_focus (unit t).parts (here b p (q ∷ a)) ≡ x ∷ xs)
  unfolding join_focus order_parts
  listed = let (x, xs, shown) = some_part b (join_parts p q) a in (_, _, ap (order_parts f) shown)

  good_parts : GoodParts (join_focus (unit t).parts (here b p (q ∷ a)))
  unfolding join_focus
  good_parts =
      let (gb, gp, gr) = each_apart b p (q ∷ a) (subst GoodParts e before.good) in
      orders_good f (b ++ (join_parts p q ∷ a)) (each_append b (join_parts p q ∷ a) gb (parts_good p q a gp gr))

  pub joined_good : GoodUnit (joined_unit (unit t) b p q a)
  unfolding joined_unit with_parts encode
  joined_good =
      let k = table_passes t h v in
      let (x, xs, shown) = listed in
      let same : length (encode (unit t)) ≡ length t = ap length k.bytes in
      record {
        letter = before.letter;
        first = x;
        others = xs;
        parts = shown;
        good = good_parts;
        size = omega (arith, fewer_bytes (unit t) b p q a e, same, small_table t v);
        few = omega (arith, fewer_records (unit t) b p q a e, k.few);
        few_parts = omega (arith, fewer_parts (unit t) b p q a e, k.few_parts, heads_unit (unit t));
      }
