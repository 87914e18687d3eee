-- The size of a split unit.
use Prim.Native.Nat.{ℕ, suc, ◌+◌, ◌-◌, ◌*◌, ◌≤◌}
use mathlib.Core.Path.{◌≡◌, refl, sym, ap, ◌∙◌, subst}
use mathlib.Core.Bool.{true, ◌||◌}
use mathlib.Core.List.{List, [], ◌∷◌, ◌++◌}
use native.Mathlib.Omega.{arith}
use lib.ListN.{length, get_or, length-append}
use lib.Dec.{ltb}
use mir.Val.{Fits}
use mir.Syntax.{w8}
use Rattle.xliff.specs.Bytes.{gather}
use Rattle.xliff.specs.Unit.{Target, no_target, target, Part, XliffUnit}
use Rattle.xliff.specs.Encode.{head_bytes, spell, content_records, target_records, part_records, unit_records, encode}
use Rattle.xliff.specs.Parse.{unit, most_bytes, most_records}
use Rattle.xliff.specs.Check.{too_large}
use Rattle.xliff.specs.Focus.{here, focus, order_target, order_part, order_parts, with_parts}
use Rattle.xliff.specs.Split.{first_half, second_half, split_order, split_focus, split_unit}
use Rattle.xliff.specs.Good.{Each, bytes_of}
use Rattle.xliff.proofs.lists.Each.{each_apart}
use Rattle.xliff.proofs.unit.Pieces.{spell_append, bytes_append}
use Rattle.xliff.proofs.lists.Slices.{slice_long}
use Rattle.parts.specs.Parts.{GoodPart, moved, TableOf}
use Rattle.parts.proofs.OrderLaws.{ordered_length}
use Rattle.parts.proofs.TableLaws.{table_long}
use Rattle.halves_of_part.specs.Parts.{halves}
use Rattle.split_result.proofs.ResultLaws.{order_or, pieces_long}
use Rattle.split_result.proofs.UnitLaws.{result_long}
use Rattle.part_at.specs.declared.PartPlace.{PartPlace}
use Rattle.part_at.specs.Stands.{PartStands, CheckedPart}
use Rattle.split_limits.specs.Added.{PartAdded, AddedIs}
use Rattle.table.proofs.WidthLaws.{bytes_known}
use Rattle.parts.proofs.CheckLaws.{table_of}
use Rattle.part_at.proofs.CountLaws.{count, count_append, count_cons, unit_count}

-- new orders keep their number
target_same : (f : ℕ → ℕ) (g : Target) → length (target_records (order_target f g)) ≡ length (target_records g)
unfolding order_target target_records
target_same f no_target = refl
target_same f (target q xs) = refl

part_same : (f : ℕ → ℕ) (p : Part) → length (part_records (order_part f p)) ≡ length (part_records p)
unfolding order_part part_records
part_same f p =
    omega (
      arith,
      target_same f p.target,
      length-append (content_records p.source) (target_records (order_target f p.target)),
      length-append (content_records p.source) (target_records p.target),
    )

parts_same : (f : ℕ → ℕ) (ps : List Part) → count (order_parts f ps) ≡ count ps
unfolding order_parts gather
parts_same f [] = refl
parts_same f (p ∷ ps) = omega (arith, count_cons (order_part f p) (order_parts f ps), count_cons p ps, part_same f p, parts_same f ps)

parts_length : (f : ℕ → ℕ) (ps : List Part) → length (order_parts f ps) ≡ length ps
unfolding order_parts
parts_length f [] = refl
parts_length f (p ∷ ps) = ap suc (parts_length f ps)

bytes_cons : (p : Part) (ps : List Part) → length (bytes_of (p ∷ ps)) ≡ length (spell (part_records p)) + length (bytes_of ps)
unfolding gather
bytes_cons p ps = ap length (spell_append (part_records p) (gather part_records ps)) ∙ length-append (spell (part_records p)) (bytes_of ps)

module _ (u : XliffUnit) (n k j id : ℕ) (b : List Part) (p : Part) (a : List Part) (e : focus u.parts n ≡ here b p a) (all : u.parts ≡ b ++ (p ∷ a)) where
  abbrev f : ℕ → ℕ
  f = split_order p.target

  abbrev result : List Part
  result = order_parts f b ++ (first_half k j p ∷ second_half k j id p ∷ order_parts f a)

  result_parts : (split_unit u n k j id).parts ≡ result
  unfolding split_unit with_parts split_focus
  result_parts = ap (split_focus k j id u.parts) e

  parts_grown : length (split_unit u n k j id).parts ≡ length u.parts + 1
  parts_grown =
      let z : length (split_unit u n k j id).parts ≡ length result = ap (λ (l : List Part). length l) result_parts in
      let y : length u.parts ≡ length (b ++ (p ∷ a)) = ap (λ (l : List Part). length l) all in
      omega (arith, z, y, length-append (order_parts f b) (first_half k j p ∷ second_half k j id p ∷ order_parts f a), length-append b (p ∷ a), parts_length f b, parts_length f a)

  module _ (m : ℕ) (h : PartAdded k j p m) where
    records_grown : length (unit_records (split_unit u n k j id)) ≡ length (unit_records u) + 1 + m
    records_grown =
        let z : count (split_unit u n k j id).parts ≡ count result = ap count result_parts in
        let y : count u.parts ≡ count (b ++ (p ∷ a)) = ap count all in
        let x : PartAdded k j p m = h in
        let w : length (part_records (first_half k j p)) + length (part_records (second_half k j id p)) ≡ 1 + length (part_records p) + m = h.records id in
        omega (
          arith,
          unit_count (split_unit u n k j id),
          unit_count u,
          z,
          y,
          w,
          count_append (order_parts f b) (first_half k j p ∷ second_half k j id p ∷ order_parts f a),
          count_cons (first_half k j p) (second_half k j id p ∷ order_parts f a),
          count_cons (second_half k j id p) (order_parts f a),
          count_append b (p ∷ a),
          count_cons p a,
          parts_same f b,
          parts_same f a,
        )

    module _ (t : List ℕ) (o : TableOf t u) where
      bytes_grown : length (encode (split_unit u n k j id)) ≡ length t + length (head_bytes p.head) + 4 * m
      bytes_grown =
          let g : Each GoodPart (b ++ (p ∷ a)) = subst (Each GoodPart) all o.1 in
          let (gb, gp, ga) = each_apart b p a g in
          let q : ℕ = order_or p.target in
          let z : length (bytes_of u.parts) ≡ length (bytes_of (b ++ (p ∷ a))) = ap (λ (l : List Part). length (bytes_of l)) all in
          let w : length (halves k j id p) ≡ length (spell (part_records p)) + length (head_bytes p.head) + 4 * m = h.bytes id in
          omega (
            arith,
            z,
            w,
            table_long t u o,
            ap length (bytes_append b (p ∷ a)),
            length-append (bytes_of b) (bytes_of (p ∷ a)),
            bytes_cons p a,
            result_long u n k j id b p a e,
            pieces_long k j id b p a gb ga q refl,
            ordered_length (moved true q) (bytes_of b) b (refl, gb),
            ordered_length (moved true q) (bytes_of a) a (refl, ga),
          )

head_long : (t : List ℕ) (place : PartPlace) (b : List Part) (p : Part) (a : List Part) → PartStands t b p a place → place.source - place.head ≡ length (head_bytes p.head)
head_long t place b p a s = sym (slice_long t place.head place.source s.head.ordered s.head.within) ∙ ap length s.head.is

-- the test
too_large_is : (room bytes records parts : ℕ) (u : XliffUnit) → bytes ≡ length (encode u) → records ≡ length (unit_records u) → parts ≡ length u.parts
    → ltb room bytes || (ltb most_bytes bytes || (ltb most_records records || ltb 64 parts)) ≡ too_large room u
unfolding too_large
too_large_is room bytes records parts u x y z = rw (x, y, z)

module _ (t : List ℕ) (h : (i : ℕ) → Fits w8 (get_or t i 0)) (n : ℕ) (place : PartPlace) (pl : CheckedPart t n place) (k j m : ℕ) (ad : AddedIs t place k j m) where
  pub few_added : m ≤ 3
  few_added = let (v, st) = pl in let (b, p, a, e, s) = st in (ad b p a s).few

  pub too_large_at : (id room records parts : ℕ) → records ≡ length (unit_records (unit t)) → parts ≡ length (unit t).parts
      → ltb room (length t + (place.source - place.head) + 4 * m) || (ltb most_bytes (length t + (place.source - place.head) + 4 * m) || (ltb most_records (records + 1 + m) || ltb 64 (parts + 1)))
      ≡ too_large room (split_unit (unit t) n k j id)
  too_large_at id room records parts x y =
      let (v, st) = pl in
      let (b, p, a, e, s) = st in
      too_large_is room (length t + (place.source - place.head) + 4 * m) (records + 1 + m) (parts + 1) (split_unit (unit t) n k j id)
      (ap (λ (z : ℕ). length t + z + 4 * m) (head_long t place b p a s) ∙ sym (bytes_grown (unit t) n k j id b p a e s.all m (ad b p a s) t (table_of t (bytes_known t h) v)))
      (ap (λ (z : ℕ). z + 1 + m) x ∙ sym (records_grown (unit t) n k j id b p a e s.all m (ad b p a s)))
      (ap (λ (z : ℕ). z + 1) y ∙ sym (parts_grown (unit t) n k j id b p a e s.all))
