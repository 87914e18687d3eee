-- The table with two parts joined, in pieces as they are written.
use Prim.Native.Nat.{ℕ, ◌-◌}
use mathlib.Core.Path.{◌≡◌, refl, sym, ap, ap₂, ◌∙◌, fun_ext}
use mathlib.Core.Bool.{false}
use mathlib.Core.List.{List, [], ◌∷◌, ◌++◌, append_assoc}
use lib.ListN.{length, take}
use Rattle.xliff.specs.Bytes.{gather}
use Rattle.xliff.specs.Unit.{Target, no_target, target, Part, XliffUnit}
use Rattle.xliff.specs.Encode.{part_records, encode}
use Rattle.xliff.specs.Parse.{unit}
use Rattle.xliff.specs.Focus.{here, focus, order_target, order_part, order_parts, with_parts}
use Rattle.xliff.specs.Join.{lower_above, join_targets, join_parts, join_order, join_focus, join_unit}
use Rattle.xliff.proofs.lists.Tests.{map-append}
use Rattle.xliff.specs.Good.{bytes_of, opened, closed}
use Rattle.xliff.proofs.unit.Pieces.{spell_append, bytes_append, table_pieces}
use Rattle.xliff.proofs.lists.Slices.{tail_is}
use Rattle.writer.specs.Pieces.{rest}
use Rattle.writer.proofs.RunLaws.{Pieces}
use Rattle.parts.specs.Parts.{moved, ordered, TableOf}
use Rattle.parts.proofs.TableLaws.{table_opened, table_closed}
use Rattle.part_at.specs.declared.PartPlace.{PartPlace}
use Rattle.part_at.specs.Stands.{TargetStands}
use Rattle.joined_part.specs.Joined.{joined_part, part_bytes, TwoParts}
use Rattle.join_orders.specs.Falls.{FallsAbove}
use Rattle.join_result.specs.Result.{Beside, joined_unit, order_of_two, joined_parts}

-- the order of the joined target is that of the first target there is, changed like the others
module _ (f : ℕ → ℕ) (t : List ℕ) (x y : PartPlace) where
  target_same : (g h : Target) → TargetStands t x g → TargetStands t y h → order_target f (join_targets g h) ≡ order_target (λ r. f (order_of_two x y)) (join_targets g h)
  unfolding order_target join_targets
  target_same no_target no_target a b = refl
  target_same no_target (target r ys) a b = rw (a.0, b.0)
  target_same (target q xs) no_target a b = rw a.0
  target_same (target q xs) (target r ys) a b = rw a.0

  part_same : (p q : Part) → TargetStands t x p.target → TargetStands t y q.target → order_part f (join_parts p q) ≡ joined_part (f (order_of_two x y)) p q
  unfolding order_part join_parts joined_part
  part_same p q a b = ap (λ (g : Target). record { head = (join_parts p q).head; source = (join_parts p q).source; target = g }) (target_same p.target q.target a b)

-- two parts side by side are two parts
abbrev pub two_parts : (t : List ℕ) (x y : PartPlace) (b : List Part) (p q : Part) (a : List Part) → Beside t x y b p q a → TwoParts t x y
two_parts t x y b p q a s =
    record { before = b; first = p; after = q ∷ a; there = s.first; before' = b ++ (p ∷ []); second = q; after' = a; there' = s.second }

-- the parts as they are written
abbrev pub parts_pieces : (o k : ℕ) (b : List Part) (p q : Part) (a : List Part) → Pieces (joined_parts o k b p q a)
parts_pieces o k b p q a =
    record { first = ordered (moved false o) b; second = part_bytes k p q; third = ordered (moved false o) a; all = refl }

module _ (t : List ℕ) (x y : PartPlace) (b : List Part) (p q : Part) (a : List Part) (s : Beside t x y b p q a) (o : ℕ) (falls : FallsAbove t x y o)
    (k : ℕ) (order : k ≡ lower_above o (order_of_two x y)) where
  changed : join_order (unit t).parts p.target q.target ≡ lower_above o
  changed = fun_ext (λ r. sym (falls b p (q ∷ a) (b ++ (p ∷ [])) q a s.first s.second r))

  in_order : join_focus (unit t).parts (here b p (q ∷ a)) ≡ order_parts (lower_above o) b ++ (joined_part k p q ∷ order_parts (lower_above o) a)
  unfolding join_focus order_parts
  in_order =
      ap (λ (f : ℕ → ℕ). order_parts f (b ++ (join_parts p q ∷ a))) changed
      ∙ map-append (order_part (lower_above o)) b (join_parts p q ∷ a)
      ∙ ap (λ (r : Part). order_parts (lower_above o) b ++ (r ∷ order_parts (lower_above o) a))
      (part_same (lower_above o) t x y p q s.first.target s.second.target ∙ ap (λ (n : ℕ). joined_part n p q) (sym order))

  parts_are : bytes_of (join_focus (unit t).parts (here b p (q ∷ a))) ≡ joined_parts o k b p q a
  unfolding gather
  parts_are =
      ap bytes_of in_order
      ∙ bytes_append (order_parts (lower_above o) b) (joined_part k p q ∷ order_parts (lower_above o) a)
      ∙ ap (λ (l : List ℕ). ordered (lower_above o) b ++ l) (spell_append (part_records (joined_part k p q)) (gather part_records (order_parts (lower_above o) a)))
      ∙ sym (append_assoc (ordered (lower_above o) b) (part_bytes k p q) (ordered (lower_above o) a))

  result_pieces : encode (joined_unit (unit t) b p q a) ≡ (opened (unit t) ++ joined_parts o k b p q a) ++ closed
  unfolding joined_unit with_parts
  result_pieces = table_pieces (joined_unit (unit t) b p q a) ∙ ap (λ (l : List ℕ). (opened (unit t) ++ l) ++ closed) parts_are

  -- and as they are written
  module _ (h : TableOf t (unit t)) where
    pub result_is : encode (joined_unit (unit t) b p q a) ≡ (take 3 t ++ joined_parts o k b p q a) ++ rest (length t - 2) t
    result_is =
        result_pieces
        ∙ ap₂ (λ (u w : List ℕ). (u ++ joined_parts o k b p q a) ++ w) (sym (table_opened t (unit t) h))
        (sym (tail_is (length t - 2) t ∙ table_closed t (unit t) h (length t - 2) refl))

    abbrev pub unit_pieces : Pieces (encode (joined_unit (unit t) b p q a))
    unit_pieces = record { first = take 3 t; second = joined_parts o k b p q a; third = rest (length t - 2) t; all = result_is }

-- the result by the number of the first part
pub join_unit_is : (u : XliffUnit) (n : ℕ) (b : List Part) (p q : Part) (a : List Part) → focus u.parts n ≡ here b p (q ∷ a) → join_unit u n ≡ joined_unit u b p q a
unfolding join_unit joined_unit
join_unit_is u n b p q a e = ap (λ f. with_parts u (join_focus u.parts f)) e
