-- The bytes of split parts, in three pieces.
use Prim.Native.Nat.{ℕ, ◌+◌}
use mathlib.Core.Path.{◌≡◌, refl, sym, ap, ap₂, ◌∙◌}
use mathlib.Core.Bool.{true}
use mathlib.Core.List.{List, [], ◌∷◌, ◌++◌, append_assoc}
use native.Mathlib.Omega.{arith}
use lib.ListN.{length, length-append}
use borrow.Author.Tests.{le-ltb}
use Rattle.xliff.specs.Bytes.{gather}
use Rattle.xliff.specs.Unit.{Target, no_target, target, Part}
use Rattle.xliff.specs.Encode.{Record, part_records, spell}
use Rattle.xliff.specs.Focus.{order_target, order_part, order_parts}
use Rattle.xliff.specs.Split.{raise_above, split_order, first_half, second_half}
use Rattle.xliff.proofs.lists.Tests.{gather_append}
use Rattle.xliff.specs.Good.{Each, each_nil, each_cons}
use Rattle.xliff.proofs.unit.Pieces.{spell_append}
use Rattle.parts.specs.Parts.{GoodTarget, GoodPart, moved, ordered}
use Rattle.halves_of_part.specs.Parts.{halves}
use Rattle.writer.proofs.RunLaws.{Pieces}
use Rattle.part_at.specs.declared.PartPlace.{PartPlace}
use Rattle.part_at.specs.Stands.{TargetStands}
use Rattle.split_result.specs.Result.{rises_above, split_parts}

-- the order of a target, 65535 without one
abbrev pub order_or : Target → ℕ
order_or no_target = 65535
order_or (target q xs) = q

pub rises_is : (t : List ℕ) (x : PartPlace) (g : Target) → TargetStands t x g → rises_above x ≡ order_or g
rises_is t x no_target e = rw e.0
rises_is t x (target q xs) e = rw e.0

-- without target no order is above 65535
target_same : (g h : Target) → GoodTarget h → order_target (split_order g) h ≡ order_target (moved true (order_or g)) h
unfolding order_target split_order raise_above
target_same g no_target k = refl
target_same no_target (target q xs) (k, l) = rw (le-ltb 65535 q (omega arith))
target_same (target q xs) (target r ys) k = refl

part_same : (g : Target) (p : Part) → GoodPart p → order_part (split_order g) p ≡ order_part (moved true (order_or g)) p
unfolding order_part
part_same g p h = ap (λ (x : Target). record { head = p.head; source = p.source; target = x }) (target_same g p.target h.1)

parts_same : (g : Target) (ps : List Part) → Each GoodPart ps → order_parts (split_order g) ps ≡ order_parts (moved true (order_or g)) ps
unfolding order_parts
parts_same g [] each_nil = refl
parts_same g (p ∷ ps) (each_cons h k) = ap₂ ◌∷◌ (part_same g p h) (parts_same g ps k)

module _ (k j id : ℕ) (b : List Part) (p : Part) (a : List Part) (hb : Each GoodPart b) (ha : Each GoodPart a) where
  in_pieces : split_parts k j id b p a ≡ (ordered (moved true (order_or p.target)) b ++ halves k j id p) ++ ordered (moved true (order_or p.target)) a
  unfolding gather
  in_pieces =
      let f : ℕ → ℕ = moved true (order_or p.target) in
      let x : List Record = part_records (first_half k j p) in
      let y : List Record = part_records (second_half k j id p) in
      let e : gather part_records (order_parts (split_order p.target) b ++ (first_half k j p ∷ second_half k j id p ∷ order_parts (split_order p.target) a))
      ≡ gather part_records (order_parts f b) ++ (x ++ (y ++ gather part_records (order_parts f a)))
      = ap₂ (λ (u v : List Part). gather part_records (u ++ (first_half k j p ∷ second_half k j id p ∷ v))) (parts_same p.target b hb) (parts_same p.target a ha)
      ∙ gather_append part_records (order_parts f b) (first_half k j p ∷ second_half k j id p ∷ order_parts f a) in
      ap spell e ∙ spell_append (gather part_records (order_parts f b)) (x ++ (y ++ gather part_records (order_parts f a)))
      ∙ ap (λ (l : List ℕ). ordered f b ++ l)
      (ap spell (sym (append_assoc x y (gather part_records (order_parts f a)))) ∙ spell_append (x ++ y) (gather part_records (order_parts f a)))
      ∙ sym (append_assoc (ordered f b) (halves k j id p) (ordered f a))

  module _ (q : ℕ) (e : q ≡ order_or p.target) where
    pub pieces : split_parts k j id b p a ≡ (ordered (moved true q) b ++ halves k j id p) ++ ordered (moved true q) a
    pieces = in_pieces ∙ ap (λ (n : ℕ). (ordered (moved true n) b ++ halves k j id p) ++ ordered (moved true n) a) (sym e)

    abbrev pub split_pieces : Pieces (split_parts k j id b p a)
    split_pieces = record { first = ordered (moved true q) b; second = halves k j id p; third = ordered (moved true q) a; all = pieces }

    pub pieces_long : length (split_parts k j id b p a) ≡ length (ordered (moved true q) b) + length (halves k j id p) + length (ordered (moved true q) a)
    pieces_long =
        ap length pieces ∙ length-append (ordered (moved true q) b ++ halves k j id p) (ordered (moved true q) a)
        ∙ ap (λ (n : ℕ). n + length (ordered (moved true q) a)) (length-append (ordered (moved true q) b) (halves k j id p))
