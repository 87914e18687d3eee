-- The library's `position` among words says what `index_of` says.
use Prim.Native.Nat.{ℕ, suc, ◌+◌}
use mathlib.Core.Path.{◌≡◌, refl, sym, ap, subst}
use mathlib.Core.Bool.{Bool, true, false, not, cond}
use mathlib.Core.List.{List, [], ◌∷◌}
use native.Mathlib.Omega.{arith}
use lib.ListN.{length}
use lib.Dec.{ltb}
use Rattle.std.specs.Borrow.{Bor}
use Rattle.std.specs.List.{position_or_len}
use Rattle.xliff.specs.Bytes.{equal}
use Rattle.std.specs.Prelude.{Option as RustOption, Some, None}
use borrow.Author.Tests.{ltb-true, ltb-false}
use Rattle.xml_slots.specs.Slots.{index_of}
use Rattle.xml_slots.proofs.NameLaws.{index_most}
use Rattle.xml_attributes.specs.Tags.{spelled, PlaceTold}

abbrev pub is_name : List ℕ → Bor (List ℕ) → Bool
is_name n w = equal n w.now

position_is : (n : List ℕ) (ws : List (Bor (List ℕ))) → position_or_len (is_name n) ws ≡ index_of (spelled ws) n
unfolding index_of
position_is n [] = refl
position_is n (w ∷ ws) = by (equal n w.now) (position_is n ws)
  where
    by : (b : Bool) → position_or_len (is_name n) ws ≡ index_of (spelled ws) n
        → cond (not b) (1 + position_or_len (is_name n) ws) 0 ≡ cond b 0 (suc (index_of (spelled ws) n))
    by true e = refl
    by false e = let z : 1 + position_or_len (is_name n) ws ≡ suc (index_of (spelled ws) n) = omega arith in z

length-spelled : (ws : List (Bor (List ℕ))) → length (spelled ws) ≡ length ws
length-spelled [] = refl
length-spelled (w ∷ ws) = ap suc (length-spelled ws)

pub place_told : (n : List ℕ) (ws : List (Bor (List ℕ))) (r : RustOption ℕ)
    → r ≡ cond (ltb (position_or_len (is_name n) ws) (length ws)) (Some (position_or_len (is_name n) ws)) None
    → PlaceTold r (spelled ws) n
place_told n ws r e =
    subst (λ (x : RustOption ℕ). PlaceTold x (spelled ws) n) (sym e) (by (ltb place (length ws)) refl)
  where
    place : ℕ
    place = position_or_len (is_name n) ws

    by : (b : Bool) → ltb place (length ws) ≡ b → PlaceTold (cond b (Some place) None) (spelled ws) n
    by true h =
        (position_is n ws, let k = ltb-true place (length ws) h in let size = length-spelled ws in omega arith)
    by false h =
        let k = ltb-false place (length ws) h in
        let size = length-spelled ws in
        let most = index_most (spelled ws) n in
        let same = position_is n ws in
        omega arith
