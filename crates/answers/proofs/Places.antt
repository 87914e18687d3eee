-- The least place at fault, found one record after the other.
use Prim.Native.Nat.{ℕ, zero, suc, ◌+◌, ◌≤◌, ◌<◌}
use mathlib.Core.Path.{◌≡◌, refl, sym, ap, ap₂, ◌∙◌}
use mathlib.Core.Bool.{Bool, true, false, cond}
use mathlib.Core.List.{List, [], ◌∷◌, ◌++◌}
use mathlib.Core.Option.{some}
use native.Mathlib.Omega.{arith}
use lib.ListN.{length, drop, get_or, drop_of_length-le}
use lib.Dec.{ltb}
use Rattle.xliff.specs.Item as spec
use Rattle.xliff.specs.Item.{Content}
use Rattle.xliff.specs.Answer.{Refusal, refusal}
use Rattle.xliff.specs.Sequences.{blamed, items, first_of, least}
use Rattle.xliff.proofs.lists.Tests.{none_some}
use Rattle.places.specs.Markers.{item_at, placed_at}
use Rattle.answers.specs.Answers.{refusal_at, lower, toward}
use Rattle.std.specs.Prelude.{Option, None, Some}

-- one place further
pub toward_if : (n : ℕ) (b : Bool) (best : Option ℕ) (at : ℕ) (rest : List ℕ) → toward n best (cond b (at ∷ rest) rest) ≡ toward n (cond b (lower best at) best) rest
unfolding toward first_of least
toward_if n true None at rest = refl
toward_if n true (Some a) at rest = refl
toward_if n false best at rest = refl

blamed_first : (bad : Content → spec.Item → Content → Bool) (t markers : List ℕ) (before : Content) (i : ℕ) → i < length markers
    → blamed bad before (placed_at t (drop i markers))
    ≡ cond (bad before (item_at t (get_or markers i 0)) (items (placed_at t (drop (suc i) markers))))
    (get_or markers i 0 ∷ blamed bad (item_at t (get_or markers i 0) ∷ before) (placed_at t (drop (suc i) markers)))
    (blamed bad (item_at t (get_or markers i 0) ∷ before) (placed_at t (drop (suc i) markers)))
unfolding blamed placed_at
blamed_first bad t [] before i h = absurd (omega arith)
blamed_first bad t (o ∷ markers) before zero h = refl
blamed_first bad t (o ∷ markers) before (suc i) h = blamed_first bad t markers before i (omega arith)

module _ (bad : Content → spec.Item → Content → Bool) (t markers : List ℕ) (before : Content) (i : ℕ) (best : Option ℕ) where
  pub blamed_on : (n : ℕ) (b : Bool) → i < length markers → b ≡ bad before (item_at t (get_or markers i 0)) (items (placed_at t (drop (suc i) markers)))
      → toward n best (blamed bad before (placed_at t (drop i markers)))
      ≡ toward n (cond b (lower best (get_or markers i 0)) best) (blamed bad (item_at t (get_or markers i 0) ∷ before) (placed_at t (drop (i + 1) markers)))
  blamed_on n b h e =
      ap (toward n best) (blamed_first bad t markers before i h)
      ∙ toward_if n (bad before (item_at t (get_or markers i 0)) (items (placed_at t (drop (suc i) markers)))) best (get_or markers i 0)
      (blamed bad (item_at t (get_or markers i 0) ∷ before) (placed_at t (drop (suc i) markers)))
      ∙ ap₂ (λ (c : Bool) (k : ℕ). toward n (cond c (lower best (get_or markers i 0)) best)
      (blamed bad (item_at t (get_or markers i 0) ∷ before) (placed_at t (drop k markers))))
      (sym e) (let z : suc i ≡ i + 1 = omega arith in z)

  pub blamed_end : (n : ℕ) → length markers ≤ i → toward n best (blamed bad before (placed_at t (drop i markers))) ≡ refusal_at n best
  unfolding toward blamed placed_at first_of least
  blamed_end n h = rw (drop_of_length-le markers h) (by best)
    where
      by : (p : Option ℕ) → toward n p [] ≡ refusal_at n p
      by None = refl
      by (Some a) = refl

pub toward_none : (n : ℕ) (bs : List ℕ) → first_of n bs ≡ toward n None bs
unfolding toward
toward_none n bs = refl

least_append : (a : ℕ) (xs ys : List ℕ) → least a (xs ++ ys) ≡ least (least a xs) ys
unfolding least
least_append a [] ys = refl
least_append a (x ∷ xs) ys = least_append (cond (ltb x a) x a) xs ys

place_of : (r s : Refusal) → some r ≡ some s → r.place ≡ s.place
place_of r s e = cc

-- the least of two lists of places
pub first_two : (n : ℕ) (p : Option ℕ) (xs ys : List ℕ) → refusal_at n p ≡ first_of n xs → first_of n (xs ++ ys) ≡ toward n p ys
unfolding first_of toward
first_two n None [] ys e = refl
first_two n None (x ∷ xs) ys e = absurd (none_some e)
first_two n (Some a) [] ys e = absurd (none_some (sym e))
first_two n (Some a) (x ∷ xs) ys e =
    ap (refusal n) (least_append x xs ys ∙ ap (λ (k : ℕ). least k ys) (sym (place_of _ _ e)))
