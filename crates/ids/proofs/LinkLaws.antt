-- The ids met, linked by their groups: a clash is with one of the same group; one more id.
use Prim.Native.Nat.{ℕ, suc, ◌+◌, ◌/◌, ◌%◌, ◌<◌}
use mathlib.Core.Path.{◌≡◌, refl, sym, ap, ◌∙◌, subst}
use mathlib.Core.List.{List, [], ◌∷◌, ◌++◌}
use native.Mathlib.Omega.{arith}
use borrow.Author.Tests.{ne_eqb, eqb-false}
use lib.ListN.{length, get_or, set, take, length-set, replicate, get_or-replicate}
use lib.Seq.{length-take-le, take-suc-set}
use Rattle.id_links.specs.Nearest.{previous}
use Rattle.id_links.specs.Links.{group, Linked, Headed}
use Rattle.id_links.proofs.Chains.{linked_more, headed_more}
use Rattle.id_links.proofs.Search.{Searched, Grouped, search_start}
use Rattle.ids.specs.Keys.{clash_test}
use Rattle.ids.specs.KeyLinks.{Links}
use Rattle.xliff.specs.Parse.{most_records}

pub clash_grouped : (k g : ℕ) (keys : List ℕ) → g ≡ group k → Grouped (clash_test k) keys g
clash_grouped k g keys e j h =
    let n : k / 64 ≡ get_or keys j 0 / 64 → ⊥ = λ z. eqb-false (group (get_or keys j 0)) g h (ap (λ (x : ℕ). x % 256) (sym z) ∙ sym e) in
    rw (ne_eqb (k / 64) (get_or keys j 0 / 64) n)

-- the search begins at the last key of the group
pub clash_start : (k : ℕ) (keys links heads : List ℕ) → Links keys links heads → (g j : ℕ) → g ≡ group k → j ≡ get_or heads g 0
    → Searched (clash_test k) keys (group k) j
clash_start k keys links heads l g j e f =
    subst (Searched (clash_test k) keys (group k)) (sym (f ∙ ap (λ (x : ℕ). get_or heads x 0) e))
    (search_start (clash_test k) keys (group k) heads (clash_grouped k (group k) keys refl) l.3 (omega arith))

pub links_none : Links [] (replicate most_records 0) (replicate 256 0)
unfolding previous
links_none = (refl, refl, (λ k l. absurd (omega (arith, l))), λ g l. get_or-replicate 256 g 0 0 l)

pub links_more : (keys links heads : List ℕ) (n k : ℕ) → n < length keys → length keys ≡ most_records → Links (take n keys) links heads
    → Links (take (n + 1) (set keys n k)) (set links n (get_or heads (group k) 0)) (set heads (group k) (n + 1))
links_more keys links heads n k h all old = (
  length-set links n (get_or heads (group k) 0) ∙ old.0,
  length-set heads (group k) (n + 1) ∙ old.1,
  subst (λ (some_keys : List ℕ). Linked some_keys (set links n (get_or heads (group k) 0))) more
      (subst (Linked (take n keys ++ (k ∷ []))) (ap (λ (j : ℕ). set links j (get_or heads (group k) 0)) many)
      (linked_more (take n keys) k links heads (omega (arith, h, all, many, old.0)) old.2 old.3 (omega arith))),
  subst (λ (some_keys : List ℕ). Headed some_keys (set heads (group k) (n + 1))) more
      (subst (Headed (take n keys ++ (k ∷ []))) (ap (λ (j : ℕ). set heads (group k) (j + 1)) many) (headed_more (take n keys) k heads old.1 old.3)),
)
  where
    many : length (take n keys) ≡ n
    many = length-take-le n keys (omega (arith, h))

    more : take n keys ++ (k ∷ []) ≡ take (n + 1) (set keys n k)
    more = sym (take-suc-set keys n k h) ∙ ap (λ (j : ℕ). take j (set keys n k)) (let z : suc n ≡ n + 1 = omega arith in z)
