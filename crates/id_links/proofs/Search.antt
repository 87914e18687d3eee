-- A search along the links of a group for one that passes a test: what it knows on its way.
use Prim.Native.Nat.{ℕ, suc, ◌-◌, ◌≤◌, ◌<◌}
use mathlib.Core.Path.{◌≡◌, sym, ap, ◌∙◌, subst}
use mathlib.Core.Bool.{Bool, true, false}
use mathlib.Core.List.{List}
use native.Mathlib.Omega.{arith}
use lib.ListN.{length, get_or, take}
use lib.Seq.{take-length}
use Rattle.xliff.specs.Bytes.{any}
use Rattle.id_links.specs.Nearest.{previous}
use Rattle.id_links.specs.Links.{in_group, Linked, Headed}
use Rattle.id_links.proofs.Scans.{previous_high, previous_passes}
use Rattle.id_links.proofs.Chains.{any_hit, any_miss, any_past, link_is}

-- only a key of the group passes; those behind the first j do not; the last of the first j is of the group
module _ (p : ℕ → Bool) (keys : List ℕ) (g : ℕ) where
  abbrev pub Searched : ℕ → Type 0
  Searched j = (j ≤ length keys) × (any p keys ≡ any p (take j keys)) × (0 < j → in_group keys g (j - 1) ≡ true)

  abbrev pub Grouped : Type 0
  Grouped = (k : ℕ) → in_group keys g k ≡ false → p (get_or keys k 0) ≡ false

  pub search_start : (heads : List ℕ) → Grouped → Headed keys heads → g < 256 → Searched (get_or heads g 0)
  search_start heads only last small =
      subst Searched (sym (last g small)) (
        previous_high (in_group keys g) (length keys),
        ap (any p) (sym (take-length keys)) ∙ any_past p (in_group keys g) keys (λ k l. only k) (length keys) (omega arith),
        previous_passes (in_group keys g) (length keys),
      )

  pub search_hit : (j : ℕ) → Searched j → 0 < j → p (get_or keys (j - 1) 0) ≡ true → any p keys ≡ true
  search_hit j s h e = s.1 ∙ any_hit p keys j h s.0 e

  pub search_end : (j : ℕ) → Searched j → j ≤ 0 → any p keys ≡ false
  unfolding any
  search_end j s h = s.1 ∙ ap (λ (i : ℕ). any p (take i keys)) (let z : j ≡ 0 = omega (arith, h) in z)

  module _ (links : List ℕ) (j : ℕ) (only : Grouped) (f : Linked keys links) (s : Searched j) (h : 0 < j) where
    link_at : get_or links (j - 1) 0 ≡ previous (in_group keys g) (j - 1)
    link_at = link_is keys links g j f h s.0 (s.2 h)

    pub search_less : get_or links (j - 1) 0 < j
    search_less = omega (arith, h, link_at, previous_high (in_group keys g) (j - 1))

    pub search_on : p (get_or keys (j - 1) 0) ≡ false → Searched (get_or links (j - 1) 0)
    search_on e =
        subst Searched (sym link_at) (
          omega (arith, h, s.0, previous_high (in_group keys g) (j - 1)),
          s.1 ∙ ap (λ (i : ℕ). any p (take i keys)) (let z : j ≡ suc (j - 1) = omega (arith, h) in z)
              ∙ any_miss p keys (j - 1) (omega (arith, h, s.0)) e
              ∙ any_past p (in_group keys g) keys (λ k l. only k) (j - 1) (omega (arith, s.0)),
          previous_passes (in_group keys g) (j - 1),
        )
