-- A rewrite within a grant: the side, the pair or annotation of the id, its halves.
use Prim.Native.Nat.{ℕ}
use mathlib.Core.Path.{◌≡◌, refl, sym, ap, ◌∙◌}
use mathlib.Core.Bool.{Bool, true, false, ◌&&◌, ◌||◌}
use mathlib.Core.List.{List, [], ◌∷◌}
use mathlib.Core.Option.{Option, none, some}
use lib.Dec.{eqb}
use Rattle.std.specs.Prelude.{Option as RustOption, is_some}
use Rattle.xliff.specs.Bytes.{'S', 'T', among}
use Rattle.xliff.specs.Unit.{Part}
use Rattle.xliff.specs.Rewrite.{Whole, side_sequence, find_whole}
use Rattle.xliff.proofs.lists.Tests.{or_none}
use Rattle.whole_pair.specs.declared.WholePair.{WholePair}
use Rattle.whole_pair.specs.Pairs.{pair_of}
use Rattle.grants.specs.Grant.{Grant, is_whole, halves_within, whole_granted, rewrite_granted}
use Rattle.granted_parts.specs.declared.Role.{Role}
use Rattle.granted_parts.specs.declared.Role.TheVariants.{Reviewer}
use Rattle.granted_parts.specs.Roles.{role_meaning}

-- a reviewer's is granted exactly if the whole is
pub reviewer_granted : (r : Role) (whole : Bool) → r ≡ Reviewer → rewrite_granted (role_meaning r) whole ≡ whole
unfolding rewrite_granted
reviewer_granted r whole e = ap (λ (x : Role). rewrite_granted (role_meaning x) whole) e

-- a pair is found where there is one
found_is : (o : Option Whole) → is_some (pair_of o) ≡ is_whole o
unfolding pair_of is_whole
found_is none = refl
found_is (some p) = refl

module _ (g : Grant) (ps : List Part) (side i : ℕ) where
  abbrev halves : Bool
  halves = halves_within g side i 1 ps

  sides_are : among side ('S' ∷ 'T' ∷ []) ≡ eqb side 'S' || eqb side 'T'
  unfolding among
  sides_are = ap (λ (b : Bool). eqb side 'S' || b) (or_none (eqb side 'T'))

  -- another letter than S or T
  pub by_side : eqb side 'S' || eqb side 'T' ≡ false → whole_granted g ps side i ≡ false
  unfolding whole_granted
  by_side h =
      ap (λ (b : Bool). b && (is_whole (find_whole i (side_sequence side ps)) && halves)) (sides_are ∙ h)

  module _ (h : eqb side 'S' || eqb side 'T' ≡ true) (found : RustOption WholePair)
      (f : found ≡ pair_of (find_whole i (side_sequence side ps))) where
    sided : whole_granted g ps side i ≡ is_some found && halves
    unfolding whole_granted
    sided =
        let whole = ap is_some f ∙ found_is (find_whole i (side_sequence side ps)) in
        ap (λ (b : Bool). b && (is_whole (find_whole i (side_sequence side ps)) && halves)) (sides_are ∙ h)
        ∙ ap (λ (b : Bool). b && halves) (sym whole)

    pub by_missing : is_some found ≡ false → whole_granted g ps side i ≡ false
    by_missing k = sided ∙ ap (λ (b : Bool). b && halves) k

    pub by_halves : is_some found ≡ true → whole_granted g ps side i ≡ halves
    by_halves k = sided ∙ ap (λ (b : Bool). b && halves) k
