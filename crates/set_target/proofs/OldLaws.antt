-- The old content of a part, and the states that fit it.
use Prim.Native.Nat.{ℕ}
use mathlib.Core.Path.{◌≡◌, refl, sym, ap, ◌∙◌}
use mathlib.Core.Bool.{Bool, ◌||◌, true, false, true≢false}
use mathlib.Core.List.{List}
use lib.Dec.{eqb}
use Rattle.std.specs.Prelude.{is_some}
use Rattle.xliff.specs.Bytes.{'-', 'F', 'I', 'R', 'T', among}
use Rattle.xliff.specs.Unit.{Head, segment, ignorable, Target, no_target, target, Part, target_items}
use Rattle.xliff.specs.SetTarget.{state_fits, old_content}
use Rattle.xliff.proofs.lists.Tests.{or_none}
use Rattle.walk.specs.Kept.{Holds}
use Rattle.heads.specs.Heads.{is_segment}
use Rattle.part_at.specs.declared.PartPlace.{PartPlace}
use Rattle.part_at.specs.Stands.{PartStands, TargetStands}

-- the old content, by the target
module _ (t : List ℕ) (place : PartPlace) (p : Part) (c : List ℕ) where
  pub of_target : (g : Target) → TargetStands t place g → is_some place.order ≡ true → Holds c (target_items g)
      → Holds c (old_content p.source g)
  unfolding old_content target_items
  of_target no_target s e h = absurd (true≢false (sym e ∙ ap is_some s.0))
  of_target (target q xs) s e h = h

  pub of_source : (g : Target) → TargetStands t place g → is_some place.order ≡ false → Holds c p.source
      → Holds c (old_content p.source g)
  unfolding old_content
  of_source no_target s e h = h
  of_source (target q xs) s e h = absurd (true≢false (sym (ap is_some s.0) ∙ e))

-- the states that fit
module _ (st : ℕ) where
  ignorable_by : (h : Head) → is_segment h ≡ false → eqb st '-' ≡ state_fits h st
  unfolding state_fits
  ignorable_by (segment f) e = absurd (true≢false e)
  ignorable_by (ignorable i) e = refl

  segment_by : (h : Head) → is_segment h ≡ true → eqb st 'I' || (eqb st 'T' || (eqb st 'R' || eqb st 'F')) ≡ state_fits h st
  unfolding state_fits among
  segment_by (segment f) e = ap (λ (d : Bool). eqb st 'I' || (eqb st 'T' || (eqb st 'R' || d))) (sym (or_none (eqb st 'F')))
  segment_by (ignorable i) e = absurd (true≢false (sym e))

  module _ (t : List ℕ) (b : List Part) (p : Part) (a : List Part) (place : PartPlace) (s : PartStands t b p a place) where
    pub ignorable_fits : place.segment ≡ false → eqb st '-' ≡ state_fits p.head st
    ignorable_fits e = ignorable_by p.head (sym s.kind ∙ e)

    pub segment_fits : place.segment ≡ true → eqb st 'I' || (eqb st 'T' || (eqb st 'R' || eqb st 'F')) ≡ state_fits p.head st
    segment_fits e = segment_by p.head (sym s.kind ∙ e)
