use mathlib.Core.Path.{ap₂}
use mathlib.Core.Bool.{Bool, ◌||◌}
use Rattle.xliff.specs.Unit.{target_items}
use Rattle.xliff.specs.Split.{accent_parted}
use Rattle.accents.proofs.is_accent_parted.Goals as goal

-- cuts_off_accent(place.source_of(t), cuts.source)
pub cuts_off_accent-source-requires : goal.cuts_off_accent-source-requires
cuts_off_accent-source-requires c =
    let (b, p, a, s) = c.requires.1 in
    (p.source, c.source_of.ensures b p a s)

-- cuts_off_accent(place.target_of(t), cuts.target)
pub cuts_off_accent-target-requires : goal.cuts_off_accent-target-requires
cuts_off_accent-target-requires c =
    let (b, p, a, s) = c.requires.1 in
    (target_items p.target, c.target_of.ensures b p a s)

-- source | target
pub returns : goal.returns
unfolding accent_parted
returns c =
    λ b p a s.
    ap₂ (λ (x y : Bool). x || y)
    (c.cuts_off_accent-source.ensures p.source (c.source_of.ensures b p a s))
    (c.cuts_off_accent-target.ensures (target_items p.target) (c.target_of.ensures b p a s))
