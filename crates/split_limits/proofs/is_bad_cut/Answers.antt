use mathlib.Core.Path.{ap, ◌∙◌}
use mathlib.Core.Bool.{not}
use lib.ListN.{length}
use Rattle.xliff.specs.Unit.{target_items}
use Rattle.split_limits.proofs.CutLaws.{bad_cut_is, not_less, not_most}
use Rattle.split_limits.proofs.is_bad_cut.Goals as goal

-- has_more(place.source_of(t), cuts.source)
pub has_more-more-requires : goal.has_more-more-requires
has_more-more-requires c =
    let (b, p, a, s) = c.requires.1 in
    (p.source, c.source_of.ensures b p a s)

-- has_enough(place.target_of(t), cuts.target)
pub has_enough-enough-requires : goal.has_enough-enough-requires
has_enough-enough-requires c =
    let (b, p, a, s) = c.requires.1 in
    (target_items p.target, c.target_of.ensures b p a s)

-- (cuts.source == 0) | (!more | !enough)
pub returns : goal.returns
returns c =
    let cuts = c.args.cuts in
    λ b p a s.
    bad_cut_is p cuts.source cuts.target _ _
    (ap not (c.has_more-more.ensures p.source (c.source_of.ensures b p a s)) ∙ not_less cuts.source (length p.source))
    (ap not (c.has_enough-enough.ensures (target_items p.target) (c.target_of.ensures b p a s))
    ∙ not_most cuts.target (length (target_items p.target)))
