use mathlib.Core.List.{List}
use mathlib.Core.Path.{◌∙◌, ap}
use Prim.Native.Nat.{ℕ}
use Rattle.places.specs.Markers.{target_offsets}
use Rattle.views.specs.Views.{items_of_markers}
use Rattle.xliff.specs.Rewrite.{find_whole}
use Rattle.whole_pair.specs.Pairs.{pair_of}
use Rattle.whole_pair.proofs.SequenceLaws.{target_whole}
use Rattle.whole_pair.proofs.in_target.Goals as goal

-- pair_of(t, room.sequence(), id)
pub returns : goal.returns
returns c =
    let id = c.args.id in
    let t = c.args.t.now in
    c.pair_of.ensures
    ∙ ap pair_of
    (ap (λ (l : List ℕ). find_whole id (items_of_markers t l)) (c.sequence.ensures.0 ∙ c.hold_target.ensures.0 ∙ ap (target_offsets t 0) c.requires.2)
    ∙ target_whole t c.requires.0 id)
