use mathlib.Core.List.{List}
use mathlib.Core.Path.{◌∙◌, ap}
use Prim.Native.Nat.{ℕ}
use Rattle.views.specs.Views.{items_of_markers}
use Rattle.xliff.specs.Rewrite.{find_whole}
use Rattle.whole_pair.specs.Pairs.{pair_of}
use Rattle.whole_pair.proofs.SequenceLaws.{source_whole}
use Rattle.whole_pair.proofs.in_source.Goals as goal

-- pair_of(t, room.sequence(), id)
pub returns : goal.returns
returns c =
    let id = c.args.id in
    let t = c.args.t.now in
    c.pair_of.ensures
    ∙ ap pair_of
    (ap (λ (l : List ℕ). find_whole id (items_of_markers t l)) (c.sequence.ensures.0 ∙ c.hold_source.ensures.0)
    ∙ source_whole t c.requires.0 id)
