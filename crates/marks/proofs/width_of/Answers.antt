use mathlib.Core.Path.{ap, ◌∙◌}
use Rattle.xliff.specs.Parse as parse
use Rattle.xliff.specs.Parse.{size_of}
use Rattle.marks.proofs.width_of.Goals as goal

-- the width by the mark found
pub returns : goal.returns
returns c =
    let t = c.args.t.now in
    c.width_by.ensures ∙ ap (λ (m : parse.Mark). size_of m t) c.mark_of.ensures
