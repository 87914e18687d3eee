use Rattle.std.specs.Prelude.{◌≡◌, Some}
use Rattle.std.proofs.Common.{rules}
use mathlib.Core.Path.{ap, ◌∙◌}
use Rattle.marks.proofs.RecordLaws.{number_there}
use Rattle.walk.specs.Marks.{kind_of, kind_at, are_opposite}
use Rattle.walk.proofs.other_at.Goals as goal

-- the kind of its mark, and its id
pub returns : goal.returns
unfolding kind_at
returns c =
    let args = c.args in
    let kind = c.kind_of.ensures ∙ ap kind_of c.mark_at.ensures in
    let id = c.number_at.ensures ∙ number_there args.c.now args.at 2 in
    let halves : c.eq.result ≡ are_opposite (Some args.kind) c.kind_of.result = search rules in
    simp (id, halves, kind)
