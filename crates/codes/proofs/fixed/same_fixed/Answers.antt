use Rattle.std.proofs.Common.{rules}
use mathlib.Core.Path.{◌≡◌, ap, ◌∙◌}
use lib.Dec.{eqb}
use lib.Seq.{get_or-drop}
use Rattle.xliff.specs.SetTarget.{same_fixed}
use Rattle.marks.proofs.RecordLaws.{number_there}
use Rattle.walk.specs.Marks.{kind_of, kind_at}
use Rattle.codes.specs.Fixed.{half_number}
use Rattle.codes.proofs.fixed.same_fixed.Goals as goal

-- ids, halves and letters
pub returns : goal.returns
unfolding same_fixed kind_at
returns c =
    let args = c.args in
    let c₀ = args.c.now in
    let d₀ = args.d.now in
    let id = c.number_at.ensures ∙ number_there c₀ args.at 2 in
    let id2 = c.number_at-2.ensures ∙ number_there d₀ args.to 2 in
    let half = c.kind_of-a.ensures ∙ ap kind_of c.mark_at.ensures in
    let half2 = c.kind_of-b.ensures ∙ ap kind_of c.mark_at-2.ensures in
    let halves : c.eq.result ≡ eqb (half_number c.kind_of-a.result) (half_number c.kind_of-b.result) = search rules in
    simp (id, id2, halves, half, half2, get_or-drop args.at c₀ 11 0, get_or-drop args.to d₀ 11 0)
