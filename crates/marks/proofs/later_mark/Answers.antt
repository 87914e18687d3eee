use mathlib.Core.Path.{◌≡◌, refl, sym, ◌∙◌}
use mathlib.Core.Bool.{false}
use mathlib.Core.List.{[], ◌∷◌}
use native.Mathlib.Omega.{arith}
use Rattle.xliff.specs.Bytes.{'C', 'G', 'M', 'O', 'S', 'T'}
use Rattle.xliff.specs.Parse.{is, mark_of, SG, TG, MO, MC}
use Rattle.xliff.proofs.lists.Tests.{or_both}
use Rattle.marks.specs.Marks.{only_rest, only_later}
use Rattle.marks.proofs.MarkLaws.{mark_found, any_found, mark_missed}
use Rattle.marks.proofs.later_mark.Goals as goal

-- SG
pub returns-then-marked_by : goal.returns-then-marked_by
unfolding mark_of is
returns-then-marked_by c = mark_found only_later 'S' 'G' _ (omega arith) (sym c.marked_by.ensures ∙ c.if-marked_by.true)

-- TG
pub returns-then-marked_by-2 : goal.returns-then-marked_by-2
unfolding mark_of is
returns-then-marked_by-2 c = mark_found only_later 'T' 'G' _ (omega arith) (sym c.marked_by-2.ensures ∙ c.if-marked_by-2.true)

-- MO
pub returns-then-marked_by-3 : goal.returns-then-marked_by-3
unfolding mark_of is
returns-then-marked_by-3 c = mark_found only_later 'M' 'O' _ (omega arith) (sym c.marked_by-3.ensures ∙ c.if-marked_by-3.true)

-- MC
pub returns-then-marked_by-4 : goal.returns-then-marked_by-4
unfolding mark_of is
returns-then-marked_by-4 c = mark_found only_later 'M' 'C' _ (omega arith) (sym c.marked_by-4.ensures ∙ c.if-marked_by-4.true)

-- none of them
pub returns : goal.returns
returns c =
    let t = c.args.t.now in
    let marks = SG ∷ TG ∷ MO ∷ MC ∷ [] in
    let none : any_found marks t ≡ false =
    or_both _ _ (sym c.marked_by.ensures ∙ c.if-marked_by.false)
    (or_both _ _ (sym c.marked_by-2.ensures ∙ c.if-marked_by-2.false)
    (or_both _ _ (sym c.marked_by-3.ensures ∙ c.if-marked_by-3.false)
    (or_both _ _ (sym c.marked_by-4.ensures ∙ c.if-marked_by-4.false)
    refl))) in
    c.rest_mark.ensures ∙ mark_missed only_rest only_later marks t none refl
