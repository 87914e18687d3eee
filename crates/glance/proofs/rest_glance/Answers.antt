use mathlib.Core.Path.{◌≡◌, refl, sym, ◌∙◌}
use mathlib.Core.Bool.{true, false}
use mathlib.Core.List.{[], ◌∷◌}
use native.Mathlib.Omega.{arith}
use Rattle.xliff.specs.Bytes.{'C', 'E', 'M', 'N', 'O', 'P', 'S', 'U'}
use Rattle.xliff.specs.Parse.{is, mark_of, Mark, code_size, MO, SM, MC, EM, CP, UN, UE}
use Rattle.xliff.proofs.lists.Tests.{or_both}
use Rattle.marks.proofs.MarkLaws.{mark_found, any_found, mark_missed}
use Rattle.glance.specs.Glances.{item_glance, rest_glance}
use Rattle.glance.proofs.rest_glance.Goals as goal

-- MO
pub returns-then-marked_by : goal.returns-then-marked_by
unfolding mark_of is
returns-then-marked_by c =
    c.item_glance.ensures
    ∙ mark_found rest_glance 'M' 'O' _ (omega arith) (sym c.marked_by.ensures ∙ c.if-marked_by.true)

-- SM
pub returns-then-marked_by-2 : goal.returns-then-marked_by-2
unfolding mark_of is
returns-then-marked_by-2 c =
    c.item_glance-then-marked_by-2.ensures
    ∙ mark_found rest_glance 'S' 'M' _ (omega arith) (sym c.marked_by-2.ensures ∙ c.if-marked_by-2.true)

-- MC
pub returns-then-marked_by-3 : goal.returns-then-marked_by-3
unfolding mark_of is
returns-then-marked_by-3 c =
    c.item_glance-then-marked_by-3.ensures
    ∙ mark_found rest_glance 'M' 'C' _ (omega arith) (sym c.marked_by-3.ensures ∙ c.if-marked_by-3.true)

-- EM
pub returns-then-marked_by-4 : goal.returns-then-marked_by-4
unfolding mark_of is
returns-then-marked_by-4 c =
    c.item_glance-then-marked_by-4.ensures
    ∙ mark_found rest_glance 'E' 'M' _ (omega arith) (sym c.marked_by-4.ensures ∙ c.if-marked_by-4.true)

-- CP
pub returns-then-marked_by-5 : goal.returns-then-marked_by-5
unfolding mark_of is
returns-then-marked_by-5 c =
    c.item_glance-then-marked_by-5.ensures
    ∙ mark_found rest_glance 'C' 'P' _ (omega arith) (sym c.marked_by-5.ensures ∙ c.if-marked_by-5.true)

-- UN
pub returns-then-marked_by-6 : goal.returns-then-marked_by-6
unfolding mark_of is
returns-then-marked_by-6 c =
    c.item_glance-then-marked_by-6.ensures
    ∙ mark_found rest_glance 'U' 'N' _ (omega arith) (sym c.marked_by-6.ensures ∙ c.if-marked_by-6.true)

-- UE
pub returns-then-marked_by-7 : goal.returns-then-marked_by-7
unfolding mark_of is
returns-then-marked_by-7 c =
    c.item_glance-then-marked_by-7.ensures
    ∙ mark_found rest_glance 'U' 'E' _ (omega arith) (sym c.marked_by-7.ensures ∙ c.if-marked_by-7.true)

-- none of them
pub returns : goal.returns
returns c =
    let t = c.args.t.now in
    let marks = MO ∷ SM ∷ MC ∷ EM ∷ CP ∷ UN ∷ UE ∷ [] in
    let none : any_found marks t ≡ false =
    or_both _ _ (sym c.marked_by.ensures ∙ c.if-marked_by.false)
    (or_both _ _ (sym c.marked_by-2.ensures ∙ c.if-marked_by-2.false)
    (or_both _ _ (sym c.marked_by-3.ensures ∙ c.if-marked_by-3.false)
    (or_both _ _ (sym c.marked_by-4.ensures ∙ c.if-marked_by-4.false)
    (or_both _ _ (sym c.marked_by-5.ensures ∙ c.if-marked_by-5.false)
    (or_both _ _ (sym c.marked_by-6.ensures ∙ c.if-marked_by-6.false)
    (or_both _ _ (sym c.marked_by-7.ensures ∙ c.if-marked_by-7.false)
    refl)))))) in
    c.item_glance-2.ensures
    ∙ sym (mark_missed rest_glance (λ (m : Mark). item_glance true code_size) marks t none refl)
