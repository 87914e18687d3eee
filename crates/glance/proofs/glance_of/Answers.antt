use mathlib.Core.Path.{◌≡◌, refl, sym, ◌∙◌}
use mathlib.Core.Bool.{false}
use mathlib.Core.List.{[], ◌∷◌}
use native.Mathlib.Omega.{arith}
use Rattle.xliff.specs.Bytes.{'G', 'I', 'S', 'T', 'X'}
use Rattle.xliff.specs.Parse.{is, mark_of, Mark, TX, TG, SG, IG}
use Rattle.xliff.proofs.lists.Tests.{or_both}
use Rattle.marks.proofs.MarkLaws.{any_found, mark_missed}
use Rattle.glance.specs.Glances.{rest_glance, glance_by}
use Rattle.glance.proofs.GlanceLaws.{glanced, glance_found, too_short}
use Rattle.glance.proofs.glance_of.Goals as goal

-- `t.len() < 2`
pub returns-then-t-lt2 : goal.returns-then-t-lt2
returns-then-t-lt2 c = too_short _ _ (omega (arith, c.if-t-lt2.true))

-- TX
pub returns-then-marked_by : goal.returns-then-marked_by
unfolding mark_of is
returns-then-marked_by c =
    let test = sym c.marked_by.ensures ∙ c.if-marked_by.true in
    glance_found 'T' 'X' _ _ (omega arith) test c.text_glance.ensures

-- TG
pub returns-then-marked_by-2 : goal.returns-then-marked_by-2
unfolding mark_of is
returns-then-marked_by-2 c =
    let test = sym c.marked_by-2.ensures ∙ c.if-marked_by-2.true in
    glance_found 'T' 'G' _ _ (omega arith) test c.target_glance.ensures

-- SG
pub returns-then-marked_by-3 : goal.returns-then-marked_by-3
unfolding mark_of is
returns-then-marked_by-3 c =
    let test = sym c.marked_by-3.ensures ∙ c.if-marked_by-3.true in
    glance_found 'S' 'G' _ _ (omega arith) test c.part_glance.ensures

-- IG
pub returns-then-marked_by-4 : goal.returns-then-marked_by-4
unfolding mark_of is
returns-then-marked_by-4 c =
    let test = sym c.marked_by-4.ensures ∙ c.if-marked_by-4.true in
    glance_found 'I' 'G' _ _ (omega arith) test c.part_glance-then-marked_by-4.ensures

-- none of them
pub returns : goal.returns
returns c =
    let t = c.args.t.now in
    let marks = TX ∷ TG ∷ SG ∷ IG ∷ [] in
    let none : any_found marks t ≡ false =
    or_both _ _ (sym c.marked_by.ensures ∙ c.if-marked_by.false)
    (or_both _ _ (sym c.marked_by-2.ensures ∙ c.if-marked_by-2.false)
    (or_both _ _ (sym c.marked_by-3.ensures ∙ c.if-marked_by-3.false)
    (or_both _ _ (sym c.marked_by-4.ensures ∙ c.if-marked_by-4.false)
    refl))) in
    glanced t _
    (c.rest_glance.ensures ∙ mark_missed rest_glance (λ (m : Mark). glance_by m t) marks t none refl)
