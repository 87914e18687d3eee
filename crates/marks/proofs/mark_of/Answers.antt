use mathlib.Core.Path.{◌≡◌, refl, sym, ◌∙◌}
use mathlib.Core.Bool.{false}
use mathlib.Core.List.{[], ◌∷◌}
use native.Mathlib.Omega.{arith}
use Rattle.xliff.specs.Bytes.{'C', 'H', 'O', 'P', 'T', 'X'}
use Rattle.xliff.specs.Parse.{is, mark_of, TX, PO, PC, PH, Mark}
use Rattle.xliff.proofs.lists.Tests.{or_both}
use Rattle.marks.specs.Marks.{only_later}
use Rattle.marks.proofs.MarkLaws.{mark_found, any_found, mark_missed, no_mark}
use Rattle.marks.proofs.mark_of.Goals as goal

-- `t.len() < 2`
pub returns-then-t-lt2 : goal.returns-then-t-lt2
returns-then-t-lt2 c = sym (no_mark c.args.t.now (omega arith))

-- TX
pub returns-then-marked_by : goal.returns-then-marked_by
unfolding mark_of is
returns-then-marked_by c = mark_found (λ m. m) 'T' 'X' _ (omega arith) (sym c.marked_by.ensures ∙ c.if-marked_by.true)

-- PO
pub returns-then-marked_by-2 : goal.returns-then-marked_by-2
unfolding mark_of is
returns-then-marked_by-2 c = mark_found (λ m. m) 'P' 'O' _ (omega arith) (sym c.marked_by-2.ensures ∙ c.if-marked_by-2.true)

-- PC
pub returns-then-marked_by-3 : goal.returns-then-marked_by-3
unfolding mark_of is
returns-then-marked_by-3 c = mark_found (λ m. m) 'P' 'C' _ (omega arith) (sym c.marked_by-3.ensures ∙ c.if-marked_by-3.true)

-- PH
pub returns-then-marked_by-4 : goal.returns-then-marked_by-4
unfolding mark_of is
returns-then-marked_by-4 c = mark_found (λ m. m) 'P' 'H' _ (omega arith) (sym c.marked_by-4.ensures ∙ c.if-marked_by-4.true)

-- none of them
pub returns : goal.returns
returns c =
    let t = c.args.t.now in
    let marks = TX ∷ PO ∷ PC ∷ PH ∷ [] in
    let none : any_found marks t ≡ false =
    or_both _ _ (sym c.marked_by.ensures ∙ c.if-marked_by.false)
    (or_both _ _ (sym c.marked_by-2.ensures ∙ c.if-marked_by-2.false)
    (or_both _ _ (sym c.marked_by-3.ensures ∙ c.if-marked_by-3.false)
    (or_both _ _ (sym c.marked_by-4.ensures ∙ c.if-marked_by-4.false)
    refl))) in
    c.later_mark.ensures ∙ mark_missed only_later (λ (m : Mark). m) marks t none refl
