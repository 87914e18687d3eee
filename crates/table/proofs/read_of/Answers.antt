use mathlib.Core.Path.{◌≡◌, refl, sym, ◌∙◌}
use mathlib.Core.Bool.{false}
use mathlib.Core.List.{[], ◌∷◌}
use native.Mathlib.Omega.{arith}
use Rattle.xliff.specs.Bytes.{'C', 'H', 'O', 'P', 'T', 'X'}
use Rattle.xliff.specs.Parse.{is, mark_of, Mark, TX, PO, PC, PH}
use Rattle.xliff.proofs.lists.Tests.{or_both}
use Rattle.marks.specs.Marks.{only_later}
use Rattle.marks.proofs.MarkLaws.{any_found, mark_missed, no_mark}
use Rattle.table.specs.Records.{record_by}
use Rattle.table.proofs.MarkedLaws.{record_found}
use Rattle.table.proofs.read_of.Goals as goal

-- `t.len() < 2`
pub returns-then-t-lt2 : goal.returns-then-t-lt2
unfolding record_by
returns-then-t-lt2 c =
    let args = c.args in
    simp (no_mark args.t.now (omega arith))

-- TX
pub returns-then-marked_by : goal.returns-then-marked_by
unfolding record_by mark_of is
returns-then-marked_by c =
    c.text_of.ensures
    ∙ record_found (λ m. m) 'T' 'X' _ _ (omega arith) (sym c.marked_by.ensures ∙ c.if-marked_by.true)

-- PO
pub returns-then-marked_by-2 : goal.returns-then-marked_by-2
unfolding record_by mark_of is
returns-then-marked_by-2 c =
    c.pair_of.ensures
    ∙ record_found (λ m. m) 'P' 'O' _ _ (omega arith) (sym c.marked_by-2.ensures ∙ c.if-marked_by-2.true)

-- PC
pub returns-then-marked_by-3 : goal.returns-then-marked_by-3
unfolding record_by mark_of is
returns-then-marked_by-3 c =
    c.pair_of-then-marked_by-3.ensures
    ∙ record_found (λ m. m) 'P' 'C' _ _ (omega arith) (sym c.marked_by-3.ensures ∙ c.if-marked_by-3.true)

-- PH
pub returns-then-marked_by-4 : goal.returns-then-marked_by-4
unfolding record_by mark_of is
returns-then-marked_by-4 c =
    c.standalone_of.ensures
    ∙ record_found (λ m. m) 'P' 'H' _ _ (omega arith) (sym c.marked_by-4.ensures ∙ c.if-marked_by-4.true)

-- none of them
pub returns : goal.returns
unfolding record_by
returns c =
    let args = c.args in
    let t = args.t.now in
    let marks = TX ∷ PO ∷ PC ∷ PH ∷ [] in
    let none : any_found marks t ≡ false =
    or_both _ _ (sym c.marked_by.ensures ∙ c.if-marked_by.false)
    (or_both _ _ (sym c.marked_by-2.ensures ∙ c.if-marked_by-2.false)
    (or_both _ _ (sym c.marked_by-3.ensures ∙ c.if-marked_by-3.false)
    (or_both _ _ (sym c.marked_by-4.ensures ∙ c.if-marked_by-4.false)
    refl))) in
    c.later_of.ensures
    ∙ mark_missed (λ (m : Mark). record_by (only_later m) t false) (λ (m : Mark). record_by m t args.known) marks t none refl
