use Prim.Native.Nat.{◌/◌, ◌%◌}
use lib.Dec.{eqb}
use lib.ListN.{length-drop}
use mathlib.Core.Path.{◌∙◌, ap}
use native.Mathlib.Omega.{arith}
use Rattle.views.specs.Views.{annotation_view, code_view}
use Rattle.xliff.proofs.lists.Slices.{tail_is}
use Rattle.keys.proofs.SeenLaws.{told}
use Rattle.keys.proofs.view_at.Goals as goal

-- no marker
pub returns-then-class-eq0 : goal.returns-then-class-eq0
returns-then-class-eq0 c =
    let args = c.args in
    c.nothing.ensures ∙ (told args.t.now args.at args.k c.requires).none c.if-class-eq0.true

-- an annotation: the rest of the table from `at` on
pub slice_bounds-number_at-count : goal.slice_bounds-number_at-count
slice_bounds-number_at-count c =
    let args = c.args in
    let t = args.t.now in
    let at₀ = args.at in
    omega (arith, ((told t at₀ args.k c.requires).annotation c.if-class-eq5.true).0, length-drop at₀ t)

-- it begins within the table
pub slice_bounds-number_at-start : goal.slice_bounds-number_at-start
slice_bounds-number_at-start c =
    let args = c.args in
    let t = args.t.now in
    let at₀ = args.at in
    omega (arith, ((told t at₀ args.k c.requires).annotation c.if-class-eq5.true).0, length-drop at₀ t)

-- its id is there
pub number_at-requires : goal.number_at-requires
number_at-requires c =
    let args = c.args in
    simp tail_is ((told args.t.now args.at args.k c.requires).annotation c.if-class-eq5.true).0

-- its view
pub returns-then-class-eq5 : goal.returns-then-class-eq5
returns-then-class-eq5 c =
    let args = c.args in
    let k = args.k in
    let if2 = c.if-class-eq5 in
    c.annotation_view.ensures
    ∙ ap (annotation_view (k % 8 / 2) (eqb (k % 2) 1)) (simp tail_is at c.number_at.ensures)
    ∙ ((told args.t.now args.at k c.requires).annotation if2.true).1

-- a code: the rest of the table from `at` on
pub slice_bounds-read_fields-count : goal.slice_bounds-read_fields-count
slice_bounds-read_fields-count c =
    let args = c.args in
    let t = args.t.now in
    let at₀ = args.at in
    omega
    (arith, ((told t at₀ args.k c.requires).code c.if-class-eq0.false c.if-class-eq5.false).0, length-drop at₀ t)

-- it begins within the table
pub slice_bounds-read_fields-start : goal.slice_bounds-read_fields-start
slice_bounds-read_fields-start c =
    let args = c.args in
    let t = args.t.now in
    let at₀ = args.at in
    omega
    (arith, ((told t at₀ args.k c.requires).code c.if-class-eq0.false c.if-class-eq5.false).0, length-drop at₀ t)

-- its fields are there
pub read_fields-requires : goal.read_fields-requires
read_fields-requires c =
    let args = c.args in
    simp tail_is ((told args.t.now args.at args.k c.requires).code c.if-class-eq0.false
    c.if-class-eq5.false).0

-- its view
pub returns : goal.returns
returns c =
    let args = c.args in
    let k = args.k in
    let if1 = c.if-class-eq0 in
    let if2 = c.if-class-eq5 in
    c.code_view.ensures
    ∙ ap (code_view (k % 64 / 8) (k % 8 / 2) (eqb (k % 2) 1)) (simp tail_is at c.read_fields.ensures)
    ∙ ((told args.t.now args.at k c.requires).code if1.false if2.false).1
