use Rattle.rewrite_refusals.proofs.TestLaws.{unfit_refused, fitting, apart_refused, never_refused}
use Rattle.rewrite_refusals.proofs.is_refused_21.Goals as goal

-- return true
pub returns-then-unfit : goal.returns-then-unfit
returns-then-unfit c =
    let args = c.args in
    unfit_refused args.t.now args.side args.id args.form args.unfit c.requires
    c.if-form-eq80.true c.if-unfit.true

-- is_apart(t, side, id)
pub is_apart-requires : goal.is_apart-requires
is_apart-requires c =
    let args = c.args in
    fitting args.t.now args.side args.id args.form args.unfit c.requires c.if-form-eq80.true
    c.if-unfit.false

-- return is_apart(t, side, id)
pub returns-then-form-eq80 : goal.returns-then-form-eq80
returns-then-form-eq80 c =
    let args = c.args in
    apart_refused args.t.now args.side args.id args.form args.unfit c.requires
    c.if-form-eq80.true c.if-unfit.false c.is_apart.result c.is_apart.ensures

-- false
pub returns : goal.returns
returns c =
    let args = c.args in
    never_refused args.t.now args.side args.id args.form args.unfit c.requires
    c.if-form-eq80.false
