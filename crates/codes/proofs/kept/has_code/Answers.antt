use mathlib.Core.Path.{sym, ◌∙◌}
use native.Mathlib.Omega.{arith}
use lib.ListN.{drop}
use Rattle.xliff.specs.Encode.{spell}
use Rattle.walk.proofs.WalkLaws.{next, search_start, search_end}
use Rattle.codes.specs.Lost.{is_code_at}
use Rattle.codes.proofs.LostLaws.{has_found, has_on}
use Rattle.codes.proofs.kept.has_code.Goals as goal

-- before the first record
pub loop-to-init : goal.loop-to-init
loop-to-init c =
    let args = c.args in
    (omega arith, λ qs o. search_start (is_code_at (drop args.at args.old.now)) args.new.now qs o)

-- the next record ends within the content
pub overflow_add-next : goal.overflow_add-next
overflow_add-next c =
    let pre = c.requires in
    let args = c.args in
    let loop = c.loop-to in
    let loop-test = c.loop-to-test.true in
    let width_at = c.width_at in
    let (qs, o) = pre.1 in
    let m = loop.invariant.1 qs o in
    omega (arith, (next args.new.now loop.to _ m.after loop-test m.rest width_at.ensures).fit)

-- records stand at both offsets
pub same_code-requires : goal.same_code-requires
same_code-requires c =
    let pre = c.requires in
    let args = c.args in
    let loop = c.loop-to in
    let loop-test = c.loop-to-test.true in
    let width_at = c.width_at in
    let (qs, o) = pre.1 in
    let m = loop.invariant.1 qs o in
    let n = next args.new.now loop.to _ m.after loop-test m.rest width_at.ensures in
    (pre.0, (n.first, spell n.others, n.good, n.bytes))

-- it is the code
pub returns-then-same_code : goal.returns-then-same_code
returns-then-same_code c =
    let args = c.args in
    let loop = c.loop-to in
    let loop-test = c.loop-to-test.true in
    let width_at = c.width_at in
    let same_code = c.same_code in
    let if1 = c.if-same_code.true in
    λ qs o.
    let new = args.new.now in
    let m = loop.invariant.1 qs o in
    let n = next new loop.to _ m.after loop-test m.rest width_at.ensures in
    has_found (drop args.at args.old.now) new qs loop.to _ m n (sym same_code.ensures ∙ if1)

-- the walk goes on
pub loop-to-smaller : goal.loop-to-smaller
loop-to-smaller c =
    let pre = c.requires in
    let args = c.args in
    let loop = c.loop-to in
    let loop-test = c.loop-to-test.true in
    let width_at = c.width_at in
    let (qs, o) = pre.1 in
    let m = loop.invariant.1 qs o in
    let n = next args.new.now loop.to _ m.after loop-test m.rest width_at.ensures in
    omega (arith, n.fit, n.least)

-- behind a record that is not the code
pub loop-to-preserved : goal.loop-to-preserved
loop-to-preserved c =
    let args = c.args in
    let pre = c.requires in
    let loop = c.loop-to in
    let loop-test = c.loop-to-test.true in
    let width_at = c.width_at in
    let same_code = c.same_code in
    let if1 = c.if-same_code.false in
    let new = args.new.now in
    let to-now = loop.to in
    let (qs, o) = pre.1 in
    let m = loop.invariant.1 qs o in (
      omega (arith, (next new to-now _ m.after loop-test m.rest width_at.ensures).fit),
      λ qs o.
          let m = loop.invariant.1 qs o in
          let n = next new to-now _ m.after loop-test m.rest width_at.ensures in
          has_on (drop args.at args.old.now) new qs to-now _ m n (sym same_code.ensures ∙ if1),
    )

-- no record is
pub returns : goal.returns
returns c =
    let args = c.args in
    let loop = c.loop-to in
    let loop-test = c.loop-to-test.false in
    λ qs o. search_end (is_code_at (drop args.at args.old.now)) args.new.now qs loop.to loop-test (loop.invariant.1 qs o)
