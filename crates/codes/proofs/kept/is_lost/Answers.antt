use native.Mathlib.Omega.{arith}
use lib.ListN.{drop}
use Rattle.xliff.specs.Encode.{content_records, spell}
use Rattle.xliff.specs.SetTarget.{is_lost}
use Rattle.walk.proofs.WalkLaws.{next, search_start, search_end}
use Rattle.codes.proofs.LostLaws.{lost_found, lost_on, lost_in, any_lost}
use Rattle.codes.proofs.kept.is_lost.Goals as goal

-- before the first record
pub loop-at-init : goal.loop-at-init
loop-at-init c =
    let args = c.args in
    (omega arith, λ xs ys h k. search_start (is_lost ys) args.old.now (content_records xs) h)

-- the next record ends within the content
pub overflow_add-next : goal.overflow_add-next
overflow_add-next c =
    let pre = c.requires in
    let args = c.args in
    let loop = c.loop-at in
    let loop-test = c.loop-at-test.true in
    let width_at = c.width_at in
    let (xs, ys, h, k) = pre in
    let m = loop.invariant.1 xs ys h k in
    omega (arith, (next args.old.now loop.at _ m.after loop-test m.rest width_at.ensures).fit)

-- a record stands there, and the new content is one
pub is_lost_code-requires : goal.is_lost_code-requires
is_lost_code-requires c =
    let pre = c.requires in
    let args = c.args in
    let loop = c.loop-at in
    let loop-test = c.loop-at-test.true in
    let width_at = c.width_at in
    let (xs, ys, h, k) = pre in
    let m = loop.invariant.1 xs ys h k in
    let n = next args.old.now loop.at _ m.after loop-test m.rest width_at.ensures in
    ((n.first, spell n.others, n.good, n.bytes), (content_records ys, k))

-- it is lost
pub returns-then-is_lost_code : goal.returns-then-is_lost_code
returns-then-is_lost_code c =
    let args = c.args in
    let loop = c.loop-at in
    let loop-test = c.loop-at-test.true in
    let width_at = c.width_at in
    let is-lost-code = c.is_lost_code in
    let if1 = c.if-is_lost_code.true in
    λ xs ys h k.
    let old = args.old.now in
    let m = loop.invariant.1 xs ys h k in
    let n = next old loop.at _ m.after loop-test m.rest width_at.ensures in
    let lost = lost_in ys (drop loop.at old) _ _ (is-lost-code.ensures (content_records ys) k) if1 in
    any_lost xs ys _ (lost_found ys old (content_records xs) loop.at _ m n lost)

-- the walk goes on
pub loop-at-smaller : goal.loop-at-smaller
loop-at-smaller c =
    let pre = c.requires in
    let args = c.args in
    let loop = c.loop-at in
    let loop-test = c.loop-at-test.true in
    let width_at = c.width_at in
    let (xs, ys, h, k) = pre in
    let m = loop.invariant.1 xs ys h k in
    let n = next args.old.now loop.at _ m.after loop-test m.rest width_at.ensures in
    omega (arith, n.fit, n.least)

-- behind a record that is not
pub loop-at-preserved : goal.loop-at-preserved
loop-at-preserved c =
    let args = c.args in
    let pre = c.requires in
    let loop = c.loop-at in
    let loop-test = c.loop-at-test.true in
    let width_at = c.width_at in
    let is-lost-code = c.is_lost_code in
    let if1 = c.if-is_lost_code.false in
    let old = args.old.now in
    let at-now = loop.at in
    let (xs, ys, h, k) = pre in
    let m = loop.invariant.1 xs ys h k in (
      omega (arith, (next old at-now _ m.after loop-test m.rest width_at.ensures).fit),
      λ xs ys h k.
          let m = loop.invariant.1 xs ys h k in
          let n = next old at-now _ m.after loop-test m.rest width_at.ensures in
          lost_on ys old (content_records xs) at-now _ m n
          (lost_in ys (drop at-now old) _ _ (is-lost-code.ensures (content_records ys) k) if1),
    )

-- no record is
pub returns : goal.returns
returns c =
    let args = c.args in
    let loop = c.loop-at in
    let loop-test = c.loop-at-test.false in
    λ xs ys h k. any_lost xs ys _
    (search_end (is_lost ys) args.old.now (content_records xs) loop.at loop-test (loop.invariant.1 xs ys h k))
