use lib.ListN.{drop, length-drop}
use native.Mathlib.Omega.{arith}
use mathlib.Core.Path.{sym, ◌∙◌, refl}
use borrow.Author.Tests.{not-true, not-false}
use Rattle.xliff.proofs.lists.Slices.{tail_is}
use Rattle.text.proofs.Utf8Laws.{width_at, text_on, text_off, text_bad}
use Rattle.text.proofs.BlockLaws.{plain_on}
use Rattle.text.proofs.pass_each.Goals as goal

-- the loop's start
pub loop-at-init : goal.loop-at-init
loop-at-init c = (omega arith, omega arith, refl)

-- the loop's step
pub loop-at-preserved-then-b : goal.loop-at-preserved-then-b
loop-at-preserved-then-b c =
    let t = c.args.t.now in
    let loop = c.loop-at in
    (omega arith, omega arith, loop.invariant.2 ∙ plain_on t loop.at (omega arith) c.if-b.true)

pub returns-then-not-xml_char : goal.returns-then-not-xml_char
returns-then-not-xml_char c =
    let t = c.args.t.now in
    let loop = c.loop-at in
    let Char-of = c.char_of in
    loop.invariant.2
    ∙ text_off t loop.at _ _ (sym (simp tail_is at Char-of.ensures) ∙ c.in-Some.is)
    (sym c.xml_char.ensures ∙ not-true _ c.if-not-xml_char.true-raw)

-- at += found.width
pub overflow_add-at-else-b : goal.overflow_add-at-else-b
overflow_add-at-else-b c =
    let t = c.args.t.now in
    let loop = c.loop-at in
    let Char-of = c.char_of in
    omega (arith, width_at t loop.at _ _ (sym (simp tail_is at Char-of.ensures) ∙ c.in-Some.is))

-- the loop ends
pub loop-at-smaller : goal.loop-at-smaller
loop-at-smaller c =
    let t = c.args.t.now in
    let loop = c.loop-at in
    let Char-of = c.char_of in
    omega (arith, width_at t loop.at _ _ (sym (simp tail_is at Char-of.ensures) ∙ c.in-Some.is))

-- the loop's step
pub loop-at-preserved : goal.loop-at-preserved
loop-at-preserved c =
    let t = c.args.t.now in
    let loop = c.loop-at in
    let Char-of = c.char_of in (
      omega arith,
      (width_at t loop.at _ _ (sym (simp tail_is at Char-of.ensures) ∙ c.in-Some.is)).1,
      loop.invariant.2
          ∙ text_on t loop.at _ _ (sym (simp tail_is at Char-of.ensures) ∙ c.in-Some.is)
          (sym c.xml_char.ensures ∙ not-false _ c.if-not-xml_char.false-raw),
    )

-- return None
pub returns-in_default : goal.returns-in_default
returns-in_default c =
    let t = c.args.t.now in
    let loop = c.loop-at in
    loop.invariant.2
    ∙ text_bad (drop loop.at t) (omega (arith, length-drop loop.at t))
    (sym (simp tail_is at c.char_of.ensures) ∙ c.in_default.is)

-- Some(at)
pub returns : goal.returns
returns c =
    let loop = c.loop-at in
    (omega arith, loop.invariant.1, loop.invariant.2)
