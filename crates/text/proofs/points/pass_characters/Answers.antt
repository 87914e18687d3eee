use mathlib.Core.Path.{refl, sym, ◌∙◌}
use native.Mathlib.Omega.{arith}
use Rattle.xliff.proofs.lists.Slices.{tail_is}
use Rattle.text.proofs.Utf8Laws.{width_at}
use Rattle.text.proofs.PointLaws.{sought_end, character_here, character_on, character_rest}
use Rattle.text.proofs.points.pass_characters.Goals as goal

pub loop-at-init : goal.loop-at-init
loop-at-init c = (omega arith, refl)

-- `left == 0`: the character sought begins here
pub returns-then-left-eq0 : goal.returns-then-left-eq0
returns-then-left-eq0 c =
    let t = c.args.t.now in
    let loop = c.loop-at in
    let read = sym (simp tail_is at c.char_of.ensures) ∙ c.in-Some.is in
    character_here t loop.at loop.left _ _ _ read c.if-left-eq0.true loop.invariant.1

-- `at += found.width`: the character ends within the text
pub overflow_add-at : goal.overflow_add-at
overflow_add-at c =
    let t = c.args.t.now in
    let loop = c.loop-at in
    let read = sym (simp tail_is at c.char_of.ensures) ∙ c.in-Some.is in
    omega (arith, width_at t loop.at _ _ read)

-- a character has a byte at least
pub loop-at-smaller-in-Some : goal.loop-at-smaller-in-Some
loop-at-smaller-in-Some c =
    let t = c.args.t.now in
    let loop = c.loop-at in
    let read = sym (simp tail_is at c.char_of.ensures) ∙ c.in-Some.is in
    omega (arith, width_at t loop.at _ _ read)

-- `at += found.width`, `left -= 1`: a character is passed over
pub loop-at-preserved-in-Some : goal.loop-at-preserved-in-Some
loop-at-preserved-in-Some c =
    let t = c.args.t.now in
    let loop = c.loop-at in
    let read = sym (simp tail_is at c.char_of.ensures) ∙ c.in-Some.is in (
      (width_at t loop.at _ _ read).1,
      character_on t loop.at loop.left _ _ _ read (omega arith) loop.invariant.1,
    )

-- `at += 1`: the rest of a character that began before is passed over, byte by byte
pub loop-at-preserved : goal.loop-at-preserved
loop-at-preserved c =
    let t = c.args.t.now in
    let loop = c.loop-at in
    let read = sym (simp tail_is at c.char_of.ensures) ∙ c.in-None.is in
    (omega arith, character_rest t loop.at loop.left _ c.requires.1 (omega arith) read loop.invariant.1)

-- the text ended
pub returns : goal.returns
returns c =
    let args = c.args in
    let loop = c.loop-at in
    sought_end args.t.now loop.at loop.left _ c.loop-at-test.false loop.invariant.1
