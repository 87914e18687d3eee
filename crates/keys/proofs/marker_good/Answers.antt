use Rattle.keys.specs.Marks.{marker_good}
use borrow.Author.Tests.{lt-ltb, le-ltb}
use Rattle.keys.proofs.marker_good.Goals as goal

-- a code
pub returns-then-low-lt40 : goal.returns-then-low-lt40
unfolding marker_good
returns-then-low-lt40 c = simp (c.code_good.ensures, lt-ltb _ _ c.if-low-lt40.true)

-- the start of an annotation
pub returns-then-low-lt44 : goal.returns-then-low-lt44
unfolding marker_good
returns-then-low-lt44 c =
    simp (c.start_good.ensures, le-ltb _ _ c.if-low-lt40.false, lt-ltb _ _ c.if-low-lt44.true)

-- its end
pub returns : goal.returns
unfolding marker_good
returns c =
    simp (c.end_good.ensures, le-ltb _ _ c.if-low-lt40.false, le-ltb _ _ c.if-low-lt44.false)
