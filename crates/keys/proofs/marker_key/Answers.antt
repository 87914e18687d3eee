use borrow.Author.Tests.{eq-eqb, ne_eqb, lt-leb, le-leb, not-true, not-false}
use Rattle.keys.specs.Marks.{marker_key, key_by}
use Rattle.keys.proofs.marker_key.Goals as goal

-- too short for a marker
pub returns-then-s-lt-ANNOTATION_END_WIDTH : goal.returns-then-s-lt-ANNOTATION_END_WIDTH
unfolding marker_key key_by
returns-then-s-lt-ANNOTATION_END_WIDTH c = simp (lt-leb _ _ c.if-s-lt-ANNOTATION_END_WIDTH.true)

-- the mark is none of a marker
pub returns-then-low-eq0 : goal.returns-then-low-eq0
unfolding marker_key key_by
returns-then-low-eq0 c =
    simp (
      le-leb _ _ c.if-s-lt-ANNOTATION_END_WIDTH.false,
      ← c.low_of-low.ensures.0,
      eq-eqb _ _ c.if-low-eq0.true,
    )

-- a field is bad
pub returns-then-not-marker_good : goal.returns-then-not-marker_good
unfolding marker_key key_by
returns-then-not-marker_good c =
    let if1 = c.if-s-lt-ANNOTATION_END_WIDTH in
    let low_of = c.low_of-low in
    let marker-good = c.marker_good in
    simp (
      le-leb _ _ if1.false,
      ← low_of.ensures.0,
      ne_eqb _ _ c.if-low-eq0.false,
      ← marker-good.ensures,
      not-true marker-good.result c.if-not-marker_good.true-raw,
    )

-- a marker
pub returns : goal.returns
unfolding marker_key key_by
returns c =
    let if1 = c.if-s-lt-ANNOTATION_END_WIDTH in
    let low_of = c.low_of-low in
    let if2 = c.if-low-eq0 in
    let marker-good = c.marker_good in
    simp (
      le-leb _ _ if1.false,
      ← low_of.ensures.0,
      ne_eqb _ _ if2.false,
      ← marker-good.ensures,
      not-false marker-good.result c.if-not-marker_good.false-raw,
      c.wide_to_u32.ensures.0,
      c.number_at.ensures,
    )
