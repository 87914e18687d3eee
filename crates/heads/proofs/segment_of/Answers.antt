use mathlib.Core.Path.{ap, sym, ◌∙◌}
use native.Mathlib.Omega.{arith}
use Rattle.table.specs.Meaning.{segment_meaning}
use Rattle.xliff.specs.Parse.{segment_at}
use Rattle.heads.proofs.HeadLaws.{some_segment, some_long, fields_read}
use Rattle.heads.proofs.segment_of.Goals as goal

-- the head is as long as a segment's
pub segment_fields-requires : goal.segment_fields-requires
segment_fields-requires c =
    let head = c.args.head.now in
    let (h, e) = c.requires in
    omega (arith, some_long head (some_segment head h e (sym (c.is_segment.ensures h e) ∙ c.if-is_segment.true)))

-- what the reader finds are the segment's fields
pub returns-then-is_segment : goal.returns-then-is_segment
unfolding segment_at
returns-then-is_segment c =
    let head = c.args.head.now in (
      λ h e. sym c.if-is_segment.true ∙ c.is_segment.ensures h e,
      λ f e. ap segment_meaning c.segment_fields.ensures ∙ fields_read head f e,
    )

-- None
pub returns : goal.returns
returns c = λ h e. sym c.if-is_segment.false ∙ c.is_segment.ensures h e
