use native.Mathlib.Omega.{arith}
use lib.ListN.{drop}
use Rattle.table.specs.Meaning.{body}
use Rattle.xml_writer.specs.Records.{record_text}
use Rattle.xml_writer.proofs.LoopLaws.{behind_record}
use Rattle.xml_writer.proofs.put_record.Goals as goal

-- put_text(draft, t, at, w)
pub put_text-requires : goal.put_text-requires
put_text-requires c =
    let pre = c.requires in
    let args = c.args in
    let (rs, a, s, e) = rw c.in-Text.is at pre in
    (body (drop args.at args.t.now), rs, a, e)

-- at + w
pub overflow_add-at : goal.overflow_add-at
overflow_add-at c =
    let pre = c.requires in
    let args = c.args in
    let (rs, a, s, e) = pre in
    omega (arith, (behind_record args.t.now args.at _ args.w rs a e).fits)

-- put_inline(draft, t, at + w, i)
pub put_inline-requires : goal.put_inline-requires
put_inline-requires c =
    let pre = c.requires in
    let args = c.args in
    let (rs, a, s, e) = rw c.in-Inline.is at pre in
    ((rs, (behind_record args.t.now args.at _ args.w rs a e).then), s)

-- Record::Unit(f)
pub returns-in-Unit : goal.returns-in-Unit
unfolding record_text
returns-in-Unit c =
    let put-unit-start = c.put_unit_start in
    rw c.in-Unit.is (λ rs a. put-unit-start.ensures)

-- Record::UnitEnd
pub returns-in-UnitEnd : goal.returns-in-UnitEnd
unfolding record_text
returns-in-UnitEnd c =
    let put-unit-end = c.put_unit_end in
    rw c.in-UnitEnd.is (λ rs a. put-unit-end.ensures)

-- Record::Segment(f)
pub returns-in-Segment : goal.returns-in-Segment
unfolding record_text
returns-in-Segment c =
    let put-segment = c.put_segment in
    rw c.in-Segment.is (λ rs a. put-segment.ensures)

-- Record::Ignorable(i)
pub returns-in-Ignorable : goal.returns-in-Ignorable
unfolding record_text
returns-in-Ignorable c =
    let put-ignorable = c.put_ignorable in
    rw c.in-Ignorable.is (λ rs a. put-ignorable.ensures)

-- Record::Target(q)
pub returns-in-Target : goal.returns-in-Target
unfolding record_text
returns-in-Target c =
    let put-target = c.put_target in
    rw c.in-Target.is (λ rs a. put-target.ensures)

-- Record::Text
pub returns-in-Text : goal.returns-in-Text
unfolding record_text
returns-in-Text c =
    let put-text = c.put_text in
    let pre = c.requires in
    let (qs, b, s, e) = rw c.in-Text.is at pre in
    rw c.in-Text.is (λ rs a. put-text.ensures _ rs a e)

-- Record::Inline(i)
pub returns-in-Inline : goal.returns-in-Inline
unfolding record_text
returns-in-Inline c =
    let put-inline = c.put_inline in
    let pre = c.requires in
    let args = c.args in
    let (qs, b, s, e) = rw c.in-Inline.is at pre in
    rw c.in-Inline.is (λ rs a. put-inline.ensures rs (behind_record args.t.now args.at _ args.w rs a e).then)
