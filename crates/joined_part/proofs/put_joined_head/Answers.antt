use Rattle.joined_part.proofs.HeadLaws.{second_segment, no_segment, segment_room, segment_wrote}
use Rattle.heads.specs.Heads.{SegmentIs}
use Rattle.writer.specs.Pieces.{Written}
use native.Mathlib.Omega.{arith}
use lib.ListN.{length}
use mathlib.Core.Bool.{false}
use mathlib.Core.List.{List}
use mathlib.Core.Path.{sym, ap, subst}
use Prim.Native.Nat.{ℕ}
use Rattle.joined_part.proofs.put_joined_head.Goals as goal

-- heads::put_segment(out, joined_with_ignorable(y))
pub put_segment-requires-in-None-Some : goal.put_segment-requires-in-None-Some
put_segment-requires-in-None-Some c =
    let args = c.args in
    let second = c.in-None-Some in
    let is_not : SegmentIs args.h.now false = rw second.is-0 at c.segment_of.ensures in
    let joined = c.joined_with_ignorable-in-None-Some in
    let (a, b, ea, eb, room) = c.requires in
    segment_room a b joined.result
    (second_segment args.h.now args.i.now a b eb (sym (is_not a ea)) (sym (second.ensures.0 b eb))
    second.y joined.result second.ensures.1 joined.ensures) args.out.now room

-- heads::put_segment(out, joined_with_ignorable(y))
pub returns-in-None-Some : goal.returns-in-None-Some
returns-in-None-Some c =
    let args = c.args in
    let second = c.in-None-Some in
    let is_not : SegmentIs args.h.now false = rw second.is-0 at c.segment_of.ensures in
    let joined = c.joined_with_ignorable-in-None-Some in
    let put = c.put_segment-in-None-Some in
    λ a b ea eb.
    segment_wrote a b joined.result
    (second_segment args.h.now args.i.now a b eb (sym (is_not a ea)) (sym (second.ensures.0 b eb))
    second.y joined.result second.ensures.1 joined.ensures) args.out.now put.new.out put.result put.ensures

-- writer::put(out, h)
pub put-requires : goal.put-requires
put-requires c =
    let none = c.in-None-None in
    let is_not : SegmentIs c.args.h.now false = rw none.is-0 at c.segment_of.ensures in
    let (a, b, ea, eb, room) = c.requires in
    omega (
      arith,
      ap length (no_segment c.args.h.now c.args.i.now a b ea (sym (is_not a ea)) (sym (none.ensures b eb))),
    )

-- writer::put(out, h)
pub returns-in-None-None : goal.returns-in-None-None
returns-in-None-None c =
    let args = c.args in
    let none = c.in-None-None in
    let is_not : SegmentIs c.args.h.now false = rw none.is-0 at c.segment_of.ensures in
    let put = c.put in
    λ a b ea eb.
    subst (λ (x : List ℕ). Written x args.out.now put.result put.new.out)
    (no_segment args.h.now args.i.now a b ea (sym (is_not a ea)) (sym (none.ensures b eb))) put.ensures
