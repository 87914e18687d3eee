use Rattle.split_result.proofs.ResultLaws.{rises_is, split_pieces}
use Rattle.parts.proofs.PlaceLaws.{before_in, behind_in}
use Rattle.parts.proofs.OrderLaws.{parts_room}
use Rattle.parts.specs.Parts.{moved}
use Rattle.part_at.proofs.SliceLaws.{end_within}
use Rattle.writer.specs.Pieces.{rest, back}
use Rattle.writer.proofs.RunLaws.{first_room, second_start, second_room, two_fit, third_start, third_room, three_fit, all_wrote}
use native.Mathlib.Omega.{arith}
use lib.ListN.{length, take, drop}
use mathlib.Core.Bool.{true}
use mathlib.Core.Path.{◌∙◌}
use Prim.Native.Nat.{◌+◌, ◌-◌}
use Rattle.split_result.proofs.put_split_parts.Goals as goal

-- parts::put_parts(out, &t[marks::UNIT_WIDTH..h], q, true)
pub put_parts-n-requires : goal.put_parts-n-requires
put_parts-n-requires c =
    let args = c.args in
    let place = args.place in
    let t = args.t.now in
    let out = args.out.now in
    let known = c.shared_slice_known-1.given in
    let rises_above = c.rises_above-q in
    let (v, b, p, a, s, room) = c.requires in
    let the-before-in = before_in t known v b p a place s in
    parts_room (moved true rises_above.result) (take (place.head - 3) (drop 3 t)) b the-before-in out
    (first_room (split_pieces args.cuts.source args.cuts.target args.cuts.new_id b p a the-before-in.1
    (behind_in t known v b p a place s).1 rises_above.result
    (rises_above.ensures ∙ rises_is t place p.target s.target)) out room)

-- &mut out[n..]
pub slice_bounds-put_split_part-count : goal.slice_bounds-put_split_part-count
slice_bounds-put_split_part-count c =
    let args = c.args in
    let t = args.t.now in
    let place = args.place in
    let known = c.shared_slice_known-1.given in
    let rises_above = c.rises_above-q in
    let (v, b, p, a, s, room) = c.requires in
    let the-before-in = before_in t known v b p a place s in
    second_start (split_pieces args.cuts.source args.cuts.target args.cuts.new_id b p a the-before-in.1
    (behind_in t known v b p a place s).1 rises_above.result
    (rises_above.ensures ∙ rises_is t place p.target s.target)) args.out.now room
    (c.put_parts-n.ensures b the-before-in)

-- &mut out[n..]
pub slice_bounds-put_split_part-start : goal.slice_bounds-put_split_part-start
slice_bounds-put_split_part-start c =
    let args = c.args in
    let t = args.t.now in
    let place = args.place in
    let known = c.shared_slice_known-1.given in
    let rises_above = c.rises_above-q in
    let (v, b, p, a, s, room) = c.requires in
    let the-before-in = before_in t known v b p a place s in
    second_start (split_pieces args.cuts.source args.cuts.target args.cuts.new_id b p a the-before-in.1
    (behind_in t known v b p a place s).1 rises_above.result
    (rises_above.ensures ∙ rises_is t place p.target s.target)) args.out.now room
    (c.put_parts-n.ensures b the-before-in)

-- put_split_part(&mut out[n..], t, place, cuts)
pub put_split_part-m-requires : goal.put_split_part-m-requires
put_split_part-m-requires c =
    let args = c.args in
    let t = args.t.now in
    let place = args.place in
    let known = c.shared_slice_known-1.given in
    let rises_above = c.rises_above-q in
    let put-parts = c.put_parts-n in
    let (v, b, p, a, s, room) = c.requires in
    let the-before-in = before_in t known v b p a place s in (
      v,
      b,
      p,
      a,
      s,
      second_room (split_pieces args.cuts.source args.cuts.target args.cuts.new_id b p a the-before-in.1
          (behind_in t known v b p a place s).1 rises_above.result
          (rises_above.ensures ∙ rises_is t place p.target s.target)) args.out.now room
          (put-parts.ensures b the-before-in),
    )

-- n + m
pub overflow_add-l : goal.overflow_add-l
overflow_add-l c =
    let args = c.args in
    let t = args.t.now in
    let place = args.place in
    let known = c.shared_slice_known-1.given in
    let rises_above = c.rises_above-q in
    let put-parts = c.put_parts-n in
    let (v, b, p, a, s, room) = c.requires in
    let the-before-in = before_in t known v b p a place s in
    omega (
      arith,
      two_fit (split_pieces args.cuts.source args.cuts.target args.cuts.new_id b p a the-before-in.1
          (behind_in t known v b p a place s).1 rises_above.result
          (rises_above.ensures ∙ rises_is t place p.target s.target)) args.out.now room
          (put-parts.ensures b the-before-in) (c.put_split_part-m.ensures b p a s),
    )

-- &mut out[l..]
pub slice_bounds-put_parts-count-2 : goal.slice_bounds-put_parts-count-2
slice_bounds-put_parts-count-2 c =
    let args = c.args in
    let t = args.t.now in
    let place = args.place in
    let known = c.shared_slice_known-1.given in
    let rises_above = c.rises_above-q in
    let put-parts = c.put_parts-n in
    let (v, b, p, a, s, room) = c.requires in
    let the-before-in = before_in t known v b p a place s in
    third_start (split_pieces args.cuts.source args.cuts.target args.cuts.new_id b p a the-before-in.1
    (behind_in t known v b p a place s).1 rises_above.result
    (rises_above.ensures ∙ rises_is t place p.target s.target)) args.out.now room
    (put-parts.ensures b the-before-in) (c.put_split_part-m.ensures b p a s)

-- &mut out[l..]
pub slice_bounds-put_parts-start-2 : goal.slice_bounds-put_parts-start-2
slice_bounds-put_parts-start-2 c =
    let args = c.args in
    let t = args.t.now in
    let place = args.place in
    let known = c.shared_slice_known-1.given in
    let rises_above = c.rises_above-q in
    let put-parts = c.put_parts-n in
    let (v, b, p, a, s, room) = c.requires in
    let the-before-in = before_in t known v b p a place s in
    third_start (split_pieces args.cuts.source args.cuts.target args.cuts.new_id b p a the-before-in.1
    (behind_in t known v b p a place s).1 rises_above.result
    (rises_above.ensures ∙ rises_is t place p.target s.target)) args.out.now room
    (put-parts.ensures b the-before-in) (c.put_split_part-m.ensures b p a s)

-- &t[f..e]
pub slice_bounds-put_parts-count-3 : goal.slice_bounds-put_parts-count-3
slice_bounds-put_parts-count-3 c =
    let (v, b, p, a, s, room) = c.requires in
    omega (arith, end_within c.args.t.now b p a c.args.place s)

-- &t[f..e]
pub slice_bounds-put_parts-start-3 : goal.slice_bounds-put_parts-start-3
slice_bounds-put_parts-start-3 c =
    let (v, b, p, a, s, room) = c.requires in
    omega (arith, end_within c.args.t.now b p a c.args.place s)

-- parts::put_parts(&mut out[l..], &t[f..e], q, true)
pub put_parts-i-requires : goal.put_parts-i-requires
put_parts-i-requires c =
    let known = c.shared_slice_known-1.given in
    let rises_above = c.rises_above-q in
    let put-parts = c.put_parts-n in
    let put-split-part = c.put_split_part-m in
    let (v, b, p, a, s, room) = c.requires in
    let the-before-in = before_in c.args.t.now known v b p a c.args.place s in
    let the-behind-in = behind_in c.args.t.now known v b p a c.args.place s in
    parts_room (moved true rises_above.result)
    (take (length c.args.t.now - 2 - c.args.place.end)
    (drop c.args.place.end c.args.t.now)) a the-behind-in
    (rest (put-parts.result + put-split-part.result)
    (back put-parts.result put-parts.new.out put-split-part.new.out))
    (third_room (split_pieces c.args.cuts.source c.args.cuts.target c.args.cuts.new_id b p a the-before-in.1
    the-behind-in.1 rises_above.result
    (rises_above.ensures ∙ rises_is c.args.t.now c.args.place p.target s.target))
    c.args.out.now room (put-parts.ensures b the-before-in) (put-split-part.ensures b p a s))

-- l + i
pub overflow_add-result : goal.overflow_add-result
overflow_add-result c =
    let args = c.args in
    let t = args.t.now in
    let place = args.place in
    let known = c.shared_slice_known-1.given in
    let rises_above = c.rises_above-q in
    let put-parts = c.put_parts-n in
    let put-split-part = c.put_split_part-m in
    let (v, b, p, a, s, room) = c.requires in
    let the-behind-in = behind_in t known v b p a place s in
    let the-before-in = before_in t known v b p a place s in
    omega (
      arith,
      three_fit (split_pieces args.cuts.source args.cuts.target args.cuts.new_id b p a the-before-in.1 the-behind-in.1
          rises_above.result (rises_above.ensures ∙ rises_is t place p.target s.target)) args.out.now
          room (put-parts.ensures b the-before-in) (put-split-part.ensures b p a s)
          (c.put_parts-i.ensures a the-behind-in).0,
    )

-- l + i
pub returns : goal.returns
returns c =
    let args = c.args in
    let t = args.t.now in
    let place = args.place in
    let known = c.shared_slice_known-1.given in
    let rises_above = c.rises_above-q in
    let put-parts = c.put_parts-n in
    let put-split-part = c.put_split_part-m in
    λ b p a s.
    let v = c.requires.0 in
    let the-behind-in = behind_in t known v b p a place s in
    let the-before-in = before_in t known v b p a place s in
    all_wrote (split_pieces args.cuts.source args.cuts.target args.cuts.new_id b p a the-before-in.1 the-behind-in.1
    rises_above.result (rises_above.ensures ∙ rises_is t place p.target s.target)) args.out.now
    (put-parts.ensures b the-before-in) (put-split-part.ensures b p a s)
    (c.put_parts-i.ensures a the-behind-in)
