use Rattle.table.specs.Meaning.{segment_meaning}
use Rattle.heads.proofs.HeadLaws.{segment_long, segment_wrote}
use native.Mathlib.Omega.{arith}
use Rattle.heads.proofs.put_segment.Goals as goal

-- writer::put_mark(out, 0, b"SG")
pub put_mark-m-requires : goal.put_mark-m-requires
put_mark-m-requires c =
    let f = c.args.f in
    omega (arith, segment_long (segment_meaning f))

-- writer::put_number(out, m, f.id)
pub put_number-n-requires : goal.put_number-n-requires
put_number-n-requires c =
    let f = c.args.f in
    let put-mark = c.put_mark-m in
    omega (arith, put-mark.ensures.0, segment_long (segment_meaning f))

-- writer::put_byte(out, n, f.can_resegment)
pub put_byte-k-requires : goal.put_byte-k-requires
put_byte-k-requires c =
    let f = c.args.f in
    let put-mark = c.put_mark-m in
    let put-number = c.put_number-n in
    omega (arith, put-mark.ensures.0, put-number.ensures.0, segment_long (segment_meaning f))

-- writer::put_byte(out, k, f.state)
pub put_byte-requires : goal.put_byte-requires
put_byte-requires c =
    let f = c.args.f in
    let put-mark = c.put_mark-m in
    let put-number = c.put_number-n in
    let put_byte = c.put_byte-k in
    omega (arith, put-mark.ensures.0, put-number.ensures.0, put_byte.ensures.0, segment_long (segment_meaning f))

-- writer::put_byte(out, k, f.state)
pub returns : goal.returns
returns c =
    let args = c.args in
    let f = args.f in
    let put-mark = c.put_mark-m in
    let put-number = c.put_number-n in
    let put_byte = c.put_byte-k in
    let put-byte2 = c.put_byte in (
      omega (
        arith,
        put-mark.ensures.0,
        put-number.ensures.0,
        put_byte.ensures.0,
        put-byte2.ensures.0,
        segment_long (segment_meaning f),
      ),
      segment_wrote f args.out.now put-mark.new.out put-number.new.out put_byte.new.out
          put-byte2.new.out put-mark.result put-number.result put_byte.result put-mark.ensures.0
          put-mark.ensures.1 put-number.ensures.0 put-number.ensures.1 put_byte.ensures.0
          put_byte.ensures.1 put-byte2.ensures.1,
    )
