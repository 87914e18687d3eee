use Rattle.joined_part.proofs.TargetLaws.{neither_wrote, first_alone, second_alone, both_pieces, contents_room, alone_room, alone_wrote}
use Rattle.joined_part.specs.Joined.{target_bytes}
use Rattle.part_at.proofs.TargetLaws.{present}
use Rattle.writer.specs.Pieces.{rest}
use Rattle.writer.proofs.RunLaws.{first_room, second_start, second_room, two_fit, both_wrote}
use native.Mathlib.Omega.{arith}
use mathlib.Core.Path.{refl}
use Rattle.joined_part.proofs.put_joined_target.Goals as goal

-- return 0
pub returns-then-k-eq0 : goal.returns-then-k-eq0
returns-then-k-eq0 c =
    let args = c.args in
    λ g k a b.
    neither_wrote args.order args.g.now args.k.now g k a b c.if-g-eq0.true c.if-k-eq0.true
    args.out.now

-- &k[marks::TARGET_WIDTH..]
pub slice_bounds-put_target-count : goal.slice_bounds-put_target-count
slice_bounds-put_target-count c =
    let (g, k, a, b, small, room) = c.requires in
    (present c.args.k.now k c.if-k-eq0.false b).least

-- &k[marks::TARGET_WIDTH..]
pub slice_bounds-put_target-start : goal.slice_bounds-put_target-start
slice_bounds-put_target-start c =
    let (g, k, a, b, small, room) = c.requires in
    omega (arith, (present c.args.k.now k c.if-k-eq0.false b).least)

-- heads::put_target(out, order, &k[marks::TARGET_WIDTH..])
pub put_target-requires : goal.put_target-requires
put_target-requires c =
    let args = c.args in
    let order = args.order in
    let k₀ = args.k.now in
    let if1 = c.if-g-eq0 in
    let (g, k, a, b, small, room) = c.requires in
    alone_room order (rest 4 k₀) (target_bytes order g k)
    (second_alone order args.g.now k₀ g k a b if1.true (present k₀ k c.if-k-eq0.false b))
    args.out.now room

-- return heads::put_target(out, order, &k[marks::TARGET_WIDTH..])
pub returns-then-g-eq0 : goal.returns-then-g-eq0
returns-then-g-eq0 c =
    let args = c.args in
    let order = args.order in
    let k₀ = args.k.now in
    let if1 = c.if-g-eq0 in
    let if2 = c.if-k-eq0 in
    let put-target = c.put_target in
    λ g k a b.
    alone_wrote order (rest 4 k₀) (target_bytes order g k)
    (second_alone order args.g.now k₀ g k a b if1.true (present k₀ k if2.false b)) args.out.now
    put-target.new.out put-target.result put-target.ensures

-- &g[marks::TARGET_WIDTH..]
pub slice_bounds-put_target-count-then-k-eq0-2 : goal.slice_bounds-put_target-count-then-k-eq0-2
slice_bounds-put_target-count-then-k-eq0-2 c =
    let (g, k, a, b, small, room) = c.requires in
    (present c.args.g.now g c.if-g-eq0.false a).least

-- &g[marks::TARGET_WIDTH..]
pub slice_bounds-put_target-start-then-k-eq0-2 : goal.slice_bounds-put_target-start-then-k-eq0-2
slice_bounds-put_target-start-then-k-eq0-2 c =
    let (g, k, a, b, small, room) = c.requires in
    omega (arith, (present c.args.g.now g c.if-g-eq0.false a).least)

-- heads::put_target(out, order, &g[marks::TARGET_WIDTH..])
pub put_target-requires-then-k-eq0-2 : goal.put_target-requires-then-k-eq0-2
put_target-requires-then-k-eq0-2 c =
    let args = c.args in
    let order = args.order in
    let g₀ = args.g.now in
    let if1 = c.if-g-eq0 in
    let (g, k, a, b, small, room) = c.requires in
    alone_room order (rest 4 g₀) (target_bytes order g k)
    (first_alone order g₀ args.k.now g k a b (present g₀ g if1.false a) c.if-k-eq0-2.true)
    args.out.now room

-- return heads::put_target(out, order, &g[marks::TARGET_WIDTH..])
pub returns-then-k-eq0-2 : goal.returns-then-k-eq0-2
returns-then-k-eq0-2 c =
    let args = c.args in
    let order = args.order in
    let g₀ = args.g.now in
    let if1 = c.if-g-eq0 in
    let if3 = c.if-k-eq0-2 in
    let put-target2 = c.put_target-then-k-eq0-2 in
    λ g k a b.
    alone_wrote order (rest 4 g₀) (target_bytes order g k)
    (first_alone order g₀ args.k.now g k a b (present g₀ g if1.false a) if3.true) args.out.now
    put-target2.new.out put-target2.result put-target2.ensures

-- heads::put_target_head(out, order)
pub put_target_head-n-requires : goal.put_target_head-n-requires
put_target_head-n-requires c =
    let args = c.args in
    let g₀ = args.g.now in
    let k₀ = args.k.now in
    let (g, k, a, b, small, room) = c.requires in
    first_room (both_pieces args.order g₀ k₀ g k (present g₀ g c.if-g-eq0.false a)
    (present k₀ k c.if-k-eq0-2.false b)) args.out.now room

-- &mut out[n..]
pub slice_bounds-put_joined-count : goal.slice_bounds-put_joined-count
slice_bounds-put_joined-count c =
    let args = c.args in
    let g₀ = args.g.now in
    let k₀ = args.k.now in
    let if1 = c.if-g-eq0 in
    let if3 = c.if-k-eq0-2 in
    let (g, k, a, b, small, room) = c.requires in
    second_start (both_pieces args.order g₀ k₀ g k (present g₀ g if1.false a) (present k₀ k if3.false b))
    args.out.now room c.put_target_head-n.ensures

-- &mut out[n..]
pub slice_bounds-put_joined-start : goal.slice_bounds-put_joined-start
slice_bounds-put_joined-start c =
    let args = c.args in
    let g₀ = args.g.now in
    let k₀ = args.k.now in
    let if1 = c.if-g-eq0 in
    let if3 = c.if-k-eq0-2 in
    let (g, k, a, b, small, room) = c.requires in
    second_start (both_pieces args.order g₀ k₀ g k (present g₀ g if1.false a) (present k₀ k if3.false b))
    args.out.now room c.put_target_head-n.ensures

-- &g[marks::TARGET_WIDTH..]
pub slice_bounds-put_joined-count-2 : goal.slice_bounds-put_joined-count-2
slice_bounds-put_joined-count-2 c =
    let if1 = c.if-g-eq0 in
    let (g, k, a, b, small, room) = c.requires in
    (present c.args.g.now g if1.false a).least

-- &g[marks::TARGET_WIDTH..]
pub slice_bounds-put_joined-start-2 : goal.slice_bounds-put_joined-start-2
slice_bounds-put_joined-start-2 c =
    let if1 = c.if-g-eq0 in
    let (g, k, a, b, small, room) = c.requires in
    omega (arith, (present c.args.g.now g if1.false a).least)

-- &k[marks::TARGET_WIDTH..]
pub slice_bounds-put_joined-count-3 : goal.slice_bounds-put_joined-count-3
slice_bounds-put_joined-count-3 c =
    let if3 = c.if-k-eq0-2 in
    let (g, k, a, b, small, room) = c.requires in
    (present c.args.k.now k if3.false b).least

-- &k[marks::TARGET_WIDTH..]
pub slice_bounds-put_joined-start-3 : goal.slice_bounds-put_joined-start-3
slice_bounds-put_joined-start-3 c =
    let if3 = c.if-k-eq0-2 in
    let (g, k, a, b, small, room) = c.requires in
    omega (arith, (present c.args.k.now k if3.false b).least)

-- joined_content::put_joined(&mut out[n..], &g[marks::TARGET_WIDTH..], &k[marks::TARGET_WIDTH..])
pub put_joined-m-requires : goal.put_joined-m-requires
put_joined-m-requires c =
    let args = c.args in
    let order = args.order in
    let g₀ = args.g.now in
    let k₀ = args.k.now in
    let if1 = c.if-g-eq0 in
    let if3 = c.if-k-eq0-2 in
    let put-target-head = c.put_target_head-n in
    let (g, k, a, b, small, room) = c.requires in
    contents_room order g₀ k₀ g k (present g₀ g if1.false a) (present k₀ k if3.false b)
    (rest put-target-head.result put-target-head.new.out) small
    (second_room (both_pieces order g₀ k₀ g k (present g₀ g if1.false a) (present k₀ k if3.false b))
    args.out.now room put-target-head.ensures)

-- n + m
pub overflow_add-result : goal.overflow_add-result
overflow_add-result c =
    let args = c.args in
    let g₀ = args.g.now in
    let k₀ = args.k.now in
    let if1 = c.if-g-eq0 in
    let if3 = c.if-k-eq0-2 in
    let put-target-head = c.put_target_head-n in
    let (g, k, a, b, small, room) = c.requires in
    omega (
      arith,
      two_fit (both_pieces args.order g₀ k₀ g k (present g₀ g if1.false a) (present k₀ k if3.false b))
          args.out.now room put-target-head.ensures
          (c.put_joined-m.ensures (present g₀ g if1.false a).items
          (present k₀ k if3.false b).items (present g₀ g if1.false a).holds
          (present k₀ k if3.false b).holds),
    )

-- n + m
pub returns : goal.returns
returns c =
    let args = c.args in
    let g₀ = args.g.now in
    let k₀ = args.k.now in
    let if1 = c.if-g-eq0 in
    let if3 = c.if-k-eq0-2 in
    let put-target-head = c.put_target_head-n in
    λ g k a b.
    both_wrote (both_pieces args.order g₀ k₀ g k (present g₀ g if1.false a) (present k₀ k if3.false b))
    args.out.now put-target-head.ensures
    (c.put_joined-m.ensures (present g₀ g if1.false a).items
    (present k₀ k if3.false b).items (present g₀ g if1.false a).holds
    (present k₀ k if3.false b).holds) refl
