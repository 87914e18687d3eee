use Prim.Native.Nat.{◌+◌}
use mathlib.Core.Path.{◌≡◌, refl, ap₂}
use lib.ListN.{length}
use native.Mathlib.Omega.{arith}
use Rattle.xliff.specs.Encode.{content_records}
use Rattle.xliff.proofs.lists.Slices.{tail_room}
use Rattle.joined_content.proofs.JoinLaws.{no_seam, seam_at, some_seam, join_fits, join_apart, join_touching}
use Rattle.joined_content.proofs.put_joined.Goals as goal

-- both are contents
pub seam-found-requires : goal.seam-found-requires
seam-found-requires c =
    let pre = c.requires in
    let (xs, ys, o, q, small, room) = pre in
    ((content_records xs, o), (content_records ys, q))

-- room for the first
pub put-n-requires : goal.put-n-requires
put-n-requires c =
    let args = c.args in
    let pre = c.requires in
    let (n, seam) = some_seam _ _ _ c.seam-found.ensures in
    (join_fits args.a.now args.b.now n seam args.out.now pre).first_room

-- `&mut out[n..]`
pub slice_bounds-put-count : goal.slice_bounds-put-count
slice_bounds-put-count c =
    let args = c.args in
    let pre = c.requires in
    let (n, seam) = some_seam _ _ _ c.seam-found.ensures in
    let put = c.put-n in
    omega (arith, (join_fits args.a.now args.b.now n seam args.out.now pre).first_room, put.ensures.0)

-- the same
pub slice_bounds-put-start : goal.slice_bounds-put-start
slice_bounds-put-start c =
    let args = c.args in
    let pre = c.requires in
    let (n, seam) = some_seam _ _ _ c.seam-found.ensures in
    let put = c.put-n in
    omega (arith, (join_fits args.a.now args.b.now n seam args.out.now pre).first_room, put.ensures.0)

-- room for the second behind it
pub put-m-requires : goal.put-m-requires
put-m-requires c =
    let args = c.args in
    let pre = c.requires in
    let seam = c.seam-found in
    let put = c.put-n in
    let apart = no_seam _ _ _ seam.ensures c.in_default.is in
    tail_room put.new.out put.result _
    (omega (
      arith,
      (join_fits args.a.now args.b.now _ apart args.out.now pre).both_room refl,
      put.ensures.0,
    ))

-- side by side
pub returns-in_default : goal.returns-in_default
returns-in_default c =
    let args = c.args in
    let seam = c.seam-found in
    let put = c.put-n in
    let apart = no_seam _ _ _ seam.ensures c.in_default.is in
    let put2 = c.put-m in
    join_apart args.a.now args.b.now _ apart args.out.now put.new.out put2.new.out
    put.result put2.result
    refl put.ensures.0 put.ensures.1 put2.ensures.0 put2.ensures.1

-- `p + 2`
pub overflow_add-p : goal.overflow_add-p
overflow_add-p c =
    let args = c.args in
    let pre = c.requires in
    let seam = c.seam-found in
    let (touching, within) = seam_at _ _ _ c.in-Some.p seam.ensures c.in-Some.is in
    let if1 : c.in-Some.p ≡ length args.a.now → ⊥ = λ e. omega (arith, e, within) in
    omega (arith, ((join_fits args.a.now args.b.now c.in-Some.p touching args.out.now pre).touching if1).first_fit)

-- the first text's length is there
pub number_at-requires : goal.number_at-requires
number_at-requires c =
    let args = c.args in
    let pre = c.requires in
    let seam = c.seam-found in
    let (touching, within) = seam_at _ _ _ c.in-Some.p seam.ensures c.in-Some.is in
    let if1 : c.in-Some.p ≡ length args.a.now → ⊥ = λ e. omega (arith, e, within) in
    omega (arith, ((join_fits args.a.now args.b.now c.in-Some.p touching args.out.now pre).touching if1).first_fit)

-- the second text's length is there
pub number_at-requires-2 : goal.number_at-requires-2
number_at-requires-2 c =
    let args = c.args in
    let pre = c.requires in
    let seam = c.seam-found in
    let (touching, within) = seam_at _ _ _ c.in-Some.p seam.ensures c.in-Some.is in
    let if1 : c.in-Some.p ≡ length args.a.now → ⊥ = λ e. omega (arith, e, within) in
    ((join_fits args.a.now args.b.now c.in-Some.p touching args.out.now pre).touching if1).second_fit

-- the sum of the lengths
pub overflow_add-x : goal.overflow_add-x
overflow_add-x c =
    let args = c.args in
    let pre = c.requires in
    let seam = c.seam-found in
    let (touching, within) = seam_at _ _ _ c.in-Some.p seam.ensures c.in-Some.is in
    let if1 : c.in-Some.p ≡ length args.a.now → ⊥ = λ e. omega (arith, e, within) in
    let number_at = c.number_at in
    let number-at2 = c.number_at-2 in
    omega (
      arith,
      ((join_fits args.a.now args.b.now c.in-Some.p touching
          args.out.now pre).touching if1).sum_small,
      number_at.ensures,
      number-at2.ensures,
    )

-- `p + 2`
pub overflow_add-p-2 : goal.overflow_add-p-2
overflow_add-p-2 c =
    let args = c.args in
    let pre = c.requires in
    let seam = c.seam-found in
    let (touching, within) = seam_at _ _ _ c.in-Some.p seam.ensures c.in-Some.is in
    let if1 : c.in-Some.p ≡ length args.a.now → ⊥ = λ e. omega (arith, e, within) in
    omega (arith, ((join_fits args.a.now args.b.now c.in-Some.p touching args.out.now pre).touching if1).first_fit)

-- it is written within the first content
pub put_number-q-requires : goal.put_number-q-requires
put_number-q-requires c =
    let args = c.args in
    let pre = c.requires in
    let seam = c.seam-found in
    let (touching, within) = seam_at _ _ _ c.in-Some.p seam.ensures c.in-Some.is in
    let if1 : c.in-Some.p ≡ length args.a.now → ⊥ = λ e. omega (arith, e, within) in
    omega (
      arith,
      ((join_fits args.a.now args.b.now c.in-Some.p touching
          args.out.now pre).touching if1).first_fit,
      (join_fits args.a.now args.b.now c.in-Some.p touching args.out.now pre).first_room,
    )

-- `&mut out[n..]`
pub slice_bounds-put-count-2 : goal.slice_bounds-put-count-2
slice_bounds-put-count-2 c =
    let args = c.args in
    let pre = c.requires in
    let (n, seam) = some_seam _ _ _ c.seam-found.ensures in
    let put = c.put-n in
    omega (arith, (join_fits args.a.now args.b.now n seam args.out.now pre).first_room, put.ensures.0)

-- the same
pub slice_bounds-put-start-2 : goal.slice_bounds-put-start-2
slice_bounds-put-start-2 c =
    let args = c.args in
    let pre = c.requires in
    let (n, seam) = some_seam _ _ _ c.seam-found.ensures in
    let put = c.put-n in
    omega (arith, (join_fits args.a.now args.b.now n seam args.out.now pre).first_room, put.ensures.0)

-- `&b[4..]`
pub slice_bounds-put-count-3 : goal.slice_bounds-put-count-3
slice_bounds-put-count-3 c =
    let args = c.args in
    let pre = c.requires in
    let seam = c.seam-found in
    let (touching, within) = seam_at _ _ _ c.in-Some.p seam.ensures c.in-Some.is in
    let if1 : c.in-Some.p ≡ length args.a.now → ⊥ = λ e. omega (arith, e, within) in
    ((join_fits args.a.now args.b.now c.in-Some.p touching args.out.now pre).touching if1).second_fit

-- the same
pub slice_bounds-put-start-3 : goal.slice_bounds-put-start-3
slice_bounds-put-start-3 c =
    let args = c.args in
    let pre = c.requires in
    let seam = c.seam-found in
    let (touching, within) = seam_at _ _ _ c.in-Some.p seam.ensures c.in-Some.is in
    let if1 : c.in-Some.p ≡ length args.a.now → ⊥ = λ e. omega (arith, e, within) in
    omega (arith, ((join_fits args.a.now args.b.now c.in-Some.p touching args.out.now pre).touching if1).second_fit)

-- room for the rest of the second
pub put-m-requires-2 : goal.put-m-requires-2
put-m-requires-2 c =
    let args = c.args in
    let pre = c.requires in
    let seam = c.seam-found in
    let put = c.put-n in
    let (touching, within) = seam_at _ _ _ c.in-Some.p seam.ensures c.in-Some.is in
    let if1 : c.in-Some.p ≡ length args.a.now → ⊥ = λ e. omega (arith, e, within) in
    let put-number = c.put_number-q in
    tail_room put-number.new.out put.result _
    (omega (
      arith,
      ((join_fits args.a.now args.b.now c.in-Some.p touching
          args.out.now pre).touching if1).rest_room,
      put.ensures.0,
    ))

-- touching texts are one
pub returns : goal.returns
returns c =
    let args = c.args in
    let pre = c.requires in
    let seam = c.seam-found in
    let put = c.put-n in
    let (touching, within) = seam_at _ _ _ c.in-Some.p seam.ensures c.in-Some.is in
    let if1 : c.in-Some.p ≡ length args.a.now → ⊥ = λ e. omega (arith, e, within) in
    let number_at = c.number_at in
    let number-at2 = c.number_at-2 in
    let put-number = c.put_number-q in
    let put3 = c.put-m-2 in
    let sum = ap₂ ◌+◌ number_at.ensures number-at2.ensures in
    join_touching args.a.now args.b.now c.in-Some.p touching args.out.now put.new.out put-number.new.out
    put3.new.out
    put.result _ put3.result pre if1 put.ensures.0 put.ensures.1 sum put-number.ensures.1 put3.ensures.0
    put3.ensures.1
