use mathlib.Core.Path.{◌∙◌, ap, sym}
use native.Mathlib.Omega.{arith}
use Rattle.orders.proofs.WalkLaws.{few_parts}
use Rattle.xliff.specs.Parse.{unit}
use Rattle.xliff.specs.Item.{Content}
use Rattle.xliff.specs.Rewrite.{find_whole}
use Rattle.whole_pair.specs.Pairs.{pair_of}
use Rattle.whole_pair.proofs.SequenceLaws.{of_source, of_target}
use Rattle.whole_pair.proofs.find.Goals as goal

-- return in_source(t, id)
pub returns-then-side-eq83 : goal.returns-then-side-eq83
returns-then-side-eq83 c =
    let args = c.args in
    c.in_source.ensures
    ∙ ap (λ (l : Content). pair_of (find_whole args.id l))
    (sym (of_source args.side (unit args.t.now).parts c.if-side-eq83.true))

-- narrow(orders::count_parts(t))
pub narrow-requires : goal.narrow-requires
narrow-requires c =
    omega (arith, c.count_parts.ensures, few_parts c.args.t.now c.requires.0)

-- in_target(t, narrow(orders::count_parts(t)), id)
pub in_target-requires : goal.in_target-requires
in_target-requires c =
    let pre = c.requires in
    let count-parts = c.count_parts in (
      pre.0,
      pre.1,
      c.narrow.ensures ∙ count-parts.ensures,
      omega (arith, c.narrow.ensures, count-parts.ensures, few_parts c.args.t.now pre.0),
    )

-- in_target(t, narrow(orders::count_parts(t)), id)
pub returns : goal.returns
returns c =
    let args = c.args in
    let if1 = c.if-side-eq83 in
    c.in_target.ensures
    ∙ ap (λ (l : Content). pair_of (find_whole args.id l))
    (sym (of_target args.side (unit args.t.now).parts if1.false))
