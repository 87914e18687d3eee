use Rattle.partners.specs.Partners.{only_half}
use Rattle.xliff.proofs.lists.Slices.{tail_is}
use Rattle.partners.proofs.ScanLaws.{any_reverse}
use lib.ListN.{length-take}
use native.Mathlib.Omega.{arith}
use borrow.Author.Rules.{rules}
use Rattle.partners.proofs.only_half.Goals as goal

-- &keys[..i]
pub slice_bounds-any_half-end : goal.slice_bounds-any_half-end
unfolding only_half
slice_bounds-any_half-end c =
    let args = c.args in
    omega (arith, length-take args.i args.keys.now)

-- none before it, and none behind it
pub returns : goal.returns
unfolding only_half
returns c =
    simp (
      c.any_half.ensures,
      c.any_half-2.ensures,
      c.id_of-id.ensures,
      tail_is,
      any_reverse,
    )

pub id_of-id-requires : goal.id_of-id-requires
unfolding only_half
id_of-id-requires c = search rules

pub any_half-requires : goal.any_half-requires
unfolding only_half
any_half-requires c = search rules

pub any_half-requires-2 : goal.any_half-requires-2
unfolding only_half
any_half-requires-2 c = search rules
