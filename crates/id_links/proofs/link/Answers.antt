use Prim.Native.Nat.{ℕ, ◌+◌}
use mathlib.Core.Path.{ap}
use lib.ListN.{set, get_or}
use Rattle.id_links.proofs.link.Goals as goal

-- heads[g] = (n + 1) as u16
pub returns : goal.returns
returns c =
    let args = c.args in
    let n = args.n in
    let heads = args.heads.now in
    let Group-of = c.group_of-g in (
      ap (λ (g : ℕ). set args.links.now n (get_or heads g 0)) Group-of.ensures.0,
      ap (λ (g : ℕ). set heads g (n + 1)) Group-of.ensures.0,
    )
