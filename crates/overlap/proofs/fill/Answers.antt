use Rattle.id_links.proofs.Scans.{previous_none}
use Rattle.id_links.specs.Links.{in_group}
use lib.ListN.{get_or-replicate}
use mathlib.Core.List.{[]}
use mathlib.Core.Path.{◌∙◌, sym}
use Rattle.std.proofs.Common.{rules}
use Rattle.overlap.proofs.fill.Goals as goal

-- id_links::link_before(keys, &mut links, &mut heads)
pub link_before-requires : goal.link_before-requires
link_before-requires c =
    let pre = c.requires in
    (pre.0, search rules, search rules, λ g l. get_or-replicate 256 g 0 0 l ∙ sym (previous_none (in_group [] g)))

-- the arrays
pub returns : goal.returns
returns c =
    let pre = c.requires in (
      c.fill_by.ensures.room ∙ pre.1,
      c.fill_by-2.ensures.room ∙ pre.2,
      (
        λ k h. let told = c.fill_by.ensures.filled k h in cc,
        λ k h. let told = c.fill_by-2.ensures.filled k h in cc,
      ),
    )
