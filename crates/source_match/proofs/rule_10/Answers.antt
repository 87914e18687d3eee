use native.Mathlib.Omega.{arith}
use mathlib.Core.Path.{◌∙◌, sym}
use lib.ListN.{get_or-replicate}
use Rattle.id_links.proofs.Scans.{previous_none}
use Rattle.halves.proofs.Others.{keys_long}
use Rattle.source_match.proofs.TenLaws.{rule_10_is}
use borrow.Author.Rules.{rules}
use Rattle.source_match.proofs.rule_10.Goals as goal

-- id_links::link_before(source.keys, &mut links, &mut heads)
pub link_before-requires : goal.link_before-requires
link_before-requires c =
    let pre = c.requires in (
      omega (arith, keys_long c.args.t.now c.args.source.markers.now _ pre.2, pre.5),
      search rules,
      search rules,
      λ g l. get_or-replicate 256 g 0 0 l ∙ sym (previous_none _),
    )

-- ten_source(t, source)
pub ten_source-requires : goal.ten_source-requires
ten_source-requires c =
    let pre = c.requires in
    pre.2

-- ten_target(t, items, target, ten_source(t, source))
pub ten_target-requires : goal.ten_target-requires
ten_target-requires c =
    let pre = c.requires in
    pre.4

-- ten_target(t, items, target, ten_source(t, source))
pub returns : goal.returns
returns c =
    let args = c.args in
    let pre = c.requires in
    let ten-source = c.ten_source in
    rule_10_is args.t.now args.source.markers.now args.target.markers.now ten-source.result c.ten_target.result
    pre.0 pre.1 pre.3 ten-source.ensures c.ten_target.ensures
