use mathlib.Core.Path.{refl}
use lib.ListN.{length}
use native.Mathlib.Omega.{arith}
use borrow.Author.Rules.{rules}
use borrow.Author.Tests.{tests}
use Rattle.std.proofs.lemmas.Iterator.{YieldsList-from_range}
use Rattle.std.proofs.lemmas.Iterator.Search.{all_from_yields_List}
use Rattle.overlap.proofs.RangeLaws.{is_open, all_open_is}
use Rattle.overlap.proofs.all_open.Goals as goal

-- (0..s.markers.len()).all(|i| !is_closed(t, s, i))
pub returns : goal.returns
returns c =
    let t = c.args.t.now in
    let markers = c.args.s.markers.now in
    all_open_is t markers c.all.result
    (all_from_yields_List (is_open t markers) _ _ c.all.result c.all.ensures.ran
    (YieldsList-from_range 0 (length markers) (length markers) refl (omega arith)) (λ i b q is. search (rules, tests)))
