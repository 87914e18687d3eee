use Rattle.letters.proofs.TestLaws.{no_end, no_start, with_start}
use Rattle.halves.proofs.Others.{key_there, view_there}
use Rattle.halves.specs.Nearest.{half_before}
use borrow.Author.Tests.{not-true, not-false}
use native.Mathlib.Omega.{arith}
use mathlib.Core.Path.{◌∙◌, sym, ap}
use mathlib.Core.List.{List}
use Prim.Native.Nat.{ℕ}
use Rattle.letters.proofs.ill_ended.Goals as goal

-- return false
pub returns-then-not-x : goal.returns-then-not-x
returns-then-not-x c =
    let args = c.args in
    no_end args.t.now args.s.markers.now args.i args.x c.requires.2 (not-true _ c.if-not-x.true-raw)

-- return false
pub returns-in_default : goal.returns-in_default
returns-in_default c =
    let args = c.args in
    let i = args.i in
    let pre = c.requires in
    no_start args.t.now args.s.markers.now i args.x pre.2 pre.1
    (ap (λ (k : List ℕ). half_before k i) (sym pre.0) ∙ c.in_default.ensures)

-- keys::view_at(t, marks::wide(s.markers[start]), s.keys[start])
pub view_at-requires : goal.view_at-requires
view_at-requires c =
    let args = c.args in
    let pre = c.requires in
    let found = c.in-Some.ensures in
    key_there args.t.now args.s.markers.now _ pre.0 c.in-Some.start c.wide.result
    (omega (arith, found.1, pre.1)) c.wide.ensures.0

-- ill_matched(keys::view_at(t, marks::wide(s.markers[start]), s.keys[start]), x)
pub returns : goal.returns
returns c =
    let args = c.args in
    let t = args.t.now in
    let i = args.i in
    let pre = c.requires in
    let found = c.in-Some.ensures in
    let seen = view_there t args.s.markers.now _ c.wide.result c.view_at.result c.wide.ensures.0 c.view_at.ensures in
    with_start t args.s.markers.now i args.x pre.2 pre.1 c.in-Some.start
    (ap (λ (k : List ℕ). half_before k i) (sym pre.0) ∙ found.0)
    (not-false _ c.if-not-x.false-raw) c.view_at.result c.ill_matched.result seen c.ill_matched.ensures
