use lib.ListN.{take}
use Prim.Native.Nat.{ℕ, ◌<◌}
use native.Mathlib.Omega.{arith}
use mathlib.Core.Path.{refl, sym, ◌∙◌, subst}
use Rattle.id_links.proofs.Search.{Searched, search_hit, search_end, search_less, search_on}
use Rattle.id_links.specs.Links.{group}
use Rattle.ids.specs.Keys.{clash_test}
use Rattle.ids.proofs.LinkLaws.{clash_grouped, clash_start}
use Rattle.ids.proofs.MetIds.clashes.Goals as goal

-- the loop's start
pub loop-j-init : goal.loop-j-init
loop-j-init c =
    let args = c.args in
    let keys = take c.args.self.now.count c.args.self.now.keys in
    let Group-of = c.group_of in
    clash_start args.k keys c.args.self.now.links c.args.self.now.heads c.args.self.now.linked Group-of.result
    c.wide-j.result Group-of.ensures.0 c.wide-j.ensures.0

-- return true
pub returns-then-clash_with : goal.returns-then-clash_with
returns-then-clash_with c =
    let args = c.args in
    let keys = take c.args.self.now.count c.args.self.now.keys in
    let k = args.k in
    let loop = c.loop-j in
    let loop-test = c.loop-j-test in
    sym (search_hit (clash_test k) keys (group k) loop.j loop.invariant loop-test.true
    (sym c.clash_with.ensures ∙ c.if-clash_with.true))

pub loop-j-smaller : goal.loop-j-smaller
loop-j-smaller c =
    let args = c.args in
    let keys = take c.args.self.now.count c.args.self.now.keys in
    let k = args.k in
    let loop = c.loop-j in
    let loop-test = c.loop-j-test in
    subst (λ (x : ℕ). x < loop.j) (sym c.wide-j-in-loop-j.ensures.0)
    (search_less (clash_test k) keys (group k) c.args.self.now.links loop.j (clash_grouped k (group k) keys refl)
    c.args.self.now.linked.2 loop.invariant loop-test.true)

-- the loop's step
pub loop-j-preserved : goal.loop-j-preserved
loop-j-preserved c =
    let args = c.args in
    let keys = take c.args.self.now.count c.args.self.now.keys in
    let k = args.k in
    let loop = c.loop-j in
    let loop-test = c.loop-j-test in
    let clash-with = c.clash_with in
    subst (Searched (clash_test k) keys (group k)) (sym c.wide-j-in-loop-j.ensures.0)
    (search_on (clash_test k) keys (group k) c.args.self.now.links loop.j (clash_grouped k (group k) keys refl)
    c.args.self.now.linked.2 loop.invariant loop-test.true (sym clash-with.ensures ∙ c.if-clash_with.false))

-- false
pub returns : goal.returns
returns c =
    let args = c.args in
    let keys = take c.args.self.now.count c.args.self.now.keys in
    let k = args.k in
    let loop = c.loop-j in
    sym
    (search_end (clash_test k) keys (group k) loop.j loop.invariant (omega (arith, c.loop-j-test.false)))
