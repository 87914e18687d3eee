use Rattle.nesting.proofs.ScanLaws.{lone_not, lone_scan}
use Rattle.contents.specs.Contents.{run}
use Prim.Native.Nat.{◌+◌}
use lib.ListN.{get_or, take, drop}
use mathlib.Core.List.{reverse}
use borrow.Author.Tests.{not-true, not-false}
use mathlib.Core.Path.{sym, ◌∙◌}
use Rattle.nesting.proofs.is_lone.Goals as goal

-- return false
pub returns-then-not-is_half_p : goal.returns-then-not-is_half_p
returns-then-not-is_half_p c =
    let args = c.args in
    let i = args.i in
    let keys = args.keys.now in (
      lone_not (run (reverse (take i keys))) (get_or keys i 0) (run (drop (i + 1) keys))
          (sym c.is_half_p.ensures ∙ not-true _ c.if-not-is_half_p.true-raw),
      c.requires.2,
    )

-- the half before or after which its partner is looked for
pub returns : goal.returns
returns c =
    let args = c.args in
    let keys = args.keys.now in
    let i = args.i in
    let is-half-p = c.is_half_p in
    let if1 = c.if-not-is_half_p in
    let is-met = c.is_met in (
      lone_scan keys i (get_or keys i 0) _ is-met.result (sym is-half-p.ensures ∙ not-false _ if1.false-raw)
          c.half_of.ensures is-met.ensures.0,
      is-met.ensures.1,
    )
