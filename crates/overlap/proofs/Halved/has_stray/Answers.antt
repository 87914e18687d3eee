use mathlib.Core.Path.{refl, ◌∙◌}
use Prim.Native.Nat.{◌-◌}
use borrow.Author.Rules.{rules}
use borrow.Author.Tests.{tests}
use Rattle.std.proofs.lemmas.Iterator.{YieldsList-from_range}
use Rattle.std.proofs.lemmas.Iterator.Search.{any_from_yields_List}
use Rattle.overlap.specs.Nine.{stray_at}
use Rattle.overlap.proofs.RangeLaws.{any_is}
use Rattle.overlap.proofs.Halved.has_stray.Goals as goal

-- (first..end).any(|j| self.is_stray_at(j, first, end))
pub returns : goal.returns
returns c =
    let args = c.args in
    let test = stray_at args.self.sequence.keys.now args.first args.end in
    any_from_yields_List test _ _ _ c.any.ensures.ran
    (YieldsList-from_range args.first args.end (args.end - args.first) refl refl) (λ j b q is. search (rules, tests))
    ∙ any_is test args.first args.end
