use Rattle.xliff.proofs.lists.Slices.{tail_is}
use Rattle.partners.specs.Partners.{waits_key}
use Rattle.xliff.proofs.lists.Tests.{and_false}
use borrow.Author.Tests.{not-true, not-false}
use mathlib.Core.Path.{sym, ◌∙◌}
use borrow.Author.Rules.{rules}
use Rattle.partners.proofs.waits.Goals as goal

pub returns-then-not-is_other : goal.returns-then-not-is_other
unfolding waits_key
returns-then-not-is_other c = (simp (sym c.is_other.ensures ∙ not-true _ c.if-not-is_other.true-raw), search rules)

-- return false
pub returns-then-is_lone : goal.returns-then-is_lone
unfolding waits_key
returns-then-is_lone c =
    let is-lone = c.is_lone in
    (simp (sym is-lone.ensures.0 ∙ c.if-is_lone.true, and_false), search rules)

-- !lone_s(bars, i) & !is_targeted(&bars[i + 1..])
pub returns : goal.returns
unfolding waits_key
returns c =
    let is_other = c.is_other in
    let if1 = c.if-not-is_other in
    let is-lone = c.is_lone in
    let if2 = c.if-is_lone in (
      simp (
        sym is_other.ensures ∙ not-false _ if1.false-raw,
        sym is-lone.ensures.0 ∙ if2.false,
        c.lone_s.ensures,
        c.is_targeted.ensures,
        tail_is,
      ),
      search rules,
    )

pub is_other-requires : goal.is_other-requires
unfolding waits_key
is_other-requires c = search rules

pub is_lone-requires : goal.is_lone-requires
unfolding waits_key
is_lone-requires c = search rules

pub lone_s-requires : goal.lone_s-requires
unfolding waits_key
lone_s-requires c = search rules

pub is_targeted-requires : goal.is_targeted-requires
unfolding waits_key
is_targeted-requires c = search rules
