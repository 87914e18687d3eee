use Rattle.partners.specs.Partners.{lone_among_keys}
use borrow.Author.Tests.{not-true, not-false}
use mathlib.Core.Path.{sym, ◌∙◌}
use borrow.Author.Rules.{rules}
use Rattle.partners.proofs.stays_lone.Goals as goal

-- return false
pub returns-then-not-lone_s : goal.returns-then-not-lone_s
unfolding lone_among_keys
returns-then-not-lone_s c = (simp (sym c.lone_s.ensures ∙ not-true _ c.if-not-lone_s.true-raw), search rules)

-- return true
pub returns-then-not-only_half : goal.returns-then-not-only_half
unfolding lone_among_keys
returns-then-not-only_half c =
    let lone-s = c.lone_s in (
      simp (
        sym lone-s.ensures ∙ not-false _ c.if-not-lone_s.false-raw,
        sym c.only_half.ensures ∙ not-true _ c.if-not-only_half.true-raw,
      ),
      search rules,
    )

-- !waits_for(keys[i], bars, stack)
pub returns : goal.returns
unfolding lone_among_keys
returns c =
    let lone-s = c.lone_s in
    let if1 = c.if-not-lone_s in
    let only-half = c.only_half in
    let if2 = c.if-not-only_half in (
      simp (
        sym lone-s.ensures ∙ not-false _ if1.false-raw,
        sym only-half.ensures ∙ not-false _ if2.false-raw,
        c.waits_for.ensures.0,
      ),
      search rules,
    )

pub lone_s-requires : goal.lone_s-requires
unfolding lone_among_keys
lone_s-requires c = search rules

pub only_half-requires : goal.only_half-requires
unfolding lone_among_keys
only_half-requires c = search rules

pub waits_for-requires : goal.waits_for-requires
unfolding lone_among_keys
waits_for-requires c = search rules
