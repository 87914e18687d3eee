use mathlib.Core.Path.{sym, ap₂, ◌∙◌}
use lib.Dec.{eqb}
use borrow.Author.Tests.{eq-eqb, ne_eqb}
use Rattle.nesting.proofs.depth_after.Goals as goal

-- return depth + 1
pub returns-then-half_of : goal.returns-then-half_of
returns-then-half_of c =
    let halves = ap₂ eqb c.half_of.ensures c.half_of-then-is_form_p.ensures in
    simp (
      sym c.is_form_p.ensures ∙ c.if-is_form_p.true,
      sym halves ∙ eq-eqb _ _ c.if-half_of.true,
    )

-- return depth - 1
pub returns-then-is_form_p : goal.returns-then-is_form_p
returns-then-is_form_p c =
    let halves = ap₂ eqb c.half_of.ensures c.half_of-then-is_form_p.ensures in
    simp (
      sym c.is_form_p.ensures ∙ c.if-is_form_p.true,
      sym halves ∙ ne_eqb _ _ c.if-half_of.false,
    )

-- depth
pub returns : goal.returns
returns c = simp (sym c.is_form_p.ensures ∙ c.if-is_form_p.false)
