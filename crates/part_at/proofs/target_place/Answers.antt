use Rattle.part_at.proofs.SpanLaws.{target_fits, target_content, with_target, without_target}
use native.Mathlib.Omega.{arith}
use mathlib.Core.Path.{refl, sym, ◌∙◌}
use Rattle.part_at.proofs.target_place.Goals as goal

-- target + syntax::width_of(r)
pub overflow_add-target : goal.overflow_add-target
overflow_add-target c =
    let found = c.known_at-r in
    let width = c.width_of in
    omega (
      arith,
      target_fits c.args.t.now c.args.target found.result found.ensures width.result width.ensures _
          (sym c.order_of-order.ensures ∙ c.in-Some.is) c.requires,
    )

-- content_end(t, target + syntax::width_of(r))
pub content_end-end-requires : goal.content_end-end-requires
content_end-end-requires c =
    let found = c.known_at-r in
    let width = c.width_of in
    target_content c.args.t.now c.args.target found.result found.ensures width.result width.ensures _
    (sym c.order_of-order.ensures ∙ c.in-Some.is) c.requires

-- PartPlace { .. }, with a target
pub returns-in-Some : goal.returns-in-Some
returns-in-Some c =
    let found = c.known_at-r in
    let width = c.width_of in (
      refl,
      refl,
      refl,
      refl,
      with_target c.args.t.now c.args.target found.result found.ensures width.result width.ensures _ _
          (sym c.order_of-order.ensures ∙ c.in-Some.is) c.in-Some.is c.content_end-end.ensures,
    )

-- PartPlace { .. }, without
pub returns-in-None : goal.returns-in-None
returns-in-None c =
    let found = c.known_at-r in (
      refl,
      refl,
      refl,
      refl,
      without_target c.args.t.now c.args.target found.result found.ensures _ refl _
          (sym c.order_of-order.ensures ∙ c.in-None.is) c.in-None.is refl,
    )
