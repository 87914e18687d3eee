use Rattle.std.proofs.lemmas.Result.{err_from_is_err_and}
use Prim.Native.Nat.{ℕ, suc}
use native.Mathlib.Numerals.{add-one}
use mathlib.Core.Path.{refl, subst}
use native.Mathlib.Omega.{arith}
use Rattle.std.specs.Prelude.{Err}
use Rattle.xml.specs.Elements.{part_due, source_due, target_due}
use Rattle.xml_piece.specs.Pieces.{rest_at}
use Rattle.xml_element.specs.Opens.{spelled, start_tokens}
use Rattle.xml_part.specs.Parts.{Steps, SourceSteps, HeadSteps}
use Rattle.xml_part.proofs.StepLaws.{more_collected, steps_then}
use Rattle.xml_part.proofs.part.Goals as goal

-- head(text, tag, builder)?: a place at fault
pub returns-in_err-next : goal.returns-in_err-next
unfolding HeadSteps
returns-in_err-next c =
    let p = err_from_is_err_and c.from_residual.result c.from_residual.ensures.1 in
    rw (p.1, p.2) (c.in_err-next.ensures c.args.before)

-- source_of(text, next, builder)
pub source_of-requires : goal.source_of-requires
unfolding HeadSteps
source_of-requires c = (c.in_ok-next.ensures c.args.before).0.inside

-- source_of(text, next, builder)?: a place at fault
pub returns-in_err-behind : goal.returns-in_err-behind
unfolding HeadSteps SourceSteps
returns-in_err-behind c =
    let args = c.args in
    let text = args.text.now in
    let name = spelled text args.tag.name in
    let position = suc args.before in
    let residual = c.from_residual-in_err-behind in
    let p = err_from_is_err_and residual.result residual.ensures.1 in
    let headed = c.in_ok-next.ensures args.before in
    rw (p.1, p.2)
    (steps_then text args.tag.name.upto c.in_ok-next.next 1 (part_due args.before) (source_due position name)
    (start_tokens text args.tag) headed.0 headed.1 0 (target_due position name) c.source_of.new.builder (Err _)
    (c.in_err-behind.ensures position name))

-- behind_source(text, behind, tag.name, builder, before + 1)
pub behind_source-requires : goal.behind_source-requires
unfolding HeadSteps SourceSteps
behind_source-requires c =
    let args = c.args in
    let headed = c.in_ok-next.ensures args.before in
    let sourced = c.in_ok-behind.ensures (suc args.before) (spelled args.text.now args.tag.name) in (
      sourced.0.inside,
      c.requires.0,
      more_collected sourced.1.records
          (more_collected headed.1.records c.requires.2 headed.1.collects headed.1.heads_are refl)
          sourced.1.collects sourced.1.heads_are (omega arith),
    )

pub returns : goal.returns
unfolding HeadSteps SourceSteps
returns c =
    let args = c.args in
    let text = args.text.now in
    let tag = start_tokens text args.tag in
    let name = spelled text args.tag.name in
    let position = suc args.before in
    let next = c.in_ok-next.next in
    let further = c.in_ok-behind.behind in
    let headed = c.in_ok-next.ensures args.before in
    let sourced = c.in_ok-behind.ensures position name in
    let source = c.source_of.new.builder in
    let last = c.behind_source in
    steps_then text args.tag.name.upto next 1 (part_due args.before) (source_due position name) tag headed.0 headed.1 0
    (part_due position) last.new.builder last.result
    (steps_then text next further 0 (source_due position name) (target_due position name) (rest_at text next) sourced.0
    sourced.1 0 (part_due position) last.new.builder last.result
    (subst
    (λ (n : ℕ). Steps text further (target_due n name) (rest_at text further) 0 (part_due n) source last.new.builder
    last.result)
    (add-one args.before) last.ensures))
