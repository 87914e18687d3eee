use mathlib.Core.Path.{sym, ◌∙◌, subst}
use lib.ListN.{length}
use Rattle.xliff.specs.SetTarget.{old_content}
use Rattle.xliff.specs.Parse.{content}
use Rattle.xliff.specs.Answer.{Outcome}
use Rattle.part_at.proofs.CheckedLaws.{table_passes}
use Rattle.outcomes.specs.Outcomes.{Answers}
use Rattle.outcomes.proofs.OutcomeLaws.{answers_refused}
use Rattle.set_target.proofs.ChainLaws.{refused_18, refused_19, ends}
use Rattle.set_target.proofs.GoodLaws.{content_holds}
use Rattle.set_target.proofs.set_content.Goals as goal

-- old_content(table, place)
pub old_content-old-requires : goal.old_content-old-requires
old_content-old-requires c =
    let (b, p, a, e, s, f) = c.requires.0.1 in
    (b, p, a, s)

-- codes::kept::is_lost(old, content)
pub is_lost-requires : goal.is_lost-requires
is_lost-requires c =
    let written = c.args.content.now in
    let (b, p, a, e, s, f) = c.requires.0.1 in (
      old_content p.source p.target,
      content written,
      c.old_content-old.ensures b p a s,
      content_holds written c.type_inv.content c.requires.1,
    )

-- return Answer::Refused(18, 0)
pub returns-then-is_lost : goal.returns-then-is_lost
returns-then-is_lost c =
    let args = c.args in
    let out = args.out.now in
    let written = args.content.now in
    let (ft, cf) = c.requires in
    let (w, pl) = ft in
    let (b, p, a, e, s, f) = pl in
    let lost = c.is_lost.ensures (old_content p.source p.target) (content written) (c.old_content-old.ensures b p a s)
    (content_holds written c.type_inv.content cf) in
    answers_refused _ 18 0 out
    (refused_18 args.table.now args.n args.state written (length out) w b p a e f cf (sym lost ∙ c.if-is_lost.true))

-- codes::chains::differs(old, content)
pub differs-requires : goal.differs-requires
differs-requires c =
    let written = c.args.content.now in
    let (b, p, a, e, s, f) = c.requires.0.1 in (
      old_content p.source p.target,
      content written,
      c.old_content-old.ensures b p a s,
      content_holds written c.type_inv.content c.requires.1,
    )

-- return Answer::Refused(19, 0)
pub returns-then-differs : goal.returns-then-differs
returns-then-differs c =
    let args = c.args in
    let out = args.out.now in
    let written = args.content.now in
    let (ft, cf) = c.requires in
    let (w, pl) = ft in
    let (b, p, a, e, s, f) = pl in
    let old = c.old_content-old.ensures b p a s in
    let new = content_holds written c.type_inv.content cf in
    let lost = c.is_lost.ensures (old_content p.source p.target) (content written) old new in
    let changed = c.differs.ensures (old_content p.source p.target) (content written) old new in
    answers_refused _ 19 0 out
    (refused_19 args.table.now args.n args.state written (length out) w b p a e f cf
    (sym lost ∙ c.if-is_lost.false) (sym changed ∙ c.if-differs.true))

-- target_order::new_order(table, n, place)
pub new_order-order-requires : goal.new_order-order-requires
new_order-order-requires c = table_passes c.args.table.now c.type_inv.table c.requires.0.0

-- set_ended(table, place, order, state, content, out)
pub returns : goal.returns
returns c =
    let args = c.args in
    let out = args.out.now in
    let written = args.content.now in
    let ended = c.set_ended in
    let (ft, cf) = c.requires in
    let (w, pl) = ft in
    let (b, p, a, e, s, f) = pl in
    let old = c.old_content-old.ensures b p a s in
    let new = content_holds written c.type_inv.content cf in
    let lost = c.is_lost.ensures (old_content p.source p.target) (content written) old new in
    let changed = c.differs.ensures (old_content p.source p.target) (content written) old new in
    subst (λ (o : Outcome). Answers o ended.result out ended.new.out)
    (sym (ends args.table.now args.n args.state written (length out) w b p a e f cf
    (sym lost ∙ c.if-is_lost.false) (sym changed ∙ c.if-differs.false)
    c.new_order-order.result (c.new_order-order.ensures b p a s)))
    (ended.ensures b p a s f)
