use mathlib.Core.Path.{sym, ap, ◌∙◌}
use Rattle.answers.specs.Answers.{answer_meaning}
use Rattle.read_xml.specs.Judging.{Judges}
use Rattle.read_xml.proofs.ReadLaws.{refused_limit, refused_room, accepted_table, refused_table}
use Rattle.read_xml.proofs.judged.Goals as goal

-- a limit is passed: return Answer::Refused(15, 0)
pub returns-in_default : goal.returns-in_default
unfolding Judges
returns-in_default c = λ u k. refused_limit u c.args.builder.now k c.args.out.now c.in_default.ensures

-- return Answer::Refused(15, 0)
pub returns-then-out-table : goal.returns-then-out-table
unfolding Judges
returns-then-out-table c =
    let (free, told) = c.in-Some.ensures in
    λ u k. refused_room u c.args.builder.now k c.args.out.now free c.in-Some.table.now told c.if-out-table.true

-- return checked
pub returns-in_default-checked : goal.returns-in_default-checked
unfolding Judges
returns-in_default-checked c =
    let (free, told) = c.in-Some.ensures in
    let refused = sym (ap answer_meaning c.in_default-checked.is) ∙ c.check-checked.ensures in
    λ u k.
    rw c.in_default-checked.is
    (refused_table u c.args.builder.now k c.args.out.now free c.in-Some.table.now told c.if-out-table.false _ _ refused)

-- Answer::Accepted(writer::put(out, table))
pub returns : goal.returns
unfolding Judges
returns c =
    let put = c.put in
    let (free, told) = c.in-Some.ensures in
    let accepted = sym (ap answer_meaning c.in-Accepted.is) ∙ c.check-checked.ensures in
    λ u k.
    accepted_table u c.args.builder.now k c.args.out.now free c.in-Some.table.now told c.if-out-table.false _ put.result
    put.new.out accepted put.ensures.0 put.ensures.1
