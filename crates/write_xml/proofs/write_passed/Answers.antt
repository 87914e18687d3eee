use mathlib.Core.Path.{sym, ◌∙◌}
use lib.ListN.{length}
use Rattle.std.proofs.Common.{rules}
use Rattle.places.proofs.Places.{checked_passes}
use Rattle.table.proofs.WidthLaws.{bytes_known}
use Rattle.outcomes.proofs.OutcomeLaws.{answers_refused}
use Rattle.draft.proofs.AnswerLaws.{answers_15, answers_written}
use Rattle.xliff.specs.Parse.{unit}
use Rattle.xml.specs.Write.{unit_text}
use Rattle.xml.specs.Xml.{write_xml}
use Rattle.write_xml.proofs.ChainLaws.{refused_22, refused_15, written}
use Rattle.write_xml.proofs.write_passed.Goals as goal

-- xml_nesting::too_deep(table)
pub too_deep-requires : goal.too_deep-requires
too_deep-requires c =
    let shared-slice-known = c.shared_slice_known-1.given in
    let args = c.args in
    let pre = c.requires in
    checked_passes args.table.now (bytes_known args.table.now shared-slice-known) pre

-- return Answer::Refused(22, 0)
pub returns-then-too_deep : goal.returns-then-too_deep
returns-then-too_deep c =
    let if1 = c.if-too_deep.true in
    let too_deep = c.too_deep in
    let args = c.args in
    let pre = c.requires in
    let table = args.table.now in
    let out = args.out.now in
    answers_refused _ 22 0 out (refused_22 table (length out) pre (sym too_deep.ensures ∙ if1))

-- xml_writer::put_unit(&mut measured, table)
pub put_unit-requires : goal.put_unit-requires
put_unit-requires c =
    let table = c.args.table.now in
    checked_passes table (bytes_known table c.type_inv.table) c.requires

-- return Answer::Refused(15, 0)
pub returns-then-is_full : goal.returns-then-is_full
returns-then-is_full c =
    let table = c.args.table.now in
    let room = length c.args.out.now in
    let flat = sym c.too_deep.ensures ∙ c.if-too_deep.false in
    answers_15 (write_xml table room) (unit_text (unit table)) _ (refused_15 table room c.requires flat)
    (written table room c.requires flat) _ c.begin-measured.ensures _ c.put_unit.ensures
    (sym c.is_full.ensures ∙ c.if-is_full.true) (search rules)

-- xml_writer::put_unit(&mut written, table)
pub put_unit-requires-2 : goal.put_unit-requires-2
put_unit-requires-2 c =
    let table = c.args.table.now in
    checked_passes table (bytes_known table c.type_inv.table) c.requires

-- Answer::Accepted(written.used())
pub returns : goal.returns
returns c =
    let table = c.args.table.now in
    let room = length c.args.out.now in
    let flat = sym c.too_deep.ensures ∙ c.if-too_deep.false in
    answers_written (write_xml table room) (unit_text (unit table)) _ (refused_15 table room c.requires flat)
    (written table room c.requires flat) _ c.begin-measured.ensures _ c.put_unit.ensures
    (sym c.is_full.ensures ∙ c.if-is_full.false) _ (search rules) _ c.begin-written.ensures _ c.put_unit-2.ensures
    c.used.ensures (search rules)
