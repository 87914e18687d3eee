use mathlib.Core.Path.{sym, ◌∙◌}
use mathlib.Core.List.{[]}
use Rattle.draft.proofs.DraftLaws.{wrote_as}
use Rattle.table.specs.Meaning.{item}
use Rattle.xml.specs.Write.{pending, first_data}
use Rattle.xml_nesting.specs.Nesting.{first_content}
use Rattle.xml_writer.proofs.RecordLaws.{no_start}
use Rattle.xml_writer.proofs.put_inline.Goals.{then-opens, else-opens}
use Rattle.xml_writer.proofs.put_inline.Goals as goal

-- xml_items::put_item(draft, i, end_data)
pub returns : goal.returns
unfolding pending first_data
returns c = elim c.if-opens.branch [
  | then-opens w ↦ λ rs a.
      c.put_item.ensures (first_content rs) (sym (w.end_data-is ∙ w.end_data-end_data.ensures rs a))
  | else-opens w ↦ λ rs a.
      wrote_as (no_start (item c.args.i) [] (first_content rs) (sym c.opens.ensures ∙ w.if-opens.false))
      (c.put_item.ensures [] (sym w.end_data-is))
]
