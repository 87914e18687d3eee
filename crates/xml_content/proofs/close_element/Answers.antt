use mathlib.Core.Path.{sym, refl, ◌∙◌}
use borrow.Author.Tests.{not-true, not-false}
use Rattle.xml_content.proofs.close_element.Goals as goal

-- return Err(Blamed { place: end.place })
pub returns-then-not-ends_name : goal.returns-then-not-ends_name
returns-then-not-ends_name c = (refl, sym c.ends_name.ensures ∙ not-true _ c.if-not-ends_name.true-raw)

-- Ok(end.next)
pub returns : goal.returns
returns c = (refl, sym c.ends_name.ensures ∙ not-false _ c.if-not-ends_name.false-raw, c.put_item.ensures)
