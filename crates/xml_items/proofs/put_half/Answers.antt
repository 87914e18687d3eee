use mathlib.Core.Bool.{true}
use mathlib.Core.List.{◌++◌}
use Rattle.xml.specs.Words.{'dataRef', 'isolated', codes}
use Rattle.xml.specs.Write.{unless_zero, hints, attribute, half_attributes}
use Rattle.table.specs.Meaning.{fields}
use Rattle.xml_tags.proofs.TagLaws.{attributes_then}
use Rattle.xml_items.proofs.ItemLaws.{code_closed}
use Rattle.xml_items.proofs.put_half.Goals as goal

-- draft.put(b"/>")
pub returns : goal.returns
unfolding half_attributes 'dataRef' 'isolated' codes
returns c =
    let put = c.put in
    let put-attribute = c.put_attribute in
    let put-hints = c.put_hints in
    let put-unless-zero = c.put_unless_zero in
    let put-code-start = c.put_code_start in
    let args = c.args in
    let f = fields args.f in
    let told = attribute 'isolated' args.isolated.now in
    code_closed args.tag.now args.id.now f (unless_zero 'dataRef' f.data_ref) (hints true f ++ told) put-code-start.ensures
    put-unless-zero.ensures (attributes_then (hints true f) told put-hints.ensures put-attribute.ensures) put.ensures
