use mathlib.Core.Bool.{false}
use Rattle.xml.specs.Words.{'ph', 'id', 'dataRef', codes}
use Rattle.xml.specs.Write.{unless_zero, hints, item_text, short_tag, ph_attributes}
use Rattle.xml.specs.Characters.{'<'}
use Rattle.table.specs.Meaning.{fields}
use mathlib.Core.List.{◌∷◌}
use Rattle.xml_items.proofs.ItemLaws.{code_closed}
use Rattle.xml_items.proofs.put_standalone.Goals as goal

-- draft.put(b"/>")
pub returns : goal.returns
unfolding item_text short_tag ph_attributes 'ph' 'id' 'dataRef' codes
returns c =
    let put = c.put in
    let put-hints = c.put_hints in
    let put-unless-zero = c.put_unless_zero in
    let put-code-start = c.put_code_start in
    let args = c.args in
    let f = fields args.f in
    code_closed ('<' ∷ 'ph') 'id' f (unless_zero 'dataRef' f.data_ref) (hints false f) put-code-start.ensures put-unless-zero.ensures
    put-hints.ensures put.ensures
