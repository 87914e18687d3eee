use mathlib.Core.Bool.{true}
use mathlib.Core.List.{◌∷◌, ◌++◌}
use Rattle.xml.specs.Words.{'pc', 'id', 'dataRefStart', 'dataRefEnd', codes}
use Rattle.xml.specs.Write.{unless_zero, hints, opening_tag, pc_attributes}
use Rattle.xml.specs.Characters.{'<'}
use Rattle.table.specs.Meaning.{fields}
use Rattle.xml_tags.proofs.TagLaws.{attributes_then}
use Rattle.xml_items.proofs.ItemLaws.{code_closed}
use Rattle.xml_items.proofs.put_pc.Goals as goal

-- draft.put(b">")
pub returns : goal.returns
unfolding opening_tag pc_attributes 'pc' 'id' 'dataRefStart' 'dataRefEnd' codes
returns c =
    let put = c.put in
    let put-hints = c.put_hints in
    let put-unless-zero2 = c.put_unless_zero-2 in
    let put-unless-zero = c.put_unless_zero in
    let put-code-start = c.put_code_start in
    let args = c.args in
    let f = fields args.f in
    let end = unless_zero 'dataRefEnd' args.end_data in
    code_closed ('<' ∷ 'pc') 'id' f (unless_zero 'dataRefStart' f.data_ref) (end ++ hints true f) put-code-start.ensures
    put-unless-zero.ensures (attributes_then end (hints true f) put-unless-zero2.ensures put-hints.ensures) put.ensures
