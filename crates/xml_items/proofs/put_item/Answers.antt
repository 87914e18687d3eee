use Rattle.draft.proofs.DraftLaws.{wrote_as}
use Rattle.table.specs.Meaning.{fields, half, form}
use Rattle.xml.specs.Write.{item_text}
use Rattle.xml_items.proofs.ItemLaws.{isolated_any, start_any, end_any}
use Rattle.xml_items.proofs.put_item.Goals as goal

-- put_character(draft, c)
pub put_character-requires : goal.put_character-requires
put_character-requires c = rw c.in-Character.is at c.requires

-- put_character(draft, c)
pub returns-in-Character : goal.returns-in-Character
unfolding item_text
returns-in-Character c =
    let put-character = c.put_character in
    rw c.in-Character.is (λ after e. put-character.ensures)

-- put_standalone(draft, f)
pub returns-in-Standalone : goal.returns-in-Standalone
unfolding item_text
returns-in-Standalone c =
    let put-standalone = c.put_standalone in
    rw c.in-Standalone.is (λ after e. put-standalone.ensures)

-- put_isolated(draft, h, f)
pub returns-in-Isolated : goal.returns-in-Isolated
returns-in-Isolated c =
    let put-isolated = c.put_isolated in
    rw c.in-Isolated.is (λ after e. wrote_as (isolated_any (half c.in-Isolated.h) (fields c.in-Isolated.f) after) put-isolated.ensures)

-- put_pair(draft, w, h, f, end_data)
pub returns-in-Pair : goal.returns-in-Pair
returns-in-Pair c =
    let put-pair = c.put_pair in
    rw c.in-Pair.is put-pair.ensures

-- put_annotation_start(draft, w, id, translate)
pub returns-in-AnnotationStart : goal.returns-in-AnnotationStart
returns-in-AnnotationStart c =
    let put-annotation-start = c.put_annotation_start in
    rw c.in-AnnotationStart.is (λ after e. wrote_as (start_any (form c.in-AnnotationStart.w) c.in-AnnotationStart.id c.in-AnnotationStart.translate after) put-annotation-start.ensures)

-- put_annotation_end(draft, w, id)
pub returns-in-AnnotationEnd : goal.returns-in-AnnotationEnd
returns-in-AnnotationEnd c =
    let put-annotation-end = c.put_annotation_end in
    rw c.in-AnnotationEnd.is (λ after e. wrote_as (end_any (form c.in-AnnotationEnd.w) c.in-AnnotationEnd.id after) put-annotation-end.ensures)
