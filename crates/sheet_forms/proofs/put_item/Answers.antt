use Rattle.std.proofs.Common.{inl, inr}
use Rattle.table.specs.Meaning.{fields, half, form}
use Rattle.sheet.specs.Column.{shown}
use Rattle.sheet_forms.proofs.FormLaws.{isolated_shown, pair_shown}
use Rattle.sheet_forms.proofs.put_item.Goals as goal

-- Item::Character(_) => writer::put(piece, b"#")
pub returns-in-Character : goal.returns-in-Character
unfolding shown
returns-in-Character c =
    let put = c.put in
    rw c.in-Character.is put.ensures

-- Item::Standalone(f) => put_standalone(piece, f.id)
pub returns-in-Standalone : goal.returns-in-Standalone
unfolding shown
returns-in-Standalone c =
    let put-standalone = c.put_standalone in
    rw c.in-Standalone.is put-standalone.ensures

-- Item::Isolated(h, f) | Item::Pair(_, h, f) => put_half(piece, h, f.id)
pub returns-in-Isolated : goal.returns-in-Isolated
returns-in-Isolated c =
    let put-half = c.put_half-in-Isolated in
    let h = half c.in-Isolated.h in
    let f = fields c.in-Isolated.f in
    elim c.in-Isolated.is [
      | inl e ↦ rw (e, ← isolated_shown h f) put-half.ensures
      | inr (w, e) ↦ rw (e, ← pair_shown h (form w) f) put-half.ensures
    ]

-- Item::AnnotationStart(_, id, _) => put_half(piece, Half::Start, id)
pub returns-in-AnnotationStart : goal.returns-in-AnnotationStart
unfolding shown
returns-in-AnnotationStart c =
    let put-half3 = c.put_half in
    rw c.in-AnnotationStart.is put-half3.ensures

-- Item::AnnotationEnd(_, id) => put_half(piece, Half::End, id)
pub returns-in-AnnotationEnd : goal.returns-in-AnnotationEnd
unfolding shown
returns-in-AnnotationEnd c =
    let put-half4 = c.put_half-in-AnnotationEnd in
    rw c.in-AnnotationEnd.is put-half4.ensures
