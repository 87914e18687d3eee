-- The element that the writer writes for an item is read as that item.
use mathlib.Core.List.{[], ◌∷◌}
use Rattle.xliff.specs.Bytes.{'-', 'N', 'Y', two}
use Rattle.xliff.specs.Item.{Item, Content, start, end, form_P, form_S, text, character, standalone, isolated, pair, annotation_start, annotation_end}
use Rattle.xliff.specs.Encode.{field_bytes}
use Rattle.xliff.specs.Good.{GoodIn}
use Rattle.xliff.proofs.records.Fits.{FitIn, bytes_left, two_fits}
use Rattle.xml.specs.Write.{item_text}
use Rattle.xml.proofs.FieldLaws.{some_id, numbers, code_letters, Single}
use Rattle.xml.proofs.CodeLaws.{cp_single, ph_single, is_single, ie_single, sc_single, ec_single}
use Rattle.xml.proofs.AnnotationLaws.{sm_single, em_single}

-- EVERY EMPTY ELEMENT
abbrev pub Empty : Item → Type 0
Empty (text c) = ⊥
Empty (character c) = Unit {0}
Empty (standalone f) = Unit {0}
Empty (isolated h f) = Unit {0}
Empty (pair h form_P f) = ⊥
Empty (pair h form_S f) = Unit {0}
Empty (annotation_start form_P i t) = ⊥
Empty (annotation_start form_S i t) = Unit {0}
Empty (annotation_end form_P i) = ⊥
Empty (annotation_end form_S i) = Unit {0}

pub a_single : (x : Item) (after : Content) → Empty x → GoodIn x → FitIn x → Single x (item_text x after)
unfolding field_bytes
a_single (text c) after e g b = absurd e
a_single (character c) after e g b = cp_single c after g
a_single (standalone f) after e g b = let l = code_letters ('-' ∷ []) f g in ph_single f after (numbers f l.some_id b) l
a_single (isolated start f) after e g b =
    let l = code_letters ('Y' ∷ 'N' ∷ []) f g in
    is_single f after (numbers f l.some_id b) l
a_single (isolated end f) after e g b =
    let l = code_letters ('Y' ∷ 'N' ∷ []) f g in
    ie_single f after (numbers f l.some_id b) l
a_single (pair start form_P f) after e g b = absurd e
a_single (pair end form_P f) after e g b = absurd e
a_single (pair start form_S f) after e g b =
    let l = code_letters ('Y' ∷ 'N' ∷ []) f g in
    sc_single f after (numbers f l.some_id b) l
a_single (pair end form_S f) after e g b =
    let l = code_letters ('Y' ∷ 'N' ∷ []) f g in
    ec_single f after (numbers f l.some_id b) l
a_single (annotation_start form_P i t) after e g b = absurd e
a_single (annotation_start form_S i t) after e g b =
    sm_single i t after (some_id i g.0) (two_fits i (bytes_left (two i) (t ∷ []) b)) g.1
a_single (annotation_end form_P i) after e g b = absurd e
a_single (annotation_end form_S i) after e g b = em_single i after (some_id i g) (two_fits i b)
