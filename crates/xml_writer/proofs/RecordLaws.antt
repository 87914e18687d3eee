-- The records that are no inline ones, out of their pieces.
use Prim.Native.Nat.{ℕ}
use mathlib.Core.Path.{◌≡◌, refl, sym, ap}
use mathlib.Core.Bool.{false, true≢false}
use mathlib.Core.List.{List, [], ◌∷◌, ◌++◌, append_assoc}
use Rattle.xliff.specs.Bytes.{gather}
use Rattle.xliff.specs.Item.{Item, Content, start, end, form_P, form_S, text, character, standalone, isolated, pair, annotation_start, annotation_end, is_form_P, half}
use Rattle.xliff.specs.Unit.{ignorable}
use Rattle.xml.specs.Words.{'ignorable', 'source', 'id', codes}
use Rattle.xml.specs.Write.{opening_tag, unless_zero, item_text, head_name, head_attributes}
use Rattle.xml_tags.specs.Tags.{attributes_bytes}
use Rattle.xml_nesting.specs.Nesting.{is_opening, step_of_item}
use Rattle.xml_writer.specs.declared.Open.{Open}
use Rattle.xml_writer.specs.Records.{part_end, part_start}

-- <ignorable id><source>: the two tags' ends are put at once
pub ignorable_source : (o : Open) (i : ℕ)
    → part_end o ++ ((60 ∷ 'ignorable') ++ (attributes_bytes (unless_zero 'id' i) ++ (62 ∷ (60 ∷ 'source') ++ (62 ∷ []))))
    ≡ part_start o (ignorable i)
unfolding opening_tag head_name head_attributes gather 'ignorable' 'source' codes
ignorable_source o i =
    ap (λ (s : List ℕ). part_end o ++ ((60 ∷ 'ignorable') ++ s))
    (sym (append_assoc (attributes_bytes (unless_zero 'id' i)) (62 ∷ []) (60 ∷ ('source' ++ (62 ∷ [])))))

-- what stands behind an item counts for a start alone
pub no_start : (x : Item) (a b : Content) → is_opening (step_of_item x) ≡ false → item_text x a ≡ item_text x b
unfolding item_text step_of_item is_form_P half
no_start (text c) a b e = refl
no_start (character c) a b e = refl
no_start (standalone f) a b e = refl
no_start (isolated start f) a b e = refl
no_start (isolated end f) a b e = refl
no_start (pair start form_P f) a b e = absurd (true≢false e)
no_start (pair start form_S f) a b e = refl
no_start (pair end form_P f) a b e = refl
no_start (pair end form_S f) a b e = refl
no_start (annotation_start form_P i t) a b e = refl
no_start (annotation_start form_S i t) a b e = refl
no_start (annotation_end form_P i) a b e = refl
no_start (annotation_end form_S i) a b e = refl
