-- The view of what was read is that of the specification's item.
use Prim.Native.Nat.{ℕ}
use mathlib.Core.Bool.{Bool, true, false, ◌||◌}
use mathlib.Core.Path.{◌≡◌, refl, sym, ◌∙◌, ap}
use mathlib.Core.List.{List, [], ◌∷◌}
use lib.ListN.{drop}
use Rattle.xliff.specs.Item.{class, half, is_form_P, id_of, fields}
use Rattle.xliff.specs.Encode.{text_run, ill_text}
use Rattle.places.specs.Markers.{item_in, item_at}
use Rattle.table.specs.Meaning.{item, meaning, body}
use Rattle.table.specs.Known.{Known, same_record, some_text}
use Rattle.table.specs.declared.Form.TheVariants.{P, S}
use Rattle.table.specs.declared.Half.TheVariants.{Start, End}
use Rattle.table.specs.declared.Item.{Item}
use Rattle.table.specs.declared.Item.TheVariants.{Character, Standalone, Isolated, Pair, AnnotationStart, AnnotationEnd}
use Rattle.table.specs.declared.Record.TheVariants.{Unit as UnitStart, UnitEnd, Segment, Ignorable, Target, Text, Inline}
use Rattle.table.specs.declared.Read.{Read}
use Rattle.table.specs.declared.Read.TheVariants.{Good, Ill, Broken}
use Rattle.views.specs.Views.{view_of, item_view, view_of_read}
use lib.Dec.{eqb}
use Rattle.xliff.specs.Bytes.{among}
use Rattle.xliff.specs.Item as spec
use Rattle.xliff.specs.Item.{Content, is_inline_code}
use Rattle.xliff.specs.Sequences.{items}
use Rattle.places.specs.Markers.{placed_at}
use Rattle.views.specs.Views.{items_of_markers, is_code}

item_view_lem : (i : Item) → item_view i ≡ view_of (item i)
unfolding view_of class half is_form_P id_of fields
item_view_lem (Character c) = refl
item_view_lem (Standalone f) = refl
item_view_lem (Isolated Start f) = refl
item_view_lem (Isolated End f) = refl
item_view_lem (Pair P Start f) = refl
item_view_lem (Pair P End f) = refl
item_view_lem (Pair S Start f) = refl
item_view_lem (Pair S End f) = refl
item_view_lem (AnnotationStart P i l) = refl
item_view_lem (AnnotationStart S i l) = refl
item_view_lem (AnnotationEnd P i) = refl
item_view_lem (AnnotationEnd S i) = refl

texts_alike : item_in (text_run []) ≡ item_in ill_text
unfolding item_in
texts_alike = refl

read_view : (cs : List ℕ) (r : Read) → view_of_read r ≡ view_of (item_in (meaning cs r))
unfolding view_of class half is_form_P id_of fields item_in
read_view cs (Good (UnitStart c) w) = refl
read_view cs (Good UnitEnd w) = refl
read_view cs (Good (Segment f) w) = refl
read_view cs (Good (Ignorable i) w) = refl
read_view cs (Good (Target q) w) = refl
read_view cs (Good Text w) = refl
read_view cs (Good (Inline i) w) = item_view_lem i
read_view cs Ill = refl
read_view cs (Broken b) = refl

pub view_known : (t : List ℕ) (at : ℕ) (r : Read) → Known (drop at t) r → view_of_read r ≡ view_of (item_at t at)
unfolding item_at
view_known t at r (same_record p q) = read_view (body (drop at t)) r ∙ ap (λ x. view_of (item_in x)) p
view_known t at _ (some_text {w} e) = read_view [] (Good Text w) ∙ ap view_of texts_alike ∙ ap (λ x. view_of (item_in x)) (sym e)

-- the items at some offsets
pub items_at : (t markers : List ℕ) → items (placed_at t markers) ≡ items_of_markers t markers
unfolding items placed_at items_of_markers
items_at t [] = refl
items_at t (o ∷ markers) = ap {B = Content} (λ l. item_at t o ∷ l) (items_at t markers)

-- "a code or half of a pair"
pub code_same : (x : spec.Item) → is_code (view_of x) ≡ is_inline_code x
unfolding view_of among
code_same x = by (eqb (class x) 1) (eqb (class x) 2) (eqb (class x) 3) (eqb (class x) 4)
  where
    by : (a b c d : Bool) → a || (b || (c || d)) ≡ a || (b || (c || (d || false)))
    by true b c d = refl
    by false true c d = refl
    by false false true d = refl
    by false false false true = refl
    by false false false false = refl
