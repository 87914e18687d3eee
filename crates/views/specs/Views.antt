-- Items as numbers, and the tests of the rules on them.
use Rattle.std.specs.Prelude.{ℕ, Bool, true, false, ◌||◌, List, map, eqb}
use Rattle.xliff.specs.Item as spec
use Rattle.places.specs.Markers.{item_at}
use Rattle.table.specs.declared.Fields.{Fields}
use Rattle.table.specs.declared.Form.{Form}
use Rattle.table.specs.declared.Form.TheVariants.{P, S}
use Rattle.table.specs.declared.Half.{Half}
use Rattle.table.specs.declared.Half.TheVariants.{Start, End}
use Rattle.table.specs.declared.Item.{Item}
use Rattle.table.specs.declared.Item.TheVariants.{Character, Standalone, Isolated, Pair, AnnotationStart, AnnotationEnd}
use Rattle.table.specs.declared.Record.{Record}
use Rattle.table.specs.declared.Record.TheVariants.{Unit as UnitStart, UnitEnd, Segment, Ignorable, Target, Text, Inline}
use Rattle.table.specs.declared.Read.{Read}
use Rattle.table.specs.declared.Read.TheVariants.{Good, Ill, Broken}
use Rattle.views.specs.declared.View.{View}

-- what the specification's tests ask of an item
unfoldable pub view_of : spec.Item → View
view_of x =
    record {
      class = spec.class x;
      half = spec.half x;
      pform = spec.is_form_P x;
      id = spec.id_of x;
      of = (spec.fields x).copy_of;
      refers = (spec.fields x).data_ref;
      copy = (spec.fields x).can_copy;
      delete = (spec.fields x).can_delete;
      overlap = (spec.fields x).can_overlap;
      reorder = (spec.fields x).can_reorder;
    }

unfoldable pub items_of_markers : List ℕ → List ℕ → List spec.Item
items_of_markers t markers = map (item_at t) markers

-- The code's cases; ViewLaws has that they are view_of
abbrev pub nothing : View
nothing = record { class = 0; half = 0; pform = false; id = 0; of = 0; refers = 0; copy = 0; delete = 0; overlap = 0; reorder = 0 }

abbrev pub code_view : ℕ → ℕ → Bool → Fields → View
code_view c h p f =
    record {
      class = c;
      half = h;
      pform = p;
      id = f.id;
      of = f.copy_of;
      refers = f.data_ref;
      copy = f.letters.copy;
      delete = f.letters.delete;
      overlap = f.letters.overlap;
      reorder = f.letters.reorder;
    }

abbrev pub annotation_view : ℕ → Bool → ℕ → View
annotation_view h p i = record { class = 5; half = h; pform = p; id = i; of = 0; refers = 0; copy = 0; delete = 0; overlap = 0; reorder = 0 }

abbrev pub half_number : Half → ℕ
half_number Start = 1
half_number End = 2

abbrev pub isolated_class : Half → ℕ
isolated_class Start = 3
isolated_class End = 4

abbrev pub form_flag : Form → Bool
form_flag P = true
form_flag S = false

abbrev pub item_view : Item → View
item_view (Character c) = nothing
item_view (Standalone f) = code_view 1 0 false f
item_view (Isolated h f) = code_view (isolated_class h) 0 false f
item_view (Pair w h f) = code_view 2 (half_number h) (form_flag w) f
item_view (AnnotationStart w i l) = annotation_view 1 (form_flag w) i
item_view (AnnotationEnd w i) = annotation_view 2 (form_flag w) i

abbrev pub record_view : Record → View
record_view (UnitStart c) = nothing
record_view UnitEnd = nothing
record_view (Segment f) = nothing
record_view (Ignorable i) = nothing
record_view (Target q) = nothing
record_view Text = nothing
record_view (Inline i) = item_view i

abbrev pub view_of_read : Read → View
view_of_read (Good x w) = record_view x
view_of_read Ill = nothing
view_of_read (Broken b) = nothing

abbrev pub is_code : View → Bool
is_code x = eqb x.class 1 || (eqb x.class 2 || (eqb x.class 3 || eqb x.class 4))
