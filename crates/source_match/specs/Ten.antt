-- Rule 10 on views.
use Rattle.std.specs.Prelude.{ℕ, ◌≤◌, ◌≡◌, Bool, false, not, ◌&&◌, ◌||◌, List, eqb, length}
use Rattle.xliff.specs.Item as spec
use Rattle.xliff.specs.Bytes.{any}
use Rattle.views.specs.Views.{view_of, is_code}
use Rattle.views.specs.declared.View.{View}
use Rattle.keys.specs.Keys.{keys_at}
use Rattle.id_links.specs.Links.{Linked, Headed}
use Rattle.source_match.specs.declared.Matches.{Matches}

-- rule 10 on views
abbrev pub view_starts_id : View → View → Bool
view_starts_id x y = not (eqb y.class 0) && not (eqb y.half 2) && eqb y.id x.id

abbrev pub other_class_view : View → View → Bool
other_class_view x y = view_starts_id x y && not (eqb x.class y.class)

abbrev pub agrees_with : View → View → Bool
agrees_with x y =
    eqb x.class y.class && eqb x.id y.id && eqb x.half y.half && (eqb x.refers y.refers && (eqb x.copy y.copy
    && (eqb x.delete y.delete && (eqb x.overlap y.overlap && eqb x.reorder y.reorder))))

abbrev pub may_copy_view : View → View → Bool
may_copy_view x y = eqb x.class y.class && (eqb x.of y.id && eqb y.copy 89)

-- the test of an item, only if it has this id
unfoldable pub test_by : (View → View → Bool) → ℕ → View → spec.Item → Bool
test_by test id x y = eqb (spec.id_of y) id && test x (view_of y)

-- the four tests of one item; the same, only if it has this id; and whether some item with this id passes each
abbrev pub matches_of : View → View → Matches
matches_of x y = record { starts = view_starts_id x y; differs = other_class_view x y; agrees = agrees_with x y; copies = may_copy_view x y }

abbrev pub matches_by : ℕ → View → spec.Item → Matches
matches_by id x y =
    record {
      starts = test_by view_starts_id id x y;
      differs = test_by other_class_view id x y;
      agrees = test_by agrees_with id x y;
      copies = test_by may_copy_view id x y;
    }

unfoldable pub matches_in : ℕ → View → List spec.Item → Matches
matches_in id x ys =
    record {
      starts = any (test_by view_starts_id id x) ys;
      differs = any (test_by other_class_view id x) ys;
      agrees = any (test_by agrees_with id x) ys;
      copies = any (test_by may_copy_view id x) ys;
    }

abbrev pub none_found : Matches
none_found = record { starts = false; differs = false; agrees = false; copies = false }

abbrev pub joined : Matches → Matches → Matches
joined f g =
    record {
      starts = f.starts || g.starts;
      differs = f.differs || g.differs;
      agrees = f.agrees || g.agrees;
      copies = f.copies || g.copies;
    }

abbrev pub bad_ten_source : View → Bool
bad_ten_source x = is_code x && not (eqb x.of 0)

-- of a target item: no source item is one that it may be a copy of
abbrev pub copies_none : List spec.Item → View → Bool
copies_none source x = not (eqb x.of 0) && not (any (λ y. may_copy_view x (view_of y)) source)

abbrev pub bad_ten_target : List spec.Item → View → Bool
bad_ten_target source x =
    any (λ y. other_class_view x (view_of y)) source
    || is_code x && any (λ y. view_starts_id x (view_of y)) source && (not (any (λ y. agrees_with x (view_of y)) source) || not (eqb x.of 0))
    || is_code x && copies_none source x

-- the items at some offsets: their keys, linked by the groups of their ids
abbrev pub LinkedItems : List ℕ → List ℕ → List ℕ → List ℕ → List ℕ → Type 0
LinkedItems t markers keys links heads = (keys ≡ keys_at t markers) × Linked keys links × Headed keys heads × (length markers ≤ length links) × (length heads ≡ 256)
