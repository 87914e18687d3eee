-- The tests of rule 10 ask for an id: it is enough to search among the items that have it.
use Prim.Native.Nat.{ℕ}
use mathlib.Core.Path.{◌≡◌, refl, sym, ◌∙◌, ap}
use mathlib.Core.Bool.{Bool, true, false, not, ◌&&◌, ◌||◌}
use mathlib.Core.List.{List}
use lib.Dec.{eqb}
use borrow.Author.Tests.{eqb-false, ne_eqb}
use Rattle.xliff.specs.Bytes.{any}
use Rattle.xliff.specs.Item as spec
use Rattle.xliff.specs.Item.{half, class, id_of}
use Rattle.xliff.proofs.lists.Tests.{and_false}
use Rattle.views.specs.Views.{view_of, is_code}
use Rattle.views.specs.declared.View.{View}
use Rattle.source_match.specs.Ten.{test_by, view_starts_id, other_class_view, agrees_with, may_copy_view, matches_in, copies_none, bad_ten_target}
use Rattle.source_match.specs.declared.Matches.{Matches}
use Rattle.source_match.proofs.TestLaws.{any_each}

turned : (a b : ℕ) → eqb a b ≡ false → eqb b a ≡ false
turned a b e = ne_eqb b a (λ z. eqb-false a b e (sym z))

-- an item with another id passes no test that asks for this one
module _ (x : View) (y : spec.Item) where
  pub starts_other_id : eqb (id_of y) x.id ≡ false → view_starts_id x (view_of y) ≡ false
  unfolding view_of
  starts_other_id e = rw e (and_false (not (eqb (class y) 0) && not (eqb (half y) 2)))

  pub differs_other_id : eqb (id_of y) x.id ≡ false → other_class_view x (view_of y) ≡ false
  differs_other_id e = rw (starts_other_id e) refl

  pub agrees_other_id : eqb (id_of y) x.id ≡ false → agrees_with x (view_of y) ≡ false
  unfolding view_of
  agrees_other_id e =
      let d : eqb x.id (id_of y) ≡ false = turned (id_of y) x.id e in
      rw (d, and_false (eqb x.class (class y))) refl

  pub copies_other_id : eqb (id_of y) x.of ≡ false → may_copy_view x (view_of y) ≡ false
  unfolding view_of
  copies_other_id e =
      let d : eqb x.of (id_of y) ≡ false = turned (id_of y) x.of e in
      rw d (and_false (eqb x.class (class y)))

-- so a search among the items with that id finds what a search among all does
pub any_by : (test : View → View → Bool) (id : ℕ) (x : View) → ((y : spec.Item) → eqb (id_of y) id ≡ false → test x (view_of y) ≡ false)
    → (l : List spec.Item) → any (test_by test id x) l ≡ any (λ y. test x (view_of y)) l
unfolding test_by
any_by test id x other l = any_each _ _ (λ y. by (eqb (id_of y) id) (test x (view_of y)) (other y)) l
  where
    by : (b c : Bool) → (b ≡ false → c ≡ false) → b && c ≡ c
    by true c h = refl
    by false c h = sym (h refl)

-- rule 10 of a target item by the tests of the items with its id, and of those with the id that it copies
module _ (x : View) (l : List spec.Item) (m : Matches) where
  pub copies_none_is : ((x.of ≡ 0) → ⊥) → m ≡ matches_in x.of x l → not m.copies ≡ copies_none l x
  unfolding matches_in
  copies_none_is h e = rw (ne_eqb x.of 0 h) (ap (λ (f : Matches). not f.copies) e ∙ ap not (any_by may_copy_view x.of x (copies_other_id x) l))

  pub bad_target_is : (code none : Bool) → m ≡ matches_in x.id x l → code ≡ is_code x → none ≡ copies_none l x
      → m.differs || code && m.starts && (not m.agrees || not (eqb x.of 0)) || code && none ≡ bad_ten_target l x
  unfolding matches_in
  bad_target_is code none e f g =
      rw (e, f, g, any_by view_starts_id x.id x (starts_other_id x) l, any_by other_class_view x.id x (differs_other_id x) l, any_by agrees_with x.id x (agrees_other_id x) l) refl
