-- Rule 10 on markers.
use Prim.Native.Nat.{ℕ}
use mathlib.Core.Path.{◌≡◌, refl, sym, ap, ap₂, ◌∙◌}
use mathlib.Core.Bool.{Bool, true, false, not, ◌||◌, true≢false}
use mathlib.Core.List.{List, [], ◌∷◌, ◌++◌, map}
use lib.ListN.{length}
use lib.Dec.{eqb}
use borrow.Author.Tests.{eqb-true}
use Rattle.xliff.specs.Bytes.{gather, any, among}
use Rattle.xliff.specs.Item.{Item, Content, start, end, text, character, standalone, isolated, pair, annotation_start, annotation_end, class, half, id_of, alike}
use Rattle.xliff.specs.Unit.{Part, source_sequence}
use Rattle.xliff.specs.Encode.{unit_records}
use Rattle.xliff.specs.Parse.{unit, good_id, good_code}
use Rattle.xliff.specs.Sequences.{Placed, located, blamed, items, first_of}
use Rattle.xliff.specs.Rules.{bad_10_source, bad_10_target, unlike_source, bad_copy, of_other_class, starts_id, agrees, same_half, may_copy, fault_10}
use Rattle.xliff.proofs.lists.Tests.{and_left, any_append}
use Rattle.xliff.specs.Good.{each_nil, each_cons, GoodIn, GoodContent, GoodParts}
use Rattle.places.specs.Passes.{Passes}
use Rattle.places.specs.Found.{marks_found}
use Rattle.places.specs.Markers.{is_marked, only_markers, OnMarks, placed_at, target_offsets}
use Rattle.places.proofs.Tests.{any_marked, source_blamed, target_blamed, source_items}

not-true : (b : Bool) → not b ≡ true → b ≡ false
not-true true e = sym e
not-true false e = refl

not-false : (b : Bool) → not b ≡ false → b ≡ true
not-false true e = refl
not-false false e = sym e

pub no_class : (x : Item) → is_marked x ≡ false → class x ≡ 0
unfolding is_marked
no_class x e = eqb-true (class x) 0 (not-false _ e)

pub on_10_source : OnMarks bad_10_source bad_10_source
unfolding bad_10_source among
on_10_source = record { unmarked = λ before x after e. rw (no_class x e); alone = λ before x after e. refl }

-- no id is 0
good_start : (x : Item) → GoodIn x → starts_id 0 x ≡ false
unfolding starts_id class half id_of good_code good_id
good_start (text c) g = refl
good_start (character c) g = refl
good_start (standalone f) g = not-true (eqb f.id 0) (and_left _ _ g)
good_start (isolated start f) g = not-true (eqb f.id 0) (and_left _ _ g)
good_start (isolated end f) g = not-true (eqb f.id 0) (and_left _ _ g)
good_start (pair start w f) g = not-true (eqb f.id 0) (and_left _ _ g)
good_start (pair end w f) g = refl
good_start (annotation_start w i l) g = not-true (eqb i 0) g.0
good_start (annotation_end w i) g = refl

good_starts : {xs : Content} → GoodContent xs → any (starts_id 0) xs ≡ false
unfolding any
good_starts each_nil = refl
good_starts (each_cons {x = x} g h) = rw (good_start x g) (good_starts h)

good_sources : {ps : List Part} → GoodParts ps → any (starts_id 0) (source_sequence ps) ≡ false
unfolding any source_sequence gather
good_sources each_nil = refl
good_sources (each_cons {x = p} {xs = ps} g h) = any_append (starts_id 0) p.source (gather (λ p. p.source) ps) ∙ rw (good_starts g.source) (good_sources h)

any_below : (p q : Item → Bool) → ((x : Item) → q x ≡ false → p x ≡ false) → (l : Content) → any q l ≡ false → any p l ≡ false
unfolding any
any_below p q h [] e = refl
any_below p q h (x ∷ l) e = by (λ k. any_below p q h l k) (q x) refl e
  where
    by : (any q l ≡ false → any p l ≡ false) → (b : Bool) → q x ≡ b → b || any q l ≡ false → p x || any p l ≡ false
    by ih true s k = absurd (true≢false k)
    by ih false s k = rw (h x s) (ih k)

other_none : (x y : Item) → starts_id (id_of x) y ≡ false → of_other_class x y ≡ false
unfolding of_other_class
other_none x y e = rw e

module _ (x : Item) (m : is_marked x ≡ true) where
  unlike_class : (y : Item) → is_marked y ≡ false → eqb (class x) (class y) ≡ false
  unfolding is_marked
  unlike_class y e = rw (no_class y e) (not-true _ m)

  starts_marked : (i : ℕ) (y : Item) → is_marked y ≡ false → starts_id i y ≡ false
  unfolding starts_id
  starts_marked i y e = rw (no_class y e)

  other_marked : (y : Item) → is_marked y ≡ false → of_other_class x y ≡ false
  other_marked y e = other_none x y (starts_marked (id_of x) y e)

  agrees_marked : (y : Item) → is_marked y ≡ false → agrees x y ≡ false
  unfolding agrees same_half alike
  agrees_marked y e = rw (unlike_class y e)

  copy_marked : (y : Item) → is_marked y ≡ false → may_copy x y ≡ false
  unfolding may_copy
  copy_marked y e = rw (unlike_class y e)

  ten_marked : (source before after : Content) → bad_10_target source before x after ≡ bad_10_target (only_markers source) before x after
  unfolding bad_10_target unlike_source bad_copy
  ten_marked source before after =
      rw (
        any_marked (of_other_class x) other_marked source,
        any_marked (starts_id (id_of x)) (starts_marked (id_of x)) source,
        any_marked (agrees x) agrees_marked source,
        any_marked (may_copy x) copy_marked source,
      )

  ten_anew : (source b b' a a' : Content) → bad_10_target source b x a ≡ bad_10_target source b' x a'
  unfolding bad_10_target
  ten_anew source b b' a a' = refl

no_ten : (source before : Content) (x : Item) (after : Content) → any (starts_id 0) source ≡ false → is_marked x ≡ false → bad_10_target source before x after ≡ false
unfolding bad_10_target unlike_source bad_copy class id_of among is_marked
no_ten source before (text c) after h e = rw (any_below _ _ (other_none (text c)) source h)
no_ten source before (character c) after h e = rw (any_below _ _ (other_none (character c)) source h)
no_ten source before (standalone f) after h e = absurd (true≢false e)
no_ten source before (isolated start f) after h e = absurd (true≢false e)
no_ten source before (isolated end f) after h e = absurd (true≢false e)
no_ten source before (pair g w f) after h e = absurd (true≢false e)
no_ten source before (annotation_start w i l) after h e = absurd (true≢false e)
no_ten source before (annotation_end w i) after h e = absurd (true≢false e)

pub on_10_target : (source : Content) → any (starts_id 0) source ≡ false → OnMarks (bad_10_target source) (bad_10_target (only_markers source))
on_10_target source h =
    record {
      unmarked = λ before x after e. no_ten source before x after h e;
      alone = λ before x after e. ten_marked x e source before after ∙ ten_anew x e (only_markers source) before (only_markers before) after (only_markers after);
    }

-- rule 10 on the markers at their offsets
pub rule_10_marks : (t : List ℕ) → Passes t
    → fault_10 (unit t).parts
    ≡ first_of 10
    (blamed bad_10_source [] (placed_at t (map (λ (p : Placed). p.at) (marks_found true 0 false 0 (unit_records (unit t)))))
    ++ blamed (bad_10_target (items (placed_at t (map (λ (p : Placed). p.at) (marks_found true 0 false 0 (unit_records (unit t))))))) []
    (placed_at t (target_offsets t 0 (length (located (unit t).parts)))))
unfolding fault_10
rule_10_marks t p =
    ap (first_of 10)
    (ap₂ ◌++◌ (source_blamed t p bad_10_source bad_10_source on_10_source)
    (target_blamed t p _ _ (on_10_target (source_sequence (unit t).parts) (good_sources p.good_parts))
    ∙ ap (λ (s : Content). blamed (bad_10_target s) [] (placed_at t (target_offsets t 0 (length (located (unit t).parts))))) (source_items t p)))
