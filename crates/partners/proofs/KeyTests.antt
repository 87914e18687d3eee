-- The tests of rule 7 on keys are the specification's, and texts and characters do not bear on them.
use Prim.Native.Nat.{ℕ}
use mathlib.Core.Path.{◌≡◌, refl, sym, ap, ap₂, ◌∙◌}
use mathlib.Core.Bool.{Bool, true, false, not, ◌&&◌, ◌||◌, cond, true≢false}
use mathlib.Core.List.{List, [], ◌∷◌, map}
use lib.Dec.{eqb}
use borrow.Author.Tests.{eqb-true, not-true, not-false}
use Rattle.xliff.specs.Bytes.{any, keep}
use Rattle.xliff.specs.Item.{Item, Content, text, character, standalone, isolated, pair, annotation_start, annotation_end, class, half, id_of, alike, is_half, is_start_half, is_form_P, other_half}
use Rattle.xliff.specs.Rules.{partner_S, ahead, lone_S, half_of_id, may_be_lone, lone_in_target}
use Rattle.xliff.specs.Sequences.{blamed, items}
use Rattle.places.specs.Markers.{is_marked, only_markers, OnMarks, item_at, placed_at}
use Rattle.places.proofs.Tests.{any_marked}
use Rattle.views.specs.Views.{items_of_markers}
use Rattle.keys.specs.Keys.{key, keys_at, half_key, is_other_key}
use Rattle.keys.proofs.KeyLaws.{id_key_lem, half_key_lem, form_key_lem, alike_key, other_key}
use Rattle.partners.specs.Partners.{partner_s_Key, lone_s_Key, is_half_of_id, only_half, waits_for_key, lone_among_keys, blamed_keys}
use Rattle.views.proofs.ViewLaws.{items_at}

-- on keys
pub partner_keys : (x : Item) (ys : Content) → partner_s_Key (key x) (map key ys) ≡ partner_S x ys
unfolding partner_s_Key partner_S
partner_keys x [] = refl
partner_keys x (y ∷ ys) =
    ap₂ (λ (b c : Bool). cond (b && not c) (is_other_key (key x) (key y)) (partner_s_Key (key x) (map key ys))) (alike_key x y) (form_key_lem y)
    ∙ ap₂ (λ (b c : Bool). cond (alike x y && not (is_form_P y)) b c) (other_key x y) (partner_keys x ys)

map_cond : (b : Bool) (xs ys : Content) → cond b (map key xs) (map key ys) ≡ map key (cond b xs ys)
map_cond true xs ys = refl
map_cond false xs ys = refl

ahead_keys : (x : Item) (before after : Content) → cond (eqb (half_key (key x)) 1) (map key after) (map key before) ≡ map key (ahead x before after)
unfolding ahead
ahead_keys x before after = ap (λ (h : ℕ). cond (eqb h 1) (map key after) (map key before)) (half_key_lem x) ∙ map_cond (is_start_half x) after before

pub lone_keys : (before : Content) (x : Item) (after : Content) → lone_S before x after ≡ lone_s_Key (map key before) (key x) (map key after)
unfolding lone_s_Key lone_S
lone_keys before x after =
    sym
    (ap₂ (λ (h : ℕ) (b : Bool). not (eqb h 0) && (not b && not (partner_s_Key (key x) (cond (eqb (half_key (key x)) 1) (map key after) (map key before))))) (half_key_lem x) (form_key_lem x)
    ∙ ap (λ (b : Bool). is_half x && (not (is_form_P x) && not b)) (ap (partner_s_Key (key x)) (ahead_keys x before after) ∙ partner_keys x (ahead x before after)))

any_keys : (i : ℕ) (ys : Content) → any (is_half_of_id i) (map key ys) ≡ any (half_of_id i) ys
unfolding any is_half_of_id half_of_id
any_keys i [] = refl
any_keys i (y ∷ ys) = ap₂ ◌||◌ (ap₂ (λ (h j : ℕ). not (eqb h 0) && eqb j i) (half_key_lem y) (id_key_lem y)) (any_keys i ys)

only_keys : (before : Content) (x : Item) (after : Content)
    → only_half (map key before) (key x) (map key after) ≡ not (any (half_of_id (id_of x)) before) && not (any (half_of_id (id_of x)) after)
unfolding only_half
only_keys before x after =
    ap (λ (i : ℕ). not (any (is_half_of_id i) (map key before)) && not (any (is_half_of_id i) (map key after))) (id_key_lem x)
    ∙ ap₂ (λ (b c : Bool). not b && not c) (any_keys (id_of x) before) (any_keys (id_of x) after)

and_assoc : (a b c : Bool) → a && b && c ≡ a && (b && c)
and_assoc true b c = refl
and_assoc false b c = refl

-- in targets; `wait` and `bars` say alike which halves wait
module _ (wait : Content) (bars : List ℕ) (waiting_keys : (x : Item) → any (other_half x) wait ≡ waits_for_key (key x) [] bars) where
  pub lone_target_keys : (before : Content) (x : Item) (after : Content) → lone_in_target wait before x after ≡ lone_among_keys bars (map key before) (key x) (map key after)
  unfolding lone_in_target lone_among_keys may_be_lone
  lone_target_keys before x after =
      ap₂ (λ (a b : Bool). a && not b) (lone_keys before x after)
      (sym
      (ap₂ ◌&&◌ (only_keys before x after) (sym (waiting_keys x))
      ∙ and_assoc (not (any (half_of_id (id_of x)) before)) (not (any (half_of_id (id_of x)) after)) (any (other_half x) wait)))

-- on markers alone
pub no_half : (x : Item) → is_marked x ≡ false → half x ≡ 0
unfolding is_marked class half
no_half (text c) e = refl
no_half (character c) e = refl
no_half (standalone f) e = refl
no_half (isolated h f) e = refl
no_half (pair h w f) e = absurd (true≢false e)
no_half (annotation_start w i t) e = absurd (true≢false e)
no_half (annotation_end w i) e = absurd (true≢false e)

not_alike : (x y : Item) → is_marked x ≡ true → is_marked y ≡ false → alike x y ≡ false
unfolding is_marked alike
not_alike x y m e = rw (eqb-true (class y) 0 (not-false _ e), not-true (eqb (class x) 0) m)

partner_marked : (x : Item) → is_marked x ≡ true → (ys : Content) → partner_S x ys ≡ partner_S x (only_markers ys)
unfolding partner_S only_markers keep
partner_marked x m [] = refl
partner_marked x m (y ∷ ys) = by (is_marked y) refl (partner_marked x m ys)
  where
    by : (b : Bool) → is_marked y ≡ b → partner_S x ys ≡ partner_S x (keep is_marked ys)
        → cond (alike x y && not (is_form_P y)) (other_half x y) (partner_S x ys) ≡ partner_S x (cond b (y ∷ keep is_marked ys) (keep is_marked ys))
    by true e ih = ap (cond (alike x y && not (is_form_P y)) (other_half x y)) ih
    by false e ih = rw (not_alike x y m e) ih

marked_cond : (b : Bool) (xs ys : Content) → only_markers (cond b xs ys) ≡ cond b (only_markers xs) (only_markers ys)
marked_cond true xs ys = refl
marked_cond false xs ys = refl

lone_unmarked : (before : Content) (x : Item) (after : Content) → is_marked x ≡ false → lone_S before x after ≡ false
unfolding lone_S
lone_unmarked before x after e = rw (no_half x e)

pub lone_marked : (before : Content) (x : Item) (after : Content) → is_marked x ≡ true → lone_S before x after ≡ lone_S (only_markers before) x (only_markers after)
unfolding lone_S ahead
lone_marked before x after m =
    ap (λ (b : Bool). is_half x && (not (is_form_P x) && not b))
    (partner_marked x m (cond (is_start_half x) after before) ∙ ap (partner_S x) (marked_cond (is_start_half x) after before))

half_marked : (i : ℕ) (y : Item) → is_marked y ≡ false → half_of_id i y ≡ false
unfolding half_of_id
half_marked i y e = rw (no_half y e)

pub on_marks_source : OnMarks lone_S lone_S
on_marks_source = record { unmarked = lone_unmarked; alone = lone_marked }

pub on_marks_target : (wait : Content) → OnMarks (lone_in_target wait) (lone_in_target wait)
unfolding lone_in_target may_be_lone
on_marks_target wait =
    record {
      unmarked = λ before x after e. rw (lone_unmarked before x after e);
      alone = λ before x after m.
          ap₂ (λ (a b : Bool). a && not b) (lone_marked before x after m)
          (ap₂ (λ (a b : Bool). not a && (not b && any (other_half x) wait))
          (any_marked (half_of_id (id_of x)) (half_marked (id_of x)) before) (any_marked (half_of_id (id_of x)) (half_marked (id_of x)) after));
    }

-- what such a test blames among the markers at some offsets
module _ (bad : Content → Item → Content → Bool) (bad_key : List ℕ → ℕ → List ℕ → Bool)
    (same : (before : Content) (x : Item) (after : Content) → bad before x after ≡ bad_key (map key before) (key x) (map key after)) where
  pub blamed_keys_lem : (t markers : List ℕ) (before : Content) → blamed bad before (placed_at t markers) ≡ blamed_keys bad_key (map key before) markers (keys_at t markers)
  unfolding blamed placed_at blamed_keys keys_at items_of_markers
  blamed_keys_lem t [] before = refl
  blamed_keys_lem t (o ∷ markers) before =
      ap₂ (λ (b : Bool) (l : List ℕ). cond b (o ∷ l) l)
      (same before (item_at t o) (items (placed_at t markers)) ∙ ap (λ (l : Content). bad_key (map key before) (key (item_at t o)) (map key l)) (items_at t markers))
      (blamed_keys_lem t markers (item_at t o ∷ before))
