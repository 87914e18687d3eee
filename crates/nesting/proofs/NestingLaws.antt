-- The rule for halves of pc and mrk on keys is that of the specification, and does not see text and characters.
use Prim.Native.Nat.{ℕ}
use mathlib.Core.Path.{◌≡◌, refl, ap, ◌∙◌}
use mathlib.Core.Bool.{Bool, true, false, not, ◌&&◌, cond, true≢false}
use mathlib.Core.List.{List, [], ◌∷◌, map}
use mathlib.Core.Option.{Option, none, some}
use lib.Dec.{eqb}
use Rattle.xliff.specs.Bytes.{keep}
use Rattle.xliff.specs.Item.{Item, Content, start, end, text, character, standalone, isolated, pair, annotation_start, annotation_end, class, half, is_form_P, other_half}
use Rattle.xliff.specs.Rules.{meet, meet_all, all_met, partner_P, ahead, lone_P}
use Rattle.places.specs.Markers.{is_marked, only_markers, OnMarks}
use Rattle.keys.specs.Keys.{key}
use Rattle.keys.proofs.KeyLaws.{half_key_lem, form_key_lem, other_key}
use Rattle.contents.specs.Nesting.{meet_key, meet_keys, all_met_keys, lone_p_Key}

unfoldable pub open_keys : Option (List Item) → Option (List ℕ)
open_keys none = none
open_keys (some xs) = some (map key xs)

meet_key_lem : (halves : Option (List Item)) (y : Item) → meet_key (open_keys halves) (key y) ≡ open_keys (meet halves y)
unfolding open_keys meet_key meet
meet_key_lem none y = refl
meet_key_lem (some []) y = refl
meet_key_lem (some (x ∷ xs)) y = rw (other_key x y, form_key_lem y, half_key_lem x, half_key_lem y) (by (is_form_P y) (eqb (half x) (half y)) (other_half x y))
  where
    by : (a b c : Bool)
        → cond a (cond b (some (key y ∷ key x ∷ map key xs)) (cond c (some (map key xs)) none)) (some (key x ∷ map key xs))
        ≡ open_keys (cond a (cond b (some (y ∷ x ∷ xs)) (cond c (some xs) none)) (some (x ∷ xs)))
    by true true c = refl
    by true false true = refl
    by true false false = refl
    by false b c = refl

meet_keys_lem : (halves : Option (List Item)) (ys : Content) → meet_keys (open_keys halves) (map key ys) ≡ open_keys (meet_all halves ys)
unfolding meet_keys meet_all
meet_keys_lem halves [] = refl
meet_keys_lem halves (y ∷ ys) = ap (λ (o : Option (List ℕ)). meet_keys o (map key ys)) (meet_key_lem halves y) ∙ meet_keys_lem (meet halves y) ys

met_keys : (halves : Option (List Item)) → all_met_keys (open_keys halves) ≡ all_met halves
unfolding open_keys all_met_keys all_met
met_keys none = refl
met_keys (some []) = refl
met_keys (some (x ∷ xs)) = refl

partner_keys : (x : Item) (ys : Content) → all_met_keys (meet_keys (some (key x ∷ [])) (map key ys)) ≡ partner_P x ys
unfolding partner_P open_keys
partner_keys x ys = ap all_met_keys (meet_keys_lem (some (x ∷ [])) ys) ∙ met_keys (meet_all (some (x ∷ [])) ys)

pub lone_keys : (before : Content) (x : Item) (after : Content) → lone_p_Key (map key before) (key x) (map key after) ≡ lone_P before x after
unfolding lone_p_Key lone_P ahead
lone_keys before x after = rw (half_key_lem x, form_key_lem x) (by (eqb (half x) 1))
  where
    by : (b : Bool)
        → not (eqb (half x) 0) && (is_form_P x && not (all_met_keys (meet_keys (some (key x ∷ [])) (cond b (map key after) (map key before)))))
        ≡ not (eqb (half x) 0) && (is_form_P x && not (partner_P x (cond b after before)))
    by true = ap (λ (c : Bool). not (eqb (half x) 0) && (is_form_P x && not c)) (partner_keys x after)
    by false = ap (λ (c : Bool). not (eqb (half x) 0) && (is_form_P x && not c)) (partner_keys x before)

-- text and characters open and close nothing
meet_unmarked : (halves : Option (List Item)) (y : Item) → is_marked y ≡ false → meet halves y ≡ halves
unfolding meet is_marked class is_form_P
meet_unmarked none y e = refl
meet_unmarked (some []) y e = refl
meet_unmarked (some (x ∷ xs)) (text c) e = refl
meet_unmarked (some (x ∷ xs)) (character c) e = refl
meet_unmarked (some (x ∷ xs)) (standalone f) e = absurd (true≢false e)
meet_unmarked (some (x ∷ xs)) (isolated start f) e = absurd (true≢false e)
meet_unmarked (some (x ∷ xs)) (isolated end f) e = absurd (true≢false e)
meet_unmarked (some (x ∷ xs)) (pair h w f) e = absurd (true≢false e)
meet_unmarked (some (x ∷ xs)) (annotation_start w i t) e = absurd (true≢false e)
meet_unmarked (some (x ∷ xs)) (annotation_end w i) e = absurd (true≢false e)

meet_marked : (halves : Option (List Item)) (ys : Content) → meet_all halves ys ≡ meet_all halves (only_markers ys)
unfolding meet_all only_markers keep
meet_marked halves [] = refl
meet_marked halves (y ∷ ys) = by (is_marked y) refl (λ o. meet_marked o ys)
  where
    by : (b : Bool) → is_marked y ≡ b → ((o : Option (List Item)) → meet_all o ys ≡ meet_all o (keep is_marked ys))
        → meet_all (meet halves y) ys ≡ meet_all halves (cond b (y ∷ keep is_marked ys) (keep is_marked ys))
    by true e ih = ih (meet halves y)
    by false e ih = rw (meet_unmarked halves y e) (ih halves)

lone_unmarked : (before : Content) (x : Item) (after : Content) → is_marked x ≡ false → lone_P before x after ≡ false
unfolding lone_P is_marked class half
lone_unmarked before (text c) after e = refl
lone_unmarked before (character c) after e = refl
lone_unmarked before (standalone f) after e = refl
lone_unmarked before (isolated h f) after e = refl
lone_unmarked before (pair h w f) after e = absurd (true≢false e)
lone_unmarked before (annotation_start w i t) after e = absurd (true≢false e)
lone_unmarked before (annotation_end w i) after e = absurd (true≢false e)

lone_marked : (before : Content) (x : Item) (after : Content) → lone_P before x after ≡ lone_P (only_markers before) x (only_markers after)
unfolding lone_P partner_P ahead
lone_marked before x after = by (eqb (half x) 1)
  where
    at : Content → Content → Type 0
    at ys zs = not (eqb (half x) 0) && (is_form_P x && not (all_met (meet_all (some (x ∷ [])) ys))) ≡ not (eqb (half x) 0) && (is_form_P x && not (all_met (meet_all (some (x ∷ [])) zs)))

    by : (b : Bool) → at (cond b after before) (cond b (only_markers after) (only_markers before))
    by true = ap (λ (o : Option (List Item)). not (eqb (half x) 0) && (is_form_P x && not (all_met o))) (meet_marked (some (x ∷ [])) after)
    by false = ap (λ (o : Option (List Item)). not (eqb (half x) 0) && (is_form_P x && not (all_met o))) (meet_marked (some (x ∷ [])) before)

pub on_lone : OnMarks lone_P lone_P
on_lone = record { unmarked = lone_unmarked; alone = λ before x after e. lone_marked before x after }
