-- Rewriting the halves of one id: what it does to marks and shapes; the two halves of a pair that a sequence holds; and
-- rule 8 and balance with them.
use Prim.Native.Nat.{ℕ, ◌+◌, ◌≤◌}
use native.Mathlib.Omega.{arith}
use mathlib.Core.Path.{◌≡◌, refl, sym, ap, ap₂, ◌∙◌, subst}
use mathlib.Core.Bool.{Bool, true, false, ◌&&◌, ◌||◌, cond, true≢false, false≢true}
use mathlib.Core.List.{List, [], ◌∷◌, ◌++◌, map, reverse_aux, append-nil, head-eq_of_cons-eq, tail-eq_of_cons-eq}
use mathlib.Core.Logic.{◌⊎◌, inr}
use mathlib.Core.Option.{Option, none, some}
use lib.Dec.{eqb}
use lib.ListN.{length}
use borrow.Author.Tests.{eqb-true, eqb-false, eq-eqb}
use Rattle.xliff.specs.Bytes.{gather}
use Rattle.xliff.specs.Item.{Item, Content, Fields, Half, start, end, Form, form_P, form_S, text, character, standalone, isolated, pair, annotation_start, annotation_end, in_form, flat, half, is_form_P, is_half, is_start_half, other_half, class, id_of, fields}
use Rattle.xliff.specs.Rules.{half_of_id, partner_P, nearest}
use Rattle.xliff.specs.Rewrite.{rewrite_item, Whole, ended_by, find_whole, are_partners}
use Rattle.xliff.proofs.rules.Flat.{class_alike, half_alike, id_alike}
use Rattle.xliff.proofs.lists.Sum.{bit, sum, sum_append, sum_le}
use Rattle.xliff.proofs.lists.Tests.{none_some, and_left, and_right, map-append, rev_append, map_map, map_same}
use Rattle.xliff.proofs.operations.Sources.{flat_rewrite}
use Rattle.xliff.proofs.rules.Stack.{Key, key, PM, skip, opn, cls, Run, r_opn, r_cls, Bal, Run-append, Run-split, Run-frame, Run-det, Empties-run}
use Rattle.xliff.proofs.rules.Balance.{key_of, pm, Balanced, start_partner}
use Rattle.xliff.proofs.rules.Marks.{Mk, mk, side, mark_of, mk_of, marks, Shape, sh_none, sh_pair, sh_lone, opposite, any_mk, other_half_is, not_alike, not_other, is_half_of, is_id, pm_half, inv_skip}
use Rattle.xliff.proofs.rules.Turn.{is_cls, turn, flat_same, balanced_turn}
use Rattle.xliff.proofs.rules.Eight.{near, letter_fits, Eased, eased_cons, eased_refl, eased_append}

-- how many halves of an id a content has; how many of them with the marks of pc or mrk
abbrev pub half_bit : ℕ → Item → ℕ
half_bit i x = bit (half_of_id i x)

abbrev pub halves : ℕ → Content → ℕ
halves i xs = sum (half_bit i) xs

abbrev pub P-bit : ℕ → Item → ℕ
P-bit i x = bit (half_of_id i x && is_form_P x)

pub halves_marks : (i : ℕ) (xs : Content) → length (marks i xs) ≡ halves i xs
unfolding marks gather
halves_marks i [] = refl
halves_marks i (x ∷ xs) = by (half_of_id i x) (halves_marks i xs)
  where
    by : (b : Bool) → length (marks i xs) ≡ halves i xs → length (cond b (mark_of x ∷ []) [] ++ marks i xs) ≡ bit b + halves i xs
    by true e = omega arith
    by false e = omega arith

-- where there is none, nothing is rewritten
pub untouched : (i : ℕ) (w : Form) (xs : Content) → halves i xs ≡ 0 → map (rewrite_item i w) xs ≡ xs
unfolding rewrite_item
untouched i w [] e = refl
untouched i w (x ∷ xs) e = by (half_of_id i x) refl (untouched i w xs)
  where
    by : (b : Bool) → half_of_id i x ≡ b → (halves i xs ≡ 0 → map (rewrite_item i w) xs ≡ xs) → cond b (in_form w x) x ∷ map (rewrite_item i w) xs ≡ x ∷ xs
    by true q ih = let z : half_bit i x ≡ 1 = rw q in absurd (let y : ⊥ = omega arith in y)
    by false q ih = ap {B = Content} (λ l. x ∷ l) (ih (let z : half_bit i x ≡ 0 = rw q in omega arith))

-- Marks of what is rewritten
abbrev pub is_P : Form → Bool
is_P form_P = true
is_P form_S = false

pub form_in : (w : Form) (x : Item) → is_half x ≡ true → is_form_P (in_form w x) ≡ is_P w
unfolding is_form_P in_form half
form_in w (text c) e = absurd (false≢true e)
form_in w (character c) e = absurd (false≢true e)
form_in w (standalone f) e = absurd (false≢true e)
form_in w (isolated h f) e = absurd (false≢true e)
form_in form_P (pair h v f) e = refl
form_in form_S (pair h v f) e = refl
form_in form_P (annotation_start v i t) e = refl
form_in form_S (annotation_start v i t) e = refl
form_in form_P (annotation_end v i) e = refl
form_in form_S (annotation_end v i) e = refl

abbrev pub set_form : Bool → Mk → Mk
set_form b (mk c w s) = mk c b s

-- class, id and half of a rewritten item
view_class : (i : ℕ) (w : Form) (x : Item) → class (rewrite_item i w x) ≡ class x
view_class i w x = class_alike x (rewrite_item i w x) (flat_rewrite i w x)

view_half : (i : ℕ) (w : Form) (x : Item) → half (rewrite_item i w x) ≡ half x
view_half i w x = half_alike x (rewrite_item i w x) (flat_rewrite i w x)

view_id : (i : ℕ) (w : Form) (x : Item) → id_of (rewrite_item i w x) ≡ id_of x
view_id i w x = id_alike x (rewrite_item i w x) (flat_rewrite i w x)

view_of : (i j : ℕ) (w : Form) (x : Item) → half_of_id j (rewrite_item i w x) ≡ half_of_id j x
unfolding half_of_id
view_of i j w x = rw (view_half i w x, view_id i w x)

view_form : (i : ℕ) (w : Form) (x : Item) → half_of_id i x ≡ true → is_form_P (rewrite_item i w x) ≡ is_P w
unfolding rewrite_item
view_form i w x e = rw e (form_in w x (is_half_of i x e))

view_other : (i : ℕ) (w : Form) (x : Item) → half_of_id i x ≡ false → rewrite_item i w x ≡ x
unfolding rewrite_item
view_other i w x e = rw e

pub marks_rewritten : (i : ℕ) (w : Form) (xs : Content) → marks i (map (rewrite_item i w) xs) ≡ map (set_form (is_P w)) (marks i xs)
unfolding marks gather
marks_rewritten i w [] = refl
marks_rewritten i w (x ∷ xs) =
    ap₂ ◌++◌ (ap (λ (b : Bool). cond b (mark_of (rewrite_item i w x) ∷ []) []) (view_of i i w x) ∙ by (half_of_id i x) refl) (marks_rewritten i w xs)
    ∙ sym (map-append (set_form (is_P w)) (mk_of i x) (marks i xs))
  where
    by : (b : Bool) → half_of_id i x ≡ b → cond b (mark_of (rewrite_item i w x) ∷ []) [] ≡ map (set_form (is_P w)) (cond b (mark_of x ∷ []) [])
    by true e = rw (view_class i w x, view_half i w x, view_form i w x e)
    by false e = refl

pub marks_others : (i j : ℕ) (w : Form) → (j ≡ i → ⊥) → (xs : Content) → marks j (map (rewrite_item i w) xs) ≡ marks j xs
unfolding marks gather
marks_others i j w n [] = refl
marks_others i j w n (x ∷ xs) = ap₂ ◌++◌ (by (half_of_id i x) refl) (marks_others i j w n xs)
  where
    gone : half_of_id i x ≡ true → (b : Bool) → half_of_id j x ≡ b → b ≡ false
    gone e true k = absurd (n (sym (is_id j x k) ∙ is_id i x e))
    gone e false k = refl

    by : (b : Bool) → half_of_id i x ≡ b → mk_of j (rewrite_item i w x) ≡ mk_of j x
    by true e = rw (view_of i j w x, gone e (half_of_id j x) refl)
    by false e = ap (mk_of j) (view_other i w x e)

any_mk_form : (b : Bool) (c : ℕ) (s : Half) (l : List Mk) → any_mk c s (map (set_form b) l) ≡ any_mk c s l
any_mk_form b c s [] = refl
any_mk_form b c s (mk d w t ∷ l) = ap (λ (z : Bool). eqb c d && opposite s t || z) (any_mk_form b c s l)

-- what waits does not see forms
pub waits_rewritten : (i j : ℕ) (w : Form) (xs : Content) (c : ℕ) (s : Half) → any_mk c s (marks j (map (rewrite_item i w) xs)) ≡ any_mk c s (marks j xs)
waits_rewritten i j w xs c s = by (eqb j i) refl
  where
    by : (b : Bool) → eqb j i ≡ b → any_mk c s (marks j (map (rewrite_item i w) xs)) ≡ any_mk c s (marks j xs)
    by true e =
        subst (λ (k : ℕ). any_mk c s (marks k (map (rewrite_item i w) xs)) ≡ any_mk c s (marks k xs)) (sym (eqb-true j i e))
        (ap (any_mk c s) (marks_rewritten i w xs) ∙ any_mk_form (is_P w) c s (marks i xs))
    by false e = ap (any_mk c s) (marks_others i j w (eqb-false j i e) xs)

-- shapes: of the id there is a pair
shape_form : {e : ℕ → Half → Bool} (b : Bool) (l : List Mk) → 2 ≤ length l → Shape e l → Shape e (map (set_form b) l)
shape_form b [] h sh_none = sh_none
shape_form {e = e} b (m ∷ (n ∷ (_ ∷ _))) h x8 = elim x8 [ ]
shape_form b (m ∷ n ∷ []) h (sh_pair c w) = sh_pair c b
shape_form b (m ∷ []) h (sh_lone c s k) = absurd (let z : ⊥ = omega arith in z)

pub shape_rewritten : (e : ℕ → ℕ → Half → Bool) (i : ℕ) (w : Form) (xs : Content) → 2 ≤ halves i xs → ((j : ℕ) → Shape (e j) (marks j xs))
    → (j : ℕ) → Shape (e j) (marks j (map (rewrite_item i w) xs))
shape_rewritten e i w xs two h j = by (eqb j i) refl
  where
    by : (b : Bool) → eqb j i ≡ b → Shape (e j) (marks j (map (rewrite_item i w) xs))
    by true q =
        subst (λ (k : ℕ). Shape (e k) (marks k (map (rewrite_item i w) xs))) (sym (eqb-true j i q))
        (subst (Shape (e i)) (sym (marks_rewritten i w xs)) (shape_form (is_P w) (marks i xs) (let z = halves_marks i xs in omega arith) (h i)))
    by false q = subst (Shape (e j)) (sym (marks_others i j w (eqb-false j i q) xs)) (h j)

-- THE TWO HALVES of a pair or annotation in a sequence
pub record TwoHalves (i : ℕ) (xs : Content) : Type 0 where
  pub before : Content
  pub opener : Item
  pub between : Content
  pub closer : Item
  pub behind : Content
  pub is : xs ≡ before ++ (opener ∷ (between ++ (closer ∷ behind)))
  pub none_before : halves i before ≡ 0
  pub none_between : halves i between ≡ 0
  pub none_behind : halves i behind ≡ 0
  pub opens : half_of_id i opener ≡ true
  pub closes : half_of_id i closer ≡ true
  pub starts : is_start_half opener ≡ true
  pub ends : is_start_half closer ≡ false
  pub classes : class opener ≡ class closer
  pub forms : is_form_P opener ≡ is_form_P closer

pub first_mark : (i : ℕ) (xs : Content) (m : Mk) (l : List Mk) → marks i xs ≡ m ∷ l
    → (b : Content) × (x : Item) × (r : Content) × (xs ≡ b ++ (x ∷ r)) × (halves i b ≡ 0) × (half_of_id i x ≡ true) × (mark_of x ≡ m) × (marks i r ≡ l)
unfolding marks gather
first_mark i [] m l e = let z : true ≡ false = cc in absurd (false≢true (sym z))
first_mark i (x ∷ xs) m l e = by (half_of_id i x) refl e (first_mark i xs m l)
  where
    Found : Content → Type 0
    Found ys = (b : Content) × (x : Item) × (r : Content) × (ys ≡ b ++ (x ∷ r)) × (halves i b ≡ 0) × (half_of_id i x ≡ true) × (mark_of x ≡ m) × (marks i r ≡ l)

    by : (b : Bool) → half_of_id i x ≡ b → cond b (mark_of x ∷ []) [] ++ marks i xs ≡ m ∷ l → (marks i xs ≡ m ∷ l → Found xs) → Found (x ∷ xs)
    by true q k ih = ([], x, xs, refl, refl, q, head-eq_of_cons-eq k, tail-eq_of_cons-eq k)
    by false q k ih =
        let (b, y, r, f, n, h, g, s) = ih k in
        (x ∷ b, y, r, ap {B = Content} (λ z. x ∷ z) f, (let z : half_bit i x ≡ 0 = rw q in omega arith), h, g, s)

-- the parts of a mark
abbrev pub mark_class : Mk → ℕ
mark_class (mk c w s) = c

abbrev pub mark_form : Mk → Bool
mark_form (mk c w s) = w

abbrev mark_side : Mk → Bool
mark_side (mk c w start) = true
mark_side (mk c w end) = false

open_side : (x : Item) → mark_side (mark_of x) ≡ true → is_start_half x ≡ true
open_side x e = by (is_start_half x) e
  where
    by : (b : Bool) → mark_side (mk (class x) (is_form_P x) (cond b start end)) ≡ true → b ≡ true
    by true k = refl
    by false k = k

close_side : (x : Item) → mark_side (mark_of x) ≡ false → is_start_half x ≡ false
close_side x e = by (is_start_half x) e
  where
    by : (b : Bool) → mark_side (mk (class x) (is_form_P x) (cond b start end)) ≡ false → b ≡ false
    by true k = k
    by false k = refl

pub two_halves : {e : ℕ → Half → Bool} (i : ℕ) (xs : Content) → Shape e (marks i xs) → 2 ≤ halves i xs → TwoHalves i xs
two_halves {e} i xs s t = by (marks i xs) refl s (let z = halves_marks i xs in omega arith)
  where
    by : (l : List Mk) → marks i xs ≡ l → Shape e l → 2 ≤ length l → TwoHalves i xs
    by [] q sh_none h = absurd (let z : ⊥ = omega arith in z)
    by (m ∷ []) q (sh_lone c s k) h = absurd (let z : ⊥ = omega arith in z)
    by (m ∷ (n ∷ (_ ∷ _))) q x9 h = elim x9 [ ]
    by (m ∷ n ∷ []) q (sh_pair c w) h =
        let (b, x, r, f, nb, hx, gx, rest) = first_mark i xs (mk c w start) (mk c w end ∷ []) q in
        let (d, y, v, g, nd, hy, gy, no_more) = first_mark i r (mk c w end) [] rest in
        record {
          before = b;
          opener = x;
          between = d;
          closer = y;
          behind = v;
          is = f ∙ ap (λ (z : Content). b ++ (x ∷ z)) g;
          none_before = nb;
          none_between = nd;
          none_behind = sym (halves_marks i v) ∙ ap length no_more;
          opens = hx;
          closes = hy;
          starts = open_side x (ap mark_side gx);
          ends = close_side y (ap mark_side gy);
          classes = ap mark_class gx ∙ sym (ap mark_class gy);
          forms = ap mark_form gx ∙ sym (ap mark_form gy);
        }

-- What the operation finds are these two
half_start : (i : ℕ) (z : Item) → is_start_half z && eqb (id_of z) i ≡ true → half_of_id i z ≡ true
unfolding half_of_id
half_start i z e =
    let h : half z ≡ 1 = eqb-true (half z) 1 (and_left _ _ e) in
    rw (h, and_right (is_start_half z) _ e)

not_true_false : (b : Bool) → (b ≡ true → ⊥) → b ≡ false
not_true_false true h = absurd (h refl)
not_true_false false h = refl

find_skip : (i : ℕ) (a r : Content) → halves i a ≡ 0 → find_whole i (a ++ r) ≡ find_whole i r
unfolding find_whole
find_skip i [] r e = refl
find_skip i (z ∷ a) r e =
    let no : is_start_half z && eqb (id_of z) i ≡ false
    = not_true_false _ (λ k. let h : half_bit i z ≡ 1 = rw (half_start i z k) in let y : ⊥ = omega arith in y) in
    rw no (find_skip i a r (omega arith))

not_other_of : (i : ℕ) (x z : Item) → half_of_id i x ≡ true → half_of_id i z ≡ false → other_half x z ≡ false
not_other_of i x z h e = not_other x z (not_alike x z (is_half_of i x h) (ap (λ (j : ℕ). half_of_id j z) (is_id i x h) ∙ e))

pub nearest_skip : (i : ℕ) (x : Item) (a r : Content) → half_of_id i x ≡ true → halves i a ≡ 0 → nearest (other_half x) (a ++ r) ≡ nearest (other_half x) r
unfolding nearest
nearest_skip i x [] r h e = refl
nearest_skip i x (z ∷ a) r h e =
    let no : half_of_id i z ≡ false = not_true_false _ (λ k. let w : half_bit i z ≡ 1 = rw k in let y : ⊥ = omega arith in y) in
    rw (not_other_of i x z h no) (nearest_skip i x a r h (omega arith))

pub sides_opposite : (i : ℕ) (x y : Item) → half_of_id i x ≡ true → half_of_id i y ≡ true → class x ≡ class y → opposite (side x) (side y) ≡ true → other_half x y ≡ true
sides_opposite i x y h k c o =
    other_half_is x y (is_half_of i x h) (ap (λ (j : ℕ). half_of_id j y) (is_id i x h) ∙ k) ∙ rw (eq-eqb (class x) (class y) c, o)

module _ (i : ℕ) (xs : Content) (two : TwoHalves i xs) where
  opener_closer : other_half two.opener two.closer ≡ true
  opener_closer = sides_opposite i two.opener two.closer two.opens two.closes two.classes (rw (two.starts, two.ends))

  closer_opener : other_half two.closer two.opener ≡ true
  closer_opener = sides_opposite i two.closer two.opener two.closes two.opens (sym two.classes) (rw (two.starts, two.ends))

  pub found : find_whole i xs ≡ some (record { start = two.opener; end = two.closer })
  unfolding find_whole ended_by nearest
  found =
      let next : nearest (other_half two.opener) (two.between ++ (two.closer ∷ two.behind)) ≡ some two.closer
      = nearest_skip i two.opener two.between (two.closer ∷ two.behind) two.opens two.none_between ∙ hit in
      ap (find_whole i) two.is ∙ find_skip i two.before (two.opener ∷ (two.between ++ (two.closer ∷ two.behind))) two.none_before
      ∙ rw (two.starts, eq-eqb (id_of two.opener) i (is_id i two.opener two.opens)) (ap (ended_by two.opener) next)
    where
      hit : nearest (other_half two.opener) (two.closer ∷ two.behind) ≡ some two.closer
      hit = rw opener_closer

halves_rev : (i : ℕ) (a b : Content) → halves i (reverse_aux a b) ≡ halves i a + halves i b
halves_rev i [] b = omega arith
halves_rev i (x ∷ a) b = let h = halves_rev i a (x ∷ b) in omega arith

-- the partner of an opener is not before it, that of a closer is the opener
near_first : (i : ℕ) (x : Item) (b : Content) → half_of_id i x ≡ true → halves i b ≡ 0 → letter_fits (near x b) (fields x) ≡ true
unfolding near nearest
near_first i x b h e =
    let no : nearest (other_half x) b ≡ none = ap (nearest (other_half x)) (sym (append-nil b)) ∙ nearest_skip i x b [] h e in
    rw no

near_second : (i : ℕ) (y x : Item) (m b : Content) → half_of_id i y ≡ true → halves i m ≡ 0 → other_half y x ≡ true → near y (reverse_aux m (x ∷ b)) ≡ some (fields x)
unfolding near nearest
near_second i y x m b h e o =
    let at : nearest (other_half y) (reverse_aux m (x ∷ b)) ≡ some x
    = ap (nearest (other_half y)) (rev_append m (x ∷ b))
    ∙ nearest_skip i y (reverse_aux m []) (x ∷ b) h (halves_rev i m [] ∙ (let z = e in omega arith)) ∙ rw o in
    rw at

-- RULE 8 with them rewritten: the letter of the end fits, if it gets the mark of pc
pub eased_rewrite : (i : ℕ) (w : Form) (xs : Content) (two : TwoHalves i xs) → (w ≡ form_P → letter_fits (some (fields two.opener)) (fields two.closer) ≡ true)
    → Eased [] xs (map (rewrite_item i w) xs)
eased_rewrite i w xs two fit =
    subst (λ (l : Content). Eased [] l (map (rewrite_item i w) l)) (sym two.is)
    (subst (Eased [] (b ++ (x ∷ (m ++ (y ∷ v))))) (sym rewritten)
    (eased_append (eased_refl [] b) (eased_cons (flat_rewrite i w x) (λ p. inr first_fits)
    (eased_append (eased_refl (x ∷ reverse_aux b []) m) (eased_cons (flat_rewrite i w y) (λ p. second_fits w refl p) (eased_refl _ v))))))
  where
    b : Content
    b = two.before

    x : Item
    x = two.opener

    m : Content
    m = two.between

    y : Item
    y = two.closer

    v : Content
    v = two.behind

    f : Item → Item
    f = rewrite_item i w

    rewritten : map (rewrite_item i w) (two.before ++ (two.opener ∷ (two.between ++ (two.closer ∷ two.behind))))
        ≡ two.before ++ (rewrite_item i w two.opener ∷ (two.between ++ (rewrite_item i w two.closer ∷ two.behind)))
    rewritten =
        map-append f b (x ∷ (m ++ (y ∷ v)))
        ∙ ap₂ ◌++◌ (untouched i w b two.none_before)
        (ap {B = Content} (λ l. f x ∷ l) (map-append f m (y ∷ v) ∙ ap₂ ◌++◌ (untouched i w m two.none_between) (ap {B = Content} (λ l. f y ∷ l) (untouched i w v two.none_behind))))

    first_fits : letter_fits (near two.opener (reverse_aux two.before [])) (fields two.opener) ≡ true
    first_fits = near_first i two.opener (reverse_aux two.before []) two.opens (halves_rev i two.before [] ∙ (let z = two.none_before in omega arith))

    second : near two.closer (reverse_aux two.between (two.opener ∷ reverse_aux two.before [])) ≡ some (fields two.opener)
    second = near_second i two.closer two.opener two.between (reverse_aux two.before []) two.closes two.none_between (closer_opener i xs two)

    second_fits : (g : Form) → w ≡ g → is_form_P (rewrite_item i w two.closer) ≡ true
        → (is_form_P two.closer ≡ true) ⊎ (letter_fits (near two.closer (reverse_aux two.between (two.opener ∷ reverse_aux two.before []))) (fields two.closer) ≡ true)
    second_fits form_P q p = inr (ap (λ (o : Option Fields). letter_fits o (fields two.closer)) second ∙ fit q)
    second_fits form_S q p = absurd (false≢true (sym (view_form i w two.closer two.closes ∙ ap is_P q) ∙ p))

-- BALANCE of a content in which they are partners
split_map : (f : Item → PM) (c : Content) (m : List PM) (p : PM) (r : List PM) → map f c ≡ m ++ (p ∷ r)
    → (c₁ : Content) × (x : Item) × (c₂ : Content) × (c ≡ c₁ ++ (x ∷ c₂)) × (map f c₁ ≡ m) × (f x ≡ p) × (map f c₂ ≡ r)
split_map f [] [] p r e = let z : true ≡ false = cc in absurd (false≢true (sym z))
split_map f [] (n ∷ m) p r e = let z : true ≡ false = cc in absurd (false≢true (sym z))
split_map f (x ∷ c) [] p r e = ([], x, c, refl, refl, head-eq_of_cons-eq e, tail-eq_of_cons-eq e)
split_map f (x ∷ c) (n ∷ m) p r e =
    let (a, y, d, q, s, t, u) = split_map f c m p r (tail-eq_of_cons-eq e) in
    (x ∷ a, y, d, ap {B = Content} (λ l. x ∷ l) q, ap₂ {C = List PM} ◌∷◌ (head-eq_of_cons-eq e) s, t, u)

partner_place : (i : ℕ) (f : Item → Item) (c : Content) → are_partners i (map f c) ≡ true
    → (c₁ : Content) × (x : Item) × (c₂ : Content) × (c ≡ c₁ ++ (x ∷ c₂)) × (is_start_half (f x) ≡ true) × (id_of (f x) ≡ i) × (partner_P (f x) (map f c₂) ≡ true)
unfolding are_partners
partner_place i f [] e = absurd (false≢true e)
partner_place i f (x ∷ c) e = by (is_start_half (f x) && (eqb (id_of (f x)) i && partner_P (f x) (map f c))) refl e (partner_place i f c)
  where
    Found : Content → Type 0
    Found d = (c₁ : Content) × (x : Item) × (c₂ : Content) × (d ≡ c₁ ++ (x ∷ c₂)) × (is_start_half (f x) ≡ true) × (id_of (f x) ≡ i) × (partner_P (f x) (map f c₂) ≡ true)

    by : (b : Bool) → is_start_half (f x) && (eqb (id_of (f x)) i && partner_P (f x) (map f c)) ≡ b → b || are_partners i (map f c) ≡ true → (are_partners i (map f c) ≡ true → Found c) → Found (x ∷ c)
    by true q k ih =
        let r = and_right (is_start_half (f x)) _ q in
        ([], x, c, refl, and_left _ _ q, eqb-true (id_of (f x)) i (and_left _ _ r), and_right (eqb (id_of (f x)) i) _ r)
    by false q k ih =
        let (a, y, d, s, t, u, v) = ih k in
        (x ∷ a, y, d, ap {B = Content} (λ l. x ∷ l) s, t, u, v)

-- the run of the old marks with an open and a close put in around a balanced stretch
put_around : (a m r : List PM) (k : Key) → Bal (a ++ (skip ∷ (m ++ (skip ∷ r)))) → Bal m → Bal (a ++ (opn k ∷ (m ++ (cls k ∷ r))))
put_around a m r k old mid =
    let (s, p, q) = Run-split a old in
    let (t, u, v) = Run-split m (inv_skip q) in
    let same : t ≡ s = Run-det u (Run-frame s mid) in
    let rest : Run r s [] = subst (λ (z : List Key). Run r z []) same (inv_skip v) in
    Run-append p (r_opn (Run-append (Run-frame (k ∷ s) mid) (r_cls rest)))

plain_pm : (x : Item) → is_form_P x ≡ false → pm x ≡ skip
plain_pm x e = rw e

opens_pm : (x : Item) → is_form_P x ≡ true → is_start_half x ≡ true → pm x ≡ opn (key_of x)
opens_pm x e s = rw (e, s)

P-none : (i : ℕ) (x : Item) → half_of_id i x ≡ true → P-bit i x ≡ 0 → is_form_P x ≡ false
P-none i x h e = by (is_form_P x) refl
  where
    by : (b : Bool) → is_form_P x ≡ b → b ≡ false
    by true k = let z : P-bit i x ≡ 1 = rw (h, k) in absurd (let y : ⊥ = omega arith in y)
    by false k = refl

half_of_P : (i : ℕ) (y : Item) → is_form_P y ≡ true → id_of y ≡ i → half_of_id i y ≡ true
unfolding half_of_id
half_of_P i y p e = rw (pm_half y p, eq-eqb (id_of y) i e)

-- the content taken apart at the two
parted : (g : Item → ℕ) (c₁ : Content) (x : Item) (d₁ : Content) (y : Item) (d₂ : Content) → sum g (c₁ ++ (x ∷ (d₁ ++ (y ∷ d₂)))) ≡ sum g c₁ + (g x + (sum g d₁ + (g y + sum g d₂)))
parted g c₁ x d₁ y d₂ = let a = sum_append g c₁ (x ∷ (d₁ ++ (y ∷ d₂))) in let b = sum_append g d₁ (y ∷ d₂) in omega arith

module _ (i : ℕ) (c₁ : Content) (x : Item) (d₁ : Content) (y : Item) (d₂ : Content) where
  abbrev f : Item → Item
  f = rewrite_item i form_P

  abbrev parts : Content
  parts = c₁ ++ (x ∷ (d₁ ++ (y ∷ d₂)))

  around_balanced : (k : Key) → Balanced parts → halves i parts ≤ 2 → sum (P-bit i) parts ≡ 0 → half_of_id i x ≡ true → half_of_id i y ≡ true
      → pm (f x) ≡ opn k → pm (f y) ≡ cls k → Bal (map (λ z. pm (f z)) d₁) → Balanced (map f parts)
  around_balanced k old most none_P hx hy ox cy mid =
      let a = parted (half_bit i) c₁ x d₁ y d₂ in
      let bx : half_bit i x ≡ 1 = rw hx in
      let by : half_bit i y ≡ 1 = rw hy in
      let p = parted (P-bit i) c₁ x d₁ y d₂ in
      let zc : halves i c₁ ≡ 0 = omega arith in
      let zd : halves i d₁ ≡ 0 = omega arith in
      let ze : halves i d₂ ≡ 0 = omega arith in
      let px : is_form_P x ≡ false = P-none i x hx (omega arith) in
      let py : is_form_P y ≡ false = P-none i y hy (omega arith) in
      let was : map pm parts ≡ map pm c₁ ++ (skip ∷ (map pm d₁ ++ (skip ∷ map pm d₂))) = shown c₁ x d₁ y d₂ skip skip (plain_pm x px) (plain_pm y py) in
      let now : map f parts ≡ c₁ ++ (f x ∷ (d₁ ++ (f y ∷ d₂))) = rewritten zc zd ze in
      let is : map pm (map f parts) ≡ map pm c₁ ++ (opn k ∷ (map pm d₁ ++ (cls k ∷ map pm d₂))) = ap (map pm) now ∙ shown c₁ (f x) d₁ (f y) d₂ (opn k) (cls k) ox cy in
      let between : Bal (map pm d₁) = subst (λ (l : List PM). Bal l) (sym (map_map pm f d₁) ∙ ap (map pm) (untouched i form_P d₁ zd)) mid in
      subst (λ (l : List PM). Bal l) (sym is) (put_around (map pm c₁) (map pm d₁) (map pm d₂) k (subst (λ (l : List PM). Bal l) was old) between)
    where
      shown : (c₁ : Content) (x : Item) (d₁ : Content) (y : Item) (d₂ : Content) (m n : PM) → pm x ≡ m → pm y ≡ n
          → map pm (c₁ ++ (x ∷ (d₁ ++ (y ∷ d₂)))) ≡ map pm c₁ ++ (m ∷ (map pm d₁ ++ (n ∷ map pm d₂)))
      shown c₁ x d₁ y d₂ m n e g =
          map-append pm c₁ (x ∷ (d₁ ++ (y ∷ d₂)))
          ∙ ap (λ (l : List PM). map pm c₁ ++ l)
          (ap₂ {C = List PM} ◌∷◌ e (map-append pm d₁ (y ∷ d₂) ∙ ap (λ (p : PM). map pm d₁ ++ (p ∷ map pm d₂)) g))

      rewritten : halves i c₁ ≡ 0 → halves i d₁ ≡ 0 → halves i d₂ ≡ 0 → map f parts ≡ c₁ ++ (f x ∷ (d₁ ++ (f y ∷ d₂)))
      rewritten zc zd ze =
          map-append f c₁ (x ∷ (d₁ ++ (y ∷ d₂)))
          ∙ ap₂ ◌++◌ (untouched i form_P c₁ zc)
          (ap {B = Content} (λ l. f x ∷ l) (map-append f d₁ (y ∷ d₂) ∙ ap₂ ◌++◌ (untouched i form_P d₁ zd) (ap {B = Content} (λ l. f y ∷ l) (untouched i form_P d₂ ze))))

-- where they are partners: the start, what is between, the end
record Partners (i : ℕ) (c : Content) : Type 0 where
  pub before : Content
  pub opener : Item
  pub between : Content
  pub closer : Item
  pub behind : Content
  pub shared : Key
  pub is : c ≡ before ++ (opener ∷ (between ++ (closer ∷ behind)))
  pub opens : half_of_id i opener ≡ true
  pub closes : half_of_id i closer ≡ true
  pub opening : pm (rewrite_item i form_P opener) ≡ opn shared
  pub closing : pm (rewrite_item i form_P closer) ≡ cls shared
  pub even : Bal (map (λ z. pm (rewrite_item i form_P z)) between)

partners : (i : ℕ) (c : Content) → are_partners i (map (rewrite_item i form_P) c) ≡ true → Partners i c
partners i c e =
    let g : Item → Item = rewrite_item i form_P in
    let (c₁, x, c₂, q, s, d, p) = partner_place i g c e in
    let (m, r, t, run) = Empties-run (map pm (map g c₂)) (key_of (g x)) [] (start_partner (g x) (map g c₂) (eqb-true (half (g x)) 1 s) p) in
    let (d₁, y, d₂, q₂, m₁, u, r₂) = split_map (λ z. pm (g z)) c₂ m (cls (key_of (g x))) r (sym (map_map pm g c₂) ∙ t) in
    let (ky, py, sy) = is_cls (g y) (key_of (g x)) u in
    let hx : half_of_id i x ≡ true = sym (view_of i i form_P x) ∙ half_start i (g x) (rw (s, eq-eqb (id_of (g x)) i d)) in
    let same : id_of (g y) ≡ id_of (g x) = cc in
    record {
      before = c₁;
      opener = x;
      between = d₁;
      closer = y;
      behind = d₂;
      shared = key_of (g x);
      is = q ∙ ap (λ (l : Content). c₁ ++ (x ∷ l)) q₂;
      opens = hx;
      closes = sym (view_of i i form_P y) ∙ half_of_P i (g y) py (same ∙ d);
      opening = opens_pm (g x) (view_form i form_P x hx) s;
      closing = u;
      even = subst (λ (l : List PM). Bal l) (sym m₁) run;
    }

pub balanced_rewritten : (i : ℕ) (c : Content) → Balanced c → halves i c ≤ 2 → sum (P-bit i) c ≡ 0 → are_partners i (map (rewrite_item i form_P) c) ≡ true
    → Balanced (map (rewrite_item i form_P) c) × (2 ≤ halves i c)
balanced_rewritten i c b most none_P e =
    let w = partners i c e in
    let bx : half_bit i w.opener ≡ 1 = rw w.opens in
    let by : half_bit i w.closer ≡ 1 = rw w.closes in
    let n = parted (half_bit i) w.before w.opener w.between w.closer w.behind in
    let z = ap (halves i) w.is in (
      subst (λ (l : Content). Balanced (map (rewrite_item i form_P) l)) (sym w.is)
          (around_balanced i w.before w.opener w.between w.closer w.behind w.shared (subst Balanced w.is b) (omega arith)
          (sym (ap (sum (P-bit i)) w.is) ∙ none_P) w.opens w.closes w.opening w.closing w.even),
      omega arith,
    )

rewrite_turn : (h : Key → Bool) (i : ℕ) (x : Item) → h (key_of x) ≡ eqb (id_of x) i → rewrite_item i form_S x ≡ turn h x
unfolding rewrite_item turn flat half_of_id
rewrite_turn h i x e = rw e (by (is_half x) refl (eqb (id_of x) i))
  where
    by : (b : Bool) → is_half x ≡ b → (c : Bool) → cond (b && c) (in_form form_S x) x ≡ cond c (in_form form_S x) x
    by true k c = refl
    by false k true = sym (flat_same x (not_true_false (is_form_P x) (λ p. true≢false (sym (pm_half x p) ∙ k))))
    by false k false = refl

-- to the marks of start and end: any balanced content stays balanced
pub balanced_to_S : (i : ℕ) (c : Content) → Balanced c → Balanced (map (rewrite_item i form_S) c)
balanced_to_S i c b =
    subst Balanced (sym (map_same (rewrite_item i form_S) (turn of_id) (λ x. rewrite_turn of_id i x refl) c)) (balanced_turn of_id c b)
  where
    of_id : Key → Bool
    of_id (key d j) = eqb j i

-- exactly two halves, and if they are no marks of pc or mrk, none of these
P-low : (i : ℕ) (x : Item) → P-bit i x ≤ half_bit i x
P-low i x = by (half_of_id i x) (is_form_P x)
  where
    by : (a b : Bool) → bit (a && b) ≤ bit a
    by true true = omega arith
    by true false = omega arith
    by false b = omega arith

pub just_two : (i : ℕ) (xs : Content) → TwoHalves i xs → halves i xs ≡ 2
just_two i xs two =
    let a = ap (halves i) two.is in
    let b = parted (half_bit i) two.before two.opener two.between two.closer two.behind in
    let x : half_bit i two.opener ≡ 1 = rw two.opens in
    let y : half_bit i two.closer ≡ 1 = rw two.closes in
    let u = two.none_before in
    let v = two.none_between in
    let w = two.none_behind in
    omega arith

pub none_P : (i : ℕ) (xs : Content) (two : TwoHalves i xs) → is_form_P two.opener ≡ false → sum (P-bit i) xs ≡ 0
none_P i xs two e =
    let a = ap (sum (P-bit i)) two.is in
    let b = parted (P-bit i) two.before two.opener two.between two.closer two.behind in
    let x : P-bit i two.opener ≡ 0 = rw (two.opens, e) in
    let y : P-bit i two.closer ≡ 0 = rw (two.closes, sym two.forms ∙ e) in
    let u = sum_le (P-bit i) (half_bit i) (P-low i) two.before in
    let v = sum_le (P-bit i) (half_bit i) (P-low i) two.between in
    let w = sum_le (P-bit i) (half_bit i) (P-low i) two.behind in
    let u₂ = two.none_before in
    let v₂ = two.none_between in
    let w₂ = two.none_behind in
    omega arith

-- a pair is found: there are two halves
nearest_half : (i : ℕ) (x : Item) (xs : Content) (y : Item) → half_of_id i x ≡ true → nearest (other_half x) xs ≡ some y → 1 ≤ halves i xs
unfolding nearest
nearest_half i x [] y h e = absurd (none_some e)
nearest_half i x (z ∷ xs) y h e = by (half_of_id i z) refl (nearest_half i x xs y h)
  where
    by : (b : Bool) → half_of_id i z ≡ b → (nearest (other_half x) xs ≡ some y → 1 ≤ halves i xs) → 1 ≤ half_bit i z + halves i xs
    by true k ih = let w : half_bit i z ≡ 1 = rw k in omega arith
    by false k ih =
        let f : nearest (other_half x) xs ≡ some y = rw (not_other_of i x z h k) at e in
        let r = ih f in
        omega arith

none_ended : (x : Item) (p : Whole) → ended_by x none ≡ some p → ⊥
unfolding ended_by
none_ended x p e = none_some e

pub found_two : (i : ℕ) (xs : Content) (p : Whole) → find_whole i xs ≡ some p → 2 ≤ halves i xs
unfolding find_whole
found_two i [] p e = absurd (none_some e)
found_two i (x ∷ xs) p e = by (is_start_half x && eqb (id_of x) i) refl e (found_two i xs p)
  where
    ended : half_of_id i x ≡ true → (o : Option Item) → nearest (other_half x) xs ≡ o → ended_by x o ≡ some p → 2 ≤ half_bit i x + halves i xs
    ended h none q k = absurd (none_ended x p k)
    ended h (some y) q k = let w : half_bit i x ≡ 1 = rw h in let r = nearest_half i x xs y h q in omega arith

    by : (b : Bool) → is_start_half x && eqb (id_of x) i ≡ b → cond b (ended_by x (nearest (other_half x) xs)) (find_whole i xs) ≡ some p
        → (find_whole i xs ≡ some p → 2 ≤ halves i xs) → 2 ≤ half_bit i x + halves i xs
    by true q k ih = ended (half_start i x q) (nearest (other_half x) xs) refl k
    by false q k ih = let r = ih k in omega arith
