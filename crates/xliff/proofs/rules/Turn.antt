-- Turning halves of pc and mrk to the marks of start and end, by key: what it does to marks, shapes and balance. And: a
-- cut turns by key.
use Prim.Native.Nat.{ℕ}
use mathlib.Core.Path.{◌≡◌, refl, sym, ap, ap₂, ◌∙◌, subst}
use mathlib.Core.Bool.{Bool, true, false, not, ◌&&◌, ◌||◌, cond, true≢false, false≢true}
use mathlib.Core.List.{List, [], ◌∷◌, ◌++◌, map}
use mathlib.Core.Logic.{◌⊎◌, inl, inr}
use lib.Dec.{eqb}
use borrow.Author.Tests.{eqb-true, eq-eqb}
use Rattle.xliff.specs.Bytes.{gather}
use Rattle.xliff.specs.Item.{Item, Content, Half, start, end, form_P, form_S, text, character, standalone, isolated, pair, annotation_start, annotation_end, in_form, flat, is_form_P, is_half, is_start_half, class, id_of}
use Rattle.xliff.specs.Rules.{half_of_id}
use Rattle.xliff.proofs.lists.Tests.{map-append, and_false, or-true}
use Rattle.xliff.proofs.rules.Flat.{class_flat, id_flat, half_flat}
use Rattle.xliff.proofs.rules.Stack.{Key, key, PM, skip, opn, cls, Run, Bal, Run-split, Run-hide, hide, On, on_top, on_below, Has, has_here, has_later, opened_in, closed_in, cut_balanced}
use Rattle.xliff.proofs.rules.Balance.{key_of, pm, Balanced}
use Rattle.xliff.proofs.rules.Marks.{Mk, mk, side, mark_of, mk_of, marks, marks_append, Shape, sh_pair, sh_lone, opposite, any_mk, pmk, pm_half, Bal-id, inv_opn, no_cls, no_end}

pub form_flat : (x : Item) → is_form_P (flat x) ≡ false
unfolding is_form_P flat in_form
form_flat (text c) = refl
form_flat (character c) = refl
form_flat (standalone f) = refl
form_flat (isolated h f) = refl
form_flat (pair h w f) = refl
form_flat (annotation_start w i t) = refl
form_flat (annotation_end w i) = refl

pub flat_same : (x : Item) → is_form_P x ≡ false → flat x ≡ x
unfolding is_form_P flat in_form
flat_same (text c) e = refl
flat_same (character c) e = refl
flat_same (standalone f) e = refl
flat_same (isolated h f) e = refl
flat_same (pair h form_S f) e = refl
flat_same (pair h form_P f) e = absurd (true≢false e)
flat_same (annotation_start form_S i t) e = refl
flat_same (annotation_start form_P i t) e = absurd (true≢false e)
flat_same (annotation_end form_S i) e = refl
flat_same (annotation_end form_P i) e = absurd (true≢false e)

-- of all but the halves of pc and mrk it does not matter whether they turn
pub same_form : (x : Item) (a b : Bool) → (is_form_P x ≡ true → a ≡ b) → cond a (flat x) x ≡ cond b (flat x) x
same_form x a b h = by (is_form_P x) refl
  where
    plain : is_form_P x ≡ false → (c : Bool) → cond c (flat x) x ≡ x
    plain p true = flat_same x p
    plain p false = refl

    by : (p : Bool) → is_form_P x ≡ p → cond a (flat x) x ≡ cond b (flat x) x
    by true p = ap (λ (c : Bool). cond c (flat x) x) (h p)
    by false p = plain p a ∙ sym (plain p b)

-- the halves of pc and mrk with one of the keys turn; nothing else changes
unfoldable pub turn : (Key → Bool) → Item → Item
turn h x = cond (h (key_of x)) (flat x) x

pub pm_turn : (h : Key → Bool) (x : Item) → pm (turn h x) ≡ hide h (pm x)
unfolding turn
pm_turn h x = by (h (key_of x)) refl
  where
    hidden : h (key_of x) ≡ true → (p s : Bool) → hide h (cond p (cond s (opn (key_of x)) (cls (key_of x))) skip) ≡ skip
    hidden e true true = rw e
    hidden e true false = rw e
    hidden e false s = refl

    shown : h (key_of x) ≡ false → (p s : Bool)
        → hide h (cond p (cond s (opn (key_of x)) (cls (key_of x))) skip) ≡ cond p (cond s (opn (key_of x)) (cls (key_of x))) skip
    shown e true true = rw e
    shown e true false = rw e
    shown e false s = refl

    by : (b : Bool) → h (key_of x) ≡ b → pm (cond b (flat x) x) ≡ hide h (pm x)
    by true e = rw (form_flat x) (sym (hidden e (is_form_P x) (is_start_half x)))
    by false e = sym (shown e (is_form_P x) (is_start_half x))

pub pms_turn : (h : Key → Bool) (xs : Content) → map pm (map (turn h) xs) ≡ map (hide h) (map pm xs)
pms_turn h [] = refl
pms_turn h (x ∷ xs) = ap₂ {C = List PM} ◌∷◌ (pm_turn h x) (pms_turn h xs)

abbrev pub turn_mk : (Key → Bool) → ℕ → Mk → Mk
turn_mk h i (mk c w s) = mk c (not (h (key c i)) && w) s

mk_of_turn : (h : Key → Bool) (i : ℕ) (x : Item) → mk_of i (turn h x) ≡ map (turn_mk h i) (mk_of i x)
unfolding turn half_of_id
mk_of_turn h i x = by (h (key_of x)) refl
  where
    one : (b a : Bool) → h (key (class x) (id_of x)) ≡ b → eqb (id_of x) i ≡ a → (t : Bool)
        → cond (t && a) (mk (class x) (not b && is_form_P x) (side x) ∷ []) []
        ≡ map (turn_mk h i) (cond (t && a) (mk (class x) (is_form_P x) (side x) ∷ []) [])
    one b true e f true = ap (λ (z : Bool). mk (class x) (not z && is_form_P x) (side x) ∷ [])
        (sym e ∙ ap (λ (j : ℕ). h (key (class x) j)) (eqb-true (id_of x) i f))
    one b false e f true = refl
    one b a e f false = refl

    by : (b : Bool) → h (key_of x) ≡ b → mk_of i (cond b (flat x) x) ≡ map (turn_mk h i) (mk_of i x)
    by true e = rw (class_flat x, id_flat x, half_flat x, form_flat x) (one true (eqb (id_of x) i) e refl (is_half x))
    by false e = one false (eqb (id_of x) i) e refl (is_half x)

pub marks_turn : (h : Key → Bool) (i : ℕ) (xs : Content) → marks i (map (turn h) xs) ≡ map (turn_mk h i) (marks i xs)
unfolding marks gather
marks_turn h i [] = refl
marks_turn h i (x ∷ xs) = ap₂ ◌++◌ (mk_of_turn h i x) (marks_turn h i xs) ∙ sym (map-append (turn_mk h i) (mk_of i x) (marks i xs))

-- only a stretch of the sequence is turned, with balanced marks: it holds both halves of pc and mrk of an id, or none
pub Shape-mid : {e : ℕ → Half → Bool} (h : Key → Bool) (i : ℕ) (x y z : List Mk) → Bal (map (pmk i) y) → Shape e (x ++ (y ++ z))
    → Shape e (x ++ (map (turn_mk h i) y ++ z))
Shape-mid h i [] [] z v s = s
Shape-mid {e} h i [] (m ∷ []) [] v (sh_lone c s k) = subst (λ (b : Bool). Shape e (mk c b s ∷ [])) (sym (and_false (not (h (key c i)))))
    (sh_lone c s k)
Shape-mid {e = e} h i [] (m ∷ []) (n ∷ (_ ∷ _)) v s = elim s [ ]
Shape-mid {e = e} h i [] (m ∷ (n ∷ [])) (_ ∷ _) v s = elim s [ ]
Shape-mid {e = e} h i [] (m ∷ (n ∷ (_ ∷ _))) z v s = elim s [ ]
Shape-mid {e = e} h i (a ∷ []) (m ∷ []) (n ∷ _) v s = elim s [ ]
Shape-mid {e = e} h i (a ∷ []) (m ∷ (n ∷ _)) z v s = elim s [ ]
Shape-mid {e = e} h i (a ∷ (b ∷ [])) (m ∷ _) z v s = elim s [ ]
Shape-mid {e = e} h i (a ∷ (b ∷ (_ ∷ _))) y z v s = elim s [ ]
Shape-mid h i [] (m ∷ []) (n ∷ []) v (sh_pair c true) = absurd (no_end (inv_opn v))
Shape-mid {e} h i [] (m ∷ []) (n ∷ []) v (sh_pair c false) =
    subst (λ (b : Bool). Shape e (mk c b start ∷ mk c false end ∷ [])) (sym (and_false (not (h (key c i))))) (sh_pair c false)
Shape-mid h i [] (m ∷ n ∷ []) [] v (sh_pair c w) = sh_pair c (not (h (key c i)) && w)
Shape-mid h i (a ∷ []) [] z v s = s
Shape-mid h i (a ∷ []) (m ∷ []) [] v (sh_pair c true) = absurd (no_cls v)
Shape-mid {e} h i (a ∷ []) (m ∷ []) [] v (sh_pair c false) =
    subst (λ (b : Bool). Shape e (mk c false start ∷ mk c b end ∷ [])) (sym (and_false (not (h (key c i))))) (sh_pair c false)
Shape-mid h i (a ∷ b ∷ []) [] z v s = s

marks_three : (i : ℕ) (X s Z : Content) → marks i (X ++ (s ++ Z)) ≡ marks i X ++ (marks i s ++ marks i Z)
marks_three i X s Z = marks_append i X (s ++ Z) ∙ ap (λ (r : List Mk). marks i X ++ r) (marks_append i s Z)

pub Shape-turn : {e : ℕ → Half → Bool} (h : Key → Bool) (i : ℕ) (X s Z : Content) → Balanced s
    → Shape e (marks i (X ++ (s ++ Z))) → Shape e (marks i (X ++ (map (turn h) s ++ Z)))
Shape-turn {e} h i X s Z b k =
    subst (Shape e) (sym (marks_three i X (map (turn h) s) Z ∙ ap (λ (r : List Mk). marks i X ++ (r ++ marks i Z)) (marks_turn h i s)))
    (Shape-mid h i (marks i X) (marks i s) (marks i Z) (Bal-id i s b) (subst (Shape e) (marks_three i X s Z) k))

pub any_mk_append : (c : ℕ) (s : Half) (l m : List Mk) → any_mk c s (l ++ m) ≡ any_mk c s l || any_mk c s m
any_mk_append c s [] m = refl
any_mk_append c s (mk d w t ∷ l) m = by (eqb c d && opposite s t) (any_mk_append c s l m)
  where
    by : (b : Bool) → any_mk c s (l ++ m) ≡ any_mk c s l || any_mk c s m → b || any_mk c s (l ++ m) ≡ b || any_mk c s l || any_mk c s m
    by true e = refl
    by false e = e

pub any_mk_turn : (h : Key → Bool) (i c : ℕ) (s : Half) (l : List Mk) → any_mk c s (map (turn_mk h i) l) ≡ any_mk c s l
any_mk_turn h i c s [] = refl
any_mk_turn h i c s (mk d w t ∷ l) = ap (λ (b : Bool). eqb c d && opposite s t || b) (any_mk_turn h i c s l)

-- what waits does not see forms
pub waits_turn : (h : Key → Bool) (i : ℕ) (X s Z : Content) (c : ℕ) (t : Half)
    → any_mk c t (marks i (X ++ (map (turn h) s ++ Z))) ≡ any_mk c t (marks i (X ++ (s ++ Z)))
waits_turn h i X s Z c t =
    ap (any_mk c t) (marks_three i X (map (turn h) s) Z) ∙ any_mk_append c t (marks i X) _
    ∙ ap (λ (b : Bool). any_mk c t (marks i X) || b)
    (any_mk_append c t (marks i (map (turn h) s)) (marks i Z)
    ∙ ap (λ (b : Bool). b || any_mk c t (marks i Z)) (ap (any_mk c t) (marks_turn h i s) ∙ any_mk_turn h i c t (marks i s))
    ∙ sym (any_mk_append c t (marks i s) (marks i Z)))
    ∙ sym (any_mk_append c t (marks i X) (marks i s ++ marks i Z)) ∙ ap (any_mk c t) (sym (marks_three i X s Z))

-- a balanced content with some keys turned is balanced
pub balanced_turn : (h : Key → Bool) (xs : Content) → Balanced xs → Balanced (map (turn h) xs)
balanced_turn h xs b = subst (λ (l : List PM). Bal l) (sym (pms_turn h xs)) (Run-hide h b)

-- CUTTING a content: the keys whose start is before the cut and whose end is behind it
unfoldable pub is_cut : Content → Content → Key → Bool
is_cut a d (key c i) = any_mk c end (marks i a) && any_mk c start (marks i d)

has_cons : {m n : PM} {l : List PM} → Has m (n ∷ l) → (n ≡ m) ⊎ Has m l
has_cons has_here = inl refl
has_cons (has_later h) = inr h

pub own_mark : (x : Item) → is_form_P x ≡ true → mk_of (id_of x) x ≡ mark_of x ∷ []
unfolding half_of_id
own_mark x e = rw (pm_half x e, eq-eqb (id_of x) (id_of x) refl)

-- a key that is opened has its start there, one that is closed its end
is_opn : (x : Item) (k : Key) → pm x ≡ opn k → (key_of x ≡ k) × (is_form_P x ≡ true) × (is_start_half x ≡ true)
is_opn x k e = by (is_form_P x) refl (is_start_half x) refl e
  where
    by : (p : Bool) → is_form_P x ≡ p → (s : Bool) → is_start_half x ≡ s → cond p (cond s (opn (key_of x)) (cls (key_of x))) skip ≡ opn k
        → (key_of x ≡ k) × (is_form_P x ≡ true) × (is_start_half x ≡ true)
    by true p true s q = (let z : key_of x ≡ k = cc in z, p, s)
    by true p false s q = let z : true ≡ false = cc in absurd (false≢true (sym z))
    by false p b s q = let z : true ≡ false = cc in absurd (false≢true (sym z))

pub is_cls : (x : Item) (k : Key) → pm x ≡ cls k → (key_of x ≡ k) × (is_form_P x ≡ true) × (is_start_half x ≡ false)
is_cls x k e = by (is_form_P x) refl (is_start_half x) refl e
  where
    by : (p : Bool) → is_form_P x ≡ p → (s : Bool) → is_start_half x ≡ s → cond p (cond s (opn (key_of x)) (cls (key_of x))) skip ≡ cls k
        → (key_of x ≡ k) × (is_form_P x ≡ true) × (is_start_half x ≡ false)
    by true p true s q = let z : true ≡ false = cc in absurd (false≢true (sym z))
    by true p false s q = (let z : key_of x ≡ k = cc in z, p, s)
    by false p b s q = let z : true ≡ false = cc in absurd (false≢true (sym z))

pub seen_here : (x : Item) (t : Half) (l : List Mk) → is_form_P x ≡ true → opposite t (side x) ≡ true
    → any_mk (class x) t (mk_of (id_of x) x ++ l) ≡ true
seen_here x t l p o = rw (own_mark x p, eq-eqb (class x) (class x) refl, o)

-- among the marks of its id it is seen by the other half (t)
has_mark : (c i : ℕ) (t : Half) (m : PM) → ((x : Item) → pm x ≡ m → (key_of x ≡ key c i) × (is_form_P x ≡ true) × (opposite t (side x) ≡ true))
    → (xs : Content) → Has m (map pm xs) → any_mk c t (marks i xs) ≡ true
unfolding marks gather
has_mark c i t m view [] h = elim h [ ]
has_mark c i t m view (x ∷ xs) h = by (has_cons h) (has_mark c i t m view xs)
  where
    by : (pm x ≡ m) ⊎ Has m (map pm xs) → (Has m (map pm xs) → any_mk c t (marks i xs) ≡ true) → any_mk c t (mk_of i x ++ marks i xs) ≡ true
    by (inl e) ih =
        let (k, p, o) = view x e in
        let a : class x ≡ c = cc in
        let b : id_of x ≡ i = cc in
        subst (λ (d : ℕ). any_mk d t (mk_of i x ++ marks i xs) ≡ true) a
        (subst (λ (j : ℕ). any_mk (class x) t (mk_of j x ++ marks j xs) ≡ true) b (seen_here x t (marks (id_of x) xs) p o))
    by (inr e) ih = any_mk_append c t (mk_of i x) (marks i xs) ∙ ap (λ (b : Bool). any_mk c t (mk_of i x) || b) (ih e) ∙ or-true (any_mk c t (mk_of i x))

has_start : (c i : ℕ) (xs : Content) → Has (opn (key c i)) (map pm xs) → any_mk c end (marks i xs) ≡ true
has_start c i xs h = has_mark c i end (opn (key c i)) (λ x e. let (k, p, s) = is_opn x (key c i) e in (k, p, rw s)) xs h

has_end : (c i : ℕ) (xs : Content) → Has (cls (key c i)) (map pm xs) → any_mk c start (marks i xs) ≡ true
has_end c i xs h = has_mark c i start (cls (key c i)) (λ x e. let (k, p, s) = is_cls x (key c i) e in (k, p, rw s)) xs h

-- both halves of a balanced content, with the cut keys turned, are balanced
pub cut_balances : (a d : Content) → Balanced (a ++ d) → Balanced (map (turn (is_cut a d)) a) × Balanced (map (turn (is_cut a d)) d)
unfolding is_cut
cut_balances a d b =
    let q = Run-split (map pm a) (subst (λ (l : List PM). Run l [] []) (map-append pm a d) b) in
    let r = cut_balanced (is_cut a d) (map pm a) (map pm d) q.0 (λ k o. open_cut k (opened_in q.1 o) (closed_in q.2 o)) q.1 q.2 in (
      subst (λ (l : List PM). Run l [] []) (sym (pms_turn (is_cut a d) a)) r.0,
      subst (λ (l : List PM). Run l [] [])
          (sym (pms_turn (is_cut a d) d)) r.1,
    )
  where
    none_on : {k : Key} {s : List Key} → On k s → s ≡ [] → ⊥
    none_on on_top e = let z : true ≡ false = cc in false≢true (sym z)
    none_on (on_below o) e = let z : true ≡ false = cc in false≢true (sym z)

    open_cut : (k : Key) → On k [] ⊎ Has (opn k) (map pm a) → Has (cls k) (map pm d) → is_cut a d k ≡ true
    open_cut k (inl o) h = absurd (none_on o refl)
    open_cut (key c i) (inr o) h = rw (has_start c i a o, has_end c i d h)
