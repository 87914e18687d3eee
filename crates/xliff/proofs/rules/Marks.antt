-- The halves of one id in a sequence, as a list of marks; the shapes that rules 6 and 7 leave to them; and rule 7 for
-- the marks of start and end as shapes.
use Prim.Native.Nat.{ℕ, ◌+◌, ◌≤◌}
use native.Mathlib.Omega.{arith}
use mathlib.Core.Path.{◌≡◌, refl, sym, ap, ap₂, ◌∙◌, subst}
use mathlib.Core.Bool.{Bool, true, false, not, ◌&&◌, ◌||◌, cond, true≢false, false≢true}
use mathlib.Core.List.{List, [], ◌∷◌, ◌++◌, map, reverse_aux, tail-eq_of_cons-eq}
use mathlib.Core.Logic.{◌⊎◌, inl, inr}
use lib.Dec.{eqb}
use lib.ListN.{length}
use borrow.Author.Tests.{eqb-true, eqb-false, eq-eqb}
use Rattle.xliff.specs.Bytes.{any, gather}
use Rattle.xliff.specs.Item.{Item, Content, Half, start, end, text, character, standalone, isolated, pair, annotation_start, annotation_end, half, is_form_P, is_half, is_start_half, is_end_half, alike, other_half, class, id_of}
use Rattle.xliff.specs.Rules.{partner_S, ahead, lone_S, half_of_id, may_be_lone, lone_in_target}
use Rattle.xliff.proofs.lists.Tests.{and_left, and_right, gather_append, map-append, and_both, and-true}
use Rattle.xliff.proofs.rules.Sequences.{clear}
use Rattle.xliff.proofs.rules.Stack.{Key, key, PM, skip, opn, cls, Run, r_nil, r_skip, r_opn, r_cls, Bal, Run-append}
use Rattle.xliff.proofs.rules.Balance.{key_of, pm, P-half, Balanced}

-- class, whether it has the mark of pc or mrk, start or end
pub data Mk : Type 0 where
  mk : ℕ → Bool → Half → Mk

abbrev pub side : Item → Half
side y = cond (is_start_half y) start end

abbrev pub mark_of : Item → Mk
mark_of y = mk (class y) (is_form_P y) (side y)

abbrev pub mk_of : ℕ → Item → List Mk
mk_of i y = cond (half_of_id i y) (mark_of y ∷ []) []

-- the halves of the id i, in their sequence
unfoldable pub marks : ℕ → Content → List Mk
marks i xs = gather (mk_of i) xs

pub marks_cons : (i : ℕ) (x : Item) (xs : Content) → marks i (x ∷ xs) ≡ mk_of i x ++ marks i xs
unfolding marks gather
marks_cons i x xs = refl

pub marks_append : (i : ℕ) (xs ys : Content) → marks i (xs ++ ys) ≡ marks i xs ++ marks i ys
unfolding marks
marks_append i xs ys = gather_append (mk_of i) xs ys

-- none; both halves in one form, start first; or one half alone, with the mark of a start or an end, where e allows
-- it
pub data Shape (e : ℕ → Half → Bool) : List Mk → Type 0 where
  sh_none : Shape e []
  sh_pair : (c : ℕ) (w : Bool) → Shape e (mk c w start ∷ mk c w end ∷ [])
  sh_lone : (c : ℕ) (s : Half) → e c s ≡ true → Shape e (mk c false s ∷ [])

-- two marks of a shape are those of a pair
pub a_pair : {e : ℕ → Half → Bool} {m n : Mk} {l : List Mk} → Shape e (m ∷ n ∷ l)
    → (c : ℕ) × (w : Bool) × (m ≡ mk c w start) × (n ≡ mk c w end) × (l ≡ [])
a_pair (sh_pair c w) = (c, w, refl, refl, refl)

pub Shape-mono : {e g : ℕ → Half → Bool} {p : List Mk} → ((c : ℕ) (s : Half) → e c s ≡ true → g c s ≡ true) → Shape e p → Shape g p
Shape-mono h sh_none = sh_none
Shape-mono h (sh_pair c f) = sh_pair c f
Shape-mono h (sh_lone c s e) = sh_lone c s (h c s e)

abbrev pub opposite : Half → Half → Bool
opposite start start = false
opposite start end = true
opposite end start = true
opposite end end = false

-- of the marks of start and end of this class, the nearest is the other half
abbrev pub look : ℕ → Half → List Mk → Bool
look c s [] = false
look c s (mk d w t ∷ l) = cond (not w && eqb c d) (opposite s t) (look c s l)

abbrev pub nothing : List Mk → Bool
nothing [] = true
nothing (m ∷ l) = false

abbrev pub way : Half → List Mk → List Mk → List Mk
way start before after = after
way end before after = before

-- rule 7 at a mark: it has its partner, or it is alone and may be
abbrev pub ok_mk : (ℕ → Half → Bool) → List Mk → Mk → List Mk → Bool
ok_mk e b (mk c true s) a = true
ok_mk e b (mk c false s) a = look c s (way s b a) || nothing b && (nothing a && e c s)

abbrev pub AllOk : (ℕ → Half → Bool) → List Mk → List Mk → Type 0
AllOk e b [] = Unit {0}
AllOk e b (m ∷ l) = (ok_mk e b m l ≡ true) × AllOk e (m ∷ b) l

-- a half of this class and of the other side, whatever its form
abbrev pub any_mk : ℕ → Half → List Mk → Bool
any_mk c s [] = false
any_mk c s (mk d w t ∷ l) = eqb c d && opposite s t || any_mk c s l

-- what waits lets a half be alone: the other half of its class and id
abbrev pub waits : Content → ℕ → ℕ → Half → Bool
waits wait i c s = any_mk c s (marks i wait)

-- From items to marks. A half is of class 2 or 5
pub half_class : (y : Item) → is_half y ≡ eqb (class y) 2 || eqb (class y) 5
unfolding half class
half_class (text c) = refl
half_class (character c) = refl
half_class (standalone f) = refl
half_class (isolated start f) = refl
half_class (isolated end f) = refl
half_class (pair start w f) = refl
half_class (pair end w f) = refl
half_class (annotation_start w i t) = refl
half_class (annotation_end w i) = refl

half_number_lem : (y : Item) → is_half y ≡ true → (half y ≡ 1) ⊎ (half y ≡ 2)
unfolding half
half_number_lem (text c) e = absurd (false≢true e)
half_number_lem (character c) e = absurd (false≢true e)
half_number_lem (standalone f) e = absurd (false≢true e)
half_number_lem (isolated h f) e = absurd (false≢true e)
half_number_lem (pair start w f) e = inl refl
half_number_lem (pair end w f) e = inr refl
half_number_lem (annotation_start w i t) e = inl refl
half_number_lem (annotation_end w i) e = inr refl

other_side : (x y : Item) → is_half x ≡ true → is_half y ≡ true
    → is_start_half x && is_end_half y || is_end_half x && is_start_half y ≡ opposite (side x) (side y)
other_side x y h k = by (half_number_lem x h) (half_number_lem y k)
  where
    by : (half x ≡ 1) ⊎ (half x ≡ 2) → (half y ≡ 1) ⊎ (half y ≡ 2)
        → is_start_half x && is_end_half y || is_end_half x && is_start_half y ≡ opposite (side x) (side y)
    by (inl a) (inl b) = rw (a, b)
    by (inl a) (inr b) = rw (a, b)
    by (inr a) (inl b) = rw (a, b)
    by (inr a) (inr b) = rw (a, b)

-- an item that is alike is a half of the same id
alike_half : (x y : Item) → is_half x ≡ true → alike x y ≡ true → half_of_id (id_of x) y ≡ true
unfolding alike half_of_id
alike_half x y h e =
    let c : class x ≡ class y = eqb-true _ _ (and_left _ _ e) in
    let i : id_of x ≡ id_of y = eqb-true _ _ (and_right (eqb (class x) (class y)) _ e) in
    let k : is_half y ≡ true = half_class y ∙ ap (λ (n : ℕ). eqb n 2 || eqb n 5) (sym c) ∙ sym (half_class x) ∙ h in
    rw (k, eq-eqb (id_of y) (id_of x) (sym i))

pub not_alike : (x y : Item) → is_half x ≡ true → half_of_id (id_of x) y ≡ false → alike x y ≡ false
not_alike x y h e = by (alike x y) refl
  where
    by : (b : Bool) → alike x y ≡ b → b ≡ false
    by true k = absurd (true≢false (sym (alike_half x y h k) ∙ e))
    by false k = refl

-- and for a half of the same id only the class is asked
pub alike_class : (x y : Item) → half_of_id (id_of x) y ≡ true → alike x y ≡ eqb (class x) (class y)
unfolding alike half_of_id
alike_class x y e =
    let i : id_of y ≡ id_of x = eqb-true _ _ (and_right (is_half y) _ e) in
    rw (eq-eqb (id_of x) (id_of y) (sym i)) (and-true (eqb (class x) (class y)))

pub is_half_of : (i : ℕ) (y : Item) → half_of_id i y ≡ true → is_half y ≡ true
unfolding half_of_id
is_half_of i y e = and_left _ _ e

pub other_half_is : (x y : Item) → is_half x ≡ true → half_of_id (id_of x) y ≡ true
    → other_half x y ≡ eqb (class x) (class y) && opposite (side x) (side y)
unfolding other_half
other_half_is x y h e = ap₂ ◌&&◌ (alike_class x y e) (other_side x y h (is_half_of (id_of x) y e))

pub not_other : (x y : Item) → alike x y ≡ false → other_half x y ≡ false
unfolding other_half
not_other x y e = rw e

module _ (x : Item) (is_h : is_half x ≡ true) where
  abbrev own : ℕ
  own = id_of x

  pub partner_look : (ys : Content) → partner_S x ys ≡ look (class x) (side x) (marks own ys)
  unfolding partner_S marks gather
  partner_look [] = refl
  partner_look (y ∷ ys) = by (half_of_id own y) refl (partner_look ys)
    where
      picks : (a p o o' r r' : Bool) → (a ≡ true → o ≡ o') → r ≡ r' → cond (a && not p) o r ≡ cond (not p && a) o' r'
      picks true true o o' r r' f g = g
      picks true false o o' r r' f g = f refl
      picks false true o o' r r' f g = g
      picks false false o o' r r' f g = g

      by : (b : Bool) → half_of_id own y ≡ b → partner_S x ys ≡ look (class x) (side x) (marks own ys)
          → cond (alike x y && not (is_form_P y)) (other_half x y) (partner_S x ys)
          ≡ look (class x) (side x) (cond b (mark_of y ∷ []) [] ++ marks own ys)
      by true e ih =
          rw (alike_class x y e)
          (picks (eqb (class x) (class y)) (is_form_P y) _ _ _ _
          (λ a. other_half_is x y is_h e ∙ ap (λ (b : Bool). b && opposite (side x) (side y)) a) ih)
      by false e ih = rw (not_alike x y is_h e) ih

  pub any_other : (ys : Content) → any (other_half x) ys ≡ any_mk (class x) (side x) (marks own ys)
  unfolding any marks gather
  any_other [] = refl
  any_other (y ∷ ys) = by (half_of_id own y) refl (any_other ys)
    where
      by : (b : Bool) → half_of_id own y ≡ b → any (other_half x) ys ≡ any_mk (class x) (side x) (marks own ys)
          → other_half x y || any (other_half x) ys ≡ any_mk (class x) (side x) (cond b (mark_of y ∷ []) [] ++ marks own ys)
      by true e ih = ap₂ ◌||◌ (other_half_is x y is_h e) ih
      by false e ih = rw (not_other x y (not_alike x y is_h e)) ih

pub any_nothing : (i : ℕ) (ys : Content) → not (any (half_of_id i) ys) ≡ nothing (marks i ys)
unfolding any marks gather
any_nothing i [] = refl
any_nothing i (y ∷ ys) = by (half_of_id i y) (any_nothing i ys)
  where
    by : (b : Bool) → not (any (half_of_id i) ys) ≡ nothing (marks i ys)
        → not (b || any (half_of_id i) ys) ≡ nothing (cond b (mark_of y ∷ []) [] ++ marks i ys)
    by true ih = refl
    by false ih = ih

-- rule 7 at an item is rule 7 at its mark
way_ahead : (x : Item) (b a : Content) → marks (id_of x) (ahead x b a) ≡ way (side x) (marks (id_of x) b) (marks (id_of x) a)
unfolding ahead
way_ahead x b a = by (is_start_half x)
  where
    by : (c : Bool) → marks (id_of x) (cond c a b) ≡ way (cond c start end) (marks (id_of x) b) (marks (id_of x) a)
    by true = refl
    by false = refl

pub ok_at : (wait b : Content) (x : Item) (a : Content) → is_half x ≡ true
    → not (lone_in_target wait b x a) ≡ ok_mk (waits wait (id_of x)) (marks (id_of x) b) (mark_of x) (marks (id_of x) a)
unfolding lone_in_target lone_S may_be_lone
ok_at wait b x a h =
    rw (h, any_nothing (id_of x) b, any_nothing (id_of x) a, any_other x h wait, partner_look x h (ahead x b a), way_ahead x b a) (by (is_form_P x))
  where
    look_ahead : Bool
    look_ahead = look (class x) (side x) (way (side x) (marks (id_of x) b) (marks (id_of x) a))

    alone : Bool
    alone = nothing (marks (id_of x) b) && (nothing (marks (id_of x) a) && waits wait (id_of x) (class x) (side x))

    two : (p q : Bool) → not (not p && not q) ≡ p || q
    two true q = refl
    two false true = refl
    two false false = refl

    by : (p : Bool)
        → not (not p && not look_ahead && not alone) ≡ ok_mk (waits wait (id_of x)) (marks (id_of x) b) (mk (class x) p (side x)) (marks (id_of x) a)
    by true = refl
    by false = two look_ahead alone

not_half_ok : (wait b : Content) (x : Item) (a : Content) → is_half x ≡ false → not (lone_in_target wait b x a) ≡ true
unfolding lone_in_target lone_S
not_half_ok wait b x a h = rw h

pub is_id : (i : ℕ) (y : Item) → half_of_id i y ≡ true → id_of y ≡ i
unfolding half_of_id
is_id i y e = eqb-true _ _ (and_right (is_half y) _ e)

pub clear_marks : (wait : Content) (i : ℕ) (b xs : Content) → clear (lone_in_target wait) b xs ≡ true → AllOk (waits wait i) (marks i b) (marks i xs)
unfolding clear marks gather
clear_marks wait i b [] e = tt
clear_marks wait i b (x ∷ xs) e = by (half_of_id i x) refl (clear_marks wait i (x ∷ b) xs (and_right (not (lone_in_target wait b x xs)) _ e))
  where
    by : (c : Bool) → half_of_id i x ≡ c → AllOk (waits wait i) (cond c (mark_of x ∷ []) [] ++ marks i b) (marks i xs)
        → AllOk (waits wait i) (marks i b) (cond c (mark_of x ∷ []) [] ++ marks i xs)
    by true k r = (
      subst (λ (j : ℕ). ok_mk (waits wait j) (marks j b) (mark_of x) (marks j xs) ≡ true) (is_id i x k)
          (sym (ok_at wait b x xs (is_half_of i x k)) ∙ and_left _ _ e),
      r,
    )
    by false k r = r

-- marks in the other direction
pub marks_rev : (i : ℕ) (b xs : Content) → marks i (reverse_aux b xs) ≡ reverse_aux (marks i b) (marks i xs)
unfolding marks gather
marks_rev i [] xs = refl
marks_rev i (y ∷ b) xs = marks_rev i b (y ∷ xs) ∙ by (half_of_id i y)
  where
    by : (c : Bool)
        → reverse_aux (marks i b) (cond c (mark_of y ∷ []) [] ++ marks i xs) ≡ reverse_aux (cond c (mark_of y ∷ []) [] ++ marks i b) (marks i xs)
    by true = refl
    by false = refl

pub short : {e : ℕ → Half → Bool} {l : List Mk} → Shape e l → length l ≤ 2
short sh_none = omega arith
short (sh_pair c w) = omega arith
short (sh_lone c s h) = omega arith

pub rev_length : (b a : List Mk) → length (reverse_aux b a) ≡ length b + length a
rev_length [] a = omega arith
rev_length (m ∷ b) a = omega (arith, rev_length b (m ∷ a))

shape_ok : (e : ℕ → Half → Bool) (b : List Mk) (m : Mk) (a : List Mk) → Shape e (reverse_aux b (m ∷ a)) → ok_mk e b m a ≡ true
shape_ok e b (mk c true s) a h = refl
shape_ok e [] (mk c false start) [] (sh_lone d t h) = h
shape_ok e [] (mk c false end) [] (sh_lone d t h) = h
shape_ok e [] (mk c false s) (n ∷ []) (sh_pair d w) = rw (eq-eqb c c refl)
shape_ok e (n ∷ []) (mk c false s) [] (sh_pair d w) = rw (eq-eqb c c refl)
shape_ok e [] (mk c false s) (n ∷ (_ ∷ _)) h = elim h [ ]
shape_ok e (n ∷ []) (mk c false s) (_ ∷ _) h = elim h [ ]
shape_ok e (n ∷ o ∷ b) (mk c false s) a h =
    let z : ⊥ = omega (arith, short h, rev_length b (o ∷ n ∷ mk c false s ∷ a)) in absurd z

pub half_own : (x : Item) → is_half x ≡ true → half_of_id (id_of x) x ≡ true
unfolding half_of_id
half_own x k = rw (k, eq-eqb (id_of x) (id_of x) refl)

pub shapes_clear : (wait b xs : Content) → ((i : ℕ) → Shape (waits wait i) (marks i (reverse_aux b xs))) → clear (lone_in_target wait) b xs ≡ true
unfolding clear
shapes_clear wait b [] h = refl
shapes_clear wait b (x ∷ xs) h = and_both _ _ (by (is_half x) refl) (shapes_clear wait (x ∷ b) xs h)
  where
    own_mark : is_half x ≡ true → marks (id_of x) (x ∷ xs) ≡ mark_of x ∷ marks (id_of x) xs
    own_mark k = marks_cons (id_of x) x xs ∙ ap (λ (c : Bool). cond c (mark_of x ∷ []) [] ++ marks (id_of x) xs) (half_own x k)

    by : (c : Bool) → is_half x ≡ c → not (lone_in_target wait b x xs) ≡ true
    by true k =
        ok_at wait b x xs k
        ∙ shape_ok (waits wait (id_of x)) (marks (id_of x) b) (mark_of x) (marks (id_of x) xs)
        (subst (Shape (waits wait (id_of x))) (marks_rev (id_of x) b (x ∷ xs) ∙ ap (reverse_aux (marks (id_of x) b)) (own_mark k)) (h (id_of x)))
    by false k = not_half_ok wait b x xs k

-- The marks of pc and mrk among those of an id
abbrev pub pmk : ℕ → Mk → PM
pmk i (mk c true start) = opn (key c i)
pmk i (mk c true end) = cls (key c i)
pmk i (mk c false s) = skip

abbrev pub is_open : Mk → ℕ
is_open (mk c w start) = 1
is_open (mk c w end) = 0

abbrev pub opens : List Mk → ℕ
opens [] = 0
opens (m ∷ l) = is_open m + opens l

inv_nil : {s t : List Key} → Run [] s t → s ≡ t
inv_nil r_nil = refl

pub inv_skip : {l : List PM} {s t : List Key} → Run (skip ∷ l) s t → Run l s t
inv_skip (r_skip r) = r

pub inv_opn : {k : Key} {l : List PM} {s t : List Key} → Run (opn k ∷ l) s t → Run l (k ∷ s) t
inv_opn (r_opn r) = r

inv_cls : {k : Key} {l : List PM} {s t : List Key} → Run (cls k ∷ l) s t → (u : List Key) × (s ≡ k ∷ u) × Run l u t
inv_cls (r_cls {s = s} r) = (s, refl, r)

pub no_cls : {k : Key} {l : List PM} {t : List Key} → Run (cls k ∷ l) [] t → ⊥
no_cls r = let q = inv_cls r in let e = q.1 in let z : true ≡ false = cc in false≢true (sym z)

pub no_end : {k : Key} {s : List Key} → Run [] (k ∷ s) [] → ⊥
no_end r = let e = inv_nil r in let z : true ≡ false = cc in false≢true (sym z)

partners_class : (c d i : ℕ) {l : List PM} {s t : List Key} → Run (cls (key d i) ∷ l) (key c i ∷ s) t → (c ≡ d) × Run l s t
partners_class c d i {l = l} {s = s} {t = t} r =
    let q = inv_cls r in
    let e = q.1 in
    let h : c ≡ d = cc in
    let k : q.0 ≡ s = sym (tail-eq_of_cons-eq e) in
    (h, subst (λ (z : List Key). Run l z t) k q.2)

look_one : (c d : ℕ) (r : Bool) → cond (eqb c d) true false || false && r ≡ true → c ≡ d
look_one c d r h = by (eqb c d) refl h
  where
    by : (b : Bool) → eqb c d ≡ b → cond b true false || false && r ≡ true → c ≡ d
    by true e k = eqb-true c d e
    by false e k = absurd (false≢true k)

-- rule 6 leaves one start at most; then rule 7 leaves the shapes
pub shape_from : (e : ℕ → Half → Bool) (i : ℕ) (p : List Mk) → Bal (map (pmk i) p) → opens p ≤ 1 → AllOk e [] p → Shape e p
shape_from e i [] r h ok = sh_none
shape_from e i (mk c true end ∷ l) r h ok = absurd (no_cls r)
shape_from e i (mk c true start ∷ []) r h ok = absurd (no_end (inv_opn r))
shape_from e i (mk c false start ∷ []) r h ok = sh_lone c start ok.0
shape_from e i (mk c false end ∷ []) r h ok = sh_lone c end ok.0
shape_from e i (mk c false end ∷ m ∷ l) r h ok = absurd (false≢true ok.0)
shape_from e i (mk c true start ∷ mk d w start ∷ l) r h ok = let z : ⊥ = omega arith in absurd z
shape_from e i (mk c true start ∷ mk d false end ∷ l) r h ok = absurd (false≢true ok.1.0)
shape_from e i (mk c true start ∷ mk d true end ∷ []) r h ok =
    subst (λ (x : ℕ). Shape e (mk c true start ∷ mk x true end ∷ [])) (partners_class c d i (inv_opn r)).0 (sh_pair c true)
shape_from e i (mk c true start ∷ mk d true end ∷ mk d₃ w start ∷ l) r h ok = let z : ⊥ = omega arith in absurd z
shape_from e i (mk c true start ∷ mk d true end ∷ mk d₃ true end ∷ l) r h ok = absurd (no_cls (partners_class c d i (inv_opn r)).1)
shape_from e i (mk c true start ∷ mk d true end ∷ mk d₃ false end ∷ l) r h ok = absurd (false≢true ok.1.1.0)
shape_from e i (mk c false start ∷ mk d w start ∷ l) r h ok = let z : ⊥ = omega arith in absurd z
shape_from e i (mk c false start ∷ mk d true end ∷ l) r h ok = absurd (no_cls (inv_skip r))
shape_from e i (mk c false start ∷ mk d false end ∷ []) r h ok =
    subst (λ (x : ℕ). Shape e (mk c false start ∷ mk x false end ∷ [])) (look_one c d (e c start) ok.0) (sh_pair c false)
shape_from e i (mk c false start ∷ mk d false end ∷ mk d₃ w start ∷ l) r h ok = let z : ⊥ = omega arith in absurd z
shape_from e i (mk c false start ∷ mk d false end ∷ mk d₃ true end ∷ l) r h ok = absurd (no_cls (inv_skip (inv_skip r)))
shape_from e i (mk c false start ∷ mk d false end ∷ mk d₃ false end ∷ l) r h ok =
    absurd (third (eqb d₃ d) refl (eqb d₃ c) refl (look_one d c (e d end) ok.1.0) ok.1.1.0)
  where
    third : (p : Bool) → eqb d₃ d ≡ p → (q : Bool) → eqb d₃ c ≡ q → d ≡ c
        → cond p false (cond q true false) || false && (false && e d₃ end) ≡ true → ⊥
    third true a q b k f = false≢true f
    third false a true b k f = eqb-false d₃ d a (eqb-true d₃ c b ∙ sym k)
    third false a false b k f = false≢true f

-- The marks of an id run through if those of all do
unfoldable of_id : ℕ → List Key → List Key
of_id i [] = []
of_id i (key c j ∷ s) = cond (eqb j i) (key c i ∷ of_id i s) (of_id i s)

pub pm_half : (x : Item) → is_form_P x ≡ true → is_half x ≡ true
pm_half x e = by (P-half x e)
  where
    by : (half x ≡ 1) ⊎ (half x ≡ 2) → is_half x ≡ true
    by (inl h) = rw h
    by (inr h) = rw h

Run-id : (i : ℕ) (l : Content) {s t : List Key} → Run (map pm l) s t → Run (map (pmk i) (marks i l)) (of_id i s) (of_id i t)
unfolding marks gather of_id half_of_id
Run-id i [] r_nil = r_nil
Run-id i (x ∷ l) {s} {t} r = by (is_form_P x) refl r (λ u q. Run-id i l {s = u} q)
  where
    IH : Type 0
    IH = (u : List Key) → Run (map pm l) u t → Run (map (pmk i) (marks i l)) (of_id i u) (of_id i t)

    Goal : Bool → Half → List Key → Type 0
    Goal w h u = Run (map (pmk i) (cond (is_half x && eqb (id_of x) i) (mk (class x) w h ∷ []) [] ++ marks i l)) (of_id i u) (of_id i t)

    skipped : (b : Bool) (h : Half) (u : List Key) → Run (map (pmk i) (marks i l)) (of_id i u) (of_id i t)
        → Run (map (pmk i) (cond b (mk (class x) false h ∷ []) [] ++ marks i l)) (of_id i u) (of_id i t)
    skipped true h u q = r_skip q
    skipped false h u q = q

    opened : (b : Bool) (u : List Key) → Run (map (pmk i) (marks i l)) (cond b (key (class x) i ∷ of_id i u) (of_id i u)) (of_id i t)
        → Run (map (pmk i) (cond b (mk (class x) true start ∷ []) [] ++ marks i l)) (of_id i u) (of_id i t)
    opened true u q = r_opn q
    opened false u q = q

    closed : (b : Bool) (u : List Key) → Run (map (pmk i) (marks i l)) (of_id i u) (of_id i t)
        → Run (map (pmk i) (cond b (mk (class x) true end ∷ []) [] ++ marks i l)) (cond b (key (class x) i ∷ of_id i u) (of_id i u)) (of_id i t)
    closed true u q = r_cls q
    closed false u q = q

    half_by : is_form_P x ≡ true → (half x ≡ 1) ⊎ (half x ≡ 2)
        → Run (cond (eqb (half x) 1) (opn (key_of x)) (cls (key_of x)) ∷ map pm l) s t → IH → Goal true (side x) s
    half_by e (inl h) q ih = rw (pm_half x e, h) (opened (eqb (id_of x) i) s (ih (key_of x ∷ s) (inv_opn (rw h at q))))
    half_by e (inr h) q ih =
        let (u, k, p) = inv_cls (rw h at q) in
        rw (pm_half x e, h, k) (closed (eqb (id_of x) i) u (ih u p))

    by : (b : Bool) → is_form_P x ≡ b → Run (cond b (cond (eqb (half x) 1) (opn (key_of x)) (cls (key_of x))) skip ∷ map pm l) s t → IH
        → Goal b (side x) s
    by true e q ih = half_by e (P-half x e) q ih
    by false e q ih = skipped (is_half x && eqb (id_of x) i) (side x) s (ih s (inv_skip q))

pub Bal-id : (i : ℕ) (l : Content) → Balanced l → Bal (map (pmk i) (marks i l))
unfolding of_id
Bal-id i l b = Run-id i l b

-- a sequence of balanced contents
pub Bal-two : (i : ℕ) (a b : Content) → Bal (map (pmk i) (marks i a)) → Bal (map (pmk i) (marks i b)) → Bal (map (pmk i) (marks i (a ++ b)))
Bal-two i a b p q =
    subst (λ (l : List PM). Bal l) (sym (ap (map (pmk i)) (marks_append i a b) ∙ map-append (pmk i) (marks i a) (marks i b))) (Run-append p q)
