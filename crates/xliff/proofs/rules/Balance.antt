-- Rule 7 for pc and mrk: in a content each such half has its partner (`lone_P` blames none) exactly when its marks run
-- from no open key to none.
use Prim.Native.Nat.{ℕ}
use native.Mathlib.Omega.{arith}
use mathlib.Core.Path.{◌≡◌, refl, sym, ap, ap₂, ◌∙◌, subst}
use mathlib.Core.Bool.{Bool, true, false, not, ◌&&◌, cond, false≢true}
use mathlib.Core.List.{List, [], ◌∷◌, map, reverse_aux}
use mathlib.Core.Option.{none, some}
use mathlib.Core.Logic.{◌⊎◌, inl, inr}
use lib.Dec.{eqb}
use borrow.Author.Tests.{eqb-true, eq-eqb, ne_eqb}
use Rattle.xliff.specs.Item.{Item, Content, start, end, text, character, standalone, isolated, pair, annotation_start, annotation_end, half, is_form_P, is_half, alike, other_half, class, id_of}
use Rattle.xliff.specs.Rules.{meet, meet_all, all_met, partner_P, ahead, lone_P}
use Rattle.xliff.proofs.lists.Tests.{and_left, and_right, and_both, and-true}
use Rattle.xliff.proofs.rules.Sequences.{clear}
use Rattle.xliff.proofs.rules.Stack.{Key, key, PM, skip, opn, cls, Run, r_nil, r_skip, r_opn, r_cls, Bal, Empties, e_done, e_skip, e_opn, e_cls, Run-empties, Starts, flip, balanced_from}

abbrev pub key_of : Item → Key
key_of y = key (class y) (id_of y)

-- an item as a mark of the stack, read towards its end (n = 1) or towards its start (n = 2): such a half opens, the
-- other half closes
abbrev pub toward : ℕ → Item → PM
toward n y = cond (is_form_P y) (cond (eqb (half y) n) (opn (key_of y)) (cls (key_of y))) skip

abbrev pub pm : Item → PM
pm y = toward 1 y

-- a mark of pc or mrk is a start or an end
pub P-half : (y : Item) → is_form_P y ≡ true → (half y ≡ 1) ⊎ (half y ≡ 2)
unfolding is_form_P half
P-half (text c) e = absurd (false≢true e)
P-half (character c) e = absurd (false≢true e)
P-half (standalone f) e = absurd (false≢true e)
P-half (isolated h f) e = absurd (false≢true e)
P-half (pair start w f) e = inl refl
P-half (pair end w f) e = inr refl
P-half (annotation_start w i t) e = inl refl
P-half (annotation_end w i) e = inr refl

pub alike_key : (x y : Item) → alike x y ≡ true → key_of x ≡ key_of y
unfolding alike
alike_key x y e = ap₂ key (eqb-true (class x) (class y) (and_left _ _ e)) (eqb-true (id_of x) (id_of y) (and_right (eqb (class x) (class y)) _ e))

pub key_alike : (x y : Item) → key_of x ≡ key_of y → alike x y ≡ true
unfolding alike
key_alike x y e =
    let a : class x ≡ class y = cc in
    let b : id_of x ≡ id_of y = cc in
    rw (eq-eqb (class x) (class y) a, eq-eqb (id_of x) (id_of y) b)

flip_toward : (y : Item) → flip (toward 1 y) ≡ toward 2 y
flip_toward y = by (is_form_P y) refl
  where
    two : (half y ≡ 1) ⊎ (half y ≡ 2) → flip (cond (eqb (half y) 1) (opn (key_of y)) (cls (key_of y))) ≡ cond (eqb (half y) 2) (opn (key_of y)) (cls (key_of y))
    two (inl e) = rw e
    two (inr e) = rw e

    by : (b : Bool) → is_form_P y ≡ b → flip (cond b (cond (eqb (half y) 1) (opn (key_of y)) (cls (key_of y))) skip) ≡ cond b (cond (eqb (half y) 2) (opn (key_of y)) (cls (key_of y))) skip
    by true e = two (P-half y e)
    by false e = refl

-- open halves of one direction
pub data AllHalf (n : ℕ) : List Item → Type 0 where
  no_half : AllHalf n []
  one_half : {x : Item} {xs : List Item} → half x ≡ n → AllHalf n xs → AllHalf n (x ∷ xs)

lost : (ys : Content) → meet_all none ys ≡ none
unfolding meet_all meet
lost [] = refl
lost (y ∷ ys) = lost ys

met : (ys : Content) → meet_all (some []) ys ≡ some []
unfolding meet_all meet
met [] = refl
met (y ∷ ys) = met ys

-- A direction: n is the number of the halves that are open, m that of the others
module _ (n m : ℕ) (differ : n ≡ m → ⊥) (two : (y : Item) → is_form_P y ≡ true → (half y ≡ n) ⊎ (half y ≡ m))
    (other : (x y : Item) → half x ≡ n → half y ≡ m → other_half x y ≡ alike x y) where
  meets_empties : (ys : Content) (st : List Item) → AllHalf n st → all_met (meet_all (some st) ys) ≡ true → Empties (map (toward n) ys) (map key_of st)
  unfolding all_met meet_all meet
  meets_empties [] [] a e = e_done
  meets_empties [] (x ∷ st) a e = absurd (false≢true e)
  meets_empties (y ∷ ys) [] a e = e_done
  meets_empties (y ∷ ys) (x ∷ st) (one_half h a) e =
      by (is_form_P y) refl e (meets_empties ys (x ∷ st) (one_half h a)) (λ k. meets_empties ys (y ∷ x ∷ st) (one_half k (one_half h a))) (meets_empties ys st a)
    where
      Goal : List Item → Type 0
      Goal l = all_met (meet_all (some l) ys) ≡ true → Empties (map (toward n) ys) (map key_of l)

      pops : (c : Bool) → other_half x y ≡ c → half y ≡ m → all_met (meet_all (cond c (some st) none) ys) ≡ true → Goal st
          → Empties (cls (key_of y) ∷ map (toward n) ys) (key_of x ∷ map key_of st)
      pops true q k f g =
          subst (λ (z : Key). Empties (cls (key_of y) ∷ map (toward n) ys) (z ∷ map key_of st)) (sym (alike_key x y (sym (other x y h k) ∙ q))) (e_cls (g f))
      pops false q k f g = absurd (false≢true (ap all_met (sym (lost ys)) ∙ f))

      pushes : (half y ≡ n) ⊎ (half y ≡ m) → all_met (meet_all (cond (eqb (half x) (half y)) (some (y ∷ x ∷ st)) (cond (other_half x y) (some st) none)) ys) ≡ true
          → (half y ≡ n → Goal (y ∷ x ∷ st)) → Goal st → Empties (cond (eqb (half y) n) (opn (key_of y)) (cls (key_of y)) ∷ map (toward n) ys) (key_of x ∷ map key_of st)
      pushes (inl k) f g r =
          let f₁ : all_met (meet_all (some (y ∷ x ∷ st)) ys) ≡ true = rw (eq-eqb (half x) (half y) (h ∙ sym k)) at f in
          rw (eq-eqb (half y) n k) (e_opn (g k f₁))
      pushes (inr k) f g r =
          let f₁ : all_met (meet_all (cond (other_half x y) (some st) none) ys) ≡ true = rw (ne_eqb (half x) (half y) (λ z. differ (sym h ∙ z ∙ k))) at f in
          rw (ne_eqb (half y) n (λ z. differ (sym z ∙ k))) (pops (other_half x y) refl k f₁ r)

      by : (b : Bool) → is_form_P y ≡ b
          → all_met (meet_all (cond b (cond (eqb (half x) (half y)) (some (y ∷ x ∷ st)) (cond (other_half x y) (some st) none)) (some (x ∷ st))) ys) ≡ true
          → Goal (x ∷ st) → (half y ≡ n → Goal (y ∷ x ∷ st)) → Goal st
          → Empties (cond b (cond (eqb (half y) n) (opn (key_of y)) (cls (key_of y))) skip ∷ map (toward n) ys) (key_of x ∷ map key_of st)
      by false p f s g r = e_skip (s f)
      by true p f s g r = pushes (two y p) f g r

  empties_meets : (ys : Content) (st : List Item) → AllHalf n st → Empties (map (toward n) ys) (map key_of st) → all_met (meet_all (some st) ys) ≡ true
  unfolding all_met meet_all meet
  empties_meets [] (x ∷ st) a e = elim e [ ]
  empties_meets [] [] a e = refl
  empties_meets (y ∷ ys) [] a e = ap all_met (met ys)
  empties_meets (y ∷ ys) (x ∷ st) (one_half h a) e =
      by (is_form_P y) refl e (empties_meets ys (x ∷ st) (one_half h a)) (λ k. empties_meets ys (y ∷ x ∷ st) (one_half k (one_half h a))) (empties_meets ys st a)
    where
      Goal : List Item → Type 0
      Goal l = Empties (map (toward n) ys) (map key_of l) → all_met (meet_all (some l) ys) ≡ true

      skips : {l : List PM} {s : List Key} → Empties (skip ∷ l) s → Empties l s
      skips e_done = e_done
      skips (e_skip e) = e

      opns : {l : List PM} {j : Key} {s : List Key} → Empties (opn j ∷ l) s → (k : Key) (r : List Key) → s ≡ k ∷ r → Empties l (j ∷ s)
      opns e_done k r q = let z : true ≡ false = cc in absurd (false≢true (sym z))
      opns (e_opn e) k r q = e

      clss : {l : List PM} {j k : Key} {s : List Key} → Empties (cls j ∷ l) (k ∷ s) → (k ≡ j) × Empties l s
      clss (e_cls e) = (refl, e)

      pushes : (half y ≡ n) ⊎ (half y ≡ m) → Empties (cond (eqb (half y) n) (opn (key_of y)) (cls (key_of y)) ∷ map (toward n) ys) (key_of x ∷ map key_of st)
          → (half y ≡ n → Goal (y ∷ x ∷ st)) → Goal st → all_met (meet_all (cond (eqb (half x) (half y)) (some (y ∷ x ∷ st)) (cond (other_half x y) (some st) none)) ys) ≡ true
      pushes (inl k) f g r =
          let f₁ : Empties (opn (key_of y) ∷ map (toward n) ys) (key_of x ∷ map key_of st) = rw (eq-eqb (half y) n k) at f in
          rw (eq-eqb (half x) (half y) (h ∙ sym k)) (g k (opns f₁ (key_of x) (map key_of st) refl))
      pushes (inr k) f g r =
          let f₁ : Empties (cls (key_of y) ∷ map (toward n) ys) (key_of x ∷ map key_of st) = rw (ne_eqb (half y) n (λ z. differ (sym z ∙ k))) at f in
          let (q, f₂) = clss f₁ in
          rw (ne_eqb (half x) (half y) (λ z. differ (sym h ∙ z ∙ k)), other x y h k, key_alike x y q) (r f₂)

      by : (b : Bool) → is_form_P y ≡ b → Empties (cond b (cond (eqb (half y) n) (opn (key_of y)) (cls (key_of y))) skip ∷ map (toward n) ys) (key_of x ∷ map key_of st)
          → Goal (x ∷ st) → (half y ≡ n → Goal (y ∷ x ∷ st)) → Goal st
          → all_met (meet_all (cond b (cond (eqb (half x) (half y)) (some (y ∷ x ∷ st)) (cond (other_half x y) (some st) none)) (some (x ∷ st))) ys) ≡ true
      by false p f s g r = s (skips f)
      by true p f s g r = pushes (two y p) f g r

  pub partner_empties : (x : Item) (ys : Content) → half x ≡ n → partner_P x ys ≡ true → Empties (map (toward n) ys) (key_of x ∷ [])
  unfolding partner_P
  partner_empties x ys h e = meets_empties ys (x ∷ []) (one_half h no_half) e

  pub empties_partner : (x : Item) (ys : Content) → half x ≡ n → Empties (map (toward n) ys) (key_of x ∷ []) → partner_P x ys ≡ true
  unfolding partner_P
  empties_partner x ys h e = empties_meets ys (x ∷ []) (one_half h no_half) e

-- the two directions
one_two : ◌≡◌ {A = ℕ} 1 2 → ⊥
one_two e = omega arith

two_one : ◌≡◌ {A = ℕ} 2 1 → ⊥
two_one e = omega arith

swap : {A B : Type 0} → A ⊎ B → B ⊎ A
swap (inl a) = inr a
swap (inr b) = inl b

start_end : (x y : Item) → half x ≡ 1 → half y ≡ 2 → other_half x y ≡ alike x y
unfolding other_half
start_end x y h k = rw (h, k) (and-true (alike x y))

end_start : (x y : Item) → half x ≡ 2 → half y ≡ 1 → other_half x y ≡ alike x y
unfolding other_half
end_start x y h k = rw (h, k) (and-true (alike x y))

pub start_partner : (x : Item) (ys : Content) → half x ≡ 1 → partner_P x ys ≡ true → Empties (map pm ys) (key_of x ∷ [])
start_partner x ys h e = partner_empties 1 2 one_two P-half start_end x ys h e

pub partner_start : (x : Item) (ys : Content) → half x ≡ 1 → Empties (map pm ys) (key_of x ∷ []) → partner_P x ys ≡ true
partner_start x ys h e = empties_partner 1 2 one_two P-half start_end x ys h e

end_partner : (x : Item) (ys : Content) → half x ≡ 2 → partner_P x ys ≡ true → Empties (map (toward 2) ys) (key_of x ∷ [])
end_partner x ys h e = partner_empties 2 1 two_one (λ y p. swap (P-half y p)) end_start x ys h e

partner_end : (x : Item) (ys : Content) → half x ≡ 2 → Empties (map (toward 2) ys) (key_of x ∷ []) → partner_P x ys ≡ true
partner_end x ys h e = empties_partner 2 1 two_one (λ y p. swap (P-half y p)) end_start x ys h e

-- a start looks ahead, an end back
has_partner : (before : Content) (x : Item) (after : Content) → is_form_P x ≡ true → not (lone_P before x after) ≡ true → partner_P x (ahead x before after) ≡ true
unfolding lone_P
has_partner before x after p e = by (partner_P x (ahead x before after)) (some_half (P-half x p)) (rw p at e)
  where
    some_half : (half x ≡ 1) ⊎ (half x ≡ 2) → is_half x ≡ true
    some_half (inl h) = rw h
    some_half (inr h) = rw h

    by : (b : Bool) → is_half x ≡ true → not (is_half x && not b) ≡ true → b ≡ true
    by true h k = refl
    by false h k = absurd (false≢true (rw h at k))

looks_ahead : (before : Content) (x : Item) (after : Content) → half x ≡ 1 → ahead x before after ≡ after
unfolding ahead
looks_ahead before x after h = rw h

looks_back : (before : Content) (x : Item) (after : Content) → half x ≡ 2 → ahead x before after ≡ before
unfolding ahead
looks_back before x after h = rw h

starts_from : (before xs : Content) → clear lone_P before xs ≡ true → Starts (map pm xs)
unfolding clear
starts_from before [] e = tt
starts_from before (x ∷ xs) e = by (is_form_P x) refl (starts_from (x ∷ before) xs (and_right (not (lone_P before x xs)) _ e))
  where
    half_by : is_form_P x ≡ true → (half x ≡ 1) ⊎ (half x ≡ 2) → Starts (map pm xs) → Starts (cond (eqb (half x) 1) (opn (key_of x)) (cls (key_of x)) ∷ map pm xs)
    half_by p (inl h) r =
        rw h (start_partner x xs h (ap (partner_P x) (sym (looks_ahead before x xs h)) ∙ has_partner before x xs p (and_left _ _ e)), r)
    half_by p (inr h) r = rw h r

    by : (b : Bool) → is_form_P x ≡ b → Starts (map pm xs) → Starts (cond b (cond (eqb (half x) 1) (opn (key_of x)) (cls (key_of x))) skip ∷ map pm xs)
    by true p r = half_by p (P-half x p) r
    by false p r = r

ends_from : (before xs : Content) → Starts (map (toward 2) before) → clear lone_P before xs ≡ true → Starts (map (toward 2) (reverse_aux xs before))
unfolding clear
ends_from before [] s e = s
ends_from before (x ∷ xs) s e = ends_from (x ∷ before) xs (by (is_form_P x) refl) (and_right (not (lone_P before x xs)) _ e)
  where
    half_by : is_form_P x ≡ true → (half x ≡ 1) ⊎ (half x ≡ 2) → Starts (cond (eqb (half x) 2) (opn (key_of x)) (cls (key_of x)) ∷ map (toward 2) before)
    half_by p (inl h) = rw h s
    half_by p (inr h) =
        rw h (end_partner x before h (ap (partner_P x) (sym (looks_back before x xs h)) ∙ has_partner before x xs p (and_left _ _ e)), s)

    by : (b : Bool) → is_form_P x ≡ b → Starts (cond b (cond (eqb (half x) 2) (opn (key_of x)) (cls (key_of x))) skip ∷ map (toward 2) before)
    by true p = half_by p (P-half x p)
    by false p = s

flips : (xs before : Content) → map (toward 2) (reverse_aux xs before) ≡ reverse_aux (map flip (map pm xs)) (map (toward 2) before)
flips [] before = refl
flips (x ∷ xs) before = flips xs (x ∷ before) ∙ ap (λ (m : PM). reverse_aux (map flip (map pm xs)) (m ∷ map (toward 2) before)) (sym (flip_toward x))

abbrev pub Balanced : Content → Type 0
Balanced xs = Bal (map pm xs)

pub clear_balanced : (xs : Content) → clear lone_P [] xs ≡ true → Balanced xs
clear_balanced xs e = balanced_from (map pm xs) (starts_from [] xs e) (subst Starts (flips xs []) (ends_from [] xs tt e))

-- and back: at each place the stack after what is before is the stack before what comes
not_lone : (before : Content) (x : Item) (after : Content) → partner_P x (ahead x before after) ≡ true → not (lone_P before x after) ≡ true
unfolding lone_P
not_lone before x after e = rw e (by (is_half x) (is_form_P x))
  where
    by : (a b : Bool) → not (a && (b && false)) ≡ true
    by true true = refl
    by true false = refl
    by false b = refl

not_P : (before : Content) (x : Item) (after : Content) → is_form_P x ≡ false → not (lone_P before x after) ≡ true
unfolding lone_P
not_P before x after e = rw e (by (is_half x))
  where
    by : (a : Bool) → not (a && false) ≡ true
    by true = refl
    by false = refl

balanced_at : (before xs : Content) (t : List Key) → Run (map (toward 2) before) t [] → Run (map pm xs) t [] → clear lone_P before xs ≡ true
unfolding clear
balanced_at before [] t p q = refl
balanced_at before (x ∷ xs) t p q = by (is_form_P x) refl q (λ s. balanced_at (x ∷ before) xs s)
  where
    IH : Type 0
    IH = (s : List Key) → Run (map (toward 2) (x ∷ before)) s [] → Run (map pm xs) s [] → clear lone_P (x ∷ before) xs ≡ true

    Goal : Type 0
    Goal = not (lone_P before x xs) && clear lone_P (x ∷ before) xs ≡ true

    toward_is : (b : Bool) → is_form_P x ≡ b → toward 2 x ≡ cond b (cond (eqb (half x) 2) (opn (key_of x)) (cls (key_of x))) skip
    toward_is b e = rw e

    opens : is_form_P x ≡ true → half x ≡ 1 → {u : List Key} → Run (map (toward 2) before) u [] → Run (opn (key_of x) ∷ map pm xs) u [] → IH → Goal
    opens e h {u} p (r_opn r) ih =
        and_both _ _ (not_lone before x xs (ap (partner_P x) (looks_ahead before x xs h) ∙ partner_start x xs h (Run-empties (map pm xs) (key_of x ∷ []) u r)))
        (ih (key_of x ∷ u) (subst (λ (m : PM). Run (m ∷ map (toward 2) before) (key_of x ∷ u) []) (sym (toward_is true e ∙ rw h)) (r_cls p)) r)

    closes : is_form_P x ≡ true → half x ≡ 2 → {u : List Key} → Run (map (toward 2) before) u [] → Run (cls (key_of x) ∷ map pm xs) u [] → IH → Goal
    closes e h p (r_cls {s = u} r) ih =
        and_both _ _ (not_lone before x xs (ap (partner_P x) (looks_back before x xs h) ∙ partner_end x before h (Run-empties (map (toward 2) before) (key_of x ∷ []) u p)))
        (ih u (subst (λ (m : PM). Run (m ∷ map (toward 2) before) u []) (sym (toward_is true e ∙ rw h)) (r_opn p)) r)

    skips : is_form_P x ≡ false → {u : List Key} → Run (map (toward 2) before) u [] → Run (skip ∷ map pm xs) u [] → IH → Goal
    skips e {u} p (r_skip r) ih =
        and_both _ _ (not_P before x xs e) (ih u (subst (λ (m : PM). Run (m ∷ map (toward 2) before) u []) (sym (toward_is false e)) (r_skip p)) r)

    half_by : is_form_P x ≡ true → (half x ≡ 1) ⊎ (half x ≡ 2) → Run (cond (eqb (half x) 1) (opn (key_of x)) (cls (key_of x)) ∷ map pm xs) t [] → IH → Goal
    half_by e (inl h) r ih = opens e h p (rw h at r) ih
    half_by e (inr h) r ih = closes e h p (rw h at r) ih

    by : (b : Bool) → is_form_P x ≡ b → Run (cond b (cond (eqb (half x) 1) (opn (key_of x)) (cls (key_of x))) skip ∷ map pm xs) t [] → IH → Goal
    by true e r ih = half_by e (P-half x e) r ih
    by false e r ih = skips e p r ih

pub balanced_clear : (xs : Content) → Balanced xs → clear lone_P [] xs ≡ true
balanced_clear xs b = balanced_at [] xs [] r_nil b
