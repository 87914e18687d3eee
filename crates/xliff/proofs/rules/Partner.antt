-- Where 6 and 7 are met, beside a half there is one other half of its id at most, and that is its partner: of the same
-- class and form, on the other side. So the rules 8, 9, 10 and rewrite may take "the other half of its class and id,
-- the nearest" for the partner (OPEN-POINTS 11).
use Prim.Native.Nat.{ℕ}
use native.Mathlib.Omega.{arith}
use mathlib.Core.Path.{◌≡◌, refl, sym, ap, ap₂, ◌∙◌, subst}
use mathlib.Core.Bool.{Bool, true}
use mathlib.Core.List.{List, [], ◌∷◌, ◌++◌, reverse_aux}
use mathlib.Core.Option.{some}
use lib.ListN.{length}
use Rattle.xliff.specs.Item.{Item, Content, Half, start, end, class, id_of, is_half, is_form_P, other_half}
use Rattle.xliff.specs.Unit.{Part, source_sequence, target_sequence}
use Rattle.xliff.specs.Rules.{half_of_id, nearest}
use Rattle.xliff.proofs.rules.Marks.{a_pair, Mk, mk, side, mark_of, marks, marks_cons, marks_rev, Shape, opposite, short, rev_length, half_own, mk_of, waits}
use Rattle.xliff.proofs.rules.Seven.{Good7, bare_sequence}
use Rattle.xliff.proofs.operations.Rewrite.{halves, halves_marks, first_mark, nearest_skip, sides_opposite, mark_class, mark_form}

-- the one other half in a list, the nearest of them
pub record Only (i : ℕ) (x : Item) (xs : Content) : Type 0 where
  pub partner : Item
  pub count : halves i xs ≡ 1
  pub other : other_half x partner ≡ true
  pub form : is_form_P x ≡ is_form_P partner
  pub near : nearest (other_half x) xs ≡ some partner

-- a half is alone with its id, or its partner is after it, or before it (`b` is what is before, the nearest first)
pub data Beside (i : ℕ) (b : Content) (x : Item) (a : Content) : Type 0 where
  alone : halves i b ≡ 0 → halves i a ≡ 0 → Beside i b x a
  opens : halves i b ≡ 0 → Only i x a → Beside i b x a
  closes : Only i x b → halves i a ≡ 0 → Beside i b x a

-- a list with one mark, which is that of the other half
only : (i : ℕ) (x : Item) (xs : Content) (m : Mk) → half_of_id i x ≡ true → marks i xs ≡ m ∷ [] → class x ≡ mark_class m → is_form_P x ≡ mark_form m
    → ((y : Item) → mark_of y ≡ m → opposite (side x) (side y) ≡ true) → Only i x xs
unfolding nearest
only i x xs m h e c w o =
    let (b, y, r, at, none_before, hy, is, rest) = first_mark i xs m [] e in
    let both : other_half x y ≡ true = sides_opposite i x y h hy (c ∙ sym (ap mark_class is)) (o y is) in
    record {
      partner = y;
      count = sym (halves_marks i xs) ∙ ap length e;
      other = both;
      form = w ∙ sym (ap mark_form is);
      near = ap (nearest (other_half x)) at ∙ nearest_skip i x b (y ∷ r) h none_before ∙ rw both;
    }

abbrev mark_half : Mk → Half
mark_half (mk c w s) = s

own : (i : ℕ) (x : Item) → half_of_id i x ≡ true → mk_of i x ≡ mark_of x ∷ []
own i x h = rw h

-- marks that differ in their sides
sides : (x y : Item) (c d : ℕ) (v w : Bool) (s t : Half) → mark_of x ≡ mk c v s → mark_of y ≡ mk d w t → opposite s t ≡ true → opposite (side x) (side y) ≡ true
sides x y c d v w s t e f o = ap₂ opposite (ap mark_half e) (ap mark_half f) ∙ o

pub beside : {e : ℕ → Half → Bool} (i : ℕ) (b : Content) (x : Item) (a : Content) → Shape e (marks i (reverse_aux b (x ∷ a))) → half_of_id i x ≡ true → Beside i b x a
beside {e} i b x a s h =
    by (marks i b) (marks i a) refl refl (subst (Shape e) (marks_rev i b (x ∷ a) ∙ ap (reverse_aux (marks i b)) (marks_cons i x a ∙ ap (λ (l : List Mk). l ++ marks i a) (own i x h))) s)
  where
    by : (l m : List Mk) → marks i b ≡ l → marks i a ≡ m → Shape e (reverse_aux l (mark_of x ∷ m)) → Beside i b x a
    by [] [] p q k = alone (sym (halves_marks i b) ∙ ap length p) (sym (halves_marks i a) ∙ ap length q)
    by [] (n ∷ m) p q k =
        let (c, w, u, v, no_more) = a_pair k in
        opens (sym (halves_marks i b) ∙ ap length p)
        (only i x a n h (q ∙ ap (λ (l : List Mk). n ∷ l) no_more) (ap mark_class u ∙ sym (ap mark_class v)) (ap mark_form u ∙ sym (ap mark_form v))
        (λ y f. sides x y c c w w start end u (f ∙ v) refl))
    by (n ∷ []) [] p q k =
        let (c, w, u, v, no_more) = a_pair k in
        closes
        (only i x b n h p (ap mark_class v ∙ sym (ap mark_class u)) (ap mark_form v ∙ sym (ap mark_form u)) (λ y f. sides x y c c w w end start v (f ∙ u) refl))
        (sym (halves_marks i a) ∙ ap length q)
    by (n ∷ []) (o ∷ m) p q k = absurd (let z : ⊥ = omega (arith, short k) in z)
    by (n ∷ o ∷ l) m p q k = absurd (let z : ⊥ = omega (arith, short k, rev_length l (o ∷ n ∷ mark_of x ∷ m)) in z)

-- in a unit that meets 6 and 7
pub source_partner : (ps : List Part) → Good7 ps → (b : Content) (x : Item) (a : Content) → source_sequence ps ≡ reverse_aux b (x ∷ a) → is_half x ≡ true → Beside (id_of x) b x a
source_partner ps g b x a e h = beside (id_of x) b x a (subst (λ (l : Content). Shape (waits [] (id_of x)) (marks (id_of x) l)) e (g.source_side (id_of x))) (half_own x h)

pub target_partner : (ps : List Part) → Good7 ps → (b : Content) (x : Item) (a : Content) → target_sequence ps ≡ reverse_aux b (x ∷ a) → is_half x ≡ true → Beside (id_of x) b x a
target_partner ps g b x a e h = beside (id_of x) b x a (subst (λ (l : Content). Shape (waits (bare_sequence ps) (id_of x)) (marks (id_of x) l)) e (g.target_side (id_of x))) (half_own x h)
