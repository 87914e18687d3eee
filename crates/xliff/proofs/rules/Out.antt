-- A stretch taken out of a sequence: 8 and 10 are kept (8 where no end has two starts, which is rule 6).
use Prim.Native.Nat.{ℕ, ◌+◌, ◌≤◌}
use native.Mathlib.Omega.{arith}
use mathlib.Core.Path.{◌≡◌, refl, sym, ap, subst}
use mathlib.Core.Bool.{Bool, true, false, not, ◌&&◌, ◌||◌, cond}
use mathlib.Core.List.{[], ◌∷◌, ◌++◌, reverse_aux}
use mathlib.Core.Logic.{◌⊎◌, inl, inr}
use mathlib.Core.Option.{Option, none, some}
use lib.Dec.{eqb}
use borrow.Author.Tests.{eqb-true, eq-eqb, not-true}
use Rattle.xliff.specs.Item.{Item, Content, half, class, id_of, is_pair, is_start, is_start_half, is_end_half, alike, other_half}
use Rattle.xliff.specs.Rules.{starts_id, nearest, ill_ended, fixed_but_free, bad_8_target, bad_10_target, unlike_source, bad_copy}
use Rattle.xliff.proofs.lists.Sum.{bit, bit_small, sum, sum_append}
use Rattle.xliff.proofs.lists.Tests.{and_left, and_right, or_right, and_both, rev_append}
use Rattle.xliff.proofs.rules.Sequences.{clear, clear_drop}
use Rattle.xliff.proofs.rules.Six.{start_bit, starts}
use Rattle.xliff.proofs.rules.Seven.{start_half_start}

-- tests of an item alone
module _ (t : Item → Bool) where
  abbrev alone : Content → Item → Content → Bool
  alone before x after = t x

  pub out_alone : (b b' A c B : Content) → clear alone b (A ++ (c ++ B)) ≡ true → clear alone b' (A ++ B) ≡ true
  unfolding clear
  out_alone b b' [] [] [] e = refl
  out_alone b b' [] [] (x ∷ B) e =
      and_both (not (t x)) (clear alone (x ∷ b') B) (and_left (not (t x)) (clear alone (x ∷ b) B) e)
      (out_alone (x ∷ b) (x ∷ b') [] [] B (and_right (not (t x)) _ e))
  out_alone b b' [] (y ∷ c) B e = out_alone (y ∷ b) b' [] c B (and_right (not (t y)) _ e)
  out_alone b b' (x ∷ A) c B e =
      and_both (not (t x)) (clear alone (x ∷ b') (A ++ B)) (and_left (not (t x)) (clear alone (x ∷ b) (A ++ (c ++ B))) e)
      (out_alone (x ∷ b) (x ∷ b') A c B (and_right (not (t x)) _ e))

pub out_10 : (sources A c B : Content) → clear (bad_10_target sources) [] (A ++ (c ++ B)) ≡ true → clear (bad_10_target sources) [] (A ++ B) ≡ true
unfolding bad_10_target
out_10 sources A c B e = out_alone (λ x. unlike_source sources x || bad_copy sources x) [] [] A c B e

-- how many items are the other half of x
abbrev others : Item → Content → ℕ
others x l = sum (λ y. bit (other_half x y)) l

-- of an end they are starts of its id
other_start : (x : Item) → is_end_half x ≡ true → (y : Item) → bit (other_half x y) ≤ start_bit (id_of x) y
unfolding other_half alike starts_id
other_start x e y = by (is_start_half x) refl (is_start_half y) refl (eqb (class x) (class y)) (eqb (id_of x) (id_of y)) refl
  where
    not_both : is_start_half x ≡ true → ⊥
    not_both s = let a = eqb-true (half x) 1 s in let b = eqb-true (half x) 2 e in let z : ⊥ = omega arith in z

    no : (a b : Bool) → a && b && (false || false) ≡ false
    no true true = refl
    no true false = refl
    no false b = refl

    by : (s : Bool) → is_start_half x ≡ s → (t : Bool) → is_start_half y ≡ t → (c i : Bool) → eqb (id_of x) (id_of y) ≡ i
        → bit (c && i && (s && is_end_half y || is_end_half x && t)) ≤ bit (is_start y && eqb (id_of y) (id_of x))
    by true s t q c i k = absurd (not_both s)
    by false s true q c true k =
        rw (start_half_start y q, eq-eqb (id_of y) (id_of x) (sym (eqb-true (id_of x) (id_of y) k)))
        (bit_small (c && true && (is_end_half x && true)))
    by false s true q true false k = omega arith
    by false s true q false false k = omega arith
    by false s false q c i k = rw e (rw (no c i) (omega arith))

pub others_starts : (x : Item) → is_end_half x ≡ true → (l : Content) → others x l ≤ starts (id_of x) l
others_starts x e [] = omega arith
others_starts x e (y ∷ l) = let a = other_start x e y in let b = others_starts x e l in omega arith

-- the nearest one, when there is one at most
near_none : (p : Item → Bool) (l : Content) → sum (λ y. bit (p y)) l ≡ 0 → nearest p l ≡ none
unfolding nearest
near_none p [] e = refl
near_none p (y ∷ l) e = by (p y) refl (near_none p l)
  where
    by : (b : Bool) → p y ≡ b → (sum (λ z. bit (p z)) l ≡ 0 → nearest p l ≡ none) → cond b (some y) (nearest p l) ≡ none
    by true q ih = let z : bit (p y) ≡ 1 = rw q in absurd (let w : ⊥ = omega arith in w)
    by false q ih = ih (let z : bit (p y) ≡ 0 = rw q in omega arith)

near_out : (p : Item → Bool) (pre c b : Content) → sum (λ y. bit (p y)) (pre ++ (c ++ b)) ≤ 1 → (nearest p (pre ++ b) ≡ nearest p (pre ++ (c ++ b))) ⊎ (nearest p (pre ++ b) ≡ none)
unfolding nearest
near_out p [] [] b e = inl refl
near_out p [] (y ∷ c) b e = by (p y) refl (near_out p [] c b)
  where
    by : (t : Bool) → p y ≡ t → (sum (λ y. bit (p y)) (c ++ b) ≤ 1 → (nearest p b ≡ nearest p (c ++ b)) ⊎ (nearest p b ≡ none))
        → (nearest p b ≡ cond t (some y) (nearest p (c ++ b))) ⊎ (nearest p b ≡ none)
    by true q ih = inr (near_none p b (let z : bit (p y) ≡ 1 = rw q in let s = sum_append (λ (z : Item). bit (p z)) c b in omega arith))
    by false q ih = ih (let z : bit (p y) ≡ 0 = rw q in omega arith)
near_out p (y ∷ pre) c b e = by (p y) refl (near_out p pre c b)
  where
    by : (t : Bool) → p y ≡ t → (sum (λ y. bit (p y)) (pre ++ (c ++ b)) ≤ 1 → (nearest p (pre ++ b) ≡ nearest p (pre ++ (c ++ b))) ⊎ (nearest p (pre ++ b) ≡ none))
        → (cond t (some y) (nearest p (pre ++ b)) ≡ cond t (some y) (nearest p (pre ++ (c ++ b)))) ⊎ (cond t (some y) (nearest p (pre ++ b)) ≡ none)
    by true q ih = inl refl
    by false q ih = ih (let z : bit (p y) ≡ 0 = rw q in omega arith)

out_at : (x : Item) (pre c b after : Content) → (is_end_half x ≡ true → others x (pre ++ (c ++ b)) ≤ 1) → bad_8_target (pre ++ (c ++ b)) x after ≡ false → bad_8_target (pre ++ b) x after ≡ false
unfolding bad_8_target ill_ended
out_at x pre c b after h e = by (is_end_half x) refl e
  where
    still : (p : Bool) (f : Bool) (o : Option Item) → p && true && ill_ended x o || f ≡ false → p && true && false || f ≡ false
    still true f o k = or_right (ill_ended x o) f k
    still false f o k = k

    pick : (nearest (other_half x) (pre ++ b) ≡ nearest (other_half x) (pre ++ (c ++ b))) ⊎ (nearest (other_half x) (pre ++ b) ≡ none)
        → is_pair x && true && ill_ended x (nearest (other_half x) (pre ++ (c ++ b))) || fixed_but_free x ≡ false
        → is_pair x && true && ill_ended x (nearest (other_half x) (pre ++ b)) || fixed_but_free x ≡ false
    pick (inl q) k = rw q k
    pick (inr q) k = rw q (still (is_pair x) (fixed_but_free x) (nearest (other_half x) (pre ++ (c ++ b))) k)

    no : (p : Bool) (i j f : Bool) → p && false && i || f ≡ false → p && false && j || f ≡ false
    no true i j f k = k
    no false i j f k = k

    by : (t : Bool) → is_end_half x ≡ t → is_pair x && t && ill_ended x (nearest (other_half x) (pre ++ (c ++ b))) || fixed_but_free x ≡ false
        → is_pair x && t && ill_ended x (nearest (other_half x) (pre ++ b)) || fixed_but_free x ≡ false
    by true t k = pick (near_out (other_half x) pre c b (h t)) k
    by false t k = no (is_pair x) _ _ (fixed_but_free x) k

out_rest : (pre c b B : Content) → ((x : Item) → is_end_half x ≡ true → others x (pre ++ (c ++ b)) + others x B ≤ 1)
    → clear bad_8_target (pre ++ (c ++ b)) B ≡ true → clear bad_8_target (pre ++ b) B ≡ true
unfolding clear
out_rest pre c b [] h e = refl
out_rest pre c b (x ∷ B) h e =
    and_both _ _ (ap not (out_at x pre c b B (λ k. let z = h x k in omega arith) (not-true _ (and_left _ _ e))))
    (out_rest (x ∷ pre) c b B (λ y k. let z = h y k in omega arith) (and_right (not (bad_8_target (pre ++ (c ++ b)) x B)) _ e))

others_rev : (x : Item) (c b : Content) → others x (reverse_aux c b) ≡ others x c + others x b
others_rev x [] b = omega arith
others_rev x (y ∷ c) b = let h = others_rev x c (y ∷ b) in omega arith

out_from : (b A c B : Content) → ((x : Item) → is_end_half x ≡ true → others x b + others x (A ++ (c ++ B)) ≤ 1)
    → clear bad_8_target b (A ++ (c ++ B)) ≡ true → clear bad_8_target b (A ++ B) ≡ true
unfolding clear bad_8_target
out_from b [] c B h e =
    out_rest [] (reverse_aux c []) b B
    (λ x k. let z = h x k in let s = sum_append (λ (y : Item). bit (other_half x y)) c B in let t = sum_append (λ (y : Item). bit (other_half x y)) (reverse_aux c []) b in
    let r = others_rev x c [] in omega arith)
    (subst (λ (l : Content). clear bad_8_target l B ≡ true) (rev_append c b) (clear_drop bad_8_target b c B e))
out_from b (x ∷ A) c B h e =
    and_both (not (bad_8_target b x (A ++ B))) (clear bad_8_target (x ∷ b) (A ++ B)) (and_left (not (bad_8_target b x (A ++ (c ++ B)))) (clear bad_8_target (x ∷ b) (A ++ (c ++ B))) e)
    (out_from (x ∷ b) A c B (λ y k. let z = h y k in omega arith) (and_right (not (bad_8_target b x (A ++ (c ++ B)))) _ e))

pub out_8 : (A c B : Content) → ((i : ℕ) → starts i (A ++ (c ++ B)) ≤ 1) → clear bad_8_target [] (A ++ (c ++ B)) ≡ true → clear bad_8_target [] (A ++ B) ≡ true
out_8 A c B h e = out_from [] A c B (λ x k. let a = others_starts x k (A ++ (c ++ B)) in let b = h (id_of x) in omega arith) e
