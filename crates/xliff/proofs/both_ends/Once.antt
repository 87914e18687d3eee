-- In a valid table a code or half of a pair stands once at most in the target sequence: a start by rule 6, an end by
-- the shapes of rule 7.
use Prim.Native.Nat.{ℕ, zero, suc, ◌+◌, ◌≤◌}
use native.Mathlib.Omega.{arith}
use mathlib.Core.Path.{◌≡◌, refl, sym, ap, ◌∙◌}
use mathlib.Core.Bool.{Bool, true, false, ◌&&◌, ◌||◌, cond, false≢true}
use mathlib.Core.List.Memᴰ
use mathlib.Core.List.{List, [], ◌∷◌, ◌++◌, Memᴰ}
use mathlib.Core.Logic.{◌⊎◌, inl, inr}
use lib.Dec.{eqb}
use lib.ListN.{length, get_or}
use borrow.Author.Tests.{eqb-true, eq-eqb, ne_eqb}
use Rattle.xliff.specs.Bytes.{'C', 'E', 'H', 'I', 'M', 'N', 'O', 'P', 'S', equal, among, keep, gather}
use Rattle.xliff.specs.Item.{Item, Content, Half, start, end, form_P, form_S, text, character, standalone, isolated, pair, annotation_start, annotation_end, mark, code_numbers, numbers, same, flat, flattened, class, id_of, half, fields, is_inline_code, is_half, is_start, is_start_half, is_end_half, is_form_P, non_removable}
use Rattle.xliff.specs.Unit.{Part, target_sequence}
use Rattle.xliff.specs.Rules.{starts_id, half_of_id}
use Rattle.xliff.specs.BothEnds.{times}
use Rattle.xliff.proofs.lists.Sum.{bit, sum, sum_le}
use Rattle.xliff.proofs.lists.Tests.{equal_true, equal_refl}
use Rattle.xliff.proofs.rules.Flat.{class_flat, id_flat, half_flat}
use Rattle.xliff.proofs.rules.Marks.{Mk, mk, marks, Shape, sh_none, sh_pair, sh_lone}
use Rattle.xliff.proofs.rules.Six.{start_bit, Rule6}
use Rattle.xliff.proofs.rules.Seven.{Good7, starts_target}

-- an item as a list of numbers, its mark and its fields; and what can be read off it
abbrev list_of : Item → List ℕ
list_of x = mark x ++ numbers x

same_list : (x y : Item) → same x y ≡ true → list_of x ≡ list_of y
unfolding same
same_list x y e = equal_true (list_of x) (list_of y) e

list_same : (x y : Item) → list_of x ≡ list_of y → same x y ≡ true
unfolding same
list_same x y e = ap (λ (l : List ℕ). equal (list_of x) l) (sym e) ∙ equal_refl (list_of x)

-- two letters at the front
abbrev begins : ℕ → ℕ → List ℕ → Bool
begins a b l = eqb (get_or l 0 0) a && eqb (get_or l 1 0) b

abbrev starts_L : List ℕ → Bool
starts_L l = begins 'P' 'O' l || begins 'S' 'C' l || begins 'M' 'O' l || begins 'S' 'M' l

abbrev ends_L : List ℕ → Bool
ends_L l = begins 'P' 'C' l || begins 'E' 'C' l || begins 'M' 'C' l || begins 'E' 'M' l

unfoldable class_L : List ℕ → ℕ
class_L l =
    cond (begins 'P' 'H' l) 1
    (cond (begins 'P' 'O' l || begins 'P' 'C' l || begins 'S' 'C' l || begins 'E' 'C' l) 2
    (cond (begins 'I' 'S' l) 3 (cond (begins 'I' 'E' l) 4
    (cond (begins 'M' 'O' l || begins 'S' 'M' l || begins 'M' 'C' l || begins 'E' 'M' l) 5 0))))

unfoldable half_L : List ℕ → ℕ
half_L l = cond (starts_L l) 1 (cond (ends_L l) 2 0)

unfoldable id_L : List ℕ → ℕ
id_L l = cond (eqb (class_L l) 0) 0 (get_or l 2 0)

unfoldable removable_L : List ℕ → Bool
removable_L l = among (class_L l) (1 ∷ 2 ∷ 3 ∷ 4 ∷ []) && eqb (get_or l 6 0) 'N'

class_of : (x : Item) → class_L (list_of x) ≡ class x
unfolding class_L mark numbers class code_numbers
class_of (text c) = refl
class_of (character c) = refl
class_of (standalone f) = refl
class_of (isolated start f) = refl
class_of (isolated end f) = refl
class_of (pair start form_P f) = refl
class_of (pair start form_S f) = refl
class_of (pair end form_P f) = refl
class_of (pair end form_S f) = refl
class_of (annotation_start form_P i t) = refl
class_of (annotation_start form_S i t) = refl
class_of (annotation_end form_P i) = refl
class_of (annotation_end form_S i) = refl

half_of : (x : Item) → half_L (list_of x) ≡ half x
unfolding half_L mark numbers half code_numbers
half_of (text c) = refl
half_of (character c) = refl
half_of (standalone f) = refl
half_of (isolated start f) = refl
half_of (isolated end f) = refl
half_of (pair start form_P f) = refl
half_of (pair start form_S f) = refl
half_of (pair end form_P f) = refl
half_of (pair end form_S f) = refl
half_of (annotation_start form_P i t) = refl
half_of (annotation_start form_S i t) = refl
half_of (annotation_end form_P i) = refl
half_of (annotation_end form_S i) = refl

id_is : (x : Item) → id_L (list_of x) ≡ id_of x
unfolding id_L class_L mark numbers id_of code_numbers
id_is (text c) = refl
id_is (character c) = refl
id_is (standalone f) = refl
id_is (isolated start f) = refl
id_is (isolated end f) = refl
id_is (pair start form_P f) = refl
id_is (pair start form_S f) = refl
id_is (pair end form_P f) = refl
id_is (pair end form_S f) = refl
id_is (annotation_start form_P i t) = refl
id_is (annotation_start form_S i t) = refl
id_is (annotation_end form_P i) = refl
id_is (annotation_end form_S i) = refl

removable_is : (x : Item) → removable_L (list_of x) ≡ non_removable x
unfolding removable_L class_L mark numbers non_removable class fields code_numbers among
removable_is (text c) = refl
removable_is (character c) = refl
removable_is (standalone f) = refl
removable_is (isolated start f) = refl
removable_is (isolated end f) = refl
removable_is (pair start form_P f) = refl
removable_is (pair start form_S f) = refl
removable_is (pair end form_P f) = refl
removable_is (pair end form_S f) = refl
removable_is (annotation_start form_P i t) = refl
removable_is (annotation_start form_S i t) = refl
removable_is (annotation_end form_P i) = refl
removable_is (annotation_end form_S i) = refl

-- equal items have equal views
module _ (x y : Item) (e : same x y ≡ true) where
  pub equal_class : class x ≡ class y
  equal_class = sym (class_of x) ∙ ap class_L (same_list x y e) ∙ class_of y

  pub equal_half : half x ≡ half y
  equal_half = sym (half_of x) ∙ ap half_L (same_list x y e) ∙ half_of y

  pub equal_id : id_of x ≡ id_of y
  equal_id = sym (id_is x) ∙ ap id_L (same_list x y e) ∙ id_is y

  pub equal_removable : non_removable x ≡ non_removable y
  equal_removable = sym (removable_is x) ∙ ap removable_L (same_list x y e) ∙ removable_is y

pub equal_trans : (x y z : Item) → same x y ≡ true → same y z ≡ true → same x z ≡ true
equal_trans x y z e f = list_same x z (same_list x y e ∙ same_list y z f)

pub equal_self : (x : Item) → same x x ≡ true
equal_self x = list_same x x refl

-- how many times, as a sum
abbrev pub copies : Item → Content → ℕ
copies x ys = sum (λ y. bit (same x y)) ys

pub times_copies : (x : Item) (ys : Content) → times x ys ≡ copies x ys
unfolding times keep
times_copies x [] = refl
times_copies x (y ∷ ys) = by (same x y) (times_copies x ys)
  where
    by : (b : Bool) → length (keep (same x) ys) ≡ copies x ys → length (cond b (y ∷ keep (same x) ys) (keep (same x) ys)) ≡ bit b + copies x ys
    by true h = omega arith
    by false h = omega arith

pub copies_flat : (x : Item) (ys : Content) → copies x (flattened ys) ≡ sum (λ y. bit (same x (flat y))) ys
unfolding flattened
copies_flat x [] = refl
copies_flat x (y ∷ ys) = let h = copies_flat x ys in omega arith

bit_most : (a b : Bool) → (a ≡ true → b ≡ true) → bit a ≤ bit b
bit_most true b h = rw (h refl) (omega arith)
bit_most false b h = omega arith

-- a start
start_copies : (x : Item) → is_start x ≡ true → (y : Item) → bit (same x (flat y)) ≤ start_bit (id_of x) y
unfolding starts_id
start_copies x s y = bit_most (same x (flat y)) _ found
  where
    found : same x (flat y) ≡ true → is_start y && eqb (id_of y) (id_of x) ≡ true
    found e =
        let c : class y ≡ class x = sym (class_flat y) ∙ sym (equal_class x (flat y) e) in
        let h : half y ≡ half x = sym (half_flat y) ∙ sym (equal_half x (flat y) e) in
        let i : id_of y ≡ id_of x = sym (id_flat y) ∙ sym (equal_id x (flat y) e) in
        rw (c, h, s, eq-eqb (id_of y) (id_of x) i)

-- an end
abbrev end_bit : ℕ → Item → ℕ
end_bit i y = bit (half_of_id i y && is_end_half y)

abbrev is_close : Mk → ℕ
is_close (mk c w start) = 0
is_close (mk c w end) = 1

abbrev closes : List Mk → ℕ
closes [] = 0
closes (m ∷ l) = is_close m + closes l

shape_closes : {e : ℕ → Half → Bool} {l : List Mk} → Shape e l → closes l ≤ 1
shape_closes sh_none = omega arith
shape_closes (sh_pair c w) = omega arith
shape_closes (sh_lone c start h) = omega arith
shape_closes (sh_lone c end h) = omega arith

ends_marks : (i : ℕ) (ys : Content) → sum (end_bit i) ys ≤ closes (marks i ys)
unfolding marks gather
ends_marks i [] = omega arith
ends_marks i (y ∷ ys) = by (half_of_id i y) (is_end_half y) refl (is_start_half y) refl (ends_marks i ys)
  where
    clash : is_end_half y ≡ true → is_start_half y ≡ true → ⊥
    clash e s = let a = eqb-true (half y) 2 e in let b = eqb-true (half y) 1 s in let z : ⊥ = omega arith in z

    by : (h e : Bool) → is_end_half y ≡ e → (s : Bool) → is_start_half y ≡ s → sum (end_bit i) ys ≤ closes (marks i ys)
        → bit (h && e) + sum (end_bit i) ys ≤ closes (cond h (mk (class y) (is_form_P y) (cond s start end) ∷ []) [] ++ marks i ys)
    by true true p true q r = absurd (clash p q)
    by true true p false q r = omega arith
    by true false p true q r = omega arith
    by true false p false q r = omega arith
    by false e p s q r = omega arith

end_copies : (x : Item) → is_half x ≡ true → is_end_half x ≡ true → (y : Item) → bit (same x (flat y)) ≤ end_bit (id_of x) y
unfolding half_of_id
end_copies x k s y = bit_most (same x (flat y)) _ found
  where
    found : same x (flat y) ≡ true → is_half y && eqb (id_of y) (id_of x) && is_end_half y ≡ true
    found e =
        let h : half y ≡ half x = sym (half_flat y) ∙ sym (equal_half x (flat y) e) in
        let i : id_of y ≡ id_of x = sym (id_flat y) ∙ sym (equal_id x (flat y) e) in
        rw (h, k, s, eq-eqb (id_of y) (id_of x) i)

-- ONCE AT MOST
pub at_most_once : (ps : List Part) → Rule6 ps → Good7 ps → (x : Item) → is_inline_code x ≡ true → copies x (flattened (target_sequence ps)) ≤ 1
unfolding among
at_most_once ps six seven x c = by (is_end_half x) refl
  where
    coded : (n : ℕ) → among n (1 ∷ 2 ∷ 3 ∷ 4 ∷ []) ≡ true → eqb n 0 ≡ false
    coded zero e = absurd (false≢true e)
    coded (suc n) e = ne_eqb (suc n) 0 (λ z. omega arith)

    some_half : half x ≡ 2 → is_half x ≡ true
    some_half e = rw e

    by : (b : Bool) → is_end_half x ≡ b → copies x (flattened (target_sequence ps)) ≤ 1
    by true e =
        let a = copies_flat x (target_sequence ps) in
        let b = sum_le (λ y. bit (same x (flat y))) (end_bit (id_of x)) (end_copies x (some_half (eqb-true (half x) 2 e)) e) (target_sequence ps) in
        let d = ends_marks (id_of x) (target_sequence ps) in
        let f = shape_closes (seven.target_side (id_of x)) in
        omega arith
    by false e =
        let s : is_start x ≡ true = rw (coded (class x) c, e) in
        let a = copies_flat x (target_sequence ps) in
        let b = sum_le (λ y. bit (same x (flat y))) (start_bit (id_of x)) (start_copies x s) (target_sequence ps) in
        let d = starts_target (id_of x) ps in
        let f = six.target_side (id_of x) in
        omega arith

-- once at least: it is there
pub mem_copies : (x : Item) (ys : Content) → Memᴰ x ys → 1 ≤ copies x ys
mem_copies x [] m = absurd (Memᴰ.not-nil m)
mem_copies x (y ∷ ys) m = by (Memᴰ.cases_cons m) (mem_copies x ys)
  where
    by : (x ≡ y) ⊎ Memᴰ x ys → (Memᴰ x ys → 1 ≤ copies x ys) → 1 ≤ bit (same x y) + copies x ys
    by (inl e) ih = let z : bit (same x y) ≡ 1 = ap (λ (w : Item). bit (same x w)) (sym e) ∙ rw (equal_self x) in omega arith
    by (inr k) ih = let z = ih k in omega arith
