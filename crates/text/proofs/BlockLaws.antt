-- Texts passed in blocks, by a test of each byte with those behind it; and one plain character.
use Prim.Native.Nat.{ℕ, zero, suc, ◌+◌, ◌-◌, ◌*◌, ◌%◌, ◌≤◌, ◌<◌}
use mathlib.Core.Path.{◌≡◌, refl, sym, ◌∙◌, ap}
use mathlib.Core.Bool.{Bool, true, false, ◌&&◌, true≢false, and-true, and_assoc}
use mathlib.Core.List.{List, [], ◌∷◌}
use native.Mathlib.Omega.{arith}
use borrow.Author.Tests.{leb-true, leb-false, eqb-false, lt-ltb, le-ltb, le-leb, ne_eqb}
use lib.ListN.{length, drop, get_or, length-drop}
use lib.Seq.{drop-drop, get_or-drop}
use lib.Dec.{leb, eqb}
use Rattle.xliff.specs.Text.{is_accent}
use Rattle.text.specs.Utf8.{trail, two_of, char_of, text_ok}
use Rattle.text.specs.Blocks.{alike, nowhere, all_fit}
use Rattle.xliff.proofs.lists.Tests.{and_left, and_right, or_left, or_right}
use borrow.Table.Steps.{cases}
use Rattle.text.proofs.Laws.{second_false}
use Rattle.text.proofs.Utf8Laws.{text_step}

-- A test `f` of a list's head passes characters: `Owed j l` says that `l` begins with the last `j` bytes of a character that
-- began before it, and `ahead l` counts them.
pub record Passes (f : List ℕ → Bool) (Owed : ℕ → List ℕ → Type 0) (ahead : List ℕ → ℕ) : Type 0 where
  pub begins : (c : ℕ) (l : List ℕ) → Owed 0 (c ∷ l) → f (c ∷ l) ≡ true → (j : ℕ) × Owed j l × (text_ok (c ∷ l) ≡ text_ok (drop j l))
  pub goes_on : (j c : ℕ) (l : List ℕ) → Owed (suc j) (c ∷ l) → f (c ∷ l) ≡ true → Owed j l
  pub counted : (j : ℕ) (l : List ℕ) → Owed j l → j ≡ ahead l

-- where the characters end whose first k bytes pass the test
run : {f : List ℕ → Bool} {Owed : ℕ → List ℕ → Type 0} {ahead : List ℕ → ℕ} → Passes f Owed ahead
    → (k j : ℕ) (l : List ℕ) → k ≤ length l → all_fit f k l ≡ true → Owed j l
    → text_ok (drop j l) ≡ text_ok (drop (ahead (drop k l)) (drop k l))
unfolding all_fit
run p zero j l n e o = ap (λ (i : ℕ). text_ok (drop i l)) (p.counted j l o)
run p (suc k) j [] n e o = absurd (omega arith)
run {f} p (suc k) zero (c ∷ l) n e o =
    let b = p.begins c l o (and_left (f (c ∷ l)) _ e) in
    b.2 ∙ run p k b.0 l (omega arith) (and_right (f (c ∷ l)) _ e) b.1
run {f} p (suc k) (suc j) (c ∷ l) n e o =
    run p k j l (omega arith) (and_right (f (c ∷ l)) _ e) (p.goes_on j c l o (and_left (f (c ∷ l)) _ e))

-- a block, from the first byte of a character on
pub block_on : {f : List ℕ → Bool} {Owed : ℕ → List ℕ → Type 0} {ahead : List ℕ → ℕ} → Passes f Owed ahead
    → (t : List ℕ) (at k : ℕ) → at + k ≤ length t → all_fit f k (drop at t) ≡ true → Owed 0 (drop at t)
    → text_ok (drop at t) ≡ text_ok (drop (at + k + ahead (drop (at + k) t)) t)
block_on {ahead} p t at k n e o =
    run p k 0 (drop at t) (omega (arith, length-drop at t)) e o
    ∙ ap (λ (l : List ℕ). text_ok (drop (ahead l) l)) (drop-drop k at t)
    ∙ ap text_ok (drop-drop (ahead (drop (at + k) t)) (at + k) t)

-- the loop of a block: its start, one byte further, its end
pub fits_start : (f : List ℕ → Bool) (t : List ℕ) (at n : ℕ) → all_fit f n (drop at t) ≡ all_fit f (n - 0) (drop (at + 0) t)
fits_start f t at n =
    ap (λ (k : ℕ). all_fit f k (drop at t)) (let z : n ≡ n - 0 = omega arith in z)
    ∙ ap (λ (k : ℕ). all_fit f (n - 0) (drop k t)) (let z : at ≡ at + 0 = omega arith in z)

pub fits_on : (f : List ℕ → Bool) (t : List ℕ) (at n i : ℕ) (whole ok r : Bool) → i < n → whole ≡ (ok && all_fit f (n - i) (drop (at + i) t))
    → r ≡ f (drop (at + i) t) → whole ≡ ((ok && r) && all_fit f (n - (i + 1)) (drop (at + (i + 1)) t))
unfolding all_fit
fits_on f t at n i whole ok r l e h =
    e
    ∙ ap (λ (k : ℕ). ok && all_fit f k (drop (at + i) t)) (let z : n - i ≡ suc (n - (i + 1)) = omega arith in z)
    ∙ ap (λ (s : List ℕ). ok && (f (drop (at + i) t) && all_fit f (n - (i + 1)) s))
    (drop-drop 1 (at + i) t ∙ ap (λ (k : ℕ). drop k t) (let z : at + i + 1 ≡ at + (i + 1) = omega arith in z))
    ∙ ap (λ (b : Bool). ok && (b && all_fit f (n - (i + 1)) (drop (at + (i + 1)) t))) (sym h)
    ∙ sym (and_assoc ok r (all_fit f (n - (i + 1)) (drop (at + (i + 1)) t)))

pub fits_end : (f : List ℕ → Bool) (t : List ℕ) (at n i : ℕ) (whole ok : Bool) → n ≤ i → whole ≡ (ok && all_fit f (n - i) (drop (at + i) t))
    → ok ≡ whole
unfolding all_fit
fits_end f t at n i whole ok l e =
    sym (e ∙ ap (λ (k : ℕ). ok && all_fit f k (drop (at + i) t)) (let z : n - i ≡ 0 = omega arith in z) ∙ and-true ok)

-- the byte at the head of what begins at an offset
pub head_is : (n : ℕ) (t : List ℕ) → get_or (drop n t) 0 0 ≡ get_or t n 0
head_is n t = get_or-drop n t 0 0 ∙ ap (λ (k : ℕ). get_or t k 0) (let z : n + 0 ≡ n = omega arith in z)

-- what is alike is the same
pub alike_is : (a b : Bool) → alike a b ≡ true → b ≡ a
alike_is true true e = refl
alike_is true false e = e
alike_is false true e = sym e
alike_is false false e = refl

-- a byte behind a first: its bounds
pub behind_low : (b : ℕ) → trail b ≡ true → 128 ≤ b
behind_low b h = leb-true 128 b (and_left (leb 128 b) _ h)

pub behind_high : (b : ℕ) → trail b ≡ true → b ≤ 191
behind_high b h = leb-true b 191 (and_right (leb 128 b) _ h)

-- the first byte of a character, if it leads no other, is of seven bits
pub plain_byte : (c : ℕ) → nowhere c ≡ false → trail c ≡ false → c < 194 → c < 128
plain_byte c g h l =
    cases (leb 128 c)
    (λ p.
    let past = leb-false c 191 (second_false (leb 128 c) _ p h) in
    let not_192 = eqb-false c 192 (or_left (eqb c 192) _ g) in
    let not_193 = eqb-false c 193 (or_right (eqb c 192) _ g) in
    omega arith)
    (λ p. leb-false 128 c p)

-- one character of one byte, or of two
pub one_more : (c : ℕ) (l : List ℕ) → 32 ≤ c → c < 128 → text_ok (c ∷ l) ≡ text_ok l
unfolding char_of
one_more c l a b =
    text_step (c ∷ l) c 1 {a = is_accent c} (simp (lt-ltb c 128 b, le-leb 1 (suc (length l)) (omega arith)))
    ∙ simp (ne_eqb c 9 (omega arith), ne_eqb c 10 (omega arith), ne_eqb c 13 (omega arith), le-leb 0x20 c a, le-leb c 0xD7FF (omega arith))

pub two_more : (c : ℕ) (l : List ℕ) → 194 ≤ c → c ≤ 223 → trail (get_or l 0 0) ≡ true → text_ok (c ∷ l) ≡ text_ok (drop 1 l)
unfolding char_of two_of
two_more c [] a b h = absurd (true≢false (sym h))
two_more c (d ∷ l) a b h =
    let low = behind_low d h in
    let high = behind_high d h in
    text_step (c ∷ d ∷ l) (c % 32 * 64 + d % 64) 2 {a = is_accent (c % 32 * 64 + d % 64)}
    (simp (le-ltb c 128 (omega arith), le-leb 194 c a, le-leb c 223 b, le-leb 1 (suc (suc (length l))) (omega arith), le-leb 2 (suc (suc (length l))) (omega arith), h))
    ∙ simp (
      ne_eqb (c % 32 * 64 + d % 64) 9 (omega arith),
      ne_eqb (c % 32 * 64 + d % 64) 10 (omega arith),
      ne_eqb (c % 32 * 64 + d % 64) 13 (omega arith),
      le-leb 0x20 (c % 32 * 64 + d % 64) (omega arith),
      le-leb (c % 32 * 64 + d % 64) 0xD7FF (omega arith),
    )

-- a plain character at an offset
pub plain_on : (t : List ℕ) (at : ℕ) → at < length t → (leb 32 (get_or t at 0) && leb (get_or t at 0) 127) ≡ true
    → text_ok (drop at t) ≡ text_ok (drop (at + 1) t)
plain_on t at n h =
    by (drop at t) refl (omega (arith, length-drop at t))
    ∙ ap text_ok (drop-drop 1 at t)
  where
    by : (l : List ℕ) → l ≡ drop at t → 0 < length l → text_ok (drop at t) ≡ text_ok (drop 1 (drop at t))
    by [] e n = absurd (omega arith)
    by (c ∷ l) e n =
        let k : get_or t at 0 ≡ c = sym (head_is at t) ∙ ap (λ (s : List ℕ). get_or s 0 0) (sym e) in
        let low = leb-true 32 (get_or t at 0) (and_left (leb 32 (get_or t at 0)) _ h) in
        let high = leb-true (get_or t at 0) 127 (and_right (leb 32 (get_or t at 0)) _ h) in
        ap text_ok (sym e) ∙ one_more c l (omega (arith, k)) (omega (arith, k)) ∙ ap (λ (s : List ℕ). text_ok (drop 1 s)) e
