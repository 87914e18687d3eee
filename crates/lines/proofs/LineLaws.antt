-- The digits of a number, by its size, and the lines of pieces.
use Prim.Native.Nat.{ℕ, zero, suc, ◌+◌, ◌*◌, ◌/◌, ◌%◌, ◌-◌, ◌≤◌, ◌<◌}
use mathlib.Core.Path.{◌≡◌, refl, sym, ap, ap₂, ◌∙◌}
use mathlib.Core.List.{List, [], ◌∷◌, ◌++◌, append_assoc}
use native.Mathlib.Omega.{arith}
use lib.ListN.{length, take, drop, get_or, set, length-append, length-set, length-drop}
use lib.Seq.{take-suc, take_all}
use borrow.Author.Tests.{lt-ltb, le-ltb}
use Rattle.xliff.specs.Answer.{refused}
use Rattle.xliff.specs.Bytes.{gather}
use Rattle.xliff.specs.Desk.{digits, decimal, hex_digit, hex_byte, line, table_line}
use Rattle.xliff.proofs.lists.Tests.{gather_append}
use Rattle.writer.specs.Pieces.{lead, overlay}
use Rattle.writer.proofs.PieceLaws.{over_lead, two_back}
use Rattle.lines.specs.Lines.{hex}

placed : (l : List ℕ) (k d : ℕ) → k < length l → d ∷ drop (suc k) l ≡ drop k (set l k d)
placed [] k d h = absurd (omega arith)
placed (x ∷ l) zero d h = refl
placed (x ∷ l) (suc k) d h = placed l k d (omega arith)

-- the powers of ten
abbrev pub ten : ℕ → ℕ
ten zero = 1
ten (suc k) = 10 * ten k

-- one digit more, from the last one on; the digits stand at the end of an array
pub digit_more : (l : List ℕ) (k m : ℕ) → 1 ≤ k → k ≤ length l → 10 ≤ m → m < ten k
    → (digits k m (drop k l) ≡ digits (k - 1) (m / 10) (drop (k - 1) (set l (k - 1) (48 + m % 10)))) × (1 ≤ k - 1) × (m / 10 < ten (k - 1))
unfolding digits
digit_more l zero m p q h b = absurd (omega arith)
digit_more l (suc zero) m p q h b = absurd (omega arith)
digit_more l (suc (suc k)) m p q h b =
    let e : suc (suc k) - 1 ≡ suc k = omega arith in
    rw e (rw (le-ltb m 10 h) (ap (digits (suc k) (m / 10)) (placed l (suc k) (48 + m % 10) (omega arith))), omega arith, omega arith)

digit_last : (l : List ℕ) (k m : ℕ) → 1 ≤ k → k ≤ length l → m < 10 → digits k m (drop k l) ≡ drop (k - 1) (set l (k - 1) (48 + m % 10))
unfolding digits
digit_last l zero m p q h = absurd (omega arith)
digit_last l (suc k) m p q h =
    let e : suc k - 1 ≡ k = omega arith in
    rw (e, lt-ltb m 10 h) (placed l k (48 + m % 10) (omega arith))

-- the digits of a number stand at the end of an array of 20 once the last one is there
pub digits_there : (l : List ℕ) (k m d : ℕ) → 1 ≤ k → k ≤ 20 → length l ≡ 20 → m < 10 → d ≡ 48 + m % 10
    → take (20 - (k - 1)) (drop (k - 1) (set l (k - 1) d)) ≡ digits k m (drop k l)
digits_there l k m d p q n h e =
    take_all (20 - (k - 1)) (drop (k - 1) (set l (k - 1) d)) (omega (arith, length-drop (k - 1) (set l (k - 1) d), length-set l (k - 1) d))
    ∙ ap (λ (v : ℕ). drop (k - 1) (set l (k - 1) v)) e
    ∙ sym (digit_last l k m p (omega arith) h)

-- a piece at the head, a second one behind it through the lent tail, and a byte behind both
pub tail_byte : (out p d xs ys zs : List ℕ) (a b x : ℕ) → a ≡ length p → xs ≡ lead p out → b ≡ length d → ys ≡ lead d (take (length xs - a) (drop a xs))
    → zs ≡ overlay (take a xs ++ (ys ++ drop (length xs - a) (drop a xs))) (a + b) (x ∷ []) → zs ≡ lead (p ++ d ++ (x ∷ [])) out
tail_byte out p d xs ys zs a b x e f g h k =
    k ∙ over_lead out (p ++ d) (x ∷ []) _ (a + b) (two_back out p d xs ys a e f h) (let z : a + b ≡ length (p ++ d) = omega (arith, e, g, length-append p d) in z)

-- the table in hexadecimal, one byte further
pub hex_next : (t out xs ys zs : List ℕ) (i at k h l : ℕ) → i < length t → at ≡ length (hex (take i t)) → xs ≡ lead (hex (take i t)) out
    → h ≡ hex_digit (get_or t i 0 / 16) → l ≡ hex_digit (get_or t i 0 % 16) → k ≡ at + 1 → ys ≡ overlay xs at (h ∷ []) → zs ≡ overlay ys k (l ∷ [])
    → (k + 1 ≡ length (hex (take (i + 1) t))) × (zs ≡ lead (hex (take (i + 1) t)) out)
unfolding hex gather hex_byte
hex_next t out xs ys zs i at k h l p e f u v m y z =
    let first = y ∙ over_lead out (gather hex_byte (take i t)) (h ∷ []) xs at f e in
    let second
    = z ∙ over_lead out (gather hex_byte (take i t) ++ (h ∷ [])) (l ∷ []) ys k first
    (let q : k ≡ length (gather hex_byte (take i t) ++ (h ∷ []))
    = omega (arith, m, e, length-append (gather hex_byte (take i t)) (h ∷ [])) in q) in
    let whole = more in (
      omega (
        arith,
        m,
        e,
        ap length whole,
        length-append (gather hex_byte (take i t)) (h ∷ []),
        length-append (gather hex_byte (take i t) ++ (h ∷ [])) (l ∷ []),
      ),
      second ∙ ap (λ (w : List ℕ). lead w out) whole,
    )
  where
    more : gather hex_byte (take i t) ++ (h ∷ []) ++ (l ∷ []) ≡ gather hex_byte (take (i + 1) t)
    more =
        append_assoc (gather hex_byte (take i t)) (h ∷ []) (l ∷ [])
        ∙ ap (λ (w : List ℕ). gather hex_byte (take i t) ++ w) digits_of
        ∙ sym (gather_append hex_byte (take i t) (get_or t i 0 ∷ []))
        ∙ ap (gather hex_byte) (sym (take-suc t i 0 p) ∙ ap (λ (j : ℕ). take j t) (let q : suc i ≡ i + 1 = omega arith in q))
      where
        digits_of : h ∷ l ∷ [] ≡ gather hex_byte (get_or t i 0 ∷ [])
        digits_of = ap₂ (λ (a b : ℕ). a ∷ b ∷ []) u v

-- all bytes
pub hex_end : (t out last : List ℕ) (i at : ℕ) → i ≤ length t → length t ≤ i → at ≡ 2 * i → at ≡ length (hex (take i t)) → last ≡ lead (hex (take i t)) out
    → (at ≡ length (hex t)) × (last ≡ lead (hex t) out) × (at ≡ 2 * length t)
hex_end t out last i at p q n e f =
    let w : take i t ≡ t = take_all i t q in
    (e ∙ ap (λ (l : List ℕ). length (hex l)) w, f ∙ ap (λ (l : List ℕ). lead (hex l) out) w, omega (arith, n))

pub hex_length : (t : List ℕ) → length (hex t) ≡ 2 * length t
unfolding hex gather hex_byte
hex_length [] = refl
hex_length (b ∷ t) = omega (arith, hex_length t)

-- a refusal's line: "NO ", the number and a blank, then the place and a line feed
pub refused_returns : (out : List ℕ) (n at : ℕ) (last : List ℕ) (c d r : ℕ) → c ≡ length ((78 ∷ 79 ∷ 32 ∷ []) ++ decimal n ++ (32 ∷ [])) → d ≡ length (decimal at) → r ≡ c + d + 1
    → last ≡ lead ((78 ∷ 79 ∷ 32 ∷ []) ++ decimal n ++ (32 ∷ []) ++ decimal at ++ (10 ∷ [])) out → r ≤ 48
    → (r ≡ length (line (refused n at))) × (last ≡ lead (line (refused n at)) out) × (r ≤ 48)
unfolding line
refused_returns out n at last c d r e f g h k =
    let w : (78 ∷ 79 ∷ 32 ∷ []) ++ decimal n ++ (32 ∷ []) ++ decimal at ++ (10 ∷ []) ≡ 78 ∷ 79 ∷ 32 ∷ (decimal n ++ (32 ∷ (decimal at ++ (10 ∷ []))))
    = ap (λ (l : List ℕ). 78 ∷ 79 ∷ 32 ∷ l) (append_assoc (decimal n ++ (32 ∷ [])) (decimal at) (10 ∷ []) ∙ append_assoc (decimal n) (32 ∷ []) (decimal at ++ (10 ∷ []))) in (
      omega (
        arith,
        e,
        f,
        g,
        ap length w,
        length-append ((78 ∷ 79 ∷ 32 ∷ []) ++ decimal n ++ (32 ∷ []) ++ decimal at) (10 ∷ []),
        length-append ((78 ∷ 79 ∷ 32 ∷ []) ++ decimal n ++ (32 ∷ [])) (decimal at),
      ),
      h ∙ ap (λ (l : List ℕ). lead l out) w,
      k,
    )

pub table_line_length : (t : List ℕ) → length (table_line t) ≡ 2 * length t + 1
unfolding table_line hex
table_line_length t = omega (arith, length-append (hex t) (10 ∷ []), hex_length t)
