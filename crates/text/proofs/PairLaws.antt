-- Bytes that fit, each with the next, are of characters of one byte and of two.
use Prim.Native.Nat.{ℕ, zero, suc, ◌+◌, ◌≤◌}
use mathlib.Core.Path.{◌≡◌, sym, ◌∙◌, ap}
use mathlib.Core.Bool.{Bool, true, false, ◌&&◌, ◌||◌, not, cond}
use mathlib.Core.List.{List, ◌∷◌}
use native.Mathlib.Omega.{arith}
use borrow.Author.Tests.{ltb-true, leb-true, leb-false, lt-leb, not-true}
use lib.ListN.{length, drop, get_or}
use lib.Seq.{get_or-drop}
use lib.Dec.{leb, ltb}
use Rattle.text.specs.Utf8.{within, trail, text_ok}
use Rattle.text.specs.Blocks.{nowhere, pair_fits, pair_at, all_fit}
use Rattle.xliff.proofs.lists.Tests.{and_left, and_right, and_false}
use borrow.Table.Steps.{cases}
use Rattle.text.proofs.BlockLaws.{Passes, block_on, head_is, alike_is, behind_high, plain_byte, one_more, two_more}

-- what a pair that fits says
record Fitting (c d : ℕ) : Type 0 where
  low : 32 ≤ c
  high : c ≤ 223
  somewhere : nowhere c ≡ false
  leads : trail d ≡ leb 194 c

fitting : (c d : ℕ) → pair_fits c d ≡ true → Fitting c d
unfolding pair_fits
fitting c d e =
    let w = and_left (within 32 223 c) _ e in
    let r = and_right (within 32 223 c) _ e in
    record {
      low = leb-true 32 c (and_left (leb 32 c) _ w);
      high = leb-true c 223 (and_right (leb 32 c) _ w);
      somewhere = not-true _ (and_left (not (nowhere c)) _ r);
      leads = alike_is (leb 194 c) (trail d) (and_right (not (nowhere c)) _ r);
    }

-- a list that begins with the second byte of a character, or with none
abbrev PairOwed : ℕ → List ℕ → Type 0
PairOwed zero l = trail (get_or l 0 0) ≡ false
PairOwed (suc zero) l = trail (get_or l 0 0) ≡ true
PairOwed (suc (suc j)) l = ⊥

-- how many bytes that is
abbrev pair_ahead : List ℕ → ℕ
pair_ahead l = cond (trail (get_or l 0 0)) 1 0

pair_begins : (c : ℕ) (l : List ℕ) → trail c ≡ false → pair_fits c (get_or l 0 0) ≡ true → (j : ℕ) × PairOwed j l × (text_ok (c ∷ l) ≡ text_ok (drop j l))
pair_begins c l o e =
    let f = fitting c (get_or l 0 0) e in
    cases (leb 194 c)
    (λ p. let behind = f.leads ∙ p in (1, behind, two_more c l (leb-true 194 c p) f.high behind))
    (λ p. (0, f.leads ∙ p, one_more c l f.low (plain_byte c f.somewhere o (leb-false 194 c p))))

pair_goes_on : (j c : ℕ) (l : List ℕ) → PairOwed (suc j) (c ∷ l) → pair_fits c (get_or l 0 0) ≡ true → PairOwed j l
pair_goes_on zero c l o e = let high = behind_high c o in (fitting c (get_or l 0 0) e).leads ∙ lt-leb 194 c (omega arith)
pair_goes_on (suc j) c l o e = absurd o

pair_counted : (j : ℕ) (l : List ℕ) → PairOwed j l → j ≡ pair_ahead l
pair_counted zero l o = rw o
pair_counted (suc zero) l o = rw o
pair_counted (suc (suc j)) l o = absurd o

pair_passes : Passes pair_at PairOwed pair_ahead
pair_passes = record { begins = pair_begins; goes_on = pair_goes_on; counted = pair_counted }

or_second : (a b : Bool) → a ≡ false → (a || b) ≡ true → b ≡ true
or_second true b p h = cc
or_second false b p h = h

-- what is no second byte
first_byte : (b : ℕ) → (ltb b 128 || ltb 191 b) ≡ true → trail b ≡ false
first_byte b h =
    cases (ltb b 128) (λ p. rw (lt-leb 128 b (ltb-true b 128 p)))
    (λ p. simp (lt-leb b 191 (ltb-true 191 b (or_second (ltb b 128) (ltb 191 b) p h)), and_false))

-- a block of sixteen bytes that the test passes, and the byte behind it
pub pair_past : (t : List ℕ) (at : ℕ) (r b : Bool) → at + 16 ≤ length t → r ≡ all_fit pair_at 16 (drop at t) → ((ltb (get_or t at 0) 128 || ltb 191 (get_or t at 0)) && r) ≡ true
    → trail (get_or t (at + 16) 0) ≡ b → text_ok (drop at t) ≡ text_ok (drop (at + cond b 17 16) t)
pair_past t at r b n e h f =
    let first = ltb (get_or t at 0) 128 || ltb 191 (get_or t at 0) in
    block_on pair_passes t at 16 n (sym e ∙ and_right first r h) (ap trail (head_is at t) ∙ first_byte (get_or t at 0) (and_left first r h))
    ∙ ap (λ (c : Bool). text_ok (drop (at + 16 + cond c 1 0) t)) (ap trail (head_is (at + 16) t) ∙ f)
    ∙ ap (λ (k : ℕ). text_ok (drop k t)) (sum b)
  where
    sum : (b : Bool) → at + 16 + cond b 1 0 ≡ at + cond b 17 16
    sum true = omega arith
    sum false = omega arith

-- the test at an offset
pub pair_at_lem : (n : ℕ) (t : List ℕ) → pair_fits (get_or t n 0) (get_or t (n + 1) 0) ≡ pair_at (drop n t)
pair_at_lem n t = rw (head_is n t, get_or-drop n t 1 0)
