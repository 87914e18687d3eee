-- Requests by their marks.
use Prim.Native.Nat.{ℕ, zero, suc, ◌+◌, ◌≤◌, ◌<◌}
use mathlib.Core.Path.{◌≡◌, refl}
use mathlib.Core.Bool.{true, false, cond}
use mathlib.Core.List.{List, [], ◌∷◌}
use mathlib.Core.Option.{Option, none, some}
use native.Mathlib.Omega.{arith}
use lib.ListN.{length, get_or, take, drop}
use Rattle.xliff.specs.Bytes.{two_at, enough}
use Rattle.xliff.specs.Parse.{is}
use Rattle.xliff.specs.Calls.{Call, SP, JN, ST, RT, RW}
use Rattle.xliff.specs.Desk.{Request, lent, asked, request}
use Rattle.marks.specs.Marks.{marked}

pub enough_yes : (n : ℕ) (s : List ℕ) → n ≤ length s → enough n s ≡ true
unfolding enough
enough_yes zero s h = refl
enough_yes (suc n) [] h = absurd (omega arith)
enough_yes (suc n) (b ∷ s) h = enough_yes n s (omega arith)

pub enough_not : (n : ℕ) (s : List ℕ) → length s < n → enough n s ≡ false
unfolding enough
enough_not zero s h = absurd (omega arith)
enough_not (suc n) [] h = refl
enough_not (suc n) (b ∷ s) h = enough_not n s (omega arith)

-- a request that is cut short, and one that is whole
pub cut_short : (s : List ℕ) (n : ℕ) (c : Call) → length s < n → none ≡ asked s n c
unfolding asked
cut_short s n c h = rw (enough_not n s h) refl

pub is_whole : (s : List ℕ) (n : ℕ) (c : Call) → n ≤ length s → some (record { call = c; size = n }) ≡ asked s n c
unfolding asked
is_whole s n c h = rw (enough_yes n s h) refl

-- set target has its length behind the state
pub set_short : (s : List ℕ) (o : Option Request) → length s < 7 → none ≡ cond (enough 7 s) o none
set_short s o h = rw (enough_not 7 s h) refl

pub set_long : (s : List ℕ) (o : Option Request) → 7 ≤ length s → o ≡ cond (enough 7 s) o none
set_long s o h = rw (enough_yes 7 s h) refl

pub request_short : (s : List ℕ) → length s < 2 → none ≡ request s
unfolding request enough
request_short [] h = refl
request_short (a ∷ []) h = refl
request_short (a ∷ b ∷ s) h = absurd (omega arith)

-- one mark after the other, as the specification tries them
pub request_split : (s : List ℕ) → 2 ≤ length s → marked s (83 ∷ 80 ∷ []) ≡ true
    → asked s 10 (SP (two_at s 2) (two_at s 4) (two_at s 6) (two_at s 8) lent) ≡ request s
unfolding request enough is
request_split [] h c = absurd (omega arith)
request_split (a ∷ []) h c = absurd (omega arith)
request_split (a ∷ b ∷ s) h c = rw (request, c) refl

pub request_join : (s : List ℕ) → 2 ≤ length s → marked s (83 ∷ 80 ∷ []) ≡ false → marked s (74 ∷ 78 ∷ []) ≡ true
    → asked s 4 (JN (two_at s 2) lent) ≡ request s
unfolding request enough is
request_join [] h c d = absurd (omega arith)
request_join (a ∷ []) h c d = absurd (omega arith)
request_join (a ∷ b ∷ s) h c d = rw (request, c, d) refl

pub request_set : (s : List ℕ) → 2 ≤ length s → marked s (83 ∷ 80 ∷ []) ≡ false → marked s (74 ∷ 78 ∷ []) ≡ false → marked s (83 ∷ 84 ∷ []) ≡ true
    → cond (enough 7 s) (asked s (7 + two_at s 5) (ST (two_at s 2) (get_or s 4 0) (take (two_at s 5) (drop 7 s)) lent)) none ≡ request s
unfolding request enough is
request_set [] h c d e = absurd (omega arith)
request_set (a ∷ []) h c d e = absurd (omega arith)
request_set (a ∷ b ∷ s) h c d e = rw (request, c, d, e) refl

pub request_remove : (s : List ℕ) → 2 ≤ length s → marked s (83 ∷ 80 ∷ []) ≡ false → marked s (74 ∷ 78 ∷ []) ≡ false → marked s (83 ∷ 84 ∷ []) ≡ false → marked s (82 ∷ 84 ∷ []) ≡ true
    → asked s 4 (RT (two_at s 2) lent) ≡ request s
unfolding request enough is
request_remove [] h c d e f = absurd (omega arith)
request_remove (a ∷ []) h c d e f = absurd (omega arith)
request_remove (a ∷ b ∷ s) h c d e f = rw (request, c, d, e, f) refl

pub request_rewrite : (s : List ℕ) → 2 ≤ length s
    → marked s (83 ∷ 80 ∷ []) ≡ false → marked s (74 ∷ 78 ∷ []) ≡ false
    → marked s (83 ∷ 84 ∷ []) ≡ false → marked s (82 ∷ 84 ∷ []) ≡ false
    → marked s (82 ∷ 87 ∷ []) ≡ true
    → asked s 6 (RW (get_or s 2 0) (two_at s 3) (get_or s 5 0) lent) ≡ request s
unfolding request enough is
request_rewrite [] h c d e f g = absurd (omega arith)
request_rewrite (a ∷ []) h c d e f g = absurd (omega arith)
request_rewrite (a ∷ b ∷ s) h c d e f g = rw (request, c, d, e, f, g) refl

pub request_other : (s : List ℕ) → 2 ≤ length s
    → marked s (83 ∷ 80 ∷ []) ≡ false → marked s (74 ∷ 78 ∷ []) ≡ false
    → marked s (83 ∷ 84 ∷ []) ≡ false → marked s (82 ∷ 84 ∷ []) ≡ false
    → marked s (82 ∷ 87 ∷ []) ≡ false
    → none ≡ request s
unfolding request enough is
request_other [] h c d e f g = absurd (omega arith)
request_other (a ∷ []) h c d e f g = absurd (omega arith)
request_other (a ∷ b ∷ s) h c d e f g = rw (request, c, d, e, f, g) refl
