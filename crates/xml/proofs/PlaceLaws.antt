-- The tokens of a text from a place on: one step of a byte loop.
use Prim.Native.Nat.{ℕ, zero, suc, ◌+◌, ◌≤◌, ◌<◌}
use mathlib.Core.Path.{◌≡◌, refl, sym, ap, ◌∙◌}
use mathlib.Core.Bool.{Bool, true, false}
use mathlib.Core.List.{List, [], ◌∷◌, ◌++◌}
use native.Mathlib.Omega.{arith}
use lib.ListN.{length, get_or, drop, length-drop}
use lib.Dec.{ltb}
use borrow.Author.Tests.{ltb-true, ltb-false}
use lib.Seq.{drop-cons, drop-drop, drop-length}
use Rattle.xml.specs.Tokens.{Token, State, outside_tags, Move, go, give, stop, step, at_end, tokens}
use Rattle.xml.specs.Places.{tokens_at}
use Rattle.xml.proofs.TagLaws.{goes, gives, same_step}

-- the bytes that belong to the step before
pub skipped : (st : State) (k at : ℕ) (s : List ℕ) → k ≤ length s → tokens st k at s ≡ tokens st 0 (at + k) (drop k s)
unfolding tokens
skipped st zero at s h = ap (λ (n : ℕ). tokens st 0 n s) (let e : at ≡ at + 0 = omega arith in e)
skipped st (suc k) at [] h = absurd (let z : ⊥ = omega arith in z)
skipped st (suc k) at (b ∷ s) h =
    skipped st k (suc at) s (omega arith)
    ∙ ap (λ (n : ℕ). tokens st 0 n (drop k s)) (let e : suc at + k ≡ at + suc k = omega arith in e)

stops : (st : State) (t : Token) (at b : ℕ) (s : List ℕ) → step st at b s ≡ stop t → tokens st 0 at (b ∷ s) ≡ t ∷ []
unfolding tokens
stops st t at b s e = rw (e, tokens)

-- A text s, at place i
module _ (s : List ℕ) (st : State) (i : ℕ) (inside : i < length s) where
  behind_step : (w : State) (k : ℕ) → suc i + k ≤ length s
      → tokens w k (suc i) (drop (suc i) s) ≡ tokens_at s w (suc i + k)
  behind_step w k h =
      skipped w k (suc i) (drop (suc i) s) (let z = length-drop (suc i) s in omega arith)
      ∙ ap (tokens w 0 (suc i + k)) (drop-drop k (suc i) s)

  abbrev pub move : Move
  move = step st i (get_or s i 0) (drop (suc i) s)

  at_front : tokens_at s st i ≡ tokens st 0 i (get_or s i 0 ∷ drop (suc i) s)
  at_front = ap (tokens st 0 i) (drop-cons s i 0 inside)

  pub at_go : (st' : State) (k : ℕ) → move ≡ go st' k → suc i + k ≤ length s
      → tokens_at s st i ≡ tokens_at s st' (suc i + k)
  at_go st' k e h = at_front ∙ goes st st' i (get_or s i 0) k (drop (suc i) s) e ∙ behind_step st' k h

  -- to the next place
  pub to_next : (st' : State) → move ≡ go st' 0 → tokens_at s st i ≡ tokens_at s st' (i + 1)
  to_next st' e =
      at_go st' 0 e (omega arith) ∙ ap (tokens_at s st') (let z : suc i + 0 ≡ i + 1 = omega arith in z)

  pub at_give : (ts : List Token) (k : ℕ) → move ≡ give ts k → suc i + k ≤ length s
      → tokens_at s st i ≡ ts ++ tokens_at s outside_tags (suc i + k)
  at_give ts k e h =
      at_front ∙ gives st ts i (get_or s i 0) k (drop (suc i) s) e
      ∙ ap (λ (l : List Token). ts ++ l) (behind_step outside_tags k h)

  pub at_stop : (t : Token) → move ≡ stop t → tokens_at s st i ≡ t ∷ []
  at_stop t e = at_front ∙ stops st t i (get_or s i 0) (drop (suc i) s) e

-- at its end
pub at_the_end : (s : List ℕ) (st : State) → tokens_at s st (length s) ≡ at_end st (length s) ∷ []
unfolding tokens
at_the_end s st = ap (tokens st 0 (length s)) (drop-length s)

pub text_ends : (s : List ℕ) (st : State) (i : ℕ) → i ≤ length s → length s ≤ i → tokens_at s st i ≡ at_end st (length s) ∷ []
text_ends s st i h k = ap (tokens_at s st) (let z : i ≡ length s = omega arith in z) ∙ at_the_end s st

-- states that differ neither in the next step nor at the text's end
pub same_at : (s : List ℕ) (st st' : State) (i : ℕ) → i ≤ length s → at_end st (length s) ≡ at_end st' (length s)
    → (i < length s → step st i (get_or s i 0) (drop (suc i) s) ≡ step st' i (get_or s i 0) (drop (suc i) s))
    → tokens_at s st i ≡ tokens_at s st' i
same_at s st st' i h e f = by (ltb i (length s)) refl
  where
    by : (x : Bool) → ltb i (length s) ≡ x → tokens_at s st i ≡ tokens_at s st' i
    by true q =
        let k = ltb-true i (length s) q in
        at_front s st i k ∙ same_step st st' i (get_or s i 0) (drop (suc i) s) (f k) ∙ sym (at_front s st' i k)
    by false q =
        let k = ltb-false i (length s) q in
        text_ends s st i h k ∙ ap (λ (t : Token). t ∷ []) e ∙ sym (text_ends s st' i h k)
