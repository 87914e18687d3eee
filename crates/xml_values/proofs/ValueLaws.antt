-- One more code point of a value.
use Prim.Native.Nat.{ℕ, zero, suc, ◌+◌, ◌≤◌, ◌<◌}
use mathlib.Core.Path.{◌≡◌, refl, sym, ap, ap₂, ◌∙◌}
use mathlib.Core.Bool.{Bool, true, false, cond}
use mathlib.Core.List.{List, [], ◌∷◌, ◌++◌, append_assoc, append-nil}
use native.Mathlib.Omega.{arith}
use lib.ListN.{length, drop, get_or, length-drop}
use lib.Seq.{drop-cons, drop-drop}
use lib.Dec.{eqb}
use borrow.Author.Tests.{eq-eqb, ne_eqb}
use Rattle.xml.specs.Characters.{'<', '&', Front, found, cut, wrong, front_character, front_reference}
use Rattle.xml.specs.Tokens.{cut_tag, fault, Tag, State, in_value, Move, go, stop, with_front, step, at_end}
use Rattle.xml.specs.Places.{tokens_at}
use Rattle.xml.proofs.PlaceLaws.{at_go, at_stop, text_ends}
use Rattle.std.specs.Prelude.{Err}
use Rattle.xml_front.specs.declared.Flaw.{Flaw}
use Rattle.xml_front.specs.declared.Flaw.TheVariants.{Cut, Wrong}
use Rattle.xml_front.specs.Fronts.{told}
use Rattle.xml_values.specs.Values.{value_front, value_code, code_then, value_codes, ValueEnds, ValueRead}

-- the step of a value, by its front
module _ (t : Tag) (n v s : List ℕ) (q at b : ℕ) (no_quote : eqb b q ≡ false) where
  next : ℕ → ℕ → Move
  next c more = go (in_value t n q (v ++ (value_code b c ∷ []))) more

  under : Bool → Front → Move
  under x f = cond x (stop (fault t.place)) (with_front f at (b ∷ s) (cut_tag t.place) (fault t.place) next)

  step_is : step (in_value t n q v) at b s ≡ under (eqb b '<') (cond (eqb b '&') (front_reference s) (front_character (b ∷ s)))
  unfolding step value_code next under
  step_is = rw no_quote

  value_found : (c w : ℕ) → value_front (b ∷ s) ≡ found c w
      → step (in_value t n q v) at b s ≡ go (in_value t n q (v ++ (value_code b c ∷ []))) w
  unfolding value_front next under
  value_found c w e = step_is ∙ by (eqb b '<') (cond (eqb b '&') (front_reference s) (front_character (b ∷ s))) e
    where
      by : (x : Bool) (f : Front) → cond x wrong f ≡ found c w → under x f ≡ next c w
      by true f e = absurd (let z : ◌≡◌ {A = ℕ} 0 1 = cc in omega arith)
      by false f e = rw e (unfold with_front in refl)

  value_cut : value_front (b ∷ s) ≡ cut → step (in_value t n q v) at b s ≡ stop (cut_tag t.place (at + length (b ∷ s)))
  unfolding value_front next under
  value_cut e = step_is ∙ by (eqb b '<') (cond (eqb b '&') (front_reference s) (front_character (b ∷ s))) e
    where
      by : (x : Bool) (f : Front) → cond x wrong f ≡ cut → under x f ≡ stop (cut_tag t.place (at + length (b ∷ s)))
      by true f e = absurd (let z : ◌≡◌ {A = ℕ} 0 1 = cc in omega arith)
      by false f e = rw e (unfold with_front in refl)

  value_wrong : value_front (b ∷ s) ≡ wrong → step (in_value t n q v) at b s ≡ stop (fault t.place)
  unfolding value_front next under
  value_wrong e = step_is ∙ by (eqb b '<') (cond (eqb b '&') (front_reference s) (front_character (b ∷ s))) e
    where
      by : (x : Bool) (f : Front) → cond x wrong f ≡ wrong → under x f ≡ stop (fault t.place)
      by true f e = refl
      by false f e = rw e (unfold with_front in refl)

-- the code points of the rest
codes_skip : (q k : ℕ) (s : List ℕ) → value_codes q k s ≡ value_codes q 0 (drop k s)
unfolding value_codes
codes_skip q zero [] = refl
codes_skip q zero (b ∷ s) = refl
codes_skip q (suc k) [] = refl
codes_skip q (suc k) (b ∷ s) = codes_skip q k s

pub codes_on : (s : List ℕ) (q i c w : ℕ) → i < length s → eqb (get_or s i 0) q ≡ false → value_front (drop i s) ≡ found c w
    → value_codes q 0 (drop i s) ≡ value_code (get_or s i 0) c ∷ value_codes q 0 (drop (i + 1 + w) s)
unfolding value_codes code_then
codes_on s q i c w h e f =
    ap (value_codes q 0) (drop-cons s i 0 h) ∙ rw (e, sym (ap value_front (drop-cons s i 0 h)) ∙ f) refl
    ∙ ap (λ (l : List ℕ). value_code (get_or s i 0) c ∷ l)
    (codes_skip q w (drop (suc i) s) ∙ ap (value_codes q 0) (drop-drop w (suc i) s)
    ∙ ap (λ (k : ℕ). value_codes q 0 (drop k s)) (let z : suc i + w ≡ i + 1 + w = omega arith in z))

pub codes_end : (s : List ℕ) (q i : ℕ) → i < length s → get_or s i 0 ≡ q → value_codes q 0 (drop i s) ≡ []
unfolding value_codes
codes_end s q i h e = ap (value_codes q 0) (drop-cons s i 0 h) ∙ rw (eq-eqb (get_or s i 0) q e)

-- a value so far, from a place to another
pub record ValueSoFar (s : List ℕ) (from q at : ℕ) : Type 0 where
  pub low : from ≤ at
  pub high : at ≤ length s
  pub codes : List ℕ
  pub rest : codes ++ value_codes q 0 (drop at s) ≡ value_codes q 0 (drop from s)
  pub same : (t : Tag) (n v : List ℕ) → tokens_at s (in_value t n q v) from ≡ tokens_at s (in_value t n q (v ++ codes)) at

pub value_begins : (s : List ℕ) (from q : ℕ) → from ≤ length s → ValueSoFar s from q from
value_begins s from q h =
    record {
      low = omega arith;
      high = h;
      codes = [];
      rest = refl;
      same = λ t n v. ap (λ (l : List ℕ). tokens_at s (in_value t n q l) from) (sym (append-nil v));
    }

module _ (s : List ℕ) (from q at : ℕ) (so_far : ValueSoFar s from q at) (h : at < length s)
    (no_quote : eqb (get_or s at 0) q ≡ false) where
  abbrev byte : ℕ
  byte = get_or s at 0

  abbrev rest : List ℕ
  rest = drop (suc at) s

  here : (f : Front) → value_front (drop at s) ≡ f → value_front (byte ∷ rest) ≡ f
  here f e = sym (ap value_front (drop-cons s at 0 h)) ∙ e

  -- the value before this byte
  state : Tag → List ℕ → List ℕ → State
  state t n v = in_value t n q (v ++ so_far.codes)

  one_more : (c w : ℕ) → value_front (drop at s) ≡ found c w → at + 1 + w ≤ length s → (t : Tag) (n v : List ℕ)
      → tokens_at s (state t n v) at
      ≡ tokens_at s (in_value t n q (v ++ (so_far.codes ++ (value_code byte c ∷ [])))) (at + 1 + w)
  unfolding state
  one_more c w e k t n v =
      at_go s (state t n v) at h (in_value t n q ((v ++ so_far.codes) ++ (value_code byte c ∷ []))) w
      (value_found t n (v ++ so_far.codes) rest q at byte no_quote c w (here (found c w) e)) (omega arith)
      ∙ ap₂ (λ (m : ℕ) (l : List ℕ). tokens_at s (in_value t n q l) m) (let z : suc at + w ≡ at + 1 + w = omega arith in z)
      (append_assoc v so_far.codes (value_code byte c ∷ []))

  pub value_goes_on : (c w : ℕ) → value_front (drop at s) ≡ found c w → at + 1 + w ≤ length s
      → ValueSoFar s from q (at + 1 + w)
  unfolding state
  value_goes_on c w e k =
      let low = so_far.low in
      let code : ℕ = value_code byte c in
      record {
        low = omega arith;
        high = k;
        codes = so_far.codes ++ (code ∷ []);
        rest = append_assoc so_far.codes (code ∷ []) (value_codes q 0 (drop (at + 1 + w) s))
            ∙ ap (λ (l : List ℕ). so_far.codes ++ l) (sym (codes_on s q at c w h no_quote e)) ∙ so_far.rest;
        same = λ t n v. so_far.same t n v ∙ one_more c w e k t n v;
      }

  value_is_cut : value_front (drop at s) ≡ cut → (t : Tag) (n v : List ℕ)
      → tokens_at s (in_value t n q v) from ≡ cut_tag t.place (length s) ∷ []
  unfolding state
  value_is_cut e t n v =
      let size = length-drop (suc at) s in
      so_far.same t n v
      ∙ at_stop s (state t n v) at h (cut_tag t.place (at + length (byte ∷ rest)))
      (value_cut t n (v ++ so_far.codes) rest q at byte no_quote (here cut e))
      ∙ ap (λ (m : ℕ). cut_tag t.place m ∷ []) (let g : at + length (byte ∷ rest) ≡ length s = omega arith in g)

  value_is_wrong : value_front (drop at s) ≡ wrong → (t : Tag) (n v : List ℕ)
      → tokens_at s (in_value t n q v) from ≡ fault t.place ∷ []
  unfolding state
  value_is_wrong e t n v =
      so_far.same t n v
      ∙ at_stop s (state t n v) at h (fault t.place)
      (value_wrong t n (v ++ so_far.codes) rest q at byte no_quote (here wrong e))

  pub value_at_fault : (e : Flaw) → value_front (drop at s) ≡ told (Err e) → ValueRead s from q (Err e)
  value_at_fault Cut h = value_is_cut h
  value_at_fault Wrong h = value_is_wrong h

pub value_ends : (s : List ℕ) (from q at : ℕ) → ValueSoFar s from q at → at < length s → get_or s at 0 ≡ q
    → ValueEnds s from q at
value_ends s from q at r h e =
    record {
      low = r.low;
      inside = h;
      quote = e;
      same = λ t n v. r.same t n v ∙ ap (λ (l : List ℕ). tokens_at s (in_value t n q (v ++ l)) at) whole;
    }
  where
    whole : r.codes ≡ value_codes q 0 (drop from s)
    whole = sym (append-nil r.codes) ∙ ap (λ (l : List ℕ). r.codes ++ l) (sym (codes_end s q at h e)) ∙ r.rest

pub value_stops : (s : List ℕ) (from q at : ℕ) → ValueSoFar s from q at → length s ≤ at → (t : Tag) (n v : List ℕ)
    → tokens_at s (in_value t n q v) from ≡ cut_tag t.place (length s) ∷ []
unfolding at_end
value_stops s from q at r h t n v = r.same t n v ∙ text_ends s (in_value t n q (v ++ r.codes)) at r.high h

-- the front of a value, by its first byte
pub front_tag : (t : List ℕ) → 1 ≤ length t → get_or t 0 0 ≡ 60 → wrong ≡ value_front t
unfolding value_front
front_tag [] h e = absurd (let z : ⊥ = omega arith in z)
front_tag (b ∷ t) h e = rw (eq-eqb b 60 e)

pub front_ref : (t : List ℕ) → 1 ≤ length t → (get_or t 0 0 ≡ 60 → ⊥) → get_or t 0 0 ≡ 38 → front_reference (drop 1 t) ≡ value_front t
unfolding value_front
front_ref [] h k e = absurd (let z : ⊥ = omega arith in z)
front_ref (b ∷ t) h k e = rw (ne_eqb b 60 k, eq-eqb b 38 e)

pub front_char : (t : List ℕ) → 1 ≤ length t → (get_or t 0 0 ≡ 60 → ⊥) → (get_or t 0 0 ≡ 38 → ⊥) → front_character t ≡ value_front t
unfolding value_front
front_char [] h k e = absurd (let z : ⊥ = omega arith in z)
front_char (b ∷ t) h k e = rw (ne_eqb b 60 k, ne_eqb b 38 e)
