-- A start tag behind the unit: it is blamed, be it whole, at fault or cut.
use Prim.Native.Nat.{ℕ, zero, suc}
use mathlib.Core.Path.{◌≡◌, refl, ap, ◌∙◌}
use mathlib.Core.Bool.{Bool, true, false, cond, ◌&&◌, ◌||◌}
use mathlib.Core.List.{List, [], ◌∷◌}
use lib.ListN.{drop}
use lib.Dec.{eqb}
use Rattle.xml.specs.Characters.{Front, found, cut, wrong, is_blank, quote, apostrophe, '<', '>', '/', '=', '&', front_character, front_reference, continues_name}
use Rattle.xml.specs.Tokens.{Attribute, Token, start_tag, end_tag, fault, cut_tag, Tag, State, in_tag, in_attribute, equals_due, value_due, in_value, in_short, Move, go, give, stop, with_front, doubled, whole_tag, with_attribute, in_tag_step, equals_step, step, at_end, tokens}
use Rattle.xml.specs.Elements.{nothing_due, outside, opened, cut_short, turn, bad, elements}
use Rattle.xml.proofs.TagLaws.{goes, gives}
use Rattle.xml_piece.specs.Pieces.{tag_at}
use Rattle.xml_passages.proofs.PassageLaws.{turns_bad}

abbrev tag_of : ℕ → List ℕ → List Attribute → Tag
tag_of p n ats = record { place = p; name = n; attributes = ats }

-- the bytes stand in a start tag of this place
data InTag (p : ℕ) : State → Type 0 where
  between : {n : List ℕ} {ats : List Attribute} {spaced : Bool} → InTag p (in_tag (tag_of p n ats) spaced)
  attribute : {n : List ℕ} {ats : List Attribute} {a : List ℕ} → InTag p (in_attribute (tag_of p n ats) a)
  equals : {n : List ℕ} {ats : List Attribute} {a : List ℕ} → InTag p (equals_due (tag_of p n ats) a)
  value : {n : List ℕ} {ats : List Attribute} {a : List ℕ} → InTag p (value_due (tag_of p n ats) a)
  inside : {n : List ℕ} {ats : List Attribute} {a : List ℕ} {q : ℕ} {v : List ℕ}
      → InTag p (in_value (tag_of p n ats) a q v)
  short : {n : List ℕ} {ats : List Attribute} → InTag p (in_short (tag_of p n ats))

-- it goes on, is whole, is at fault, or is cut
data Stays (p : ℕ) : Move → Type 0 where
  on : {st : State} {more : ℕ} → InTag p st → Stays p (go st more)
  whole : {n : List ℕ} {ats : List Attribute} {ts : List Token} {more : ℕ} → Stays p (give (start_tag p n ats ∷ ts) more)
  faulty : Stays p (stop (fault p))
  ends : {q : ℕ} → Stays p (stop (cut_tag p q))

module _ (p : ℕ) where
  either : (b : Bool) {m m' : Move} → Stays p m → Stays p m' → Stays p (cond b m m')
  either true k l = k
  either false k l = l

  fronts : (f : Front) (at : ℕ) (s : List ℕ) (g : ℕ → ℕ → Move) → ((c more : ℕ) → Stays p (g c more))
      → Stays p (with_front f at s (cut_tag p) (fault p) g)
  unfolding with_front
  fronts (found c more) at s g k = k c more
  fronts cut at s g k = ends
  fronts wrong at s g k = faulty

  whole_stays : (n : List ℕ) (ats : List Attribute) (ts : List Token) → Stays p (whole_tag (tag_of p n ats) ts)
  unfolding whole_tag
  whole_stays n ats ts = either (doubled ats) faulty whole

  equals_stays : (n : List ℕ) (ats : List Attribute) (a : List ℕ) (b : ℕ)
      → Stays p (equals_step (tag_of p n ats) a b)
  unfolding equals_step
  equals_stays n ats a b = either (is_blank b) (on equals) (either (eqb b '=') (on value) faulty)

  step_stays : {st : State} → InTag p st → (at b : ℕ) (s : List ℕ) → Stays p (step st at b s)
  unfolding step in_tag_step with_attribute
  step_stays (between {n} {ats} {spaced}) at b s =
      either (is_blank b) (on between)
      (either (eqb b '>') (whole_stays n ats [])
      (either (eqb b '/') (on short) (either (spaced && continues_name [] b) (on attribute) faulty)))
  step_stays (attribute {n} {ats} {a}) at b s = either (continues_name a b) (on attribute) (equals_stays n ats a b)
  step_stays (equals {n} {ats} {a}) at b s = equals_stays n ats a b
  step_stays (value {n} {ats} {a}) at b s =
      either (is_blank b) (on value) (either (eqb b quote || eqb b apostrophe) (on inside) faulty)
  step_stays (inside {n} {ats} {a} {q} {v}) at b s =
      either (eqb b q) (on between)
      (either (eqb b '<') faulty
      (fronts (cond (eqb b '&') (front_reference s) (front_character (b ∷ s))) at (b ∷ s) _ (λ c more. on inside)))
  step_stays (short {n} {ats}) at b s = either (eqb b '>') (whole_stays n ats (end_tag p n ∷ [])) faulty

  -- what is read of it where nothing is due
  abbrev Late : List Token → Type 0
  Late ts = elements (outside nothing_due) ts ≡ bad p

  late_start : (n : List ℕ) (ats : List Attribute) (ts : List Token) → Late (start_tag p n ats ∷ ts)
  unfolding turn opened
  late_start n ats ts = turns_bad (outside nothing_due) (start_tag p n ats) ts p refl

  late_fault : Late (fault p ∷ [])
  unfolding turn
  late_fault = turns_bad (outside nothing_due) (fault p) [] p refl

  pub late_cut : (q : ℕ) → Late (cut_tag p q ∷ [])
  unfolding turn cut_short
  late_cut q = turns_bad (outside nothing_due) (cut_tag p q) [] p refl

  late_end : {st : State} → InTag p st → (at : ℕ) → Late (at_end st at ∷ [])
  unfolding at_end
  late_end between at = late_cut at
  late_end attribute at = late_cut at
  late_end equals at = late_cut at
  late_end value at = late_cut at
  late_end inside at = late_cut at
  late_end short at = late_cut at

  stops : (st : State) (t : Token) (at b : ℕ) (s : List ℕ) → step st at b s ≡ stop t → tokens st 0 at (b ∷ s) ≡ t ∷ []
  unfolding tokens
  stops st t at b s e = rw (e, tokens)

  module _ (st : State) (at b : ℕ) (s : List ℕ) (later : (st' : State) (k i : ℕ) → InTag p st' → Late (tokens st' k i s)) where
    late_step : (m : Move) → step st at b s ≡ m → Stays p m → Late (tokens st 0 at (b ∷ s))
    late_step (go st' k) e (on i) = ap (elements (outside nothing_due)) (goes st st' at b k s e) ∙ later st' k (suc at) i
    late_step (give ts k) e (whole {n} {ats} {ts = more}) =
        ap (elements (outside nothing_due)) (gives st (start_tag p n ats ∷ more) at b k s e) ∙ late_start n ats _
    late_step (stop t) e faulty = ap (elements (outside nothing_due)) (stops st (fault p) at b s e) ∙ late_fault
    late_step (stop t) e (ends {q}) = ap (elements (outside nothing_due)) (stops st (cut_tag p q) at b s e) ∙ late_cut q

  late_tokens : (s : List ℕ) (st : State) (k at : ℕ) → InTag p st → Late (tokens st k at s)
  unfolding tokens
  late_tokens [] st k at i = late_end i at
  late_tokens (b ∷ s) st zero at i = late_step st at b s (late_tokens s) (step st at b s) refl (step_stays i at b s)
  late_tokens (b ∷ s) st (suc k) at i = late_tokens s st k (suc at) i

-- THE LAW OF A LATE TAG
pub late_tag : (text : List ℕ) (place : ℕ) (name : List ℕ) (upto : ℕ)
    → elements (outside nothing_due) (tag_at text place name upto) ≡ bad place
late_tag text place name upto =
    late_tokens place (drop upto text) (in_tag (record { place = place; name = name; attributes = [] }) false) 0 upto between
