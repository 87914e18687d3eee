-- What is found at the front of bytes lies within them.
use Prim.Native.Nat.{ℕ, suc, ◌+◌, ◌*◌, ◌-◌, ◌≤◌, ◌<◌}
use mathlib.Core.Path.{◌≡◌, refl, sym, ap, ◌∙◌, subst}
use mathlib.Core.Bool.{Bool, true, false, ◌&&◌, cond}
use mathlib.Core.List.{List, [], ◌∷◌}
use mathlib.Core.Option.{Option, none, some}
use native.Mathlib.Omega.{arith}
use lib.ListN.{length, get_or, take, drop, length-take, length-drop}
use lib.Seq.{drop-cons}
use lib.Dec.{eqb}
use Rattle.xliff.specs.Bytes.{equal}
use Rattle.xliff.specs.Text.{utf8, spelled, xml_allows, begins_with, allowed_first}
use Rattle.xliff.proofs.lists.Tests.{and_right, equal_true}
use Rattle.xml.specs.Words.{'amp', 'lt', 'gt', 'quot', 'apos', Words·all}
use Rattle.xml.specs.Characters.{'#', semicolon, Front, found, cut, wrong, begins, cut_character, front_character, only_name, entity, digit_value, numeric, numeric_reference, front_reference}
use Rattle.xliff.proofs.text.Utf8.{utf8_nonempty}
use Rattle.xml.proofs.BoundLaws.{ended}

-- where a code point is found, it takes at most n bytes behind the first
pub data Fits (n : ℕ) : Front → Type 0 where
  found_fits : {c w : ℕ} → w ≤ n → Fits n (found c w)
  cut_fits : Fits n cut
  wrong_fits : Fits n wrong

pub fits_is : (n c w : ℕ) (f : Front) → Fits n f → f ≡ found c w → w ≤ n
fits_is n c w f (found_fits {c = d} {w = x} h) e = let g : x ≡ w = cc in omega arith
fits_is n c w f cut_fits e = absurd (let z : ◌≡◌ {A = ℕ} 0 1 = cc in omega arith)
fits_is n c w f wrong_fits e = absurd (let z : ◌≡◌ {A = ℕ} 0 1 = cc in omega arith)

pub fits_or : (n : ℕ) (b : Bool) (x y : Front) → (b ≡ true → Fits n x) → Fits n y → Fits n (cond b x y)
fits_or n true x y h k = h refl
fits_or n false x y h k = k

-- characters
prefix_fits : (u s : List ℕ) → equal u (take (length u) s) ≡ true → length u ≤ length s
prefix_fits u s h = let e = ap length (equal_true u (take (length u) s) h) in omega (arith, length-take (length u) s)

first_fits : (s : List ℕ) (c : ℕ) → allowed_first s ≡ some c → length (utf8 c) ≤ length s
unfolding allowed_first begins_with
first_fits s c e = by (xml_allows (spelled s) && equal (utf8 (spelled s)) (take (length (utf8 (spelled s))) s)) refl e
  where
    by : (x : Bool) → xml_allows (spelled s) && equal (utf8 (spelled s)) (take (length (utf8 (spelled s))) s) ≡ x
        → ◌≡◌ {A = Option ℕ} (cond x (some (spelled s)) none) (some c) → length (utf8 c) ≤ length s
    by true h e =
        let g : spelled s ≡ c = cc in
        subst (λ (d : ℕ). length (utf8 d) ≤ length s) g
        (prefix_fits (utf8 (spelled s)) s (and_right (xml_allows (spelled s)) _ h))
    by false h e = absurd (let z : ◌≡◌ {A = ℕ} 0 1 = cc in omega arith)

pub character_fits : (b : ℕ) (s : List ℕ) → Fits (length s) (front_character (b ∷ s))
unfolding front_character
character_fits b s = by (allowed_first (b ∷ s)) refl
  where
    other : (x : Bool) → Fits (length s) (cond x cut wrong)
    other true = cut_fits
    other false = wrong_fits

    by : (o : Option ℕ) → allowed_first (b ∷ s) ≡ o
        → Fits (length s)
        (elim o [ some c ↦ found c (length (utf8 c) - 1) | none ↦ cond (cut_character (b ∷ s)) cut wrong ])
    by none e = other (cut_character (b ∷ s))
    by (some c) e =
        found_fits {w = length (utf8 c) - 1}
        (let h = first_fits (b ∷ s) c e in
        let k = utf8_nonempty c in
        omega arith)

-- references
pub begins_fits : (w s : List ℕ) → begins w s ≡ true → length w ≤ length s
unfolding begins
begins_fits [] s h = omega arith
begins_fits (a ∷ w) [] h = absurd (let z : ◌≡◌ {A = ℕ} 0 1 = cc in omega arith)
begins_fits (a ∷ w) (b ∷ s) h = let k = begins_fits w s (and_right (eqb a b) _ h) in omega arith

entity_fits : (s : List ℕ) → Fits (length s) (entity s)
unfolding entity Words·all
entity_fits s =
    fits_or (length s) (begins 'amp' s) _ _ (λ h. found_fits (begins_fits 'amp' s h))
    (fits_or (length s) (begins 'lt' s) _ _ (λ h. found_fits (begins_fits 'lt' s h))
    (fits_or (length s) (begins 'gt' s) _ _ (λ h. found_fits (begins_fits 'gt' s h))
    (fits_or (length s) (begins 'quot' s) _ _ (λ h. found_fits (begins_fits 'quot' s h))
    (fits_or (length s) (begins 'apos' s) _ _ (λ h. found_fits (begins_fits 'apos' s h))
    (fits_or (length s) (only_name [] s) cut wrong (λ h. cut_fits) wrong_fits)))))

numeric_fits : (base : ℕ) (any : Bool) (v size : ℕ) (s : List ℕ) (n : ℕ) → size + length s ≤ suc n
    → Fits n (numeric base any v size s)
unfolding numeric
numeric_fits base any v size [] n h = cut_fits
numeric_fits base any v size (b ∷ s) n h =
    by (digit_value base b) (λ d. numeric_fits base true (v * base + d) (suc size) s n (omega arith))
  where
    by : (o : Option ℕ) → ((d : ℕ) → Fits n (numeric base true (v * base + d) (suc size) s))
        → Fits n (elim o [ some d ↦ numeric base true (v * base + d) (suc size) s | none ↦ ended b any v size ])
    by none ih =
        fits_or n (eqb b semicolon && any && xml_allows v) (found v size) wrong (λ k. found_fits (omega arith)) wrong_fits
    by (some d) ih = ih d

behind_fits : (s : List ℕ) → Fits (suc (length s)) (numeric_reference s)
unfolding numeric_reference
behind_fits [] = cut_fits
behind_fits (b ∷ s) =
    fits_or (suc (length (b ∷ s))) (eqb b 120) (numeric 16 false 0 3 s) (numeric 10 false 0 2 (b ∷ s))
    (λ h. numeric_fits 16 false 0 3 s (suc (length (b ∷ s))) (omega arith))
    (numeric_fits 10 false 0 2 (b ∷ s) (suc (length (b ∷ s))) (omega arith))

pub reference_fits : (s : List ℕ) → Fits (length s) (front_reference s)
unfolding front_reference
reference_fits [] = cut_fits
reference_fits (b ∷ s) =
    fits_or (length (b ∷ s)) (eqb b '#') (numeric_reference s) (entity (b ∷ s)) (λ h. behind_fits s) (entity_fits (b ∷ s))

pub character_within : (s : List ℕ) (i c w : ℕ) → i < length s → front_character (drop i s) ≡ found c w → i + 1 + w ≤ length s
character_within s i c w h e =
    let k =
    fits_is (length (drop (suc i) s)) c w (front_character (get_or s i 0 ∷ drop (suc i) s))
    (character_fits (get_or s i 0) (drop (suc i) s)) (sym (ap front_character (drop-cons s i 0 h)) ∙ e) in
    let z = length-drop (suc i) s in
    omega arith
