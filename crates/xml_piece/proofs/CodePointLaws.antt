-- A code point that is found in a text is one that XML allows, so at most 10FFFF; a reference lies within the text.
use Prim.Native.Nat.{ℕ, suc, ◌+◌, ◌*◌, ◌-◌, ◌≤◌}
use mathlib.Core.Path.{◌≡◌, refl}
use mathlib.Core.Bool.{Bool, true, false, ◌&&◌, cond}
use mathlib.Core.List.{List, [], ◌∷◌}
use mathlib.Core.Option.{Option, none, some}
use native.Mathlib.Omega.{arith}
use lib.ListN.{length, drop, length-drop}
use lib.Dec.{eqb}
use Rattle.xliff.specs.Text.{between, xml_allows, utf8, allowed_first}
use Rattle.xliff.proofs.lists.Tests.{and_right}
use Rattle.xliff.proofs.text.Utf8.{allowed_bound, allowed_first_some}
use Rattle.xml.specs.Words.{'amp', 'lt', 'gt', 'quot', 'apos'}
use Rattle.xml.specs.Characters.{'#', semicolon, Front, found, cut, wrong, begins, cut_character, front_character, only_name, entity, digit_value, numeric, numeric_reference, front_reference}
use Rattle.xml.proofs.BoundLaws.{ended}
use Rattle.xml.proofs.FitLaws.{fits_is, reference_fits}

-- XML allows what is found
data Allowed : Front → Type 0 where
  found_allowed : {c w : ℕ} → xml_allows c ≡ true → Allowed (found c w)
  cut_allowed : Allowed cut
  wrong_allowed : Allowed wrong

bounded : (c w : ℕ) (f : Front) → Allowed f → f ≡ found c w → c ≤ 0x10FFFF
bounded c w f (found_allowed {c = d} h) e = let k = allowed_bound d h in let g : d ≡ c = cc in omega arith
bounded c w f cut_allowed e = absurd (let z : ◌≡◌ {A = ℕ} 0 1 = cc in omega arith)
bounded c w f wrong_allowed e = absurd (let z : ◌≡◌ {A = ℕ} 0 1 = cc in omega arith)

allowed_or : (b : Bool) (x y : Front) → (b ≡ true → Allowed x) → Allowed y → Allowed (cond b x y)
allowed_or true x y h k = h refl
allowed_or false x y h k = k

-- characters
character_allowed : (s : List ℕ) → Allowed (front_character s)
unfolding front_character
character_allowed s = by (allowed_first s) refl
  where
    other : (x : Bool) → Allowed (cond x cut wrong)
    other true = cut_allowed
    other false = wrong_allowed

    by : (o : Option ℕ) → allowed_first s ≡ o
        → Allowed (elim o [ some c ↦ found c (length (utf8 c) - 1) | none ↦ cond (cut_character s) cut wrong ])
    by none e = other (cut_character s)
    by (some c) e = found_allowed (allowed_first_some s c e).0

pub character_bound : (s : List ℕ) (c w : ℕ) → front_character s ≡ found c w → c ≤ 0x10FFFF
character_bound s c w e = bounded c w (front_character s) (character_allowed s) e

-- references
entity_allowed : (s : List ℕ) → Allowed (entity s)
unfolding entity xml_allows between
entity_allowed s =
    allowed_or (begins 'amp' s) _ _ (λ h. found_allowed refl)
    (allowed_or (begins 'lt' s) _ _ (λ h. found_allowed refl)
    (allowed_or (begins 'gt' s) _ _ (λ h. found_allowed refl)
    (allowed_or (begins 'quot' s) _ _ (λ h. found_allowed refl)
    (allowed_or (begins 'apos' s) _ _ (λ h. found_allowed refl)
    (allowed_or (only_name [] s) cut wrong (λ h. cut_allowed) wrong_allowed)))))

numeric_allowed : (base : ℕ) (any : Bool) (v size : ℕ) (s : List ℕ) → Allowed (numeric base any v size s)
unfolding numeric
numeric_allowed base any v size [] = cut_allowed
numeric_allowed base any v size (b ∷ s) =
    by (digit_value base b) (λ d. numeric_allowed base true (v * base + d) (suc size) s)
  where
    by : (o : Option ℕ) → ((d : ℕ) → Allowed (numeric base true (v * base + d) (suc size) s))
        → Allowed (elim o [ some d ↦ numeric base true (v * base + d) (suc size) s | none ↦ ended b any v size ])
    by none ih =
        allowed_or (eqb b semicolon && any && xml_allows v) (found v size) wrong
        (λ k. found_allowed (and_right (eqb b semicolon && any) (xml_allows v) k)) wrong_allowed
    by (some d) ih = ih d

behind_allowed : (s : List ℕ) → Allowed (numeric_reference s)
unfolding numeric_reference
behind_allowed [] = cut_allowed
behind_allowed (b ∷ s) =
    allowed_or (eqb b 120) (numeric 16 false 0 3 s) (numeric 10 false 0 2 (b ∷ s))
    (λ h. numeric_allowed 16 false 0 3 s) (numeric_allowed 10 false 0 2 (b ∷ s))

reference_allowed : (s : List ℕ) → Allowed (front_reference s)
unfolding front_reference
reference_allowed [] = cut_allowed
reference_allowed (b ∷ s) =
    allowed_or (eqb b '#') (numeric_reference s) (entity (b ∷ s)) (λ h. behind_allowed s) (entity_allowed (b ∷ s))

pub reference_bound : (s : List ℕ) (c w : ℕ) → front_reference s ≡ found c w → c ≤ 0x10FFFF
reference_bound s c w e = bounded c w (front_reference s) (reference_allowed s) e

pub reference_within : (s : List ℕ) (i c w : ℕ) → i ≤ length s → front_reference (drop i s) ≡ found c w → i + w ≤ length s
reference_within s i c w h e =
    let k = fits_is (length (drop i s)) c w (front_reference (drop i s)) (reference_fits (drop i s)) e in
    let z = length-drop i s in
    omega arith
