-- What is found at the front of a value lies within the text.
use Prim.Native.Nat.{ℕ, suc, ◌+◌, ◌≤◌, ◌<◌}
use mathlib.Core.Path.{◌≡◌, sym, ap, ◌∙◌}
use mathlib.Core.Bool.{cond}
use mathlib.Core.List.{List, ◌∷◌}
use native.Mathlib.Omega.{arith}
use lib.ListN.{length, get_or, drop, length-drop}
use lib.Seq.{drop-cons}
use lib.Dec.{eqb}
use Rattle.xml.specs.Characters.{'<', '&', found, wrong, front_character, front_reference}
use Rattle.xml.proofs.FitLaws.{Fits, wrong_fits, fits_is, fits_or, character_fits, reference_fits}
use Rattle.xml_values.specs.Values.{value_front}

value_fits : (b : ℕ) (s : List ℕ) → Fits (length s) (value_front (b ∷ s))
unfolding value_front
value_fits b s =
    fits_or (length s) (eqb b '<') wrong (cond (eqb b '&') (front_reference s) (front_character (b ∷ s))) (λ h. wrong_fits)
    (fits_or (length s) (eqb b '&') (front_reference s) (front_character (b ∷ s)) (λ h. reference_fits s) (character_fits b s))

pub value_within : (s : List ℕ) (i c w : ℕ) → i < length s → value_front (drop i s) ≡ found c w → i + 1 + w ≤ length s
value_within s i c w h e =
    let k =
    fits_is (length (drop (suc i) s)) c w (value_front (get_or s i 0 ∷ drop (suc i) s))
    (value_fits (get_or s i 0) (drop (suc i) s)) (sym (ap value_front (drop-cons s i 0 h)) ∙ e) in
    let z = length-drop (suc i) s in
    omega arith
