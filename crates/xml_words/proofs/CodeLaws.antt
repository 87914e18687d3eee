-- The code points of a value, one by one.
use Prim.Native.Nat.{ℕ, ◌+◌, ◌≤◌, ◌<◌}
use mathlib.Core.Path.{◌≡◌, refl, sym, ap, ◌∙◌, subst}
use mathlib.Core.Bool.{true, false}
use mathlib.Core.List.{List, [], ◌∷◌}
use native.Mathlib.Omega.{arith}
use lib.ListN.{length, get_or, drop, drop_of_length-le}
use lib.Seq.{drop-cons}
use borrow.Author.Tests.{eq-eqb, ne_eqb}
use Rattle.xml.specs.Characters.{Front, found, cut, wrong, is_blank}
use Rattle.xml.specs.Tokens.{value_character}
use Rattle.xml_values.specs.Values.{value_front, value_code, code_then, value_codes}
use Rattle.xml_values.proofs.ValueLaws.{codes_on}
use Rattle.xml_values.proofs.FitLaws.{value_within}
use Rattle.xml_words.specs.Codes.{PointRead, CodeRead}
use Rattle.xml_words.specs.declared.Code.{Code}
use Rattle.std.specs.Prelude.{Option as RustOption, Some, None, Err}
use Rattle.xml_front.specs.declared.Flaw.{Flaw}
use Rattle.xml_front.specs.declared.Flaw.TheVariants.{Cut, Wrong}
use Rattle.xml_front.specs.Fronts.{told}

-- the code point that a character gives
pub code_of_reference : (b c : ℕ) → b ≡ 38 → c ≡ value_code b c
unfolding value_code
code_of_reference b c e = rw (eq-eqb b 38 e)

module _ (b c : ℕ) (no_reference : b ≡ 38 → ⊥) where
  pub code_of_blank : is_blank c ≡ true → 32 ≡ value_code b c
  unfolding value_code value_character
  code_of_blank e = rw (ne_eqb b 38 no_reference, e)

  pub code_of_other : is_blank c ≡ false → c ≡ value_code b c
  unfolding value_code value_character
  code_of_other e = rw (ne_eqb b 38 no_reference, e)

-- where a value is over: at the text's end, and where nothing is found. (At its quote: `codes_end`.)
pub over_at_end : (s : List ℕ) (q i : ℕ) → length s ≤ i → value_codes q 0 (drop i s) ≡ []
unfolding value_codes
over_at_end s q i h = rw (drop_of_length-le s {i = i} h)

module _ (s : List ℕ) (q i : ℕ) (inside : i < length s) (no_quote : get_or s i 0 ≡ q → ⊥) where
  nothing : (f : Front) → value_front (drop i s) ≡ f → ((g : ℕ → List ℕ) → code_then (get_or s i 0) f g ≡ [])
      → value_codes q 0 (drop i s) ≡ []
  unfolding value_codes
  nothing f e h =
      ap (value_codes q 0) (drop-cons s i 0 inside)
      ∙ rw (ne_eqb (get_or s i 0) q no_quote, sym (ap value_front (drop-cons s i 0 inside)) ∙ e) (h _)

  over_where_cut : value_front (drop i s) ≡ cut → value_codes q 0 (drop i s) ≡ []
  unfolding code_then
  over_where_cut e = nothing cut e (λ g. refl)

  over_where_wrong : value_front (drop i s) ≡ wrong → value_codes q 0 (drop i s) ≡ []
  unfolding code_then
  over_where_wrong e = nothing wrong e (λ g. refl)

  pub over_at_fault : (e : Flaw) → value_front (drop i s) ≡ told (Err e) → value_codes q 0 (drop i s) ≡ []
  over_at_fault Cut h = over_where_cut h
  over_at_fault Wrong h = over_where_wrong h

  pub point_read : (c w d : ℕ) → value_front (drop i s) ≡ found c w → d ≡ value_code (get_or s i 0) c
      → PointRead s i q d (i + 1 + w)
  point_read c w d e g =
      let within = value_within s i c w inside e in
      record {
        ahead = omega arith;
        inside = within;
        codes = codes_on s q i c w inside (ne_eqb (get_or s i 0) q no_quote) e
            ∙ ap (λ (x : ℕ). x ∷ value_codes q 0 (drop (i + 1 + w) s)) (sym g);
      }

-- what `code_at` tells, by its variant
module _ (s : List ℕ) (at q : ℕ) (r : RustOption Code) (read : CodeRead s at q r) where
  pub a_point : (c : Code) → r ≡ Some c → PointRead s at q c.point c.next
  a_point c e = subst (λ (x : RustOption Code). CodeRead s at q x) e read

  pub no_point : r ≡ None → value_codes q 0 (drop at s) ≡ []
  no_point e = subst (λ (x : RustOption Code). CodeRead s at q x) e read
