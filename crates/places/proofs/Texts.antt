-- The bytes of a text as they stand in the table.
use Prim.Native.Nat.{ℕ, ◌+◌, ◌-◌, ◌≤◌}
use mathlib.Core.Path.{◌≡◌, sym, ap, ◌∙◌}
use mathlib.Core.List.{List, ◌∷◌, ◌++◌}
use native.Mathlib.Omega.{arith}
use lib.ListN.{length, take, drop}
use lib.Seq.{take-append_seam, drop-drop}
use Rattle.xliff.specs.Bytes.{two, gather}
use Rattle.xliff.specs.Text.{utf8s}
use Rattle.xliff.specs.Encode.{Record, text_run, record_bytes, spell}
use Rattle.places.specs.Offsets.{At}
use Rattle.places.proofs.Places.{at_next}

module _ (t : List ℕ) (at w : ℕ) (cs : List ℕ) (rs : List Record) (a : At t at (text_run cs ∷ rs))
    (e : w ≡ length (record_bytes (text_run cs))) where
  wide : w ≡ 4 + length (utf8s cs)
  unfolding record_bytes two
  wide = omega (arith, e)

  pub text_fits : (at + 4 ≤ at + w) × (at + w ≤ length t)
  text_fits = let n = at_next t at (text_run cs) rs a in let k = wide in (omega arith, omega (arith, n.fits, e))

  pub text_behind : drop (at + 4) t ≡ utf8s cs ++ spell rs
  unfolding record_bytes two spell gather
  text_behind =
      sym (drop-drop 4 at t) ∙ sym (ap (drop 4) a.rest)

  pub text_there : take (at + w - (at + 4)) (drop (at + 4) t) ≡ utf8s cs
  text_there =
      ap (λ (n : ℕ). take n (drop (at + 4) t))
      (let k = wide in let z : at + w - (at + 4) ≡ length (utf8s cs) = omega arith in z)
      ∙ ap (take (length (utf8s cs))) text_behind ∙ take-append_seam (utf8s cs) (spell rs)
