-- A record is no longer than the bytes that it is read from.
use Prim.Native.Nat.{ℕ, suc, ◌≤◌, ◌<◌}
use mathlib.Core.Path.{◌≡◌, refl, sym, ap, subst}
use mathlib.Core.Bool.{Bool, true, false}
use mathlib.Core.Logic.{◌⊎◌, inl, inr}
use mathlib.Core.List.{List, [], ◌∷◌}
use native.Mathlib.Omega.{arith}
use lib.ListN.{length, drop, get_or, length-append}
use mir.Syntax.{w8}
use mir.Val.{Fits}
use Rattle.xliff.specs.Bytes.{Bytes, no_bytes, one_byte}
use Rattle.xliff.specs.Encode as encode
use Rattle.xliff.specs.Encode.{opening, closing, part_head, target_head, text_run, inline, ill_text, broken, record_bytes}
use Rattle.xliff.specs.Parse.{read, is_broken}
use Rattle.xliff.proofs.records.Read.{read_sound}
use Rattle.table.specs.Records.{record_of}
use Rattle.table.specs.Known.{KnownWidth}
use Rattle.table.specs.Meaning.{width}
use Rattle.table.specs.declared.Read.{Read}
use Rattle.table.specs.declared.Read.TheVariants.{Ill, Broken}
use Rattle.table.proofs.ReadLaws.{Tied, tied, taken, record_tied, known_is}

-- a list of bytes, from what is known of the elements of a slice
pub bytes_known : (s : List ℕ) → ((i : ℕ) → Fits w8 (get_or s i 0)) → Bytes s
bytes_known [] h = no_bytes
bytes_known (b ∷ s) h = let z : Fits w8 b = h 0 in let y : b < 256 = omega arith in one_byte y (bytes_known s (λ i. h (suc i)))

-- what the reader finds no good record in is given no width
pub no_width : {r : Read} → (r ≡ Ill) ⊎ ((b : Bool) × (r ≡ Broken b)) → 0 ≡ width r
no_width (inl e) = simp e
no_width (inr (b, e)) = simp e

-- what is no record has no bytes
or_none : (n : ℕ) (x : encode.Record) → (is_broken x ≡ false → length (record_bytes x) ≤ n) → length (record_bytes x) ≤ n
unfolding is_broken record_bytes
or_none n (opening c) h = h refl
or_none n closing h = h refl
or_none n (part_head p) h = h refl
or_none n (target_head q) h = h refl
or_none n (text_run cs) h = h refl
or_none n (inline x) h = h refl
or_none n ill_text h = omega arith
or_none n (broken b) h = omega arith

read_fits : (t : List ℕ) → Bytes t → length (record_bytes (read t)) ≤ length t
read_fits t h =
    or_none (length t) (read t) (λ b.
    omega (arith, ap length (read_sound t h b).bytes, length-append (record_bytes (read t)) (drop (length (record_bytes (read t))) t)))

known_fits : (t : List ℕ) (r : Read) → Bytes t → r ≡ record_of t true → width r ≤ length t
known_fits t r h e = by refl (subst (λ (z : Read). Tied t true z (read t)) (sym e) (record_tied t true))
  where
    by : {z : Read} {x : encode.Record} → read t ≡ x → Tied t true z x → width z ≤ length t
    by f (tied p q) = omega (arith, q, ap (λ (y : encode.Record). length (record_bytes y)) f, read_fits t h)
    by f (taken k m) = m

pub width_is : (t : List ℕ) (r : Read) (w : ℕ) → ((i : ℕ) → Fits w8 (get_or t i 0)) → r ≡ record_of t true → w ≡ width r → KnownWidth t w
width_is t r w h e f = record { found = r; known = known_is t r e; wide = f; fits = omega (arith, f, known_fits t r (bytes_known t h) e) }
