-- The bytes written are those of the rewritten unit.
use Prim.Native.Nat.{ℕ}
use mathlib.Core.Path.{◌≡◌, sym, ap, ap₂, ◌∙◌}
use mathlib.Core.List.{List, ◌++◌}
use lib.ListN.{length, drop}
use lib.Seq.{drop-append_seam}
use lib.Dec.{eqb}
use Rattle.xliff.specs.Bytes.{'P', 'S'}
use Rattle.xliff.specs.Encode.{spell, encode}
use Rattle.xliff.specs.Parse.{unit}
use Rattle.xliff.specs.Rewrite.{form_of, rewrite_unit}
use Rattle.places.specs.Passes.{Passes}
use Rattle.writer.specs.Pieces.{lead}
use Rattle.rewrite_marks.specs.Rewritten.{rewritten_bytes}
use Rattle.rewrite_marks.proofs.RecordLaws.{unit_rewritten}
use Rattle.rewrite_marks.proofs.LengthLaws.{length_kept}

behind : (t out l : List ℕ) → l ≡ lead t out → drop (length t) l ≡ drop (length t) out
behind t out l e = ap (drop (length t)) e ∙ drop-append_seam t (drop (length t) out)

pub copied : (t out l : List ℕ) → l ≡ lead t out → l ≡ lead t l
copied t out l e = e ∙ ap (λ (r : List ℕ). t ++ r) (sym (behind t out l e))

module _ (t : List ℕ) (side i w : ℕ) where
  bytes_are : rewritten_bytes (eqb side 'S') i (eqb w 'P') t ≡ encode (rewrite_unit (unit t) side i (form_of w))
  unfolding rewritten_bytes encode form_of
  bytes_are = ap spell (sym (unit_rewritten i (form_of w) (unit t) side))

  pub result_wrote : Passes t → (out l last : List ℕ) → l ≡ lead t out → last ≡ rewritten_bytes (eqb side 'S') i (eqb w 'P') t ++ drop (length t) l
      → last ≡ lead (encode (rewrite_unit (unit t) side i (form_of w))) out
  result_wrote p out l last e h =
      h ∙ ap₂ ◌++◌ bytes_are (behind t out l e ∙ ap (λ (n : ℕ). drop n out) (sym (length_kept i (form_of w) t side p)))
