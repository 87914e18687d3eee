use mathlib.Core.Path.{refl}
use Rattle.xml.specs.Attributes.{with, code_fields}
use Rattle.xml_elements.specs.Reading.{BySlots, words_of}
use Rattle.xml_elements.proofs.code_fields.Goals as goal

-- id: none
pub returns-in_err-id : goal.returns-in_err-id
unfolding BySlots code_fields words_of with
returns-in_err-id c = λ ats told. rw (c.from_residual.ensures, ← c.in_err-id.ensures ats told) refl

-- copy_of: none
pub returns-in_err-copy_of : goal.returns-in_err-copy_of
unfolding BySlots code_fields words_of with
returns-in_err-copy_of c =
    λ ats told.
    rw (
      c.from_residual-in_err-copy_of.ensures,
      ← c.in_ok-id.ensures ats told,
      ← c.in_err-copy_of.ensures ats told,
    ) refl

-- data_ref: none
pub returns-in_err-data_ref : goal.returns-in_err-data_ref
unfolding BySlots code_fields words_of with
returns-in_err-data_ref c =
    λ ats told.
    rw (
      c.from_residual-in_err-data_ref.ensures,
      ← c.in_ok-id.ensures ats told,
      ← c.in_ok-copy_of.ensures ats told,
      ← c.in_err-data_ref.ensures ats told,
    ) refl

-- copy: none
pub returns-in_err-copy : goal.returns-in_err-copy
unfolding BySlots code_fields words_of with
returns-in_err-copy c =
    λ ats told.
    rw (
      c.from_residual-in_err-copy.ensures,
      ← c.in_ok-id.ensures ats told,
      ← c.in_ok-copy_of.ensures ats told,
      ← c.in_ok-data_ref.ensures ats told,
      ← c.in_err-copy.ensures ats told,
    ) refl

-- delete: none
pub returns-in_err-delete : goal.returns-in_err-delete
unfolding BySlots code_fields words_of with
returns-in_err-delete c =
    λ ats told.
    rw (
      c.from_residual-in_err-delete.ensures,
      ← c.in_ok-id.ensures ats told,
      ← c.in_ok-copy_of.ensures ats told,
      ← c.in_ok-data_ref.ensures ats told,
      ← c.in_ok-copy.ensures ats told,
      ← c.in_err-delete.ensures ats told,
    ) refl

-- overlap: none
pub returns-in_err-overlap : goal.returns-in_err-overlap
unfolding BySlots code_fields words_of with
returns-in_err-overlap c =
    λ ats told.
    rw (
      c.from_residual-in_err-overlap.ensures,
      ← c.in_ok-id.ensures ats told,
      ← c.in_ok-copy_of.ensures ats told,
      ← c.in_ok-data_ref.ensures ats told,
      ← c.in_ok-copy.ensures ats told,
      ← c.in_ok-delete.ensures ats told,
      c.in_err-overlap.was,
    ) refl

-- reorder: none
pub returns-in_err-reorder : goal.returns-in_err-reorder
unfolding BySlots code_fields words_of with
returns-in_err-reorder c =
    λ ats told.
    rw (
      c.from_residual-in_err-reorder.ensures,
      ← c.in_ok-id.ensures ats told,
      ← c.in_ok-copy_of.ensures ats told,
      ← c.in_ok-data_ref.ensures ats told,
      ← c.in_ok-copy.ensures ats told,
      ← c.in_ok-delete.ensures ats told,
      c.in_ok-overlap.was,
      ← c.in_err-reorder.ensures ats told,
    ) refl

-- Some(Fields { .. })
pub returns : goal.returns
unfolding BySlots code_fields words_of with
returns c =
    λ ats told.
    rw (
      ← c.in_ok-id.ensures ats told,
      ← c.in_ok-copy_of.ensures ats told,
      ← c.in_ok-data_ref.ensures ats told,
      ← c.in_ok-copy.ensures ats told,
      ← c.in_ok-delete.ensures ats told,
      c.in_ok-overlap.was,
      ← c.in_ok-reorder.ensures ats told,
    ) refl
