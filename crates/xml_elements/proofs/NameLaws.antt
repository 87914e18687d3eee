-- The inline elements by their names: one test after the other.
use Prim.Native.Nat.{ℕ}
use mathlib.Core.Path.{◌≡◌, refl}
use mathlib.Core.Bool.{true, false}
use mathlib.Core.List.{List}
use mathlib.Core.Option.{Option, none}
use Rattle.xliff.specs.Bytes.{equal}
use Rattle.xml.specs.Words.{'cp', 'ph', 'pc', 'sc', 'ec', 'mrk', 'sm', 'em'}
use Rattle.xml.specs.Elements.{Inline, read_cp, read_ph, read_pc, read_sc, read_ec, read_mrk, read_sm, read_em, inline_of_name}
use Rattle.xml_slots.specs.Slots.{ByAttributes}
use Rattle.xml_elements.specs.Meanings.{annotation_of_name}

module _ (n slots : List ℕ) (count : ℕ) (r : Option Inline) where
  pub is_cp : equal n 'cp' ≡ true → ByAttributes slots count read_cp r → ByAttributes slots count (inline_of_name n) r
  unfolding ByAttributes inline_of_name
  is_cp e told ats s = rw e (told ats s)

  module _ (cp : equal n 'cp' ≡ false) where
    pub is_ph : equal n 'ph' ≡ true → ByAttributes slots count read_ph r → ByAttributes slots count (inline_of_name n) r
    unfolding ByAttributes inline_of_name
    is_ph e told ats s = rw (cp, e) (told ats s)

    module _ (ph : equal n 'ph' ≡ false) where
      pub is_pc : equal n 'pc' ≡ true → ByAttributes slots count read_pc r → ByAttributes slots count (inline_of_name n) r
      unfolding ByAttributes inline_of_name
      is_pc e told ats s = rw (cp, ph, e) (told ats s)

      module _ (pc : equal n 'pc' ≡ false) where
        pub is_sc : equal n 'sc' ≡ true → ByAttributes slots count read_sc r → ByAttributes slots count (inline_of_name n) r
        unfolding ByAttributes inline_of_name
        is_sc e told ats s = rw (cp, ph, pc, e) (told ats s)

        module _ (sc : equal n 'sc' ≡ false) where
          pub is_ec : equal n 'ec' ≡ true → ByAttributes slots count read_ec r → ByAttributes slots count (inline_of_name n) r
          unfolding ByAttributes inline_of_name
          is_ec e told ats s = rw (cp, ph, pc, sc, e) (told ats s)

          pub is_annotation : equal n 'ec' ≡ false → ByAttributes slots count (annotation_of_name n) r
              → ByAttributes slots count (inline_of_name n) r
          unfolding ByAttributes inline_of_name annotation_of_name
          is_annotation e told ats s = rw (cp, ph, pc, sc, e) (told ats s)

  pub is_mrk : equal n 'mrk' ≡ true → ByAttributes slots count read_mrk r → ByAttributes slots count (annotation_of_name n) r
  unfolding ByAttributes annotation_of_name
  is_mrk e told ats s = rw e (told ats s)

  module _ (mrk : equal n 'mrk' ≡ false) where
    pub is_sm : equal n 'sm' ≡ true → ByAttributes slots count read_sm r → ByAttributes slots count (annotation_of_name n) r
    unfolding ByAttributes annotation_of_name
    is_sm e told ats s = rw (mrk, e) (told ats s)

    module _ (sm : equal n 'sm' ≡ false) where
      pub is_em : equal n 'em' ≡ true → ByAttributes slots count read_em r → ByAttributes slots count (annotation_of_name n) r
      unfolding ByAttributes annotation_of_name
      is_em e told ats s = rw (mrk, sm, e) (told ats s)

pub is_none : (n slots : List ℕ) (count : ℕ) → equal n 'mrk' ≡ false → equal n 'sm' ≡ false → equal n 'em' ≡ false
    → ByAttributes slots count (annotation_of_name n) none
unfolding ByAttributes annotation_of_name
is_none n slots count mrk sm em ats s = rw (mrk, sm, em) refl
