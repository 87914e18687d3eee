-- Two codes are the same when flattened where their numbers and the bytes of their fields are equal.
use Rattle.xliff.specs.Good.{GoodItem, gets}
use Prim.Native.Nat.{ℕ, ◌/◌, ◌%◌}
use mathlib.Core.Path.{◌≡◌, refl, sym, ap, ◌∙◌}
use mathlib.Core.Bool.{Bool, true, false, ◌&&◌, true≢false}
use mathlib.Core.List.{List, ◌++◌}
use native.Mathlib.Omega.{arith}
use Rattle.std.specs.Prelude.{is_some}
use lib.Dec.{eqb}
use borrow.Author.Tests.{eqb-true, eq-eqb}
use Rattle.xliff.specs.Bytes.{two, four, equal, among}
use Rattle.xliff.specs.Item.{Item, Fields, start, end, form_P, form_S, text, character, standalone, isolated, pair, annotation_start, annotation_end, mark, numbers, code_numbers, same, in_form, flat, class, fields, non_removable}
use Rattle.xliff.specs.Parse.{is, mark_of, mark_at}
use Rattle.xliff.specs.Encode.{inline, code_bytes, field_bytes, record_bytes, text_run}
use Rattle.xliff.specs.SetTarget.{same_flat}
use Rattle.xliff.proofs.lists.Tests.{two_value}
use Rattle.codes.specs.Codes.{code_at, code, are_same}
use Rattle.codes.proofs.CodeLaws.{item_code}
use Rattle.codes.specs.Lost.{non_removable_at, fields_at, same_at, is_code_at}

-- numbers are equal where their two bytes are
two_same : (a b : ℕ) (r : Bool) → eqb (a / 256) (b / 256) && (eqb (a % 256) (b % 256) && r) ≡ eqb a b && r
two_same a b r = by (eqb a b) (eqb (a / 256) (b / 256)) (eqb (a % 256) (b % 256)) refl refl refl
  where
    by : (e h l : Bool) → eqb a b ≡ e → eqb (a / 256) (b / 256) ≡ h → eqb (a % 256) (b % 256) ≡ l → h && (l && r) ≡ e && r
    by true true true p q s = refl
    by false true true p q s =
        let z : a ≡ b = let u = eqb-true (a / 256) (b / 256) q in let v = eqb-true (a % 256) (b % 256) s in
        omega (arith, two_value a, two_value b) in
        let w : true ≡ false = sym (eq-eqb a b z) ∙ p in
        absurd (true≢false w)
    by false false l p q s = refl
    by false true false p q s = refl
    by true false l p q s = absurd (true≢false (sym (eq-eqb (a / 256) (b / 256) (ap (λ (n : ℕ). n / 256) (eqb-true a b p))) ∙ q))
    by true true false p q s = absurd (true≢false (sym (eq-eqb (a % 256) (b % 256) (ap (λ (n : ℕ). n % 256) (eqb-true a b p))) ∙ s))

pub fields_same : (f g : Fields) → equal (code_bytes f) (code_bytes g) ≡ equal (code_numbers f) (code_numbers g)
unfolding equal code_bytes code_numbers two
fields_same f g =
    two_same f.id g.id _
    ∙ ap (λ (r : Bool). eqb f.id g.id && r)
    (two_same f.copy_of g.copy_of _ ∙ ap (λ (r : Bool). eqb f.copy_of g.copy_of && r) (two_same f.data_ref g.data_ref _))

-- a code and any item, flattened
flat_same : (x y : Item) → is_some (code x) ≡ true
    → same_flat x y ≡ are_same (code y) (code x) && equal (code_numbers (fields x)) (code_numbers (fields y))
unfolding same_flat same flat in_form mark numbers fields equal
flat_same (text c) y h = absurd (true≢false (sym h))
flat_same (character c) y h = absurd (true≢false (sym h))
flat_same (annotation_start w i t) y h = absurd (true≢false (sym h))
flat_same (annotation_end w i) y h = absurd (true≢false (sym h))
flat_same (standalone f) (text d) h = refl
flat_same (standalone f) (character d) h = refl
flat_same (standalone f) (standalone g) h = refl
flat_same (standalone f) (isolated start g) h = refl
flat_same (standalone f) (isolated end g) h = refl
flat_same (standalone f) (pair start v g) h = refl
flat_same (standalone f) (pair end v g) h = refl
flat_same (standalone f) (annotation_start v j t) h = refl
flat_same (standalone f) (annotation_end v j) h = refl
flat_same (isolated start f) (text d) h = refl
flat_same (isolated start f) (character d) h = refl
flat_same (isolated start f) (standalone g) h = refl
flat_same (isolated start f) (isolated start g) h = refl
flat_same (isolated start f) (isolated end g) h = refl
flat_same (isolated start f) (pair start v g) h = refl
flat_same (isolated start f) (pair end v g) h = refl
flat_same (isolated start f) (annotation_start v j t) h = refl
flat_same (isolated start f) (annotation_end v j) h = refl
flat_same (isolated end f) (text d) h = refl
flat_same (isolated end f) (character d) h = refl
flat_same (isolated end f) (standalone g) h = refl
flat_same (isolated end f) (isolated start g) h = refl
flat_same (isolated end f) (isolated end g) h = refl
flat_same (isolated end f) (pair start v g) h = refl
flat_same (isolated end f) (pair end v g) h = refl
flat_same (isolated end f) (annotation_start v j t) h = refl
flat_same (isolated end f) (annotation_end v j) h = refl
flat_same (pair start w f) (text d) h = refl
flat_same (pair start w f) (character d) h = refl
flat_same (pair start w f) (standalone g) h = refl
flat_same (pair start w f) (isolated start g) h = refl
flat_same (pair start w f) (isolated end g) h = refl
flat_same (pair start w f) (pair start v g) h = refl
flat_same (pair start w f) (pair end v g) h = refl
flat_same (pair start w f) (annotation_start v j t) h = refl
flat_same (pair start w f) (annotation_end v j) h = refl
flat_same (pair end w f) (text d) h = refl
flat_same (pair end w f) (character d) h = refl
flat_same (pair end w f) (standalone g) h = refl
flat_same (pair end w f) (isolated start g) h = refl
flat_same (pair end w f) (isolated end g) h = refl
flat_same (pair end w f) (pair start v g) h = refl
flat_same (pair end w f) (pair end v g) h = refl
flat_same (pair end w f) (annotation_start v j t) h = refl
flat_same (pair end w f) (annotation_end v j) h = refl

-- what is read of the bytes of an item
module _ (s : List ℕ) where
  item_fields : (x : Item) → is_some (code x) ≡ true → fields_at (record_bytes (inline x) ++ s) ≡ code_bytes (fields x)
  unfolding fields_at gets record_bytes mark field_bytes code_bytes two fields
  item_fields (text c) h = absurd (true≢false (sym h))
  item_fields (character c) h = absurd (true≢false (sym h))
  item_fields (standalone f) h = refl
  item_fields (isolated start f) h = refl
  item_fields (isolated end f) h = refl
  item_fields (pair start form_P f) h = refl
  item_fields (pair start form_S f) h = refl
  item_fields (pair end form_P f) h = refl
  item_fields (pair end form_S f) h = refl
  item_fields (annotation_start w i t) h = absurd (true≢false (sym h))
  item_fields (annotation_end w i) h = absurd (true≢false (sym h))

  pub item_non_removable : (x : Item) → GoodItem x → non_removable_at (record_bytes (inline x) ++ s) ≡ non_removable x
  unfolding non_removable_at code_at mark_at mark_of is record_bytes mark field_bytes code_bytes two four non_removable class fields among
  item_non_removable (text c) g = absurd g
  item_non_removable (character c) g = refl
  item_non_removable (standalone f) g = refl
  item_non_removable (isolated start f) g = refl
  item_non_removable (isolated end f) g = refl
  item_non_removable (pair start form_P f) g = refl
  item_non_removable (pair start form_S f) g = refl
  item_non_removable (pair end form_P f) g = refl
  item_non_removable (pair end form_S f) g = refl
  item_non_removable (annotation_start form_P i t) g = refl
  item_non_removable (annotation_start form_S i t) g = refl
  item_non_removable (annotation_end form_P i) g = refl
  item_non_removable (annotation_end form_S i) g = refl

  pub text_non_removable : (cs : List ℕ) → non_removable_at (record_bytes (text_run cs) ++ s) ≡ false
  unfolding non_removable_at code_at mark_at mark_of is record_bytes two
  text_non_removable cs = refl

  pub item_same : (t : List ℕ) (y : Item) → GoodItem y → same_at t (record_bytes (inline y) ++ s) ≡ is_code_at t y
  unfolding same_at is_code_at fields_at gets code_at mark_at mark_of is record_bytes mark field_bytes code_bytes two four fields
  item_same t (text c) g = absurd g
  item_same t (character c) g = refl
  item_same t (standalone f) g = refl
  item_same t (isolated start f) g = refl
  item_same t (isolated end f) g = refl
  item_same t (pair start form_P f) g = refl
  item_same t (pair start form_S f) g = refl
  item_same t (pair end form_P f) g = refl
  item_same t (pair end form_S f) g = refl
  item_same t (annotation_start form_P i l) g = refl
  item_same t (annotation_start form_S i l) g = refl
  item_same t (annotation_end form_P i) g = refl
  item_same t (annotation_end form_S i) g = refl

  pub text_same : (t cs : List ℕ) → same_at t (record_bytes (text_run cs) ++ s) ≡ false
  unfolding same_at code_at mark_at mark_of is record_bytes two
  text_same t cs = refl

  -- a code is told from the items of a content by its bytes as by the flattened item
  pub code_same : (x : Item) → GoodItem x → is_some (code x) ≡ true → (y : Item) → is_code_at (record_bytes (inline x) ++ s) y ≡ same_flat x y
  unfolding is_code_at
  code_same x g h y =
      rw (item_code s x g, item_fields x h, fields_same (fields x) (fields y)) (sym (flat_same x y h))
