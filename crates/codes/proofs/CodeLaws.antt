-- The code at the head of a good record is the item's, and it has twelve bytes.
use Rattle.xliff.specs.Good.{GoodItem}
use Prim.Native.Nat.{ℕ, ◌+◌, ◌≤◌}
use mathlib.Core.Path.{◌≡◌, refl, sym, ap, ◌∙◌}
use mathlib.Core.Bool.{true, true≢false}
use mathlib.Core.List.{List, ◌++◌}
use Rattle.std.specs.Prelude.{None, is_some}
use native.Mathlib.Omega.{arith}
use lib.ListN.{length, drop, length-append, length-drop}
use Rattle.xliff.specs.Bytes.{two, four}
use Rattle.xliff.specs.Item.{Item, start, end, form_P, form_S, text, character, standalone, isolated, pair, annotation_start, annotation_end, mark}
use Rattle.xliff.specs.Encode.{Record, text_run, inline, code_bytes, field_bytes, record_bytes}
use Rattle.xliff.specs.Parse.{is, mark_of, mark_at}
use Rattle.walk.specs.Kept.{Inline, an_item, a_text}
use Rattle.walk.specs.Place.{Begins}
use Rattle.walk.proofs.PlaceLaws.{begins_least}
use Rattle.codes.specs.Codes.{code_at, code}

module _ (s : List ℕ) where
  pub item_code : (x : Item) → GoodItem x → code_at (record_bytes (inline x) ++ s) ≡ code x
  unfolding code_at mark_at mark_of is record_bytes mark field_bytes code_bytes two four
  item_code (text c) g = absurd g
  item_code (character c) g = refl
  item_code (standalone f) g = refl
  item_code (isolated start f) g = refl
  item_code (isolated end f) g = refl
  item_code (pair start form_P f) g = refl
  item_code (pair start form_S f) g = refl
  item_code (pair end form_P f) g = refl
  item_code (pair end form_S f) g = refl
  item_code (annotation_start form_P i t) g = refl
  item_code (annotation_start form_S i t) g = refl
  item_code (annotation_end form_P i) g = refl
  item_code (annotation_end form_S i) g = refl

  pub text_code : (cs : List ℕ) → code_at (record_bytes (text_run cs) ++ s) ≡ None
  unfolding code_at mark_at mark_of is record_bytes two
  text_code cs = refl

code_width : (x : Item) → is_some (code x) ≡ true → length (record_bytes (inline x)) ≡ 12
unfolding record_bytes mark field_bytes code_bytes two
code_width (text c) h = absurd (true≢false (sym h))
code_width (character c) h = absurd (true≢false (sym h))
code_width (standalone f) h = refl
code_width (isolated start f) h = refl
code_width (isolated end f) h = refl
code_width (pair start form_P f) h = refl
code_width (pair start form_S f) h = refl
code_width (pair end form_P f) h = refl
code_width (pair end form_S f) h = refl
code_width (annotation_start w i t) h = absurd (true≢false (sym h))
code_width (annotation_end w i) h = absurd (true≢false (sym h))

-- a record that is a code has twelve bytes
pub code_long : (r : Record) (s : List ℕ) → Inline r → is_some (code_at (record_bytes r ++ s)) ≡ true → length (record_bytes r) ≡ 12
code_long (Rattle.xliff.specs.Encode.opening _) s x3 h = elim x3 [ ]
code_long Rattle.xliff.specs.Encode.closing s x3 h = elim x3 [ ]
code_long (Rattle.xliff.specs.Encode.part_head _) s x5 h = elim x5 [ ]
code_long (Rattle.xliff.specs.Encode.target_head _) s x6 h = elim x6 [ ]
code_long Rattle.xliff.specs.Encode.ill_text s x6 h = elim x6 [ ]
code_long (Rattle.xliff.specs.Encode.broken _) s x8 h = elim x8 [ ]
code_long (inline x) s (an_item g) h = code_width x (ap is_some (sym (item_code s x g)) ∙ h)
code_long (text_run cs) s (a_text a l) h = absurd (true≢false (sym h ∙ ap is_some (text_code s cs)))

pub begins_code : (t : List ℕ) → Begins t → is_some (code_at t) ≡ true → 12 ≤ length t
begins_code t (r, s, g, e) h =
    let w : length (record_bytes r) ≡ 12 = code_long r s g (ap (λ (l : List ℕ). is_some (code_at l)) (sym e) ∙ h) in
    let l : length t ≡ length (record_bytes r ++ s) = ap length e in
    omega (arith, length-append (record_bytes r) s)

-- the record at an offset
pub begins_there : (c : List ℕ) (at : ℕ) → Begins (drop at c) → at + 4 ≤ length c
begins_there c at b = omega (arith, begins_least (drop at c) b, length-drop at c)

pub code_there : (c : List ℕ) (at : ℕ) → Begins (drop at c) → is_some (code_at (drop at c)) ≡ true → at + 12 ≤ length c
code_there c at b h = omega (arith, begins_code (drop at c) b h, length-drop at c)
