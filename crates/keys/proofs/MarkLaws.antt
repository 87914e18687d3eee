-- The key of a marker from its bytes is that of what the reader finds.
use Prim.Native.Nat.{ℕ, ◌+◌, ◌-◌, ◌*◌, ◌≤◌}
use mathlib.Core.Path.{◌≡◌, refl, sym, ◌∙◌, ap}
use mathlib.Core.Bool.{Bool, true, false, ◌&&◌, not, cond}
use mathlib.Core.List.{List}
use native.Mathlib.Omega.{arith}
use borrow.Author.Tests.{leb-true, leb-false}
use lib.ListN.{length, drop, get_or}
use lib.Dec.{eqb, leb}
use Rattle.places.specs.Markers.{item_at}
use Rattle.xliff.specs.Bytes.{two_at}
use Rattle.xliff.specs.Parse.{Mark, UN, UE, SG, IG, TG, TX, CP, PH, PO, PC, SC, EC, IS, IE, MO, SM, MC, EM, unknown, mark_at}
use Rattle.table.specs.Letters.{yes_no_none, fields_ok}
use Rattle.table.specs.Records.{sized, unit_of, segment_of, ignorable_of, target_of, fields_of, standalone_of, isolated_of, pair_of, annotation_start_of, annotation_end_of, text_of, character_of, record_by, record_of}
use Rattle.table.specs.declared.Half.TheVariants.{Start, End}
use Rattle.table.specs.declared.Form.TheVariants.{P, S}
use Rattle.table.specs.declared.Record.{Record}
use Rattle.table.specs.declared.Record.TheVariants.{UnitEnd, Text}
use Rattle.table.specs.declared.Read.{Read}
use Rattle.table.specs.declared.Read.TheVariants.{Good, Broken}
use Rattle.table.proofs.ReadLaws.{known_is, nothing_there}
use Rattle.views.specs.Views.{record_view, view_of_read}
use Rattle.views.proofs.ViewLaws.{view_known}
use Rattle.keys.specs.Keys.{key, key_of}
use Rattle.keys.specs.Marks.{low_of, marker_good, key_by, marker_key}
use Rattle.keys.proofs.KeyLaws.{key_view}

module _ (s : List ℕ) where
  -- the key by a mark that says so much, and what is read
  abbrev Keys : ℕ → Read → Type 0
  Keys low r = cond (leb 4 (length s)) (key_by s low) 0 ≡ key_of (view_of_read r)

  any : (b : Bool) (l : ℕ) (r q : Read) → Keys l r → Keys l q → Keys l (cond b r q)
  any true l r q x y = x
  any false l r q x y = y

  none_by : (a : Bool) → cond {A = ℕ} a 0 0 ≡ 0
  none_by true = refl
  none_by false = refl

  none : (r : Read) → key_of (view_of_read r) ≡ 0 → Keys 0 r
  unfolding key_by
  none r e = none_by (leb 4 (length s)) ∙ sym e

  -- a record that is no marker
  sized_none : (part : Bool) (n : ℕ) (ok : Bool) (x : Record) → key_of (record_view x) ≡ 0 → Keys 0 (sized part s n ok x)
  unfolding sized
  sized_none part n ok x e =
      any (leb n (length s)) 0 _ _
      (any ok 0 (Good x n) (Broken part) (none (Good x n) e) (none (Broken part) refl)) (none (Broken part) refl)

  -- a marker of n bytes
  sized_key : (n low : ℕ) (ok : Bool) (x : Record) → 4 ≤ n → eqb low 0 ≡ false → marker_good s low ≡ (leb n (length s) && ok) → key_of (record_view x) ≡ two_at s 2 * 64 + low
      → Keys low (sized false s n ok x)
  unfolding sized key_by
  sized_key n low ok x h z g e = by (leb 4 (length s)) refl (leb n (length s)) refl ok refl
    where
      by : (a : Bool) → leb 4 (length s) ≡ a → (b : Bool) → leb n (length s) ≡ b → (c : Bool) → ok ≡ c
          → cond a (cond (eqb low 0) 0 (cond (marker_good s low) (two_at s 2 * 64 + low) 0)) 0 ≡ key_of (view_of_read (cond b (cond c (Good x n) (Broken false)) (Broken false)))
      by true p true q true r = rw (z, g, q, r) (sym e)
      by true p true q false r = rw (z, g, q, r)
      by true p false q c r = rw (z, g, q)
      by false p true q c r = absurd (let u = leb-false 4 (length s) p in let v = leb-true n (length s) q in omega arith)
      by false p false q c r = refl

  start_key : Keys 19 (pair_of s P Start)
  unfolding pair_of marker_good
  start_key = sized_key 12 19 (fields_ok false (fields_of s)) _ (omega arith) refl refl refl

  end_key : Keys 21 (pair_of s P End)
  unfolding pair_of marker_good
  end_key = sized_key 12 21 (fields_ok false (fields_of s)) _ (omega arith) refl refl refl

  open_key : Keys 18 (pair_of s S Start)
  unfolding pair_of marker_good
  open_key = sized_key 12 18 (fields_ok false (fields_of s)) _ (omega arith) refl refl refl

  close_key : Keys 20 (pair_of s S End)
  unfolding pair_of marker_good
  close_key = sized_key 12 20 (fields_ok false (fields_of s)) _ (omega arith) refl refl refl

  standalone_key : Keys 8 (standalone_of s)
  unfolding standalone_of marker_good
  standalone_key = sized_key 12 8 (fields_ok true (fields_of s)) _ (omega arith) refl refl refl

  first_key : Keys 24 (isolated_of s Start)
  unfolding isolated_of marker_good
  first_key = sized_key 12 24 (fields_ok false (fields_of s)) _ (omega arith) refl refl refl

  last_key : Keys 32 (isolated_of s End)
  unfolding isolated_of marker_good
  last_key = sized_key 12 32 (fields_ok false (fields_of s)) _ (omega arith) refl refl refl

  note_P_key : Keys 43 (annotation_start_of s P)
  unfolding annotation_start_of marker_good
  note_P_key = sized_key 5 43 (not (eqb (two_at s 2) 0) && yes_no_none (get_or s 4 0)) _ (omega arith) refl refl refl

  note_S_key : Keys 42 (annotation_start_of s S)
  unfolding annotation_start_of marker_good
  note_S_key = sized_key 5 42 (not (eqb (two_at s 2) 0) && yes_no_none (get_or s 4 0)) _ (omega arith) refl refl refl

  -- the end of an annotation
  sized_end : (low : ℕ) (ok : Bool) (x : Record) → eqb low 0 ≡ false → marker_good s low ≡ ok → key_of (record_view x) ≡ two_at s 2 * 64 + low → Keys low (sized false s 4 ok x)
  unfolding sized key_by
  sized_end low ok x z g e = by (leb 4 (length s)) ok refl
    where
      by : (a c : Bool) → ok ≡ c
          → cond a (cond (eqb low 0) 0 (cond (marker_good s low) (two_at s 2 * 64 + low) 0)) 0 ≡ key_of (view_of_read (cond a (cond c (Good x 4) (Broken false)) (Broken false)))
      by true true r = rw (z, g, r) (sym e)
      by true false r = rw (z, g, r)
      by false c r = refl

  end_P_key : Keys 45 (annotation_end_of s P)
  unfolding annotation_end_of marker_good
  end_P_key = sized_end 45 (not (eqb (two_at s 2) 0)) _ refl refl refl

  end_S_key : Keys 44 (annotation_end_of s S)
  unfolding annotation_end_of marker_good
  end_S_key = sized_end 44 (not (eqb (two_at s 2) 0)) _ refl refl refl

  broken : Keys 0 (Broken false)
  broken = none (Broken false) refl

  text_key : Keys 0 (text_of s true)
  unfolding text_of
  text_key = any (leb 4 (length s)) 0 _ _ (any (leb (two_at s 2) (length s - 4)) 0 (Good Text (4 + two_at s 2)) (Broken false) (none (Good Text (4 + two_at s 2)) refl) broken) broken

  mark_key : (m : Mark) → Keys (low_of m) (record_by m s true)
  unfolding low_of record_by unit_of segment_of ignorable_of target_of character_of
  mark_key UN = sized_none false 3 _ _ refl
  mark_key UE = none (Good UnitEnd 2) refl
  mark_key SG = sized_none true 6 _ _ refl
  mark_key IG = sized_none true 4 _ _ refl
  mark_key TG = sized_none false 4 _ _ refl
  mark_key TX = text_key
  mark_key CP = sized_none false 6 _ _ refl
  mark_key PH = standalone_key
  mark_key PO = start_key
  mark_key PC = end_key
  mark_key SC = open_key
  mark_key EC = close_key
  mark_key IS = first_key
  mark_key IE = last_key
  mark_key MO = note_P_key
  mark_key SM = note_S_key
  mark_key MC = end_P_key
  mark_key EM = end_S_key
  mark_key unknown = broken

  record_key : marker_key s ≡ key_of (view_of_read (record_of s true))
  unfolding marker_key
  record_key = mark_key (mark_at s)

pub key_of_bytes : (t : List ℕ) (at : ℕ) → marker_key (drop at t) ≡ key (item_at t at)
key_of_bytes t at = record_key (drop at t) ∙ ap key_of (view_known t at (record_of (drop at t) true) (known_is (drop at t) (record_of (drop at t) true) refl)) ∙ key_view (item_at t at)

-- beyond the end there is no marker
pub no_key : (t : List ℕ) (at : ℕ) → length t ≤ at → 0 ≡ key (item_at t at)
no_key t at h = ap key_of (view_known t at (Broken false) (nothing_there t at h)) ∙ key_view (item_at t at)
