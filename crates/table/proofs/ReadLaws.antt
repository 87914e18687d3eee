-- What the reader finds is what the specification reads.
use Prim.Native.Nat.{ℕ, zero, suc, ◌+◌, ◌-◌, ◌≤◌, ◌<◌}
use mathlib.Core.Path.{◌≡◌, refl, sym, ◌∙◌, ap, ap₂, subst}
use mathlib.Core.Bool.{Bool, true, false, not, ◌&&◌, ◌||◌, cond, false≢true}
use mathlib.Core.List.{List, [], ◌∷◌}
use mathlib.Core.Option.{Option}
use native.Mathlib.Omega.{arith}
use borrow.Author.Tests.{leb-true, le-leb, lt-leb}
use lib.ListN.{drop_of_length-le, length, take, drop, get_or, length-drop}
use lib.Dec.{leb, eqb}
use Rattle.xliff.specs.Bytes.{'-', 'F', 'I', 'N', 'R', 'T', 'Y', two, four, two_at, enough, among}
use Rattle.xliff.specs.Text as text
use Rattle.xliff.specs.Text.{text_codes}
use Rattle.xliff.specs.Item as spec
use Rattle.xliff.specs.Item.{mark}
use Rattle.xliff.specs.Encode as encode
use Rattle.xliff.specs.Encode.{text_run, ill_text, broken, code_bytes, field_bytes, head_bytes, record_bytes}
use Rattle.xliff.specs.Parse.{Mark, UN, UE, SG, IG, TG, TX, CP, PH, PO, PC, SC, EC, IS, IE, MO, SM, MC, EM, unknown, mark_at, whole, whole_part, code_fields_at, good_id, good_code, code, mark_start, mark_end, text_record, read_as, read, opening_at, good_opening, segment_at, good_segment}
use Rattle.xliff.proofs.text.Utf8.{text_of_some}
use Rattle.table.specs.Letters.{is_yes_no, yes_no_none, reorder_letter, overlap_letter, fields_ok}
use Rattle.text.specs.Utf8.{text_ok}
use Rattle.table.specs.Records.{sized, unit_of, segment_of, ignorable_of, target_of, fields_of, standalone_of, isolated_of, pair_of, annotation_start_of, annotation_end_of, text_of, character_of, record_by, record_of}
use Rattle.table.specs.Known.{Known, same_record, some_text}
use Rattle.table.specs.Meaning.{half, form, fields, record_meaning, meaning, width, points, body}
use Rattle.table.specs.declared.Fields.{Fields}
use Rattle.table.specs.declared.Record.{Record}
use Rattle.table.specs.declared.Record.TheVariants.{Text}
use Rattle.table.specs.declared.Read.{Read}
use Rattle.table.specs.declared.Read.TheVariants.{Good, Ill, Broken}
use Rattle.table.specs.declared.Half.{Half}
use Rattle.table.specs.declared.Half.TheVariants.{Start, End}
use Rattle.table.specs.declared.Form.{Form}
use Rattle.table.specs.declared.Form.TheVariants.{P as FormP, S as FormS}
use Rattle.text.proofs.TextLaws.{text_good, text_bad_is}

-- an answer is that of a record of the specification; where it is known, an ill text may be taken for a text
pub data Tied (t : List ℕ) (known : Bool) : Read → encode.Record → Type 0 where
  tied : {r : Read} {x : encode.Record} → meaning (body t) r ≡ x → width r ≡ length (record_bytes x) → Tied t known r x
  taken : {w : ℕ} → known ≡ true → w ≤ length t → Tied t known (Good Text w) ill_text

-- letters
or-false : (a : Bool) → a || false ≡ a
or-false true = refl
or-false false = refl

or_three : (a b c : Bool) → a || b || c ≡ a || (b || (c || false))
or_three true b c = refl
or_three false true c = refl
or_three false false c = sym (or-false c)

or_four : (a b c d : Bool) → a || b || c || d ≡ a || (b || (c || (d || false)))
or_four true b c d = refl
or_four false b c d = or_three b c d

two_letters : (b x y : ℕ) → eqb b x || eqb b y ≡ among b (x ∷ y ∷ [])
unfolding among
two_letters b x y = ap (λ (c : Bool). eqb b x || c) (sym (or-false (eqb b y)))

three_letters : (b x y z : ℕ) → eqb b x || eqb b y || eqb b z ≡ among b (x ∷ y ∷ z ∷ [])
unfolding among
three_letters b x y z = or_three (eqb b x) (eqb b y) (eqb b z)

four_letters : (b x y z u : ℕ) → eqb b x || eqb b y || eqb b z || eqb b u ≡ among b (x ∷ y ∷ z ∷ u ∷ [])
unfolding among
four_letters b x y z u = or_four (eqb b x) (eqb b y) (eqb b z) (eqb b u)

and_apart : (i a b c d : Bool) → i && (a && b && c && d) ≡ i && (a && (b && (c && d)))
and_apart true true b c d = go b c d
  where
    go : (b c d : Bool) → b && c && d ≡ b && (c && d)
    go true c d = refl
    go false c d = refl
and_apart true false b c d = refl
and_apart false a b c d = refl

overlaps : Bool → List ℕ
overlaps true = '-' ∷ []
overlaps false = 'Y' ∷ 'N' ∷ []

overlap_same : (alone : Bool) (b : ℕ) → overlap_letter alone b ≡ among b (overlaps alone)
unfolding overlaps among
overlap_same true b = refl
overlap_same false b = two_letters b 'Y' 'N'

fields_same : (alone : Bool) (f : Fields) → fields_ok alone f ≡ good_code (overlaps alone) (fields f)
unfolding good_code good_id
fields_same alone f =
    and_apart (not (eqb f.id 0)) (is_yes_no f.letters.copy) (is_yes_no f.letters.delete) (overlap_letter alone f.letters.overlap) (reorder_letter f.letters.reorder)
    ∙ rw (← two_letters f.letters.copy 'Y' 'N', ← two_letters f.letters.delete 'Y' 'N', ← overlap_same alone f.letters.overlap, ← three_letters f.letters.reorder 'Y' 'F' 'N')

-- enough bytes
enough_is : (n : ℕ) (s : List ℕ) → enough n s ≡ leb n (length s)
unfolding enough
enough_is zero s = sym (le-leb 0 (length s) (omega arith))
enough_is (suc n) [] = sym (lt-leb (suc n) 0 (omega arith))
enough_is (suc n) (b ∷ s) = enough_is n s ∙ by (leb n (length s)) refl
  where
    by : (o : Bool) → leb n (length s) ≡ o → o ≡ leb (suc n) (suc (length s))
    by true e = sym (le-leb (suc n) (suc (length s)) (omega (arith, leb-true n (length s) e)))
    by false e = sym (lt-leb (suc n) (suc (length s)) (omega (arith, leb_false' e)))
      where
        leb_false' : leb n (length s) ≡ false → length s < n
        leb_false' e = borrow.Author.Tests.leb-false n (length s) e

broken_tied : (t : List ℕ) (known b : Bool) → Tied t known (Broken b) (broken b)
unfolding record_bytes
broken_tied t known b = tied refl refl

-- a record of n bytes, read so and by the specification
sized_tied : (part : Bool) (t : List ℕ) (known : Bool) (n : ℕ) (ok good : Bool) (r : Record) (x : encode.Record) → ok ≡ good → record_meaning (body t) r ≡ x → n ≡ length (record_bytes x)
    → Tied t known (sized part t n ok r) (cond (enough n t && good) x (broken part))
unfolding sized
sized_tied part t known n ok good r x e m w = rw (enough_is n t, ← e) (by (leb n (length t)) ok)
  where
    by : (a b : Bool) → Tied t known (cond a (cond b (Good r n) (Broken part)) (Broken part)) (cond (a && b) x (broken part))
    by true true = tied m w
    by true false = broken_tied t known part
    by false b = broken_tied t known part

take-length : (n : ℕ) (s : List ℕ) → n ≤ length s → length (take n s) ≡ n
take-length zero s e = refl
take-length (suc n) [] e = absurd (omega arith)
take-length (suc n) (b ∷ s) e = ap suc (take-length n s (omega arith))

module _ (t : List ℕ) (known : Bool) where
  unit_tied : Tied t known (unit_of t) (read_as UN t)
  unfolding unit_of read_as whole opening_at good_opening record_bytes
  unit_tied = sized_tied false t known 3 _ _ _ _ (two_letters (get_or t 2 0) 'Y' 'N') refl refl

  segment_tied : Tied t known (segment_of t) (read_as SG t)
  unfolding segment_of read_as whole_part segment_at good_segment record_bytes head_bytes two
  segment_tied =
      sized_tied true t known 6 _ _ _ _ (ap₂ ◌&&◌ (three_letters (get_or t 4 0) 'Y' 'N' '-') (four_letters (get_or t 5 0) 'I' 'T' 'R' 'F')) refl refl

  ignorable_tied : Tied t known (ignorable_of t) (read_as IG t)
  unfolding ignorable_of read_as whole_part record_bytes head_bytes two
  ignorable_tied = sized_tied true t known 4 _ _ _ _ refl refl refl

  target_tied : Tied t known (target_of t) (read_as TG t)
  unfolding target_of read_as whole record_bytes two
  target_tied = sized_tied false t known 4 _ _ _ _ refl refl refl

  standalone_tied : Tied t known (standalone_of t) (read_as PH t)
  unfolding standalone_of read_as whole record_bytes mark field_bytes code_bytes two overlaps code_fields_at
  standalone_tied = sized_tied false t known 12 _ _ _ _ (fields_same true (fields_of t)) refl refl

  isolated_tied : (h : Half) → Tied t known (isolated_of t h) (code t (spec.isolated (half h)))
  unfolding isolated_of code whole record_bytes mark field_bytes code_bytes two overlaps code_fields_at
  isolated_tied Start = sized_tied false t known 12 _ _ _ _ (fields_same false (fields_of t)) refl refl
  isolated_tied End = sized_tied false t known 12 _ _ _ _ (fields_same false (fields_of t)) refl refl

  pair_tied : (f : Form) (h : Half) → Tied t known (pair_of t f h) (code t (spec.pair (half h) (form f)))
  unfolding pair_of code whole record_bytes mark field_bytes code_bytes two overlaps code_fields_at
  pair_tied FormP Start = sized_tied false t known 12 _ _ _ _ (fields_same false (fields_of t)) refl refl
  pair_tied FormP End = sized_tied false t known 12 _ _ _ _ (fields_same false (fields_of t)) refl refl
  pair_tied FormS Start = sized_tied false t known 12 _ _ _ _ (fields_same false (fields_of t)) refl refl
  pair_tied FormS End = sized_tied false t known 12 _ _ _ _ (fields_same false (fields_of t)) refl refl

  start_good : not (eqb (two_at t 2) 0) && yes_no_none (get_or t 4 0) ≡ good_id (two_at t 2) && among (get_or t 4 0) ('Y' ∷ 'N' ∷ '-' ∷ [])
  unfolding good_id
  start_good = ap (λ (b : Bool). not (eqb (two_at t 2) 0) && b) (three_letters (get_or t 4 0) 'Y' 'N' '-')

  start_tied : (f : Form) → Tied t known (annotation_start_of t f) (mark_start t (form f))
  unfolding annotation_start_of mark_start whole record_bytes mark field_bytes two
  start_tied FormP = sized_tied false t known 5 _ _ _ _ start_good refl refl
  start_tied FormS = sized_tied false t known 5 _ _ _ _ start_good refl refl

  end_tied : (f : Form) → Tied t known (annotation_end_of t f) (mark_end t (form f))
  unfolding annotation_end_of mark_end whole record_bytes mark field_bytes two good_id
  end_tied FormP = sized_tied false t known 4 _ _ _ _ refl refl refl
  end_tied FormS = sized_tied false t known 4 _ _ _ _ refl refl refl

  character_tied : Tied t known (character_of t) (read_as CP t)
  unfolding character_of read_as whole record_bytes mark field_bytes four
  character_tied = sized_tied false t known 6 _ _ _ _ refl refl refl

  text_found : (n : ℕ) (s : List ℕ) → two_at t 2 ≡ n → take n (drop 4 t) ≡ s → length s ≡ n → (b : Bool) → text_ok s ≡ b
      → Tied t known (cond b (Good Text (4 + n)) Ill) (text_record (text_codes s))
  unfolding body record_bytes text_record two
  text_found n s e f l true h =
      let g = text_good s h in
      let u = (text_of_some s g.0 g.1).0 in
      let k : length (text.utf8s g.0) ≡ n = ap length u ∙ l in
      let q : points (text_codes (take (two_at t 2) (drop 4 t))) ≡ g.0 = ap (λ (l : List ℕ). points (text_codes l)) (ap (λ (k : ℕ). take k (drop 4 t)) e ∙ f) ∙ ap points g.1 in
      subst (λ (o : Option (List ℕ)). Tied t known (Good Text (4 + n)) (text_record o)) (sym g.1) (tied (ap text_run q) (omega (arith, k)))
  text_found n s e f l false h = subst (λ (o : Option (List ℕ)). Tied t known Ill (text_record o)) (sym (text_bad_is s h)) (tied refl refl)

  -- a text that is not looked at
  text_taken : (n : ℕ) (s : List ℕ) → two_at t 2 ≡ n → take n (drop 4 t) ≡ s → length s ≡ n → 4 + n ≤ length t → (b : Bool) → text_ok s ≡ b → known ≡ true
      → Tied t known (Good Text (4 + n)) (text_record (text_codes s))
  unfolding text_record
  text_taken n s e f l m true h k = text_found n s e f l true h
  text_taken n s e f l m false h k = subst (λ (o : Option (List ℕ)). Tied t known (Good Text (4 + n)) (text_record o)) (sym (text_bad_is s h)) (taken k m)

  text_by : (n : ℕ) (s : List ℕ) → two_at t 2 ≡ n → take n (drop 4 t) ≡ s → length s ≡ n → 4 + n ≤ length t → (k : Bool) → known ≡ k
      → Tied t known (cond k (Good Text (4 + n)) (cond (text_ok s) (Good Text (4 + n)) Ill)) (text_record (text_codes s))
  text_by n s e f l m true k = text_taken n s e f l m (text_ok s) refl k
  text_by n s e f l m false k = text_found n s e f l (text_ok s) refl

  text_tied : Tied t known (text_of t known) (read_as TX t)
  unfolding text_of read_as whole
  text_tied =
      rw (enough_is 4 t, enough_is (two_at t 2) (drop 4 t), length-drop 4 t, let e : 4 + two_at t 2 - 4 ≡ two_at t 2 = omega arith in e)
      (by (leb 4 (length t)) (leb (two_at t 2) (length t - 4)) refl refl)
    where
      by : (a b : Bool) → leb 4 (length t) ≡ a → leb (two_at t 2) (length t - 4) ≡ b
          → Tied t known
          (cond a (cond b (cond known (Good Text (4 + two_at t 2)) (cond (text_ok (take (two_at t 2) (drop 4 t))) (Good Text (4 + two_at t 2)) Ill)) (Broken false)) (Broken false))
          (cond (a && b) (text_record (text_codes (take (two_at t 2) (drop 4 t)))) (broken false))
      by true true p q =
          text_by (two_at t 2) (take (two_at t 2) (drop 4 t)) refl refl
          (take-length (two_at t 2) (drop 4 t) (omega (arith, leb-true (two_at t 2) (length t - 4) q, length-drop 4 t)))
          (omega (arith, leb-true 4 (length t) p, leb-true (two_at t 2) (length t - 4) q)) known refl
      by true false p q = broken_tied t known false
      by false b p q = broken_tied t known false

  -- the record of a mark is what the specification reads as of that mark
  mark_tied : (m : Mark) → Tied t known (record_by m t known) (read_as m t)
  unfolding record_by read_as record_bytes
  mark_tied UN = unit_tied
  mark_tied UE = tied refl refl
  mark_tied SG = segment_tied
  mark_tied IG = ignorable_tied
  mark_tied TG = target_tied
  mark_tied TX = text_tied
  mark_tied CP = character_tied
  mark_tied PH = standalone_tied
  mark_tied PO = pair_tied FormP Start
  mark_tied PC = pair_tied FormP End
  mark_tied SC = pair_tied FormS Start
  mark_tied EC = pair_tied FormS End
  mark_tied IS = isolated_tied Start
  mark_tied IE = isolated_tied End
  mark_tied MO = start_tied FormP
  mark_tied SM = start_tied FormS
  mark_tied MC = end_tied FormP
  mark_tied EM = end_tied FormS
  mark_tied unknown = broken_tied t known false

pub record_tied : (t : List ℕ) (known : Bool) → Tied t known (record_of t known) (read t)
unfolding read
record_tied t known = mark_tied t known (mark_at t)

pub record_is : (t : List ℕ) (r : Read) → r ≡ record_of t false → (meaning (body t) r ≡ read t) × (width r ≡ length (record_bytes (read t)))
record_is t r e = by (subst (λ (z : Read). Tied t false z (read t)) (sym e) (record_tied t false))
  where
    by : {z : Read} {x : encode.Record} → Tied t false z x → (meaning (body t) z ≡ x) × (width z ≡ length (record_bytes x))
    by (tied p q) = (p, q)
    by (taken k m) = absurd (false≢true k)

pub known_is : (t : List ℕ) (r : Read) → r ≡ record_of t true → Known t r
known_is t r e = by refl (subst (λ (z : Read). Tied t true z (read t)) (sym e) (record_tied t true))
  where
    by : {z : Read} {x : encode.Record} → read t ≡ x → Tied t true z x → Known t z
    by f (tied p q) = same_record (p ∙ sym f) (q ∙ ap (λ (y : encode.Record). length (record_bytes y)) (sym f))
    by f (taken k m) = some_text f

-- beyond the end there is no record
pub no_record : (s : List ℕ) (at : ℕ) → length s ≤ at → (meaning (body (drop at s)) (Broken false) ≡ read (drop at s)) × (width (Broken false) ≡ length (record_bytes (read (drop at s))))
unfolding read read_as mark_at record_bytes
no_record s at h = rw (drop_of_length-le s h) (refl, refl)

pub nothing_there : (s : List ℕ) (at : ℕ) → length s ≤ at → Known (drop at s) (Broken false)
nothing_there s at h = let n = no_record s at h in same_record n.0 n.1

-- a known record that the specification does not read as an ill text
pub known_same : (t : List ℕ) (r : Read) → Known t r → (read t ≡ ill_text → ⊥) → (meaning (body t) r ≡ read t) × (width r ≡ length (record_bytes (read t)))
known_same t r (same_record p q) h = (p, q)
known_same t _ (some_text e) h = absurd (h e)
