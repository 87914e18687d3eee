-- Laws of one record: read back from its bytes, and its bytes from the reading.
use Prim.Native.Nat.{ℕ, zero, suc, ◌+◌}
use mathlib.Core.Path.{◌≡◌, refl, sym, ap, ap₂, ◌∙◌}
use mathlib.Core.Bool.{Bool, true, false, ◌&&◌, cond, true≢false}
use mathlib.Core.List.{List, [], ◌∷◌, ◌++◌}
use mathlib.Core.Option.{Option, none, some}
use native.Mathlib.Omega.{arith}
use lib.ListN.{length, get_or, take, drop, take-append-drop}
use lib.Seq.{take-append_seam, drop-drop}
use Rattle.xliff.specs.Bytes.{'-', 'C', 'G', 'H', 'I', 'N', 'P', 'S', 'T', 'U', 'X', 'Y', two, four, two_at, four_at, enough, among, Bytes}
use Rattle.xliff.specs.Text.{utf8s, text_codes}
use Rattle.xliff.specs.Item.{Item, Fields, start, end, Form, form_P, form_S, text, character, standalone, isolated, pair, annotation_start, annotation_end, mark}
use Rattle.xliff.specs.Unit.{segment, ignorable}
use Rattle.xliff.specs.Encode.{Record, opening, closing, part_head, target_head, text_run, inline, ill_text, broken, code_bytes, field_bytes, head_bytes, record_bytes}
use Rattle.xliff.specs.Parse.{Mark, UN, UE, SG, IG, TG, TX, CP, PH, PO, PC, SC, EC, IS, IE, MO, SM, MC, EM, unknown, is_broken, is, mark_of, mark_at, whole, whole_part, opening_at, good_opening, segment_at, good_segment, code_fields_at, good_id, good_code, code, mark_start, mark_end, text_record, read_as, read}
use Rattle.xliff.proofs.lists.Tests.{and_left, and_right, two_value, two_bytes, four_value, four_bytes, enough_append, peel, byte_at}
use Rattle.xliff.specs.Good.{gets, GoodItem, GoodRecord}
use Rattle.xliff.proofs.records.Marks.{Spells, spells_at}
use Rattle.xliff.proofs.text.Utf8.{text_of_utf8s, text_of_some}

-- the fields of a code, read back
code_at_bytes : (a b : ℕ) (f : Fields) (t : List ℕ) → code_fields_at (a ∷ b ∷ (code_bytes f ++ t)) ≡ f
unfolding code_fields_at code_bytes two two_at
code_at_bytes a b f t i =
    record {
      id = two_value f.id i;
      copy_of = two_value f.copy_of i;
      data_ref = two_value f.data_ref i;
      can_copy = f.can_copy;
      can_delete = f.can_delete;
      can_overlap = f.can_overlap;
      can_reorder = f.can_reorder;
    }

read_code : (a b : ℕ) (f : Fields) (t : List ℕ) (item : Fields → Item) → good_code ('Y' ∷ 'N' ∷ []) f ≡ true
    → code (a ∷ b ∷ (code_bytes f ++ t)) item ≡ inline (item f)
unfolding code whole enough code_bytes two
read_code a b f t item g = rw (code_at_bytes a b f t, g)

read_standalone : (a b : ℕ) (f : Fields) (t : List ℕ) → good_code ('-' ∷ []) f ≡ true → read_as PH (a ∷ b ∷ (code_bytes f ++ t)) ≡ inline (standalone f)
unfolding read_as whole enough code_bytes two
read_standalone a b f t g = rw (code_at_bytes a b f t, g)

read_start : (a b : ℕ) (w : Form) (i l : ℕ) (t : List ℕ) → good_id i ≡ true → among l ('Y' ∷ 'N' ∷ '-' ∷ []) ≡ true
    → mark_start (a ∷ b ∷ (two i ++ (l ∷ []) ++ t)) w ≡ inline (annotation_start w i l)
unfolding mark_start whole enough two two_at
read_start a b w i l t g h = rw (two_value i, g, h)

read_end : (a b : ℕ) (w : Form) (i : ℕ) (t : List ℕ) → good_id i ≡ true → mark_end (a ∷ b ∷ (two i ++ t)) w ≡ inline (annotation_end w i)
unfolding mark_end whole enough two two_at
read_end a b w i t g = rw (two_value i, g)

read_character : (a b c : ℕ) (t : List ℕ) → read_as CP (a ∷ b ∷ (four c ++ t)) ≡ inline (character c)
unfolding read_as whole enough four four_at two_at
read_character a b c t = rw (four_value c)

read_item : (x : Item) (t : List ℕ) → GoodItem x → read (mark x ++ field_bytes x ++ t) ≡ inline x
unfolding read mark_at mark_of is read_as mark field_bytes
read_item (text c) t g = absurd g
read_item (character c) t g = read_character _ _ c t
read_item (standalone f) t g = read_standalone _ _ f t g
read_item (isolated start f) t g = read_code _ _ f t (isolated start) g
read_item (isolated end f) t g = read_code _ _ f t (isolated end) g
read_item (pair start form_P f) t g = read_code _ _ f t (pair start form_P) g
read_item (pair start form_S f) t g = read_code _ _ f t (pair start form_S) g
read_item (pair end form_P f) t g = read_code _ _ f t (pair end form_P) g
read_item (pair end form_S f) t g = read_code _ _ f t (pair end form_S) g
read_item (annotation_start form_P i l) t g = read_start _ _ form_P i l t g.0 g.1
read_item (annotation_start form_S i l) t g = read_start _ _ form_S i l t g.0 g.1
read_item (annotation_end form_P i) t g = read_end _ _ form_P i t g
read_item (annotation_end form_S i) t g = read_end _ _ form_S i t g

-- a good record is read back from its bytes
pub read_bytes : (r : Record) (t : List ℕ) → GoodRecord r → read (record_bytes r ++ t) ≡ r
unfolding read mark_at mark_of is read_as record_bytes head_bytes whole whole_part opening_at good_opening segment_at good_segment enough two two_at text_record
read_bytes (opening o) t g = rw g
read_bytes closing t g = refl
read_bytes (part_head (segment f)) t g = rw (two_value f.id, g.0, g.1)
read_bytes (part_head (ignorable i)) t g = rw (two_value i)
read_bytes (target_head q) t g = rw (two_value q)
read_bytes (text_run cs) t g = rw (two_value (length (utf8s cs)), enough_append (utf8s cs) t, take-append_seam (utf8s cs) t, text_of_utf8s cs g)
read_bytes (inline x) t g = read_item x t g
read_bytes ill_text t g = absurd g
read_bytes (broken b) t g = absurd g

-- The other way round: a record that was read from the front of s: its fields are good, and s begins with its bytes
pub record ReadFrom (s : List ℕ) (r : Record) : Type 0 where
  pub good : GoodRecord r
  pub bytes : s ≡ record_bytes r ++ drop (length (record_bytes r)) s

abbrev Sound : List ℕ → Record → Type 0
Sound s r = is_broken r ≡ false → ReadFrom s r

-- what is broken is not asked
on_whole : (s : List ℕ) (n : ℕ) (g : Bool) (r : Record) → (enough n s ≡ true → g ≡ true → Sound s r) → Sound s (whole s n g r)
unfolding whole is_broken
on_whole s n g r f = by (enough n s && g) refl
  where
    by : (b : Bool) → enough n s && g ≡ b → Sound s (cond b r (broken false))
    by true e = f (and_left _ _ e) (and_right (enough n s) _ e)
    by false e = λ z. absurd (true≢false z)

on_whole_part : (s : List ℕ) (n : ℕ) (g : Bool) (r : Record) → (enough n s ≡ true → g ≡ true → Sound s r) → Sound s (whole_part s n g r)
unfolding whole_part is_broken
on_whole_part s n g r f = by (enough n s && g) refl
  where
    by : (b : Bool) → enough n s && g ≡ b → Sound s (cond b r (broken true))
    by true e = f (and_left _ _ e) (and_right (enough n s) _ e)
    by false e = λ z. absurd (true≢false z)

-- s begins with its own first bytes: the mark, then n bytes of fields
framed : (s : List ℕ) (n a b : ℕ) (f : List ℕ) → enough (suc (suc n)) s ≡ true → (get_or s 0 0 ≡ a) × (get_or s 1 0 ≡ b) → gets 2 n s ≡ f
    → s ≡ a ∷ b ∷ (f ++ drop (suc (suc n)) s)
unfolding gets
framed s n a b f e m q =
    peel (suc (suc n)) s e
    ∙ ap₂ (λ (x y : ℕ). x ∷ y ∷ (gets 2 n s ++ drop (suc (suc n)) s)) m.0 m.1
    ∙ ap (λ (l : List ℕ). a ∷ b ∷ (l ++ drop (suc (suc n)) s)) q

two_back : (s : List ℕ) (i : ℕ) → Bytes s → get_or s i 0 ∷ get_or s (suc i) 0 ∷ [] ≡ two (two_at s i)
unfolding two_at
two_back s i h = sym (two_bytes (get_or s i 0) (get_or s (suc i) 0) (byte_at s (suc i) h))

code_back : (s : List ℕ) → Bytes s → gets 2 10 s ≡ code_bytes (code_fields_at s)
unfolding gets code_bytes code_fields_at
code_back s h = rw (← two_back s 2 h, ← two_back s 4 h, ← two_back s 6 h)

four_back : (s : List ℕ) → Bytes s → gets 2 4 s ≡ four (four_at s 2)
unfolding gets four_at two_at
four_back s h = sym (four_bytes (get_or s 2 0) (get_or s 3 0) (get_or s 4 0) (get_or s 5 0) (byte_at s 3 h) (byte_at s 4 h) (byte_at s 5 h))

sound_code : (s : List ℕ) (a b : ℕ) (item : Fields → Item) → Bytes s → (get_or s 0 0 ≡ a) × (get_or s 1 0 ≡ b)
    → ((f : Fields) → good_code ('Y' ∷ 'N' ∷ []) f ≡ true → GoodItem (item f))
    → ((f : Fields) → record_bytes (inline (item f)) ≡ a ∷ b ∷ code_bytes f) → Sound s (code s item)
unfolding code code_bytes two
sound_code s a b item h m g k =
    on_whole s 12 _ _ λ e o z.
    record {
      good = g (code_fields_at s) o;
      bytes = framed s 10 a b (code_bytes (code_fields_at s)) e m (code_back s h)
          ∙ ap (λ (l : List ℕ). l ++ drop (length l) s) (sym (k (code_fields_at s)));
    }

sound_start : (s : List ℕ) (a b : ℕ) (w : Form) → Bytes s → (get_or s 0 0 ≡ a) × (get_or s 1 0 ≡ b)
    → ((i l : ℕ) → record_bytes (inline (annotation_start w i l)) ≡ a ∷ b ∷ (two i ++ (l ∷ []))) → Sound s (mark_start s w)
unfolding mark_start two gets
sound_start s a b w h m k =
    on_whole s 5 _ _ λ e o z.
    record {
      good = (and_left _ _ o, and_right (good_id (two_at s 2)) _ o);
      bytes = framed s 3 a b (two (two_at s 2) ++ (get_or s 4 0 ∷ [])) e m (ap (λ (l : List ℕ). l ++ (get_or s 4 0 ∷ [])) (two_back s 2 h))
          ∙ ap (λ (l : List ℕ). l ++ drop (length l) s) (sym (k (two_at s 2) (get_or s 4 0)));
    }

sound_end : (s : List ℕ) (a b : ℕ) (w : Form) → Bytes s → (get_or s 0 0 ≡ a) × (get_or s 1 0 ≡ b)
    → ((i : ℕ) → record_bytes (inline (annotation_end w i)) ≡ a ∷ b ∷ two i) → Sound s (mark_end s w)
unfolding mark_end two gets
sound_end s a b w h m k =
    on_whole s 4 _ _ λ e o z.
    record {
      good = o;
      bytes = framed s 2 a b (two (two_at s 2)) e m (two_back s 2 h)
          ∙ ap (λ (l : List ℕ). l ++ drop (length l) s) (sym (k (two_at s 2)));
    }

-- two bytes that are not 0 stand there
two_front : (s : List ℕ) (a b : ℕ) → (get_or s 0 0 ≡ suc a) × (get_or s 1 0 ≡ suc b) → s ≡ suc a ∷ suc b ∷ drop 2 s
two_front [] a b m = let z : ⊥ = omega arith in absurd z
two_front (x ∷ []) a b m = let z : ⊥ = omega arith in absurd z
two_front (x ∷ y ∷ s) a b m = ap₂ (λ (p q : ℕ). p ∷ q ∷ s) m.0 m.1

take-length : (n : ℕ) (s : List ℕ) → enough n s ≡ true → length (take n s) ≡ n
unfolding enough
take-length zero s e = refl
take-length (suc n) [] e = absurd (true≢false (sym e))
take-length (suc n) (b ∷ s) e = ap suc (take-length n s e)

sound_text : (s : List ℕ) → Bytes s → (get_or s 0 0 ≡ 'T') × (get_or s 1 0 ≡ 'X') → Sound s (read_as TX s)
unfolding read_as text_record record_bytes two is_broken gets
sound_text s h m = on_whole s 4 _ _ λ e o. by e o (text_codes (take (two_at s 2) (drop 4 s))) refl
  where
    by : enough 4 s ≡ true → enough (two_at s 2) (drop 4 s) ≡ true → (t : Option (List ℕ)) → text_codes (take (two_at s 2) (drop 4 s)) ≡ t → Sound s (text_record t)
    by e o none q = λ z. absurd (true≢false z)
    by e o (some cs) q = λ z.
        let (u, a) = text_of_some _ cs q in
        let n : ℕ = two_at s 2 in
        let k : n ≡ length (utf8s cs) = sym (ap length u ∙ take-length n (drop 4 s) o) in
        let j : 4 + n ≡ suc (suc (suc (suc (length (utf8s cs))))) = omega (arith, k) in
        record {
          good = a;
          bytes = framed s 2 'T' 'X' (two n) e m (two_back s 2 h)
              ∙ ap (λ (l : List ℕ). 'T' ∷ 'X' ∷ (two n ++ l))
              (sym (take-append-drop n (drop 4 s)) ∙ ap₂ ◌++◌ (sym u) (drop-drop n 4 s ∙ ap (λ (i : ℕ). drop i s) j))
              ∙ ap (λ (i : ℕ). 'T' ∷ 'X' ∷ (two i ++ (utf8s cs ++ drop (suc (suc (suc (suc (length (utf8s cs)))))) s))) k;
        }

read_sound_as : (s : List ℕ) (m : Mark) → Bytes s → Spells (get_or s 0 0) (get_or s 1 0) m → Sound s (read_as m s)
unfolding read_as opening_at good_opening segment_at good_segment record_bytes mark field_bytes head_bytes is_broken two gets four code_bytes
read_sound_as s UN h m = on_whole s 3 _ _ λ e o z. record { good = o; bytes = framed s 1 'U' 'N' (get_or s 2 0 ∷ []) e m refl }
read_sound_as s UE h m = λ z. record { good = tt; bytes = two_front s 84 68 m }
read_sound_as s SG h m =
    on_whole_part s 6 _ _ λ e o z.
    record {
      good = (and_left _ _ o, and_right (among (get_or s 4 0) ('Y' ∷ 'N' ∷ '-' ∷ [])) _ o);
      bytes = framed s 4 'S' 'G' (two (two_at s 2) ++ (get_or s 4 0 ∷ get_or s 5 0 ∷ [])) e m (ap (λ (l : List ℕ). l ++ (get_or s 4 0 ∷ get_or s 5 0 ∷ [])) (two_back s 2 h));
    }
read_sound_as s IG h m = on_whole_part s 4 _ _ λ e o z. record { good = tt; bytes = framed s 2 'I' 'G' (two (two_at s 2)) e m (two_back s 2 h) }
read_sound_as s TG h m = on_whole s 4 _ _ λ e o z. record { good = tt; bytes = framed s 2 'T' 'G' (two (two_at s 2)) e m (two_back s 2 h) }
read_sound_as s TX h m = sound_text s h m
read_sound_as s CP h m = on_whole s 6 _ _ λ e o z. record { good = tt; bytes = framed s 4 'C' 'P' (four (four_at s 2)) e m (four_back s h) }
read_sound_as s PH h m = on_whole s 12 _ _ λ e o z. record { good = o; bytes = framed s 10 'P' 'H' (code_bytes (code_fields_at s)) e m (code_back s h) }
read_sound_as s PO h m = sound_code s _ _ (pair start form_P) h m (λ f o. o) (λ f. refl)
read_sound_as s PC h m = sound_code s _ _ (pair end form_P) h m (λ f o. o) (λ f. refl)
read_sound_as s SC h m = sound_code s _ _ (pair start form_S) h m (λ f o. o) (λ f. refl)
read_sound_as s EC h m = sound_code s _ _ (pair end form_S) h m (λ f o. o) (λ f. refl)
read_sound_as s IS h m = sound_code s _ _ (isolated start) h m (λ f o. o) (λ f. refl)
read_sound_as s IE h m = sound_code s _ _ (isolated end) h m (λ f o. o) (λ f. refl)
read_sound_as s MO h m = sound_start s _ _ form_P h m (λ i l. refl)
read_sound_as s SM h m = sound_start s _ _ form_S h m (λ i l. refl)
read_sound_as s MC h m = sound_end s _ _ form_P h m (λ i. refl)
read_sound_as s EM h m = sound_end s _ _ form_S h m (λ i. refl)
read_sound_as s unknown h m = λ z. absurd (true≢false z)

-- a record that is not broken: its fields are good, and the bytes begin with its own
pub read_sound : (s : List ℕ) → Bytes s → is_broken (read s) ≡ false → ReadFrom s (read s)
unfolding read
read_sound s h = read_sound_as s (mark_at s) h (spells_at s)
