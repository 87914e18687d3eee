-- Laws of tables: a unit is read back from its bytes.
use Prim.Native.Nat.{ℕ, zero, suc, ◌+◌, ◌<◌, ◌≤◌}
use mathlib.Core.Path.{◌≡◌, refl, ap, ◌∙◌}
use mathlib.Core.Bool.{false}
use mathlib.Core.List.{List, [], ◌∷◌, ◌++◌, map, append_assoc, append-nil}
use native.Mathlib.Omega.{arith}
use lib.ListN.{length, drop}
use lib.Seq.{drop-append_seam}
use Rattle.xliff.specs.Bytes.{gather}
use Rattle.xliff.specs.Item.{Item, Content, start, end, form_P, form_S, text, character, standalone, isolated, pair, annotation_start, annotation_end, mark}
use Rattle.xliff.specs.Unit.{segment, ignorable, Target, no_target, target, Part, XliffUnit}
use Rattle.xliff.specs.Encode.{Record, opening, closing, part_head, target_head, text_run, inline, ill_text, broken, head_bytes, record_bytes, text_before, item_before, content_records, target_records, part_records, unit_records, spell, encode}
use Rattle.xliff.specs.Parse.{is_broken, read, Entry, walk, most_records, entries, records, Reading, take_record, reading, opening_of, unit}
use Rattle.xliff.specs.Good.{each_cons, GoodRecord, AllGood}
use Rattle.xliff.proofs.records.Read.{read_bytes}

-- records one after the other, with their offsets
unfoldable pub placed : ℕ → List Record → List Entry
placed at [] = []
placed at (r ∷ rs) = record { at = at; the = r } ∷ placed (at + length (record_bytes r)) rs

pub the_placed : (at : ℕ) (rs : List Record) → map (λ (e : Entry). e.the) (placed at rs) ≡ rs
unfolding placed
the_placed at [] = refl
the_placed at (r ∷ rs) = ap {B = List Record} (λ l. r ∷ l) (the_placed (at + length (record_bytes r)) rs)

good_whole : (r : Record) → GoodRecord r → is_broken r ≡ false
unfolding is_broken
good_whole (opening c) g = refl
good_whole closing g = refl
good_whole (part_head h) g = refl
good_whole (target_head q) g = refl
good_whole (text_run cs) g = refl
good_whole (inline x) g = refl
good_whole ill_text g = absurd g
good_whole (broken b) g = absurd g

-- a record is never empty
pub good_length : (r : Record) (t : List ℕ) → GoodRecord r → 0 < length (record_bytes r ++ t)
unfolding record_bytes head_bytes mark
good_length (opening c) t g = omega arith
good_length closing t g = omega arith
good_length (part_head (segment f)) t g = omega arith
good_length (part_head (ignorable i)) t g = omega arith
good_length (target_head q) t g = omega arith
good_length (text_run cs) t g = omega arith
good_length (inline (text c)) t g = absurd g
good_length (inline (character c)) t g = omega arith
good_length (inline (standalone f)) t g = omega arith
good_length (inline (isolated start f)) t g = omega arith
good_length (inline (isolated end f)) t g = omega arith
good_length (inline (pair start form_P f)) t g = omega arith
good_length (inline (pair start form_S f)) t g = omega arith
good_length (inline (pair end form_P f)) t g = omega arith
good_length (inline (pair end form_S f)) t g = omega arith
good_length (inline (annotation_start form_P i l)) t g = omega arith
good_length (inline (annotation_start form_S i l)) t g = omega arith
good_length (inline (annotation_end form_P i)) t g = omega arith
good_length (inline (annotation_end form_S i)) t g = omega arith
good_length ill_text t g = absurd g
good_length (broken b) t g = absurd g

-- one step of the walk
pub walk_step : (n at : ℕ) (s : List ℕ) (r : Record) → 0 < length s → read s ≡ r → is_broken r ≡ false
    → walk (suc n) at s ≡ record { at = at; the = r } ∷ walk n (at + length (record_bytes r)) (drop (length (record_bytes r)) s)
unfolding walk
walk_step n at [] r l e w = let z : ⊥ = omega arith in absurd z
walk_step n at (b ∷ s) r l e w = rw (e, w, walk)

-- the walk over the bytes of good records finds them
pub walk_spell : (n at : ℕ) (rs : List Record) → AllGood rs → length rs ≤ n → walk n at (spell rs) ≡ placed at rs
unfolding spell gather placed walk
walk_spell zero at [] a h = refl
walk_spell (suc n) at [] a h = refl
walk_spell zero at (r ∷ rs) a h = let z : ⊥ = omega arith in absurd z
walk_spell (suc n) at (r ∷ rs) (each_cons g a) h =
    walk_step n at (record_bytes r ++ spell rs) r (good_length r (spell rs) g) (read_bytes r (spell rs) g) (good_whole r g)
    ∙ ap (λ (l : List ℕ). record { at = at; the = r } ∷ walk n (at + length (record_bytes r)) l) (drop-append_seam (record_bytes r) (spell rs))
    ∙ ap {B = List Entry} (λ l. record { at = at; the = r } ∷ l) (walk_spell n (at + length (record_bytes r)) rs a (omega arith))

pub records_spell : (rs : List Record) → AllGood rs → length rs ≤ suc most_records → records (spell rs) ≡ rs
unfolding records entries
records_spell rs a h = ap (map (λ (e : Entry). e.the)) (walk_spell (suc most_records) 0 rs a h) ∙ the_placed 0 rs

-- items in front of a reading
unfoldable pub onto : Content → Reading → Reading
onto xs g = record { items = xs ++ g.items; target = g.target; parts = g.parts }

reading_text : (c : ℕ) (ys rs : List Record) → reading (text_before c ys ++ rs) ≡ onto (text c ∷ []) (reading (ys ++ rs))
unfolding text_before reading take_record onto
reading_text c [] rs = refl
reading_text c (opening d ∷ ys) rs = refl
reading_text c (closing ∷ ys) rs = refl
reading_text c (part_head h ∷ ys) rs = refl
reading_text c (target_head q ∷ ys) rs = refl
reading_text c (text_run cs ∷ ys) rs = refl
reading_text c (inline x ∷ ys) rs = refl
reading_text c (ill_text ∷ ys) rs = refl
reading_text c (broken b ∷ ys) rs = refl

reading_item : (x : Item) (ys rs : List Record) → reading (item_before x ys ++ rs) ≡ onto (x ∷ []) (reading (ys ++ rs))
unfolding item_before reading take_record onto
reading_item (text c) ys rs = reading_text c ys rs
reading_item (character c) ys rs = refl
reading_item (standalone f) ys rs = refl
reading_item (isolated h f) ys rs = refl
reading_item (pair h w f) ys rs = refl
reading_item (annotation_start w i t) ys rs = refl
reading_item (annotation_end w i) ys rs = refl

-- the records of a content are read as the content
pub reading_content : (xs : Content) (rs : List Record) → reading (content_records xs ++ rs) ≡ onto xs (reading rs)
unfolding content_records onto
reading_content [] rs = refl
reading_content (x ∷ xs) rs = reading_item x (content_records xs) rs ∙ ap (onto (x ∷ [])) (reading_content xs rs)

-- the parts of a unit are read back
abbrev Outside : List Part → Reading
Outside ps = record { items = []; target = no_target; parts = ps }

reading_target : (g : Target) (rs : List Record) (ps : List Part) → reading rs ≡ Outside ps
    → reading (target_records g ++ rs) ≡ record { items = []; target = g; parts = ps }
unfolding target_records reading take_record onto
reading_target no_target rs ps e = e
reading_target (target o xs) rs ps e =
    ap (take_record (target_head o)) (reading_content xs rs ∙ ap (onto xs) e)
    ∙ ap (λ (ys : Content). record { items = []; target = target o ys; parts = ps }) (append-nil xs)

reading_inside : (xs : Content) (g : Target) (rs : List Record) (ps : List Part) → reading rs ≡ Outside ps
    → reading (content_records xs ++ target_records g ++ rs) ≡ record { items = xs; target = g; parts = ps }
unfolding onto
reading_inside xs g rs ps e =
    ap reading (append_assoc (content_records xs) (target_records g) rs) ∙ reading_content xs (target_records g ++ rs)
    ∙ ap (onto xs) (reading_target g rs ps e) ∙ ap (λ (ys : Content). record { items = ys; target = g; parts = ps }) (append-nil xs)

reading_part : (p : Part) (rs : List Record) (ps : List Part) → reading rs ≡ Outside ps → reading (part_records p ++ rs) ≡ Outside (p ∷ ps)
unfolding part_records reading take_record
reading_part p rs ps e = ap (take_record (part_head p.head)) (reading_inside p.source p.target rs ps e)

pub reading_parts : (ps : List Part) → reading (gather part_records ps ++ (closing ∷ [])) ≡ Outside ps
unfolding gather reading take_record
reading_parts [] = refl
reading_parts (p ∷ ps) =
    ap reading (append_assoc (part_records p) (gather part_records ps) (closing ∷ []))
    ∙ reading_part p (gather part_records ps ++ (closing ∷ [])) ps (reading_parts ps)

pub records_unit : (u : XliffUnit) → AllGood (unit_records u) → length (unit_records u) ≤ suc most_records → unit (encode u) ≡ u
unfolding unit encode unit_records opening_of reading take_record
records_unit u a h =
    ap (λ (rs : List Record). record { opening = opening_of rs; parts = (reading rs).parts }) (records_spell (unit_records u) a h)
    ∙ ap (λ (g : Reading). record { opening = u.opening; parts = g.parts }) (reading_parts u.parts)
