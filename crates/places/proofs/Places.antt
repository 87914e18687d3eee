-- The records of a table with their offsets, and the items of its contents with theirs: the same, but for texts.
use Rattle.places.specs.Offsets.{At, Inner, no_inner, text_inner, inline_inner}
use Rattle.xliff.specs.Good.{each_cons, GoodRecord, AllGood, part_heads}
use Prim.Native.Nat.{ℕ, ◌+◌, ◌-◌, ◌<◌, ◌≤◌}
use mathlib.Core.Path.{◌≡◌, refl, sym, ap, ◌∙◌, subst}
use mathlib.Core.Bool.{Bool, true, false, true≢false}
use mathlib.Core.List.{List, [], ◌∷◌, ◌++◌, reverse, reverse_aux, append_assoc, append-nil}
use mathlib.Core.Option.{none}
use native.Mathlib.Omega.{arith}
use lib.ListN.{length, drop, length-append, length-drop}
use lib.Seq.{drop-append_seam, drop-drop}
use Rattle.xliff.specs.Bytes.{gather, Bytes}
use Rattle.xliff.specs.Item.{Item, Content, text, character, standalone, isolated, pair, annotation_start, annotation_end}
use Rattle.xliff.specs.Encode.{Record, opening, closing, part_head, target_head, text_run, inline, ill_text, broken, record_bytes, text_before, item_before, content_records, unit_records, spell, content_bytes, encode}
use Rattle.xliff.specs.Parse.{Entry, table_fault, unit, records, entries, read, most_records, most_parts, unit_due}
use Rattle.xliff.specs.Sequences.{Placed, placed_from}
use Rattle.xliff.proofs.lists.Tests.{gather_append}
use Rattle.xliff.proofs.records.Parse.{placed, good_length}
use Rattle.xliff.proofs.records.Read.{read_bytes}
use Rattle.xliff.proofs.unit.Valid.{unit_good}
use Rattle.xliff.proofs.unit.Table.{table_walked, encode_unit}
use Rattle.xliff.proofs.unit.Limits.{few_from, own_records}
use Rattle.xliff.specs.Check.{table_refusal}
use Rattle.xliff.proofs.unit.Result.{then_left, then_right}
use Rattle.places.specs.Passes.{Passes}

pub placed_append : (at : ℕ) (rs qs : List Record) → placed at (rs ++ qs) ≡ placed at rs ++ placed (at + length (spell rs)) qs
unfolding placed spell gather
placed_append at [] qs = ap (λ (k : ℕ). placed k qs) (omega arith)
placed_append at (r ∷ rs) qs =
    ap {B = List Entry} (λ l. record { at = at; the = r } ∷ l)
    (placed_append (at + length (record_bytes r)) rs qs
    ∙ ap (λ (k : ℕ). placed (at + length (record_bytes r)) rs ++ placed k qs)
    (let z : at + length (record_bytes r) + length (spell rs) ≡ at + length (record_bytes r ++ spell rs)
    = omega (arith, length-append (record_bytes r) (spell rs)) in z))

-- a content with one more item that is no text has one more record
unfoldable pub is_text : Item → Bool
is_text (text c) = true
is_text (character c) = false
is_text (standalone f) = false
is_text (isolated h f) = false
is_text (pair h w f) = false
is_text (annotation_start w i t) = false
is_text (annotation_end w i) = false

text_before_more : (c : ℕ) (rs : List Record) (x : Item) → text_before c (rs ++ (inline x ∷ [])) ≡ text_before c rs ++ (inline x ∷ [])
unfolding text_before
text_before_more c [] x = refl
text_before_more c (opening d ∷ rs) x = refl
text_before_more c (closing ∷ rs) x = refl
text_before_more c (part_head h ∷ rs) x = refl
text_before_more c (target_head q ∷ rs) x = refl
text_before_more c (text_run cs ∷ rs) x = refl
text_before_more c (inline y ∷ rs) x = refl
text_before_more c (ill_text ∷ rs) x = refl
text_before_more c (broken b ∷ rs) x = refl

item_before_more : (y : Item) (rs : List Record) (x : Item) → item_before y (rs ++ (inline x ∷ [])) ≡ item_before y rs ++ (inline x ∷ [])
unfolding item_before
item_before_more (text c) rs x = text_before_more c rs x
item_before_more (character c) rs x = refl
item_before_more (standalone f) rs x = refl
item_before_more (isolated h f) rs x = refl
item_before_more (pair h w f) rs x = refl
item_before_more (annotation_start w i t) rs x = refl
item_before_more (annotation_end w i) rs x = refl

last_alone : (x : Item) → is_text x ≡ false → item_before x [] ≡ inline x ∷ []
unfolding is_text item_before
last_alone (text c) e = absurd (true≢false e)
last_alone (character c) e = refl
last_alone (standalone f) e = refl
last_alone (isolated h f) e = refl
last_alone (pair h w f) e = refl
last_alone (annotation_start w i t) e = refl
last_alone (annotation_end w i) e = refl

content_more : (ys : Content) (x : Item) → is_text x ≡ false → content_records (ys ++ (x ∷ [])) ≡ content_records ys ++ (inline x ∷ [])
unfolding content_records
content_more [] x e = last_alone x e
content_more (y ∷ ys) x e = ap (item_before y) (content_more ys x e) ∙ item_before_more y (content_records ys) x

-- a content with one more code point has one more text, or a longer one, at its end
data Grown : List Record → List Record → Type 0 where
  new : {cs : List ℕ} → Grown [] (text_run cs ∷ [])
  longer : {cs ds : List ℕ} → Grown (text_run cs ∷ []) (text_run ds ∷ [])
  under : {r : Record} {rs qs : List Record} → Grown rs qs → Grown (r ∷ rs) (r ∷ qs)

grown_under : (d : ℕ) (r : Record) {rs qs : List Record} → Grown rs qs → Grown (text_before d (r ∷ rs)) (text_before d (r ∷ qs))
unfolding text_before
grown_under d (opening c) g = under (under g)
grown_under d closing g = under (under g)
grown_under d (part_head h) g = under (under g)
grown_under d (target_head q) g = under (under g)
grown_under d (text_run cs) g = under g
grown_under d (inline x) g = under (under g)
grown_under d ill_text g = under (under g)
grown_under d (broken b) g = under (under g)

grown_text : (d : ℕ) {rs qs : List Record} → Grown rs qs → Grown (text_before d rs) (text_before d qs)
unfolding text_before
grown_text d new = longer
grown_text d longer = longer
grown_text d (under {r} g) = grown_under d r g

grown_item : (y : Item) (rs qs : List Record) → Grown rs qs → Grown (item_before y rs) (item_before y qs)
unfolding item_before
grown_item (text c) rs qs g = grown_text c g
grown_item (character c) rs qs g = under g
grown_item (standalone f) rs qs g = under g
grown_item (isolated h f) rs qs g = under g
grown_item (pair h w f) rs qs g = under g
grown_item (annotation_start w i t) rs qs g = under g
grown_item (annotation_end w i) rs qs g = under g

grown : (ys : Content) (c : ℕ) → Grown (content_records ys) (content_records (ys ++ (text c ∷ [])))
unfolding content_records item_before text_before
grown [] c = new
grown (y ∷ ys) c = grown_item y _ _ (grown ys c)

reverse_on : (xs ys zs : Content) → reverse_aux xs (ys ++ zs) ≡ reverse_aux xs ys ++ zs
reverse_on [] ys zs = refl
reverse_on (x ∷ xs) ys zs = reverse_on xs (x ∷ ys) zs

reverse_cons : (x : Item) (xs : Content) → reverse (x ∷ xs) ≡ reverse xs ++ (x ∷ [])
reverse_cons x xs = reverse_on xs [] (x ∷ [])

-- what is gathered from items that are no texts is gathered from their records
module _ {B : Type 0} (f : Placed → List B) (no_text : (c at : ℕ) → f (record { item = text c; at = at }) ≡ []) where
  unfoldable pub of_entry : Entry → List B
  of_entry e =
      elim e.the [
        | opening c ↦ []
        | closing ↦ []
        | part_head h ↦ []
        | target_head q ↦ []
        | text_run cs ↦ []
        | inline x ↦ f (record { item = x; at = e.at })
        | ill_text ↦ []
        | broken b ↦ []
      ]

  Found : ℕ → List Record → List B
  Found at rs = gather of_entry (placed at rs)

  same_grown : (at : ℕ) {rs qs : List Record} → Grown rs qs → Found at rs ≡ Found at qs
  unfolding Found placed gather of_entry
  same_grown at new = refl
  same_grown at longer = refl
  same_grown at (under {r} g) =
      ap (λ (l : List B). of_entry (record { at = at; the = r }) ++ l) (same_grown (at + length (record_bytes r)) g)

  more : (at : ℕ) (ys : Content) (x : Item) → is_text x ≡ false
      → Found at (content_records (ys ++ (x ∷ []))) ≡ Found at (content_records ys) ++ f (record { item = x; at = at + length (content_bytes ys) })
  unfolding Found content_bytes placed gather of_entry
  more at ys x e =
      ap (λ (l : List Record). gather of_entry (placed at l)) (content_more ys x e)
      ∙ ap (gather of_entry) (placed_append at (content_records ys) (inline x ∷ []))
      ∙ gather_append of_entry (placed at (content_records ys)) (placed (at + length (spell (content_records ys))) (inline x ∷ []))
      ∙ ap (λ (l : List B). gather of_entry (placed at (content_records ys)) ++ l)
      (append-nil (f (record { item = x; at = at + length (spell (content_records ys)) })))

  one_more : (at : ℕ) (ys : Content) (x : Item)
      → Found at (content_records (ys ++ (x ∷ []))) ≡ Found at (content_records ys) ++ f (record { item = x; at = at + length (content_bytes ys) })
  unfolding is_text
  one_more at ys (text c) =
      sym (same_grown at (grown ys c)) ∙ sym (append-nil (Found at (content_records ys)))
      ∙ ap (λ (l : List B). Found at (content_records ys) ++ l) (sym (no_text c (at + length (content_bytes ys))))
  one_more at ys (character c) = more at ys (character c) refl
  one_more at ys (standalone g) = more at ys (standalone g) refl
  one_more at ys (isolated h g) = more at ys (isolated h g) refl
  one_more at ys (pair h w g) = more at ys (pair h w g) refl
  one_more at ys (annotation_start w i l) = more at ys (annotation_start w i l) refl
  one_more at ys (annotation_end w i) = more at ys (annotation_end w i) refl

  from_seen : (at : ℕ) (seen xs : Content)
      → Found at (content_records (reverse seen ++ xs)) ≡ Found at (content_records (reverse seen)) ++ gather f (placed_from at seen xs)
  unfolding placed_from gather
  from_seen at seen [] = ap (λ (l : Content). Found at (content_records l)) (append-nil (reverse seen))
      ∙ sym (append-nil (Found at (content_records (reverse seen))))
  from_seen at seen (x ∷ xs) =
      ap (λ (l : Content). Found at (content_records l))
      (sym (append_assoc (reverse seen) (x ∷ []) xs) ∙ ap (λ (l : Content). l ++ xs) (sym (reverse_cons x seen)))
      ∙ from_seen at (x ∷ seen) xs
      ∙ ap (λ (l : Content). Found at (content_records l) ++ gather f (placed_from at (x ∷ seen) xs)) (reverse_cons x seen)
      ∙ ap (λ (l : List B). l ++ gather f (placed_from at (x ∷ seen) xs)) (one_more at (reverse seen) x)
      ∙ append_assoc (Found at (content_records (reverse seen))) (f (record { item = x; at = at + length (content_bytes (reverse seen)) }))
      (gather f (placed_from at (x ∷ seen) xs))

  -- the items of a content, and its records
  pub content_found : (at : ℕ) (xs : Content) → gather of_entry (placed at (content_records xs)) ≡ gather f (placed_from at [] xs)
  unfolding Found content_records placed gather
  content_found at xs = from_seen at [] xs

inner_text : (c : ℕ) {rs : List Record} → Inner rs → Inner (text_before c rs)
unfolding text_before
inner_text c no_inner = text_inner no_inner
inner_text c (text_inner h) = text_inner h
inner_text c (inline_inner h) = text_inner (inline_inner h)

inner_item : (x : Item) {rs : List Record} → Inner rs → Inner (item_before x rs)
unfolding item_before
inner_item (text c) h = inner_text c h
inner_item (character c) h = inline_inner h
inner_item (standalone f) h = inline_inner h
inner_item (isolated g f) h = inline_inner h
inner_item (pair g w f) h = inline_inner h
inner_item (annotation_start w i l) h = inline_inner h
inner_item (annotation_end w i) h = inline_inner h

pub content_inner : (xs : Content) → Inner (content_records xs)
unfolding content_records
content_inner [] = no_inner
content_inner (x ∷ xs) = inner_item x (content_inner xs)

pub passes : (t : List ℕ) → Bytes t → table_fault t ≡ none → Passes t
unfolding encode records table_fault
passes t h k =
    let e = own_records t h k in
    let n = few_from (length t) most_records most_parts unit_due (entries t) k in
    record {
      good = subst AllGood (sym e) (table_walked t h k).good;
      bytes = encode_unit t h k;
      few = subst (λ (rs : List Record). length rs ≤ most_records) (sym e) n.0;
      few_parts = subst (λ (rs : List Record). part_heads rs ≤ most_parts) (sym e) n.1;
      good_parts = unit_good t h k;
    }

pub checked_passes : (t : List ℕ) → Bytes t → table_refusal t ≡ none → Passes t
unfolding table_refusal
checked_passes t h v = passes t h (then_left _ _ (then_right _ _ v))

pub at_start : (t : List ℕ) → Passes t → At t 0 (unit_records (unit t))
at_start t p = record { good = p.good; rest = p.bytes; within = omega arith }

-- the next record is what is read there
pub record Next (t : List ℕ) (at : ℕ) (r : Record) (rs : List Record) : Type 0 where
  pub reads : read (drop at t) ≡ r
  pub moves : 0 < length (record_bytes r)
  pub fits : at + length (record_bytes r) ≤ length t
  pub then : At t (at + length (record_bytes r)) rs

good_first : {r : Record} {rs : List Record} → AllGood (r ∷ rs) → GoodRecord r × AllGood rs
good_first (each_cons g a) = (g, a)

pub at_next : (t : List ℕ) (at : ℕ) (r : Record) (rs : List Record) → At t at (r ∷ rs) → Next t at r rs
unfolding spell gather
at_next t at r rs a =
    let g = good_first a.good in
    let n = length (record_bytes r) in
    let k : length (record_bytes r ++ spell rs) ≡ length t - at = ap length a.rest ∙ length-drop at t in
    let w : at + length (record_bytes r) ≤ length t = omega (arith, k, length-append (record_bytes r) (spell rs), a.within) in
    record {
      reads = ap read (sym a.rest) ∙ read_bytes r (spell rs) g.0;
      moves = omega (arith, good_length r [] g.0, length-append (record_bytes r) []);
      fits = w;
      then = record {
        good = g.1;
        rest = sym (drop-append_seam (record_bytes r) (spell rs)) ∙ ap (drop (length (record_bytes r))) a.rest
            ∙ drop-drop (length (record_bytes r)) at t;
        within = w;
      };
    }

pub at_end : (t : List ℕ) (at : ℕ) (rs : List Record) → At t at rs → length t ≤ at → rs ≡ []
unfolding spell gather
at_end t at [] a h = refl
at_end t at (r ∷ rs) a h = let n = at_next t at r rs a in absurd (omega (arith, n.moves, n.fits))

-- there is a next record before the end
pub at_more : (t : List ℕ) (at : ℕ) (rs : List Record) → At t at rs → at < length t → (r : Record) × (qs : List Record) × (rs ≡ r ∷ qs)
unfolding spell gather
at_more t at [] a h = let k : length (spell []) ≡ length t - at = ap length a.rest ∙ length-drop at t in absurd (omega (arith, k))
at_more t at (r ∷ rs) a h = (r, rs, refl)
