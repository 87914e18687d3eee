-- For callers: which bytes hold a content. A content whose records are good, and bytes that pass the content rules.
use Prim.Native.Nat.{ℕ, ◌<◌}
use mathlib.Core.Path.{◌≡◌, sym, ◌∙◌, subst}
use mathlib.Core.Bool.{true, false}
use mathlib.Core.List.{List, [], ◌∷◌, ◌++◌, append-nil}
use mathlib.Core.Option.{none}
use native.Mathlib.Omega.{arith}
use lib.ListN.{length, length-append}
use Rattle.xliff.specs.Bytes.{two, gather, Bytes, one_byte}
use Rattle.xliff.specs.Text.{utf8, utf8s}
use Rattle.xliff.specs.Item.{Item, Content, text, character, standalone, isolated, pair, annotation_start, annotation_end}
use Rattle.xliff.specs.Encode.{Record, text_run, inline, record_bytes, text_before, item_before, content_records, spell, content_bytes}
use Rattle.xliff.specs.Parse.{content, content_fault, records, alone}
use Rattle.xliff.specs.Good.{each_nil, each_cons, Allowed, one_point, GoodItem, AllGood}
use Rattle.xliff.proofs.unit.Table.{content_walked, encode_content, shape}
use Rattle.walk.specs.Kept.{Kept, kept_end, kept_item, kept_text, Holds}

-- records of a content, without a word on what stands beside a text
data Only : List Record → Type 0 where
  only_end : Only []
  only_item : {x : Item} {rs : List Record} → Only rs → Only (inline x ∷ rs)
  only_text : {cs : List ℕ} {rs : List Record} → Only rs → Only (text_run cs ∷ rs)

only_before : (c : ℕ) (rs : List Record) → Only rs → Only (text_before c rs)
unfolding text_before
only_before c [] only_end = only_text only_end
only_before c (Rattle.xliff.specs.Encode.opening _ ∷ rs) x4 = elim x4 [ ]
only_before c (Rattle.xliff.specs.Encode.closing ∷ rs) x4 = elim x4 [ ]
only_before c (Rattle.xliff.specs.Encode.part_head _ ∷ rs) x6 = elim x6 [ ]
only_before c (Rattle.xliff.specs.Encode.target_head _ ∷ rs) x7 = elim x7 [ ]
only_before c (Rattle.xliff.specs.Encode.ill_text ∷ rs) x7 = elim x7 [ ]
only_before c (Rattle.xliff.specs.Encode.broken _ ∷ rs) x9 = elim x9 [ ]
only_before c (inline x ∷ rs) (only_item o) = only_text (only_item o)
only_before c (text_run cs ∷ rs) (only_text o) = only_text o

only_content : (xs : Content) → Only (content_records xs)
unfolding content_records item_before
only_content [] = only_end
only_content (text c ∷ xs) = only_before c (content_records xs) (only_content xs)
only_content (character c ∷ xs) = only_item (only_content xs)
only_content (standalone f ∷ xs) = only_item (only_content xs)
only_content (isolated h f ∷ xs) = only_item (only_content xs)
only_content (pair h w f ∷ xs) = only_item (only_content xs)
only_content (annotation_start w i t ∷ xs) = only_item (only_content xs)
only_content (annotation_end w i ∷ xs) = only_item (only_content xs)

-- good, and each text short enough for its length
data Fine : List Record → Type 0 where
  fine_end : Fine []
  fine_item : {x : Item} {rs : List Record} → GoodItem x → Fine rs → Fine (inline x ∷ rs)
  fine_text : {cs : List ℕ} {rs : List Record} → Allowed cs → length (utf8s cs) < 65536 → Fine rs → Fine (text_run cs ∷ rs)

bytes_behind : (a b : List ℕ) → Bytes (a ++ b) → Bytes b
bytes_behind [] b h = h
bytes_behind (x ∷ a) b (one_byte p h) = bytes_behind a b h

short_text : (cs s : List ℕ) → Bytes (record_bytes (text_run cs) ++ s) → length (utf8s cs) < 65536
unfolding record_bytes two
short_text cs s (one_byte p (one_byte q (one_byte r h))) = omega arith

fine : (rs : List Record) → Only rs → AllGood rs → Bytes (spell rs) → Fine rs
unfolding spell gather
fine [] only_end each_nil h = fine_end
fine (Rattle.xliff.specs.Encode.opening _ ∷ rs) x7 _ h = elim x7 [ ]
fine (Rattle.xliff.specs.Encode.closing ∷ rs) x7 _ h = elim x7 [ ]
fine (Rattle.xliff.specs.Encode.part_head _ ∷ rs) x9 _ h = elim x9 [ ]
fine (Rattle.xliff.specs.Encode.target_head _ ∷ rs) x10 _ h = elim x10 [ ]
fine (Rattle.xliff.specs.Encode.ill_text ∷ rs) x10 _ h = elim x10 [ ]
fine (Rattle.xliff.specs.Encode.broken _ ∷ rs) x12 _ h = elim x12 [ ]
fine (inline x ∷ rs) (only_item o) (each_cons g a) h = fine_item g (fine rs o a (bytes_behind (record_bytes (inline x)) (spell rs) h))
fine (text_run cs ∷ rs) (only_text o) (each_cons g a) h =
    fine_text g (short_text cs (spell rs) h) (fine rs o a (bytes_behind (record_bytes (text_run cs)) (spell rs) h))

again : (x : Item) (rs : List Record) → Kept false (inline x ∷ rs) → Kept true (inline x ∷ rs)
again x rs (kept_item g k) = kept_item g k

behind : (cs : List ℕ) (rs : List Record) → Kept false (text_run cs ∷ rs) → Kept true rs
behind cs rs (kept_text b m k) = k

-- a text in front
kept_before : (c : ℕ) (rs : List Record) → Only rs → Fine (text_before c rs) → (Fine rs → Kept false rs) → Kept false (text_before c rs)
unfolding text_before utf8s gather
kept_before c [] only_end (fine_text a l f) ih = kept_text a l kept_end
kept_before c (Rattle.xliff.specs.Encode.opening _ ∷ rs) x7 _ ih = elim x7 [ ]
kept_before c (Rattle.xliff.specs.Encode.closing ∷ rs) x7 _ ih = elim x7 [ ]
kept_before c (Rattle.xliff.specs.Encode.part_head _ ∷ rs) x9 _ ih = elim x9 [ ]
kept_before c (Rattle.xliff.specs.Encode.target_head _ ∷ rs) x10 _ ih = elim x10 [ ]
kept_before c (Rattle.xliff.specs.Encode.ill_text ∷ rs) x10 _ ih = elim x10 [ ]
kept_before c (Rattle.xliff.specs.Encode.broken _ ∷ rs) x12 _ ih = elim x12 [ ]
kept_before c (inline x ∷ rs) (only_item o) (fine_text a l f) ih = kept_text a l (again x rs (ih f))
kept_before c (text_run cs ∷ rs) (only_text o) (fine_text (one_point p a) l f) ih =
    kept_text (one_point p a) l
    (behind cs rs (ih (fine_text a
    (let z : length (utf8s cs) < 65536 = omega (arith, length-append (utf8 c) (gather utf8 cs)) in z) f)))

kept_fine : (xs : Content) → Fine (content_records xs) → Kept false (content_records xs)
unfolding content_records item_before
kept_fine [] f = kept_end
kept_fine (text c ∷ xs) f = kept_before c (content_records xs) (only_content xs) f (λ g. kept_fine xs g)
kept_fine (character c ∷ xs) (fine_item g f) = kept_item g (kept_fine xs f)
kept_fine (standalone h ∷ xs) (fine_item g f) = kept_item g (kept_fine xs f)
kept_fine (isolated h i ∷ xs) (fine_item g f) = kept_item g (kept_fine xs f)
kept_fine (pair h w i ∷ xs) (fine_item g f) = kept_item g (kept_fine xs f)
kept_fine (annotation_start w i t ∷ xs) (fine_item g f) = kept_item g (kept_fine xs f)
kept_fine (annotation_end w i ∷ xs) (fine_item g f) = kept_item g (kept_fine xs f)

-- the bytes of a content with good records hold it
pub holds_good : (c : List ℕ) (xs : Content) → Bytes c → content_bytes xs ≡ c → AllGood (content_records xs) → Holds c xs
unfolding content_bytes
holds_good c xs h e g = (kept_fine xs (fine (content_records xs) (only_content xs) g (subst Bytes (sym e) h)), e)

content_shape : (c : List ℕ) → Bytes c → content_fault c ≡ none → content_records (content c) ≡ records c
unfolding content records
content_shape c h k = sym (append-nil (content_records (content c))) ∙ shape (alone false) (records c) (content_walked c h k).runs

-- bytes that pass the content rules hold what the specification reads in them
pub holds_content : (c : List ℕ) → Bytes c → content_fault c ≡ none → Holds c (content c)
unfolding content records
holds_content c h k =
    let w = content_walked c h k in
    holds_good c (content c) h (encode_content c h k) (subst AllGood (sym (content_shape c h k)) w.good)
