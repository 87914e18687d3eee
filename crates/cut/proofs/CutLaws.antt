-- Records cut: one by its bytes, all, and the content that they are of.
use Rattle.xliff.specs.Good.{GoodItem}
use Prim.Native.Nat.{ℕ, ◌+◌, ◌-◌, ◌≤◌}
use mathlib.Core.Path.{◌≡◌, refl, sym, ap, ap₂, ◌∙◌}
use mathlib.Core.Bool.{Bool, true, false, ◌&&◌, ◌||◌, cond}
use mathlib.Core.List.{List, [], ◌∷◌, ◌++◌, map, append-nil}
use native.Mathlib.Omega.{arith}
use lib.ListN.{length, take, drop}
use Rattle.xliff.specs.Bytes.{two, four, any, two_at}
use Rattle.xliff.specs.Item.{Item, Content, start, end, form_P, form_S, text, character, standalone, isolated, pair, annotation_start, annotation_end, mark, id_of, class, half, alike, other_half, in_form}
use Rattle.xliff.specs.Encode.{Record, text_run, inline, code_bytes, field_bytes, record_bytes, spell, content_records, content_bytes, item_before}
use Rattle.xliff.specs.Parse.{Mark, UN, UE, SG, IG, TG, TX, CP, PH, PO, PC, SC, EC, IS, IE, MO, SM, MC, EM, unknown, is, mark_of, mark_at, reading, take_record}
use Rattle.xliff.specs.Split.{cut_item}
use Rattle.xliff.proofs.lists.Tests.{two_value, and_false}
use Rattle.xliff.proofs.unit.Table.{starts_text, content_records_text}
use Rattle.xliff.proofs.unit.Forms.{item_long}
use Rattle.walk.specs.Kept.{Kept, kept_end, kept_item, kept_text, items, Inline, an_item, a_text}
use Rattle.walk.specs.Marks.{number, kind_of, kind_at, kind, is_other, has_other}
use Rattle.walk.proofs.WalkLaws.{no_other}
use Rattle.writer.specs.Pieces.{lead, overlay, number_bytes}
use Rattle.writer.proofs.PieceLaws.{over_lead, two_back}
use Rattle.cut.specs.Turned.{turned_mark, turn_if, cut_record, cut_records, text_piece}

and-true : (a : Bool) → a && true ≡ a
and-true true = refl
and-true false = refl

-- the other half, by kind and id
other_is : (x y : Item) → other_half x y ≡ is_other (kind x) (id_of x) y
unfolding other_half alike class half id_of
other_is (text c) y = and_false (alike (text c) y)
other_is (character c) y = and_false (alike (character c) y)
other_is (standalone f) y = and_false (alike (standalone f) y)
other_is (isolated start f) y = and_false (alike (isolated start f) y)
other_is (isolated end f) y = and_false (alike (isolated end f) y)
other_is (pair start w f) (text d) = refl
other_is (pair start w f) (character d) = refl
other_is (pair start w f) (standalone g) = refl
other_is (pair start w f) (isolated start g) = refl
other_is (pair start w f) (isolated end g) = refl
other_is (pair start w f) (pair start v g) = and_false (alike (pair start w f) (pair start v g))
other_is (pair start w f) (pair end v g) = and-true _
other_is (pair start w f) (annotation_start v j u) = refl
other_is (pair start w f) (annotation_end v j) = refl
other_is (pair end w f) (text d) = refl
other_is (pair end w f) (character d) = refl
other_is (pair end w f) (standalone g) = refl
other_is (pair end w f) (isolated start g) = refl
other_is (pair end w f) (isolated end g) = refl
other_is (pair end w f) (pair start v g) = and-true _
other_is (pair end w f) (pair end v g) = and_false (alike (pair end w f) (pair end v g))
other_is (pair end w f) (annotation_start v j u) = refl
other_is (pair end w f) (annotation_end v j) = refl
other_is (annotation_start w i t) (text d) = refl
other_is (annotation_start w i t) (character d) = refl
other_is (annotation_start w i t) (standalone g) = refl
other_is (annotation_start w i t) (isolated start g) = refl
other_is (annotation_start w i t) (isolated end g) = refl
other_is (annotation_start w i t) (pair start v g) = refl
other_is (annotation_start w i t) (pair end v g) = refl
other_is (annotation_start w i t) (annotation_start v j u) = and_false (alike (annotation_start w i t) (annotation_start v j u))
other_is (annotation_start w i t) (annotation_end v j) = and-true _
other_is (annotation_end w i) (text d) = refl
other_is (annotation_end w i) (character d) = refl
other_is (annotation_end w i) (standalone g) = refl
other_is (annotation_end w i) (isolated start g) = refl
other_is (annotation_end w i) (isolated end g) = refl
other_is (annotation_end w i) (pair start v g) = refl
other_is (annotation_end w i) (pair end v g) = refl
other_is (annotation_end w i) (annotation_start v j u) = and-true _
other_is (annotation_end w i) (annotation_end v j) = and_false (alike (annotation_end w i) (annotation_end v j))

pub any_other : (x : Item) (ys : Content) → any (other_half x) ys ≡ has_other (kind x) (id_of x) ys
unfolding any has_other
any_other x [] = refl
any_other x (y ∷ ys) = ap₂ ◌||◌ (other_is x y) (any_other x ys)

-- the test on a record's bytes
turn_is : (x : Item) (s : List ℕ) (ys : Content) → GoodItem x
    → has_other (kind_at (record_bytes (inline x) ++ s)) (number (record_bytes (inline x) ++ s)) ys ≡ any (other_half x) ys
unfolding kind_at mark_at mark_of is two_at record_bytes mark field_bytes code_bytes two four id_of
turn_is (text c) s ys g = absurd g
turn_is (character c) s ys g = no_other _ ys ∙ sym (any_other (character c) ys ∙ no_other _ ys)
turn_is (standalone f) s ys g = no_other _ ys ∙ sym (any_other (standalone f) ys ∙ no_other _ ys)
turn_is (isolated start f) s ys g = no_other _ ys ∙ sym (any_other (isolated start f) ys ∙ no_other _ ys)
turn_is (isolated end f) s ys g = no_other _ ys ∙ sym (any_other (isolated end f) ys ∙ no_other _ ys)
turn_is (pair start form_P f) s ys g = rw (two_value f.id) (sym (any_other (pair start form_P f) ys))
turn_is (pair start form_S f) s ys g = rw (two_value f.id) (sym (any_other (pair start form_S f) ys))
turn_is (pair end form_P f) s ys g = rw (two_value f.id) (sym (any_other (pair end form_P f) ys))
turn_is (pair end form_S f) s ys g = rw (two_value f.id) (sym (any_other (pair end form_S f) ys))
turn_is (annotation_start form_P i t) s ys g = rw (two_value i) (sym (any_other (annotation_start form_P i t) ys))
turn_is (annotation_start form_S i t) s ys g = rw (two_value i) (sym (any_other (annotation_start form_S i t) ys))
turn_is (annotation_end form_P i) s ys g = rw (two_value i) (sym (any_other (annotation_end form_P i) ys))
turn_is (annotation_end form_S i) s ys g = rw (two_value i) (sym (any_other (annotation_end form_S i) ys))

-- the bytes turned
turned_is : (x : Item) → GoodItem x → turn_if true (record_bytes (inline x)) ≡ record_bytes (inline (in_form form_S x))
unfolding turn_if mark_at mark_of is record_bytes mark field_bytes in_form
turned_is (text c) g = absurd g
turned_is (character c) g = refl
turned_is (standalone f) g = refl
turned_is (isolated start f) g = refl
turned_is (isolated end f) g = refl
turned_is (pair start form_P f) g = refl
turned_is (pair start form_S f) g = refl
turned_is (pair end form_P f) g = refl
turned_is (pair end form_S f) g = refl
turned_is (annotation_start form_P i t) g = refl
turned_is (annotation_start form_S i t) g = refl
turned_is (annotation_end form_P i) g = refl
turned_is (annotation_end form_S i) g = refl

form_good : (x : Item) → GoodItem x → GoodItem (in_form form_S x)
unfolding in_form
form_good (text c) g = g
form_good (character c) g = g
form_good (standalone f) g = g
form_good (isolated h f) g = g
form_good (pair h w f) g = g
form_good (annotation_start w i t) g = g
form_good (annotation_end w i) g = g

cut_if : (x : Item) (b : Bool) → GoodItem x → turn_if b (record_bytes (inline x)) ≡ record_bytes (inline (cond b (in_form form_S x) x))
unfolding turn_if
cut_if x true g = turned_is x g
cut_if x false g = refl

text_stays : (cs : List ℕ) (ys : Content)
    → turn_if (has_other (kind_at (record_bytes (text_run cs))) (number (record_bytes (text_run cs))) ys)
    (record_bytes (text_run cs)) ≡ record_bytes (text_run cs)
unfolding kind_at mark_at mark_of is record_bytes two turn_if
text_stays cs ys = rw (no_other _ ys)

-- one record
cut_one : (r : Record) (ys : Content) → Inline r
    → turn_if (has_other (kind_at (record_bytes r)) (number (record_bytes r)) ys) (record_bytes r) ≡ record_bytes (cut_record ys r)
unfolding cut_item
cut_one (Rattle.xliff.specs.Encode.opening _) ys x'' = elim x'' [ ]
cut_one Rattle.xliff.specs.Encode.closing ys x'' = elim x'' [ ]
cut_one (Rattle.xliff.specs.Encode.part_head _) ys x4 = elim x4 [ ]
cut_one (Rattle.xliff.specs.Encode.target_head _) ys x5 = elim x5 [ ]
cut_one Rattle.xliff.specs.Encode.ill_text ys x5 = elim x5 [ ]
cut_one (Rattle.xliff.specs.Encode.broken _) ys x7 = elim x7 [ ]
cut_one (inline x) ys (an_item g) =
    ap (λ (b : Bool). turn_if b (record_bytes (inline x)))
    (ap (λ (l : List ℕ). has_other (kind_at l) (number l) ys) (sym (append-nil (record_bytes (inline x)))) ∙ turn_is x [] ys g)
    ∙ cut_if x (any (other_half x) ys) g
cut_one (text_run cs) ys (a_text a l) = text_stays cs ys

-- the bytes that are written, where the record's mark is read
pub cut_written : (r : Record) (qs : List Record) (t o l : List ℕ) (m : Mark) (b : Bool) → Inline r → t ≡ record_bytes r
    → m ≡ mark_at t → b ≡ has_other (kind_of m) (number t) (items qs) → l ≡ lead (turn_if b t) o
    → l ≡ lead (record_bytes (cut_record (items qs) r)) o
unfolding kind_at
cut_written r qs t o l m b g e mark turn out =
    let found : b ≡ has_other (kind_at t) (number t) (items qs) = turn
    ∙ ap (λ (x : Mark). has_other (kind_of x) (number t) (items qs)) mark in
    out ∙ ap (λ (x : Bool). lead (turn_if x t) o) found
    ∙ ap (λ (x : List ℕ). lead (turn_if (has_other (kind_at x) (number x) (items qs)) x) o) e
    ∙ ap (λ (x : List ℕ). lead x o) (cut_one r (items qs) g)

pub cut_length : (r : Record) (ys : Content) → Inline r → length (record_bytes (cut_record ys r)) ≡ length (record_bytes r)
unfolding cut_item
cut_length (Rattle.xliff.specs.Encode.opening _) ys x'' = elim x'' [ ]
cut_length Rattle.xliff.specs.Encode.closing ys x'' = elim x'' [ ]
cut_length (Rattle.xliff.specs.Encode.part_head _) ys x4 = elim x4 [ ]
cut_length (Rattle.xliff.specs.Encode.target_head _) ys x5 = elim x5 [ ]
cut_length Rattle.xliff.specs.Encode.ill_text ys x5 = elim x5 [ ]
cut_length (Rattle.xliff.specs.Encode.broken _) ys x7 = elim x7 [ ]
cut_length (inline x) ys (an_item g) = item_long form_S (any (other_half x) ys) x
cut_length (text_run cs) ys (a_text a l) = refl

-- the records of a content, cut, are those of the content cut
cut_good : (x : Item) (ys : Content) → GoodItem x → GoodItem (cut_item ys x)
unfolding cut_item
cut_good x ys g = by (any (other_half x) ys)
  where
    by : (b : Bool) → GoodItem (cond b (in_form form_S x) x)
    by true = form_good x g
    by false = g

pub cut_kept : (b : Bool) (ys : Content) (rs : List Record) → Kept b rs → Kept b (cut_records ys rs)
cut_kept b ys [] k = kept_end
cut_kept b ys (Rattle.xliff.specs.Encode.opening _ ∷ rs) k = elim k [ ]
cut_kept b ys (Rattle.xliff.specs.Encode.closing ∷ rs) k = elim k [ ]
cut_kept b ys (Rattle.xliff.specs.Encode.part_head _ ∷ rs) k = elim k [ ]
cut_kept b ys (Rattle.xliff.specs.Encode.target_head _ ∷ rs) k = elim k [ ]
cut_kept b ys (Rattle.xliff.specs.Encode.ill_text ∷ rs) k = elim k [ ]
cut_kept b ys (Rattle.xliff.specs.Encode.broken _ ∷ rs) k = elim k [ ]
cut_kept b ys (inline x ∷ rs) (kept_item g k) = kept_item (cut_good x ys g) (cut_kept false ys rs k)
cut_kept b ys (text_run cs ∷ rs) (kept_text a l k) = kept_text a l (cut_kept true ys rs k)

cut_text : (ys : Content) (c : ℕ) → cut_item ys (text c) ≡ text c
unfolding cut_item in_form
cut_text ys c = by (any (other_half (text c)) ys)
  where
    by : (b : Bool) → cond b (text c) (text c) ≡ text c
    by true = refl
    by false = refl

pub cut_texts : (ys : Content) (cs : List ℕ) (xs : Content) → map (cut_item ys) (map text cs ++ xs) ≡ map text cs ++ map (cut_item ys) xs
cut_texts ys [] xs = refl
cut_texts ys (c ∷ cs) xs = ap₂ ◌∷◌ (cut_text ys c) (cut_texts ys cs xs)

pub cut_items : (b : Bool) (ys : Content) (rs : List Record) → Kept b rs → items (cut_records ys rs) ≡ map (cut_item ys) (items rs)
unfolding reading take_record
cut_items b ys [] k = refl
cut_items b ys (Rattle.xliff.specs.Encode.opening _ ∷ rs) k = elim k [ ]
cut_items b ys (Rattle.xliff.specs.Encode.closing ∷ rs) k = elim k [ ]
cut_items b ys (Rattle.xliff.specs.Encode.part_head _ ∷ rs) k = elim k [ ]
cut_items b ys (Rattle.xliff.specs.Encode.target_head _ ∷ rs) k = elim k [ ]
cut_items b ys (Rattle.xliff.specs.Encode.ill_text ∷ rs) k = elim k [ ]
cut_items b ys (Rattle.xliff.specs.Encode.broken _ ∷ rs) k = elim k [ ]
cut_items b ys (inline x ∷ rs) (kept_item g k) = ap {B = Content} (λ l. cut_item ys x ∷ l) (cut_items false ys rs k)
cut_items b ys (text_run cs ∷ rs) (kept_text a l k) =
    ap (λ (l : Content). map text cs ++ l) (cut_items true ys rs k) ∙ sym (cut_texts ys cs (items rs))

no_text_first : (rs : List Record) → Kept true rs → starts_text rs ≡ false
unfolding starts_text
no_text_first [] k = refl
no_text_first (Rattle.xliff.specs.Encode.opening _ ∷ rs) k = elim k [ ]
no_text_first (Rattle.xliff.specs.Encode.closing ∷ rs) k = elim k [ ]
no_text_first (Rattle.xliff.specs.Encode.part_head _ ∷ rs) k = elim k [ ]
no_text_first (Rattle.xliff.specs.Encode.target_head _ ∷ rs) k = elim k [ ]
no_text_first (text_run _ ∷ rs) k = elim k [ ]
no_text_first (Rattle.xliff.specs.Encode.ill_text ∷ rs) k = elim k [ ]
no_text_first (Rattle.xliff.specs.Encode.broken _ ∷ rs) k = elim k [ ]
no_text_first (inline x ∷ rs) (kept_item g k) = refl

item_alone : (x : Item) (rs : List Record) → GoodItem x → item_before x rs ≡ inline x ∷ rs
unfolding item_before
item_alone (text c) rs g = absurd g
item_alone (character c) rs g = refl
item_alone (standalone f) rs g = refl
item_alone (isolated h f) rs g = refl
item_alone (pair h w f) rs g = refl
item_alone (annotation_start w i t) rs g = refl
item_alone (annotation_end w i) rs g = refl

-- kept records are those of their items
pub kept_records : (b : Bool) (rs : List Record) → Kept b rs → content_records (items rs) ≡ rs
unfolding content_records reading take_record
kept_records b [] k = refl
kept_records b (Rattle.xliff.specs.Encode.opening _ ∷ rs) k = elim k [ ]
kept_records b (Rattle.xliff.specs.Encode.closing ∷ rs) k = elim k [ ]
kept_records b (Rattle.xliff.specs.Encode.part_head _ ∷ rs) k = elim k [ ]
kept_records b (Rattle.xliff.specs.Encode.target_head _ ∷ rs) k = elim k [ ]
kept_records b (text_run [] ∷ rs) k = elim k [ ]
kept_records b (Rattle.xliff.specs.Encode.ill_text ∷ rs) k = elim k [ ]
kept_records b (Rattle.xliff.specs.Encode.broken _ ∷ rs) k = elim k [ ]
kept_records b (inline x ∷ rs) (kept_item g k) = item_alone x (content_records (items rs)) g
    ∙ ap {B = List Record} (λ l. inline x ∷ l) (kept_records false rs k)
kept_records b (text_run (d ∷ ds) ∷ rs) (kept_text a l k) =
    let e : content_records (items rs) ≡ rs = kept_records true rs k in
    content_records_text d ds (items rs) (ap starts_text e ∙ no_text_first rs k) ∙ ap {B = List Record} (λ l. text_run (d ∷ ds) ∷ l) e

pub cut_bytes : (b : Bool) (ys : Content) (rs : List Record) → Kept b rs
    → content_bytes (map (cut_item ys) (items rs)) ≡ spell (cut_records ys rs)
unfolding content_bytes
cut_bytes b ys rs k =
    ap (λ (l : Content). spell (content_records l)) (sym (cut_items b ys rs k))
    ∙ ap spell (kept_records b (cut_records ys rs) (cut_kept b ys rs k))

-- for the code: the turned mark written over that of a copy
over_copy : (m : Mark) (a b : ℕ) (s o : List ℕ) → lead (turned_mark m) (lead (a ∷ b ∷ s) o) ≡ lead (lead (turned_mark m) (a ∷ b ∷ s)) o
over_copy UN a b s o = refl
over_copy UE a b s o = refl
over_copy SG a b s o = refl
over_copy IG a b s o = refl
over_copy TG a b s o = refl
over_copy TX a b s o = refl
over_copy CP a b s o = refl
over_copy PH a b s o = refl
over_copy PO a b s o = refl
over_copy PC a b s o = refl
over_copy SC a b s o = refl
over_copy EC a b s o = refl
over_copy IS a b s o = refl
over_copy IE a b s o = refl
over_copy MO a b s o = refl
over_copy SM a b s o = refl
over_copy MC a b s o = refl
over_copy EM a b s o = refl
over_copy unknown a b s o = refl

pub turned_over : (t o l n : List ℕ) (m : Mark) → 4 ≤ length t → m ≡ mark_at t → l ≡ lead t o → n ≡ lead (turned_mark m) l
    → n ≡ lead (turn_if true t) o
unfolding turn_if
turned_over [] o l n m h e f g = absurd (let z : ⊥ = omega arith in z)
turned_over (a ∷ []) o l n m h e f g = absurd (let z : ⊥ = omega arith in z)
turned_over (a ∷ b ∷ s) o l n m h e f g =
    g ∙ ap (lead (turned_mark m)) f ∙ over_copy m a b s o ∙ ap (λ (k : Mark). lead (lead (turned_mark k) (a ∷ b ∷ s)) o) e

pub not_turned : (t o l : List ℕ) → l ≡ lead t o → l ≡ lead (turn_if false t) o
unfolding turn_if
not_turned t o l e = e

-- three pieces one behind the other
pub text_over : (t out l m n : List ℕ) (i j : ℕ) → l ≡ overlay out 0 (84 ∷ 88 ∷ []) → i ≡ 0 + 2
    → m ≡ overlay l i (number_bytes (length t)) → j ≡ i + 2
    → n ≡ lead t (take (length m - j) (drop j m)) → 4 ≤ length out
    → take j m ++ (n ++ drop (length m - j) (drop j m)) ≡ lead (text_piece t) out
unfolding two
text_over t out l m n i j e f g h k p =
    let a : l ≡ lead (84 ∷ 88 ∷ []) out = e in
    let b : m ≡ lead ((84 ∷ 88 ∷ []) ++ number_bytes (length t)) out = g ∙ over_lead out (84 ∷ 88 ∷ []) (number_bytes (length t)) l i a f in
    two_back out ((84 ∷ 88 ∷ []) ++ number_bytes (length t)) t m n j (h ∙ (let z : i + 2 ≡ 4 = omega arith in z)) b k
