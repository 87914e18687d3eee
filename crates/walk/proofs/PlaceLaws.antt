-- Where an item begins.
use Rattle.xliff.specs.Good.{Allowed, GoodItem}
use Prim.Native.Nat.{ℕ, zero, suc, ◌+◌, ◌-◌, ◌<◌, ◌≤◌}
use mathlib.Core.Path.{◌≡◌, refl, sym, ap, ◌∙◌, subst}
use mathlib.Core.Bool.{Bool, true, false, cond, true≢false}
use mathlib.Core.List.{List, [], ◌∷◌, ◌++◌, map, append_assoc, append-nil}
use native.Mathlib.Omega.{arith}
use lib.ListN.{length, take, drop, length-append, length-drop, take-append-drop}
use lib.Seq.{take_all, length-take-le}
use lib.Dec.{leb, ltb}
use borrow.Author.Tests.{ltb-true, ltb-false, leb-true, leb-false}
use Rattle.xliff.specs.Bytes.{two, gather}
use Rattle.xliff.specs.Text.{utf8s}
use Rattle.xliff.specs.Item.{Item, Content, start, end, form_P, form_S, text, character, standalone, isolated, pair, annotation_start, annotation_end, mark}
use Rattle.xliff.specs.Encode.{Record, text_run, inline, record_bytes}
use Rattle.xliff.specs.Parse.{reading, take_record}
use Rattle.xliff.proofs.text.Utf8.{utf8s_nonempty, utf8s_append}
use Rattle.text.specs.Points.{TextBytes, PassedOver}
use Rattle.text.specs.declared.points.Points.{Points}
use Rattle.walk.specs.Kept.{Kept, kept_end, kept_item, kept_text, Of, items, Inline, an_item, a_text, InContent}
use Rattle.marks.specs.Marks.{marked}
use Rattle.walk.specs.Place.{Begins, One, pass_text, pass_item, pass_of, Inside, over, between, within, Parted}
use Rattle.walk.specs.declared.Pass.TheVariants.{Stop, On}
use Rattle.walk.proofs.RecordLaws.{Upto, upto_start, upto_on}
use Rattle.walk.proofs.WalkLaws.{Next, rest_start, rest_end, inline_least}

-- only a text has the mark of one
not_marked : (x : Item) (s : List ℕ) → GoodItem x → marked (record_bytes (inline x) ++ s) (84 ∷ 88 ∷ []) ≡ false
unfolding record_bytes mark
not_marked (text c) s g = absurd g
not_marked (character c) s g = refl
not_marked (standalone f) s g = refl
not_marked (isolated start f) s g = refl
not_marked (isolated end f) s g = refl
not_marked (pair start form_P f) s g = refl
not_marked (pair start form_S f) s g = refl
not_marked (pair end form_P f) s g = refl
not_marked (pair end form_S f) s g = refl
not_marked (annotation_start form_P i t) s g = refl
not_marked (annotation_start form_S i t) s g = refl
not_marked (annotation_end form_P i) s g = refl
not_marked (annotation_end form_S i) s g = refl

pub record IsText (r : Record) : Type 0 where
  pub points : List ℕ
  pub is : r ≡ text_run points
  pub allowed : Allowed points

pub is_text : (r : Record) (t s : List ℕ) → Inline r → t ≡ record_bytes r ++ s → marked t (84 ∷ 88 ∷ []) ≡ true
    → IsText r
is_text (Rattle.xliff.specs.Encode.opening _) t s x4 e m = elim x4 [ ]
is_text Rattle.xliff.specs.Encode.closing t s x4 e m = elim x4 [ ]
is_text (Rattle.xliff.specs.Encode.part_head _) t s x6 e m = elim x6 [ ]
is_text (Rattle.xliff.specs.Encode.target_head _) t s x7 e m = elim x7 [ ]
is_text Rattle.xliff.specs.Encode.ill_text t s x7 e m = elim x7 [ ]
is_text (Rattle.xliff.specs.Encode.broken _) t s x9 e m = elim x9 [ ]
is_text (inline x) t s (an_item g) e m =
    absurd (true≢false (sym m ∙ ap (λ (l : List ℕ). marked l (84 ∷ 88 ∷ [])) e ∙ not_marked x s g))
is_text (text_run cs) t s (a_text a l) e m = record { points = cs; is = refl; allowed = a }

-- the bytes of a text
text_bytes : (t cs : List ℕ) → t ≡ record_bytes (text_run cs)
    → (utf8s cs ≡ drop 4 t) × (length t - 4 ≡ length (utf8s cs))
unfolding record_bytes two
text_bytes t cs e = (sym (ap (drop 4) e), let l = ap length e in omega arith)

-- a record that is a text: its code points, and their bytes behind the head
marked_text : (r : Record) (t : List ℕ) → Inline r → t ≡ record_bytes r → marked t (84 ∷ 88 ∷ []) ≡ true
    → (x : IsText r) × (utf8s x.points ≡ drop 4 t) × (length t - 4 ≡ length (utf8s x.points))
marked_text r t g e m =
    let x = is_text r t [] g (e ∙ sym (append-nil (record_bytes r))) m in
    let (bytes, size) = text_bytes t x.points (e ∙ ap record_bytes x.is) in
    (x, bytes, size)

-- a record with no such mark is an item
pub pass_item_lem : (r : Record) (t : List ℕ) (k : ℕ) → Inline r → t ≡ record_bytes r → marked t (84 ∷ 88 ∷ []) ≡ false
    → pass_of r k ≡ pass_item k
unfolding record_bytes
pass_item_lem (Rattle.xliff.specs.Encode.opening _) t k x4 e m = elim x4 [ ]
pass_item_lem Rattle.xliff.specs.Encode.closing t k x4 e m = elim x4 [ ]
pass_item_lem (Rattle.xliff.specs.Encode.part_head _) t k x6 e m = elim x6 [ ]
pass_item_lem (Rattle.xliff.specs.Encode.target_head _) t k x7 e m = elim x7 [ ]
pass_item_lem Rattle.xliff.specs.Encode.ill_text t k x7 e m = elim x7 [ ]
pass_item_lem (Rattle.xliff.specs.Encode.broken _) t k x9 e m = elim x9 [ ]
pass_item_lem (inline x) t k (an_item g) e m = refl
pass_item_lem (text_run cs) t k (a_text a l) e m =
    let z : true ≡ false = ap (λ (l : List ℕ). marked l (84 ∷ 88 ∷ [])) (sym e)
    ∙ m in absurd (true≢false z)

-- items of kept records, one list behind the other
pub kept_items : (b : Bool) (rs qs : List Record) → Kept b (rs ++ qs) → items (rs ++ qs) ≡ items rs ++ items qs
unfolding reading take_record
kept_items b [] qs k = refl
kept_items b (Rattle.xliff.specs.Encode.opening _ ∷ rs) qs k = elim k [ ]
kept_items b (Rattle.xliff.specs.Encode.closing ∷ rs) qs k = elim k [ ]
kept_items b (Rattle.xliff.specs.Encode.part_head _ ∷ rs) qs k = elim k [ ]
kept_items b (Rattle.xliff.specs.Encode.target_head _ ∷ rs) qs k = elim k [ ]
kept_items b (Rattle.xliff.specs.Encode.ill_text ∷ rs) qs k = elim k [ ]
kept_items b (Rattle.xliff.specs.Encode.broken _ ∷ rs) qs k = elim k [ ]
kept_items b (inline x ∷ rs) qs (kept_item g k) = ap {B = Content} (λ l. x ∷ l) (kept_items false rs qs k)
kept_items b (text_run cs ∷ rs) qs (kept_text a l k) =
    ap (λ (l : Content). map text cs ++ l) (kept_items true rs qs k)
    ∙ sym (append_assoc (map text cs) (items rs) (items qs))

-- at the offset at of c, with left of k items to pass over
pub record Along (c : List ℕ) (k : ℕ) (rs : List Record) (at left : ℕ) : Type 0 where
  pub upto : Upto InContent c rs at
  pub count : length (items upto.before) + left ≡ k

pub along_start : (c : List ℕ) (k : ℕ) (rs : List Record) → Of c rs → Along c k rs 0 k
unfolding upto_start reading
along_start c k rs o = record { upto = upto_start InContent c rs (rest_start c rs o); count = omega arith }

stop_on : {a l : ℕ} → Stop a ≡ On l → ⊥
stop_on e = let z : ◌≡◌ {A = ℕ} 0 1 = cc in absurd (let y : ⊥ = omega arith in y)

passed_item : (left l : ℕ) → pass_item left ≡ On l → suc l ≡ left
passed_item zero l e = absurd (stop_on e)
passed_item (suc k) l e = cc

length_texts : (cs : List ℕ) → length (map text cs ++ []) ≡ length cs
length_texts [] = refl
length_texts (c ∷ cs) = ap suc (length_texts cs)

-- a text of no bytes has no code points
no_bytes : (l : List ℕ) → length (utf8s l) ≡ 0 → l ≡ []
unfolding utf8s gather
no_bytes [] e = refl
no_bytes (c ∷ l) e = absurd (let y : ⊥ = omega (arith, e, utf8s_nonempty c l) in y)

utf8s_cut : (k : ℕ) (cs : List ℕ) → length (utf8s cs) ≡ length (utf8s (take k cs)) + length (utf8s (drop k cs))
utf8s_cut k cs =
    ap (λ (l : List ℕ). length (utf8s l)) (sym (take-append-drop k cs))
    ∙ ap length (utf8s_append (take k cs) (drop k cs))
    ∙ length-append (utf8s (take k cs)) (utf8s (drop k cs))

-- the items of a record that is passed over
passed_text : (cs : List ℕ) (left l : ℕ) → pass_of (text_run cs) left ≡ On l
    → length (items (text_run cs ∷ [])) + l ≡ left
unfolding reading take_record
passed_text cs left l e = by (ltb (length (utf8s (take left cs))) (length (utf8s cs))) refl e
  where
    by : (b : Bool) → ltb (length (utf8s (take left cs))) (length (utf8s cs)) ≡ b
        → cond b (Stop (length (utf8s (take left cs)))) (On (left - length cs)) ≡ On l
        → length (items (text_run cs ∷ [])) + l ≡ left
    by true q f = absurd (stop_on f)
    by false q f =
        let h : length (utf8s cs) ≤ length (utf8s (take left cs)) =
        ltb-false (length (utf8s (take left cs))) (length (utf8s cs)) q in
        let z : drop left cs ≡ [] =
        no_bytes (drop left cs) (let y : length (utf8s (drop left cs)) ≡ 0 = omega (arith, utf8s_cut left cs) in y) in
        let n : length (drop left cs) ≡ 0 = ap length z in
        let b : l ≡ left - length cs = cc in
        omega (arith, length_texts cs, length-drop left cs)

passed : (r : Record) (left l : ℕ) → Inline r → pass_of r left ≡ On l → length (items (r ∷ [])) + l ≡ left
unfolding reading take_record
passed (Rattle.xliff.specs.Encode.opening _) left l x3 e = elim x3 [ ]
passed Rattle.xliff.specs.Encode.closing left l x3 e = elim x3 [ ]
passed (Rattle.xliff.specs.Encode.part_head _) left l x5 e = elim x5 [ ]
passed (Rattle.xliff.specs.Encode.target_head _) left l x6 e = elim x6 [ ]
passed Rattle.xliff.specs.Encode.ill_text left l x6 e = elim x6 [ ]
passed (Rattle.xliff.specs.Encode.broken _) left l x8 e = elim x8 [ ]
passed (inline x) left l (an_item g) e = omega (arith, passed_item left l e)
passed (text_run cs) left l (a_text a h) e = passed_text cs left l e

-- the first of two lists of kept records is kept, and the second
pub kept_front : (b : Bool) (rs qs : List Record) → Kept b (rs ++ qs) → Kept b rs
kept_front b [] qs k = kept_end
kept_front b (Rattle.xliff.specs.Encode.opening _ ∷ rs) qs k = elim k [ ]
kept_front b (Rattle.xliff.specs.Encode.closing ∷ rs) qs k = elim k [ ]
kept_front b (Rattle.xliff.specs.Encode.part_head _ ∷ rs) qs k = elim k [ ]
kept_front b (Rattle.xliff.specs.Encode.target_head _ ∷ rs) qs k = elim k [ ]
kept_front b (Rattle.xliff.specs.Encode.ill_text ∷ rs) qs k = elim k [ ]
kept_front b (Rattle.xliff.specs.Encode.broken _ ∷ rs) qs k = elim k [ ]
kept_front b (inline x ∷ rs) qs (kept_item g k) = kept_item g (kept_front false rs qs k)
kept_front b (text_run cs ∷ rs) qs (kept_text a l k) = kept_text a l (kept_front true rs qs k)

pub kept_back : (b : Bool) (rs qs : List Record) → Kept b (rs ++ qs) → (a : Bool) × Kept a qs
kept_back b [] qs k = (b, k)
kept_back b (Rattle.xliff.specs.Encode.opening _ ∷ rs) qs k = elim k [ ]
kept_back b (Rattle.xliff.specs.Encode.closing ∷ rs) qs k = elim k [ ]
kept_back b (Rattle.xliff.specs.Encode.part_head _ ∷ rs) qs k = elim k [ ]
kept_back b (Rattle.xliff.specs.Encode.target_head _ ∷ rs) qs k = elim k [ ]
kept_back b (Rattle.xliff.specs.Encode.ill_text ∷ rs) qs k = elim k [ ]
kept_back b (Rattle.xliff.specs.Encode.broken _ ∷ rs) qs k = elim k [ ]
kept_back b (inline x ∷ rs) qs (kept_item g k) = kept_back false rs qs k
kept_back b (text_run cs ∷ rs) qs (kept_text a l k) = kept_back true rs qs k

kept_part : (rs : List Record) (r : Record) (qs : List Record) → Kept false (rs ++ (r ∷ qs))
    → items (rs ++ (r ∷ [])) ≡ items rs ++ items (r ∷ [])
kept_part rs r qs k =
    kept_items false rs (r ∷ [])
    (kept_front false (rs ++ (r ∷ [])) qs (subst (Kept false) (sym (append_assoc rs (r ∷ []) qs)) k))

-- what a stop says
stop_stop : {a b : ℕ} → Stop a ≡ Stop b → a ≡ b
stop_stop e = cc

on_stop : {a l : ℕ} → On l ≡ Stop a → ⊥
on_stop e = stop_on (sym e)

stopped_item : (k n : ℕ) (x : Item) (rs : List Record) (left into : ℕ) → n + left ≡ k → pass_item left ≡ Stop into
    → Inside k n into 0 (inline x ∷ rs)
stopped_item k n x rs zero into h e =
    subst (λ (i : ℕ). Inside k n i 0 (inline x ∷ rs)) (stop_stop e) (between (omega arith))
stopped_item k n x rs (suc l) into h e = absurd (on_stop e)

short : (k : ℕ) (cs : List ℕ) → length (utf8s (take k cs)) < length (utf8s cs) → k ≤ length cs
short k cs h = by (leb k (length cs)) refl
  where
    by : (b : Bool) → leb k (length cs) ≡ b → k ≤ length cs
    by true e = leb-true k (length cs) e
    by false e =
        let l : length cs < k = leb-false k (length cs) e in
        let z = ap (λ (l : List ℕ). length (utf8s l)) (take_all k cs (omega arith)) in
        absurd (let y : ⊥ = omega arith in y)

-- the text in two, at left code points
stopped_at : (k n : ℕ) (xs ys : List ℕ) (rs : List Record) → n + length xs ≡ k
    → length (utf8s xs) < length (utf8s (xs ++ ys))
    → Inside k n (length (utf8s xs)) 0 (text_run (xs ++ ys) ∷ rs)
unfolding utf8s gather
stopped_at k n [] ys rs h l = between (omega arith)
stopped_at k n (x ∷ xs) [] rs h l =
    absurd (let z = ap (λ (l : List ℕ). length (utf8s (x ∷ l))) (append-nil xs) in let y : ⊥ = omega arith in y)
stopped_at k n (x ∷ xs) (y ∷ ys) rs h l = within x xs y ys rs h

stopped_text : (k n : ℕ) (cs : List ℕ) (rs : List Record) (left into : ℕ) → n + left ≡ k
    → pass_of (text_run cs) left ≡ Stop into
    → Inside k n into 0 (text_run cs ∷ rs)
stopped_text k n cs rs left into h e = by (ltb (length (utf8s (take left cs))) (length (utf8s cs))) refl e
  where
    by : (b : Bool) → ltb (length (utf8s (take left cs))) (length (utf8s cs)) ≡ b
        → cond b (Stop (length (utf8s (take left cs)))) (On (left - length cs)) ≡ Stop into
        → Inside k n into 0 (text_run cs ∷ rs)
    by true q f =
        let l : length (utf8s (take left cs)) < length (utf8s cs) = ltb-true _ _ q in
        let d : take left cs ++ drop left cs ≡ cs = take-append-drop left cs in
        let m : length (take left cs) ≡ left = length-take-le left cs (short left cs l) in
        subst (λ (i : ℕ). Inside k n i 0 (text_run cs ∷ rs)) (stop_stop f)
        (subst (λ (l : List ℕ). Inside k n (length (utf8s (take left cs))) 0 (text_run l ∷ rs)) d
        (stopped_at k n (take left cs) (drop left cs) rs (omega arith)
        (subst (λ (l : List ℕ). length (utf8s (take left cs)) < length (utf8s l)) (sym d) l)))
    by false q f = absurd (on_stop f)

stopped : (k n : ℕ) (r : Record) (rs : List Record) (left into : ℕ) → n + left ≡ k → Inline r
    → pass_of r left ≡ Stop into
    → Inside k n into 0 (r ∷ rs)
stopped k n (Rattle.xliff.specs.Encode.opening _) rs left into h x4 e = elim x4 [ ]
stopped k n Rattle.xliff.specs.Encode.closing rs left into h x4 e = elim x4 [ ]
stopped k n (Rattle.xliff.specs.Encode.part_head _) rs left into h x6 e = elim x6 [ ]
stopped k n (Rattle.xliff.specs.Encode.target_head _) rs left into h x7 e = elim x7 [ ]
stopped k n Rattle.xliff.specs.Encode.ill_text rs left into h x7 e = elim x7 [ ]
stopped k n (Rattle.xliff.specs.Encode.broken _) rs left into h x9 e = elim x9 [ ]
stopped k n (inline x) rs left into h (an_item g) e = stopped_item k n x rs left into h e
stopped k n (text_run cs) rs left into h (a_text a l) e = stopped_text k n cs rs left into h e

pub along_on : (c : List ℕ) (k : ℕ) (rs : List Record) (at w left l : ℕ) → Of c rs → (m : Along c k rs at left)
    → (n : Next c at w m.upto.after)
    → pass_of n.first left ≡ On l → Along c k rs (at + w) l
unfolding upto_on
along_on c k rs at w left l o m n e =
    let on = upto_on InContent Inline c rs at w m.upto n in
    let before = m.upto.before in
    let kept : Kept false (before ++ (n.first ∷ n.others)) =
    subst (Kept false) (m.upto.all ∙ ap (λ (q : List Record). before ++ q) n.all) o.0 in
    let more : length (items on.before) ≡ length (items before) + length (items (n.first ∷ [])) =
    ap length (kept_part before n.first n.others kept) ∙ length-append (items before) (items (n.first ∷ [])) in
    record { upto = on; count = omega (arith, m.count, more, passed n.first left l n.good e) }

-- the item stands in the next record
pub along_stop : (c : List ℕ) (k : ℕ) (rs : List Record) (at w left into : ℕ) → (m : Along c k rs at left)
    → (n : Next c at w m.upto.after)
    → pass_of n.first left ≡ Stop into → Parted k rs (record { at = at; into = into; left = 0 })
along_stop c k rs at w left into m n e =
    record {
      before = m.upto.before;
      after = n.first ∷ n.others;
      parts = m.upto.all ∙ ap (λ (l : List Record). m.upto.before ++ l) n.all;
      offset = m.upto.offset;
      inside = stopped k (length (items m.upto.before)) n.first n.others left into m.count n.good e;
    }

-- there is no such item
pub along_end : (c : List ℕ) (k : ℕ) (rs : List Record) (at left : ℕ) → length c ≤ at → (m : Along c k rs at left)
    → Parted k rs (record { at = at; into = 0; left = left })
along_end c k rs at left h m =
    record {
      before = m.upto.before;
      after = [];
      parts = m.upto.all ∙ ap (λ (l : List Record). m.upto.before ++ l)
          (rest_end c at m.upto.after h m.upto.rest);
      offset = m.upto.offset;
      inside = over m.count;
    }

-- for the code
pub begins_least : (t : List ℕ) → Begins t → 4 ≤ length t
begins_least t (r, s, g, e) = let l : length t ≡ length (record_bytes r ++ s) = ap length e in
    omega (arith, length-append (record_bytes r) s, inline_least r g)

pub one_least : (t : List ℕ) → One t → 4 ≤ length t
one_least t (r, g, e) = let l : length t ≡ length (record_bytes r) = ap length e in omega (arith, inline_least r g)

text_passed : (p : Points) (n k : ℕ) (cs : List ℕ) → p.bytes ≡ length (utf8s (take k cs)) → p.left ≡ k - length cs
    → n ≡ length (utf8s cs)
    → pass_text p n ≡ pass_of (text_run cs) k
text_passed p n k cs a b e = rw (a, b, e)

-- behind the head of a text stand the bytes of its code points
pub text_behind : (t : List ℕ) → One t → marked t (84 ∷ 88 ∷ []) ≡ true → TextBytes (drop 4 t)
text_behind t (r, g, e) m = let (x, bytes, size) = marked_text r t g e m in (x.points, x.allowed, bytes)

-- the record t met: a text, by what is passed over of it; an item
pub met_text : (r : Record) (t : List ℕ) (k : ℕ) (p : Points) → Inline r → t ≡ record_bytes r
    → marked t (84 ∷ 88 ∷ []) ≡ true
    → PassedOver (drop 4 t) k p → pass_text p (length t - 4) ≡ pass_of r k
met_text r t k p g e m passes =
    let (x, bytes, size) = marked_text r t g e m in
    let (a, b) = passes x.points x.allowed bytes in
    text_passed p (length t - 4) k x.points a b size ∙ ap (λ (q : Record). pass_of q k) (sym x.is)

pub pass_some : (k : ℕ) → 1 ≤ k → pass_item k ≡ On (k - 1)
pass_some zero h = absurd (let y : ⊥ = omega arith in y)
pass_some (suc k) h = ap On (let z : k ≡ suc k - 1 = omega arith in z)
