-- A content that the writer writes is read as its items, within the elements that are open.
use Prim.Native.Nat.{ℕ, suc, ◌≤◌, ◌<◌}
use mathlib.Core.Path.{◌≡◌, refl, sym, ap, ◌∙◌, subst}
use mathlib.Core.Bool.{Bool, true, false, cond}
use mathlib.Core.List.{List, [], ◌∷◌, ◌++◌, map, append_assoc}
use native.Mathlib.Omega.{arith}
use lib.ListN.{length, length-map}
use lib.Dec.{ltb}
use borrow.Author.Tests.{ltb-false, lt-ltb}
use Rattle.xliff.specs.Text.{xml_allows, between as between_numbers}
use Rattle.xliff.specs.Item.{Item, Content, start, end, form_P, form_S, text, character, standalone, isolated, pair, annotation_start, annotation_end, is_form_P, half, is_start_half}
use Rattle.xliff.specs.Encode.{Record, text_run, inline, field_bytes}
use Rattle.xliff.proofs.lists.Tests.{or_left, or_right, equal_refl}
use Rattle.xliff.specs.Good.{Each, each_nil, each_cons, GoodIn, GoodContent}
use Rattle.xliff.proofs.records.Fits.{FitContent, FitIn, bytes_left, two_fits}
use Rattle.xml.specs.Words.{'pc', 'mrk', Words·all}
use Rattle.xml.specs.Tokens.{Token, tokens, outside_tags, start_tag, end_tag}
use Rattle.xml.specs.Elements.{most_depth, end_of_pc, Where, in_content, in_empty, Side, Open, on, or_blame, inline_opened, inline_closed, turn, Read, read, bad, behind, elements}
use Rattle.xml.specs.Write.{closing_tag, escaped, behind_first, pending, first_data, item_text, content_text, one_less, depth_behind, deeper, opening_tag, short_tag}
use Rattle.xml.proofs.TagLaws.{good_name, opening_read, short_read, closing_read}
use Rattle.xml.proofs.LetterLaws.{is_letter, letters}
use Rattle.xml.proofs.TextLaws.{Safe, safe_tag, safe_text, text_read, text_turn}
use Rattle.xml.proofs.FieldLaws.{ref_fits, some_id, numbers, code_letters, Single, Opening}
use Rattle.xml.proofs.AnnotationLaws.{mrk_opening}
use Rattle.xml.proofs.CodeLaws.{pc_opening}
use Rattle.xml.proofs.ItemLaws.{a_single}

-- From somewhere in the unit the bytes are read as records, and the reading goes on elsewhere with other bytes
pub record Reads (w : Where) (t : List ℕ) (rs : List Record) (w' : Where) (s : List ℕ) : Type 0 where
  pub reads : (at : ℕ)
      → (at' : ℕ) × (elements w (tokens outside_tags 0 at t) ≡ behind rs (elements w' (tokens outside_tags 0 at' s)))

pub behind_append : (rs qs : List Record) (r : Read) → behind rs (behind qs r) ≡ behind (rs ++ qs) r
unfolding behind
behind_append rs qs (read ps) = ap read (sym (append_assoc rs qs ps))
behind_append rs qs (bad p) = refl

pub behind_nil : (r : Read) → behind [] r ≡ r
unfolding behind
behind_nil (read ps) = refl
behind_nil (bad p) = refl

pub reads_on : {w w' w'' : Where} {t s r : List ℕ} {rs qs : List Record} → Reads w t rs w' s → Reads w' s qs w'' r
    → Reads w t (rs ++ qs) w'' r
reads_on {rs = rs} {qs = qs} p q =
    record {
      reads = λ at.
          let (at', e) = p.reads at in
          let (at'', f) = q.reads at' in
          (at'', e ∙ ap (behind rs) f ∙ behind_append rs qs _);
    }

pub turns : (w w' : Where) (t : Token) (rs : List Record) (ts : List Token) → turn w t ≡ on w' rs
    → elements w (t ∷ ts) ≡ behind rs (elements w' ts)
unfolding elements
turns w w' t rs ts e = rw (e, elements)

-- text
text_reads : (side : Side) (os : List Open) (c : ℕ) (s : List ℕ) → xml_allows c ≡ true → Safe s
    → Reads (in_content side os) (escaped c ++ s) (text_run (c ∷ []) ∷ []) (in_content side os) s
text_reads side os c s a k =
    record {
      reads = λ at.
          let r = text_read at c s a k in
          (r.on, ap (elements (in_content side os)) r.read ∙ text_turn c side os r.token _ r.is_text);
    }

-- an empty element
single_reads : (side : Side) (os : List Open) (x : Item) (t s : List ℕ) → Single x t
    → Reads (in_content side os) (t ++ s) (inline x ∷ []) (in_content side os) s
single_reads side os x t s r =
    record {
      reads = λ at.
          let (at', e) = short_read at r.name r.attributes s r.name_good r.good r.none_twice in
          let ts : List Token = tokens outside_tags 0 at' s in (
            at',
            ap (λ (l : List ℕ). elements (in_content side os) (tokens outside_tags 0 at (l ++ s))) r.is_text
                ∙ ap (elements (in_content side os)) e
                ∙ turns (in_content side os) (in_empty side os r.name) (start_tag at r.name r.attributes)
                (inline x ∷ []) (end_tag at r.name ∷ ts) (unfold turn or_blame inline_opened in rw r.is_read)
                ∙ ap (behind (inline x ∷ []))
                (turns (in_empty side os r.name) (in_content side os) (end_tag at r.name) [] ts
                (unfold turn in rw (equal_refl r.name)) ∙ behind_nil (elements (in_content side os) ts)),
          );
    }

-- an element with content: its start tag, and its end tag
abbrev pub opened_by : List ℕ → Item → Open
opened_by n y = record { name = n; end_item = y }

opening_reads : (side : Side) (os : List Open) (x y : Item) (n t s : List ℕ) → Opening x y n t → length os < 32
    → Reads (in_content side os) (t ++ s) (inline x ∷ []) (in_content side (opened_by n y ∷ os)) s
opening_reads side os x y n t s r d =
    record {
      reads = λ at.
          let (at', e) = opening_read at n r.attributes s r.name_good r.good r.none_twice in (
            at',
            ap (λ (l : List ℕ). elements (in_content side os) (tokens outside_tags 0 at (l ++ s))) r.is_text
                ∙ ap (elements (in_content side os)) e
                ∙ turns (in_content side os) (in_content side (opened_by n y ∷ os)) (start_tag at n r.attributes)
                (inline x ∷ []) _ (unfold turn or_blame inline_opened in rw (r.is_read, lt-ltb (length os) 32 d)),
          );
    }

closing_reads : (side : Side) (os : List Open) (y : Item) (n s : List ℕ) → good_name n ≡ true
    → Reads (in_content side (opened_by n y ∷ os)) (closing_tag n ++ s) (inline y ∷ []) (in_content side os) s
closing_reads side os y n s g =
    record {
      reads = λ at.
          let (at', e) = closing_read at n s g in (
            at',
            ap (elements (in_content side (opened_by n y ∷ os))) e
                ∙ turns (in_content side (opened_by n y ∷ os)) (in_content side os) (end_tag at n) (inline y ∷ []) _
                (unfold turn inline_closed in rw (equal_refl n)),
          );
    }

-- the records of a content as they are read, one for each item
unfoldable pub one_record : Item → Record
one_record (text c) = text_run (c ∷ [])
one_record (character c) = inline (character c)
one_record (standalone f) = inline (standalone f)
one_record (isolated h f) = inline (isolated h f)
one_record (pair h w f) = inline (pair h w f)
one_record (annotation_start w i t) = inline (annotation_start w i t)
one_record (annotation_end w i) = inline (annotation_end w i)

-- the element of an end
unfoldable pub element_name : Item → List ℕ
element_name (text c) = []
element_name (character c) = []
element_name (standalone f) = []
element_name (isolated h f) = []
element_name (pair h w f) = 'pc'
element_name (annotation_start w i t) = 'mrk'
element_name (annotation_end w i) = 'mrk'

abbrev pub open_of : Item → Open
open_of y = opened_by (element_name y) y

-- the start of a pc or mrk and the first end that is left behind it belong together
abbrev pub ClosedAt : Item → Content → Type 0
ClosedAt (text c) xs = Unit {0}
ClosedAt (character c) xs = Unit {0}
ClosedAt (standalone f) xs = Unit {0}
ClosedAt (isolated h f) xs = Unit {0}
ClosedAt (pair start form_P f) xs = (os : List Item) × (pending xs ≡ pair end form_P (end_of_pc f (first_data (pending xs))) ∷ os)
ClosedAt (pair start form_S f) xs = Unit {0}
ClosedAt (pair end w f) xs = Unit {0}
ClosedAt (annotation_start form_P i t) xs = (os : List Item) × (pending xs ≡ annotation_end form_P i ∷ os)
ClosedAt (annotation_start form_S i t) xs = Unit {0}
ClosedAt (annotation_end w i) xs = Unit {0}

pub data Closed : Content → Type 0 where
  closed_nil : Closed []
  closed_cons : {x : Item} {xs : Content} → ClosedAt x xs → Closed xs → Closed (x ∷ xs)

-- the ends that are left are items of the content
behind_each : {P : Item → Type 0} (l : List Item) → Each P l → Each P (behind_first l)
unfolding behind_first
behind_each [] q = each_nil
behind_each (y ∷ l) (each_cons q qs) = qs

pub pending_each : {P : Item → Type 0} (xs : Content) → Each P xs → Each P (pending xs)
unfolding pending
pending_each [] each_nil = each_nil
pending_each {P} (x ∷ xs) (each_cons p ps) = by (is_form_P x) (is_start_half x) (pending xs) (pending_each xs ps)
  where
    by : (a b : Bool) (l : List Item) → Each P l → Each P (cond a (cond b (behind_first l) (x ∷ l)) l)
    by true true l q = behind_each l q
    by true false l q = each_cons p q
    by false b l q = q

each_first : {P : Item → Type 0} {y : Item} {l : List Item} → Each P (y ∷ l) → P y
each_first (each_cons p q) = p

-- a list with its first element put back
put_back : (p : List Item) (y : Item) (os : List Item) → p ≡ y ∷ os → y ∷ behind_first p ≡ p
unfolding behind_first
put_back p y os e = ap {B = List Item} (λ l. y ∷ behind_first l) e ∙ sym e

pc_name : good_name 'pc' ≡ true
unfolding good_name is_letter letters Words·all between_numbers
pc_name = refl

mrk_name : good_name 'mrk' ≡ true
unfolding good_name is_letter letters Words·all between_numbers
mrk_name = refl

-- how deep it is behind an item
depth_next : (x : Item) (xs : Content) → ClosedAt x xs → depth_behind (length (pending (x ∷ xs))) x ≡ length (pending xs)
unfolding pending is_form_P half depth_behind one_less
depth_next (text c) xs k = refl
depth_next (character c) xs k = refl
depth_next (standalone f) xs k = refl
depth_next (isolated h f) xs k = refl
depth_next (pair start form_P f) xs k = ap length (put_back (pending xs) _ k.0 k.1)
depth_next (pair start form_S f) xs k = refl
depth_next (pair end form_P f) xs k = refl
depth_next (pair end form_S f) xs k = refl
depth_next (annotation_start form_P i t) xs k = ap length (put_back (pending xs) _ k.0 k.1)
depth_next (annotation_start form_S i t) xs k = refl
depth_next (annotation_end form_P i) xs k = refl
depth_next (annotation_end form_S i) xs k = refl

-- no item makes a bracket unsafe
safe_item : (x : Item) (xs : Content) (s : List ℕ) → Safe s → Safe (item_text x xs ++ s)
unfolding item_text short_tag opening_tag closing_tag
safe_item (text c) xs s q = safe_text c s q
safe_item (character c) xs s q = safe_tag _
safe_item (standalone f) xs s q = safe_tag _
safe_item (isolated start f) xs s q = safe_tag _
safe_item (isolated end f) xs s q = safe_tag _
safe_item (pair start form_P f) xs s q = safe_tag _
safe_item (pair start form_S f) xs s q = safe_tag _
safe_item (pair end form_P f) xs s q = safe_tag _
safe_item (pair end form_S f) xs s q = safe_tag _
safe_item (annotation_start form_P i t) xs s q = safe_tag _
safe_item (annotation_start form_S i t) xs s q = safe_tag _
safe_item (annotation_end form_P i) xs s q = safe_tag _
safe_item (annotation_end form_S i) xs s q = safe_tag _

-- one item, within what is open before it, read up to the rest of its content
module _ (side : Side) where
  abbrev In : List Item → Where
  In ys = in_content side (map open_of ys)

  item_opens : (x y : Item) (n : List ℕ) (xs : Content) (s : List ℕ) (os : List Item) → pending xs ≡ y ∷ os
      → element_name y ≡ n → Opening x y n (item_text x xs) → suc (length (behind_first (pending xs))) ≤ 32
      → Reads (In (behind_first (pending xs))) (item_text x xs ++ s) (inline x ∷ []) (In (pending xs)) s
  item_opens x y n xs s os e m r d =
      subst (λ (l : List Item). Reads (In (behind_first (pending xs))) (item_text x xs ++ s) (inline x ∷ []) (In l) s)
      (put_back (pending xs) y os e)
      (subst (λ (k : List ℕ).
      Reads (In (behind_first (pending xs))) (item_text x xs ++ s) (inline x ∷ [])
      (in_content side (opened_by k y ∷ map open_of (behind_first (pending xs)))) s) (sym m)
      (opening_reads side (map open_of (behind_first (pending xs))) x y n (item_text x xs) s r
      (let h = length-map (behind_first (pending xs)) open_of in
      omega arith)))

  item_reads : (x : Item) (xs : Content) (s : List ℕ) → GoodIn x → FitIn x → FitContent xs → ClosedAt x xs
      → ltb most_depth (depth_behind (length (pending (x ∷ xs))) x) ≡ false → Safe s
      → Reads (In (pending (x ∷ xs))) (item_text x xs ++ s) (one_record x ∷ []) (In (pending xs)) s
  unfolding pending is_form_P half one_record element_name depth_behind field_bytes item_text end_of_pc
  item_reads (text c) xs s g b bs k d q = text_reads side (map open_of (pending xs)) c s g q
  item_reads (character c) xs s g b bs k d q =
      single_reads side (map open_of (pending xs)) (character c) _ s (a_single (character c) xs tt g b)
  item_reads (standalone f) xs s g b bs k d q =
      single_reads side (map open_of (pending xs)) (standalone f) _ s (a_single (standalone f) xs tt g b)
  item_reads (isolated h f) xs s g b bs k d q =
      single_reads side (map open_of (pending xs)) (isolated h f) _ s (a_single (isolated h f) xs tt g b)
  item_reads (pair start form_P f) xs s g b bs k d q =
      let l = code_letters _ f g in
      let y : Item = pair end form_P (end_of_pc f (first_data (pending xs))) in
      let fit : FitIn y = each_first (subst (Each FitIn) k.1 (pending_each xs bs)) in
      item_opens (pair start form_P f) y 'pc' xs s k.0 k.1 refl
      (pc_opening f xs (ref_fits (end_of_pc f (first_data (pending xs))) fit) (numbers f l.some_id b) l) (ltb-false 32 _ d)
  item_reads (pair start form_S f) xs s g b bs k d q =
      single_reads side (map open_of (pending xs)) (pair start form_S f) _ s (a_single (pair start form_S f) xs tt g b)
  item_reads (pair end form_P f) xs s g b bs k d q =
      closing_reads side (map open_of (pending xs)) (pair end form_P f) 'pc' s pc_name
  item_reads (pair end form_S f) xs s g b bs k d q =
      single_reads side (map open_of (pending xs)) (pair end form_S f) _ s (a_single (pair end form_S f) xs tt g b)
  item_reads (annotation_start form_P i t) xs s g b bs k d q =
      item_opens (annotation_start form_P i t) (annotation_end form_P i) 'mrk' xs s k.0 k.1 refl
      (mrk_opening i t xs (some_id i g.0) (two_fits i (bytes_left _ (t ∷ []) b)) g.1) (ltb-false 32 _ d)
  item_reads (annotation_start form_S i t) xs s g b bs k d q =
      single_reads side (map open_of (pending xs)) (annotation_start form_S i t) _ s
      (a_single (annotation_start form_S i t) xs tt g b)
  item_reads (annotation_end form_P i) xs s g b bs k d q =
      closing_reads side (map open_of (pending xs)) (annotation_end form_P i) 'mrk' s mrk_name
  item_reads (annotation_end form_S i) xs s g b bs k d q =
      single_reads side (map open_of (pending xs)) (annotation_end form_S i) _ s
      (a_single (annotation_end form_S i) xs tt g b)

  -- THE CONTENT
  pub content_reads : (xs : Content) (s : List ℕ) → GoodContent xs → FitContent xs → Closed xs
      → deeper (length (pending xs)) xs ≡ false → Safe s
      → Reads (In (pending xs)) (content_text xs ++ s) (map one_record xs) (in_content side []) s
      × Safe (content_text xs ++ s)
  unfolding content_text deeper pending
  content_reads [] s each_nil each_nil closed_nil d q = (record { reads = λ at. (at, sym (behind_nil _)) }, q)
  content_reads (x ∷ xs) s (each_cons g gs) (each_cons b bs) (closed_cons k ks) d q =
      let n : ℕ = depth_behind (length (pending (x ∷ xs))) x in
      let here : ltb most_depth n ≡ false = or_left _ _ d in
      let later : deeper (length (pending xs)) xs ≡ false =
      subst (λ (m : ℕ). deeper m xs ≡ false) (depth_next x xs k) (or_right (ltb most_depth n) _ d) in
      let (r, safe) = content_reads xs s gs bs ks later q in
      let here_read = item_reads x xs (content_text xs ++ s) g b bs k here safe in
      let whole : Reads (In (pending (x ∷ xs))) (item_text x xs ++ (content_text xs ++ s))
      (one_record x ∷ map one_record xs) (in_content side []) s =
      reads_on here_read r in (
        subst (λ (l : List ℕ). Reads (In (pending (x ∷ xs))) l (one_record x ∷ map one_record xs) (in_content side []) s)
            (sym (append_assoc (item_text x xs) (content_text xs) s)) whole,
        subst Safe (sym (append_assoc (item_text x xs) (content_text xs) s)) (safe_item x xs (content_text xs ++ s) safe),
      )
