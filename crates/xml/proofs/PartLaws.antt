-- The text that the writer writes for the parts of a unit is read as their records.
use Prim.Native.Nat.{ℕ, zero, suc, ◌≤◌, ◌<◌}
use mathlib.Core.Path.{◌≡◌, refl, sym, ap, ◌∙◌, subst}
use mathlib.Core.Bool.{Bool, true, false, cond}
use mathlib.Core.List.{List, [], ◌∷◌, ◌++◌, map, append_assoc, append-nil}
use mathlib.Core.Option.{none, some}
use lib.ListN.{length}
use lib.Dec.{eqb}
use Rattle.xliff.specs.Bytes.{'-', 'I', equal, any, gather}
use Rattle.xliff.specs.Text.{between as between_numbers}
use Rattle.xliff.specs.Item.{Item, Content}
use Rattle.xliff.specs.Unit.{Segment, Head, segment, ignorable, Target, no_target, target, Part, head_id}
use Rattle.xliff.specs.Encode.{Record, part_head, target_head}
use Rattle.xliff.proofs.lists.Tests.{equal_refl}
use Rattle.xliff.specs.Good.{Each, each_nil, each_cons, GoodHead, GoodContent}
use Rattle.xliff.proofs.records.Fits.{FitContent}
use Rattle.xml.specs.Words.{'unit', 'source', 'target', 'id', 'canResegment', 'state', 'order', Words·all}
use Rattle.xml.specs.Tokens.{Attribute, start_tag, end_tag, doubled}
use Rattle.xml.specs.Attributes.{with, named, only, value_of, yes_no, states}
use Rattle.xml.specs.Elements.{segment_head, ignorable_head, part_of_name, target_order, Where, outside, in_content, part_due, source_due, target_due, part_end_due, Side, on, or_blame, opened, closed, inline_closed, turn, elements}
use Rattle.xml.specs.Write.{opening_tag, closing_tag, number_attribute, unless_zero, word_of, word_attribute, unless_hyphen, pending, content_text, deeper, head_name, head_attributes, target_text, part_text}
use Rattle.xml.proofs.TagLaws.{good_name, good_attributes, opening_read, closing_read}
use Rattle.xml.proofs.LetterLaws.{is_letter, letters}
use Rattle.xml.proofs.TextLaws.{Safe, safe_tag}
use Rattle.xml.proofs.AttributeLaws.{shown, optional_shown, required_shown, choice_word, states_back, hyphen_back, states_plain, good_one, good_number, good_unless_zero, good_unless_hyphen}
use Rattle.xml.proofs.ContentLaws.{Reads, reads_on, behind_nil, turns, one_record, open_of, Closed, content_reads}

-- tags
pub open_reads : (w w' : Where) (n : List ℕ) (ats : List Attribute) (rs : List Record) (s : List ℕ) → good_name n ≡ true
    → good_attributes ats ≡ true → doubled ats ≡ false → ((at : ℕ) → turn w (start_tag at n ats) ≡ on w' rs)
    → Reads w (opening_tag n ats ++ s) rs w' s
open_reads w w' n ats rs s g h d e =
    record {
      reads = λ at.
          let (at', f) = opening_read at n ats s g h d in
          (at', ap (elements w) f ∙ turns w w' (start_tag at n ats) rs _ (e at));
    }

pub close_reads : (w w' : Where) (n : List ℕ) (rs : List Record) (s : List ℕ) → good_name n ≡ true
    → ((at : ℕ) → turn w (end_tag at n) ≡ on w' rs) → Reads w (closing_tag n ++ s) rs w' s
close_reads w w' n rs s g e =
    record {
      reads = λ at.
          let (at', f) = closing_read at n s g in
          (at', ap (elements w) f ∙ turns w w' (end_tag at n) rs _ (e at));
    }

-- A content that can be written and read: good, its numbers fit, its pc and mrk are closed and not too deep
pub record Writable (xs : Content) : Type 0 where
  pub good : GoodContent xs
  pub fit : FitContent xs
  pub matched : Closed xs
  pub none_left : pending xs ≡ []
  pub shallow : deeper 0 xs ≡ false

content_whole : (side : Side) (xs : Content) (s : List ℕ) → Writable xs → Safe s
    → Reads (in_content side []) (content_text xs ++ s) (map one_record xs) (in_content side []) s
content_whole side xs s k q =
    subst (λ (l : List Item).
    Reads (in_content side (map open_of l)) (content_text xs ++ s) (map one_record xs) (in_content side []) s)
    k.none_left
    (content_reads side xs s k.good k.fit k.matched
    (subst (λ (l : List Item). deeper (length l) xs ≡ false) (sym k.none_left) k.shallow) q).0

-- the heads of parts: the attributes of a segment of these fields
abbrev attributes_of : ℕ → ℕ → ℕ → List Attribute
attributes_of i c s = head_attributes (segment (record { id = i; can_resegment = c; state = s }))

segment_facts : (i c s : ℕ) (b : Bool) → eqb c '-' ≡ b
    → (only ('id' ∷ 'canResegment' ∷ 'state' ∷ []) (attributes_of i c s) ≡ true)
    × (doubled (attributes_of i c s) ≡ false)
    × (value_of 'id' (attributes_of i c s) ≡ shown i)
    × (value_of 'canResegment' (attributes_of i c s) ≡ cond (eqb c '-') none (some (word_of yes_no c)))
    × (value_of 'state' (attributes_of i c s) ≡ some (word_of states s))
unfolding head_attributes number_attribute unless_zero unless_hyphen word_attribute only named any equal value_of doubled
    Words·all
segment_facts zero c s true e = rw e (refl, refl, refl, refl, refl)
segment_facts zero c s false e = rw e (refl, refl, refl, refl, refl)
segment_facts (suc i) c s true e = rw e (refl, refl, refl, refl, refl)
segment_facts (suc i) c s false e = rw e (refl, refl, refl, refl, refl)

ignorable_facts : (i : ℕ)
    → (only ('id' ∷ []) (head_attributes (ignorable i)) ≡ true)
    × (doubled (head_attributes (ignorable i)) ≡ false)
    × (value_of 'id' (head_attributes (ignorable i)) ≡ shown i)
unfolding head_attributes number_attribute unless_zero only named any equal value_of doubled Words·all
ignorable_facts zero = (refl, refl, refl)
ignorable_facts (suc i) = (refl, refl, refl)

segment_back : (f : Segment) → f.id < 65536 → GoodHead (segment f)
    → segment_head (head_attributes (segment f)) ≡ some (segment f)
unfolding segment_head with
segment_back f h g =
    let (a, b, u, v, w) = segment_facts f.id f.can_resegment f.state (eqb f.can_resegment '-') refl in
    let ats : List Attribute = head_attributes (segment f) in
    rw (
      a,
      optional_shown 'id' ats f.id h u,
      hyphen_back 'canResegment' ats f.can_resegment g.0 v,
      choice_word 'state' states 'I' ats f.state w (states_back f.state g.1),
    )

ignorable_back : (i : ℕ) → i < 65536 → ignorable_head (head_attributes (ignorable i)) ≡ some (ignorable i)
unfolding ignorable_head with
ignorable_back i h = let (a, b, u) = ignorable_facts i in rw (a, optional_shown 'id' (head_attributes (ignorable i)) i h u)

head_back : (h : Head) → GoodHead h → head_id h < 65536 → part_of_name (head_name h) (head_attributes h) ≡ some h
unfolding part_of_name head_name equal Words·all head_id
head_back (segment f) g k = segment_back f k g
head_back (ignorable i) g k = ignorable_back i k

head_once : (h : Head) → doubled (head_attributes h) ≡ false
head_once (segment f) = (segment_facts f.id f.can_resegment f.state (eqb f.can_resegment '-') refl).1
head_once (ignorable i) = (ignorable_facts i).1

head_good : (h : Head) → good_attributes (head_attributes h) ≡ true
unfolding head_attributes word_attribute good_name is_letter letters between_numbers Words·all good_attributes
head_good (segment f) =
    good_unless_zero 'id' f.id _ refl
    (good_unless_hyphen 'canResegment' f.can_resegment _ refl
    (good_one 'state' (word_of states f.state) [] refl (states_plain f.state) refl))
head_good (ignorable i) = rw (← append-nil (unless_zero 'id' i)) (good_unless_zero 'id' i [] refl refl)

head_name_good : (h : Head) → good_name (head_name h) ≡ true
unfolding head_name good_name is_letter letters between_numbers Words·all
head_name_good (segment f) = refl
head_name_good (ignorable i) = refl

source_name : good_name 'source' ≡ true
unfolding good_name is_letter letters between_numbers Words·all
source_name = refl

target_name : good_name 'target' ≡ true
unfolding good_name is_letter letters between_numbers Words·all
target_name = refl

pub unit_name : good_name 'unit' ≡ true
unfolding good_name is_letter letters between_numbers Words·all
unit_name = refl

head_reads : (k : ℕ) (h : Head) (s : List ℕ) → GoodHead h → head_id h < 65536
    → Reads (outside (part_due k)) (opening_tag (head_name h) (head_attributes h) ++ s) (part_head h ∷ [])
    (outside (source_due (suc k) (head_name h))) s
head_reads k h s g f =
    open_reads (outside (part_due k)) (outside (source_due (suc k) (head_name h))) (head_name h) (head_attributes h)
    (part_head h ∷ []) s (head_name_good h) (head_good h) (head_once h)
    (λ at. unfold turn opened or_blame in rw (head_back h g f))

-- source and target
abbrev source_side : ℕ → List ℕ → Side
source_side k p = record { name = 'source'; behind = target_due k p }

abbrev target_side : ℕ → List ℕ → Side
target_side k p = record { name = 'target'; behind = part_end_due k p }

source_reads : (k : ℕ) (p : List ℕ) (xs : Content) (s : List ℕ) → Writable xs
    → Reads (outside (source_due k p)) (opening_tag 'source' [] ++ (content_text xs ++ (closing_tag 'source' ++ s)))
    (map one_record xs ++ []) (outside (target_due k p)) s
unfolding closing_tag
source_reads k p xs s w =
    reads_on
    (open_reads (outside (source_due k p)) (in_content (source_side k p) []) 'source' [] []
    (content_text xs ++ (closing_tag 'source' ++ s)) source_name (unfold good_attributes in refl) (unfold doubled in refl)
    (λ at. unfold turn opened only equal Words·all in refl))
    (reads_on (content_whole (source_side k p) xs (closing_tag 'source' ++ s) w (safe_tag _))
    (close_reads (in_content (source_side k p) []) (outside (target_due k p)) 'source' [] s source_name
    (λ at. unfold turn inline_closed in rw (equal_refl 'source'))))

order_back : (k q : ℕ) → 1 ≤ q → q < 65536 → target_order k (number_attribute 'order' q) ≡ some q
unfolding target_order number_attribute only named any equal value_of Words·all
order_back k q l h = required_shown 'order' (number_attribute 'order' q) q l h refl

target_reads : (k : ℕ) (p : List ℕ) (q : ℕ) (xs : Content) (s : List ℕ) → 1 ≤ q → q < 65536 → Writable xs
    → Reads (outside (target_due k p))
    (opening_tag 'target' (number_attribute 'order' q) ++ (content_text xs ++ (closing_tag 'target' ++ s)))
    (target_head q ∷ (map one_record xs ++ [])) (outside (part_end_due k p)) s
unfolding closing_tag
target_reads k p q xs s l h w =
    reads_on
    (open_reads (outside (target_due k p)) (in_content (target_side k p) []) 'target' (number_attribute 'order' q)
    (target_head q ∷ []) (content_text xs ++ (closing_tag 'target' ++ s)) target_name (order_good q)
    (unfold doubled number_attribute any in refl)
    (λ at. unfold turn opened or_blame in rw (equal_refl 'target', order_back k q l h)))
    (reads_on (content_whole (target_side k p) xs (closing_tag 'target' ++ s) w (safe_tag _))
    (close_reads (in_content (target_side k p) []) (outside (part_end_due k p)) 'target' [] s target_name
    (λ at. unfold turn inline_closed in rw (equal_refl 'target'))))
  where
    order_good : (q : ℕ) → good_attributes (number_attribute 'order' q) ≡ true
    order_good q =
        unfold number_attribute good_name is_letter letters between_numbers Words·all good_attributes in
        good_number 'order' q [] refl refl

-- the records of a part, as they are read
unfoldable pub target_as_read : Target → List Record
target_as_read no_target = []
target_as_read (target q xs) = target_head q ∷ map one_record xs

unfoldable pub part_as_read : Part → List Record
part_as_read p = part_head p.head ∷ (map one_record p.source ++ target_as_read p.target)

abbrev pub WritableTarget : Target → Type 0
WritableTarget no_target = Unit {0}
WritableTarget (target q xs) = (1 ≤ q) × (q < 65536) × Writable xs

pub record WritablePart (p : Part) : Type 0 where
  pub head : GoodHead p.head
  pub head_fits : head_id p.head < 65536
  pub source : Writable p.source
  pub target : WritableTarget p.target

as_records : {w w' : Where} {t s : List ℕ} {rs qs : List Record} → rs ≡ qs → Reads w t rs w' s → Reads w t qs w' s
as_records {w} {w'} {t} {s} e r = subst (λ (l : List Record). Reads w t l w' s) e r

pub as_text : {w w' : Where} {t u s : List ℕ} {rs : List Record} → t ≡ u → Reads w u rs w' s → Reads w t rs w' s
as_text {w} {w'} {t} {u} {s} {rs} e r = subst (λ (l : List ℕ). Reads w l rs w' s) (sym e) r

pub spread_target : (a b c d s : List ℕ) → (a ++ (b ++ c)) ++ (d ++ s) ≡ a ++ (b ++ (c ++ (d ++ s)))
spread_target a b c d s = simp append_assoc

part_ends : (k : ℕ) (n : List ℕ) (g : Target) (s : List ℕ) → good_name n ≡ true → WritableTarget g
    → Reads (outside (target_due k n)) (target_text g ++ (closing_tag n ++ s)) (target_as_read g) (outside (part_due k)) s
unfolding target_text target_as_read
part_ends k n no_target s g w =
    close_reads (outside (target_due k n)) (outside (part_due k)) n [] s g (λ at. unfold turn closed in rw (equal_refl n))
part_ends k n (target q xs) s g (l, h, w) =
    as_text
    (spread_target (opening_tag 'target' (number_attribute 'order' q)) (content_text xs) (closing_tag 'target')
    (closing_tag n) s)
    (as_records (append-nil _ ∙ ap {B = List Record} (λ r. target_head q ∷ r) (append-nil (map one_record xs)))
    (reads_on (target_reads k n q xs (closing_tag n ++ s) l h w)
    (close_reads (outside (part_end_due k n)) (outside (part_due k)) n [] s g
    (λ at. unfold turn closed in rw (equal_refl n)))))

spread_part : (a b c d e f s : List ℕ) → (a ++ (b ++ (c ++ (d ++ (e ++ f))))) ++ s ≡ a ++ (b ++ (c ++ (d ++ (e ++ (f ++ s)))))
spread_part a b c d e f s = simp append_assoc

part_reads : (k : ℕ) (p : Part) (s : List ℕ) → WritablePart p
    → Reads (outside (part_due k)) (part_text p ++ s) (part_as_read p) (outside (part_due (suc k))) s
unfolding part_text part_as_read
part_reads k p s w =
    let n : List ℕ = head_name p.head in
    as_text
    (spread_part (opening_tag n (head_attributes p.head)) (opening_tag 'source' []) (content_text p.source)
    (closing_tag 'source') (target_text p.target) (closing_tag n) s)
    (as_records
    (ap (λ (l : List Record). part_head p.head ∷ (l ++ target_as_read p.target))
    (append-nil (map one_record p.source)))
    (reads_on (head_reads k p.head _ w.head w.head_fits)
    (reads_on (source_reads (suc k) n p.source (target_text p.target ++ (closing_tag n ++ s)) w.source)
    (part_ends (suc k) n p.target s (head_name_good p.head) w.target))))

-- parts
abbrev pub past : ℕ → List Part → ℕ
past k [] = k
past k (p ∷ ps) = past (suc k) ps

pub parts_read : (k : ℕ) (ps : List Part) (s : List ℕ) → Each WritablePart ps
    → Reads (outside (part_due k)) (gather part_text ps ++ s) (gather part_as_read ps) (outside (part_due (past k ps))) s
unfolding gather
parts_read k [] s each_nil = record { reads = λ at. (at, sym (behind_nil _)) }
parts_read k (p ∷ ps) s (each_cons w ws) =
    as_text (append_assoc (part_text p) (gather part_text ps) s)
    (reads_on (part_reads k p (gather part_text ps ++ s) w) (parts_read (suc k) ps s ws))
