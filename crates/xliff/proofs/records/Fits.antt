-- Bytes of a result: the numbers of a table fit into their bytes, the operations bring in none that do not, so that an
-- accepted result is bytes.
use Prim.Native.Nat.{ℕ, ◌+◌, ◌/◌, ◌%◌, ◌≤◌, ◌<◌}
use native.Mathlib.Omega.{arith}
use mathlib.Core.Path.{◌≡◌, refl, sym, subst}
use mathlib.Core.Bool.{Bool, true, false, not, ◌&&◌, ◌||◌, cond, false≢true}
use mathlib.Core.List.{List, [], ◌∷◌, ◌++◌}
use lib.Dec.{eqb, ltb}
use lib.ListN.{length, length-append}
use borrow.Author.Tests.{eqb-true, ltb-true, ltb-false, not-true}
use Rattle.xliff.specs.Parse.{most_bytes}
use Rattle.xliff.specs.Bytes.{'-', 'E', 'G', 'I', 'N', 'S', 'T', 'U', 'X', 'Y', Bytes, no_bytes, one_byte, two, among, gather}
use Rattle.xliff.specs.State.{state_letters}
use Rattle.xliff.specs.Text.{utf8_1, utf8_2, utf8_3, utf8_4, utf8, utf8s}
use Rattle.xliff.specs.Item.{Item, Content, start, end, form_P, form_S, text, character, standalone, isolated, pair, annotation_start, annotation_end, mark}
use Rattle.xliff.specs.Unit.{Head, segment, ignorable, Target, no_target, target, Part, XliffUnit, head_id, order_list, orders}
use Rattle.xliff.specs.Encode.{Record, opening, closing, part_head, target_head, text_run, inline, ill_text, broken, field_bytes, head_bytes, record_bytes, text_before, item_before, content_records, target_records, part_records, unit_records, spell}
use Rattle.xliff.specs.Rules.{bad_order}
use Rattle.xliff.specs.Good.{Each, each_nil, each_cons, Allowed, no_text, one_point, GoodHead, GoodRecord, AllGood}
use Rattle.xliff.proofs.lists.Each.{each_append, each_left, each_right}
use Rattle.xliff.proofs.lists.Tests.{and_left, and_right, or_left, or_right}
use Rattle.xliff.proofs.text.Utf8.{allowed_bound}
use Rattle.xliff.proofs.rules.Orders.{orders_fit}

-- lists of bytes put together and taken apart
pub bytes_append : (s t : List ℕ) → Bytes s → Bytes t → Bytes (s ++ t)
bytes_append [] t a b = b
bytes_append (x ∷ s) t (one_byte p a) b = one_byte p (bytes_append s t a b)

pub bytes_left : (s t : List ℕ) → Bytes (s ++ t) → Bytes s
bytes_left [] t h = no_bytes
bytes_left (x ∷ s) t (one_byte p h) = one_byte p (bytes_left s t h)

pub bytes_right : (s t : List ℕ) → Bytes (s ++ t) → Bytes t
bytes_right [] t h = h
bytes_right (x ∷ s) t (one_byte p h) = bytes_right s t h

first_byte : {b : ℕ} {s : List ℕ} → Bytes (b ∷ s) → b < 256
first_byte (one_byte p h) = p

byte : (b : ℕ) (s : List ℕ) → b < 256 → Bytes s → Bytes (b ∷ s)
byte b s p h = one_byte p h

-- a list of letters is bytes by its values
abbrev small : List ℕ → Bool
small [] = true
small (b ∷ s) = ltb b 256 && small s

letters : (s : List ℕ) → small s ≡ true → Bytes s
letters [] e = no_bytes
letters (b ∷ s) e = one_byte (ltb-true b 256 (and_left _ _ e)) (letters s (and_right (ltb b 256) _ e))

pub two_fits : (n : ℕ) → Bytes (two n) → n < 65536
unfolding two
two_fits n h = let a : n / 256 < 256 = first_byte h in omega arith

fits_two : (n : ℕ) → n < 65536 → Bytes (two n)
unfolding two
fits_two n h = byte (n / 256) (n % 256 ∷ []) (omega arith) (byte (n % 256) [] (omega arith) no_bytes)

-- a record whose numbers fit. (Of a text nothing is asked: its length is bounded by that of the table.)
abbrev pub Fits : Record → Type 0
Fits (opening c) = Unit {0}
Fits closing = Unit {0}
Fits (part_head h) = head_id h < 65536
Fits (target_head q) = q < 65536
Fits (text_run cs) = Unit {0}
Fits (inline x) = Bytes (field_bytes x)
Fits ill_text = Unit {0}
Fits (broken b) = Unit {0}

abbrev pub AllFit : List Record → Type 0
AllFit rs = Each Fits rs

-- bytes are of records that fit
head_fits : (h : Head) → Bytes (head_bytes h) → head_id h < 65536
unfolding head_bytes head_id
head_fits (segment f) (one_byte p (one_byte q r)) =
    two_fits f.id (bytes_left (two f.id) (f.can_resegment ∷ f.state ∷ []) r)
head_fits (ignorable i) (one_byte p (one_byte q r)) = two_fits i r

record_fits : (r : Record) → Bytes (record_bytes r) → Fits r
unfolding record_bytes
record_fits (opening c) h = tt
record_fits closing h = tt
record_fits (part_head h) b = head_fits h b
record_fits (target_head q) (one_byte p (one_byte s r)) = two_fits q r
record_fits (text_run cs) h = tt
record_fits (inline x) h = bytes_right (mark x) (field_bytes x) h
record_fits ill_text h = tt
record_fits (broken b) h = tt

pub bytes_fit : (rs : List Record) → Bytes (spell rs) → AllFit rs
unfolding spell gather
bytes_fit [] h = each_nil
bytes_fit (r ∷ rs) h =
    each_cons (record_fits r (bytes_left (record_bytes r) (spell rs) h))
    (bytes_fit rs (bytes_right (record_bytes r) (spell rs) h))

-- and records that are good and fit are bytes
among_byte : (c : ℕ) (l : List ℕ) → Bytes l → among c l ≡ true → c < 256
unfolding among
among_byte c [] b e = absurd (false≢true e)
among_byte c (x ∷ l) (one_byte p b) e = by (eqb c x) refl e (among_byte c l b)
  where
    by : (t : Bool) → eqb c x ≡ t → t || among c l ≡ true → (among c l ≡ true → c < 256) → c < 256
    by true q k ih = let z = eqb-true c x q in omega arith
    by false q k ih = ih k

letters_YN : Bytes ('Y' ∷ 'N' ∷ [])
letters_YN = letters ('Y' ∷ 'N' ∷ []) refl

letters-YN- : Bytes ('Y' ∷ 'N' ∷ '-' ∷ [])
letters-YN- = letters ('Y' ∷ 'N' ∷ '-' ∷ []) refl

letters_of_states : Bytes state_letters
letters_of_states = letters state_letters refl

head_bytes_good : (h : Head) → GoodHead h → head_id h < 65536 → Bytes (head_bytes h)
unfolding head_bytes head_id
head_bytes_good (segment f) g l =
    let last = f.can_resegment ∷ f.state ∷ [] in
    bytes_append ('S' ∷ 'G' ∷ []) (two f.id ++ last) (letters ('S' ∷ 'G' ∷ []) refl)
    (bytes_append (two f.id) last (fits_two f.id l)
    (one_byte (among_byte f.can_resegment _ letters-YN- g.0)
    (one_byte (among_byte f.state _ letters_of_states g.1) no_bytes)))
head_bytes_good (ignorable i) g f = bytes_append ('I' ∷ 'G' ∷ []) (two i) (letters ('I' ∷ 'G' ∷ []) refl) (fits_two i f)

-- every byte of a code point is below 256
six_byte : (n : ℕ) → 0x80 + n % 64 < 256
six_byte n = omega arith

utf8_byte : (c : ℕ) → c ≤ 0x10FFFF → Bytes (utf8 c)
unfolding utf8
utf8_byte c h = one (ltb c 0x80) refl
  where
    three : (b : Bool) → ltb c 0x10000 ≡ b → Bytes (cond b (utf8_3 c) (utf8_4 c))
    three true e =
        let z = ltb-true c 0x10000 e in
        byte (0xE0 + c / 4096) _ (omega arith) (one_byte (six_byte (c / 64)) (one_byte (six_byte c) no_bytes))
    three false e =
        byte (0xF0 + c / 262144) _ (omega arith)
        (one_byte (six_byte (c / 4096)) (one_byte (six_byte (c / 64)) (one_byte (six_byte c) no_bytes)))

    second : (b : Bool) → ltb c 0x800 ≡ b → Bytes (cond b (utf8_2 c) (cond (ltb c 0x10000) (utf8_3 c) (utf8_4 c)))
    second true e = let z = ltb-true c 0x800 e in byte (0xC0 + c / 64) _ (omega arith) (one_byte (six_byte c) no_bytes)
    second false e = three (ltb c 0x10000) refl

    one : (b : Bool) → ltb c 0x80 ≡ b
        → Bytes (cond b (utf8_1 c) (cond (ltb c 0x800) (utf8_2 c) (cond (ltb c 0x10000) (utf8_3 c) (utf8_4 c))))
    one true e = let z = ltb-true c 0x80 e in byte c [] (omega arith) no_bytes
    one false e = second (ltb c 0x800) refl

utf8s_bytes : (cs : List ℕ) → Allowed cs → Bytes (utf8s cs)
unfolding utf8s gather
utf8s_bytes [] no_text = no_bytes
utf8s_bytes (c ∷ cs) (one_point p h) =
    bytes_append (utf8 c) (utf8s cs) (utf8_byte c (allowed_bound c p)) (utf8s_bytes cs h)

mark_bytes : (x : Item) → Bytes (mark x)
unfolding mark
mark_bytes (text c) = letters _ refl
mark_bytes (character c) = letters _ refl
mark_bytes (standalone f) = letters _ refl
mark_bytes (isolated start f) = letters _ refl
mark_bytes (isolated end f) = letters _ refl
mark_bytes (pair start form_P f) = letters _ refl
mark_bytes (pair start form_S f) = letters _ refl
mark_bytes (pair end form_P f) = letters _ refl
mark_bytes (pair end form_S f) = letters _ refl
mark_bytes (annotation_start form_P i t) = letters _ refl
mark_bytes (annotation_start form_S i t) = letters _ refl
mark_bytes (annotation_end form_P i) = letters _ refl
mark_bytes (annotation_end form_S i) = letters _ refl

record_bytes_good : (r : Record) → GoodRecord r → Fits r → length (record_bytes r) ≤ most_bytes → Bytes (record_bytes r)
unfolding record_bytes
record_bytes_good (opening o) g f l =
    bytes_append ('U' ∷ 'N' ∷ []) (o.can_resegment ∷ []) (letters ('U' ∷ 'N' ∷ []) refl)
    (one_byte (among_byte o.can_resegment _ letters_YN g) no_bytes)
record_bytes_good closing g f l = letters ('U' ∷ 'E' ∷ []) refl
record_bytes_good (part_head h) g f l = head_bytes_good h g f
record_bytes_good (target_head q) g f l =
    bytes_append ('T' ∷ 'G' ∷ []) (two q) (letters ('T' ∷ 'G' ∷ []) refl) (fits_two q f)
record_bytes_good (text_run cs) g f l =
    let a = length-append (two (length (utf8s cs))) (utf8s cs) in
    bytes_append ('T' ∷ 'X' ∷ []) (two (length (utf8s cs)) ++ utf8s cs) (letters ('T' ∷ 'X' ∷ []) refl)
    (bytes_append (two (length (utf8s cs))) (utf8s cs) (fits_two (length (utf8s cs)) (omega arith)) (utf8s_bytes cs g))
record_bytes_good (inline x) g f l = bytes_append (mark x) (field_bytes x) (mark_bytes x) f
record_bytes_good ill_text g f l = absurd g
record_bytes_good (broken b) g f l = absurd g

pub fit_bytes : (rs : List Record) → AllGood rs → AllFit rs → length (spell rs) ≤ most_bytes → Bytes (spell rs)
unfolding spell gather
fit_bytes [] each_nil each_nil l = no_bytes
fit_bytes (r ∷ rs) (each_cons g h) (each_cons f k) l =
    let a = length-append (record_bytes r) (spell rs) in
    bytes_append (record_bytes r) (spell rs) (record_bytes_good r g f (omega arith)) (fit_bytes rs h k (omega arith))

-- Contents and parts whose numbers fit
abbrev pub FitIn : Item → Type 0
FitIn x = Bytes (field_bytes x)

abbrev pub FitContent : Content → Type 0
FitContent xs = Each FitIn xs

abbrev pub FitTarget : Target → Type 0
FitTarget no_target = Unit {0}
FitTarget (target q xs) = FitContent xs

pub record FitPart (p : Part) : Type 0 where
  pub head : head_id p.head < 65536
  pub source : FitContent p.source
  pub target : FitTarget p.target

abbrev pub FitParts : List Part → Type 0
FitParts ps = Each FitPart ps

-- from records to items, and back
text_from : (c : ℕ) (rs : List Record) → AllFit (text_before c rs) → AllFit rs
unfolding text_before
text_from c [] h = each_nil
text_from c (opening d ∷ rs) (each_cons f h) = h
text_from c (closing ∷ rs) (each_cons f h) = h
text_from c (part_head d ∷ rs) (each_cons f h) = h
text_from c (target_head q ∷ rs) (each_cons f h) = h
text_from c (text_run cs ∷ rs) (each_cons f h) = each_cons tt h
text_from c (inline x ∷ rs) (each_cons f h) = h
text_from c (ill_text ∷ rs) (each_cons f h) = h
text_from c (broken b ∷ rs) (each_cons f h) = h

text_to : (c : ℕ) (rs : List Record) → AllFit rs → AllFit (text_before c rs)
unfolding text_before
text_to c [] h = each_cons tt each_nil
text_to c (opening d ∷ rs) h = each_cons tt h
text_to c (closing ∷ rs) h = each_cons tt h
text_to c (part_head d ∷ rs) h = each_cons tt h
text_to c (target_head q ∷ rs) h = each_cons tt h
text_to c (text_run cs ∷ rs) (each_cons f h) = each_cons tt h
text_to c (inline x ∷ rs) h = each_cons tt h
text_to c (ill_text ∷ rs) h = each_cons tt h
text_to c (broken b ∷ rs) h = each_cons tt h

item_from : (x : Item) (rs : List Record) → AllFit (item_before x rs) → FitIn x × AllFit rs
unfolding item_before field_bytes
item_from (text c) rs h = (no_bytes, text_from c rs h)
item_from (character c) rs (each_cons f h) = (f, h)
item_from (standalone g) rs (each_cons f h) = (f, h)
item_from (isolated k g) rs (each_cons f h) = (f, h)
item_from (pair k w g) rs (each_cons f h) = (f, h)
item_from (annotation_start w i t) rs (each_cons f h) = (f, h)
item_from (annotation_end w i) rs (each_cons f h) = (f, h)

item_to : (x : Item) (rs : List Record) → FitIn x → AllFit rs → AllFit (item_before x rs)
unfolding item_before
item_to (text c) rs f h = text_to c rs h
item_to (character c) rs f h = each_cons f h
item_to (standalone g) rs f h = each_cons f h
item_to (isolated k g) rs f h = each_cons f h
item_to (pair k w g) rs f h = each_cons f h
item_to (annotation_start w i t) rs f h = each_cons f h
item_to (annotation_end w i) rs f h = each_cons f h

pub content_from : (xs : Content) → AllFit (content_records xs) → FitContent xs
unfolding content_records
content_from [] h = each_nil
content_from (x ∷ xs) h = let (f, r) = item_from x (content_records xs) h in each_cons f (content_from xs r)

content_to : (xs : Content) → FitContent xs → AllFit (content_records xs)
unfolding content_records
content_to [] each_nil = each_nil
content_to (x ∷ xs) (each_cons f h) = item_to x (content_records xs) f (content_to xs h)

target_from_records : (g : Target) → AllFit (target_records g) → FitTarget g
unfolding target_records
target_from_records no_target h = tt
target_from_records (target q xs) (each_cons f h) = content_from xs h

pub parts_from : (ps : List Part) → AllFit (gather part_records ps) → FitParts ps
unfolding gather part_records
parts_from [] h = each_nil
parts_from (p ∷ ps) (each_cons f h) =
    let mine = each_left (content_records p.source ++ target_records p.target) (gather part_records ps) h in
    each_cons
    (record {
      head = f;
      source = content_from p.source (each_left (content_records p.source) _ mine);
      target = target_from_records p.target
          (each_right (content_records p.source) _ mine);
    })
    (parts_from ps (each_right (content_records p.source ++ target_records p.target) (gather part_records ps) h))

pub unit_from : (u : XliffUnit) → AllFit (unit_records u) → FitParts u.parts
unfolding unit_records
unit_from u (each_cons f h) = parts_from u.parts (each_left (gather part_records u.parts) (closing ∷ []) h)

none_to : AllFit (target_records no_target)
unfolding target_records
none_to = each_nil

some_to : (q : ℕ) (xs : Content) → FitContent xs → q < 65536 → AllFit (target_records (target q xs))
unfolding target_records
some_to q xs h l = each_cons l (content_to xs h)

-- the orders fit by rule 5
pub parts_to : (n : ℕ) (used : List ℕ) (ps : List Part) → n < 65536 → orders_fit n used (orders ps) ≡ true → FitParts ps
    → AllFit (gather part_records ps)
unfolding gather part_records orders order_list orders_fit bad_order
parts_to n used [] l e each_nil = each_nil
parts_to n used (p ∷ ps) l e (each_cons f h) = by p.target refl e f.target (λ u k. parts_to n u ps l k h)
  where
    IH : Type 0
    IH = (u : List ℕ) → orders_fit n u (orders ps) ≡ true → AllFit (gather part_records ps)

    sources : List Record
    sources = content_records p.source

    -- the part's records, its target g fitting; then those of the others
    whole : (g : Target) → p.target ≡ g → AllFit (target_records g) → AllFit (gather part_records ps)
        → AllFit (part_head p.head ∷ (sources ++ target_records p.target) ++ gather part_records ps)
    whole g q t others =
        let target_fits : AllFit (target_records p.target) = subst (λ (z : Target). AllFit (target_records z)) (sym q) t in
        let both = each_append sources (target_records p.target) (content_to p.source f.source) target_fits in
        each_cons f.head (each_append (sources ++ target_records p.target) (gather part_records ps) both others)

    by : (g : Target) → p.target ≡ g → orders_fit n used (order_list g ++ orders ps) ≡ true → FitTarget g → IH
        → AllFit (part_head p.head ∷ (sources ++ target_records p.target) ++ gather part_records ps)
    by no_target q k t ih = whole no_target q none_to (ih used k)
    by (target o xs) q k t ih =
        let g : bad_order n used o ≡ false = not-true _ (and_left _ _ k) in
        let r : ltb n o || among o used ≡ false = or_right (eqb o 0) _ g in
        let s : o ≤ n = ltb-false n o (or_left _ _ r) in
        whole (target o xs) q (some_to o xs t (omega arith))
        (ih (o ∷ used) (and_right (not (bad_order n used o)) _ k))
