-- Laws of tables, the other way round: the bytes of a table that passes 2, 3 and 4 are those of its unit.
use Prim.Native.Nat.{ℕ, zero, suc, ◌+◌, ◌-◌, ◌<◌}
use mathlib.Core.Path.{◌≡◌, refl, sym, ap, ◌∙◌, subst}
use mathlib.Core.Bool.{Bool, true, false, ◌&&◌, ◌||◌, cond, true≢false}
use mathlib.Core.List.{List, [], ◌∷◌, ◌++◌, map, append_assoc, append-nil}
use mathlib.Core.Option.{Option, none}
use native.Mathlib.Omega.{arith}
use lib.ListN.{length, drop}
use lib.Dec.{eqb}
use borrow.Author.Tests.{eqb-false}
use Rattle.xliff.specs.Bytes.{gather, Bytes, one_byte}
use Rattle.xliff.specs.Answer.{Refusal, refusal}
use Rattle.xliff.specs.Item.{Item, Content, text, character, standalone, isolated, pair, annotation_start, annotation_end}
use Rattle.xliff.specs.Unit.{Head, Part}
use Rattle.xliff.specs.Encode.{Record, opening, closing, part_head, target_head, text_run, inline, ill_text, broken, record_bytes, text_before, item_before, content_records, target_records, part_records, unit_records, spell, content_bytes, encode}
use Rattle.xliff.specs.Parse.{is_broken, read, Entry, walk, most_records, most_parts, bad_text, bad_item, entries, records, Stage, unit_due, part_due, in_source, in_target, complete, alone, Step, on, fault, inline_step, unit_step, part_step, outer_step, step, is_part, may_end, first_bad, table_fault, content_fault, take_record, reading, opening_of, unit, content}
use Rattle.xliff.specs.Good.{each_nil, each_cons, AllGood}
use Rattle.xliff.proofs.lists.Tests.{none_some, or_left, or_right, or-true}
use Rattle.xliff.proofs.records.Read.{read_sound}
use Rattle.xliff.proofs.records.Parse.{walk_step}

-- the records follow each other from a stage to one where the bytes may end
pub data Runs : Stage → List Record → Type 0 where
  at_end : {st : Stage} → may_end st ≡ true → Runs st []
  goes_on : {st st' : Stage} {r : Record} {rs : List Record} → step st r ≡ on st' → Runs st' rs → Runs st (r ∷ rs)

pub fault_on : {n : ℕ} {st : Stage} → fault n ≡ on st → ⊥
fault_on e = let z : ◌≡◌ {A = ℕ} 0 1 = cc in absurd (let y : ⊥ = omega arith in y)

pub on_on : {a b : Stage} → on a ≡ on b → a ≡ b
on_on e = cc

-- what the tests say of the first record, where no record is bad
pub record Passed (size left parts : ℕ) (st : Stage) (e : Entry) (es : List Entry) : Type 0 where
  pub stage : Stage
  pub stepped : step st e.the ≡ on stage
  pub left_over : eqb left 0 ≡ false
  pub parts_left : is_part e.the && eqb parts 0 ≡ false
  pub others : first_bad size (left - 1) (cond (is_part e.the) (parts - 1) parts) stage es ≡ none

pub first_bad_cons : (size left parts : ℕ) (st : Stage) (e : Entry) (es : List Entry) → first_bad size left parts st (e ∷ es) ≡ none → Passed size left parts st e es
unfolding first_bad
first_bad_cons size left parts st e es h = by (eqb left 0 || is_part e.the && eqb parts 0) refl h
  where
    more : Step → Option Refusal
    more o =
        elim o [
          | fault n ↦ refusal n e.at
          | on st' ↦ first_bad size (left - 1) (cond (is_part e.the) (parts - 1) parts) st' es
        ]

    then' : (eqb left 0 || is_part e.the && eqb parts 0 ≡ false) → (o : Step) → step st e.the ≡ o → more o ≡ none → Passed size left parts st e es
    then' q (fault n) p k = absurd (none_some (sym k))
    then' q (on st') p k = record { stage = st'; stepped = p; left_over = or_left _ _ q; parts_left = or_right (eqb left 0) _ q; others = k }

    by : (b : Bool) → (eqb left 0 || is_part e.the && eqb parts 0 ≡ b) → cond b (refusal 4 e.at) (more (step st e.the)) ≡ none → Passed size left parts st e es
    by true q k = absurd (none_some (sym k))
    by false q k = then' q (step st e.the) refl k

-- a record that passes is not broken
pub stepped_whole : (st st' : Stage) (r : Record) → step st r ≡ on st' → is_broken r ≡ false
unfolding step is_broken inline_step unit_step part_step outer_step
stepped_whole st st' (opening c) e = refl
stepped_whole st st' closing e = refl
stepped_whole st st' (part_head h) e = refl
stepped_whole st st' (target_head q) e = refl
stepped_whole st st' (text_run cs) e = refl
stepped_whole st st' (inline x) e = refl
stepped_whole unit_due st' ill_text e = absurd (fault_on e)
stepped_whole part_due st' ill_text e = absurd (fault_on e)
stepped_whole (in_source a) st' ill_text e = absurd (fault_on e)
stepped_whole (in_target a) st' ill_text e = absurd (fault_on e)
stepped_whole complete st' ill_text e = absurd (fault_on e)
stepped_whole (alone a) st' ill_text e = absurd (fault_on e)
stepped_whole unit_due st' (broken b) e = absurd (fault_on e)
stepped_whole part_due st' (broken b) e = absurd (fault_on e)
stepped_whole (in_source a) st' (broken b) e = absurd (fault_on e)
stepped_whole (in_target a) st' (broken b) e = absurd (fault_on e)
stepped_whole complete st' (broken b) e = absurd (fault_on e)
stepped_whole (alone a) st' (broken b) e = absurd (fault_on e)

-- the rest of bytes is bytes
pub bytes_drop : (n : ℕ) (s : List ℕ) → Bytes s → Bytes (drop n s)
bytes_drop zero s h = h
bytes_drop (suc n) [] h = h
bytes_drop (suc n) (b ∷ s) (one_byte p h) = bytes_drop n s h

-- What a walk with no bad record has found: good records, in sequence, whose bytes are all the bytes
pub record Walked (st : Stage) (s : List ℕ) (es : List Entry) : Type 0 where
  pub runs : Runs st (map (λ (e : Entry). e.the) es)
  pub good : AllGood (map (λ (e : Entry). e.the) es)
  pub bytes : spell (map (λ (e : Entry). e.the) es) ≡ s

walked : (n at size left parts : ℕ) (st : Stage) (s : List ℕ) → Bytes s → left < n → first_bad size left parts st (walk n at s) ≡ none → Walked st s (walk n at s)
unfolding walk may_end first_bad spell gather
walked zero at size left parts st s h l k = absurd (let y : ⊥ = omega arith in y)
walked (suc n) at size left parts st [] h l k = record { runs = at_end (by (may_end st) k); good = each_nil; bytes = refl }
  where
    by : (b : Bool) → cond b none (refusal 2 size) ≡ none → b ≡ true
    by true k = refl
    by false k = absurd (none_some (sym k))
walked (suc n) at size left parts st (b ∷ s) h l k =
    let r : Record = read (b ∷ s) in
    let more : List Entry = walk n (at + length (record_bytes r)) (drop (length (record_bytes r)) (b ∷ s)) in
    let p = first_bad_cons size left parts st (record { at = at; the = r }) (cond (is_broken r) [] more) k in
    let w : is_broken r ≡ false = stepped_whole st p.stage r p.stepped in
    let E : walk (suc n) at (b ∷ s) ≡ record { at = at; the = r } ∷ more = walk_step n at (b ∷ s) r (omega arith) refl w in
    let p2 = first_bad_cons size left parts st (record { at = at; the = r }) more (subst (λ (es : List Entry). first_bad size left parts st es ≡ none) E k) in
    let f = read_sound (b ∷ s) h w in
    let ih =
    walked n (at + length (record_bytes r)) size (left - 1) _ p2.stage (drop (length (record_bytes r)) (b ∷ s)) (bytes_drop (length (record_bytes r)) (b ∷ s) h)
    (omega (arith, eqb-false left 0 p2.left_over)) p2.others in
    subst (Walked st (b ∷ s)) (sym E)
    (record {
      runs = goes_on p2.stepped ih.runs;
      good = each_cons f.good ih.good;
      bytes = ap (λ (t : List ℕ). record_bytes r ++ t) ih.bytes ∙ sym f.bytes;
    })

-- a table that passes 2, 3 and 4: its records are good, in sequence, and all of its bytes
pub table_walked : (t : List ℕ) → Bytes t → table_fault t ≡ none → Walked unit_due t (entries t)
unfolding table_fault entries
table_walked t h k = walked (suc most_records) 0 (length t) most_records most_parts unit_due t h (omega arith) k

pub content_walked : (t : List ℕ) → Bytes t → content_fault t ≡ none → Walked (alone false) t (entries t)
unfolding content_fault entries
content_walked t h k = walked (suc most_records) 0 (length t) most_records most_parts (alone false) t h (omega arith) k

-- a text in front of records that begin with no text
unfoldable pub starts_text : List Record → Bool
starts_text [] = false
starts_text (opening c ∷ rs) = false
starts_text (closing ∷ rs) = false
starts_text (part_head h ∷ rs) = false
starts_text (target_head q ∷ rs) = false
starts_text (text_run cs ∷ rs) = true
starts_text (inline x ∷ rs) = false
starts_text (ill_text ∷ rs) = false
starts_text (broken b ∷ rs) = false

text_before_none : (c : ℕ) (rs : List Record) → starts_text rs ≡ false → text_before c rs ≡ text_run (c ∷ []) ∷ rs
unfolding starts_text text_before
text_before_none c [] e = refl
text_before_none c (opening d ∷ rs) e = refl
text_before_none c (closing ∷ rs) e = refl
text_before_none c (part_head h ∷ rs) e = refl
text_before_none c (target_head q ∷ rs) e = refl
text_before_none c (text_run cs ∷ rs) e = absurd (true≢false e)
text_before_none c (inline x ∷ rs) e = refl
text_before_none c (ill_text ∷ rs) e = refl
text_before_none c (broken b ∷ rs) e = refl

pub content_records_text : (c : ℕ) (cs : List ℕ) (xs : Content) → starts_text (content_records xs) ≡ false
    → content_records (map text (c ∷ cs) ++ xs) ≡ text_run (c ∷ cs) ∷ content_records xs
unfolding content_records item_before text_before
content_records_text c [] xs e = text_before_none c (content_records xs) e
content_records_text c (d ∷ cs) xs e = ap (text_before c) (content_records_text d cs xs e)

starts_text_append : (rs qs : List Record) → starts_text (rs ++ qs) ≡ false → starts_text rs ≡ false
unfolding starts_text
starts_text_append [] qs e = refl
starts_text_append (opening c ∷ rs) qs e = refl
starts_text_append (closing ∷ rs) qs e = refl
starts_text_append (part_head h ∷ rs) qs e = refl
starts_text_append (target_head q ∷ rs) qs e = refl
starts_text_append (text_run cs ∷ rs) qs e = e
starts_text_append (inline x ∷ rs) qs e = refl
starts_text_append (ill_text ∷ rs) qs e = refl
starts_text_append (broken b ∷ rs) qs e = refl

-- a step into a content
pub cond_on : (b : Bool) (n : ℕ) (x st : Stage) → cond b (fault n) (on x) ≡ on st → (b ≡ false) × (x ≡ st)
cond_on true n x st e = absurd (fault_on e)
cond_on false n x st e = (refl, on_on e)

-- directly after a TX none comes
no_text_after : (inside : Bool → Stage) (rs : List Record)
    → ((cs : List ℕ) → step (inside true) (text_run cs) ≡ cond (bad_text true cs) (fault 3) (on (inside true))) → Runs (inside true) rs → starts_text rs ≡ false
unfolding starts_text bad_text
no_text_after inside [] k run = refl
no_text_after inside (opening c ∷ rs) k run = refl
no_text_after inside (closing ∷ rs) k run = refl
no_text_after inside (part_head h ∷ rs) k run = refl
no_text_after inside (target_head q ∷ rs) k run = refl
no_text_after inside (text_run cs ∷ rs) k (goes_on e run) =
    absurd (true≢false (sym (or-true (eqb (length cs) 0)) ∙ (cond_on (bad_text true cs) 3 (inside true) _ (sym (k cs) ∙ e)).0))
no_text_after inside (inline x ∷ rs) k run = refl
no_text_after inside (ill_text ∷ rs) k run = refl
no_text_after inside (broken b ∷ rs) k run = refl

-- a content goes on with an item, with a text
inline_shape : (x : Item) (xs : Content) (tail rs : List Record) → bad_item x ≡ false → content_records xs ++ tail ≡ rs → content_records (x ∷ xs) ++ tail ≡ inline x ∷ rs
unfolding content_records item_before bad_item
inline_shape (text c) xs tail rs b e = absurd (true≢false b)
inline_shape (character c) xs tail rs b e = ap {B = List Record} (λ l. inline (character c) ∷ l) e
inline_shape (standalone f) xs tail rs b e = ap {B = List Record} (λ l. inline (standalone f) ∷ l) e
inline_shape (isolated h f) xs tail rs b e = ap {B = List Record} (λ l. inline (isolated h f) ∷ l) e
inline_shape (pair h w f) xs tail rs b e = ap {B = List Record} (λ l. inline (pair h w f) ∷ l) e
inline_shape (annotation_start w i t) xs tail rs b e = ap {B = List Record} (λ l. inline (annotation_start w i t) ∷ l) e
inline_shape (annotation_end w i) xs tail rs b e = ap {B = List Record} (λ l. inline (annotation_end w i) ∷ l) e

text_shape : (a : Bool) (cs : List ℕ) (xs : Content) (tail rs : List Record) → bad_text a cs ≡ false → starts_text rs ≡ false → content_records xs ++ tail ≡ rs
    → content_records (map text cs ++ xs) ++ tail ≡ text_run cs ∷ rs
unfolding bad_text
text_shape a [] xs tail rs b n e = absurd (true≢false b)
text_shape a (c ∷ cs) xs tail rs b n e =
    ap (λ (l : List Record). l ++ tail) (content_records_text c cs xs (starts_text_append (content_records xs) tail (ap starts_text e ∙ n)))
    ∙ ap {B = List Record} (λ l. text_run (c ∷ cs) ∷ l) e

-- the records of the parts, and UE
unfoldable pub closed_off : List Part → List Record
closed_off ps = gather part_records ps ++ (closing ∷ [])

-- What records in sequence are, by the stage from which they go on
abbrev Shape : Stage → List Record → Type 0
Shape unit_due rs = opening (opening_of rs) ∷ closed_off (reading rs).parts ≡ rs
Shape part_due rs = closed_off (reading rs).parts ≡ rs
Shape (in_source a) rs = content_records (reading rs).items ++ (target_records (reading rs).target ++ closed_off (reading rs).parts) ≡ rs
Shape (in_target a) rs = content_records (reading rs).items ++ closed_off (reading rs).parts ≡ rs
Shape complete rs = rs ≡ []
Shape (alone a) rs = content_records (reading rs).items ++ [] ≡ rs

part_shape : (h : Head) (rs : List Record) → Shape (in_source false) rs → closed_off (reading (part_head h ∷ rs)).parts ≡ part_head h ∷ rs
unfolding closed_off gather part_records reading take_record
part_shape h rs e =
    ap {B = List Record} (λ l. part_head h ∷ l)
    (append_assoc (content_records (reading rs).items ++ target_records (reading rs).target) (gather part_records (reading rs).parts) (closing ∷ [])
    ∙ append_assoc (content_records (reading rs).items) (target_records (reading rs).target) (closed_off (reading rs).parts) ∙ e)

end_shape : (rs : List Record) → rs ≡ [] → closed_off (reading (closing ∷ rs)).parts ≡ closing ∷ rs
unfolding closed_off gather reading take_record
end_shape rs e = ap {B = List Record} (λ l. closing ∷ l) (sym e)

at : (rs : List Record) {a b : Stage} → a ≡ b → Shape b rs → Shape a rs
at rs q h = subst (λ (st : Stage). Shape st rs) (sym q) h

source_shape : (a : Bool) (r : Record) (rs : List Record) (st : Stage) → step (in_source a) r ≡ on st → Runs st rs → Shape st rs → Shape (in_source a) (r ∷ rs)
unfolding step inline_step outer_step reading take_record target_records content_records
source_shape a (opening c) rs st e run h = absurd (fault_on e)
source_shape a closing rs st e run h = end_shape rs (at rs (on_on e) h)
source_shape a (part_head p) rs st e run h = part_shape p rs (at rs (on_on e) h)
source_shape a (target_head q) rs st e run h = ap {B = List Record} (λ l. target_head q ∷ l) (at rs (on_on e) h)
source_shape a (text_run cs) rs st e run h =
    let c = cond_on (bad_text a cs) 3 (in_source true) st e in
    text_shape a cs (reading rs).items _ rs c.0 (no_text_after in_source rs (λ _. refl) (subst (λ (z : Stage). Runs z rs) (sym c.1) run)) (at rs c.1 h)
source_shape a (inline x) rs st e run h =
    let c = cond_on (bad_item x) 3 (in_source false) st e in inline_shape x (reading rs).items _ rs c.0 (at rs c.1 h)
source_shape a ill_text rs st e run h = absurd (fault_on e)
source_shape a (broken b) rs st e run h = absurd (fault_on e)

target_shape : (a : Bool) (r : Record) (rs : List Record) (st : Stage) → step (in_target a) r ≡ on st → Runs st rs → Shape st rs → Shape (in_target a) (r ∷ rs)
unfolding step inline_step outer_step reading take_record target_records content_records
target_shape a (opening c) rs st e run h = absurd (fault_on e)
target_shape a closing rs st e run h = end_shape rs (at rs (on_on e) h)
target_shape a (part_head p) rs st e run h = part_shape p rs (at rs (on_on e) h)
target_shape a (target_head q) rs st e run h = absurd (fault_on e)
target_shape a (text_run cs) rs st e run h =
    let c = cond_on (bad_text a cs) 3 (in_target true) st e in
    text_shape a cs (reading rs).items _ rs c.0 (no_text_after in_target rs (λ _. refl) (subst (λ (z : Stage). Runs z rs) (sym c.1) run)) (at rs c.1 h)
target_shape a (inline x) rs st e run h =
    let c = cond_on (bad_item x) 3 (in_target false) st e in inline_shape x (reading rs).items _ rs c.0 (at rs c.1 h)
target_shape a ill_text rs st e run h = absurd (fault_on e)
target_shape a (broken b) rs st e run h = absurd (fault_on e)

alone_shape : (a : Bool) (r : Record) (rs : List Record) (st : Stage) → step (alone a) r ≡ on st → Runs st rs → Shape st rs → Shape (alone a) (r ∷ rs)
unfolding step inline_step outer_step reading take_record target_records content_records
alone_shape a (opening c) rs st e run h = absurd (fault_on e)
alone_shape a closing rs st e run h = absurd (fault_on e)
alone_shape a (part_head p) rs st e run h = absurd (fault_on e)
alone_shape a (target_head q) rs st e run h = absurd (fault_on e)
alone_shape a (text_run cs) rs st e run h =
    let c = cond_on (bad_text a cs) 3 (alone true) st e in
    text_shape a cs (reading rs).items _ rs c.0 (no_text_after alone rs (λ _. refl) (subst (λ (z : Stage). Runs z rs) (sym c.1) run)) (at rs c.1 h)
alone_shape a (inline x) rs st e run h =
    let c = cond_on (bad_item x) 3 (alone false) st e in inline_shape x (reading rs).items _ rs c.0 (at rs c.1 h)
alone_shape a ill_text rs st e run h = absurd (fault_on e)
alone_shape a (broken b) rs st e run h = absurd (fault_on e)

unit_shape : (r : Record) (rs : List Record) (st : Stage) → step unit_due r ≡ on st → Shape st rs → Shape unit_due (r ∷ rs)
unfolding step unit_step reading take_record opening_of
unit_shape (opening c) rs st e h = ap {B = List Record} (λ l. opening c ∷ l) (at rs (on_on e) h)
unit_shape closing rs st e h = absurd (fault_on e)
unit_shape (part_head p) rs st e h = absurd (fault_on e)
unit_shape (target_head q) rs st e h = absurd (fault_on e)
unit_shape (text_run cs) rs st e h = absurd (fault_on e)
unit_shape (inline x) rs st e h = absurd (fault_on e)
unit_shape ill_text rs st e h = absurd (fault_on e)
unit_shape (broken b) rs st e h = absurd (fault_on e)

parts_shape : (r : Record) (rs : List Record) (st : Stage) → step part_due r ≡ on st → Shape st rs → Shape part_due (r ∷ rs)
unfolding step part_step
parts_shape (opening c) rs st e h = absurd (fault_on e)
parts_shape closing rs st e h = absurd (fault_on e)
parts_shape (part_head p) rs st e h = part_shape p rs (at rs (on_on e) h)
parts_shape (target_head q) rs st e h = absurd (fault_on e)
parts_shape (text_run cs) rs st e h = absurd (fault_on e)
parts_shape (inline x) rs st e h = absurd (fault_on e)
parts_shape ill_text rs st e h = absurd (fault_on e)
parts_shape (broken b) rs st e h = absurd (fault_on e)

pub shape : (st : Stage) (rs : List Record) → Runs st rs → Shape st rs
unfolding step may_end content_records reading
shape unit_due [] (at_end e) = absurd (true≢false (sym e))
shape part_due [] (at_end e) = absurd (true≢false (sym e))
shape (in_source a) [] (at_end e) = absurd (true≢false (sym e))
shape (in_target a) [] (at_end e) = absurd (true≢false (sym e))
shape complete [] (at_end e) = refl
shape (alone a) [] (at_end e) = refl
shape unit_due (r ∷ rs) (goes_on {st'} e run) = unit_shape r rs st' e (shape st' rs run)
shape part_due (r ∷ rs) (goes_on {st'} e run) = parts_shape r rs st' e (shape st' rs run)
shape (in_source a) (r ∷ rs) (goes_on {st'} e run) = source_shape a r rs st' e run (shape st' rs run)
shape (in_target a) (r ∷ rs) (goes_on {st'} e run) = target_shape a r rs st' e run (shape st' rs run)
shape complete (r ∷ rs) (goes_on e run) = absurd (fault_on e)
shape (alone a) (r ∷ rs) (goes_on {st'} e run) = alone_shape a r rs st' e run (shape st' rs run)

-- the bytes of a table that passes 2, 3 and 4 are those of its unit
pub encode_unit : (t : List ℕ) → Bytes t → table_fault t ≡ none → encode (unit t) ≡ t
unfolding encode unit unit_records closed_off records
encode_unit t h k = let w = table_walked t h k in ap spell (shape unit_due (records t) w.runs) ∙ w.bytes

-- and so for a content
pub encode_content : (t : List ℕ) → Bytes t → content_fault t ≡ none → content_bytes (content t) ≡ t
unfolding content_bytes content records
encode_content t h k =
    let w = content_walked t h k in
    ap spell (sym (append-nil (content_records (content t))) ∙ shape (alone false) (records t) w.runs) ∙ w.bytes
