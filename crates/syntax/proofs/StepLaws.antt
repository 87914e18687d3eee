-- The steps of the code are those of the specification, and the walk goes on by them.
use Prim.Native.Nat.{ℕ, suc, ◌+◌, ◌-◌, ◌≤◌, ◌<◌}
use mathlib.Core.Path.{◌≡◌, refl, sym, ◌∙◌, ap}
use mathlib.Core.Bool.{Bool, true, false, ◌&&◌, ◌||◌, cond}
use mathlib.Core.List.{List, [], ◌∷◌}
use mathlib.Core.Option.{Option, none}
use native.Mathlib.Omega.{arith}
use borrow.Author.Tests.{eqb-false, eq-eqb, ne_eqb}
use lib.ListN.{length, drop, get_or, length-drop, length-append, drop_of_length-le}
use lib.Seq.{drop-drop}
use lib.Dec.{ltb, eqb}
use Rattle.xliff.specs.Bytes.{Bytes, no_bytes, one_byte, two, gather}
use Rattle.xliff.specs.Text.{utf8, utf8s}
use Rattle.xliff.specs.Answer.{Refusal, refusal, unless, answer, accepted, refused}
use Rattle.xliff.specs.Encode as encode
use Rattle.xliff.specs.Encode.{text_run, inline, record_bytes}
use Rattle.xliff.specs.Parse.{on, fault, read, Entry, is_broken, walk, bad_item, bad_text, inline_step, unit_step, part_step, outer_step, step, is_part, may_end, first_bad, entries, most_records}
use Rattle.xliff.proofs.records.Parse.{good_length}
use Rattle.xliff.proofs.lists.Tests.{or_left}
use Rattle.xliff.proofs.records.Read.{read_sound}
use Rattle.xliff.proofs.unit.Table.{stepped_whole, bytes_drop}
use Rattle.xliff.proofs.text.Utf8.{utf8_nonempty}
use Rattle.table.specs.Meaning.{item, record_meaning, meaning, width, body}
use Rattle.text.proofs.TextLaws.{xml_same}
use Rattle.table.specs.declared.Item.{Item}
use Rattle.table.specs.declared.Item.TheVariants.{Character, Standalone, Isolated, Pair, AnnotationStart, AnnotationEnd}
use Rattle.table.specs.declared.Record.{Record}
use Rattle.table.specs.declared.Record.TheVariants.{Unit as UnitStart, UnitEnd, Segment, Ignorable, Target, Text, Inline}
use Rattle.table.specs.declared.Read.{Read}
use Rattle.table.specs.declared.Read.TheVariants.{Good, Ill, Broken}
use Rattle.syntax.specs.Stages.{stage, step_meaning, is_bad_item, step_if, step_at_text, step_at_item, record_step, step_of, is_part_read, moved, move_of, may_end_stage, fault_from}
use Rattle.syntax.specs.declared.Stage.{Stage}
use Rattle.syntax.specs.declared.Stage.TheVariants.{UnitDue, PartDue, InSource, InTarget, Complete, Alone}
use Rattle.std.specs.Prelude.{Result, Ok, Err}
use Rattle.syntax.specs.declared.State.{State}

item_same : (i : Item) → is_bad_item i ≡ bad_item (item i)
unfolding bad_item
item_same (Character c) = ap (λ (b : Bool). ltb 0x10FFFF c || b) (xml_same c)
item_same (Standalone f) = refl
item_same (Isolated h f) = refl
item_same (Pair w h f) = refl
item_same (AnnotationStart w i l) = refl
item_same (AnnotationEnd w i) = refl

step_if_lem : (b : Bool) (st : Stage) → step_meaning (step_if b st) ≡ cond b (fault 3) (on (stage st))
step_if_lem true st = refl
step_if_lem false st = refl

text_same : (e : Bool) (cs : List ℕ) (st : Stage) → e ≡ eqb (length cs) 0 → step_meaning (step_at_text st e) ≡ step (stage st) (text_run cs)
unfolding step unit_step part_step inline_step outer_step bad_text
text_same e cs UnitDue h = refl
text_same e cs PartDue h = refl
text_same e cs (InSource a) h = step_if_lem (e || a) (InSource true) ∙ rw h
text_same e cs (InTarget a) h = step_if_lem (e || a) (InTarget true) ∙ rw h
text_same e cs Complete h = refl
text_same e cs (Alone a) h = step_if_lem (e || a) (Alone true) ∙ rw h

inline_same : (i : Item) (st : Stage) → step_meaning (step_at_item st (is_bad_item i)) ≡ step (stage st) (inline (item i))
unfolding step unit_step part_step inline_step outer_step
inline_same i UnitDue = refl
inline_same i PartDue = refl
inline_same i (InSource a) = step_if_lem (is_bad_item i) (InSource false) ∙ rw (item_same i)
inline_same i (InTarget a) = step_if_lem (is_bad_item i) (InTarget false) ∙ rw (item_same i)
inline_same i Complete = refl
inline_same i (Alone a) = step_if_lem (is_bad_item i) (Alone false) ∙ rw (item_same i)

-- a text is empty when its record has four bytes
empty_text : (w : ℕ) (cs : List ℕ) → w ≡ length (record_bytes (text_run cs)) → eqb w 4 ≡ eqb (length cs) 0
unfolding record_bytes two utf8s gather
empty_text w [] h = eq-eqb w 4 h
empty_text w (c ∷ cs) h =
    ne_eqb w 4 (omega (arith, utf8_nonempty c, length-append (utf8 c) (gather utf8 cs))) ∙ sym (ne_eqb (suc (length cs)) 0 (omega arith))

record_same : (st : Stage) (cs : List ℕ) (x : Record) (w : ℕ) → w ≡ length (record_bytes (record_meaning cs x))
    → step_meaning (record_step st x w) ≡ step (stage st) (record_meaning cs x)
unfolding step unit_step part_step inline_step outer_step
record_same UnitDue cs (UnitStart c) w h = refl
record_same PartDue cs (UnitStart c) w h = refl
record_same (InSource a) cs (UnitStart c) w h = refl
record_same (InTarget a) cs (UnitStart c) w h = refl
record_same Complete cs (UnitStart c) w h = refl
record_same (Alone a) cs (UnitStart c) w h = refl
record_same UnitDue cs UnitEnd w h = refl
record_same PartDue cs UnitEnd w h = refl
record_same (InSource a) cs UnitEnd w h = refl
record_same (InTarget a) cs UnitEnd w h = refl
record_same Complete cs UnitEnd w h = refl
record_same (Alone a) cs UnitEnd w h = refl
record_same UnitDue cs (Segment f) w h = refl
record_same PartDue cs (Segment f) w h = refl
record_same (InSource a) cs (Segment f) w h = refl
record_same (InTarget a) cs (Segment f) w h = refl
record_same Complete cs (Segment f) w h = refl
record_same (Alone a) cs (Segment f) w h = refl
record_same UnitDue cs (Ignorable i) w h = refl
record_same PartDue cs (Ignorable i) w h = refl
record_same (InSource a) cs (Ignorable i) w h = refl
record_same (InTarget a) cs (Ignorable i) w h = refl
record_same Complete cs (Ignorable i) w h = refl
record_same (Alone a) cs (Ignorable i) w h = refl
record_same UnitDue cs (Target q) w h = refl
record_same PartDue cs (Target q) w h = refl
record_same (InSource a) cs (Target q) w h = refl
record_same (InTarget a) cs (Target q) w h = refl
record_same Complete cs (Target q) w h = refl
record_same (Alone a) cs (Target q) w h = refl
record_same UnitDue cs Text w h = text_same (eqb w 4) cs UnitDue (empty_text w cs h)
record_same PartDue cs Text w h = text_same (eqb w 4) cs PartDue (empty_text w cs h)
record_same (InSource a) cs Text w h = text_same (eqb w 4) cs (InSource a) (empty_text w cs h)
record_same (InTarget a) cs Text w h = text_same (eqb w 4) cs (InTarget a) (empty_text w cs h)
record_same Complete cs Text w h = text_same (eqb w 4) cs Complete (empty_text w cs h)
record_same (Alone a) cs Text w h = text_same (eqb w 4) cs (Alone a) (empty_text w cs h)
record_same UnitDue cs (Inline i) w h = inline_same i UnitDue
record_same PartDue cs (Inline i) w h = inline_same i PartDue
record_same (InSource a) cs (Inline i) w h = inline_same i (InSource a)
record_same (InTarget a) cs (Inline i) w h = inline_same i (InTarget a)
record_same Complete cs (Inline i) w h = inline_same i Complete
record_same (Alone a) cs (Inline i) w h = inline_same i (Alone a)

-- the step of the code is the specification's
pub step_same : (st : Stage) (cs : List ℕ) (r : Read) → width r ≡ length (record_bytes (meaning cs r)) → step_meaning (step_of st r) ≡ step (stage st) (meaning cs r)
unfolding step unit_step part_step inline_step outer_step
step_same st cs (Good x w) h = record_same st cs x w h
step_same UnitDue cs Ill h = refl
step_same PartDue cs Ill h = refl
step_same (InSource a) cs Ill h = refl
step_same (InTarget a) cs Ill h = refl
step_same Complete cs Ill h = refl
step_same (Alone a) cs Ill h = refl
step_same UnitDue cs (Broken b) h = refl
step_same PartDue cs (Broken b) h = refl
step_same (InSource a) cs (Broken b) h = refl
step_same (InTarget a) cs (Broken b) h = refl
step_same Complete cs (Broken b) h = refl
step_same (Alone a) cs (Broken b) h = refl

pub part_same : (cs : List ℕ) (r : Read) → is_part_read r ≡ is_part (meaning cs r)
unfolding is_part
part_same cs (Good (UnitStart c) w) = refl
part_same cs (Good UnitEnd w) = refl
part_same cs (Good (Segment f) w) = refl
part_same cs (Good (Ignorable i) w) = refl
part_same cs (Good (Target q) w) = refl
part_same cs (Good Text w) = refl
part_same cs (Good (Inline i) w) = refl
part_same cs Ill = refl
part_same cs (Broken b) = refl

pub end_same : (st : Stage) → may_end_stage st ≡ may_end (stage st)
unfolding may_end
end_same UnitDue = refl
end_same PartDue = refl
end_same (InSource a) = refl
end_same (InTarget a) = refl
end_same Complete = refl
end_same (Alone a) = refl

-- a list of bytes, from what is known of each element
pub bytes_from : (s : List ℕ) → ((i : ℕ) → i < length s → get_or s i 0 < 256) → Bytes s
bytes_from [] h = no_bytes
bytes_from (b ∷ s) h = one_byte (h 0 (omega arith)) (bytes_from s (λ i p. h (suc i) (omega arith)))

-- a record that is not broken takes some bytes, and no more than there are
pub read_width : (s : List ℕ) → Bytes s → is_broken (read s) ≡ false → (0 < length (record_bytes (read s))) × (length (record_bytes (read s)) ≤ length s)
read_width s h b =
    let f = read_sound s h b in
    let g = good_length (read s) [] f.good in
    let k : length s ≡ length (record_bytes (read s)) + length (drop (length (record_bytes (read s))) s)
    = ap length f.bytes ∙ length-append (record_bytes (read s)) (drop (length (record_bytes (read s))) s) in
    (omega (arith, g, length-append (record_bytes (read s)) []), omega (arith, k))

-- From an offset on, in a state: the first bad record of the table
abbrev pub Rest : List ℕ → State → ℕ → Option Refusal
Rest t s at = first_bad (length t) s.left s.parts (stage s.stage) (walk (suc s.left) at (drop at t))

-- the walk at a record, bad or not
unfoldable pub after : ℕ → ℕ → List ℕ → encode.Record → List Entry
after n at s r = cond (is_broken r) [] (walk n (at + length (record_bytes r)) (drop (length (record_bytes r)) s))

walk_at : (n at : ℕ) (s : List ℕ) → 0 < length s → walk (suc n) at s ≡ record { at = at; the = read s } ∷ after n at s (read s)
unfolding walk after
walk_at n at [] l = absurd (omega arith)
walk_at n at (b ∷ s) l = refl

-- what the code's tests make of a record
abbrev pub Judged : List ℕ → State → ℕ → encode.Record → List Entry → Option Refusal
Judged t s at r es =
    cond (eqb s.left 0 || is_part r && eqb s.parts 0) (refusal 4 at)
    (elim (step (stage s.stage) r) [
      | fault n ↦ refusal n at
      | on st' ↦ first_bad (length t) (s.left - 1) (cond (is_part r) (s.parts - 1) s.parts) st' es
    ])

rest_at : (t : List ℕ) (s : State) (at : ℕ) → at < length t → Rest t s at ≡ Judged t s at (read (drop at t)) (after s.left at (drop at t) (read (drop at t)))
unfolding first_bad
rest_at t s at l = rw (walk_at s.left at (drop at t) (omega (arith, length-drop at t)))

go_halt : {A : Type 0} {n : ℕ} {s : State} → ◌≡◌ {A = Result State ℕ} (Err n) (Ok s) → A
go_halt e = absurd (let z : ◌≡◌ {A = ℕ} 0 1 = cc in omega arith)

halt_number : {n m : ℕ} → ◌≡◌ {A = Result State ℕ} (Err n) (Err m) → n ≡ m
halt_number e = cc

go_state : {s s' : State} → ◌≡◌ {A = Result State ℕ} (Ok s) (Ok s') → s ≡ s'
go_state e = cc

-- the record read is that of the specification
module _ (t : List ℕ) (s : State) (at : ℕ) (cs : List ℕ) (r : Read) (x : encode.Record) (es : List Entry) (m : meaning cs r ≡ x) (w : width r ≡ length (record_bytes x)) where
  part_is : is_part_read r ≡ is_part x
  part_is = part_same cs r ∙ ap is_part m

  step_is : step_meaning (step_of s.stage r) ≡ step (stage s.stage) x
  step_is = step_same s.stage cs r (w ∙ ap (λ (y : encode.Record). length (record_bytes y)) (sym m)) ∙ ap (step (stage s.stage)) m

  -- what is judged, by the code's step
  Told : Result Stage ℕ → Option Refusal
  Told (Err n) = refusal n at
  Told (Ok st) = first_bad (length t) (s.left - 1) (cond (is_part_read r) (s.parts - 1) s.parts) (stage st) es

  told_is : (o : Result Stage ℕ) → step_meaning o ≡ step (stage s.stage) x
      → elim (step (stage s.stage) x) [
        | fault n ↦ refusal n at
        | on st' ↦ first_bad (length t) (s.left - 1) (cond (is_part x) (s.parts - 1) s.parts) st' es
      ] ≡ Told o
  unfolding Told
  told_is (Err n) e = rw (← e)
  told_is (Ok st) e = rw (← e, part_is)

  judged_is : Judged t s at x es ≡ cond (eqb s.left 0 || is_part_read r && eqb s.parts 0) (refusal 4 at) (Told (step_of s.stage r))
  judged_is = rw (part_is, ← told_is (step_of s.stage r) step_is)

  off : (n : ℕ) (b : Bool) (o : Result Stage ℕ) → cond b (Err 4) (moved s (is_part_read r) o) ≡ Err n → cond b (refusal 4 at) (Told o) ≡ refusal n at
  unfolding Told
  off n true o e = ap (λ (k : ℕ). refusal k at) (halt_number e)
  off n false (Err k) e = ap (λ (k : ℕ). refusal k at) (halt_number e)
  off n false (Ok st) e = go_halt (sym e)

  judged_off : (n : ℕ) → move_of s r ≡ Err n → Judged t s at x es ≡ refusal n at
  unfolding move_of
  judged_off n e = judged_is ∙ off n (eqb s.left 0 || is_part_read r && eqb s.parts 0) (step_of s.stage r) e

  On-to : State → Option Refusal → Type 0
  On-to s' f = (f ≡ first_bad (length t) s'.left s'.parts (stage s'.stage) es) × (s.left ≡ suc s'.left) × (is_broken x ≡ false)

  onto : (s' : State) (b : Bool) (o : Result Stage ℕ) → eqb s.left 0 || is_part_read r && eqb s.parts 0 ≡ b → step_of s.stage r ≡ o
      → cond b (Err 4) (moved s (is_part_read r) o) ≡ Ok s' → On-to s' (cond b (refusal 4 at) (Told o))
  unfolding Told On-to
  onto s' true o p q e = go_halt e
  onto s' false (Err k) p q e = go_halt e
  onto s' false (Ok st) p q e =
      let g = go_state e in
      let l : s.left - 1 ≡ s'.left = ap (λ (z : State). z.left) g in
      let z = eqb-false s.left 0 (or_left (eqb s.left 0) _ p) in (
        ap (λ (z : State). first_bad (length t) z.left z.parts (stage z.stage) es) g,
        omega (arith, l, z),
        stepped_whole (stage s.stage) (stage st) x (sym step_is ∙ ap step_meaning q),
      )

  judged_on : (s' : State) → move_of s r ≡ Ok s' → On-to s' (Judged t s at x es)
  unfolding move_of On-to
  judged_on s' e = rw judged_is (onto s' _ (step_of s.stage r) refl refl e)

  pub judged_on_is : (s' : State) → move_of s r ≡ Ok s'
      → (Judged t s at x es ≡ first_bad (length t) s'.left s'.parts (stage s'.stage) es) × (s.left ≡ suc s'.left) × (is_broken x ≡ false)
  unfolding On-to
  judged_on_is s' e = judged_on s' e

module _ (t : List ℕ) (s : State) (at : ℕ) (r : Read)
    (m : (meaning (body (drop at t)) r ≡ read (drop at t)) × (width r ≡ length (record_bytes (read (drop at t))))) (l : at < length t) where
  pub scan_off : (n : ℕ) → move_of s r ≡ Err n → Rest t s at ≡ refusal n at
  scan_off n e =
      rest_at t s at l
      ∙ judged_off t s at (body (drop at t)) r (read (drop at t)) (after s.left at (drop at t) (read (drop at t))) m.0 m.1 n e

  pub scan_on : (s' : State) → Bytes t → move_of s r ≡ Ok s' → (0 < width r) × (at + width r ≤ length t) × (Rest t s at ≡ Rest t s' (at + width r))
  unfolding after
  scan_on s' h e =
      let w = width r in
      let x = read (drop at t) in
      let j = judged_on_is t s at (body (drop at t)) r x (after s.left at (drop at t) x) m.0 m.1 s' e in
      let b = read_width (drop at t) (bytes_drop at t h) j.2 in
      let k : after s.left at (drop at t) x ≡ walk (suc s'.left) (at + w) (drop (at + w) t) =
      rw (j.2, j.1, ← m.1) (ap (walk (suc s'.left) (at + w)) (drop-drop w at t)) in (
        omega (arith, b.0, m.1),
        omega (arith, b.1, m.1, length-drop at t),
        rest_at t s at l ∙ j.0 ∙ ap (first_bad (length t) s'.left s'.parts (stage s'.stage)) k,
      )

pub scan_end : (t : List ℕ) (s : State) (at : ℕ) → length t ≤ at → Rest t s at ≡ cond (may_end_stage s.stage) none (refusal 2 (length t))
unfolding first_bad walk
scan_end t s at h = rw (drop_of_length-le t h, end_same s.stage)

pub scan_start : (t : List ℕ) (st : Stage) → fault_from st t ≡ Rest t (record { stage = st; left = most_records; parts = 64 }) 0
unfolding entries
scan_start t st = refl

-- at the end: the answer to a fault o that is judged by the rest
pub ended_well : (o : Option Refusal) (t : List ℕ) (s : State) (at : ℕ) → length t ≤ at → at ≤ length t → may_end_stage s.stage ≡ true → o ≡ Rest t s at
    → accepted at ≡ answer (unless o t)
unfolding answer unless
ended_well o t s at h k e i =
    let f : o ≡ none = i ∙ scan_end t s at h ∙ ap (λ (b : Bool). cond b none (refusal 2 (length t))) e in
    ap accepted (let z : at ≡ length t = omega arith in z) ∙ sym (ap (λ (o : Option Refusal). answer (unless o t)) f)

pub ended_early : (o : Option Refusal) (t : List ℕ) (s : State) (at : ℕ) → length t ≤ at → at ≤ length t → may_end_stage s.stage ≡ false → o ≡ Rest t s at
    → refused 2 at ≡ answer (unless o t)
unfolding answer unless
ended_early o t s at h k e i =
    let f : o ≡ refusal 2 (length t) = i ∙ scan_end t s at h ∙ ap (λ (b : Bool). cond b none (refusal 2 (length t))) e in
    ap (refused 2) (let z : at ≡ length t = omega arith in z) ∙ sym (ap (λ (o : Option Refusal). answer (unless o t)) f)
