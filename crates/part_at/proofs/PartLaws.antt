-- The walk over whole parts, and what is known of the part that it finds.
use Prim.Native.Nat.{ℕ, zero, suc, ◌+◌, ◌-◌, ◌≤◌, ◌<◌}
use mathlib.Core.Path.{◌≡◌, refl, sym, ap, ◌∙◌, subst}
use mathlib.Core.Bool.{true, false, true≢false}
use mathlib.Core.List.{List, [], ◌∷◌, ◌++◌, append_assoc, append-nil}
use native.Mathlib.Omega.{arith}
use lib.ListN.{length, take, drop, length-append, length-drop}
use lib.Seq.{take-append_seam, drop-append_seam, drop-drop, take_at}
use Rattle.xliff.specs.Bytes.{gather, two}
use Rattle.xliff.specs.Unit.{Target, no_target, target, Part}
use Rattle.xliff.specs.Encode.{Record, opening, closing, part_head, target_head, record_bytes, head_bytes, content_records, target_records, part_records, unit_records, spell, content_bytes}
use Rattle.xliff.specs.Parse.{read, is_part, unit}
use Rattle.xliff.specs.Focus.{nowhere, behind, focus}
use Rattle.xliff.proofs.lists.Tests.{gather_append}
use Rattle.places.specs.Passes.{Passes}
use Rattle.xliff.proofs.unit.Pieces.{spell_append}
use Rattle.xliff.proofs.operations.Sources.{focus_in}
use Rattle.places.specs.Offsets.{At}
use Rattle.places.proofs.Places.{at_start, at_next}
use Rattle.part_at.specs.declared.PartPlace.{PartPlace}
use Rattle.std.specs.Prelude.{Some}
use Rattle.part_at.specs.Stands.{PartOrEnd, part_next, end_next, PartFrom, TargetSpan, PartSpan, PartSpans, Slice, TargetStands, PartStands, PartFound}
use Rattle.part_at.proofs.ContentLaws.{at_past}

-- positions of parts
pub focus_zero : (ps : List Part) → focus ps 0 ≡ nowhere
unfolding focus
focus_zero [] = refl
focus_zero (p ∷ ps) = refl

pub focus_beyond : (ps : List Part) (n : ℕ) → length ps < n → focus ps n ≡ nowhere
unfolding focus behind
focus_beyond [] n h = refl
focus_beyond (p ∷ ps) zero h = refl
focus_beyond (p ∷ []) (suc zero) h = absurd (omega arith)
focus_beyond (p ∷ q ∷ ps) (suc zero) h = absurd (omega arith)
focus_beyond (p ∷ ps) (suc (suc n)) h = ap (behind p) (focus_beyond ps (suc n) (omega arith))

-- bytes from an offset on
pub slice_at : (t : List ℕ) (from to : ℕ) (x y : List ℕ) → drop from t ≡ x ++ y → from ≤ length t
    → to ≡ from + length x → Slice t from to x
slice_at t from to x y d l e =
    let k : length (x ++ y) ≡ length t - from = ap length (sym d) ∙ length-drop from t in
    let z : to - from ≡ length x = omega (arith, e) in
    record {
      ordered = omega (arith, e);
      within = omega (arith, e, k, length-append x y);
      is = ap (λ (n : ℕ). take n (drop from t)) z ∙ ap (take (length x)) d ∙ take-append_seam x y;
    }

drop_past : (t : List ℕ) (from to : ℕ) (x y : List ℕ) → drop from t ≡ x ++ y → to ≡ from + length x → drop to t ≡ y
drop_past t from to x y d e =
    ap (λ (n : ℕ). drop n t) e ∙ sym (drop-drop (length x) from t) ∙ ap (drop (length x)) d ∙ drop-append_seam x y

begins_parts : (ps : List Part) → PartOrEnd (gather part_records ps ++ (closing ∷ []))
unfolding gather part_records
begins_parts [] = end_next
begins_parts (p ∷ ps) = part_next

span_end : (at : ℕ) (p : Part) (place : PartPlace) → PartSpan at p place
    → place.end ≡ at + length (spell (part_records p))
unfolding part_records spell gather record_bytes content_bytes
span_end at p place s =
    omega (
      arith,
      s.source,
      s.target,
      s.rest.ends,
      ap length (spell_append (content_records p.source) (target_records p.target)),
      length-append (head_bytes p.head) (spell (content_records p.source ++ target_records p.target)),
      length-append (spell (content_records p.source)) (spell (target_records p.target)),
    )

-- all bytes, by the parts before and behind
table_is : (t : List ℕ) → Passes t → (b : List Part) (p : Part) (a : List Part) → (unit t).parts ≡ b ++ (p ∷ a)
    → t ≡ record_bytes (opening (unit t).opening) ++ spell (gather part_records b)
    ++ spell (part_records p ++ (gather part_records a ++ (closing ∷ [])))
unfolding unit_records spell gather
table_is t h b p a e =
    sym h.bytes
    ∙ ap (λ (ps : List Part). record_bytes (opening (unit t).opening) ++ spell
    (gather part_records ps ++ (closing ∷ []))) e
    ∙ ap (λ (rs : List Record). record_bytes (opening (unit t).opening) ++ spell rs)
    (ap (λ (rs : List Record). rs ++ (closing ∷ [])) (gather_append part_records b (p ∷ a))
    ∙ append_assoc (gather part_records b) (part_records p ++ gather part_records a) (closing ∷ [])
    ∙ ap (λ (rs : List Record). gather part_records b ++ rs)
    (append_assoc (part_records p) (gather part_records a) (closing ∷ [])))
    ∙ ap (λ (s : List ℕ). record_bytes (opening (unit t).opening) ++ s)
    (spell_append (gather part_records b) (part_records p ++ (gather part_records a ++ (closing ∷ []))))
    ∙ sym (append_assoc (record_bytes (opening (unit t).opening)) (spell (gather part_records b))
    (spell (part_records p ++ (gather part_records a ++ (closing ∷ [])))))

-- the bytes of a part, piece by piece
rest_is : (a : List Part)
    → spell (gather part_records a ++ (closing ∷ [])) ≡ spell (gather part_records a) ++ record_bytes closing
unfolding spell gather record_bytes
rest_is a = spell_append (gather part_records a) (closing ∷ [])

part_is : (p : Part)
    → spell (part_records p) ≡ head_bytes p.head ++ (content_bytes p.source ++ spell (target_records p.target))
unfolding part_records spell gather record_bytes content_bytes
part_is p =
    ap (λ (s : List ℕ). head_bytes p.head ++ s)
    (spell_append (content_records p.source) (target_records p.target))

target_stands : (t : List ℕ) (g : Target) (place : PartPlace) (rest : List ℕ) → TargetSpan place.target g place
    → place.target ≤ length t
    → drop place.target t ≡ spell (target_records g) ++ rest → TargetStands t place g
unfolding target_records spell gather record_bytes content_bytes two
target_stands t no_target place rest s l d = (s.order, omega (arith, s.ends))
target_stands t (target q xs) place rest s l d =
    let e : drop place.target t ≡ record_bytes (target_head q) ++ (spell (content_records xs) ++ rest)
    = d ∙ append_assoc (record_bytes (target_head q)) (spell (content_records xs)) rest in
    let u = slice_at t place.target (place.target + 4) (record_bytes (target_head q))
    (spell (content_records xs) ++ rest) e l refl in (
      s.order,
      u,
      slice_at t (place.target + 4) place.end (spell (content_records xs)) rest
          (drop_past t place.target (place.target + 4) (record_bytes (target_head q))
          (spell (content_records xs) ++ rest) e refl) u.within
          (omega (arith, s.ends)),
    )

module _ (t : List ℕ) (h : Passes t) (b : List Part) (p : Part) (a : List Part) (place : PartPlace)
    (all : (unit t).parts ≡ b ++ (p ∷ a)) (offset : place.head ≡ 3 + length (spell (gather part_records b)))
    (there : At t place.head (part_records p ++ (gather part_records a ++ (closing ∷ []))))
    (span : PartSpan place.head p place) where
  abbrev Last : List ℕ
  Last = spell (gather part_records a) ++ record_bytes closing

  from_head : drop place.head t ≡ spell (part_records p) ++ Last
  from_head = sym there.rest ∙ spell_append (part_records p) (gather part_records a ++ (closing ∷ []))
      ∙ ap (λ (s : List ℕ). spell (part_records p) ++ s) (rest_is a)

  from_pieces : drop place.head t ≡ head_bytes p.head
      ++ (content_bytes p.source ++ (spell (target_records p.target) ++ Last))
  from_pieces =
      from_head ∙ ap (λ (s : List ℕ). s ++ Last) (part_is p)
      ∙ append_assoc (head_bytes p.head) (content_bytes p.source ++ spell (target_records p.target)) Last
      ∙ ap (λ (s : List ℕ). head_bytes p.head ++ s)
      (append_assoc (content_bytes p.source) (spell (target_records p.target)) Last)

  head_slice : Slice t place.head place.source (head_bytes p.head)
  head_slice =
      slice_at t place.head place.source (head_bytes p.head) _ from_pieces there.within span.source

  from_source : drop place.source t ≡ content_bytes p.source ++ (spell (target_records p.target) ++ Last)
  from_source = drop_past t place.head place.source (head_bytes p.head) _ from_pieces span.source

  source_slice : Slice t place.source place.target (content_bytes p.source)
  source_slice =
      slice_at t place.source place.target (content_bytes p.source) _ from_source head_slice.within
      span.target

  from_target : drop place.target t ≡ spell (target_records p.target) ++ Last
  from_target = drop_past t place.source place.target (content_bytes p.source) _ from_source span.target

  front : take place.head t ≡ record_bytes (opening (unit t).opening) ++ spell (gather part_records b)
  unfolding record_bytes
  front =
      let x = record_bytes (opening (unit t).opening) ++ spell (gather part_records b) in
      ap (take place.head) (table_is t h b p a all)
      ∙ take_at x (spell (part_records p ++ (gather part_records a ++ (closing ∷ [])))) place.head
      (omega (arith, offset))

  pub stands : PartStands t b p a place
  stands =
      record {
        all = all;
        offset = offset;
        before = front;
        head = head_slice;
        source = source_slice;
        target = target_stands t p.target place Last span.rest source_slice.within from_target;
        kind = span.kind;
        whole = slice_at t place.head place.end (spell (part_records p)) Last from_head there.within
            (span_end place.head p place span);
        behind = drop_past t place.head place.end (spell (part_records p)) Last from_head
            (span_end place.head p place span);
        records = there;
      }

-- the walk over whole parts: those behind it and ahead of it
pub record Walked (t : List ℕ) (at : ℕ) (behind ahead : List Part) : Type 0 where
  pub all : (unit t).parts ≡ behind ++ ahead
  pub offset : at ≡ 3 + length (spell (gather part_records behind))
  pub there : At t at (gather part_records ahead ++ (closing ∷ []))

pub walked_start : (t : List ℕ) → Passes t → Walked t 3 [] (unit t).parts
unfolding unit_records spell gather record_bytes
walked_start t h =
    record {
      all = refl;
      offset = refl;
      there = (at_next t 0 (opening (unit t).opening) (gather part_records (unit t).parts ++ (closing ∷ []))
          (at_start t h)).then;
    }

module _ (t : List ℕ) (h : Passes t) (at : ℕ) (behind ahead : List Part) (s : Walked t at behind ahead) where
  some_by : (ps : List Part) → At t at (gather part_records ps ++ (closing ∷ [])) → is_part (read (drop at t)) ≡ true
      → (p : Part) × (a : List Part) × (ps ≡ p ∷ a)
  unfolding gather is_part
  some_by [] a e = absurd (true≢false (sym e ∙ ap is_part (at_next t at closing [] a).reads))
  some_by (p ∷ ps) a e = (p, ps, refl)

  none_by : (ps : List Part) → At t at (gather part_records ps ++ (closing ∷ [])) → is_part (read (drop at t)) ≡ false
      → ps ≡ []
  unfolding gather is_part part_records
  none_by [] a e = refl
  none_by (p ∷ ps) a e =
      absurd (true≢false
      (sym (ap is_part
      (at_next t at (part_head p.head)
      (content_records p.source ++ target_records p.target ++ gather part_records ps ++ (closing ∷ [])) a
      ).reads) ∙ e))

  -- no part is ahead: these were all
  pub walked_all : is_part (read (drop at t)) ≡ false → (unit t).parts ≡ behind
  walked_all e =
      s.all ∙ ap (λ (l : List Part). behind ++ l) (none_by ahead s.there e) ∙ append-nil behind

  module _ (e : is_part (read (drop at t)) ≡ true) where
    pub next_part : (p : Part) × (a : List Part) × (ahead ≡ p ∷ a)
    next_part = some_by ahead s.there e

    next_there : At t at (part_records next_part.0 ++ (gather part_records next_part.1 ++ (closing ∷ [])))
    unfolding gather
    next_there =
        subst (At t at) (append_assoc (part_records next_part.0) (gather part_records next_part.1) (closing ∷ []))
        (subst (λ (ps : List Part). At t at (gather part_records ps ++ (closing ∷ []))) next_part.2 s.there)

    pub next_all : (unit t).parts ≡ behind ++ (next_part.0 ∷ next_part.1)
    next_all = s.all ∙ ap (λ (l : List Part). behind ++ l) next_part.2

    pub walked_part : PartFrom t at
    walked_part =
        (next_part.0, gather part_records next_part.1 ++ (closing ∷ []), next_there, begins_parts next_part.1)

    module _ (place : PartPlace) (spans : PartSpans t at place) where
      span : PartSpan at next_part.0 place
      span = spans next_part.0 (gather part_records next_part.1 ++ (closing ∷ [])) next_there
          (begins_parts next_part.1)

      pub walked_on : Walked t place.end (behind ++ (next_part.0 ∷ [])) next_part.1
      unfolding spell gather
      walked_on =
          let p = next_part.0 in
          let q = span_end at p place span in
          let g : spell (gather part_records (behind ++ (p ∷ []))) ≡ spell (gather part_records behind)
          ++ spell (part_records p) =
          ap spell (gather_append part_records behind (p ∷ [])
          ∙ ap (λ (rs : List Record). gather part_records behind ++ rs) (append-nil (part_records p)))
          ∙ spell_append (gather part_records behind) (part_records p) in
          record {
            all = next_all ∙ sym (append_assoc behind (p ∷ []) next_part.1);
            offset = omega (
              arith,
              q,
              s.offset,
              ap (λ (x : List ℕ). length x) g,
              length-append (spell (gather part_records behind)) (spell (part_records p)),
            );
            there = subst (λ (k : ℕ). At t k (gather part_records next_part.1 ++ (closing ∷ []))) (sym q)
                (at_past t at (part_records p) (gather part_records next_part.1 ++ (closing ∷ [])) next_there);
          }

      pub walked_stands : PartStands t behind next_part.0 next_part.1 place
      walked_stands =
          let p = next_part.0 in
          let a = next_part.1 in
          let z = sym span.head in
          stands t h behind p a place next_all (span.head ∙ s.offset)
          (subst (λ (o : ℕ). At t o (part_records p ++ (gather part_records a ++ (closing ∷ [])))) z next_there)
          (subst (λ (o : ℕ). PartSpan o p place) z span)

-- on the way, before the part of this number
pub record Reached (t : List ℕ) (number at : ℕ) : Type 0 where
  pub behind : List Part
  pub ahead : List Part
  pub walked : Walked t at behind ahead
  pub count : number ≡ suc (length behind)

pub reached_start : (t : List ℕ) → Passes t → Reached t 1 3
reached_start t h = record { behind = []; ahead = (unit t).parts; walked = walked_start t h; count = refl }

module _ (t : List ℕ) (h : Passes t) (number at : ℕ) (s : Reached t number at) where
  pub reached_missing : is_part (read (drop at t)) ≡ false → (n : ℕ) → number ≤ n → focus (unit t).parts n ≡ nowhere
  reached_missing e n l =
      let k = walked_all t h at s.behind s.ahead s.walked e in
      focus_beyond (unit t).parts n (omega (arith, ap (λ (l : List Part). length l) k, s.count))

  module _ (e : is_part (read (drop at t)) ≡ true) where
    pub reached_part : PartFrom t at
    reached_part = walked_part t h at s.behind s.ahead s.walked e

    module _ (place : PartPlace) (spans : PartSpans t at place) where
      pub reached_on : Reached t (number + 1) place.end
      reached_on =
          let (p, a, q) = next_part t h at s.behind s.ahead s.walked e in
          record {
            behind = s.behind ++ (p ∷ []);
            ahead = a;
            walked = walked_on t h at s.behind s.ahead s.walked e place spans;
            count = omega (arith, s.count, length-append s.behind (p ∷ []));
          }

      pub reached_found : (n : ℕ) → n ≡ number → PartFound t (focus (unit t).parts n) (Some place)
      reached_found n is =
          let (p, a, q) = next_part t h at s.behind s.ahead s.walked e in
          let k : n ≡ suc (length s.behind) = omega (arith, s.count, is) in (
            s.behind,
            p,
            a,
            ap (λ (m : ℕ). focus (unit t).parts m) k
                ∙ ap (λ (ps : List Part). focus ps (suc (length s.behind)))
                (next_all t h at s.behind s.ahead s.walked e)
                ∙ focus_in s.behind p a,
            walked_stands t h at s.behind s.ahead s.walked e place spans,
          )
