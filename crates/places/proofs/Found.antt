-- What a walk over the records finds, part by part: orders for rule 5, ids for rule 6, and the markers of the two sequences.
use Prim.Native.Nat.{ℕ, ◌+◌}
use mathlib.Core.Path.{◌≡◌, refl, sym, ap, ap₂, ◌∙◌}
use mathlib.Core.Bool.{Bool, true, false, not, ◌&&◌, cond}
use mathlib.Core.List.{List, [], ◌∷◌, ◌++◌, append_assoc, append-nil}
use native.Mathlib.Omega.{arith}
use lib.ListN.{length, length-append}
use lib.Dec.{eqb}
use Rattle.xliff.specs.Bytes.{gather, two}
use Rattle.xliff.specs.Answer.{refusal}
use Rattle.xliff.specs.Item.{Content, text}
use Rattle.xliff.specs.Unit.{Head, Target, no_target, target, Part, XliffUnit}
use Rattle.xliff.specs.Encode.{Record, closing, part_head, target_head, text_run, inline, record_bytes, head_bytes, content_records, target_records, part_records, unit_records, spell, content_bytes}
use Rattle.xliff.specs.Sequences.{Placed, placed_from, Located, located, located_from, part_size, source_at, order_at, target_at, placed_source, placed_target, placed_source_sequence, placed_of_order}
use Rattle.xliff.specs.Rules.{bad_order, first_bad_order, fault_5, of_source, of_target, Named, start_name, part_name, names, first_clash, fault_6}
use Rattle.xliff.proofs.lists.Tests.{gather_append}
use Rattle.xliff.proofs.records.Parse.{placed}
use Rattle.xliff.proofs.unit.Pieces.{spell_append}
use Rattle.places.specs.Offsets.{Inner, no_inner, text_inner, inline_inner}
use Rattle.places.proofs.Places.{of_entry, content_found, content_inner}
use Rattle.places.specs.Found.{state_after, found_at, found, Ordered, orders_found, first_bad_in, head_name, no_name, names_found, marker, no_marker, marks_found, markers}

-- the sizes of a part
module _ (p : Part) where
  part_length : part_size p ≡ length (head_bytes p.head) + length (content_bytes p.source) + length (spell (target_records p.target))
  unfolding part_size part_records spell gather record_bytes content_bytes
  part_length =
      omega (
        arith,
        length-append (head_bytes p.head) (spell (content_records p.source ++ target_records p.target)),
        ap length (spell_append (content_records p.source) (target_records p.target)),
        length-append (spell (content_records p.source)) (spell (target_records p.target)),
      )

target_length : (q : ℕ) (xs : Content) → length (spell (target_records (target q xs))) ≡ 4 + length (content_bytes xs)
unfolding target_records spell gather record_bytes content_bytes two
target_length q xs = omega (arith, length-append (record_bytes (target_head q)) (spell (content_records xs)))

no_target_length : length (spell (target_records no_target)) ≡ 0
unfolding target_records spell gather
no_target_length = refl

-- The walk with a state that heads set
module _ {S B : Type 0} (part_state : S) (target_state : ℕ → S) (on_head : Head → ℕ → List B) (on_target : ℕ → ℕ → List B) (on_item : S → Placed → List B)
    (no_text : (s : S) (c at : ℕ) → on_item s (record { item = text c; at = at }) ≡ []) where
  abbrev walk : S → ℕ → List Record → List B
  walk s at rs = found part_state target_state on_head on_target on_item no_text s at rs

  found_inner : (s : S) (at : ℕ) {rs : List Record} → Inner rs → (qs : List Record)
      → walk s at (rs ++ qs) ≡ gather (of_entry (on_item s) (no_text s)) (placed at rs) ++ walk s (at + length (spell rs)) qs
  unfolding found found_at state_after placed gather spell of_entry
  found_inner s at no_inner qs = ap (λ (k : ℕ). walk s k qs) (omega arith)
  found_inner s at (text_inner {cs} {rs} h) qs =
      found_inner s (at + length (record_bytes (text_run cs))) h qs
      ∙ ap (λ (k : ℕ). gather (of_entry (on_item s) (no_text s)) (placed (at + length (record_bytes (text_run cs))) rs) ++ walk s k qs)
      (let z : at + length (record_bytes (text_run cs)) + length (spell rs) ≡ at + length (record_bytes (text_run cs) ++ spell rs)
      = omega (arith, length-append (record_bytes (text_run cs)) (spell rs)) in z)
  found_inner s at (inline_inner {x} {rs} h) qs =
      ap (λ (l : List B). on_item s (record { item = x; at = at }) ++ l)
      (found_inner s (at + length (record_bytes (inline x))) h qs
      ∙ ap (λ (k : ℕ). gather (of_entry (on_item s) (no_text s)) (placed (at + length (record_bytes (inline x))) rs) ++ walk s k qs)
      (let z : at + length (record_bytes (inline x)) + length (spell rs) ≡ at + length (record_bytes (inline x) ++ spell rs) = omega (arith, length-append (record_bytes (inline x)) (spell rs)) in z))
      ∙ sym (append_assoc (on_item s (record { item = x; at = at }))
      (gather (of_entry (on_item s) (no_text s)) (placed (at + length (record_bytes (inline x))) rs))
      (walk s (at + length (record_bytes (inline x) ++ spell rs)) qs))

  -- over a content
  found_content : (s : S) (at : ℕ) (xs : Content) (qs : List Record)
      → walk s at (content_records xs ++ qs) ≡ gather (on_item s) (placed_from at [] xs) ++ walk s (at + length (content_bytes xs)) qs
  unfolding content_bytes
  found_content s at xs qs =
      found_inner s at (content_inner xs) qs
      ∙ ap (λ (l : List B). l ++ walk s (at + length (spell (content_records xs))) qs) (content_found (on_item s) (no_text s) at xs)

  unfoldable pub target_gathered : ℕ → Target → List B
  target_gathered at no_target = []
  target_gathered at (target q xs) = on_target q at ++ gather (on_item (target_state q)) (placed_from (at + 4) [] xs)

  unfoldable pub from_part : Located → List B
  from_part l = on_head l.part.head l.at ++ (gather (on_item part_state) (placed_source l) ++ target_gathered (order_at l) l.part.target)

  -- what is found from some records on does not depend on the state, as before a part and before the end
  Anew : List Record → Type 0
  Anew qs = (s s' : S) (at : ℕ) → walk s at qs ≡ walk s' at qs

  found_target : (s : S) (at q : ℕ) (qs : List Record) → walk s at (target_head q ∷ qs) ≡ on_target q at ++ walk (target_state q) (at + 4) qs
  unfolding found found_at state_after record_bytes two
  found_target s at q qs = refl

  found_in_target : (at : ℕ) (g : Target) (qs : List Record) → Anew qs
      → walk part_state at (target_records g ++ qs) ≡ target_gathered at g ++ walk part_state (at + length (spell (target_records g))) qs
  unfolding target_records target_gathered Anew
  found_in_target at no_target qs a = ap (λ (k : ℕ). walk part_state k qs) (let z : at ≡ at + length (spell (target_records no_target)) = omega (arith, no_target_length) in z)
  found_in_target at (target q xs) qs a =
      found_target part_state at q (content_records xs ++ qs)
      ∙ ap (λ (l : List B). on_target q at ++ l)
      (found_content (target_state q) (at + 4) xs qs
      ∙ ap (λ (l : List B). gather (on_item (target_state q)) (placed_from (at + 4) [] xs) ++ l)
      (a (target_state q) part_state (at + 4 + length (content_bytes xs))
      ∙ ap (λ (k : ℕ). walk part_state k qs) (let z : at + 4 + length (content_bytes xs) ≡ at + length (spell (target_records (target q xs))) = omega (arith, target_length q xs) in z)))
      ∙ sym (append_assoc (on_target q at) (gather (on_item (target_state q)) (placed_from (at + 4) [] xs)) (walk part_state (at + length (spell (target_records (target q xs)))) qs))

  found_head : (s : S) (at : ℕ) (h : Head) (qs : List Record) → walk s at (part_head h ∷ qs) ≡ on_head h at ++ walk part_state (at + length (head_bytes h)) qs
  unfolding found found_at state_after record_bytes
  found_head s at h qs = refl

  found_part : (s : S) (at : ℕ) (p : Part) (qs : List Record) → Anew qs
      → walk s at (part_records p ++ qs) ≡ from_part (record { part = p; at = at }) ++ walk part_state (at + part_size p) qs
  unfolding part_records from_part placed_source source_at order_at target_at
  found_part s at p qs a =
      let at1 = at + length (head_bytes p.head) in
      let at2 = at1 + length (content_bytes p.source) in
      let C = gather (on_item part_state) (placed_from at1 [] p.source) in
      let G = target_gathered at2 p.target in
      let F = walk part_state (at + part_size p) qs in
      found_head s at p.head (content_records p.source ++ target_records p.target ++ qs)
      ∙ ap (λ (l : List B). on_head p.head at ++ l)
      (ap (walk part_state at1) (append_assoc (content_records p.source) (target_records p.target) qs)
      ∙ found_content part_state at1 p.source (target_records p.target ++ qs)
      ∙ ap (λ (l : List B). C ++ l)
      (found_in_target at2 p.target qs a
      ∙ ap (λ (k : ℕ). G ++ walk part_state k qs) (let z : at2 + length (spell (target_records p.target)) ≡ at + part_size p = omega (arith, part_length p) in z))
      ∙ sym (append_assoc C G F))
      ∙ sym (append_assoc (on_head p.head at) (C ++ G) F)

  anew : (ps : List Part) → Anew (gather part_records ps ++ (closing ∷ []))
  unfolding Anew gather part_records found found_at state_after
  anew [] s s' at = refl
  anew (p ∷ ps) s s' at = refl

  found_last : (s : S) (at : ℕ) → walk s at (closing ∷ []) ≡ []
  unfolding found found_at
  found_last s at = refl

  -- over the parts
  pub found_parts : (s : S) (at : ℕ) (ps : List Part) → walk s at (gather part_records ps ++ (closing ∷ [])) ≡ gather from_part (located_from at ps)
  unfolding gather located_from
  found_parts s at [] = found_last s at
  found_parts s at (p ∷ ps) =
      ap (walk s at) (append_assoc (part_records p) (gather part_records ps) (closing ∷ []))
      ∙ found_part s at p (gather part_records ps ++ (closing ∷ [])) (anew ps)
      ∙ ap (λ (l : List B). from_part (record { part = p; at = at }) ++ l) (found_parts part_state (at + part_size p) ps)

  -- over the unit
  pub found_unit : (s : S) (u : XliffUnit) → walk s 0 (unit_records u) ≡ gather from_part (located u.parts)
  unfolding unit_records located found found_at state_after record_bytes
  found_unit s u = found_parts s 3 u.parts

module _ {A B : Type 0} where
  pub gather_same : (f g : A → List B) → ((x : A) → f x ≡ g x) → (xs : List A) → gather f xs ≡ gather g xs
  unfolding gather
  gather_same f g e [] = refl
  gather_same f g e (x ∷ xs) = ap₂ ◌++◌ (e x) (gather_same f g e xs)

  pub gather_none : (xs : List A) → gather {B = B} (λ (x : A). []) xs ≡ []
  unfolding gather
  gather_none [] = refl
  gather_none (x ∷ xs) = gather_none xs

abbrev one_order : ℕ → ℕ → List Ordered
one_order q at = record { order = q; at = at } ∷ []

unfoldable order_of_target : ℕ → Target → List Ordered
order_of_target at no_target = []
order_of_target at (target q xs) = record { order = q; at = at } ∷ []

target_order_is : (at : ℕ) (g : Target) → target_gathered {S = Unit {0}} tt (λ q. tt) (λ h at. []) one_order (λ s p. []) (λ s c at. refl) at g ≡ order_of_target at g
unfolding target_gathered order_of_target
target_order_is at no_target = refl
target_order_is at (target q xs) = ap {B = List Ordered} (λ l. record { order = q; at = at } ∷ l) (gather_none (placed_from (at + 4) [] xs))

part_order_is : (l : Located) → from_part {S = Unit {0}} tt (λ q. tt) (λ h at. []) one_order (λ s p. []) (λ s c at. refl) l ≡ order_of_target (order_at l) l.part.target
unfolding from_part
part_order_is l = ap₂ ◌++◌ (gather_none (placed_source l)) (target_order_is (order_at l) l.part.target)

bad_order_is : (n : ℕ) (used : List ℕ) (ls : List Located) → first_bad_in n used (gather (λ l. order_of_target (order_at l) l.part.target) ls) ≡ first_bad_order n used ls
unfolding gather first_bad_in first_bad_order order_of_target
bad_order_is n used [] = refl
bad_order_is n used (l ∷ ls) = by (λ us. bad_order_is n us ls) l.part.target refl
  where
    by : ((us : List ℕ) → first_bad_in n us (gather (λ l. order_of_target (order_at l) l.part.target) ls) ≡ first_bad_order n us ls)
        → (g : Target) → l.part.target ≡ g
        → first_bad_in n used (order_of_target (order_at l) g ++ gather (λ l. order_of_target (order_at l) l.part.target) ls)
        ≡ elim g [ no_target ↦ first_bad_order n used ls | target q xs ↦ cond (bad_order n used q) (refusal 5 (order_at l)) (first_bad_order n (q ∷ used) ls) ]
    by ih no_target e = ih used
    by ih (target q xs) e = (ap (cond (bad_order n used q) (refusal 5 (order_at l))) (ih (q ∷ used)))

-- rule 5 by the orders that a walk over the records finds
pub rule_5_found : (u : XliffUnit) → fault_5 u.parts ≡ first_bad_in (length u.parts) [] (orders_found 0 (unit_records u))
unfolding fault_5
rule_5_found u =
    sym (bad_order_is (length u.parts) [] (located u.parts))
    ∙ ap (first_bad_in (length u.parts) [])
    (sym (gather_same _ _ part_order_is (located u.parts))
    ∙ sym (found_unit {S = Unit {0}} tt (λ q. tt) (λ h at. []) one_order (λ s p. []) (λ s c at. refl) tt u))

target_names : (at : ℕ) (g : Target) → target_gathered of_source (λ q. of_target) head_name (λ q at. []) start_name no_name at g ≡ gather (start_name of_target) (placed_target (at + 4) g)
unfolding target_gathered placed_target gather
target_names at no_target = refl
target_names at (target q xs) = refl

part_names : (l : Located) → from_part of_source (λ q. of_target) head_name (λ q at. []) start_name no_name l ≡ names l
unfolding from_part names part_name target_at
part_names l =
    ap (λ (k : List Named). head_name l.part.head l.at ++ (gather (start_name of_source) (placed_source l) ++ k)) (target_names (order_at l) l.part.target)
    ∙ sym (append_assoc (head_name l.part.head l.at) (gather (start_name of_source) (placed_source l)) (gather (start_name of_target) (placed_target (order_at l + 4) l.part.target)))

pub rule_6_found : (u : XliffUnit) → fault_6 u.parts ≡ first_clash [] (names_found of_source 0 (unit_records u))
unfolding fault_6
rule_6_found u =
    ap (first_clash [])
    (sym (gather_same _ _ part_names (located u.parts)) ∙ sym (found_unit of_source (λ q. of_target) head_name (λ q at. []) start_name no_name of_source u))

no_markers : (ps : List Placed) → gather (marker false) ps ≡ []
unfolding gather marker
no_markers [] = refl
no_markers (p ∷ ps) = no_markers ps

gather_gather : {A B C : Type 0} (f : A → List B) (g : B → List C) (xs : List A) → gather g (gather f xs) ≡ gather (λ x. gather g (f x)) xs
unfolding gather
gather_gather f g [] = refl
gather_gather {C} f g (x ∷ xs) = gather_append g (f x) (gather f xs) ∙ ap (λ (l : List C). gather g (f x) ++ l) (gather_gather f g xs)

target_no_marks : (at : ℕ) (g : Target) → target_gathered true (λ k. not true && eqb 0 k) (λ h at. []) (λ k at. []) marker no_marker at g ≡ []
unfolding target_gathered
target_no_marks at no_target = refl
target_no_marks at (target q xs) = no_markers (placed_from (at + 4) [] xs)

part_source : (l : Located) → from_part true (λ k. not true && eqb 0 k) (λ h at. []) (λ k at. []) marker no_marker l ≡ gather (marker true) (placed_source l)
unfolding from_part
part_source l =
    ap (λ (k : List Placed). gather (marker true) (placed_source l) ++ k) (target_no_marks (order_at l) l.part.target) ∙ append-nil (gather (marker true) (placed_source l))

pub source_marks : (inside : Bool) (u : XliffUnit) → marks_found true 0 inside 0 (unit_records u) ≡ markers (placed_source_sequence (located u.parts))
unfolding markers placed_source_sequence
source_marks inside u =
    found_unit true (λ k. not true && eqb 0 k) (λ h at. []) (λ k at. []) marker no_marker inside u
    ∙ gather_same _ _ part_source (located u.parts) ∙ sym (gather_gather placed_source (marker true) (located u.parts))

cond_marks : (b : Bool) (ps : List Placed) → gather (marker b) ps ≡ gather (marker true) (cond b ps [])
unfolding gather
cond_marks true ps = refl
cond_marks false ps = no_markers ps

target_marks : (q at : ℕ) (g : Target) → target_gathered false (λ k. not false && eqb q k) (λ h at. []) (λ k at. []) marker no_marker at g ≡ gather (marker true) (placed_of_order q (at + 4) g)
unfolding target_gathered placed_of_order gather
target_marks q at no_target = refl
target_marks q at (target k xs) = cond_marks (eqb q k) (placed_from (at + 4) [] xs)

part_target : (q : ℕ) (l : Located)
    → from_part false (λ k. not false && eqb q k) (λ h at. []) (λ k at. []) marker no_marker l ≡ gather (marker true) (placed_of_order q (target_at l) l.part.target)
unfolding from_part target_at
part_target q l =
    ap (λ (k : List Placed). k ++ target_gathered false (λ k. not false && eqb q k) (λ h at. []) (λ k at. []) marker no_marker (order_at l) l.part.target) (no_markers (placed_source l))
    ∙ target_marks q (order_at l) l.part.target

pub order_marks : (q : ℕ) (inside : Bool) (u : XliffUnit)
    → marks_found false q inside 0 (unit_records u) ≡ markers (gather (λ l. placed_of_order q (target_at l) l.part.target) (located u.parts))
unfolding markers
order_marks q inside u =
    found_unit false (λ k. not false && eqb q k) (λ h at. []) (λ k at. []) marker no_marker inside u
    ∙ gather_same _ _ (part_target q) (located u.parts) ∙ sym (gather_gather (λ l. placed_of_order q (target_at l) l.part.target) (marker true) (located u.parts))
