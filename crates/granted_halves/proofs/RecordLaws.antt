-- The halves of an id as a walk over the records of a unit meets them: those of its parts' contents on the side.
use Prim.Native.Nat.{ℕ, suc}
use mathlib.Core.Path.{◌≡◌, refl, sym, ap, ◌∙◌}
use mathlib.Core.Bool.{Bool, true, false, not, ◌&&◌, ◌||◌, cond}
use mathlib.Core.List.{List, [], ◌∷◌, ◌++◌, append_assoc}
use lib.Dec.{eqb}
use Rattle.xliff.specs.Bytes.{'S', any, gather}
use Rattle.xliff.specs.Item.{Item, Content, text, character, standalone, isolated, pair, annotation_start, annotation_end, half}
use Rattle.xliff.specs.Unit.{Opening, Head, Target, no_target, target, Part, XliffUnit, target_items}
use Rattle.xliff.specs.Encode.{Record, opening, closing, part_head, target_head, text_run, inline, ill_text, broken, text_before, item_before, content_records, target_records, part_records, unit_records}
use Rattle.xliff.specs.Parse.{is_part}
use Rattle.xliff.specs.Rules.{half_of_id}
use Rattle.xliff.specs.Rewrite.{side_content}
use Rattle.places.specs.Markers.{item_in}
use Rattle.rewrite_marks.specs.Rewritten.{inside_after}
use Rattle.grants.specs.Grant.{Grant, within, halves_within}

-- halves on the side, or none, in a part that is granted or not
abbrev pub right : Bool → Bool → Bool
right halves granted = not halves || granted

-- the halves of the id on the side, in these records, stand in granted parts; the walk stands in the part n, and may
-- stand inside a content of the side
unfoldable pub all_within : Grant → Bool → ℕ → ℕ → Bool → List Record → Bool
all_within g source i n inside [] = true
all_within g source i n inside (r ∷ rs) =
    right (inside && half_of_id i (item_in r)) (within g n)
    && all_within g source i (cond (is_part r) (suc n) n) (inside_after source inside r) rs

-- a record that is no half
none_here : (inside w x : Bool) → right (inside && false) w && x ≡ x
none_here true w x = refl
none_here false w x = refl

-- halves here and behind
both : (inside a b w x : Bool)
    → right (inside && a) w && (right (inside && b) w && x) ≡ right (inside && (a || b)) w && x
both false a b w x = refl
both true true true true x = refl
both true true false true x = refl
both true false true true x = refl
both true false false true x = refl
both true true true false x = refl
both true true false false x = refl
both true false true false x = refl
both true false false false x = refl

-- a source and a target: the side's content
one_side : (source a b w x : Bool)
    → right (source && a) w && (right (not source && b) w && x) ≡ right (cond source a b) w && x
one_side true a b w x = refl
one_side false a b w x = refl

module _ (g : Grant) (source : Bool) (i : ℕ) where
  abbrev from : ℕ → Bool → List Record → Bool
  from n inside rs = all_within g source i n inside rs

  module _ (n : ℕ) (inside : Bool) (qs : List Record) where
    -- a text more is no half
    text_more : (c : ℕ) (rs : List Record) → from n inside (text_before c rs ++ qs) ≡ from n inside (rs ++ qs)
    unfolding all_within text_before item_in is_part inside_after half_of_id half
    text_more c [] = none_here inside (within g n) _
    text_more c (opening d ∷ rs) = none_here inside (within g n) _
    text_more c (closing ∷ rs) = none_here inside (within g n) _
    text_more c (part_head h ∷ rs) = none_here inside (within g n) _
    text_more c (target_head q ∷ rs) = none_here inside (within g n) _
    text_more c (text_run cs ∷ rs) = refl
    text_more c (inline x ∷ rs) = none_here inside (within g n) _
    text_more c (ill_text ∷ rs) = none_here inside (within g n) _
    text_more c (broken b ∷ rs) = none_here inside (within g n) _

    module _ (rs : List Record) (b : Bool)
        (behind : from n inside (rs ++ qs) ≡ right (inside && b) (within g n) && from n inside qs) where
      inline_more : (x : Item)
          → from n inside (inline x ∷ (rs ++ qs))
          ≡ right (inside && (half_of_id i x || b)) (within g n) && from n inside qs
      unfolding all_within item_in is_part inside_after
      inline_more x =
          ap (λ (z : Bool). right (inside && half_of_id i x) (within g n) && z) behind
          ∙ both inside (half_of_id i x) b (within g n) (from n inside qs)

      item_more : (x : Item)
          → from n inside (item_before x rs ++ qs)
          ≡ right (inside && (half_of_id i x || b)) (within g n) && from n inside qs
      unfolding item_before half_of_id half
      item_more (text c) = text_more c rs ∙ behind
      item_more (character c) = inline_more (character c)
      item_more (standalone f) = inline_more (standalone f)
      item_more (isolated h f) = inline_more (isolated h f)
      item_more (pair h w f) = inline_more (pair h w f)
      item_more (annotation_start w k l) = inline_more (annotation_start w k l)
      item_more (annotation_end w k) = inline_more (annotation_end w k)

    -- a content
    in_content : (xs : Content)
        → from n inside (content_records xs ++ qs)
        ≡ right (inside && any (half_of_id i) xs) (within g n) && from n inside qs
    unfolding any content_records
    in_content [] = sym (none_here inside (within g n) (from n inside qs))
    in_content (x ∷ xs) = item_more (content_records xs) (any (half_of_id i) xs) (in_content xs) x

  -- the head of a part, of a target
  head_more : (n : ℕ) (inside : Bool) (h : Head) (qs : List Record)
      → from n inside (part_head h ∷ qs) ≡ from (suc n) source qs
  unfolding all_within item_in is_part inside_after half_of_id half
  head_more n inside h qs = none_here inside (within g n) (from (suc n) source qs)

  target_more : (n : ℕ) (inside : Bool) (q : ℕ) (qs : List Record)
      → from n inside (target_head q ∷ qs) ≡ from n (not source) qs
  unfolding all_within item_in is_part inside_after half_of_id half
  target_more n inside q qs = none_here inside (within g n) (from n (not source) qs)

  -- a target, behind a source
  unfoldable inside_behind : Target → Bool
  inside_behind no_target = source
  inside_behind (target q xs) = not source

  in_target : (n : ℕ) (qs : List Record) (tg : Target)
      → from n source (target_records tg ++ qs)
      ≡ right (not source && any (half_of_id i) (target_items tg)) (within g n) && from n (inside_behind tg) qs
  unfolding target_records target_items inside_behind any
  in_target n qs no_target = sym (none_here (not source) (within g n) (from n source qs))
  in_target n qs (target q xs) =
      target_more n source q (content_records xs ++ qs) ∙ in_content n (not source) qs xs

  -- a part
  unfoldable side_of : Bool → Part → Content
  side_of b p = cond b p.source (target_items p.target)

  any_side : (b : Bool) (p : Part)
      → cond b (any (half_of_id i) p.source) (any (half_of_id i) (target_items p.target))
      ≡ any (half_of_id i) (side_of b p)
  unfolding side_of
  any_side true p = refl
  any_side false p = refl

  in_part : (n : ℕ) (inside : Bool) (p : Part) (qs : List Record)
      → from n inside (part_records p ++ qs)
      ≡ right (any (half_of_id i) (side_of source p)) (within g (suc n)) && from (suc n) (inside_behind p.target) qs
  unfolding part_records
  in_part n inside p qs =
      head_more n inside p.head ((content_records p.source ++ target_records p.target) ++ qs)
      ∙ ap (from (suc n) source) (append_assoc (content_records p.source) (target_records p.target) qs)
      ∙ in_content (suc n) source (target_records p.target ++ qs) p.source
      ∙ ap (λ (z : Bool). right (source && first) granted && z) (in_target (suc n) qs p.target)
      ∙ one_side source first second granted behind
      ∙ ap (λ (z : Bool). right z granted && behind) (any_side source p)
    where
      first : Bool
      first = any (half_of_id i) p.source

      second : Bool
      second = any (half_of_id i) (target_items p.target)

      granted : Bool
      granted = within g (suc n)

      behind : Bool
      behind = from (suc n) (inside_behind p.target) qs

  closing_end : (n : ℕ) (inside : Bool) → from n inside (closing ∷ []) ≡ true
  unfolding all_within item_in is_part inside_after half_of_id half
  closing_end n inside = none_here inside (within g n) true

module _ (g : Grant) (side i : ℕ) where
  in_parts : (n : ℕ) (inside : Bool) (ps : List Part)
      → all_within g (eqb side 'S') i n inside (gather part_records ps ++ (closing ∷ []))
      ≡ halves_within g side i (suc n) ps
  unfolding gather halves_within side_content side_of
  in_parts n inside [] = closing_end g (eqb side 'S') i n inside
  in_parts n inside (p ∷ ps) =
      ap (all_within g (eqb side 'S') i n inside)
      (append_assoc (part_records p) (gather part_records ps) (closing ∷ []))
      ∙ in_part g (eqb side 'S') i n inside p (gather part_records ps ++ (closing ∷ []))
      ∙ ap (λ (z : Bool). right (any (half_of_id i) (side_content side p)) (within g (suc n)) && z)
      (in_parts (suc n) (inside_behind g (eqb side 'S') i p.target) ps)

  opening_more : (c : Opening) (rs : List Record)
      → all_within g (eqb side 'S') i 0 false (opening c ∷ rs) ≡ all_within g (eqb side 'S') i 0 false rs
  unfolding all_within item_in is_part inside_after half_of_id half
  opening_more c rs = refl

  -- all records of a unit
  pub in_unit : (u : XliffUnit)
      → all_within g (eqb side 'S') i 0 false (unit_records u) ≡ halves_within g side i 1 u.parts
  unfolding unit_records
  in_unit u =
      opening_more u.opening (gather part_records u.parts ++ (closing ∷ [])) ∙ in_parts 0 false u.parts
