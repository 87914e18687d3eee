-- The records of a rewritten unit are the records of the unit, item by item.
use Prim.Native.Nat.{ℕ}
use mathlib.Core.Path.{◌≡◌, refl, sym, ap, ◌∙◌}
use mathlib.Core.Bool.{Bool, true, false, cond}
use mathlib.Core.List.{List, [], ◌∷◌, ◌++◌, map, append_assoc}
use lib.Dec.{eqb}
use Rattle.xliff.specs.Bytes.{'S', gather}
use Rattle.xliff.specs.Item.{Item, Content, Form}
use Rattle.xliff.specs.Unit.{Target, no_target, target, Part, XliffUnit}
use Rattle.xliff.specs.Encode.{Record, opening, closing, part_head, target_head, text_run, inline, content_records, target_records, part_records, unit_records}
use Rattle.xliff.specs.Rules.{half_of_id}
use Rattle.xliff.specs.Focus.{with_parts}
use Rattle.xliff.specs.Rewrite.{rewrite_item, rewrite_target, rewrite_part, rewrite_unit}
use Rattle.places.specs.Offsets.{Inner, no_inner, text_inner, inline_inner}
use Rattle.places.proofs.Places.{content_inner}
use Rattle.rewrite_marks.specs.Rewritten.{inside_after, rewritten}
use Rattle.xliff.specs.Good.{on_record}
use Rattle.xliff.proofs.unit.Forms.{content_kept}

-- outside a content of the side nothing changes
outside : (f : Item → Item) (source : Bool) {ys : List Record} (bs : List Record) → Inner ys → rewritten f source false (ys ++ bs) ≡ ys ++ rewritten f source false bs
unfolding rewritten on_record inside_after
outside f source bs no_inner = refl
outside f source bs (text_inner {cs} h) = ap {B = List Record} (λ l. text_run cs ∷ l) (outside f source bs h)
outside f source bs (inline_inner {x} h) = ap {B = List Record} (λ l. inline x ∷ l) (outside f source bs h)

inside : (f : Item → Item) (source : Bool) {ys : List Record} (bs : List Record) → Inner ys → rewritten f source true (ys ++ bs) ≡ map (on_record f) ys ++ rewritten f source true bs
unfolding rewritten on_record inside_after
inside f source bs no_inner = refl
inside f source bs (text_inner {cs} h) = ap {B = List Record} (λ l. text_run cs ∷ l) (inside f source bs h)
inside f source bs (inline_inner {x} h) = ap {B = List Record} (λ l. inline (f x) ∷ l) (inside f source bs h)

-- the records of a content whose halves are rewritten
module _ (i : ℕ) (w : Form) where
  abbrev f : Item → Item
  f = rewrite_item i w

  content_rewritten : (xs : Content) → content_records (map f xs) ≡ map (on_record f) (content_records xs)
  unfolding rewrite_item
  content_rewritten xs = content_kept w (half_of_id i) xs

  content_inside : (source : Bool) (xs : Content) (bs : List Record) → rewritten f source true (content_records xs ++ bs) ≡ content_records (map f xs) ++ rewritten f source true bs
  content_inside source xs bs = inside f source bs (content_inner xs) ∙ ap (λ (l : List Record). l ++ rewritten f source true bs) (sym (content_rewritten xs))

  content_outside : (source : Bool) (xs : Content) (bs : List Record) → rewritten f source false (content_records xs ++ bs) ≡ content_records xs ++ rewritten f source false bs
  content_outside source xs bs = outside f source bs (content_inner xs)

  -- the records of parts; what stands behind a part does not depend on where the walk stood
  source_part : (b : Bool) (p : Part) (bs qs : List Record) → ((c : Bool) → rewritten f true c bs ≡ qs)
      → rewritten f true b (part_records p ++ bs) ≡ part_records (record { head = p.head; source = map f p.source; target = p.target }) ++ qs
  unfolding rewritten on_record inside_after part_records target_records
  source_part b p bs qs h =
      ap {B = List Record} (λ l. part_head p.head ∷ l)
      (ap (rewritten f true true) (append_assoc (content_records p.source) (target_records p.target) bs)
      ∙ content_inside true p.source (target_records p.target ++ bs)
      ∙ ap (λ (l : List Record). content_records (map f p.source) ++ l) (own_target p.target)
      ∙ sym (append_assoc (content_records (map f p.source)) (target_records p.target) qs))
    where
      own_target : (g : Target) → rewritten f true true (target_records g ++ bs) ≡ target_records g ++ qs
      own_target no_target = h true
      own_target (target q xs) = ap {B = List Record} (λ l. target_head q ∷ l) (content_outside true xs bs ∙ ap (λ (l : List Record). content_records xs ++ l) (h false))

  target_part : (b : Bool) (p : Part) (bs qs : List Record) → ((c : Bool) → rewritten f false c bs ≡ qs)
      → rewritten f false b (part_records p ++ bs) ≡ part_records (record { head = p.head; source = p.source; target = rewrite_target f p.target }) ++ qs
  unfolding rewritten on_record inside_after part_records target_records rewrite_target
  target_part b p bs qs h =
      ap {B = List Record} (λ l. part_head p.head ∷ l)
      (ap (rewritten f false false) (append_assoc (content_records p.source) (target_records p.target) bs)
      ∙ content_outside false p.source (target_records p.target ++ bs)
      ∙ ap (λ (l : List Record). content_records p.source ++ l) (own_target p.target)
      ∙ sym (append_assoc (content_records p.source) (target_records (rewrite_target f p.target)) qs))
    where
      own_target : (g : Target) → rewritten f false false (target_records g ++ bs) ≡ target_records (rewrite_target f g) ++ qs
      own_target no_target = h false
      own_target (target q xs) = ap {B = List Record} (λ l. target_head q ∷ l) (content_inside false xs bs ∙ ap (λ (l : List Record). content_records (map f xs) ++ l) (h true))

  one_part : (source b : Bool) (p : Part) (bs qs : List Record) → ((c : Bool) → rewritten f source c bs ≡ qs)
      → rewritten f source b (part_records p ++ bs)
      ≡ part_records (cond source
      (record { head = p.head; source = map f p.source; target = p.target })
      (record { head = p.head; source = p.source; target = rewrite_target f p.target })) ++ qs
  one_part true b p bs qs h = source_part b p bs qs h
  one_part false b p bs qs h = target_part b p bs qs h

  all_parts : (side : ℕ) (b : Bool) (ps : List Part)
      → rewritten f (eqb side 'S') b (gather part_records ps ++ (closing ∷ [])) ≡ gather part_records (map (rewrite_part side f) ps) ++ (closing ∷ [])
  unfolding rewritten on_record gather rewrite_part
  all_parts side b [] = refl
  all_parts side b (p ∷ ps) =
      ap (rewritten f (eqb side 'S') b) (append_assoc (part_records p) (gather part_records ps) (closing ∷ []))
      ∙ one_part (eqb side 'S') b p (gather part_records ps ++ (closing ∷ [])) (gather part_records (map (rewrite_part side f) ps) ++ (closing ∷ [])) (λ c. all_parts side c ps)
      ∙ sym (append_assoc (part_records (rewrite_part side f p)) (gather part_records (map (rewrite_part side f) ps)) (closing ∷ []))

  pub unit_rewritten : (u : XliffUnit) (side : ℕ) → unit_records (rewrite_unit u side i w) ≡ rewritten f (eqb side 'S') false (unit_records u)
  unfolding unit_records rewrite_unit with_parts rewritten on_record inside_after
  unit_rewritten u side = ap {B = List Record} (λ l. opening u.opening ∷ l) (sym (all_parts side false u.parts))
