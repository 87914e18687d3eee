-- Deeper than 32: by the contents of a unit, and by its records.
use Prim.Native.Nat.{ℕ, suc, ◌<◌, ◌≤◌}
use mathlib.Core.Path.{◌≡◌, refl, sym, ap, ◌∙◌}
use mathlib.Core.Bool.{Bool, true, false, ◌||◌, cond}
use mathlib.Core.List.{List, [], ◌∷◌, ◌++◌, append_assoc}
use native.Mathlib.Numerals.{add-one}
use lib.Dec.{ltb}
use borrow.Author.Tests.{lt-ltb, le-ltb}
use Rattle.xliff.proofs.lists.Tests.{or_assoc}
use Rattle.xliff.specs.Bytes.{gather, any}
use Rattle.xliff.specs.Item.{Item, Content, text, character, standalone, isolated, pair, annotation_start, annotation_end, is_form_P, is_start_half, fields}
use Rattle.xliff.specs.Unit.{Target, no_target, target, Part, XliffUnit, target_items}
use Rattle.xliff.specs.Encode.{Record, closing, inline, item_before, content_records, target_records, part_records, unit_records}
use Rattle.places.specs.Offsets.{Inner}
use Rattle.places.proofs.Places.{content_inner}
use Rattle.xml.specs.Elements.{most_depth}
use Rattle.xml.specs.Write.{one_less, depth_behind, deeper, too_deep}
use Rattle.xml_nesting.specs.declared.Step.TheVariants.{Opens, Closes, Stays}
use Rattle.xml_nesting.specs.Nesting.{step_of_item, step_of, depth_after, records_deep}
use Rattle.xml_nesting.proofs.RunLaws.{Outside, part_next, target_next, end_next, point_first}

or_again : (a b : Bool) → a || b ≡ a || (a || b)
or_again true b = refl
or_again false b = refl

-- an item
item_depth : (n : ℕ) (x : Item) → depth_after n (step_of_item x) ≡ depth_behind n x
unfolding step_of_item depth_behind
item_depth n x = by (is_form_P x) (is_start_half x)
  where
    by : (a b : Bool)
        → depth_after n (cond a (cond b Opens (Closes (fields x).data_ref)) Stays) ≡ cond a (cond b (suc n) (one_less n)) n
    by true true = add-one n
    by true false = refl
    by false b = refl

inline_deep : (n : ℕ) (x : Item) (rs : List Record)
    → records_deep n (inline x ∷ rs) ≡ ltb most_depth (depth_behind n x) || records_deep (depth_behind n x) rs
unfolding records_deep step_of
inline_deep n x rs = ap (λ (m : ℕ). ltb most_depth m || records_deep m rs) (item_depth n x)

item_deep : (n : ℕ) (x : Item) {rs : List Record} → Inner rs → (qs : List Record)
    → records_deep n (item_before x rs ++ qs) ≡ ltb most_depth (depth_behind n x) || records_deep (depth_behind n x) (rs ++ qs)
unfolding item_before records_deep step_of depth_behind is_form_P
item_deep n (text c) h qs =
    point_first (records_deep n) (λ c b. ltb most_depth n || b) (λ c rs. refl)
    (λ c cs rs. or_again (ltb most_depth n) (records_deep n rs)) c h qs
item_deep n (character c) {rs} h qs = inline_deep n (character c) (rs ++ qs)
item_deep n (standalone f) {rs} h qs = inline_deep n (standalone f) (rs ++ qs)
item_deep n (isolated g f) {rs} h qs = inline_deep n (isolated g f) (rs ++ qs)
item_deep n (pair g w f) {rs} h qs = inline_deep n (pair g w f) (rs ++ qs)
item_deep n (annotation_start w i t) {rs} h qs = inline_deep n (annotation_start w i t) (rs ++ qs)
item_deep n (annotation_end w i) {rs} h qs = inline_deep n (annotation_end w i) (rs ++ qs)

-- a content: behind it the count starts again
outside_deep : (n : ℕ) {rs : List Record} → Outside rs → records_deep n rs ≡ records_deep 0 rs
unfolding records_deep step_of
outside_deep n part_next = refl
outside_deep n target_next = refl
outside_deep n end_next = refl

content_deep : (n : ℕ) (xs : Content) {rs : List Record} → Outside rs
    → records_deep n (content_records xs ++ rs) ≡ deeper n xs || records_deep 0 rs
unfolding content_records deeper
content_deep n [] h = outside_deep n h
content_deep n (x ∷ xs) {rs} h =
    item_deep n x (content_inner xs) rs
    ∙ ap (λ (b : Bool). ltb most_depth (depth_behind n x) || b) (content_deep (depth_behind n x) xs h)
    ∙ sym (or_assoc (ltb most_depth (depth_behind n x)) (deeper (depth_behind n x) xs) (records_deep 0 rs))

target_deep : (g : Target) {rs : List Record} → Outside rs
    → records_deep 0 (target_records g ++ rs) ≡ deeper 0 (target_items g) || records_deep 0 rs
unfolding target_records target_items deeper records_deep step_of
target_deep no_target h = refl
target_deep (target q xs) h = content_deep 0 xs h

pub target_outside : (g : Target) {rs : List Record} → Outside rs → Outside (target_records g ++ rs)
unfolding target_records
target_outside no_target h = h
target_outside (target q xs) h = target_next

abbrev deep_part : Part → Bool
deep_part p = deeper 0 p.source || deeper 0 (target_items p.target)

part_deep : (p : Part) {rs : List Record} → Outside rs → records_deep 0 (part_records p ++ rs) ≡ deep_part p || records_deep 0 rs
unfolding part_records records_deep step_of
part_deep p {rs} h =
    let inner = content_records p.source in
    let goal = target_records p.target in
    ap (records_deep 0) (append_assoc inner goal rs)
    ∙ content_deep 0 p.source (target_outside p.target h)
    ∙ ap (λ (b : Bool). deeper 0 p.source || b) (target_deep p.target h)
    ∙ sym (or_assoc (deeper 0 p.source) (deeper 0 (target_items p.target)) (records_deep 0 rs))

parts_outside : (ps : List Part) {rs : List Record} → Outside rs → Outside (gather part_records ps ++ rs)
unfolding gather part_records
parts_outside [] h = h
parts_outside (p ∷ ps) h = part_next

parts_deep : (ps : List Part) → records_deep 0 (gather part_records ps ++ (closing ∷ [])) ≡ any deep_part ps
unfolding gather any records_deep step_of
parts_deep [] = refl
parts_deep (p ∷ ps) =
    ap (records_deep 0) (append_assoc (part_records p) (gather part_records ps) (closing ∷ []))
    ∙ part_deep p (parts_outside ps end_next)
    ∙ ap (λ (b : Bool). deep_part p || b) (parts_deep ps)

pub unit_deep : (u : XliffUnit) → records_deep 0 (unit_records u) ≡ too_deep u
unfolding unit_records too_deep records_deep step_of
unit_deep u = parts_deep u.parts

-- one record more of the walk
deep_next : (n m : ℕ) (rs : List Record) (r : Record) (qs : List Record) → rs ≡ r ∷ qs → m ≡ depth_after n (step_of r)
    → records_deep n rs ≡ ltb most_depth m || records_deep m qs
unfolding records_deep
deep_next n m rs r qs e f = ap (records_deep n) e ∙ ap (λ (k : ℕ). ltb most_depth k || records_deep k qs) (sym f)

module _ (n m : ℕ) (rs : List Record) (r : Record) (qs : List Record) (e : rs ≡ r ∷ qs) (f : m ≡ depth_after n (step_of r)) where
  pub deep_there : most_depth < m → records_deep n rs ≡ true
  deep_there h = deep_next n m rs r qs e f ∙ ap (λ (b : Bool). b || records_deep m qs) (lt-ltb most_depth m h)

  pub deep_later : m ≤ most_depth → records_deep n rs ≡ records_deep m qs
  deep_later h = deep_next n m rs r qs e f ∙ ap (λ (b : Bool). b || records_deep m qs) (le-ltb most_depth m h)

pub deep_nowhere : (n : ℕ) (rs : List Record) → rs ≡ [] → records_deep n rs ≡ false
unfolding records_deep
deep_nowhere n rs e = ap (records_deep n) e
