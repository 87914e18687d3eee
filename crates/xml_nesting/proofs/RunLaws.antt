-- The records of a content in front of others, taken item by item.
use Prim.Native.Nat.{ℕ}
use mathlib.Core.Path.{◌≡◌, refl, ap, ◌∙◌}
use mathlib.Core.List.{List, [], ◌∷◌, ◌++◌}
use Rattle.xliff.specs.Item.{Item, Content, text, character, standalone, isolated, pair, annotation_start, annotation_end}
use Rattle.xliff.specs.Unit.{Head}
use Rattle.xliff.specs.Encode.{Record, closing, part_head, target_head, text_run, inline, text_before, item_before, content_records}
use Rattle.places.specs.Offsets.{Inner, no_inner, text_inner, inline_inner}
use Rattle.places.proofs.Places.{content_inner}
use Rattle.xml_nesting.specs.Nesting.{first_content}

-- a record that ends a content comes first
pub data Outside : List Record → Type 0 where
  part_next : {h : Head} {rs : List Record} → Outside (part_head h ∷ rs)
  target_next : {q : ℕ} {rs : List Record} → Outside (target_head q ∷ rs)
  end_next : {rs : List Record} → Outside (closing ∷ rs)

-- what is made of a text code point by code point is made of a code point in front of a content
module _ {A : Type 0} (f : List Record → A) (g : ℕ → A → A)
    (one : (c : ℕ) (rs : List Record) → f (text_run (c ∷ []) ∷ rs) ≡ g c (f rs))
    (more : (c : ℕ) (cs : List ℕ) (rs : List Record) → f (text_run (c ∷ cs) ∷ rs) ≡ g c (f (text_run cs ∷ rs))) where
  pub point_first : (c : ℕ) {rs : List Record} → Inner rs → (qs : List Record) → f (text_before c rs ++ qs) ≡ g c (f (rs ++ qs))
  unfolding text_before
  point_first c no_inner qs = one c qs
  point_first c (text_inner {cs} {rs} h) qs = more c cs (rs ++ qs)
  point_first c (inline_inner {x} {rs} h) qs = one c (inline x ∷ (rs ++ qs))

-- the first content is that in front
none_first : {rs : List Record} → Outside rs → first_content rs ≡ []
unfolding first_content
none_first part_next = refl
none_first target_next = refl
none_first end_next = refl

item_first : (x : Item) {rs : List Record} → Inner rs → (qs : List Record)
    → first_content (item_before x rs ++ qs) ≡ x ∷ first_content (rs ++ qs)
unfolding first_content item_before
item_first (text c) h qs = point_first first_content (λ c xs. text c ∷ xs) (λ c rs. refl) (λ c cs rs. refl) c h qs
item_first (character c) h qs = refl
item_first (standalone f) h qs = refl
item_first (isolated g f) h qs = refl
item_first (pair g w f) h qs = refl
item_first (annotation_start w i t) h qs = refl
item_first (annotation_end w i) h qs = refl

pub content_first : (xs : Content) {rs : List Record} → Outside rs → first_content (content_records xs ++ rs) ≡ xs
unfolding content_records
content_first [] h = none_first h
content_first (x ∷ xs) {rs} h = item_first x (content_inner xs) rs ∙ ap (λ (l : Content). x ∷ l) (content_first xs h)
