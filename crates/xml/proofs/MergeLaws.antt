-- Records put together, the code points of a run into one: what they make of the records behind them.
use Prim.Native.Nat.{ℕ}
use mathlib.Core.Path.{◌≡◌, refl, sym, ap, ap₂, ◌∙◌}
use mathlib.Core.List.{List, [], ◌∷◌, ◌++◌, append_assoc}
use Rattle.xliff.specs.Bytes.{gather}
use Rattle.xliff.specs.Item.{Item, Content, text, character, standalone, isolated, pair, annotation_start, annotation_end}
use Rattle.xliff.specs.Unit.{Opening, Head, Target, no_target, target, Part}
use Rattle.xliff.specs.Encode.{Record, opening, closing, part_head, target_head, text_run, inline, ill_text, broken, text_before, item_before, content_records, target_records, part_records, unit_records}
use Rattle.xliff.specs.Parse.{Reading, take_record, reading, opening_of}
use Rattle.xliff.proofs.unit.Table.{closed_off}
use Rattle.xml.specs.Elements.{unit_of_records}

-- a record in front of others; a code point goes into the text that stands there
unfoldable pub texts_before : List ℕ → List Record → List Record
texts_before [] rs = rs
texts_before (c ∷ cs) rs = text_before c (texts_before cs rs)

unfoldable pub put : Record → List Record → List Record
put (opening c) rs = opening c ∷ rs
put closing rs = closing ∷ rs
put (part_head h) rs = part_head h ∷ rs
put (target_head q) rs = target_head q ∷ rs
put (text_run cs) rs = texts_before cs rs
put (inline x) rs = item_before x rs
put ill_text rs = ill_text ∷ rs
put (broken b) rs = broken b ∷ rs

unfoldable pub merged : List Record → List Record
merged [] = []
merged (r ∷ rs) = put r (merged rs)

-- what records hold, up to the end
abbrev rest_of : Reading → List Record
rest_of g = target_records g.target ++ closed_off g.parts

abbrev pub Same : List Record → Type 0
Same rs = content_records (reading rs).items ++ rest_of (reading rs) ≡ merged rs

pub record Between (rs : List Record) : Type 0 where
  pub same : Same rs
  pub no_items : (reading rs).items ≡ []

pub record Outside (rs : List Record) : Type 0 where
  pub same : Same rs
  pub no_items : (reading rs).items ≡ []
  pub none : (reading rs).target ≡ no_target

pub record InTarget (rs : List Record) : Type 0 where
  pub same : Same rs
  pub none : (reading rs).target ≡ no_target

-- text in front
before_rest : (c : ℕ) (g : Target) (ps : List Part)
    → text_before c (target_records g ++ closed_off ps) ≡ text_run (c ∷ []) ∷ (target_records g ++ closed_off ps)
unfolding text_before target_records closed_off gather part_records
before_rest c no_target [] = refl
before_rest c no_target (p ∷ ps) = refl
before_rest c (target q xs) ps = refl

text_append : (c : ℕ) (a : List Record) (g : Target) (ps : List Part)
    → text_before c a ++ (target_records g ++ closed_off ps) ≡ text_before c (a ++ (target_records g ++ closed_off ps))
unfolding text_before
text_append c [] g ps = sym (before_rest c g ps)
text_append c (opening d ∷ a) g ps = refl
text_append c (closing ∷ a) g ps = refl
text_append c (part_head h ∷ a) g ps = refl
text_append c (target_head q ∷ a) g ps = refl
text_append c (text_run cs ∷ a) g ps = refl
text_append c (inline x ∷ a) g ps = refl
text_append c (ill_text ∷ a) g ps = refl
text_append c (broken b ∷ a) g ps = refl

item_append : (x : Item) (a : List Record) (g : Target) (ps : List Part)
    → item_before x a ++ (target_records g ++ closed_off ps) ≡ item_before x (a ++ (target_records g ++ closed_off ps))
unfolding item_before
item_append (text c) a g ps = text_append c a g ps
item_append (character c) a g ps = refl
item_append (standalone f) a g ps = refl
item_append (isolated h f) a g ps = refl
item_append (pair h w f) a g ps = refl
item_append (annotation_start w i t) a g ps = refl
item_append (annotation_end w i) a g ps = refl

pub text_same : (c : ℕ) (rs : List Record) → Same rs → Same (text_run (c ∷ []) ∷ rs)
unfolding reading take_record merged put texts_before content_records item_before
text_same c rs e =
    text_append c (content_records (reading rs).items) (reading rs).target (reading rs).parts ∙ ap (text_before c) e

pub inline_same : (x : Item) (rs : List Record) → Same rs → Same (inline x ∷ rs)
unfolding reading take_record merged put content_records
inline_same x rs e =
    item_append x (content_records (reading rs).items) (reading rs).target (reading rs).parts ∙ ap (item_before x) e

pub part_same : (h : Head) (rs : List Record) → Same rs → Outside (part_head h ∷ rs)
part_same h rs e =
    record { same = whole; no_items = unfold reading take_record in refl; none = unfold reading take_record in refl }
  where
    whole : Same (part_head h ∷ rs)
    whole =
        unfold reading take_record merged put content_records target_records closed_off gather part_records in
        ap {B = List Record} (λ l. part_head h ∷ l)
        (append_assoc (content_records (reading rs).items ++ target_records (reading rs).target)
        (gather part_records (reading rs).parts) (closing ∷ [])
        ∙ append_assoc (content_records (reading rs).items) (target_records (reading rs).target)
        (closed_off (reading rs).parts) ∙ e)

pub target_same : (q : ℕ) (rs : List Record) → InTarget rs → Between (target_head q ∷ rs)
target_same q rs k = record { same = whole; no_items = unfold reading take_record in refl }
  where
    whole : Same (target_head q ∷ rs)
    whole =
        unfold reading take_record merged put content_records target_records in
        ap {B = List Record} (λ l. target_head q ∷ l)
        (ap (λ (g : Target). content_records (reading rs).items ++ (target_records g ++ closed_off (reading rs).parts))
        (sym k.none) ∙ k.same)

pub end_same : (rs : List Record) → rs ≡ [] → Outside (closing ∷ rs)
end_same rs e = record { same = whole; no_items = unfold reading take_record in refl; none = unfold reading take_record in refl }
  where
    whole : Same (closing ∷ rs)
    whole =
        unfold reading take_record merged put content_records target_records closed_off gather in
        ap {B = List Record} (λ l. closing ∷ merged l) (sym e)

pub unit_same : (o : Opening) (rs : List Record) → Outside rs → unit_records (unit_of_records (opening o ∷ rs)) ≡ merged (opening o ∷ rs)
unfolding unit_records unit_of_records opening_of reading take_record merged put content_records target_records closed_off
unit_same o rs k =
    ap {B = List Record} (λ l. opening o ∷ l)
    (ap₂ (λ (xs : Content) (g : Target). content_records xs ++ (target_records g ++ closed_off (reading rs).parts))
    (sym k.no_items) (sym k.none) ∙ k.same)
