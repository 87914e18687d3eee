-- Where an item begins.
use Rattle.std.specs.Prelude.{ℕ, zero, suc, ◌+◌, ◌-◌, ◌≡◌, cond, List, [], ◌∷◌, ◌++◌, length, take, ltb}
use Rattle.xliff.specs.Text.{utf8s}
use Rattle.xliff.specs.Encode.{Record, opening, closing, part_head, target_head, text_run, inline, ill_text, broken, record_bytes, spell}
use Rattle.text.specs.declared.points.Points.{Points}
use Rattle.walk.specs.Kept.{Of, items, Inline}
use Rattle.walk.specs.declared.Pass.{Pass}
use Rattle.walk.specs.declared.Pass.TheVariants.{Stop, On}
use Rattle.walk.specs.declared.Place.{Place}

-- one record met with k items to pass over: the item stands in it, behind that many bytes of its text; or the items
-- left
abbrev pub pass_text : Points → ℕ → Pass
pass_text p n = cond (ltb p.bytes n) (Stop p.bytes) (On p.left)

abbrev pub pass_item : ℕ → Pass
pass_item zero = Stop 0
pass_item (suc k) = On k

abbrev pub pass_of : Record → ℕ → Pass
pass_of (opening c) k = Stop 0
pass_of closing k = Stop 0
pass_of (part_head h) k = Stop 0
pass_of (target_head q) k = Stop 0
pass_of (text_run cs) k =
    pass_text (record { bytes = length (utf8s (take k cs)); left = k - length cs }) (length (utf8s cs))
pass_of (inline x) k = pass_item k
pass_of ill_text k = Stop 0
pass_of (broken b) k = Stop 0

-- t begins with a record
abbrev pub Begins : List ℕ → Type 0
Begins t = (r : Record) × (s : List ℕ) × Inline r × (t ≡ record_bytes r ++ s)

-- t is one record
abbrev pub One : List ℕ → Type 0
One t = (r : Record) × Inline r × (t ≡ record_bytes r)

abbrev pub PassedOne : List ℕ → ℕ → Pass → Type 0
PassedOne t k p = (r : Record) → Inline r → t ≡ record_bytes r → p ≡ pass_of r k

-- Item number k of records of which n items stand before `after`: bytes into the text that comes next, items that are
-- missing, what comes next
pub data Inside (k n : ℕ) : ℕ → ℕ → List Record → Type 0 where
  -- there is no such item
  over : {left : ℕ} → n + left ≡ k → Inside k n 0 left []
  -- it begins the record that comes next
  between : {r : Record} {rs : List Record} → n ≡ k → Inside k n 0 0 (r ∷ rs)
  -- it stands in the text that comes next, behind the code points cs
  within : (c : ℕ) (cs : List ℕ) (d : ℕ) (ds : List ℕ) (rs : List Record) → n + length (c ∷ cs) ≡ k
      → Inside k n (length (utf8s (c ∷ cs))) 0 (text_run ((c ∷ cs) ++ (d ∷ ds)) ∷ rs)

-- the place of item number k among records
pub record Parted (k : ℕ) (rs : List Record) (p : Place) : Type 0 where
  pub before : List Record
  pub after : List Record
  pub parts : rs ≡ before ++ after
  pub offset : p.at ≡ length (spell before)
  pub inside : Inside k (length (items before)) p.into p.left after

-- the answer for bytes c, whatever content they are of
abbrev pub PlaceOf : List ℕ → ℕ → Place → Type 0
PlaceOf c k p = (rs : List Record) → Of c rs → Parted k rs p
