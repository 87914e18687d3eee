-- Stepping stones: what the numbers 2, 3 and 4 leave of a table's records. No rule is stated here: `unit_good` and
-- `read_sound` (proofs) show that a table to which none of them applies has records that are good in this sense, and
-- inner crates ask it of what they are given.
use Rattle.std.specs.Prelude.{ℕ, zero, suc, ◌+◌, ◌≡◌, true, false, cond, List, [], ◌∷◌, get_or}
use Rattle.xliff.specs.Bytes.{'-', 'N', 'Y', among, gather}
use Rattle.xliff.specs.State.{state_letters}
use Rattle.xliff.specs.Text.{xml_allows}
use Rattle.xliff.specs.Item.{Item, Content, text, character, standalone, isolated, pair, annotation_start, annotation_end}
use Rattle.xliff.specs.Unit.{Head, segment, ignorable, Target, no_target, target, Part, XliffUnit}
use Rattle.xliff.specs.Encode.{Record, opening, closing, part_head, target_head, text_run, inline, ill_text, broken, record_bytes, part_records, spell}
use Rattle.xliff.specs.Parse.{good_id, good_code, bad_item, is_part}

-- a property of each element of a list
pub data Each {A : Type 0} (P : A → Type 0) : List A → Type 0 where
  each_nil : Each P []
  each_cons : {x : A} {xs : List A} → P x → Each P xs → Each P (x ∷ xs)

-- code points that XML allows
pub data Allowed : List ℕ → Type 0 where
  no_text : Allowed []
  one_point : {c : ℕ} {cs : List ℕ} → xml_allows c ≡ true → Allowed cs → Allowed (c ∷ cs)

-- what the fields of a record must be for it to be read back
abbrev pub GoodItem : Item → Type 0
GoodItem (text c) = ⊥
GoodItem (character c) = Unit {0}
GoodItem (standalone f) = good_code ('-' ∷ []) f ≡ true
GoodItem (isolated h f) = good_code ('Y' ∷ 'N' ∷ []) f ≡ true
GoodItem (pair h w f) = good_code ('Y' ∷ 'N' ∷ []) f ≡ true
GoodItem (annotation_start w i t) = (good_id i ≡ true) × (among t ('Y' ∷ 'N' ∷ '-' ∷ []) ≡ true)
GoodItem (annotation_end w i) = good_id i ≡ true

abbrev pub GoodHead : Head → Type 0
GoodHead (segment f) =
    (among f.can_resegment ('Y' ∷ 'N' ∷ '-' ∷ []) ≡ true) × (among f.state state_letters ≡ true)
GoodHead (ignorable i) = Unit {0}

abbrev pub GoodRecord : Record → Type 0
GoodRecord (opening o) = among o.can_resegment ('Y' ∷ 'N' ∷ []) ≡ true
GoodRecord closing = Unit {0}
GoodRecord (part_head h) = GoodHead h
GoodRecord (target_head q) = Unit {0}
GoodRecord (text_run cs) = Allowed cs
GoodRecord (inline x) = GoodItem x
GoodRecord ill_text = ⊥
GoodRecord (broken b) = ⊥

-- all records are good
abbrev pub AllGood : List Record → Type 0
AllGood rs = Each GoodRecord rs

-- the number of SG and IG records
unfoldable pub part_heads : List Record → ℕ
part_heads [] = 0
part_heads (r ∷ rs) = cond (is_part r) 1 0 + part_heads rs

-- an item of a content
abbrev pub GoodIn : Item → Type 0
GoodIn (text c) = xml_allows c ≡ true
GoodIn (character c) = bad_item (character c) ≡ false
GoodIn (standalone f) = GoodItem (standalone f)
GoodIn (isolated h f) = GoodItem (isolated h f)
GoodIn (pair h w f) = GoodItem (pair h w f)
GoodIn (annotation_start w i t) = GoodItem (annotation_start w i t)
GoodIn (annotation_end w i) = GoodItem (annotation_end w i)

abbrev pub GoodContent : Content → Type 0
GoodContent xs = Each GoodIn xs

-- Good parts
abbrev pub GoodTarget : Target → Type 0
GoodTarget no_target = Unit {0}
GoodTarget (target q xs) = GoodContent xs

pub record GoodPart (p : Part) : Type 0 where
  pub head : GoodHead p.head
  pub source : GoodContent p.source
  pub target : GoodTarget p.target

abbrev pub GoodParts : List Part → Type 0
GoodParts ps = Each GoodPart ps

-- parts one after the other
abbrev pub bytes_of : List Part → List ℕ
bytes_of ps = spell (gather part_records ps)

-- a table: UN, its parts, UE
abbrev pub opened : XliffUnit → List ℕ
opened u = record_bytes (opening u.opening)

abbrev pub closed : List ℕ
closed = record_bytes closing

-- the first n elements, each by its index
unfoldable pub gets : ℕ → ℕ → List ℕ → List ℕ
gets i zero s = []
gets i (suc n) s = get_or s i 0 ∷ gets (suc i) n s

-- A record with its item changed
unfoldable pub on_record : (Item → Item) → Record → Record
on_record f (opening c) = opening c
on_record f closing = closing
on_record f (part_head h) = part_head h
on_record f (target_head q) = target_head q
on_record f (text_run cs) = text_run cs
on_record f (inline x) = inline (f x)
on_record f ill_text = ill_text
on_record f (broken b) = broken b
