-- Ids with their owners as numbers.
use Rattle.places.specs.Offsets.{At}
use Rattle.std.specs.Prelude.{ℕ, ◌+◌, ◌*◌, ◌/◌, ◌%◌, ◌<◌, ◌≡◌, Bool, false, not, ◌&&◌, ◌||◌, cond, List, [], ◌∷◌, Option, None, Some, length, take, drop, set, eqb}
use Rattle.xliff.specs.Bytes.{any}
use Rattle.xliff.specs.Encode as encode
use Rattle.xliff.specs.Parse.{read, is_part}
use Rattle.xliff.specs.Item as spec
use Rattle.xliff.specs.Rules.{Owner, of_part, of_source, of_target, Named, start_name}
use Rattle.places.specs.Found.{found_at, head_name, no_name}
use Rattle.table.specs.Meaning.{half, fields, item, record_meaning, meaning}
use Rattle.keys.specs.Keys.{id_key, class_key, half_key}
use Rattle.table.specs.declared.Fields.{Fields}
use Rattle.table.specs.declared.Half.{Half}
use Rattle.table.specs.declared.Item.{Item}
use Rattle.table.specs.declared.Record.{Record}
use Rattle.table.specs.declared.Read.{Read}

unfoldable pub owner : ℕ → Owner
owner o = cond (eqb o 2) of_source (cond (eqb o 3) of_target of_part)

-- the number of an owner and an id
abbrev pub Keyed : ℕ → ℕ → ℕ → Type 0
Keyed o id k = (k % 64 ≡ o) × (k / 64 ≡ id)

-- the id that a number is, where there is one
unfoldable pub named : Option ℕ → ℕ → List Named
named None at = []
named (Some k) at = record { owner = owner (k % 64); name = k / 64; at = at } ∷ []

abbrev pub PairKeyed : ℕ → Half → Fields → Option ℕ → Type 0
PairKeyed o h f k = (w : spec.Form) (at : ℕ) → named k at ≡ start_name (owner o) (record { item = spec.pair (half h) w (fields f); at = at })

abbrev pub ItemKeyed : ℕ → Item → Option ℕ → Type 0
ItemKeyed o i k = (at : ℕ) → named k at ≡ start_name (owner o) (record { item = item i; at = at })

abbrev pub HeadKeyed : ℕ → Option ℕ → Type 0
HeadKeyed id k = (at : ℕ) → named k at ≡ cond (eqb id 0) [] (record { owner = of_part; name = id; at = at } ∷ [])

-- the number is that of the id which the record gives
abbrev pub RecordKeyed : ℕ → Record → Option ℕ → Type 0
RecordKeyed o x k = (cs : List ℕ) (at : ℕ) → named k at ≡ found_at of_source (λ q. of_target) head_name (λ q at. []) start_name no_name (owner o) at (record_meaning cs x)

abbrev pub ReadKeyed : ℕ → Read → Option ℕ → Type 0
ReadKeyed o r k = (cs : List ℕ) (at : ℕ) → named k at ≡ found_at of_source (λ q. of_target) head_name (λ q at. []) start_name no_name (owner o) at (meaning cs r)

abbrev pub clash_test : ℕ → ℕ → Bool
clash_test a b =
    eqb (a / 64) (b / 64) && not (eqb (a % 64) 2 && eqb (b % 64) 3 || eqb (a % 64) 3 && eqb (b % 64) 2)

-- whether an id clashes with one of the first n numbers; where it does not, what the numbers are with it
abbrev pub Meets : List ℕ → ℕ → Option ℕ → Bool → List ℕ → ℕ → Type 0
Meets keys n None r keys' n' = (r ≡ false) × (keys' ≡ keys) × (n' ≡ n)
Meets keys n (Some k) r keys' n' = (r ≡ any (clash_test k) (take n keys)) × (r ≡ false → (keys' ≡ set keys n k) × (n' ≡ n + 1))

-- the number by a marker's key: an end gives no id
unfoldable pub name_by : ℕ → ℕ → Option ℕ
name_by o k = cond (eqb (class_key k) 0 || eqb (half_key k) 2) None (Some (id_key k * 64 + o))

-- the owner after a head: 0 for SG and IG, 1 for TG, 2 for all else
abbrev pub owner_by : ℕ → ℕ → ℕ
owner_by head o = cond (eqb head 0) 2 (cond (eqb head 1) 3 o)

-- the number is that of the id which the record at an offset gives, where one stands and `head` is 0 if it begins a
-- part
abbrev pub NameAt : List ℕ → ℕ → ℕ → ℕ → Option ℕ → Type 0
NameAt t at head o k = (rs : List encode.Record) → At t at rs → at < length t → ((head ≡ 0 → ⊥) → is_part (read (drop at t)) ≡ false)
    → named k at ≡ found_at of_source (λ q. of_target) head_name (λ q at. []) start_name no_name (owner o) at (read (drop at t))
