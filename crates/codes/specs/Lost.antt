-- Codes that a new content has lost. Document 01, set target: "18: a half or code with canDelete N of [the old
-- content] is not in the new content with
-- every field equal (marks compared as when flattened)".
use Rattle.xliff.specs.Good.{gets}
use Rattle.std.specs.Prelude.{ℕ, ◌≡◌, Bool, not, ◌&&◌, is_some, List, get_or, eqb}
use Rattle.xliff.specs.Bytes.{'N', equal, any}
use Rattle.xliff.specs.Item.{Item, Content, fields}
use Rattle.xliff.specs.Encode.{Record, code_bytes}
use Rattle.xliff.specs.SetTarget.{is_lost}
use Rattle.walk.specs.Kept.{Of, items, Holds}
use Rattle.codes.specs.Codes.{code_at, code, are_same}

-- the code at the head of t is non-removable
unfoldable pub non_removable_at : List ℕ → Bool
non_removable_at t = is_some (code_at t) && eqb (get_or t 9 0) 'N'

-- the ten bytes of a code's fields
unfoldable pub fields_at : List ℕ → List ℕ
fields_at t = gets 2 10 t

-- the code at the head of t and that at the head of u are the same, flattened
unfoldable pub same_at : List ℕ → List ℕ → Bool
same_at t u = are_same (code_at u) (code_at t) && equal (fields_at t) (fields_at u)

-- the item y is the code at the head of t
unfoldable pub is_code_at : List ℕ → Item → Bool
is_code_at t y = are_same (code y) (code_at t) && equal (fields_at t) (code_bytes (fields y))

unfoldable pub lost_at : Content → List ℕ → Bool
lost_at ys t = non_removable_at t && not (any (is_code_at t) ys)

-- the answers r for bytes d, whatever records they are of
abbrev pub HasCode : List ℕ → List ℕ → Bool → Type 0
HasCode d t r = (qs : List Record) → Of d qs → r ≡ any (is_code_at t) (items qs)

abbrev pub CodeLost : List ℕ → List ℕ → Bool → Type 0
CodeLost d t r = (qs : List Record) → Of d qs → r ≡ lost_at (items qs) t

-- 18, for an old content c and a new content d
abbrev pub AnyLost : List ℕ → List ℕ → Bool → Type 0
AnyLost c d r = (xs ys : Content) → Holds c xs → Holds d ys → r ≡ any (is_lost ys) xs
