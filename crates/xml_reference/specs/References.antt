-- Parts of the definitions of references, one for each function of the program.
use Rattle.std.specs.Prelude.{ℕ, ◌≡◌, Bool, true, false, ◌&&◌, cond, List, [], ◌∷◌, length, eqb, leb, Option as RustOption, Some, None}
use Rattle.std.specs.Borrow.{Bor}
use Rattle.std.specs.List.{list_all}
use Rattle.xliff.specs.Text.{xml_allows}
use Rattle.xml.specs.Characters.{semicolon, Front, found, wrong, begins, in_a_name}
use Rattle.xml_front.specs.declared.Front.{Front as Told}

-- all bytes go on with a name
abbrev pub all_name : List ℕ → Bool
all_name t = list_all in_a_name t

-- the first of these entities at the front, else f
unfoldable pub entities_else : Front → List (Bor (List ℕ) × ℕ) → List ℕ → Front
entities_else f [] s = f
entities_else f (e ∷ es) s = cond (begins e.0.now s) (found e.1 (length e.0.now)) (entities_else f es s)

abbrev pub EntityTold : RustOption Told → List (Bor (List ℕ) × ℕ) → List ℕ → Type 0
EntityTold (Some t) es s = (f : Front) → entities_else f es s ≡ found t.point t.more
EntityTold None es s = (f : Front) → entities_else f es s ≡ f

abbrev pub base_of : Bool → ℕ
base_of true = 16
base_of false = 10

-- a number that no code point reaches, for all of them
unfoldable pub capped : ℕ → ℕ
capped v = cond (leb v 0x10FFFF) v 0x110000

-- what a byte behind the digits makes of them
unfoldable pub numeric_end : ℕ → Bool → ℕ → ℕ → Front
numeric_end b any value size = cond (eqb b semicolon && any && xml_allows value) (found value size) wrong
