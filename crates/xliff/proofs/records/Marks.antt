-- The two bytes of a mark: bytes that have a mark begin with it.
use Prim.Native.Nat.{ℕ}
use mathlib.Core.Path.{◌≡◌, refl}
use mathlib.Core.Bool.{Bool, true, false, cond}
use mathlib.Core.List.{List, [], ◌∷◌}
use lib.ListN.{get_or}
use borrow.Author.Tests.{eqb-true}
use lib.Dec.{eqb}
use Rattle.xliff.specs.Bytes.{'C', 'E', 'G', 'H', 'I', 'M', 'N', 'O', 'P', 'S', 'T', 'U', 'X'}
use Rattle.xliff.specs.Parse.{Mark, UN, UE, SG, IG, TG, TX, CP, PH, PO, PC, SC, EC, IS, IE, MO, SM, MC, EM, unknown, is, mark_of, mark_at}
use Rattle.xliff.proofs.lists.Tests.{and_left, and_right}

-- an unknown mark has none
abbrev pub mark_bytes : Mark → List ℕ
mark_bytes UN = 'U' ∷ 'N' ∷ []
mark_bytes UE = 'U' ∷ 'E' ∷ []
mark_bytes SG = 'S' ∷ 'G' ∷ []
mark_bytes IG = 'I' ∷ 'G' ∷ []
mark_bytes TG = 'T' ∷ 'G' ∷ []
mark_bytes TX = 'T' ∷ 'X' ∷ []
mark_bytes CP = 'C' ∷ 'P' ∷ []
mark_bytes PH = 'P' ∷ 'H' ∷ []
mark_bytes PO = 'P' ∷ 'O' ∷ []
mark_bytes PC = 'P' ∷ 'C' ∷ []
mark_bytes SC = 'S' ∷ 'C' ∷ []
mark_bytes EC = 'E' ∷ 'C' ∷ []
mark_bytes IS = 'I' ∷ 'S' ∷ []
mark_bytes IE = 'I' ∷ 'E' ∷ []
mark_bytes MO = 'M' ∷ 'O' ∷ []
mark_bytes SM = 'S' ∷ 'M' ∷ []
mark_bytes MC = 'M' ∷ 'C' ∷ []
mark_bytes EM = 'E' ∷ 'M' ∷ []
mark_bytes unknown = []

-- two bytes are these, if there are two
abbrev pub Both : List ℕ → ℕ → ℕ → Type 0
Both [] a b = Unit {0}
Both (x ∷ []) a b = Unit {0}
Both (x ∷ y ∷ l) a b = (a ≡ x) × (b ≡ y)

abbrev pub Spells : ℕ → ℕ → Mark → Type 0
Spells a b m = Both (mark_bytes m) a b

is_true : (m n a b : ℕ) → is m n a b ≡ true → (a ≡ m) × (b ≡ n)
unfolding is
is_true m n a b p = (eqb-true a m (and_left _ _ p), eqb-true b n (and_right (eqb a m) _ p))

one_mark : (a b : ℕ) (t : Bool) (m n : Mark) → (t ≡ true → Spells a b m) → Spells a b n → Spells a b (cond t m n)
one_mark a b true m n f g = f refl
one_mark a b false m n f g = g

spells : (a b : ℕ) → Spells a b (mark_of a b)
unfolding mark_of
spells a b =
    one_mark a b _ UN _ (is_true 'U' 'N' a b) (
    one_mark a b _ UE _ (is_true 'U' 'E' a b) (
    one_mark a b _ SG _ (is_true 'S' 'G' a b) (
    one_mark a b _ IG _ (is_true 'I' 'G' a b) (
    one_mark a b _ TG _ (is_true 'T' 'G' a b) (
    one_mark a b _ TX _ (is_true 'T' 'X' a b) (
    one_mark a b _ CP _ (is_true 'C' 'P' a b) (
    one_mark a b _ PH _ (is_true 'P' 'H' a b) (
    one_mark a b _ PO _ (is_true 'P' 'O' a b) (
    one_mark a b _ PC _ (is_true 'P' 'C' a b) (
    one_mark a b _ SC _ (is_true 'S' 'C' a b) (
    one_mark a b _ EC _ (is_true 'E' 'C' a b) (
    one_mark a b _ IS _ (is_true 'I' 'S' a b) (
    one_mark a b _ IE _ (is_true 'I' 'E' a b) (
    one_mark a b _ MO _ (is_true 'M' 'O' a b) (
    one_mark a b _ SM _ (is_true 'S' 'M' a b) (
    one_mark a b _ MC _ (is_true 'M' 'C' a b) (
    one_mark a b _ EM _ (is_true 'E' 'M' a b) (
    tt))))))))))))))))))

pub spells_at : (s : List ℕ) → Spells (get_or s 0 0) (get_or s 1 0) (mark_at s)
unfolding mark_at
spells_at [] = tt
spells_at (a ∷ []) = tt
spells_at (a ∷ b ∷ s) = spells a b
