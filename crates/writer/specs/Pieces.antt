-- Pieces written into a lent output.
use Rattle.std.specs.Prelude.{ℕ, ◌+◌, ◌-◌, ◌/◌, ◌%◌, ◌≡◌, List, [], ◌∷◌, ◌++◌, length, take, drop, get_or}

-- the output with a piece at its head
abbrev pub lead : List ℕ → List ℕ → List ℕ
lead piece out = piece ++ drop (length piece) out

-- this piece, n bytes long, is at the head of the output
abbrev pub Written : List ℕ → List ℕ → ℕ → List ℕ → Type 0
Written piece out n last = (n ≡ length piece) × (last ≡ lead piece out)

-- the rest that `&mut out[n..]` lends, and the output once it came back as y
abbrev pub rest : ℕ → List ℕ → List ℕ
rest n out = take (length out - n) (drop n out)

abbrev pub back : ℕ → List ℕ → List ℕ → List ℕ
back n out y = take n out ++ (y ++ drop (length out - n) (drop n out))

-- the output with a piece from an index on
abbrev pub overlay : List ℕ → ℕ → List ℕ → List ℕ
overlay out at piece = take at out ++ piece ++ drop (at + length piece) out

-- a two-byte number, high byte first
abbrev pub number_bytes : ℕ → List ℕ
number_bytes n = (n / 256) ∷ (n % 256) ∷ []

-- the two bytes of a mark
abbrev pub bytes_of_mark : List ℕ → List ℕ
bytes_of_mark m = get_or m 0 0 ∷ get_or m 1 0 ∷ []
