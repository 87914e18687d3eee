-- Texts passed in blocks. The tests of neighbouring bytes are stepping stones: what a text is, `Utf8` says.
use Rattle.std.specs.Prelude.{ℕ, zero, suc, ◌≤◌, ◌<◌, ◌≡◌, Bool, true, false, ◌&&◌, ◌||◌, not, List, get_or, length, drop, eqb, leb, ltb, Option, Some, None}
use Rattle.text.specs.Utf8.{within, trail, text_ok}

-- both or neither
abbrev pub alike : Bool → Bool → Bool
alike a b = a && b || not a && not b

-- C0 and C1, which are in no character
abbrev pub nowhere : ℕ → Bool
nowhere c = eqb c 192 || eqb c 193

-- a byte of a character of one byte or of two, and the byte behind it
unfoldable pub pair_fits : ℕ → ℕ → Bool
pair_fits c d = within 32 223 c && (not (nowhere c) && alike (leb 194 c) (trail d))

-- of three bytes: a form too long, a surrogate, and where XML does not allow all
abbrev pub barred : ℕ → ℕ → Bool
barred c d = eqb c 0xE0 && ltb d 0xA0 || eqb c 0xED && ltb 0x9F d || eqb c 0xEF && eqb d 0xBF

-- a byte of a character of one byte, two or three, and the two bytes behind it
unfoldable pub triple_fits : ℕ → ℕ → ℕ → Bool
triple_fits c d e =
    within 32 239 c && (not (nowhere c) && (not (barred c d) && alike (leb 194 d || leb 224 c) (trail e)))

-- the first byte of a character, and the byte behind it
unfoldable pub opens_block : ℕ → ℕ → Bool
opens_block b c = not (trail b) && alike (leb 194 b) (trail c)

-- the tests at the head of a list
abbrev pub pair_at : List ℕ → Bool
pair_at l = pair_fits (get_or l 0 0) (get_or l 1 0)

abbrev pub triple_at : List ℕ → Bool
triple_at l = triple_fits (get_or l 0 0) (get_or l 1 0) (get_or l 2 0)

-- so many bytes pass a test, each with those behind it
unfoldable pub all_fit : (List ℕ → Bool) → ℕ → List ℕ → Bool
all_fit f zero l = true
all_fit f (suc k) l = f l && all_fit f k (drop 1 l)

-- from an offset on, characters up to another; or a fault
abbrev pub PassedText : List ℕ → ℕ → Option ℕ → Type 0
PassedText t at (Some e) = (at < e) × (e ≤ length t) × (text_ok (drop at t) ≡ text_ok (drop e t))
PassedText t at None = text_ok (drop at t) ≡ false
