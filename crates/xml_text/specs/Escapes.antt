-- Stepping stones: the escapes of a text, byte by byte. A byte of a code point that takes more than one is above 127,
-- and stays as it is.
use Rattle.std.specs.Prelude.{ℕ, cond, List, [], ◌∷◌, eqb}
use Rattle.xliff.specs.Bytes.{gather}
use Rattle.xml.specs.Words.{'amp', 'lt', 'gt'}
use Rattle.xml.specs.Characters.{'<', '>', '&', '#', semicolon, carriage_return}

unfoldable pub escaped_byte : ℕ → List ℕ
escaped_byte b =
    cond (eqb b '&') ('&' ∷ 'amp') (cond (eqb b '<') ('&' ∷ 'lt') (cond (eqb b '>') ('&' ∷ 'gt')
    (cond (eqb b carriage_return) ('&' ∷ '#' ∷ 49 ∷ 51 ∷ semicolon ∷ []) (b ∷ []))))

abbrev pub escaped_bytes : List ℕ → List ℕ
escaped_bytes s = gather escaped_byte s
