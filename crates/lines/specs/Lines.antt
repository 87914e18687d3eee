-- A table's line without its line feed.
use Rattle.std.specs.Prelude.{ℕ, List}
use Rattle.xliff.specs.Bytes.{gather}
use Rattle.xliff.specs.Desk.{hex_byte}

unfoldable pub hex : List ℕ → List ℕ
hex t = gather hex_byte t
