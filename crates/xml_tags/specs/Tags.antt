-- Stepping stones: attributes, one behind the other.
use Rattle.std.specs.Prelude.{ℕ, List}
use Rattle.xliff.specs.Bytes.{gather}
use Rattle.xml.specs.Tokens.{Attribute}
use Rattle.xml.specs.Write.{attribute_bytes}

abbrev pub attributes_bytes : List Attribute → List ℕ
attributes_bytes ats = gather attribute_bytes ats
