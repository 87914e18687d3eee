-- A table with the target of one part removed, in pieces as it is written.
use Rattle.std.specs.Prelude.{ℕ, List, ◌++◌}
use Rattle.xliff.specs.Unit.{Part, XliffUnit, with_state}
use Rattle.xliff.specs.Encode.{head_bytes, content_bytes, encode}
use Rattle.xliff.specs.Parse.{unit}
use Rattle.xliff.specs.Focus.{here, with_parts}
use Rattle.xliff.specs.RemoveTarget.{remove_focus}
use Rattle.writer.specs.Pieces.{Written}
use Rattle.xliff.specs.Good.{bytes_of, opened}
use Rattle.part_at.specs.declared.PartPlace.{PartPlace}
use Rattle.part_at.specs.Stands.{PartStands}

-- the table up to the end of the source of the part p behind the parts b, the state of p being st
abbrev pub to_source : ℕ → XliffUnit → List Part → Part → List ℕ
to_source st u b p = ((opened u ++ bytes_of b) ++ head_bytes (with_state st p.head)) ++ content_bytes p.source

abbrev pub WroteToSource : ℕ → List ℕ → PartPlace → List ℕ → ℕ → List ℕ → Type 0
WroteToSource st t place out n last =
    (b : List Part) (p : Part) (a : List Part) → PartStands t b p a place → Written (to_source st (unit t) b p) out n last

-- the unit without the target of p
unfoldable pub removed_unit : XliffUnit → List Part → Part → List Part → XliffUnit
removed_unit u b p a = with_parts u (remove_focus u.parts (here b p a))

abbrev pub WroteRemoved : List ℕ → PartPlace → List ℕ → ℕ → List ℕ → Type 0
WroteRemoved t place out n last = (b : List Part) (p : Part) (a : List Part) → PartStands t b p a place → Written (encode (removed_unit (unit t) b p a)) out n last
