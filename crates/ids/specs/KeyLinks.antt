-- The ids met so far, linked by their groups.
use Rattle.std.specs.Prelude.{ℕ, ◌≡◌, List, length}
use Rattle.id_links.specs.Links.{Linked, Headed}
use Rattle.xliff.specs.Parse.{most_records}

abbrev pub Links : List ℕ → List ℕ → List ℕ → Type 0
Links keys links heads = (length links ≡ most_records) × (length heads ≡ 256) × Linked keys links × Headed keys heads
