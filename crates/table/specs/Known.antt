-- What the reader finds where a text's characters are not looked at.
use Rattle.std.specs.Prelude.{ℕ, ◌≤◌, ◌≡◌, List, length}
use Rattle.xliff.specs.Encode.{ill_text, record_bytes}
use Rattle.xliff.specs.Parse.{read}
use Rattle.table.specs.Meaning.{meaning, width, body}
use Rattle.table.specs.declared.Record.TheVariants.{Text}
use Rattle.table.specs.declared.Read.{Read}
use Rattle.table.specs.declared.Read.TheVariants.{Good}

-- the record that the specification reads there, and its width; or a text, where the specification reads one that is
-- not of XML's characters
pub data Known (t : List ℕ) : Read → Type 0 where
  same_record : {r : Read} → meaning (body t) r ≡ read t → width r ≡ length (record_bytes (read t)) → Known t r
  some_text : {w : ℕ} → read t ≡ ill_text → Known t (Good Text w)

-- the width of what the reader finds so: no more than there are bytes
pub record KnownWidth (t : List ℕ) (w : ℕ) : Type 0 where
  pub found : Read
  pub known : Known t found
  pub wide : w ≡ width found
  pub fits : w ≤ length t
