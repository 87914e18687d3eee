-- The pair or annotation of an id in a sequence, as the code finds it.
use Rattle.std.specs.Prelude.{ℕ, Bool, ◌&&◌, eqb, Option as RustOption, Some, None}
use Rattle.std.proofs.Math.Option.{Option, none, some}
use Rattle.xliff.specs.Item.{is_form_P}
use Rattle.xliff.specs.Rewrite.{Whole, unfit_letter}
use Rattle.keys.specs.Keys.{half_key, id_key}
use Rattle.whole_pair.specs.declared.WholePair.{WholePair}

-- what the refusals of rewrite ask of it
unfoldable pub pair_of : Option Whole → RustOption WholePair
pair_of none = None
pair_of (some p) = Some (record { form_p = is_form_P p.start; unfit = unfit_letter p })

-- whether a marker of this key is a start half of the id
abbrev pub starts : ℕ → ℕ → Bool
starts i key = eqb (half_key key) 1 && eqb (id_key key) i
