-- Stepping stone: the shown form of a half, as the code asks for it.
use Rattle.std.specs.Prelude.{ℕ, List}
use Rattle.xliff.specs.Item.{Half, start, end}
use Rattle.sheet.specs.Column.{start_form, end_form}

abbrev pub half_form : Half → ℕ → List ℕ
half_form start i = start_form i
half_form end i = end_form i
