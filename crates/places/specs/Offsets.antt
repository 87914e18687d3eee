-- Stepping stones: what stands at an offset of a table.
use Rattle.std.specs.Prelude.{ℕ, ◌≤◌, ◌≡◌, List, [], ◌∷◌, length, drop}
use Rattle.xliff.specs.Item.{Item}
use Rattle.xliff.specs.Encode.{Record, text_run, inline, spell}
use Rattle.xliff.specs.Good.{AllGood}

-- at an offset these good records are what is left of the table
pub record At (t : List ℕ) (at : ℕ) (rs : List Record) : Type 0 where
  pub good : AllGood rs
  pub rest : spell rs ≡ drop at t
  pub within : at ≤ length t

-- the records of a content are texts and inline ones
pub data Inner : List Record → Type 0 where
  no_inner : Inner []
  text_inner : {cs : List ℕ} {rs : List Record} → Inner rs → Inner (text_run cs ∷ rs)
  inline_inner : {x : Item} {rs : List Record} → Inner rs → Inner (inline x ∷ rs)
