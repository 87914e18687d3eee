-- A rule that a result breaks.
use Rattle.std.specs.Prelude.{ℕ, Option as RustOption, None, Some}
use Rattle.std.proofs.Math.Option.{Option, none}
use Rattle.xliff.specs.Answer.{Refusal, refusal, applies, ◌then◌, of_result, Outcome, unless}
use Rattle.xliff.specs.Unit.{XliffUnit}
use Rattle.xliff.specs.Encode.{encode}
use Rattle.xliff.specs.Check.{too_large}

-- the refusal with the number of a broken rule, and place 0
abbrev pub broken : RustOption ℕ → Option Refusal
broken None = none
broken (Some n) = refusal n 0

-- what 15, and then some rules of the result, leave of it
unfoldable pub judged : ℕ → XliffUnit → Option Refusal → Outcome
judged room v rules = unless (applies 15 (too_large room v) then of_result rules) (encode v)
