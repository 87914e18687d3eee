-- What the program tells of the front of bytes.
use Rattle.std.specs.Prelude.{ℕ, Option as RustOption, Some, None, Result, Ok, Err}
use Rattle.std.proofs.Math.Option.{Option, none, some}
use Rattle.xml.specs.Characters.{Front, found, cut, wrong}
use Rattle.xml_front.specs.declared.Front.{Front as Told}
use Rattle.xml_front.specs.declared.Flaw.{Flaw}
use Rattle.xml_front.specs.declared.Flaw.TheVariants.{Cut, Wrong}

abbrev pub told : Result Told Flaw → Front
told (Ok f) = found f.point f.more
told (Err Cut) = cut
told (Err Wrong) = wrong

-- what is blamed: where a text ends that cuts what begins at a place, or that place
abbrev pub place_blamed : Flaw → ℕ → ℕ → ℕ
place_blamed Cut at end = end
place_blamed Wrong at end = at

-- a number that the program tells, or none
abbrev pub number_told : RustOption ℕ → Option ℕ
number_told (Some x) = some x
number_told None = none
