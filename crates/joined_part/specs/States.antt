-- The code's states as those of the specification.
use Rattle.xliff.specs.State as spec
use Rattle.joined_part.specs.declared.states.State.{State}
use Rattle.joined_part.specs.declared.states.State.TheVariants.{Initial, Translated, Reviewed, Final}

abbrev pub state : State → spec.State
state Initial = spec.initial
state Translated = spec.translated
state Reviewed = spec.reviewed
state Final = spec.final
