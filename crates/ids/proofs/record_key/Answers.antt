use Rattle.ids.specs.Keys.{owner}
use Rattle.ids.proofs.KeyLaws.{no_id}
use Rattle.places.specs.Found.{found_at}
use Rattle.xliff.specs.Unit.{head_id}
use Rattle.ids.proofs.record_key.Goals as goal

pub returns-in-Segment : goal.returns-in-Segment
unfolding found_at head_id
returns-in-Segment c = rw c.in-Segment.is (λ cs at. c.head_key.ensures at)

pub returns-in-Ignorable : goal.returns-in-Ignorable
unfolding found_at head_id
returns-in-Ignorable c = rw c.in-Ignorable.is (λ cs at. c.head_key-in-Ignorable.ensures at)

pub returns-in-Inline : goal.returns-in-Inline
unfolding found_at head_id
returns-in-Inline c = rw c.in-Inline.is (λ cs at. c.item_key.ensures at)

pub returns-in_default : goal.returns-in_default
returns-in_default c =
    let other = c.in_default in
    λ cs at. no_id (owner c.args.o) cs at c.args.x other.not-Segment other.not-Ignorable other.not-Inline
