use Rattle.split_limits.proofs.CountLaws.{counted}
use Rattle.xliff.specs.Encode.{content_records}
use Rattle.split_limits.proofs.has_enough.Goals as goal

-- walk::place_of(c, k)
pub place_of-requires : goal.place_of-requires
place_of-requires c =
    let (xs, o) = c.requires in
    (content_records xs, o)

-- walk::place_of(c, k).left == 0
pub returns : goal.returns
returns c =
    let args = c.args in
    let place_of = c.place_of in
    λ xs o.
    (counted args.k args.c.now xs place_of.result o (place_of.ensures (content_records xs) o)).enough
