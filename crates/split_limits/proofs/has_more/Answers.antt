use Rattle.split_limits.proofs.CountLaws.{counted}
use Rattle.xliff.specs.Encode.{content_records}
use Rattle.split_limits.proofs.has_more.Goals as goal

-- walk::place_of(c, k)
pub place_of-requires : goal.place_of-requires
place_of-requires c =
    let (xs, o) = c.requires in
    (content_records xs, o)

-- walk::place_of(c, k).at < c.len()
pub returns : goal.returns
returns c =
    let args = c.args in
    λ xs o.
    (counted args.k args.c.now xs c.place_of.result o (c.place_of.ensures (content_records xs) o)
    ).inside
