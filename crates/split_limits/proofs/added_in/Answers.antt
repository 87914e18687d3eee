use native.Mathlib.Omega.{arith}
use mathlib.Core.Path.{subst}
use Rattle.split_limits.proofs.AddedLaws.{content_added, none_zero, some_one}
use Rattle.split_limits.specs.Added.{ContentAdded}
use Rattle.xliff.specs.Encode.{content_records}
use Rattle.split_limits.proofs.added_in.Goals as goal

-- walk::place_of(c, k)
pub place_of-p-requires : goal.place_of-p-requires
place_of-p-requires c =
    let (xs, o) = c.requires in
    (content_records xs, o)

-- return 0
pub returns-then-p-eq0 : goal.returns-then-p-eq0
returns-then-p-eq0 c =
    let args = c.args in
    let k = args.k in
    let place_of = c.place_of-p in
    λ xs o.
    subst (ContentAdded k xs) (none_zero place_of.result.into c.if-p-eq0.true)
    (content_added k args.c.now xs place_of.result o (place_of.ensures (content_records xs) o))

-- 1
pub returns : goal.returns
returns c =
    let args = c.args in
    let k = args.k in
    let place_of = c.place_of-p in
    λ xs o.
    subst (ContentAdded k xs) (some_one place_of.result.into (omega arith))
    (content_added k args.c.now xs place_of.result o (place_of.ensures (content_records xs) o))
