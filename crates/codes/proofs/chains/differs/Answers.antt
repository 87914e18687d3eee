use mathlib.Core.List.{List}
use mathlib.Core.Path.{sym, ap₂, ◌∙◌}
use Prim.Native.Nat.{ℕ}
use native.Mathlib.Omega.{arith}
use lib.Dec.{eqb}
use Rattle.xliff.specs.Item.{Content}
use Rattle.xliff.specs.Encode.{content_records}
use Rattle.walk.specs.Kept.{Holds}
use Rattle.walk.proofs.WalkLaws.{rest_start}
use Rattle.codes.specs.Fixed.{From}
use Rattle.codes.proofs.CountLaws.{same_kept, differ_by_counts}
use Rattle.codes.proofs.chains.differs.Goals as goal

-- the records of a content stand from its first byte on
from_start : (c : List ℕ) (xs : Content) → Holds c xs → From c 0
from_start c xs h = (content_records xs, rest_start c (content_records xs) h, omega arith)

-- `same_codes(old, 0, new, 0, true)`
pub same_codes-requires : goal.same_codes-requires
same_codes-requires c =
    let args = c.args in
    let (xs, ys, h, k) = c.requires in
    (from_start args.old.now xs h, from_start args.new.now ys k)

-- the lists are the same
pub returns-then-same_codes : goal.returns-then-same_codes
returns-then-same_codes c =
    let args = c.args in
    let same_codes = c.same_codes in
    let if1 = c.if-same_codes.true in
    λ xs ys h k.
    let old = rest_start args.old.now (content_records xs) h in
    let new = rest_start args.new.now (content_records ys) k in
    same_kept xs ys (sym (same_codes.ensures _ _ old new) ∙ if1)

-- `same_codes(old, 0, new, 0, false)`
pub same_codes-first_stays-requires : goal.same_codes-first_stays-requires
same_codes-first_stays-requires c =
    let args = c.args in
    let (xs, ys, h, k) = c.requires in
    (from_start args.old.now xs h, from_start args.new.now ys k)

-- `chain_count(old)`
pub chain_count-requires : goal.chain_count-requires
chain_count-requires c =
    let args = c.args in
    let (xs, ys, h, k) = c.requires in
    from_start args.old.now xs h

-- `chain_count(new)`
pub chain_count-requires-2 : goal.chain_count-requires-2
chain_count-requires-2 c =
    let args = c.args in
    let (xs, ys, h, k) = c.requires in
    from_start args.new.now ys k

-- `uneven(old, new)`
pub uneven-requires : goal.uneven-requires
uneven-requires c =
    let args = c.args in
    let (xs, ys, h, k) = c.requires in
    (from_start args.old.now xs h, from_start args.new.now ys k)

-- they are not: so it goes by the three tests
pub returns : goal.returns
returns c =
    let args = c.args in
    let first-stays = c.same_codes-first_stays in
    let old-count = c.chain_count in
    let new-count = c.chain_count-2 in
    let uneven = c.uneven in
    λ xs ys h k.
    let old = rest_start args.old.now (content_records xs) h in
    let new = rest_start args.new.now (content_records ys) k in
    differ_by_counts xs ys first-stays.result (eqb old-count.result new-count.result) uneven.result
    (first-stays.ensures _ _ old new)
    (ap₂ eqb (old-count.ensures _ old) (new-count.ensures _ new))
    (uneven.ensures _ _ old new)
