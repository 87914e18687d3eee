use Rattle.keys.proofs.FilledLaws.{filling_start, filling_next}
use Rattle.contents.proofs.BarLaws.{keys_filled}
use Rattle.contents.proofs.bar_keys.Goals as goal

-- no key yet
pub loop-i-init : goal.loop-i-init
loop-i-init c = filling_start _ _ _

-- one key more
pub loop-i-preserved : goal.loop-i-preserved
loop-i-preserved c =
    let wide = c.wide in
    filling_next c.loop-i.invariant c.loop-i-test.true c.requires
    wide.result c.bar_key.result wide.ensures.0 c.bar_key.ensures

-- all keys
pub returns : goal.returns
returns c =
    let args = c.args in
    let loop = c.loop-i in
    let inv = loop.invariant in
    (keys_filled args.t.now args.markers.now loop.out loop.i inv.within c.loop-i-test.false inv.filled, inv.sized)
