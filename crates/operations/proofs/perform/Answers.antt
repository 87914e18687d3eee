use native.Mathlib.Omega.{arith}
use Rattle.xliff.specs.Calls.{outcome}
use Rattle.operations.proofs.perform.Goals as goal

-- set_content(table, part, state, s, length, out)
pub set_content-requires : goal.set_content-requires
set_content-requires c =
    let pre = c.requires in
    let fits = rw c.in-SetTarget.is at pre in
    omega (arith, fits)

-- Request::Split { part, source_cut, target_cut, id } => split::split(table, part, source_cut, target_cut, id, out)
pub returns-in-Split : goal.returns-in-Split
unfolding outcome
returns-in-Split c = rw c.in-Split.is c.split.ensures

-- Request::Join { part } => join::join(table, part, out)
pub returns-in-Join : goal.returns-in-Join
unfolding outcome
returns-in-Join c = rw c.in-Join.is c.join.ensures

-- Request::SetTarget { part, state, length } => set_content(table, part, state, s, length, out)
pub returns-in-SetTarget : goal.returns-in-SetTarget
unfolding outcome
returns-in-SetTarget c = rw c.in-SetTarget.is c.set_content.ensures

-- Request::RemoveTarget { part } => remove_target::remove_target(table, part, out)
pub returns-in-RemoveTarget : goal.returns-in-RemoveTarget
unfolding outcome
returns-in-RemoveTarget c = rw c.in-RemoveTarget.is c.remove_target.ensures

-- Request::Rewrite { side, id, form } => rewrite::rewrite(table, side, id, form, out)
pub returns-in-Rewrite : goal.returns-in-Rewrite
unfolding outcome
returns-in-Rewrite c = rw c.in-Rewrite.is c.rewrite.ensures
