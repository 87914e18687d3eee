use mathlib.Core.Path.{refl}
use native.Mathlib.Omega.{arith}
use Rattle.job.proofs.StepLaws.{put_keeps}
use Rattle.job.proofs.keep.Goals as goal

pub returns-in-Accepted : goal.returns-in-Accepted
returns-in-Accepted c =
    let put = c.put in
    let f = rw c.in-Accepted.is at c.requires.1 in
    rw c.in-Accepted.is (put_keeps c.args.table.now c.args.kept.now put.new.out c.in-Accepted.m
    put.result (omega (arith, f, c.told-kept)) c.told-kept put.ensures.0 put.ensures.1)

pub returns-in-Refused : goal.returns-in-Refused
returns-in-Refused c = rw c.in-Refused.is (refl, c.requires.0)
