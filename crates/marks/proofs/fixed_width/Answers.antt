use mathlib.Core.Path.{sym, ap}
use Rattle.xliff.specs.Bytes.{two_at}
use Rattle.marks.specs.Marks.{fixed_width}
use Rattle.marks.proofs.fixed_width.Goals as goal

-- Unknown
pub returns-in-Unknown : goal.returns-in-Unknown
returns-in-Unknown c = sym (ap fixed_width c.in-Unknown.is)

-- UN
pub returns-in-UN : goal.returns-in-UN
returns-in-UN c = sym (ap fixed_width c.in-UN.is)

-- UE
pub returns-in-UE : goal.returns-in-UE
returns-in-UE c = sym (ap fixed_width c.in-UE.is)

-- SG
pub returns-in-SG : goal.returns-in-SG
returns-in-SG c = sym (ap fixed_width c.in-SG.is)

-- IG
pub returns-in-IG : goal.returns-in-IG
returns-in-IG c = sym (ap fixed_width c.in-IG.is)

-- TG
pub returns-in-TG : goal.returns-in-TG
returns-in-TG c = sym (ap fixed_width c.in-TG.is)

-- TX
pub returns-in-TX : goal.returns-in-TX
unfolding two_at
returns-in-TX c = sym (ap fixed_width c.in-TX.is)

-- CP
pub returns-in-CP : goal.returns-in-CP
returns-in-CP c = sym (ap fixed_width c.in-CP.is)
