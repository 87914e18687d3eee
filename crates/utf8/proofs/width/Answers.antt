use Rattle.utf8.proofs.Steps.{one_byte, two_bytes, three_bytes, four_bytes}
use lib.ListN.{length}
use mathlib.Core.Path.{sym, ap}
use native.Mathlib.Omega.{arith}
use Rattle.utf8.proofs.width.Goals as goal

-- src/lib.rt:13:9
pub returns-then-c-lt128 : goal.returns-then-c-lt128
returns-then-c-lt128 c = (sym (ap length (one_byte _ c.if-c-lt128.true)), omega arith)

-- src/lib.rt:16:9
pub returns-then-c-lt2048 : goal.returns-then-c-lt2048
returns-then-c-lt2048 c = (sym (ap length (two_bytes _ c.if-c-lt128.false c.if-c-lt2048.true)), omega arith)

-- src/lib.rt:19:9
pub returns-then-c-lt65536 : goal.returns-then-c-lt65536
returns-then-c-lt65536 c = (sym (ap length (three_bytes _ c.if-c-lt2048.false c.if-c-lt65536.true)), omega arith)

-- src/lib.rt:9:1
pub returns : goal.returns
returns c = (sym (ap length (four_bytes _ c.if-c-lt65536.false)), omega arith)
