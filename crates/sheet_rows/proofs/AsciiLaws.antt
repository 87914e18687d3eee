-- Ids, states and padding: one byte for each cell.
use Prim.Native.Nat.{ℕ, ◌-◌, ◌<◌}
use native.Mathlib.Omega.{arith}
use mathlib.Core.Bool.{Bool, true, false, cond}
use mathlib.Core.List.{List, []}
use lib.ListN.{length, replicate}
use lib.Dec.{eqb}
use Rattle.xliff.specs.State.{state_letters}
use Rattle.xliff.specs.Unit.{Head, segment, ignorable}
use Rattle.xliff.specs.Desk.{decimal, blank}
use Rattle.xliff.specs.Good.{each_nil, each_cons, GoodHead}
use Rattle.xliff.proofs.lists.Each.{each_append, each_among}
use Rattle.sheet.specs.Sheet.{id_cells, state_cells, right_aligned, padded}
use Rattle.sheet.proofs.Ascii.{Ascii, blanks_ascii, decimal_ascii}

pub id_ascii : (i : ℕ) → Ascii (id_cells i)
unfolding id_cells
id_ascii i = by (eqb i 0)
  where
    by : (b : Bool) → Ascii (cond b [] (decimal i))
    by true = each_nil
    by false = decimal_ascii i

pub state_ascii : (h : Head) → GoodHead h → Ascii (state_cells h)
unfolding state_cells
state_ascii (segment f) (g, k) = each_cons {x = f.state} letter each_nil
  where
    letter : f.state < 128
    letter =
        each_among (λ (s : ℕ). s < 128) state_letters
        (each_cons (omega arith) (each_cons (omega arith) (each_cons (omega arith) (each_cons (omega arith) each_nil))))
        f.state k
state_ascii (ignorable i) g = each_nil

pub aligned_ascii : (n : ℕ) (s : List ℕ) → Ascii s → Ascii (right_aligned n s)
unfolding right_aligned
aligned_ascii n s h = each_append (replicate (n - length s) blank) s (blanks_ascii (n - length s)) h

pub padded_ascii : (n : ℕ) (s : List ℕ) → Ascii s → Ascii (padded n s)
unfolding padded
padded_ascii n s h = each_append s (replicate (n - length s) blank) h (blanks_ascii (n - length s))
