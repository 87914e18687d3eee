-- Cells that are one byte each: numbers, shown forms other than text, blanks.
use Prim.Native.Nat.{ℕ, zero, suc, ◌+◌, ◌/◌, ◌%◌, ◌<◌}
use native.Mathlib.Omega.{arith}
use mathlib.Core.Path.{◌≡◌, refl, ap}
use mathlib.Core.Bool.{Bool, true, false, cond}
use mathlib.Core.List.{List, [], ◌∷◌}
use lib.ListN.{replicate}
use lib.Dec.{ltb}
use borrow.Author.Tests.{lt-ltb}
use Rattle.xliff.specs.Bytes.{gather}
use Rattle.xliff.specs.Text.{utf8, utf8s}
use Rattle.xliff.specs.Good.{Each, each_nil, each_cons}
use Rattle.xliff.specs.Desk.{digits, decimal, blank}
use Rattle.xliff.proofs.lists.Each.{each_append}
use Rattle.sheet.specs.Column.{right_brace, start_form, end_form}

abbrev pub Ascii : List ℕ → Type 0
Ascii s = Each (λ (c : ℕ). c < 128) s

pub ascii_bytes : (s : List ℕ) → Ascii s → utf8s s ≡ s
unfolding utf8s gather utf8
ascii_bytes [] each_nil = refl
ascii_bytes (c ∷ s) (each_cons h r) = rw (lt-ltb c 128 h) (ap {B = List ℕ} (λ l. c ∷ l) (ascii_bytes s r))

pub blanks_ascii : (n : ℕ) → Ascii (replicate n blank)
blanks_ascii zero = each_nil
blanks_ascii (suc n) = each_cons {x = blank} (omega arith) (blanks_ascii n)

digits_ascii : (f n : ℕ) (rest : List ℕ) → Ascii rest → Ascii (digits f n rest)
unfolding digits
digits_ascii zero n rest h = h
digits_ascii (suc f) n rest h = by (ltb n 10) (digits_ascii f (n / 10) ((48 + n % 10) ∷ rest) first)
  where
    first : Ascii ((48 + n % 10) ∷ rest)
    first = each_cons {x = 48 + n % 10} (omega arith) h

    by : (b : Bool) → Ascii (digits f (n / 10) ((48 + n % 10) ∷ rest))
        → Ascii (cond b ((48 + n % 10) ∷ rest) (digits f (n / 10) ((48 + n % 10) ∷ rest)))
    by true q = first
    by false q = q

pub decimal_ascii : (n : ℕ) → Ascii (decimal n)
unfolding decimal
decimal_ascii n = digits_ascii 20 n [] each_nil

pub start_ascii : (i : ℕ) → Ascii (start_form i)
unfolding start_form
start_ascii i = each_cons {x = 123} (omega arith) (decimal_ascii i)

pub end_ascii : (i : ℕ) → Ascii (end_form i)
unfolding end_form
end_ascii i =
    each_append (decimal i) (right_brace ∷ []) (decimal_ascii i) (each_cons {x = 125} (omega arith) each_nil)
