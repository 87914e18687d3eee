-- The dataRef of the end of a pc, found by counting the pc and mrk that are open behind its start.
use Prim.Native.Nat.{ℕ, zero, suc}
use mathlib.Core.Path.{◌≡◌, refl, sym, ap, ◌∙◌}
use mathlib.Core.Bool.{Bool, true, false, cond}
use mathlib.Core.List.{List, [], ◌∷◌}
use lib.ListN.{drop}
use lib.Seq.{drop-nil}
use Rattle.xliff.specs.Item.{Item, Content, is_form_P, is_start_half, fields}
use Rattle.xml.specs.Write.{behind_first, pending, first_data}

-- an end behind n open starts: the first that closes none of them
unfoldable pub at_closing : ℕ → Item → (ℕ → ℕ) → ℕ
at_closing zero x go = (fields x).data_ref
at_closing (suc n) x go = go n

unfoldable pub end_data : ℕ → Content → ℕ
end_data n [] = 0
end_data n (x ∷ xs) =
    cond (is_form_P x) (cond (is_start_half x) (end_data (suc n) xs) (at_closing n x (λ m. end_data m xs))) (end_data n xs)

-- one end less
drop_behind : (n : ℕ) (p : List Item) → drop (suc n) p ≡ drop n (behind_first p)
unfolding behind_first
drop_behind n [] = sym (drop-nil n)
drop_behind n (y ∷ p) = refl

pub end_data_pending : (xs : Content) (n : ℕ) → end_data n xs ≡ first_data (drop n (pending xs))
unfolding end_data pending first_data at_closing
end_data_pending [] n = ap first_data (sym (drop-nil n))
end_data_pending (x ∷ xs) n = by n (is_form_P x) (is_start_half x) (pending xs) (λ m. end_data_pending xs m)
  where
    by : (n : ℕ) (a b : Bool) (p : List Item) → ((m : ℕ) → end_data m xs ≡ first_data (drop m p))
        → cond a (cond b (end_data (suc n) xs) (at_closing n x (λ m. end_data m xs))) (end_data n xs)
        ≡ first_data (drop n (cond a (cond b (behind_first p) (x ∷ p)) p))
    by n true true p ih = ih (suc n) ∙ ap first_data (drop_behind n p)
    by zero true false p ih = refl
    by (suc n) true false p ih = ih n
    by n false b p ih = ih n

-- so it is what the writer writes
pub end_data_written : (xs : Content) → first_data (pending xs) ≡ end_data 0 xs
end_data_written xs = sym (end_data_pending xs 0)
