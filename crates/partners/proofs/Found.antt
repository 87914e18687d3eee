-- Keys that a search finds: the first that passes a test, and whether there is one.
use Prim.Native.Nat.{ℕ, zero, suc, ◌+◌}
use mathlib.Core.Path.{◌≡◌, refl, sym, ap, ◌∙◌}
use mathlib.Core.Bool.{Bool, true, false, ◌||◌, cond}
use mathlib.Core.List.{List, [], ◌∷◌, reverse}
use native.Mathlib.Omega.{arith}
use lib.ListN.{length, take, drop, get_or}
use lib.Dec.{eqb}
use Rattle.std.specs.Prelude.{Option, None, Some}
use Rattle.std.specs.Option.{option_map}
use denote.Bor.{Bor}
use Rattle.std.specs.List.{list_any, find, range_with_len}
use Rattle.xliff.specs.Bytes.{any}
use Rattle.keys.specs.Keys.{is_other_key}
use Rattle.contents.specs.Contents.{is_bar, targeted}
use Rattle.partners.specs.Partners.{is_mark_alike, partner_s_Key, some_key}
use Rattle.partners.proofs.ScanLaws.{some_first, some_end}

-- the two words for: some key passes a test
pub any_is : (p : ℕ → Bool) (keys : List ℕ) → list_any p keys ≡ any p keys
unfolding any
any_is p [] = refl
any_is p (k ∷ keys) = ap (λ (b : Bool). p k || b) (any_is p keys)

abbrev pub is_target_bar : ℕ → Bool
is_target_bar k = eqb k 1

-- what is asked of the key that is found
abbrev pub found_by : (ℕ → Bool) → Option ℕ → Bool
found_by ask None = false
found_by ask (Some k) = ask k

-- of a search by reference
abbrev pub values : Option (Bor ℕ) → Option ℕ
values r = option_map (λ (k : Bor ℕ). k.now) r

pub asked : (ask : ℕ → Bool) (r o : Option (Bor ℕ)) (l : Option ℕ) → values r ≡ l → r ≡ o → found_by ask (values o) ≡ found_by ask l
asked ask r o l e is = ap (λ (x : Option (Bor ℕ)). found_by ask (values x)) (sym is) ∙ ap (found_by ask) e

-- the nearest of the marks of start and end alike to a key is its other half
partner_by : (k y : ℕ) (keys : List ℕ) (b : Bool) → found_by (is_other_key k) (find (is_mark_alike k) keys) ≡ partner_s_Key k keys
    → found_by (is_other_key k) (cond b (Some y) (find (is_mark_alike k) keys)) ≡ cond b (is_other_key k y) (partner_s_Key k keys)
partner_by k y keys true e = refl
partner_by k y keys false e = e

pub partner_found : (k : ℕ) (keys : List ℕ) → found_by (is_other_key k) (find (is_mark_alike k) keys) ≡ partner_s_Key k keys
unfolding partner_s_Key
partner_found k [] = refl
partner_found k (y ∷ keys) = partner_by k y keys (is_mark_alike k y) (partner_found k keys)

-- the next bar is a TG
bar_by : (k : ℕ) (keys : List ℕ) (b : Bool) → found_by is_target_bar (find is_bar keys) ≡ targeted keys
    → found_by is_target_bar (cond b (Some k) (find is_bar keys)) ≡ cond b (is_target_bar k) (targeted keys)
bar_by k keys true e = refl
bar_by k keys false e = e

pub bar_found : (keys : List ℕ) → found_by is_target_bar (find is_bar keys) ≡ targeted keys
unfolding targeted
bar_found [] = refl
bar_found (k ∷ keys) = bar_by k keys (is_bar k) (bar_found keys)

-- some key passes a test of it and of what stands before it and after it
abbrev pub passes_at : (List ℕ → ℕ → List ℕ → Bool) → List ℕ → ℕ → Bool
passes_at p keys i = p (reverse (take i keys)) (get_or keys i 0) (drop (i + 1) keys)

some_from : (p : List ℕ → ℕ → List ℕ → Bool) (keys : List ℕ) (i n : ℕ) → i + n ≡ length keys
    → list_any (passes_at p keys) (range_with_len i n) ≡ some_key p (reverse (take i keys)) (drop i keys)
some_from p keys i zero e = sym (some_end p keys i (omega arith))
some_from p keys i (suc n) e =
    ap (λ (b : Bool). passes_at p keys i || b) (some_from p keys (i + 1) n (omega arith))
    ∙ sym (some_first p keys i (omega arith))

pub some_is : (p : List ℕ → ℕ → List ℕ → Bool) (keys : List ℕ)
    → list_any (passes_at p keys) (range_with_len 0 (length keys)) ≡ some_key p [] keys
some_is p keys = some_from p keys 0 (length keys) (omega arith)
