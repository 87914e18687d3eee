-- The chains of a content counted and looked through, one after the other, and 19 by counts.
use Prim.Native.Nat.{ℕ, ◌+◌, ◌<◌, ◌≤◌}
use native.Mathlib.Omega.{arith}
use mathlib.Core.Path.{◌≡◌, refl, sym, ap, ap₂, ◌∙◌}
use mathlib.Core.Bool.{Bool, true, false, not, ◌&&◌, ◌||◌}
use mathlib.Core.List.Permᴰ
use mathlib.Core.List.{List}
use lib.ListN.{length}
use lib.Dec.{eqb}
use Rattle.xliff.specs.Bytes.{any}
use Rattle.xliff.specs.Item.{Content}
use Rattle.xliff.specs.Encode.{Record, content_records}
use Rattle.xliff.specs.SetTarget.{FixedCode, Chain, chains, chains_kept, fixed_list, fixed_differ, same_chain}
use Rattle.xliff.proofs.lists.Sum.{sum}
use Rattle.xliff.proofs.lists.Tests.{and_both, or_none, or_assoc}
use Rattle.xliff.proofs.operations.ChainCounts.{same_chain_true, same_chain_refl, perm_rearranged, uneven, rearranged_counted}
use Rattle.walk.specs.Kept.{items, Rest}
use Rattle.cut.proofs.HalfLaws.{items_of}
use Rattle.codes.specs.Chains.{followers, chains_in, codes_in, goes_on, Passed, NextChain, chain_at}
use Rattle.codes.proofs.MarkerChains.{next_chain, no_chain}

-- Each chain counts for w of it: those that stand before the offset `at` of c count for n
pub record Counted (w : Chain → ℕ) (c : List ℕ) (rs : List Record) (n at : ℕ) : Type 0 where
  pub from : List Record
  pub passed : Passed c from at
  pub total : n + sum w (chains_in from) ≡ sum w (chains_in rs)

pub counted_start : (w : Chain → ℕ) (c : List ℕ) (rs : List Record) (at : ℕ) → NextChain c 0 at → Rest c 0 rs
    → Counted w c rs 0 at
counted_start w c rs at n o = record { from = rs; passed = n.2 rs o; total = omega arith }

module _ (w : Chain → ℕ) (c : List ℕ) (rs : List Record) (n at : ℕ) (m : Counted w c rs n at) where
  -- one more
  pub counted_on : (h : goes_on c at false ≡ false) (l : at < length c) (k to : ℕ)
      → let x = next_chain c m.from at m.passed h l in k ≡ n + w (chain_at c at x.others)
      → NextChain c (at + 12) to → Counted w c rs k to
  counted_on h l k to e a =
      let x = next_chain c m.from at m.passed h l in
      record {
        from = x.others;
        passed = a.2 x.others x.rest;
        total = let s = ap (sum w) x.chains_on in omega (arith, m.total);
      }

  pub counted_end : length c ≤ at → n ≡ sum w (chains_in rs)
  counted_end l = let s = ap (sum w) (no_chain c m.from at m.passed l) in omega (arith, m.total)

-- Whether a chain passes a test p: r, whether one does that stands before the offset `at` of c
pub record Looked (p : Chain → Bool) (c : List ℕ) (rs : List Record) (r : Bool) (at : ℕ) : Type 0 where
  pub from : List Record
  pub passed : Passed c from at
  pub either : r || any p (chains_in from) ≡ any p (chains_in rs)

pub looked_start : (p : Chain → Bool) (c : List ℕ) (rs : List Record) (at : ℕ) → NextChain c 0 at → Rest c 0 rs
    → Looked p c rs false at
looked_start p c rs at n o = record { from = rs; passed = n.2 rs o; either = refl }

module _ (p : Chain → Bool) (c : List ℕ) (rs : List Record) (r : Bool) (at : ℕ) (m : Looked p c rs r at) where
  -- one more
  pub looked_on : (h : goes_on c at false ≡ false) (l : at < length c) (to : ℕ) (b : Bool)
      → let x = next_chain c m.from at m.passed h l in b ≡ p (chain_at c at x.others)
      → NextChain c (at + 12) to → Looked p c rs (r || b) to
  unfolding any
  looked_on h l to b e a =
      let x = next_chain c m.from at m.passed h l in
      let rest = any p (chains_in x.others) in
      record {
        from = x.others;
        passed = a.2 x.others x.rest;
        either =
            ap (λ (k : Bool). (r || k) || rest) e
            ∙ or_assoc r (p (chain_at c at x.others)) rest
            ∙ ap (λ (ds : List Chain). r || any p ds) (sym x.chains_on)
            ∙ m.either;
      }

  pub looked_end : length c ≤ at → r ≡ any p (chains_in rs)
  unfolding any
  looked_end l =
      sym (or_none r)
      ∙ ap (λ (ds : List Chain). r || any p ds) (sym (no_chain c m.from at m.passed l))
      ∙ m.either

-- 19 where no code has moved
pub same_kept : (xs ys : Content) → let old = content_records xs in let new = content_records ys in
    same_chain (codes_in true old) (codes_in true new) ≡ true → false ≡ fixed_differ xs ys
unfolding fixed_differ chains_kept
same_kept xs ys e =
    let old = content_records xs in
    let list = fixed_list (items old) in
    let kept : chains_kept list list ≡ true =
    and_both _ _ (same_chain_refl (chains list).first) (perm_rearranged _ _ (Permᴰ.refl (chains list).others)) in
    sym (ap not kept)
    ∙ ap (λ (es : List FixedCode). not (chains_kept list es)) (same_chain_true list _ e)
    ∙ ap₂ (λ (a b : Content). not (chains_kept (fixed_list a) (fixed_list b))) (items_of xs) (items_of ys)

not_and : (a b : Bool) (m : Bool) → not (a && b) || m ≡ not (a && (b && not m))
not_and true true true = refl
not_and true true false = refl
not_and true false m = refl
not_and false b m = refl

-- 19 as `differs` makes the test: f, the same N come first; l, the chains behind them are as many; m, one of them
-- stands more or less often
pub differ_by_counts : (xs ys : Content) (f l m : Bool)
    → let old = content_records xs in let new = content_records ys in f ≡ same_chain (followers old) (followers new)
    → l ≡ eqb (length (chains_in old)) (length (chains_in new))
    → m ≡ any (uneven (chains_in old) (chains_in new)) (chains_in old)
    → not (f && l) || m ≡ fixed_differ xs ys
unfolding fixed_differ chains_kept
differ_by_counts xs ys f l m p q r =
    let old = content_records xs in
    let new = content_records ys in
    not_and f l m
    ∙ ap₂ (λ (a b : Bool). not (a && b)) p
    (ap₂ (λ (a b : Bool). a && not b) q r ∙ sym (rearranged_counted (chains_in old) (chains_in new)))
    ∙ ap₂ (λ (a b : Content). not (chains_kept (fixed_list a) (fixed_list b))) (items_of xs) (items_of ys)
