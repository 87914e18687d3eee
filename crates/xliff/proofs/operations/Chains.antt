-- Order 4 of document 02: 19 comes exactly when the new list is no rearrangement of the old list's chains.
use mathlib.Core.Path.{◌≡◌, refl, sym, ap, ◌∙◌, subst}
use mathlib.Core.Bool.{Bool, true, false, not, ◌&&◌, true≢false}
use mathlib.Core.List.{List, [], ◌∷◌, ◌++◌, append-nil, Permᴰ}
use borrow.Author.Tests.{not-true, not-false}
use Rattle.xliff.specs.Bytes.{any, gather}
use Rattle.xliff.specs.Good.{Each, each_nil, each_cons}
use Rattle.xliff.specs.SetTarget.{FixedCode, Chain, Chains, begins_chain, in_front, chains, same_chain, rearranged, chains_kept, fixed_list, fixed_differ, is_chain, in_sequence, CutBeforeF, ChainsOf, Rearrangement, Order4}
use Rattle.xliff.proofs.lists.Tests.{and_left, and_right, and_both, or_left, or_right}
use Rattle.xliff.proofs.operations.ChainCounts.{same_chain_true, same_chain_refl, rearranged_perm, perm_rearranged}

-- A list by its first code: an F begins a chain, an N goes on with the one before it
pub chains_at_F : (e : FixedCode) (es : List FixedCode) → begins_chain e ≡ true
    → chains (e ∷ es) ≡ record { first = []; others = (e ∷ (chains es).first) ∷ (chains es).others }
unfolding chains in_front
chains_at_F e es q = rw q refl

pub chains_at_N : (e : FixedCode) (es : List FixedCode) → begins_chain e ≡ false
    → chains (e ∷ es) ≡ record { first = e ∷ (chains es).first; others = (chains es).others }
unfolding chains in_front
chains_at_N e es q = rw q refl

-- What the chains of a list are
abbrev IsChain : Chain → Type 0
IsChain c = is_chain c ≡ true

a_chain : (e : FixedCode) (c : Chain) → begins_chain e ≡ true → any begins_chain c ≡ false → IsChain (e ∷ c)
unfolding is_chain
a_chain e c q h = and_both _ _ q (ap not h)

cut_of : (es : List FixedCode) → CutBeforeF es (chains es)
unfolding in_sequence gather any chains
cut_of [] = record { whole = refl; first_free = refl; each = each_nil }
cut_of (e ∷ es) = by (begins_chain e) refl (cut_of es)
  where
    by : (b : Bool) → begins_chain e ≡ b → CutBeforeF es (chains es) → CutBeforeF (e ∷ es) (chains (e ∷ es))
    by true q r =
        record {
          whole = rw (chains_at_F e es q) (ap {B = List FixedCode} (λ l. e ∷ l) r.whole);
          first_free = rw (chains_at_F e es q) refl;
          each = rw (chains_at_F e es q) (each_cons (a_chain e (chains es).first q r.first_free) r.each);
        }
    by false q r =
        record {
          whole = rw (chains_at_N e es q) (ap {B = List FixedCode} (λ l. e ∷ l) r.whole);
          first_free = rw (chains_at_N e es q) (rw q r.first_free);
          each = rw (chains_at_N e es q) r.each;
        }

-- and back: chains one after the other are the chains of that list
front : (l es : List FixedCode) → any begins_chain l ≡ false
    → chains (l ++ es) ≡ record { first = l ++ (chains es).first; others = (chains es).others }
unfolding any
front [] es h = refl
front (e ∷ l) es h =
    chains_at_N e (l ++ es) (or_left (begins_chain e) _ h)
    ∙ ap (λ (k : Chains). record { first = e ∷ k.first; others = k.others })
    (front l es (or_right (begins_chain e) _ h))

-- before a list that begins with an F, or is empty, codes without F are the first chain
before : (l es : List FixedCode) (cs : List Chain) → any begins_chain l ≡ false
    → chains es ≡ record { first = []; others = cs } → chains (l ++ es) ≡ record { first = l; others = cs }
before l es cs h e =
    front l es h
    ∙ ap (λ (k : Chains). record { first = l ++ k.first; others = k.others }) e
    ∙ ap (λ (f : Chain). record { first = f; others = cs }) (append-nil l)

others_back : (cs : List Chain) → Each IsChain cs → chains (in_sequence cs) ≡ record { first = []; others = cs }
unfolding in_sequence gather chains is_chain
others_back [] each_nil = refl
others_back ([] ∷ cs) (each_cons h r) = absurd (true≢false (sym h))
others_back ((e ∷ c) ∷ cs) (each_cons h r) =
    chains_at_F e (c ++ in_sequence cs) (and_left (begins_chain e) _ h)
    ∙ ap (λ (k : Chains). record { first = []; others = (e ∷ k.first) ∷ k.others })
    (before c (in_sequence cs) cs (not-true _ (and_right (begins_chain e) _ h)) (others_back cs r))

only_cut : (es : List FixedCode) (k : Chains) → CutBeforeF es k → chains es ≡ k
only_cut es k r =
    ap chains r.whole
    ∙ before k.first (in_sequence k.others) k.others r.first_free (others_back k.others r.each)

chains_of : (es : List FixedCode) → ChainsOf es
chains_of es = record { cut = cut_of es; only = only_cut es }

perm_chains : (cs ds : List Chain) → Permᴰ cs ds → Each IsChain cs → Each IsChain ds
perm_chains cs ds Permᴰ.nil h = h
perm_chains cs ds (Permᴰ.cons {l₁ = l} {l₂ = m} e p) (each_cons h r) =
    each_cons (subst IsChain e h) (perm_chains l m p r)
perm_chains cs ds (Permᴰ.swap e f) (each_cons h (each_cons g r)) =
    each_cons (subst IsChain f g) (each_cons (subst IsChain e h) r)
perm_chains cs ds (Permᴰ.trans {l₂ = m} p q) h = perm_chains m ds q (perm_chains cs m p h)

-- The test and its meaning
module _ (old new : List FixedCode) where
  kept_to : chains_kept old new ≡ true → Rearrangement old new
  unfolding chains_kept in_sequence
  kept_to h =
      let same_first = and_left (same_chain (chains old).first (chains new).first) _ h in
      let f = same_chain_true (chains old).first (chains new).first same_first in
      record {
        sequence = (chains new).others;
        moved = rearranged_perm (chains old).others (chains new).others
            (and_right (same_chain (chains old).first (chains new).first) _ h);
        list = (cut_of new).whole ∙ ap (λ (c : Chain). c ++ in_sequence (chains new).others) (sym f);
      }

  kept_from : Rearrangement old new → chains_kept old new ≡ true
  unfolding chains_kept
  kept_from r =
      let k = cut_of old in
      let sequence = r.sequence in
      let each = perm_chains (chains old).others sequence r.moved k.each in
      let e = only_cut new (record { first = (chains old).first; others = sequence })
      (record { whole = r.list; first_free = k.first_free; each = each }) in
      ap (λ (c : Chains). same_chain (chains old).first c.first && rearranged (chains old).others c.others) e
      ∙ and_both _ _ (same_chain_refl (chains old).first) (perm_rearranged (chains old).others sequence r.moved)

pub order_4 : Order4
unfolding Order4 fixed_differ
order_4 old new =
    let before = fixed_list old in
    let after = fixed_list new in
    (chains_of before, (λ h. kept_to before after (not-false _ h), λ r. ap not (kept_from before after r)))
