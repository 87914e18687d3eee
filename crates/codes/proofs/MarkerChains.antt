-- The fixed codes and chains of a content, one after the other; and two lists of codes compared.
use Prim.Native.Nat.{ℕ, ◌+◌, ◌<◌, ◌≤◌}
use mathlib.Core.Path.{◌≡◌, refl, sym, ap, ap₂, ◌∙◌}
use mathlib.Core.Bool.{Bool, true, false, not, ◌&&◌, ◌||◌, true≢false}
use mathlib.Core.List.{List, [], ◌∷◌}
use Rattle.std.specs.Prelude.{is_some}
use lib.ListN.{length, get_or, drop}
use lib.Dec.{eqb, ltb}
use borrow.Author.Tests.{eqb-true, ltb-true, ltb-false, lt-ltb}
use Rattle.xliff.specs.Bytes.{'F', 'N', among}
use Rattle.xliff.specs.Encode.{Record}
use Rattle.xliff.specs.SetTarget.{FixedCode, Chains, begins_chain, chains, same_fixed, same_chain, fixed_list}
use Rattle.xliff.proofs.lists.Tests.{and_left, and_right}
use Rattle.xliff.proofs.operations.Chains.{chains_at_F, chains_at_N}
use Rattle.walk.specs.Kept.{items, Rest}
use Rattle.codes.specs.Codes.{code_at}
use Rattle.codes.specs.Fixed.{fixed_at, fixed_here, Found, NextFixed, CodeOrEnd}
use Rattle.codes.specs.Chains.{chains_in, codes_in, goes_on, Passed, chain_at}
use Rattle.codes.proofs.FixedLaws.{found_code, found_end}

-- Where a fixed code or the end is
pub found_room : (c : List ℕ) (rs : List Record) (at : ℕ) → Found c rs at → CodeOrEnd c at
found_room c rs at m l = (found_code c rs at m l).room

-- the letter of a fixed code is F or N
fixed_letter : (t : List ℕ) → fixed_at t ≡ true → eqb (get_or t 11 0) 'N' ≡ false → get_or t 11 0 ≡ 'F'
unfolding fixed_at among
fixed_letter t e n = by (eqb (get_or t 11 0) 'F') refl (eqb (get_or t 11 0) 'N') n (and_right (is_some (code_at t)) _ e)
  where
    by : (f : Bool) → eqb (get_or t 11 0) 'F' ≡ f → (n : Bool) → n ≡ false → f || (n || false) ≡ true → get_or t 11 0 ≡ 'F'
    by true p n q h = eqb-true _ _ p
    by false p true q h = absurd (true≢false q)
    by false p false q h = absurd (true≢false (sym h))

-- The list goes on there: a code stands there, and it comes first
pub record NextOn (c : List ℕ) (rs : List Record) (at : ℕ) (whole : Bool) : Type 0 where
  pub others : List Record
  pub rest : Rest c (at + 12) others
  pub room : at + 12 ≤ length c
  pub codes : codes_in whole rs ≡ fixed_here (drop at c) ∷ codes_in whole others

module _ (c : List ℕ) (rs : List Record) (at : ℕ) (m : Found c rs at) where
  is_n : goes_on c at false ≡ true → get_or (drop at c) 11 0 ≡ 'N'
  is_n h = eqb-true (get_or (drop at c) 11 0) 'N' (and_right (ltb at (length c)) _ h)

  is_there : (whole : Bool) → goes_on c at whole ≡ true → at < length c
  is_there whole h = ltb-true at (length c) (and_left (ltb at (length c)) _ h)

  -- an N goes on with the chain before it
  after_n : (h : goes_on c at false ≡ true) → let k = found_code c rs at m (is_there false h) in
      chains (fixed_list (items rs)) ≡ record { first = chain_at c at k.others; others = chains_in k.others }
  unfolding begins_chain
  after_n h =
      let k = found_code c rs at m (is_there false h) in
      ap chains k.list ∙ chains_at_N (fixed_here (drop at c)) (fixed_list (items k.others)) (rw (is_n h) refl)

  pub next_on : (whole : Bool) → goes_on c at whole ≡ true → NextOn c rs at whole
  next_on whole h =
      let k = found_code c rs at m (is_there whole h) in
      record { others = k.others; rest = k.rest; room = k.room; codes = by whole h }
    where
      by : (w : Bool) (h : goes_on c at w ≡ true) → let k = found_code c rs at m (is_there w h) in
          codes_in w rs ≡ fixed_here (drop at c) ∷ codes_in w k.others
      by true h = (found_code c rs at m (is_there true h)).list
      by false h = ap (λ (x : Chains). x.first) (after_n h)

  -- it is over: the end, or an F
  not_n : goes_on c at false ≡ false → at < length c → eqb (get_or (drop at c) 11 0) 'N' ≡ false
  not_n h l = ap (λ (b : Bool). b && eqb (get_or (drop at c) 11 0) 'N') (sym (lt-ltb at (length c) l)) ∙ h

  at_F : goes_on c at false ≡ false → (l : at < length c) → let k = found_code c rs at m l in
      chains (fixed_list (items rs)) ≡ record { first = []; others = chain_at c at k.others ∷ chains_in k.others }
  unfolding begins_chain
  at_F h l =
      let k = found_code c rs at m l in
      let letter = fixed_letter (drop at c) (m.fixed l) (not_n h l) in
      ap chains k.list ∙ chains_at_F (fixed_here (drop at c)) (fixed_list (items k.others)) (rw letter refl)

  pub over : (whole : Bool) → goes_on c at whole ≡ false → codes_in whole rs ≡ []
  unfolding chains
  over whole h = by whole h (ltb at (length c)) refl
    where
      by : (w : Bool) → goes_on c at w ≡ false → (b : Bool) → ltb at (length c) ≡ b → codes_in w rs ≡ []
      by true h true e = absurd (true≢false (ap (λ (b : Bool). b && true) (sym e) ∙ h))
      by false h true e = ap (λ (x : Chains). x.first) (at_F h (ltb-true at (length c) e))
      by true h false e = found_end c rs at m (ltb-false at (length c) e)
      by false h false e =
          ap (λ (l : List FixedCode). (chains l).first) (found_end c rs at m (ltb-false at (length c) e))

-- A chain stands there
pub record NextChainAt (c : List ℕ) (rs : List Record) (at : ℕ) : Type 0 where
  pub others : List Record
  pub rest : Rest c (at + 12) others
  pub room : at + 12 ≤ length c
  pub chains_on : chains_in rs ≡ chain_at c at others ∷ chains_in others

pub next_chain : (c : List ℕ) (rs : List Record) (at : ℕ) → Passed c rs at → goes_on c at false ≡ false → at < length c
    → NextChainAt c rs at
next_chain c rs at m h l =
    let k = found_code c m.from at m.found l in
    record {
      others = k.others;
      rest = k.rest;
      room = k.room;
      chains_on = m.chains ∙ ap (λ (x : Chains). x.others) (at_F c m.from at m.found h l);
    }

pub no_chain : (c : List ℕ) (rs : List Record) (at : ℕ) → Passed c rs at → length c ≤ at → chains_in rs ≡ []
unfolding chains
no_chain c rs at m l = m.chains ∙ ap (λ (l : List FixedCode). (chains l).others) (found_end c m.from at m.found l)

-- The search for the next chain passes over an N
pub passed_start : (c : List ℕ) (rs : List Record) (from at : ℕ) → NextFixed c from at → Rest c from rs → Passed c rs at
passed_start c rs from at n o = record { from = rs; found = n.2 rs o; chains = refl }

pub passed_on : (c : List ℕ) (rs : List Record) (at to : ℕ) → Passed c rs at → goes_on c at false ≡ true
    → NextFixed c (at + 12) to → Passed c rs to
unfolding next_on
passed_on c rs at to m h n =
    let k = next_on c m.from at m.found false h in
    record {
      from = k.others;
      found = n.2 k.others k.rest;
      chains = m.chains ∙ ap (λ (x : Chains). x.others) (after_n c m.from at m.found h);
    }

-- Two lists compared: the next fixed codes of c and d stand at i and j, and up to there they are the same
pub record Compared (whole : Bool) (c d : List ℕ) (rs qs : List Record) (i j : ℕ) : Type 0 where
  pub ours : List Record
  pub theirs : List Record
  pub our_found : Found c ours i
  pub their_found : Found d theirs j
  pub same : same_chain (codes_in whole rs) (codes_in whole qs) ≡ same_chain (codes_in whole ours) (codes_in whole theirs)

pub compared_start : (whole : Bool) (c d : List ℕ) (rs qs : List Record) (at to i j : ℕ) → Rest c at rs → Rest d to qs
    → NextFixed c at i → NextFixed d to j → Compared whole c d rs qs i j
compared_start whole c d rs qs at to i j o p a b =
    record { ours = rs; theirs = qs; our_found = a.2 rs o; their_found = b.2 qs p; same = refl }

module _ (whole : Bool) (c d : List ℕ) (rs qs : List Record) (i j : ℕ) (m : Compared whole c d rs qs i j) where
  abbrev all_same : Bool
  all_same = same_chain (codes_in whole rs) (codes_in whole qs)

  abbrev here_same : Bool
  here_same = same_fixed (fixed_here (drop i c)) (fixed_here (drop j d))

  pub our_room : CodeOrEnd c i
  our_room = found_room c m.ours i m.our_found

  pub their_room : CodeOrEnd d j
  their_room = found_room d m.theirs j m.their_found

  pub our_next : goes_on c i whole ≡ true → NextOn c m.ours i whole
  our_next h = next_on c m.ours i m.our_found whole h

  pub their_next : goes_on d j whole ≡ true → NextOn d m.theirs j whole
  their_next h = next_on d m.theirs j m.their_found whole h

  -- a code in c, none in d
  pub compared_short : goes_on c i whole ≡ true → goes_on d j whole ≡ false → false ≡ all_same
  unfolding same_chain
  compared_short h k =
      sym (m.same ∙ ap₂ same_chain (our_next h).codes (over d m.theirs j m.their_found whole k))

  -- a code in both
  both : (n : NextOn c m.ours i whole) (o : NextOn d m.theirs j whole)
      → all_same ≡ here_same && same_chain (codes_in whole n.others) (codes_in whole o.others)
  unfolding same_chain
  both n o = m.same ∙ ap₂ same_chain n.codes o.codes

  pub compared_off : goes_on c i whole ≡ true → goes_on d j whole ≡ true → here_same ≡ false → false ≡ all_same
  compared_off h k e =
      let n = our_next h in
      let o = their_next k in
      sym (both n o ∙ ap (λ (b : Bool). b && same_chain (codes_in whole n.others) (codes_in whole o.others)) e)

  pub compared_on : (k l : ℕ) → goes_on c i whole ≡ true → goes_on d j whole ≡ true → here_same ≡ true
      → NextFixed c (i + 12) k → NextFixed d (j + 12) l → Compared whole c d rs qs k l
  compared_on k l h g e a b =
      let n = our_next h in
      let o = their_next g in
      record {
        ours = n.others;
        theirs = o.others;
        our_found = a.2 n.others n.rest;
        their_found = b.2 o.others o.rest;
        same = both n o ∙ ap (λ (b : Bool). b && same_chain (codes_in whole n.others) (codes_in whole o.others)) e;
      }

  -- no code more in c: none in d either, or they differ
  pub compared_end : goes_on c i whole ≡ false → not (goes_on d j whole) ≡ all_same
  unfolding same_chain
  compared_end h = by (goes_on d j whole) refl
    where
      ours_over : codes_in whole m.ours ≡ []
      ours_over = over c m.ours i m.our_found whole h

      by : (b : Bool) → goes_on d j whole ≡ b → not b ≡ all_same
      by true e = sym (m.same ∙ ap₂ same_chain ours_over (their_next e).codes)
      by false e = sym (m.same ∙ ap₂ same_chain ours_over (over d m.theirs j m.their_found whole e))
