-- Demand 3 for a desk whose calls come to calls of document 01: a list leaves the table, and has the counts, of the
-- list of those.
use Prim.Native.Nat.{ℕ, ◌+◌}
use native.Mathlib.Omega.{arith}
use mathlib.Core.Path.{◌≡◌, refl, sym, ap, ◌∙◌, subst}
use mathlib.Core.Bool.{◌&&◌}
use mathlib.Core.List.{List, [], ◌∷◌, ◌++◌}
use Rattle.xliff.specs.Bytes.{Bytes}
use Rattle.xliff.specs.Check.{Valid}
use Rattle.xliff.specs.Calls as calls
use Rattle.xliff.specs.Calls.{Call, left, after, one_if, Kind, a_split, a_join, a_setting, a_removal, count_accepted, AllGiven}
use Rattle.xliff.specs.BothEnds.{Shared, BothEnds, Demand3}
use Rattle.xliff.proofs.both_ends.Lists.{done}
use Rattle.xliff.proofs.both_ends.Demand3.{both_ends}
use Rattle.call_lists.specs.Lists.{AllGivenBy, no_call, one_call, Desk, call_desk, after_list, count_list, SharedBy, all_made}

-- The lists of document 01 are lists of this kind
base_after : (t : List ℕ) (cs : List Call) → after_list call_desk t cs ≡ after t cs
unfolding after_list after
base_after t [] = refl
base_after t (c ∷ cs) = base_after (left t c) cs

base_count : (k : Kind) (t : List ℕ) (cs : List Call) → count_list call_desk k t cs ≡ count_accepted k t cs
unfolding count_list count_accepted
base_count k t [] = refl
base_count k t (c ∷ cs) = ap (λ (n : ℕ). done k t c + n) (base_count k (left t c) cs)

-- the same table and the same counts
shared_as : {t u v : List ℕ} {a b c e a' b' c' e' : ℕ} → u ≡ v → a ≡ a' → b ≡ b' → c ≡ c' → e ≡ e'
    → Shared t v a' b' c' e' → Shared t u a b c e
shared_as {t} {u} {v} {a} {b} {c} {e} {a'} {b'} {c'} {e'} p q r x y h =
    subst (λ (z : List ℕ). Shared t z a b c e) (sym p)
    (subst (λ (z : ℕ). Shared t v z b c e) (sym q)
    (subst (λ (z : ℕ). Shared t v a' z c e) (sym r)
    (subst (λ (z : ℕ). Shared t v a' b' z e) (sym x) (subst (λ (z : ℕ). Shared t v a' b' c' z) (sym y) h))))

pub both_ends_by_desk : (sent : List ℕ) (cs : List Call) → BothEnds sent cs → SharedBy call_desk sent cs
unfolding SharedBy
both_ends_by_desk sent cs h =
    shared_as (base_after sent cs) (base_count a_split sent cs) (base_count a_join sent cs)
    (base_count a_setting sent cs) (base_count a_removal sent cs) h

pub desk_both_ends : (sent : List ℕ) (cs : List Call) → SharedBy call_desk sent cs → BothEnds sent cs
unfolding SharedBy
desk_both_ends sent cs h =
    shared_as (sym (base_after sent cs)) (sym (base_count a_split sent cs)) (sym (base_count a_join sent cs))
    (sym (base_count a_setting sent cs)) (sym (base_count a_removal sent cs)) h

-- lists one after the other
after_append : (t : List ℕ) (cs ds : List Call) → after t (cs ++ ds) ≡ after (after t cs) ds
unfolding after
after_append t [] ds = refl
after_append t (c ∷ cs) ds = after_append (left t c) cs ds

count_append : (k : Kind) (t : List ℕ) (cs ds : List Call)
    → count_accepted k t (cs ++ ds) ≡ count_accepted k t cs + count_accepted k (after t cs) ds
unfolding after count_accepted
count_append k t [] ds = omega arith
count_append k t (c ∷ cs) ds = let h = count_append k (left t c) cs ds in omega arith

given_append : (cs ds : List Call) → AllGiven cs → AllGiven ds → AllGiven (cs ++ ds)
given_append [] ds g h = h
given_append (c ∷ cs) ds (calls.one_call x g) h = calls.one_call x (given_append cs ds g h)

-- What one call of a desk comes to, while an invariant of what the desk keeps holds: it leaves the table that the calls
-- made leave, and counts as often as they do
module _ {S C : Type 0} (d : Desk S C) (made : S → C → List Call) (Inv : S → Type 0) (Given : C → Type 0) where
  pub record Leaves : Type 0 where
    pub stays : (s : S) (c : C) → Inv s → Given c → Inv (d.left s c)
    pub table : (s : S) (c : C) → Inv s → Given c → d.table (d.left s c) ≡ after (d.table s) (made s c)

  abbrev pub Counts : Type 0
  Counts =
      (k : Kind) (s : S) (c : C) → Inv s → Given c
      → one_if (d.counts_as k c && d.accepts s c) ≡ count_accepted k (d.table s) (made s c)

  abbrev pub MadeGiven : Type 0
  MadeGiven = (s : S) (c : C) → Inv s → Given c → AllGiven (made s c)

  pub same_table : Leaves → (s : S) (cs : List C) → Inv s → AllGivenBy Given cs
      → d.table (after_list d s cs) ≡ after (d.table s) (all_made d made s cs)
  unfolding after_list all_made after
  same_table h s [] i no_call = refl
  same_table h s (c ∷ cs) i (one_call g gs) =
      let rest = all_made d made (d.left s c) cs in
      same_table h (d.left s c) cs (h.stays s c i g) gs
      ∙ ap (λ (t : List ℕ). after t rest) (h.table s c i g)
      ∙ sym (after_append (d.table s) (made s c) rest)

  pub same_counts : Leaves → Counts → (k : Kind) (s : S) (cs : List C) → Inv s → AllGivenBy Given cs
      → count_list d k s cs ≡ count_accepted k (d.table s) (all_made d made s cs)
  unfolding count_list all_made count_accepted
  same_counts h n k s [] i no_call = refl
  same_counts h n k s (c ∷ cs) i (one_call g gs) =
      let rest = all_made d made (d.left s c) cs in
      omega (
        arith,
        same_counts h n k (d.left s c) cs (h.stays s c i g) gs,
        ap (λ (t : List ℕ). count_accepted k t rest) (h.table s c i g),
        count_append k (d.table s) (made s c) rest,
        n k s c i g,
      )

  all_given : Leaves → MadeGiven → (s : S) (cs : List C) → Inv s → AllGivenBy Given cs → AllGiven (all_made d made s cs)
  unfolding all_made
  all_given l h s [] i no_call = calls.no_call
  all_given l h s (c ∷ cs) i (one_call g gs) =
      given_append (made s c) (all_made d made (d.left s c) cs) (h s c i g)
      (all_given l h (d.left s c) cs (l.stays s c i g) gs)

  -- DEMAND 3 for the desk
  pub shared : Leaves → Counts → MadeGiven → (s : S) (cs : List C) → Inv s → Bytes (d.table s)
      → AllGivenBy Given cs → Valid (d.table s) → SharedBy d s cs
  unfolding SharedBy Demand3
  shared l n h s cs i b g v =
      shared_as (same_table l s cs i g) (same_counts l n a_split s cs i g) (same_counts l n a_join s cs i g)
      (same_counts l n a_setting s cs i g) (same_counts l n a_removal s cs i g)
      (both_ends (d.table s) (all_made d made s cs) b (all_given l h s cs i g) v)

-- where nothing is asked of the desk or of its calls
abbrev pub Any : {A : Type 0} → A → Type 0
Any x = Unit {0}

pub all_any : {C : Type 0} (cs : List C) → AllGivenBy Any cs
all_any [] = no_call
all_any (c ∷ cs) = one_call tt (all_any cs)
