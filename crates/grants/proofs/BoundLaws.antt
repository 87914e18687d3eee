-- No call of a translator or a reviewer changes a part outside the grant.
use Prim.Native.Nat.{ℕ, suc, ◌+◌}
use native.Mathlib.Omega.{arith}
use mathlib.Core.Path.{◌≡◌, refl, sym, ap, ◌∙◌, subst}
use mathlib.Core.Bool.{Bool, true, false, not, ◌||◌, cond, true≢false, false≢true}
use mathlib.Core.List.{List, [], ◌∷◌, ◌++◌, map}
use lib.ListN.{length}
use lib.Dec.{eqb}
use Rattle.xliff.specs.Bytes.{'S', 'T', Bytes, among, any}
use Rattle.xliff.specs.Answer.{Outcome, result, refuse, next_table}
use Rattle.xliff.specs.Item.{Content, Form}
use Rattle.xliff.specs.Unit.{Target, no_target, target, Part, XliffUnit, target_items}
use Rattle.xliff.specs.Parse.{unit, content}
use Rattle.xliff.specs.Rules.{half_of_id}
use Rattle.xliff.specs.Focus.{Focus, nowhere, here, focus, with_parts}
use Rattle.xliff.specs.SetTarget.{set_focus, set_unit}
use Rattle.xliff.specs.RemoveTarget.{remove_focus, remove_unit}
use Rattle.xliff.specs.Rewrite.{form_of, rewrite_item, rewrite_target, rewrite_part, rewrite_unit, side_content, side_sequence, find_whole}
use Rattle.xliff.specs.Calls.{Call, SP, JN, ST, RT, RW, outcome}
use Rattle.xliff.proofs.lists.Tests.{and_left, and_right, or_left, or_right}
use Rattle.xliff.proofs.unit.Accepted.{accepted_unit}
use Rattle.xliff.proofs.operations.Sources.{focus_here, focus_at}
use Rattle.xliff.proofs.operations.Rewrite.{half_bit, halves, untouched}
use Rattle.xliff.proofs.operations.SetValid.{set_accepted}
use Rattle.xliff.proofs.operations.RemoveValid.{remove_accepted}
use Rattle.xliff.proofs.operations.RewriteValid.{rewrite_accepted}
use Rattle.grants.specs.Grant.{Role, translator, reviewer, engineer, other_role, is_engineer, Grant, within, is_whole, halves_within, whole_granted, rewrite_granted, granted, granted_outcome}
use Rattle.grants.specs.GrantedLists.{GivenGranted}
use Rattle.grants.specs.Bound.{SameOutside, no_parts, granted_part, same_part, GrantBinds}
use Rattle.grants.proofs.OutcomeLaws.{granted_own, ungranted_refused}

all_same : (g : Grant) (n : ℕ) (ps : List Part) → SameOutside g n ps ps
all_same g n [] = no_parts n
all_same g n (p ∷ ps) = same_part n p ps ps (all_same g (suc n) ps)

-- one part in the place of another
replaced : (g : Grant) (n m : ℕ) (b : List Part) (x y : Part) (a : List Part) → within g m ≡ true → m ≡ n + length b
    → SameOutside g n (b ++ (x ∷ a)) (b ++ (y ∷ a))
replaced g n m [] x y a w e =
    let here : n ≡ m = omega arith in
    granted_part n x y a a (ap (within g) here ∙ w) (all_same g (suc n) a)
replaced g n m (p ∷ b) x y a w e =
    same_part n p (b ++ (x ∷ a)) (b ++ (y ∷ a)) (replaced g (suc n) m b x y a w (omega arith))

-- the part of a granted position, in whatever way it changed
changed : (g : Grant) (ps : List Part) (n : ℕ) (f : Focus → List Part) → within g n ≡ true → f nowhere ≡ ps
    → ((b : List Part) (x : Part) (a : List Part) → (y : Part) × (f (here b x a) ≡ b ++ (y ∷ a)))
    → SameOutside g 1 ps (f (focus ps n))
changed g ps n f w none_there there = by (focus ps n) refl
  where
    by : (k : Focus) → focus ps n ≡ k → SameOutside g 1 ps (f k)
    by nowhere e = subst (SameOutside g 1 ps) (sym none_there) (all_same g 1 ps)
    by (here b x a) e =
        let (y, is) = there b x a in
        let at = focus_at ps n b x a e in
        let one = replaced g 1 n b x y a w (omega (arith, at)) in
        subst (λ (l : List Part). SameOutside g 1 l (f (here b x a))) (sym (focus_here ps n b x a e))
        (subst (SameOutside g 1 (b ++ (x ∷ a))) (sym is) one)

set_bound : (g : Grant) (ps : List Part) (n st : ℕ) (new : Content) → within g n ≡ true
    → SameOutside g 1 ps (set_focus ps n st new (focus ps n))
unfolding set_focus
set_bound g ps n st new w = changed g ps n (set_focus ps n st new) w refl (λ b x a. (_, refl))

remove_bound : (g : Grant) (ps : List Part) (n : ℕ) → within g n ≡ true
    → SameOutside g 1 ps (remove_focus ps (focus ps n))
unfolding remove_focus
remove_bound g ps n w = changed g ps n (remove_focus ps) w refl (λ b x a. (_, refl))

-- where no half of the id stands, nothing is rewritten
no_halves : (i : ℕ) (xs : Content) → any (half_of_id i) xs ≡ false → halves i xs ≡ 0
unfolding any
no_halves i [] e = refl
no_halves i (x ∷ xs) e =
    let here : half_bit i x ≡ 0 = rw (or_left (half_of_id i x) _ e) in
    omega (arith, here, no_halves i xs (or_right (half_of_id i x) _ e))

untouched_target : (i : ℕ) (w : Form) (g : Target) → any (half_of_id i) (target_items g) ≡ false
    → rewrite_target (rewrite_item i w) g ≡ g
unfolding rewrite_target target_items
untouched_target i w no_target e = refl
untouched_target i w (target q xs) e = ap (target q) (untouched i w xs (no_halves i xs e))

untouched_part : (side i : ℕ) (w : Form) (p : Part) → any (half_of_id i) (side_content side p) ≡ false
    → rewrite_part side (rewrite_item i w) p ≡ p
unfolding rewrite_part side_content
untouched_part side i w p = by (eqb side 'S')
  where
    by : (b : Bool) → any (half_of_id i) (cond b p.source (target_items p.target)) ≡ false
        → cond {A = Part} b (record { head = p.head; source = map (rewrite_item i w) p.source; target = p.target })
        (record { head = p.head; source = p.source; target = rewrite_target (rewrite_item i w) p.target })
        ≡ p
    by true e =
        ap (λ (l : Content). record { head = p.head; source = l; target = p.target })
        (untouched i w p.source (no_halves i p.source e))
    by false e =
        ap (λ (l : Target). record { head = p.head; source = p.source; target = l })
        (untouched_target i w p.target e)

rewrite_bound : (g : Grant) (side i : ℕ) (w : Form) (n : ℕ) (ps : List Part) → halves_within g side i n ps ≡ true
    → SameOutside g n ps (map (rewrite_part side (rewrite_item i w)) ps)
unfolding halves_within
rewrite_bound g side i w n [] e = no_parts n
rewrite_bound g side i w n (p ∷ ps) e =
    by (any (half_of_id i) (side_content side p)) refl (and_left _ _ e)
    (rewrite_bound g side i w (suc n) ps (and_right (not (any (half_of_id i) (side_content side p)) || within g n) _ e))
  where
    f : Part → Part
    f = rewrite_part side (rewrite_item i w)

    by : (b : Bool) → any (half_of_id i) (side_content side p) ≡ b → not b || within g n ≡ true
        → SameOutside g (suc n) ps (map f ps) → SameOutside g n (p ∷ ps) (f p ∷ map f ps)
    by true q h r = granted_part n p (f p) ps (map f ps) h r
    by false q h r =
        subst (λ (x : Part). SameOutside g n (p ∷ ps) (x ∷ map f ps)) (sym (untouched_part side i w p q))
        (same_part n p ps (map f ps) r)

-- the unit that a call left
left_as : (g : Grant) (t r : List ℕ) (u : XliffUnit) → unit r ≡ u → SameOutside g 1 (unit t).parts u.parts
    → SameOutside g 1 (unit t).parts (unit r).parts
left_as g t r u e = subst (λ (x : XliffUnit). SameOutside g 1 (unit t).parts x.parts) (sym e)

-- an accepted call that is granted
bound_result : (g : Grant) (t : List ℕ) (c : Call) (r : List ℕ) → Bytes t
    → GivenGranted (record { grant = g; call = c }) → is_engineer g.role ≡ false → granted g t c ≡ true
    → outcome t c ≡ result r → SameOutside g 1 (unit t).parts (unit r).parts
unfolding outcome granted is_engineer rewrite_granted whole_granted set_unit remove_unit rewrite_unit with_parts
bound_result g t (SP n source_cut target_cut new room) r b d e h k = absurd (true≢false (sym h ∙ e))
bound_result g t (JN n room) r b d e h k = absurd (true≢false (sym h ∙ e))
bound_result g t (ST n st s room) r b d e h k =
    left_as g t r _ (accepted_unit t _ r (set_accepted t n st s room r b d k))
    (set_bound g (unit t).parts n st (content s) h)
bound_result g t (RT n room) r b d e h k =
    left_as g t r _ (accepted_unit t _ r (remove_accepted t n room r b k)) (remove_bound g (unit t).parts n h)
bound_result g t (RW side i w room) r b d e h k =
    left_as g t r _ (accepted_unit t _ r (rewrite_accepted t side i w room r b k))
    (rewrite_bound g side i (form_of w) 1 (unit t).parts all_within)
  where
    whole : Bool
    whole = whole_granted g (unit t).parts side i

    -- the role is a reviewer's
    by : (r : Role) → is_engineer r ≡ false → rewrite_granted r whole ≡ true → whole ≡ true
    by translator q z = absurd (false≢true z)
    by reviewer q z = z
    by engineer q z = absurd (true≢false q)
    by other_role q z = absurd (false≢true z)

    all_within : halves_within g side i 1 (unit t).parts ≡ true
    all_within =
        and_right (is_whole (find_whole i (side_sequence side (unit t).parts))) _
        (and_right (among side ('S' ∷ 'T' ∷ [])) _ (by g.role e h))

pub grant_binds : GrantBinds
unfolding GrantBinds next_table
grant_binds t c b d e = by (granted g t c.call) refl
  where
    g : Grant
    g = c.grant

    Unchanged : Outcome → Type 0
    Unchanged o = SameOutside g 1 (unit t).parts (unit (next_table o t)).parts

    own : granted g t c.call ≡ true → (o : Outcome) → outcome t c.call ≡ o → Unchanged o
    own h (refuse r) k = all_same g 1 (unit t).parts
    own h (result r) k = bound_result g t c.call r b d e h k

    by : (x : Bool) → granted g t c.call ≡ x → Unchanged (granted_outcome t c)
    by true h = subst Unchanged (sym (granted_own t c h)) (own h (outcome t c.call) refl)
    by false h = let (r, k) = ungranted_refused t c h in subst Unchanged (sym k) (all_same g 1 (unit t).parts)
