-- Split-and-join: an accepted split undone by its join.
use Prim.Native.Nat.{ℕ, suc}
use native.Mathlib.Omega.{arith}
use mathlib.Core.Path.{◌≡◌, refl, sym, ap, ap₂, ◌∙◌, subst}
use mathlib.Core.Bool.{true, false, true≢false}
use mathlib.Core.List.{List, ◌∷◌, ◌++◌, append-nil, map}
use mathlib.Core.Option.{none}
use lib.ListN.{length, length-map}
use Rattle.xliff.specs.Bytes.{Bytes}
use Rattle.xliff.specs.Answer.{result}
use Rattle.xliff.specs.Item.{Content}
use Rattle.xliff.specs.Unit.{Part, XliffUnit, is_closed}
use Rattle.xliff.specs.Encode.{encode}
use Rattle.xliff.specs.Parse.{unit}
use Rattle.xliff.specs.Rules.{fault_5, fault_6, fault_7, fault_6_to_10}
use Rattle.xliff.specs.Check.{Valid}
use Rattle.xliff.specs.Focus.{Focus, nowhere, here, focus, order_part, order_parts, with_parts}
use Rattle.xliff.specs.Split.{split_order, first_half, second_half, split_focus, split_unit, split_refusal, split}
use Rattle.xliff.specs.Join.{join_focus, join_unit, join}
use Rattle.xliff.specs.Rejoin.{OpenAtCuts, nothing_open, open_in, open_at_cuts, turned_part, turned, turned_table, Restored, SplitAndJoin, both_open}
use Rattle.xliff.specs.Good.{GoodParts}
use Rattle.xliff.proofs.lists.Each.{each_apart}
use Rattle.xliff.proofs.rules.Six.{Rule6, rule_6_counted}
use Rattle.xliff.proofs.rules.Seven.{Good7, rule_7_good}
use Rattle.xliff.proofs.unit.Result.{then_left, then_right, applies_none, operation_result, Sent, sent}
use Rattle.xliff.proofs.unit.Accepted.{accepted_unit, Within, within}
use Rattle.xliff.proofs.unit.Limits.{valid_bytes, valid_within}
use Rattle.xliff.proofs.unit.Forms.{same_size}
use Rattle.xliff.proofs.operations.Sources.{focus_here, focus_at, focus_in}
use Rattle.xliff.proofs.operations.Closed.{open_with_id}
use Rattle.xliff.proofs.operations.Cut.{after_split}
use Rattle.xliff.proofs.operations.SplitValid.{split_accepted}
use Rattle.xliff.proofs.rejoin.Heads.{halves_follow}
use Rattle.xliff.proofs.rejoin.Turned.{turned_flat, turned_sent, turned_within, turned_twice, turned_none}
use Rattle.xliff.proofs.rejoin.Parts.{joined_back}
use Rattle.xliff.proofs.rejoin.Joins.{output_asked, room_enough, room_short, Joinable, join_turned}

-- what a split leaves to a join: two halves that can be joined, and what that gives
record Left (u : XliffUnit) (n source_cut target_cut new : ℕ) : Type 0 where
  pub joinable : Joinable (split_unit u n source_cut target_cut new) n
  pub gives : join_unit (split_unit u n source_cut target_cut new) n
      ≡ turned (open_in source_cut target_cut (focus u.parts n)) u

-- A SPLIT OF A PART that is not closed
module _ (u : XliffUnit) (n source_cut target_cut new : ℕ) (b : List Part) (p : Part) (a : List Part)
    (at : focus u.parts n ≡ here b p a) (h : Sent u) (not_closed : is_closed u.opening.can_resegment p ≡ false) where
  abbrev split_parts : List Part
  split_parts = after_split source_cut target_cut new b p a

  -- the other parts, with their orders raised
  abbrev raised : List Part → List Part
  raised l = order_parts (split_order p.target) l

  parts_were : u.parts ≡ b ++ (p ∷ a)
  parts_were = focus_here u.parts n b p a at

  parts_are : (split_unit u n source_cut target_cut new).parts ≡ split_parts
  unfolding split_unit with_parts split_focus
  parts_are = ap (split_focus source_cut target_cut new u.parts) at

  halves_are : focus (split_unit u n source_cut target_cut new).parts n
      ≡ here (raised b) (first_half source_cut target_cut p) (second_half source_cut target_cut new p ∷ raised a)
  unfolding order_parts
  halves_are =
      ap₂ focus parts_are (focus_at u.parts n b p a at ∙ ap suc (sym (length-map b (order_part (split_order p.target)))))
      ∙ focus_in (raised b) (first_half source_cut target_cut p) (second_half source_cut target_cut new p ∷ raised a)

  halves_joinable : Joinable (split_unit u n source_cut target_cut new) n
  unfolding split_unit with_parts first_half second_half is_closed
  halves_joinable =
      record {
        before = raised b;
        one = first_half source_cut target_cut p;
        two = second_half source_cut target_cut new p;
        rest = raised a;
        at = halves_are;
        one_open = not_closed;
        two_open = open_with_id u.opening.can_resegment new p.head not_closed;
        in_sequence = halves_follow target_cut p.target;
      }

  joined_parts : join_focus split_parts
      (here (raised b) (first_half source_cut target_cut p) (second_half source_cut target_cut new p ∷ raised a))
      ≡ map (turned_part (open_in source_cut target_cut (here b p a))) (b ++ (p ∷ a))
  unfolding open_in fault_6_to_10
  joined_parts =
      let six : Rule6 (b ++ (p ∷ a)) = subst Rule6 parts_were (rule_6_counted u.parts (then_left _ _ h.rules)) in
      let five : fault_5 (b ++ (p ∷ a)) ≡ none = ap fault_5 (sym parts_were) ∙ h.rule_5 in
      let rule_7 = then_left _ _ (then_right (fault_6 u.parts) _ h.rules) in
      let seven : Good7 (b ++ (p ∷ a)) = rule_7_good (b ++ (p ∷ a)) six (ap fault_7 (sym parts_were) ∙ rule_7) in
      let good = each_apart b p a (subst GoodParts parts_were h.good) in
      joined_back source_cut target_cut new b p a five seven u.opening.can_resegment good.1.head not_closed

  split_leaves : Left u n source_cut target_cut new
  unfolding split_unit with_parts join_unit turned
  split_leaves =
      record {
        joinable = halves_joinable;
        gives = ap (with_parts u)
            (ap₂ join_focus parts_are halves_are ∙ joined_parts
            ∙ ap₂ (λ (f : Focus) (l : List Part). map (turned_part (open_in source_cut target_cut f)) l) (sym at) (sym parts_were));
      }

accepted_leaves : (t : List ℕ) (n source_cut target_cut new room : ℕ) (s : List ℕ) → Bytes t → Valid t
    → split t n source_cut target_cut new room ≡ result s
    → Left (unit t) n source_cut target_cut new
unfolding split split_refusal
accepted_leaves t n source_cut target_cut new room s bt v e =
    let (valid, own, same) = operation_result t _ _ s e in
    by (focus (unit t).parts n) refl
    (then_left (split_refusal (unit t) source_cut target_cut new (focus (unit t).parts n)) _ own)
  where
    by : (f : Focus) → focus (unit t).parts n ≡ f → split_refusal (unit t) source_cut target_cut new f ≡ none
        → Left (unit t) n source_cut target_cut new
    by nowhere k o = absurd (true≢false (applies_none 11 true o))
    by (here b p a) k o =
        split_leaves (unit t) n source_cut target_cut new b p a k (sent t bt v)
        (applies_none 12 (is_closed (unit t).opening.can_resegment p) (then_left _ _ o))

-- AN ACCEPTED SPLIT, and then its join on the table that the split left with any marks turned
module _ (t : List ℕ) (n source_cut target_cut new room : ℕ) (s : List ℕ) (bt : Bytes t) (v : Valid t)
    (e : split t n source_cut target_cut new room ≡ result s) where
  abbrev cuts : OpenAtCuts
  cuts = open_at_cuts t n source_cut target_cut

  join_back : (c : OpenAtCuts) (back : ℕ)
      → join (turned_table c s) n back ≡ output_asked back (turned (both_open cuts c) (unit t))
  unfolding turned_table open_at_cuts
  join_back c back =
      let w : XliffUnit = split_unit (unit t) n source_cut target_cut new in
      let a = split_accepted t n source_cut target_cut new room s bt e in
      let k = accepted_leaves t n source_cut target_cut new room s bt v e in
      ap (λ (z : XliffUnit). join (encode (turned c z)) n back) (accepted_unit t w s a)
      ∙ join_turned c w n back k.joinable a.now (within a.room w a.fits)
      (subst Sent (sym k.gives) (turned_sent cuts (unit t) (sent t bt v)))
      ∙ ap (λ (z : XliffUnit). output_asked back (turned c z)) k.gives ∙ ap (output_asked back) (turned_twice cuts c (unit t))

  pub restored : (c : OpenAtCuts) → Restored t (turned_table c s) n (both_open cuts c)
  unfolding turned_table
  restored c =
      record {
        enough = λ back l.
            join_back c back
            ∙ room_enough back after_all still_within (omega (arith, as_long, l));
        too_short = λ back l. join_back c back ∙ room_short back after_all still_within (omega (arith, as_long, l));
      }
    where
      after_all : XliffUnit
      after_all = turned (both_open cuts c) (unit t)

      still_within : Within after_all
      still_within = turned_within (both_open cuts c) (unit t) (valid_within t bt v)

      as_long : length (encode after_all) ≡ length t
      as_long = (same_size after_all (unit t) (turned_flat (both_open cuts c) (unit t))).size ∙ ap length (valid_bytes t bt v)

  -- where nothing is turned, on the table itself
  nothing_turned : turned_table nothing_open s ≡ s
  unfolding turned_table
  nothing_turned =
      let a = split_accepted t n source_cut target_cut new room s bt e in
      ap encode (turned_none (unit s) ∙ accepted_unit t (split_unit (unit t) n source_cut target_cut new) s a) ∙ a.bytes

nothing_more : (c : OpenAtCuts) → both_open c nothing_open ≡ c
unfolding both_open
nothing_more c = ap₂ (λ (k l : Content). record { source = k; target = l }) (append-nil c.source) (append-nil c.target)

pub split_and_join : SplitAndJoin
unfolding SplitAndJoin
split_and_join t part source_cut target_cut new room halves bt v e =
    subst (λ (s : List ℕ). Restored t s part (open_at_cuts t part source_cut target_cut))
    (nothing_turned t part source_cut target_cut new room halves bt v e)
    (subst (Restored t (turned_table nothing_open halves) part) (nothing_more (open_at_cuts t part source_cut target_cut))
    (restored t part source_cut target_cut new room halves bt v e nothing_open))
