-- The rewritten table passes 2, 3 and 4, and breaks rule 7 where the halves are partners in no content.
use Prim.Native.Nat.{ℕ}
use mathlib.Core.Path.{◌≡◌, refl, sym, ap, ◌∙◌}
use mathlib.Core.Bool.{Bool, true, false, not}
use mathlib.Core.List.{List, map}
use mathlib.Core.Option.{Option, none, some}
use native.Mathlib.Omega.{arith}
use lib.ListN.{length}
use lib.Dec.{ltb}
use borrow.Author.Tests.{le-ltb}
use Rattle.xliff.specs.Bytes.{'P', Bytes, among}
use Rattle.xliff.specs.Answer.{Refusal, is_fault}
use Rattle.xliff.specs.Item.{Form, form_P}
use Rattle.xliff.specs.Unit.{XliffUnit}
use Rattle.xliff.specs.Encode.{encode}
use Rattle.xliff.specs.Parse.{unit}
use Rattle.xliff.specs.Rules.{fault_6, fault_7, fault_6_to_10}
use Rattle.xliff.specs.Check.{Valid, table_refusal, too_large}
use Rattle.xliff.specs.Focus.{with_parts}
use Rattle.xliff.specs.Rewrite.{form_of, rewrite_item, rewrite_part, rewrite_unit, Whole, unfit_letter}
use Rattle.xliff.proofs.lists.Tests.{none_some, or_both}
use Rattle.xliff.proofs.unit.Valid.{heads_unit}
use Rattle.xliff.proofs.unit.Result.{Sent, sent, then_left, then_right, small_table}
use Rattle.xliff.proofs.operations.RewriteValid.{good_parts, rewrite_accepted}
use Rattle.places.specs.Passes.{Passes}
use Rattle.places.proofs.Places.{checked_passes}
use Rattle.result_rules.proofs.GoodLaws.{GoodUnit, read_back, only_room}
use Rattle.rewrite_marks.proofs.LengthLaws.{length_kept, records_kept, parts_kept}
use Rattle.rewrite_refusals.specs.Asked.{apart, fails_to_P, Asked}
use Rattle.rewrite_refusals.proofs.ChainLaws.{done}
use Rattle.rewrite_refusals.proofs.PartnerLaws.{partners_there}

module _ (t : List ℕ) (b : Bytes t) (v : table_refusal t ≡ none) where
  passed : Passes t
  passed = checked_passes t b v

  sent_unit : Sent (unit t)
  unfolding Valid
  sent_unit = sent t b v

  pub good_unit : (side i : ℕ) (w : Form) → GoodUnit (rewrite_unit (unit t) side i w)
  unfolding rewrite_unit with_parts
  good_unit side i w =
      record {
        letter = sent_unit.letter;
        first = rewrite_part side (rewrite_item i w) sent_unit.first;
        others = map (rewrite_part side (rewrite_item i w)) sent_unit.others;
        parts = ap (map (rewrite_part side (rewrite_item i w))) sent_unit.parts;
        good = good_parts side i w (unit t).parts sent_unit.good;
        size = omega (arith, length_kept i w t side passed, small_table t v);
        few = omega (arith, records_kept i w t side passed, passed.few);
        few_parts = omega (arith, parts_kept i w t side passed, heads_unit (unit t), passed.few_parts);
      }

  -- of the limits only the room is left
  pub room_only : (side i : ℕ) (w : Form) (room : ℕ) → too_large room (rewrite_unit (unit t) side i w) ≡ ltb room (length t)
  room_only side i w room = only_room (rewrite_unit (unit t) side i w) (good_unit side i w) room ∙ ap (ltb room) (length_kept i w t side passed)

-- an accepted rewrite keeps rule 7
seven_kept : (t : List ℕ) (side i : ℕ) (p : Whole) → Asked t side i form_P p → unfit_letter p ≡ false → apart (unit t) side i ≡ false → fault_7 (rewrite_unit (unit t) side i form_P).parts ≡ none
unfolding form_of fault_6_to_10 among fails_to_P
seven_kept t side i p a u h =
    let rules = (rewrite_accepted t side i 'P' (length t) (encode (rewrite_unit (unit t) side i form_P)) a.bytes
    (done t side i 'P' (length t) a.valid (rw a.letter) p a.found a.other_form (or_both _ _ h u)
    (room_only t a.bytes a.valid side i form_P (length t) ∙ le-ltb (length t) (length t) (omega arith)))).now.rules in
    then_left _ _ (then_right (fault_6 (rewrite_unit (unit t) side i form_P).parts) _ rules)

pub apart_is : (t : List ℕ) (side i : ℕ) (p : Whole) → Asked t side i form_P p → unfit_letter p ≡ false
    → is_fault (fault_7 (unit (encode (rewrite_unit (unit t) side i form_P))).parts) ≡ apart (unit t) side i
unfolding is_fault apart
apart_is t side i p a u =
    ap (λ (z : XliffUnit). is_fault (fault_7 z.parts)) (read_back (rewrite_unit (unit t) side i form_P) (good_unit t a.bytes a.valid side i form_P))
    ∙ by (fault_7 (rewrite_unit (unit t) side i form_P).parts) refl (apart (unit t) side i) refl
  where
    together : fault_7 (rewrite_unit (unit t) side i form_P).parts ≡ none → apart (unit t) side i ≡ false
    together e = ap not (partners_there i side (unit t) p a.found e)

    by : (o : Option Refusal) → fault_7 (rewrite_unit (unit t) side i form_P).parts ≡ o → (b : Bool) → apart (unit t) side i ≡ b → is_fault o ≡ b
    by none e b k = sym (together e) ∙ k
    by (some r) e true k = refl
    by (some r) e false k = absurd (none_some (sym (seven_kept t side i p a u k) ∙ e))
