-- A valid table within depth 32, written and read, comes back in every byte.
use Prim.Native.Nat.{ℕ, ◌≤◌}
use mathlib.Core.Path.{◌≡◌, refl, sym, ap, ◌∙◌, subst}
use mathlib.Core.Bool.{true, false, ◌||◌}
use mathlib.Core.List.{List, [], ◌∷◌, ◌++◌, append_assoc}
use mathlib.Core.Option.{none}
use native.Mathlib.Omega.{arith}
use lib.ListN.{length}
use lib.Dec.{ltb}
use borrow.Author.Tests.{le-ltb}
use Rattle.xliff.specs.Bytes.{any, gather, Bytes}
use Rattle.xliff.specs.Answer.{applies, ◌then◌, result, unless}
use Rattle.xliff.specs.Unit.{Target, no_target, target, Part, target_items, source_sequence, target_sequence}
use Rattle.xliff.specs.Encode.{encode}
use Rattle.xliff.specs.Parse.{unit}
use Rattle.xliff.specs.Rules.{fault_5, fault_6, fault_7, fault_8, fault_6_to_10, bad_8_source, bad_8_target}
use Rattle.xliff.specs.Check.{Valid, too_large}
use Rattle.xliff.proofs.lists.Tests.{gather_append, or_left, or_right}
use Rattle.xliff.proofs.rules.Sequences.{clear, rule_8}
use Rattle.xliff.proofs.rules.Balance.{Balanced}
use Rattle.xliff.proofs.rules.Six.{rule_6_counted}
use Rattle.xliff.proofs.rules.Seven.{BalancedPart, AllBalanced, Good7, rule_7_good}
use Rattle.xliff.proofs.rules.Partner.{source_partner, target_partner}
use Rattle.xliff.proofs.rules.Place.{place, put_in_place}
use Rattle.xliff.specs.Good.{Each, each_nil, each_cons, GoodContent, GoodTarget, GoodParts}
use Rattle.xliff.proofs.unit.Accepted.{only_room}
use Rattle.xliff.proofs.unit.Limits.{valid_bytes, valid_within}
use Rattle.xliff.proofs.unit.Result.{then_left, then_right, sent}
use Rattle.xliff.proofs.records.Fits.{FitContent, FitTarget, FitParts}
use Rattle.xliff.proofs.both_ends.FitsKept.{table_fits}
use Rattle.xml.specs.Elements.{read, xml_records}
use Rattle.xml.specs.Write.{deeper, unit_text, too_deep}
use Rattle.xml.specs.Xml.{table_read, read_xml, write_xml, RoundTrip}
use Rattle.xml.proofs.MatchLaws.{content_closed}
use Rattle.xml.proofs.PartLaws.{Writable, WritableTarget, WritablePart}
use Rattle.xml.proofs.UnitLaws.{unit_text_read, unit_as_read, unit_back_again}

-- What a valid unit within depth 32 has
module _ (ps : List Part) (five : fault_5 ps ≡ none) (few : length ps ≤ 64) (seven : Good7 ps)
    (source_8 : clear bad_8_source [] (source_sequence ps) ≡ true)
    (target_8 : clear bad_8_target [] (target_sequence ps) ≡ true) where
  -- a source content stands in the source sequence
  source_writable : (b : List Part) (p : Part) (a : List Part) → ps ≡ b ++ (p ∷ a) → GoodContent p.source
      → FitContent p.source → BalancedPart p → deeper 0 p.source ≡ false → Writable p.source
  unfolding source_sequence gather
  source_writable b p a e g f k d =
      let at : source_sequence ps ≡ source_sequence b ++ (p.source ++ source_sequence a) =
      ap source_sequence e ∙ gather_append (λ (q : Part). q.source) b (p ∷ a) in
      let (n, c) =
      content_closed (source_sequence ps) bad_8_source (source_partner ps seven)
      (λ b x a h. unfold bad_8_source in or_left _ _ h) (source_sequence b) p.source (source_sequence a) at source_8
      k.source in
      record { good = g; fit = f; matched = c; none_left = n; shallow = d }

  -- a target content in the target sequence
  target_writable : (b : List Part) (p : Part) (a : List Part) → ps ≡ b ++ (p ∷ a) → (g : Target) → p.target ≡ g
      → GoodTarget g → FitTarget g → BalancedPart p → deeper 0 (target_items g) ≡ false → WritableTarget g
  unfolding target_items
  target_writable b p a e no_target q g f k d = tt
  target_writable b p a e (target n xs) q g f k d =
      let five' : fault_5 (b ++ (p ∷ a)) ≡ none = subst (λ (l : List Part). fault_5 l ≡ none) e five in
      let (u, v, at, same) = put_in_place b p p a n xs xs q q five' in
      let (low, high, nb, na) = place b p a n xs q five' in
      let size = ap length e in
      let bal = subst (λ (g : Target). Balanced (target_items g)) q k.target in
      let (l, c) =
      content_closed (target_sequence ps) bad_8_target (target_partner ps seven) (λ b x a h. h) u xs v
      (ap target_sequence e ∙ at) target_8 bal in
      (low, omega arith, record { good = g; fit = f; matched = c; none_left = l; shallow = d })

  parts_writable : (b a : List Part) → ps ≡ b ++ a → GoodParts a → FitParts a → AllBalanced a
      → any (λ (p : Part). deeper 0 p.source || deeper 0 (target_items p.target)) a ≡ false → Each WritablePart a
  unfolding any
  parts_writable b [] e each_nil each_nil each_nil d = each_nil
  parts_writable b (p ∷ a) e (each_cons g gs) (each_cons f fs) (each_cons k ks) d =
      let here = or_left _ _ d in
      each_cons
      (record {
        head = g.head;
        head_fits = f.head;
        source = source_writable b p a e g.source f.source k (or_left _ _ here);
        target = target_writable b p a e p.target refl g.target f.target k
            (or_right (deeper 0 p.source) _ here);
      })
      (parts_writable (b ++ (p ∷ [])) a (e ∙ sym (append_assoc b (p ∷ []) a)) gs fs ks
      (or_right (deeper 0 p.source || deeper 0 (target_items p.target)) _ d))

-- a valid table within depth 32 can be written and read
all_writable : (t : List ℕ) → Bytes t → Valid t → too_deep (unit t) ≡ false → Each WritablePart (unit t).parts
unfolding too_deep fault_6_to_10
all_writable t b v d =
    let s = sent t b v in
    let ps : List Part = (unit t).parts in
    let six : fault_6 ps ≡ none = then_left _ _ s.rules in
    let seven : fault_7 ps ≡ none = then_left _ _ (then_right (fault_6 ps) _ s.rules) in
    let eight : fault_8 ps ≡ none = then_left _ _ (then_right (fault_7 ps) _ (then_right (fault_6 ps) _ s.rules)) in
    let good = rule_7_good ps (rule_6_counted ps six) seven in
    let (source_8, target_8) = rule_8 ps eight in
    parts_writable ps s.rule_5 (valid_within t b v).parts good source_8 target_8 [] ps refl s.good (table_fits t b v)
    good.bal d

-- what is read has room
has_room : (t : List ℕ) (back : ℕ) → Bytes t → Valid t → length t ≤ back → too_large back (unit t) ≡ false
has_room t back b v l =
    only_room (unit t) (valid_within t b v) back
    ∙ ap (λ (s : List ℕ). ltb back (length s)) (valid_bytes t b v) ∙ le-ltb back (length t) l

-- THE ROUND TRIP
pub round_trip : RoundTrip
unfolding RoundTrip
round_trip t room back b v d r l =
    let s = sent t b v in
    record {
      text = unit_text (unit t);
      written = written;
      read_back = read_back (unit_text_read (unit t) s.letter (all_writable t b v d)) (valid_bytes t b v);
    }
  where
    written : write_xml t room ≡ result (unit_text (unit t))
    written = unfold write_xml unless applies ◌then◌ Valid in rw (v, d, le-ltb room (length (unit_text (unit t))) r)

    read_back : xml_records (unit_text (unit t)) ≡ read (unit_as_read (unit t)) → encode (unit t) ≡ t
        → read_xml (unit_text (unit t)) back ≡ result t
    read_back e k =
        unfold read_xml table_read unless applies ◌then◌ Valid in
        rw (e, read_xml, unit_back_again (unit t), has_room t back b v l, k, v)
