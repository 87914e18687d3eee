-- What a record does to the pc and mrk that are open, and a walk over the records.
use Prim.Native.Nat.{ℕ, zero, suc, ◌-◌, ◌<◌, ◌≤◌}
use mathlib.Core.Path.{◌≡◌, refl, sym, ap, ◌∙◌, subst}
use mathlib.Core.Bool.{false}
use mathlib.Core.List.{List, ◌∷◌}
use native.Mathlib.Omega.{arith}
use lib.ListN.{length, drop}
use Rattle.xliff.specs.Item.{is_form_P, half, fields}
use Rattle.xliff.specs.Encode as encode
use Rattle.xliff.specs.Encode.{ill_text}
use Rattle.xliff.specs.Parse.{read}
use Rattle.places.specs.Offsets.{At}
use Rattle.places.proofs.Places.{at_next}
use Rattle.table.specs.Meaning.{item, meaning, body}
use Rattle.table.specs.Known.{Known, same_record, some_text}
use Rattle.table.specs.declared.Form.TheVariants.{P, S}
use Rattle.table.specs.declared.Half.TheVariants.{Start, End}
use Rattle.table.specs.declared.Item.{Item}
use Rattle.table.specs.declared.Item.TheVariants.{Character, Standalone, Isolated, Pair, AnnotationStart, AnnotationEnd}
use Rattle.table.specs.declared.Record.TheVariants.{Unit as UnitStart, UnitEnd, Segment, Ignorable, Target, Text, Inline}
use Rattle.table.specs.declared.Read.{Read}
use Rattle.table.specs.declared.Read.TheVariants.{Good, Ill, Broken}
use Rattle.orders.proofs.WalkLaws.{stepped}
use Rattle.walker.specs.Offsets.{After}
use Rattle.xml.specs.Write.{one_less}
use Rattle.xml_nesting.specs.Nesting.{step_of_inline, read_step, is_opening, step_of_item, step_of, depth_after}
use Rattle.xml_nesting.specs.declared.Step.{Step}
use Rattle.xml_nesting.specs.declared.Step.TheVariants.{Opens, Closes, Stays, Ends}

item_step : (i : Item) → step_of_inline i ≡ step_of_item (item i)
unfolding step_of_item is_form_P half fields
item_step (Character c) = refl
item_step (Standalone f) = refl
item_step (Isolated h f) = refl
item_step (Pair P Start f) = refl
item_step (Pair P End f) = refl
item_step (Pair S Start f) = refl
item_step (Pair S End f) = refl
item_step (AnnotationStart P i l) = refl
item_step (AnnotationStart S i l) = refl
item_step (AnnotationEnd P i) = refl
item_step (AnnotationEnd S i) = refl

pub item_opens : (i : Item) (s : Step) → s ≡ step_of_inline i → is_opening s ≡ is_opening (step_of_item (item i))
item_opens i s e = ap (λ (x : Step). is_opening x) (e ∙ item_step i)

-- it does not open one, where it is another step
pub not_opening : (s : Step) → (s ≡ Opens → ⊥) → false ≡ is_opening s
not_opening Opens other = absurd (other refl)
not_opening (Closes d) other = refl
not_opening Stays other = refl
not_opening Ends other = refl

read_step_lem : (cs : List ℕ) (r : Read) → read_step r ≡ step_of (meaning cs r)
unfolding step_of
read_step_lem cs (Good (UnitStart c) w) = refl
read_step_lem cs (Good UnitEnd w) = refl
read_step_lem cs (Good (Segment f) w) = refl
read_step_lem cs (Good (Ignorable i) w) = refl
read_step_lem cs (Good (Target q) w) = refl
read_step_lem cs (Good Text w) = refl
read_step_lem cs (Good (Inline i) w) = item_step i
read_step_lem cs Ill = refl
read_step_lem cs (Broken b) = refl

text_stays : Stays ≡ step_of ill_text
unfolding step_of
text_stays = refl

pub step_known : (t : List ℕ) (r : Read) → Known t r → read_step r ≡ step_of (read t)
step_known t r (same_record p q) = read_step_lem (body t) r ∙ ap step_of p
step_known t _ (some_text e) = text_stays ∙ ap step_of (sym e)

-- one less, as it is computed
pub less_one : (n : ℕ) → n - 1 ≡ one_less n
unfolding one_less
less_one zero = omega arith
less_one (suc n) = omega arith

-- the record at an offset is passed
pub record Passed (t : List ℕ) (at : ℕ) (rs : List encode.Record) (next : ℕ) : Type 0 where
  pub first : encode.Record
  pub others : List encode.Record
  pub split : rs ≡ first ∷ others
  pub reads : read (drop at t) ≡ first
  pub moves : at < next
  pub fits : next ≤ length t
  pub rest : At t next others

pub passed : (t : List ℕ) (at : ℕ) (rs : List encode.Record) (next : ℕ) → At t at rs → at < length t → After t at next
    → Passed t at rs next
passed t at rs next a l k =
    let s = stepped t at rs k.found a l k.known in
    let n = at_next t at s.first s.others (subst (At t at) s.split a) in
    let e = k.offset in
    record {
      first = s.first;
      others = s.others;
      split = s.split;
      reads = n.reads;
      moves = omega (arith, s.moves);
      fits = omega (arith, s.fits);
      rest = subst (λ (x : ℕ). At t x s.others) (sym e) s.rest;
    }

-- the depth behind the record that stands at an offset
pub first_step : (t : List ℕ) (at : ℕ) (rs : List encode.Record) → At t at rs
    → (r : encode.Record) (qs : List encode.Record) → rs ≡ r ∷ qs
    → (n : ℕ) {m : ℕ} (s : Step) → s ≡ step_of (read (drop at t)) → m ≡ depth_after n s → m ≡ depth_after n (step_of r)
first_step t at rs a r qs e n s p q =
    let k = at_next t at r qs (subst (At t at) e a) in
    q ∙ ap (λ (x : Step). depth_after n x) (p ∙ ap step_of k.reads)
