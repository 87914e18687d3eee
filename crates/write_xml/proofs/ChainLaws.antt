-- The refusals of the writer, one after the other, and its text.
use Prim.Native.Nat.{ℕ}
use mathlib.Core.Path.{◌≡◌, ap, ◌∙◌}
use mathlib.Core.Bool.{true, false}
use mathlib.Core.List.{List}
use mathlib.Core.Option.{Option, none}
use lib.ListN.{length}
use lib.Dec.{ltb}
use Rattle.xliff.specs.Answer.{Refusal, refusal, applies, ◌then◌, result, refuse, unless}
use Rattle.xliff.specs.Parse.{unit}
use Rattle.xliff.specs.Check.{table_refusal}
use Rattle.outcomes.proofs.OutcomeLaws.{applied, passed}
use Rattle.xml.specs.Write.{unit_text, too_deep}
use Rattle.xml.specs.Xml.{write_xml}

-- the check refuses the table
pub refused_table : (t : List ℕ) (room n at : ℕ) → table_refusal t ≡ refusal n at
    → write_xml t room ≡ refuse (record { number = n; place = at })
unfolding write_xml ◌then◌ unless
refused_table t room n at e =
    let text = unit_text (unit t) in
    ap (λ (o : Option Refusal). unless
    (o then applies 22 (too_deep (unit t)) then applies 15 (ltb room (length text))) text) e

-- it passes
module _ (t : List ℕ) (room : ℕ) (e : table_refusal t ≡ none) where
  abbrev text : List ℕ
  text = unit_text (unit t)

  abbrev long : Option Refusal
  long = applies 15 (ltb room (length text))

  checked : write_xml t room ≡ unless (applies 22 (too_deep (unit t)) then long) text
  unfolding write_xml ◌then◌
  checked = ap (λ (o : Option Refusal). unless (o then applies 22 (too_deep (unit t)) then long) text) e

  pub refused_22 : too_deep (unit t) ≡ true → write_xml t room ≡ refuse (record { number = 22; place = 0 })
  refused_22 d = checked ∙ applied 22 (too_deep (unit t)) long text d

  module _ (d : too_deep (unit t) ≡ false) where
    shallow : write_xml t room ≡ unless long text
    shallow = checked ∙ ap (λ (o : Option Refusal). unless o text) (passed 22 (too_deep (unit t)) long d)

    pub refused_15 : ltb room (length text) ≡ true → write_xml t room ≡ refuse (record { number = 15; place = 0 })
    unfolding applies unless
    refused_15 h = shallow ∙ rw h

    pub written : ltb room (length text) ≡ false → write_xml t room ≡ result text
    unfolding applies unless
    written h = shallow ∙ rw h
