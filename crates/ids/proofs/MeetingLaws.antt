-- Rule 6 on its way: the ids met before an offset, stored and linked, and what the rest of the table still has to say.
use Prim.Native.Nat.{ℕ, ◌+◌, ◌≤◌, ◌<◌}
use mathlib.Core.Path.{◌≡◌, sym, ◌∙◌, ap, subst}
use mathlib.Core.Bool.{true, false}
use mathlib.Core.List.{List, [], ◌++◌}
use mathlib.Core.Option.{none}
use native.Mathlib.Omega.{arith}
use lib.ListN.{length}
use Rattle.xliff.specs.Answer.{refusal}
use Rattle.xliff.specs.Encode.{Record, unit_records}
use Rattle.xliff.specs.Parse.{unit, most_records}
use Rattle.xliff.specs.Rules.{Named, first_clash, fault_6}
use Rattle.places.specs.Passes.{Passes}
use Rattle.places.specs.Offsets.{At}
use Rattle.places.specs.Found.{names_found}
use Rattle.places.proofs.Places.{at_start}
use Rattle.glance.specs.declared.Glance.{Glance}
use Rattle.glance.specs.Glances.{kind_of}
use Rattle.orders.proofs.WalkLaws.{Walked}
use Rattle.ids.specs.Keys.{owner, named, owner_by, NameAt, Meets}
use Rattle.std.specs.Prelude.{Option}
use Rattle.ids.proofs.NameLaws.{Met, name_hit, name_miss, owner_bound, names_step, names_end, names_start, met_none}

pub record Meeting (t keys : List ℕ) (n o at : ℕ) : Type 0 where
  pub records : List Record
  pub met : List Named
  pub here : At t at records
  pub rest : fault_6 (unit t).parts ≡ first_clash met (names_found (owner o) at records)
  pub stored : Met keys n met
  pub room : n + length records ≤ most_records
  pub owned : o ≤ 3

pub meeting_start : (t keys : List ℕ) (n : ℕ) → Passes t → n ≡ 0 → Meeting t keys n 2 0
meeting_start t keys n p z =
    record {
      records = unit_records (unit t);
      met = [];
      here = at_start t p;
      rest = names_start t;
      stored = subst (λ (j : ℕ). Met keys j []) (sym z) (met_none keys);
      room = omega (arith, p.few, z);
      owned = omega arith;
    }

module _ {t keys : List ℕ} {n o at : ℕ} (m : Meeting t keys n o at) where
  pub meeting_end : length t ≤ at → none ≡ fault_6 (unit t).parts
  meeting_end l = sym (m.rest ∙ names_end t at m.records (owner o) m.met m.here l)

  -- one record further
  module _ (g : Glance) (v : Walked t at m.records g) where
    pub meeting_room : n < most_records
    meeting_room = omega (arith, m.room, ap length v.step.split)

    module _ (l : at < length t) (name : Option ℕ) (is : NameAt t at (kind_of g.head) o name) (keys' : List ℕ) (n' : ℕ) where
      abbrev later : List Named
      later = names_found (owner (owner_by (kind_of g.head) o)) (at + g.width) v.step.others

      on : fault_6 (unit t).parts ≡ first_clash m.met (named name at ++ later)
      on = m.rest ∙ ap (first_clash m.met) (names_step t at m.records g m.here l v o name is)

      pub meeting_refuses : Meets keys n name true keys' n' → refusal 6 at ≡ fault_6 (unit t).parts
      meeting_refuses e = sym (on ∙ name_hit keys n m.met m.stored name at later keys' n' e)

      pub meeting_goes_on : length keys ≡ most_records → Meets keys n name false keys' n' → (o' : ℕ) → o' ≡ owner_by (kind_of g.head) o
          → Meeting t keys' n' o' (at + g.width)
      meeting_goes_on sized e o' own =
          let miss = name_miss keys n m.met m.stored name at later keys' n' (omega (arith, meeting_room, sized)) e in
          record {
            records = v.step.others;
            met = miss.0;
            here = v.rest;
            rest = on ∙ miss.1 ∙ ap (λ (a : ℕ). first_clash miss.0 (names_found (owner a) (at + g.width) v.step.others)) (sym own);
            stored = miss.2;
            room = omega (arith, miss.3, m.room, ap length v.step.split);
            owned = subst (λ (j : ℕ). j ≤ 3) (sym own) (owner_bound (kind_of g.head) o m.owned);
          }
