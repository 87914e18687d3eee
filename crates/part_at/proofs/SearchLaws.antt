-- A walk over all records by glances, that looks for one that a test holds of.
use Prim.Native.Nat.{ℕ, ◌+◌, ◌≤◌, ◌<◌}
use mathlib.Core.Path.{◌≡◌, sym, ap, ◌∙◌}
use mathlib.Core.Bool.{Bool, true, false, ◌||◌}
use mathlib.Core.List.{List}
use lib.ListN.{length, drop}
use Rattle.xliff.specs.Bytes.{any}
use Rattle.xliff.specs.Encode as encode
use Rattle.xliff.specs.Encode.{unit_records}
use Rattle.xliff.specs.Parse.{unit}
use Rattle.places.specs.Passes.{Passes}
use Rattle.places.specs.Offsets.{At}
use Rattle.places.proofs.Places.{at_start, at_end}
use Rattle.glance.specs.declared.Glance.{Glance}
use Rattle.glance.specs.Glances.{Glanced}
use Rattle.orders.proofs.WalkLaws.{Walked, walked}

-- none is found so far: what is to be told is whether one comes
pub record Searched (t : List ℕ) (test : encode.Record → Bool) (told : Bool) (at : ℕ) : Type 0 where
  pub rs : List encode.Record
  pub there : At t at rs
  pub same : told ≡ any test rs

module _ (t : List ℕ) (test : encode.Record → Bool) (told : Bool) where
  pub searched_start : Passes t → told ≡ any test (unit_records (unit t)) → Searched t test told 0
  searched_start p e = record { rs = unit_records (unit t); there = at_start t p; same = e }

  module _ (at : ℕ) (g : Glance) (e : Glanced (drop at t) g) (s : Searched t test told at) (before : at < length t) where
    -- what the glance says of the record there
    pub searched_here : Walked t at s.rs g
    searched_here = walked t at s.rs g s.there before e

    -- the code's test of the record
    module _ (b : Bool) (h : b ≡ test searched_here.step.first) where
      told_by : told ≡ b || any test searched_here.step.others
      unfolding any
      told_by =
          s.same ∙ ap (any test) searched_here.step.split ∙ ap (λ (z : Bool). z || any test searched_here.step.others) (sym h)

      pub searched_found : b ≡ true → told ≡ true
      searched_found z = told_by ∙ ap (λ (z : Bool). z || any test searched_here.step.others) z

      pub searched_on : b ≡ false → Searched t test told (at + g.width)
      searched_on z =
          record {
            rs = searched_here.step.others;
            there = searched_here.rest;
            same = told_by ∙ ap (λ (z : Bool). z || any test searched_here.step.others) z;
          }

  pub searched_end : (at : ℕ) → Searched t test told at → length t ≤ at → told ≡ false
  unfolding any
  searched_end at s l = s.same ∙ ap (any test) (at_end t at s.rs s.there l)
