-- A part of a table: its head, and the bytes of its two contents.
use Prim.Native.Nat.{ℕ, ◌+◌, ◌-◌, ◌<◌, ◌≤◌}
use native.Mathlib.Omega.{arith}
use mathlib.Core.Path.{◌≡◌, refl, sym, ap, ◌∙◌, subst}
use mathlib.Core.Bool.{Bool, true, false, true≢false, false≢true}
use mathlib.Core.List.{List, [], ◌∷◌, ◌++◌}
use lib.ListN.{length, take, drop}
use Rattle.xliff.specs.Bytes.{gather}
use Rattle.xliff.specs.Unit.{Head, target_items, Part}
use Rattle.xliff.specs.Encode as encode
use Rattle.xliff.specs.Encode.{closing, part_head, content_records, target_records, part_records}
use Rattle.xliff.specs.Parse.{is_part, is_broken}
use Rattle.xliff.specs.Good.{GoodHead}
use Rattle.xliff.proofs.lists.Each.{each_apart}
use Rattle.places.specs.Offsets.{At}
use Rattle.places.proofs.Places.{Next, at_next}
use Rattle.table.specs.Known.{Known}
use Rattle.table.specs.Meaning.{meaning, body}
use Rattle.table.specs.declared.Record.TheVariants.{Unit as UnitStart, UnitEnd, Segment, Ignorable, Target, Text, Inline}
use Rattle.table.specs.declared.Read.{Read}
use Rattle.table.specs.declared.Read.TheVariants.{Good, Ill, Broken}
use Rattle.orders.proofs.WalkLaws.{known_read}
use Rattle.walk.specs.Kept.{Holds}
use Rattle.part_at.specs.declared.PartPlace.{PartPlace}
use Rattle.part_at.specs.Stands.{PartStands}
use Rattle.draft.specs.declared.Draft.{Draft}
use Rattle.draft.specs.Drafts.{Wrote}
use Rattle.draft.proofs.DraftLaws.{wrote_then, wrote_as}
use Rattle.sheet.specs.Sheet.{part_rows, row_bytes}
use Rattle.sheet_rows.specs.Rows.{head_margin, ReadMargin, PutContents}
use Rattle.sheet_rows.proofs.ByRowLaws.{part_written}

same_head : (g h : Head) → part_head g ≡ part_head h → g ≡ h
same_head g h e = cc

-- the margin of what was read, where that is the head of a part
margin_read : (n : ℕ) (cs : List ℕ) (r : Read) (h : Head) → meaning cs r ≡ part_head h
    → (draft draft' : Draft) → ReadMargin n r draft draft'
    → Wrote (head_margin n h) draft draft'
unfolding is_part is_broken
margin_read n cs (Good (UnitStart u) w) h e draft draft' m = absurd (false≢true (ap is_part e))
margin_read n cs (Good UnitEnd w) h e draft draft' m = absurd (false≢true (ap is_part e))
margin_read n cs (Good (Segment f) w) h e draft draft' m = wrote_as (ap (head_margin n) (same_head _ _ e)) m
margin_read n cs (Good (Ignorable i) w) h e draft draft' m = wrote_as (ap (head_margin n) (same_head _ _ e)) m
margin_read n cs (Good (Target q) w) h e draft draft' m = absurd (false≢true (ap is_part e))
margin_read n cs (Good Text w) h e draft draft' m = absurd (false≢true (ap is_part e))
margin_read n cs (Good (Inline i) w) h e draft draft' m = absurd (false≢true (ap is_part e))
margin_read n cs Ill h e draft draft' m = absurd (false≢true (ap is_part e))
margin_read n cs (Broken b) h e draft draft' m = absurd (true≢false (ap is_broken e))

module _ (t : List ℕ) (b : List Part) (p : Part) (a : List Part) (place : PartPlace)
    (s : PartStands t b p a place) where
  -- the records from its head on
  abbrev others : List encode.Record
  others = (content_records p.source ++ target_records p.target) ++ (gather part_records a ++ (closing ∷ []))

  there : At t place.head (part_head p.head ∷ others)
  unfolding part_records
  there = s.records

  head_next : Next t place.head (part_head p.head) others
  head_next = at_next t place.head (part_head p.head) others there

  part_good : GoodHead p.head
  part_good = (each_apart [] (part_head p.head) others there.good).1

  -- what `walker::known_at` finds there
  head_read : (r : Read) → Known (drop place.head t) r
      → meaning (body (drop place.head t)) r ≡ part_head p.head
  head_read r k =
      let within : place.head < length t = omega (arith, head_next.moves, head_next.fits) in
      (known_read t place.head (part_head p.head ∷ others) r there within k).0 ∙ head_next.reads

  pub head_margined : (n : ℕ) (r : Read) → Known (drop place.head t) r
      → (draft draft' : Draft) → ReadMargin n r draft draft'
      → Wrote (head_margin n p.head) draft draft'
  head_margined n r k = margin_read n (body (drop place.head t)) r p.head (head_read r k)

  -- all of its rows, from bytes that hold its contents
  pub part_put : (n : ℕ) (draft headed : Draft) → Wrote (head_margin n p.head) draft headed
      → (source target : List ℕ) → Holds source p.source → Holds target (target_items p.target)
      → (last : Draft) → PutContents source target headed last
      → Wrote (gather row_bytes (part_rows n p)) draft last
  part_put n draft headed w source target x y last put =
      wrote_as (sym (part_written n p part_good)) (wrote_then w (put p.source (target_items p.target) x y))
