-- A part as the view shows it: whole within the grant; else its head with the state shown as I, and its source.
use Prim.Native.Nat.{ℕ, ◌-◌}
use mathlib.Core.Path.{◌≡◌, sym, ap, ◌∙◌}
use mathlib.Core.Bool.{Bool, true, false}
use mathlib.Core.List.{List, ◌++◌}
use lib.ListN.{take, drop}
use Rattle.xliff.specs.Bytes.{'I'}
use Rattle.xliff.specs.Unit.{Part, with_state}
use Rattle.xliff.specs.Encode.{head_bytes, content_bytes, part_records, spell}
use Rattle.part_at.specs.declared.PartPlace.{PartPlace}
use Rattle.part_at.specs.Stands.{PartStands}
use Rattle.removed_target.proofs.RemovedLaws.{bared_bytes}
use Rattle.draft.specs.declared.Draft.{Draft}
use Rattle.draft.specs.Drafts.{Wrote}
use Rattle.draft.proofs.DraftLaws.{wrote_then, wrote_as}
use Rattle.grants.specs.View.{shown}
use Rattle.granted_view.specs.Shown.{PutHead}

abbrev shown_bytes : Bool → Part → List ℕ
shown_bytes inside p = spell (part_records (shown inside p))

whole_bytes : (p : Part) (inside : Bool) → inside ≡ true → spell (part_records p) ≡ shown_bytes inside p
unfolding shown
whole_bytes p inside e = ap (λ (i : Bool). shown_bytes i p) (sym e)

hidden_bytes : (p : Part) (inside : Bool) → inside ≡ false
    → head_bytes (with_state 'I' p.head) ++ content_bytes p.source ≡ shown_bytes inside p
unfolding shown
hidden_bytes p inside e = sym (bared_bytes p) ∙ ap (λ (i : Bool). shown_bytes i p) (sym e)

module _ (t : List ℕ) (b : List Part) (p : Part) (a : List Part) (place : PartPlace) (s : PartStands t b p a place)
    (inside : Bool) (draft : Draft) where
  -- within the grant
  pub whole_put : inside ≡ true → (last : Draft)
      → Wrote (take (place.end - place.head) (drop place.head t)) draft last
      → Wrote (shown_bytes inside p) draft last
  whole_put e last w = wrote_as (s.whole.is ∙ whole_bytes p inside e) w

  -- outside
  pub hidden_put : inside ≡ false → (headed : Draft)
      → PutHead (take (place.source - place.head) (drop place.head t)) draft headed
      → (last : Draft) → Wrote (take (place.target - place.source) (drop place.source t)) headed last
      → Wrote (shown_bytes inside p) draft last
  hidden_put e headed put last w =
      wrote_as (hidden_bytes p inside e)
      (wrote_then (put p.head (sym s.head.is)) (wrote_as s.source.is w))
