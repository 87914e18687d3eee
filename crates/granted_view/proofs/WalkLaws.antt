-- The view part by part: what it shows of each.
use Prim.Native.Nat.{ℕ, suc}
use mathlib.Core.Path.{◌≡◌, refl, sym, ap, ◌∙◌}
use mathlib.Core.Bool.{Bool}
use mathlib.Core.List.{List, [], ◌∷◌, ◌++◌}
use Rattle.xliff.specs.Bytes.{gather}
use Rattle.xliff.specs.Unit.{Part}
use Rattle.xliff.specs.Encode.{part_records, spell}
use Rattle.xliff.specs.Good.{bytes_of}
use Rattle.xliff.proofs.unit.Pieces.{spell_append}
use Rattle.part_at.specs.declared.PartPlace.{PartPlace}
use Rattle.draft.specs.declared.Draft.{Draft}
use Rattle.draft.proofs.DraftLaws.{wrote_as}
use Rattle.part_texts.specs.Texts.{part_texts, PutPart}
use Rattle.grants.specs.Grant.{Grant, within}
use Rattle.grants.specs.View.{shown, view_parts}
use Rattle.granted_view.specs.Shown as pieces

-- the bytes of a part of this number
abbrev pub shown_part : Grant → ℕ → Part → List ℕ
shown_part g n p = spell (part_records (shown (within g n) p))

pub view_by_part : (g : Grant) (n : ℕ) (ps : List Part)
    → part_texts (shown_part g) n ps ≡ bytes_of (view_parts g n ps)
unfolding part_texts view_parts gather spell
view_by_part g n [] = refl
view_by_part g n (p ∷ ps) =
    ap (λ (l : List ℕ). shown_part g n p ++ l) (view_by_part g (suc n) ps)
    ∙ sym (spell_append (part_records (shown (within g n) p)) (gather part_records (view_parts g (suc n) ps)))

-- a part written as inside or outside, where that is what the grant says of its number
pub shown_as_within : {t : List ℕ} {place : PartPlace} {draft draft' : Draft}
    (g : Grant) (n : ℕ) (inside : Bool) → inside ≡ within g n → pieces.PutPart inside t place draft draft'
    → PutPart (shown_part g n) t place draft draft'
shown_as_within g n inside e put b p a s =
    wrote_as (ap (λ (i : Bool). spell (part_records (shown i p))) e) (put b p a s)
