-- A walk over the parts of a table that writes a text for each: what it has written of the parts that it has passed.
use Prim.Native.Nat.{ℕ, suc, ◌+◌, ◌-◌, ◌<◌, ◌≤◌}
use native.Mathlib.Omega.{arith}
use mathlib.Core.Path.{◌≡◌, sym, ap, ◌∙◌}
use mathlib.Core.Bool.{true, false}
use mathlib.Core.List.{List, [], ◌∷◌, ◌++◌, append_assoc, append-nil}
use lib.ListN.{length, drop, length-append, length-take}
use Rattle.xliff.specs.Unit.{Part}
use Rattle.xliff.specs.Parse.{read, is_part, unit, most_parts}
use Rattle.places.specs.Passes.{Passes}
use Rattle.orders.proofs.WalkLaws.{few_parts}
use Rattle.part_at.specs.declared.PartPlace.{PartPlace}
use Rattle.part_at.specs.Stands.{PartFrom, PartSpans, PartStands, Standing}
use Rattle.part_at.proofs.PartLaws.{Walked, walked_start, walked_all, next_part, next_all, walked_part, walked_on, walked_stands}
use Rattle.parts.proofs.TableLaws.{part_least}
use Rattle.draft.specs.declared.Draft.{Draft}
use Rattle.draft.specs.Drafts.{Wrote}
use Rattle.draft.proofs.DraftLaws.{wrote_nothing, wrote_then, wrote_as}
use Rattle.part_texts.specs.Texts.{part_texts, PutPart}

-- one part more
texts_behind : (text : ℕ → Part → List ℕ) (n : ℕ) (b : List Part) (p : Part)
    → part_texts text n (b ++ (p ∷ [])) ≡ part_texts text n b ++ text (n + length b) p
unfolding part_texts
texts_behind text n [] p =
    append-nil (text n p) ∙ ap (λ (k : ℕ). text k p) (let z : n ≡ n + 0 = omega arith in z)
texts_behind text n (q ∷ b) p =
    ap (λ (l : List ℕ). text n q ++ l)
    (texts_behind text (suc n) b p
    ∙ ap (λ (k : ℕ). part_texts text (suc n) b ++ text k p)
    (let z : suc n + length b ≡ n + suc (length b) = omega arith in z))
    ∙ sym (append_assoc (text n q) (part_texts text (suc n) b) (text (n + suc (length b)) p))

-- the parts before an offset are written; part n is the next
pub record PartsPut (text : ℕ → Part → List ℕ) (t : List ℕ) (begun : Draft) (at n : ℕ) (draft : Draft) : Type 0
  where
    pub behind : List Part
    pub ahead : List Part
    pub walked : Walked t at behind ahead
    pub number : n ≡ 1 + length behind
    pub wrote : Wrote (part_texts text 1 behind) begun draft

pub put_start : (text : ℕ → Part → List ℕ) (t : List ℕ) (draft : Draft) → Passes t → PartsPut text t draft 3 1 draft
unfolding part_texts
put_start text t draft p =
    record {
      behind = [];
      ahead = (unit t).parts;
      walked = walked_start t p;
      number = omega arith;
      wrote = wrote_nothing;
    }

module _ {text : ℕ → Part → List ℕ} {t : List ℕ} (h : Passes t) {begun : Draft} {at n : ℕ} {draft : Draft}
    (l : PartsPut text t begun at n draft) where
  -- no part is ahead
  pub put_end : is_part (read (drop at t)) ≡ false → Wrote (part_texts text 1 (unit t).parts) begun draft
  put_end e =
      wrote_as (ap (part_texts text 1) (sym (walked_all t h at l.behind l.ahead l.walked e))) l.wrote

  -- a part is ahead
  module _ (e : is_part (read (drop at t)) ≡ true) where
    abbrev next : (p : Part) × (a : List Part) × (l.ahead ≡ p ∷ a)
    next = next_part t h at l.behind l.ahead l.walked e

    pub put_from : PartFrom t at
    put_from = walked_part t h at l.behind l.ahead l.walked e

    pub put_few : n ≤ most_parts
    put_few =
        omega (
          arith,
          l.number,
          few_parts t h,
          ap (λ (ps : List Part). length ps) (next_all t h at l.behind l.ahead l.walked e),
          length-append l.behind (next.0 ∷ next.1),
        )

    module _ (place : PartPlace) (spans : PartSpans t at place) where
      stands : PartStands t l.behind next.0 next.1 place
      stands = walked_stands t h at l.behind l.ahead l.walked e place spans

      pub put_stands : Standing t place
      put_stands = (l.behind, next.0, next.1, stands)

      -- behind it the rest of the table is shorter
      pub put_less : length t - place.end < length t - at
      put_less =
          omega (
            arith,
            part_least next.0,
            ap length stands.whole.is,
            length-take (place.end - place.head) (drop place.head t),
            stands.whole.within,
            stands.offset,
            l.walked.offset,
          )

      pub put_on : (draft' : Draft) → PutPart (text n) t place draft draft'
          → PartsPut text t begun place.end (n + 1) draft'
      put_on draft' put =
          let p = next.0 in
          let behind = ap (λ (k : ℕ). part_texts text 1 l.behind ++ text k p) l.number
          ∙ sym (texts_behind text 1 l.behind p) in
          record {
            behind = l.behind ++ (p ∷ []);
            ahead = next.1;
            walked = walked_on t h at l.behind l.ahead l.walked e place spans;
            number = omega (arith, l.number, length-append l.behind (p ∷ []));
            wrote = wrote_as behind (wrote_then l.wrote (put l.behind p next.1 stands));
          }
