-- The pieces of a table with one target less, and their lengths.
use Prim.Native.Nat.{ℕ, ◌+◌, ◌-◌, ◌≤◌}
use mathlib.Core.Path.{◌≡◌, sym, ap, ap₂, ◌∙◌}
use mathlib.Core.List.{List, ◌∷◌, ◌++◌, append_assoc, append-nil}
use native.Mathlib.Omega.{arith}
use lib.ListN.{length, take, drop, length-append, length-drop}
use lib.Seq.{length-take-le}
use Rattle.xliff.specs.Bytes.{'I', gather}
use Rattle.xliff.specs.Unit.{Target, no_target, target, Part, XliffUnit, with_state}
use Rattle.xliff.specs.Encode.{head_bytes, content_bytes, target_records, part_records, spell, encode}
use Rattle.xliff.specs.Parse.{unit}
use Rattle.xliff.specs.Focus.{here, focus, with_parts}
use Rattle.xliff.specs.RemoveTarget.{remove_focus, remove_unit}
use Rattle.xliff.specs.Good.{bytes_of, opened, closed}
use Rattle.xliff.proofs.unit.Pieces.{spell_append, part_bytes, bytes_append, table_pieces}
use Rattle.xliff.proofs.lists.Slices.{slice_long, tail_is}
use Rattle.part_at.specs.declared.PartPlace.{PartPlace}
use Rattle.part_at.specs.Stands.{PartStands, TargetStands}
use Rattle.removed_target.specs.Removed.{to_source, removed_unit}
use Rattle.heads.specs.Heads.{HeadRoom}
use Rattle.heads.proofs.HeadLaws.{state_long}
use Rattle.writer.specs.Pieces.{rest}
use Rattle.writer.proofs.RunLaws.{Pieces, pair}

-- the part without its target
abbrev pub bared : Part → Part
bared p = record { head = with_state 'I' p.head; source = p.source; target = no_target }

pub bared_bytes : (p : Part)
    → spell (part_records (bared p)) ≡ head_bytes (with_state 'I' p.head) ++ content_bytes p.source
unfolding spell gather target_records
bared_bytes p = part_bytes (bared p) ∙ append-nil (head_bytes (with_state 'I' p.head) ++ content_bytes p.source)

module _ (u : XliffUnit) (b : List Part) (p : Part) (a : List Part) where
  abbrev w : List ℕ
  w = head_bytes (with_state 'I' p.head) ++ content_bytes p.source

  parts_are : bytes_of (b ++ (bared p ∷ a)) ≡ bytes_of b ++ (w ++ bytes_of a)
  unfolding gather
  parts_are =
      bytes_append b (bared p ∷ a)
      ∙ ap (λ (l : List ℕ). bytes_of b ++ l)
      (spell_append (part_records (bared p)) (gather part_records a)
      ∙ ap (λ (l : List ℕ). l ++ bytes_of a) (bared_bytes p))

  regroup : (x y h s z c : List ℕ) → (x ++ (y ++ ((h ++ s) ++ z))) ++ c ≡ (((x ++ y) ++ h) ++ s) ++ (z ++ c)
  regroup x y h s z c = simp append_assoc

  pub removed_pieces : encode (removed_unit u b p a) ≡ to_source 'I' u b p ++ (bytes_of a ++ closed)
  unfolding removed_unit remove_focus with_parts
  removed_pieces =
      table_pieces (removed_unit u b p a)
      ∙ ap (λ (l : List ℕ). (opened u ++ l) ++ closed) parts_are
      ∙ regroup (opened u) (bytes_of b) (head_bytes (with_state 'I' p.head)) (content_bytes p.source)
      (bytes_of a) closed

ends_behind : (t : List ℕ) (place : PartPlace) (g : Target) → TargetStands t place g → place.target ≤ place.end
ends_behind t place no_target (o, e) = omega (arith, e)
ends_behind t place (target q xs) (o, k, l) = omega (arith, l.ordered)

module _ (t : List ℕ) (b : List Part) (p : Part) (a : List Part) (place : PartPlace)
    (s : PartStands t b p a place) where
  pub in_order : (place.head ≤ place.source) × (place.source ≤ place.target) × (place.target ≤ place.end)
      × (place.end ≤ length t)
  in_order = (s.head.ordered, s.source.ordered, ends_behind t place p.target s.target, s.whole.within)

  -- the table up to the head, the head, the source
  pub lead_long : length (take place.head t) ≡ place.head
  lead_long = length-take-le place.head t (let x = in_order in omega arith)

  pub head_long : length (take (place.source - place.head) (drop place.head t)) ≡ place.source - place.head
  head_long = slice_long t place.head place.source s.head.ordered s.head.within

  pub source_long : length (take (place.target - place.source) (drop place.source t))
      ≡ place.target - place.source
  source_long = slice_long t place.source place.target s.source.ordered s.source.within

  pub state_size : (st : ℕ) → length (head_bytes (with_state st p.head)) ≡ place.source - place.head
  state_size st = state_long st p.head ∙ ap length (sym s.head.is) ∙ head_long

  pub pieces_are : (st : ℕ)
      → (take place.head t ++ head_bytes (with_state st p.head))
      ++ take (place.target - place.source) (drop place.source t)
      ≡ to_source st (unit t) b p
  pieces_are st = ap₂ (λ (x y : List ℕ). (x ++ head_bytes (with_state st p.head)) ++ y) s.before s.source.is

  pub to_source_long : (st : ℕ) → length (to_source st (unit t) b p) ≡ place.target
  to_source_long st =
      let x = in_order in
      let z = ap length (sym (pieces_are st)) in
      omega (
        arith,
        z,
        length-append (take place.head t ++ head_bytes (with_state st p.head))
            (take (place.target - place.source) (drop place.source t)),
        length-append (take place.head t) (head_bytes (with_state st p.head)),
        lead_long,
        state_size st,
        source_long,
      )

  pub removed_is : to_source 'I' (unit t) b p ++ drop place.end t ≡ encode (removed_unit (unit t) b p a)
  removed_is = ap (λ (l : List ℕ). to_source 'I' (unit t) b p ++ l) s.behind ∙ sym (removed_pieces (unit t) b p a)

  pub removed_long : length (encode (removed_unit (unit t) b p a)) ≡ place.target + (length t - place.end)
  removed_long =
      ap length (sym removed_is) ∙ length-append (to_source 'I' (unit t) b p) (drop place.end t)
      ∙ ap₂ (λ (x y : ℕ). x + y) (to_source_long 'I') (length-drop place.end t)

-- what is written piece by piece, and room for it
module _ (t : List ℕ) (b : List Part) (p : Part) (a : List Part) (place : PartPlace)
    (s : PartStands t b p a place) where
  abbrev pub source_pieces : (st : ℕ) → Pieces (to_source st (unit t) b p)
  source_pieces st =
      record {
        first = take place.head t;
        second = head_bytes (with_state st p.head);
        third = take (place.target - place.source) (drop place.source t);
        all = sym (pieces_are t b p a place s st);
      }

  pub source_room : (st : ℕ) (o : List ℕ) → place.target ≤ length o → length (to_source st (unit t) b p) ≤ length o
  source_room st o h = omega (arith, to_source_long t b p a place s st)

  pub head_room : (st : ℕ) (l : List ℕ) → length (head_bytes (with_state st p.head)) ≤ length l
      → HeadRoom (take (place.source - place.head) (drop place.head t)) l
  head_room st l h = (
    (p.head, sym s.head.is),
    omega (arith, state_size t b p a place s st, head_long t b p a place s),
  )

  abbrev pub table_pieces_without : Pieces (encode (removed_unit (unit t) b p a))
  table_pieces_without =
      pair (to_source 'I' (unit t) b p) (rest place.end t)
      (sym (ap (λ (l : List ℕ). to_source 'I' (unit t) b p ++ l) (tail_is place.end t) ∙ removed_is t b p a place s))

  pub removed_room : (o : List ℕ) → length t ≤ length o → length (encode (removed_unit (unit t) b p a)) ≤ length o
  removed_room o h = let z = in_order t b p a place s in omega (arith, removed_long t b p a place s)

-- the result by the number of the part
pub remove_unit_is : (u : XliffUnit) (n : ℕ) (b : List Part) (p : Part) (a : List Part)
    → focus u.parts n ≡ here b p a → remove_unit u n ≡ removed_unit u b p a
unfolding remove_unit removed_unit
remove_unit_is u n b p a e = ap (λ f. with_parts u (remove_focus u.parts f)) e
