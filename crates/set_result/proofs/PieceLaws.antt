-- The pieces of a table with one target set, and their lengths.
use Prim.Native.Nat.{ℕ, ◌+◌, ◌≤◌}
use mathlib.Core.Path.{◌≡◌, refl, sym, ap, ap₂, ◌∙◌}
use mathlib.Core.List.{List, ◌∷◌, ◌++◌, append_assoc}
use native.Mathlib.Omega.{arith}
use lib.ListN.{length, drop, length-append, length-drop}
use Rattle.xliff.specs.Bytes.{gather}
use Rattle.xliff.specs.Item.{Content}
use Rattle.xliff.specs.Unit.{target, Part, XliffUnit, with_state}
use Rattle.xliff.specs.Encode.{target_head, record_bytes, head_bytes, content_bytes, target_records, part_records, spell, encode}
use Rattle.xliff.specs.Parse.{unit}
use Rattle.xliff.specs.Focus.{here, focus, with_parts}
use Rattle.xliff.specs.SetTarget.{new_order, set_focus, set_unit}
use Rattle.xliff.specs.Good.{bytes_of, opened, closed}
use Rattle.xliff.proofs.unit.Pieces.{spell_append, part_bytes, bytes_append, table_pieces}
use Rattle.xliff.proofs.lists.Slices.{tail_is}
use Rattle.writer.specs.Pieces.{rest}
use Rattle.writer.proofs.RunLaws.{Pieces}
use Rattle.heads.proofs.HeadLaws.{target_long as head_long}
use Rattle.part_at.specs.declared.PartPlace.{PartPlace}
use Rattle.part_at.specs.Stands.{PartStands}
use Rattle.removed_target.specs.Removed.{to_source}
use Rattle.removed_target.proofs.RemovedLaws.{to_source_long}
use Rattle.set_result.specs.SetUnit.{target_bytes, set_part, unit_with, size_with}

target_is : (q : ℕ) (xs : Content) → spell (target_records (target q xs)) ≡ target_bytes q (content_bytes xs)
unfolding spell gather target_records content_bytes
target_is q xs = refl

pub target_long : (q : ℕ) (s : List ℕ) → length (target_bytes q s) ≡ 4 + length s
target_long q s = omega (arith, length-append (record_bytes (target_head q)) s, head_long q)

module _ (u : XliffUnit) (st q : ℕ) (xs : Content) (b : List Part) (p : Part) (a : List Part) where
  abbrev w : List ℕ
  w = (head_bytes (with_state st p.head) ++ content_bytes p.source) ++ target_bytes q (content_bytes xs)

  parts_are : bytes_of (b ++ (set_part st q xs p ∷ a)) ≡ bytes_of b ++ (w ++ bytes_of a)
  unfolding gather
  parts_are =
      bytes_append b (set_part st q xs p ∷ a)
      ∙ ap (λ (l : List ℕ). bytes_of b ++ l)
      (spell_append (part_records (set_part st q xs p)) (gather part_records a)
      ∙ ap (λ (l : List ℕ). l ++ bytes_of a)
      (part_bytes (set_part st q xs p)
      ∙ ap (λ (l : List ℕ). (head_bytes (with_state st p.head) ++ content_bytes p.source) ++ l) (target_is q xs)))

  regroup : (x y h s g z c : List ℕ) → (x ++ (y ++ (((h ++ s) ++ g) ++ z))) ++ c ≡ ((((x ++ y) ++ h) ++ s) ++ g) ++ (z ++ c)
  regroup x y h s g z c = simp append_assoc

  pub set_pieces : encode (unit_with u st q xs b p a) ≡ (to_source st u b p ++ target_bytes q (content_bytes xs)) ++ (bytes_of a ++ closed)
  unfolding unit_with with_parts
  set_pieces =
      table_pieces (unit_with u st q xs b p a)
      ∙ ap (λ (l : List ℕ). (opened u ++ l) ++ closed) parts_are
      ∙ regroup (opened u) (bytes_of b) (head_bytes (with_state st p.head)) (content_bytes p.source)
      (target_bytes q (content_bytes xs)) (bytes_of a) closed

module _ (t : List ℕ) (b : List Part) (p : Part) (a : List Part) (place : PartPlace) (s : PartStands t b p a place)
    (st q : ℕ) (xs : Content) (c : List ℕ) (is : content_bytes xs ≡ c) where
  pub set_is : (to_source st (unit t) b p ++ target_bytes q c) ++ drop place.end t ≡ encode (unit_with (unit t) st q xs b p a)
  set_is =
      ap₂ (λ (x y : List ℕ). (to_source st (unit t) b p ++ target_bytes q x) ++ y) (sym is) s.behind
      ∙ sym (set_pieces (unit t) st q xs b p a)

  pub set_long : length (encode (unit_with (unit t) st q xs b p a)) ≡ size_with t place c
  set_long =
      let z = ap length (sym set_is) in
      omega (
        arith,
        z,
        length-append (to_source st (unit t) b p ++ target_bytes q c) (drop place.end t),
        length-append (to_source st (unit t) b p) (target_bytes q c),
        to_source_long t b p a place s st,
        target_long q c,
        length-drop place.end t,
      )

-- what is written piece by piece, and room for it
module _ (t : List ℕ) (b : List Part) (p : Part) (a : List Part) (place : PartPlace) (s : PartStands t b p a place) (st q : ℕ) (c : List ℕ) where
  abbrev all : List ℕ
  all = (to_source st (unit t) b p ++ target_bytes q c) ++ rest place.end t

  abbrev pub pieces_by : {w : List ℕ} → w ≡ all → Pieces w
  pieces_by e = record { first = to_source st (unit t) b p; second = target_bytes q c; third = rest place.end t; all = e }

  pub set_room : (o : List ℕ) → size_with t place c ≤ length o → length all ≤ length o
  set_room o h =
      omega (
        arith,
        length-append (to_source st (unit t) b p ++ target_bytes q c) (rest place.end t),
        length-append (to_source st (unit t) b p) (target_bytes q c),
        to_source_long t b p a place s st,
        target_long q c,
        ap length (tail_is place.end t),
        length-drop place.end t,
      )

  pub set_all : (xs : Content) → content_bytes xs ≡ c → encode (unit_with (unit t) st q xs b p a) ≡ all
  set_all xs is =
      sym (ap (λ (r : List ℕ). (to_source st (unit t) b p ++ target_bytes q c) ++ r) (tail_is place.end t) ∙ set_is t b p a place s st q xs c is)

-- the result by the number of the part
pub set_unit_is : (u : XliffUnit) (n st q : ℕ) (xs : Content) (b : List Part) (p : Part) (a : List Part) → focus u.parts n ≡ here b p a
    → q ≡ new_order u.parts n p.target → set_unit u n st xs ≡ unit_with u st q xs b p a
unfolding set_unit set_focus unit_with
set_unit_is u n st q xs b p a e o =
    ap (λ f. with_parts u (set_focus u.parts n st xs f)) e ∙ ap (λ (k : ℕ). with_parts u (b ++ (set_part st k xs p ∷ a))) (sym o)
