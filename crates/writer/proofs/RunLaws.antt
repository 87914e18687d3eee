-- Bytes written in three pieces, or in two: each directly behind the last, into the rest that `&mut out[n..]` lends.
use Prim.Native.Nat.{ℕ, ◌+◌, ◌≤◌}
use mathlib.Core.Path.{◌≡◌, sym, ap, ◌∙◌}
use mathlib.Core.List.{List, [], ◌++◌, append-nil}
use native.Mathlib.Omega.{arith}
use lib.ListN.{length, length-append}
use Rattle.writer.specs.Pieces.{lead, Written, rest, back}
use Rattle.writer.proofs.PieceLaws.{two_back, lead_length}
use Rattle.xliff.proofs.lists.Slices.{tail_room}

-- the bytes s in pieces
pub record Pieces (s : List ℕ) : Type 0 where
  pub first : List ℕ
  pub second : List ℕ
  pub third : List ℕ
  pub all : s ≡ (first ++ second) ++ third

-- in two
abbrev pub pair : {s : List ℕ} (a b : List ℕ) → s ≡ a ++ b → Pieces s
pair a b e = record { first = a; second = b; third = []; all = e ∙ sym (append-nil (a ++ b)) }

module _ {s : List ℕ} (p : Pieces s) (o : List ℕ) where
  pieces_long : length s ≡ length p.first + length p.second + length p.third
  pieces_long =
      ap length p.all ∙ length-append (p.first ++ p.second) p.third ∙ ap (λ (n : ℕ). n + length p.third) (length-append p.first p.second)

  -- the output has room for all: for the first piece
  module _ (room : length s ≤ length o) where
    pub first_room : length p.first ≤ length o
    first_room = omega (arith, pieces_long)

    -- the second begins within it, and has room behind the first
    module _ {n : ℕ} {l : List ℕ} (w : Written p.first o n l) where
      first_kept : length l ≡ length o
      first_kept = ap length w.1 ∙ lead_length p.first o first_room

      pub second_start : n ≤ length l
      second_start = let k = w.0 in omega (arith, first_kept, first_room)

      pub second_room : length p.second ≤ length (rest n l)
      second_room = let k = w.0 in tail_room l n (length p.second) (omega (arith, first_kept, pieces_long))

      -- and the third behind both
      module _ {m : ℕ} {y : List ℕ} (v : Written p.second (rest n l) m y) where
        pub two_fit : n + m ≤ length o
        two_fit = let k = w.0 in let i = v.0 in omega (arith, pieces_long)

        second_kept : length (back n l y) ≡ length o
        second_kept =
            ap length (two_back o p.first p.second l y n w.0 w.1 v.1)
            ∙ lead_length (p.first ++ p.second) o (omega (arith, length-append p.first p.second, pieces_long))

        pub third_start : n + m ≤ length (back n l y)
        third_start = omega (arith, two_fit, second_kept)

        pub third_room : length p.third ≤ length (rest (n + m) (back n l y))
        third_room =
            let k = w.0 in
            let i = v.0 in
            tail_room (back n l y) (n + m) (length p.third) (omega (arith, second_kept, pieces_long))

        pub three_fit : {i : ℕ} → i ≡ length p.third → n + m + i ≤ length o
        three_fit e = let k = w.0 in let j = v.0 in omega (arith, pieces_long)

  -- all pieces are written
  module _ {n : ℕ} {l : List ℕ} (w : Written p.first o n l) {m : ℕ} {y : List ℕ} (v : Written p.second (rest n l) m y) where
    pub two_wrote : Written (p.first ++ p.second) o (n + m) (back n l y)
    two_wrote =
        let k = w.0 in
        let i = v.0 in
        (omega (arith, length-append p.first p.second), two_back o p.first p.second l y n w.0 w.1 v.1)

    pub both_wrote : p.third ≡ [] → Written s o (n + m) (back n l y)
    both_wrote e =
        let z = p.all ∙ ap (λ (x : List ℕ). (p.first ++ p.second) ++ x) e ∙ append-nil (p.first ++ p.second) in
        (two_wrote.0 ∙ ap length (sym z), two_wrote.1 ∙ ap (λ (x : List ℕ). lead x o) (sym z))

    pub all_wrote : {i : ℕ} {x : List ℕ} → Written p.third (rest (n + m) (back n l y)) i x → Written s o (n + m + i) (back (n + m) (back n l y) x)
    all_wrote {i} {x} u =
        let k = two_wrote.0 in
        let j = u.0 in
        let z = ap length p.all in (
          omega (arith, length-append (p.first ++ p.second) p.third),
          two_back o (p.first ++ p.second) p.third (back n l y) x (n + m) two_wrote.0 two_wrote.1 u.1
              ∙ ap (λ (b : List ℕ). lead b o) (sym p.all),
        )
