-- Laws of pieces in an output.
use Prim.Native.Nat.{ℕ, suc, ◌+◌, ◌-◌, ◌<◌, ◌≤◌}
use mathlib.Core.Path.{◌≡◌, refl, sym, ap, ◌∙◌}
use mathlib.Core.List.{List, [], ◌∷◌, ◌++◌, append_assoc, append-nil}
use native.Mathlib.Numerals.{add-one}
use native.Mathlib.Omega.{arith}
use lib.ListN.{length, take, drop, get_or, set, length-drop, length-append, drop_of_length-le}
use lib.Seq.{take-length, take-suc, drop-cons, set_at, length-take-le, append_snoc, drop-drop, take-append_seam, drop-append_seam, drop-append-add, set_split}
use borrow.Rule.Slice.PartMut.{put_mid}
use Rattle.writer.specs.Pieces.{lead, Written, rest, back, overlay, bytes_of_mark}
use Rattle.xliff.proofs.lists.Slices.{tail_is}

-- nothing is behind `&s[n..]`
pub tail_ends : (n : ℕ) (s : List ℕ) → drop (length s - n) (drop n s) ≡ []
tail_ends n s = drop_of_length-le (drop n s) {i = length s - n} (omega (arith, length-drop n s))

-- one byte more of a copy
pub lead_suc : (s out : List ℕ) (i : ℕ) → i < length s → i < length out
    → set (take i s ++ drop i out) i (get_or s i 0) ≡ take (i + 1) s ++ drop (i + 1) out
lead_suc s out i h k =
    rw (add-one, take-suc s i 0, append_snoc, drop-cons out i 0)
    (set_at (take i s) (get_or out i 0) (drop (suc i) out) (get_or s i 0) i (length-take-le i s (omega arith)))

pub lead_full : (s out : List ℕ) (i : ℕ) → i ≡ length s → take i s ++ drop i out ≡ lead s out
lead_full s out i e = rw (e, take-length)

-- two bytes copied into `&mut out[at..at + 2]`
pub two_copied : (out xs piece : List ℕ) (at : ℕ) → xs ≡ piece → length piece ≡ 2
    → put_mid at (at + 2 - at) out xs ≡ overlay out at piece
two_copied out xs piece at e two =
    let k : at + 2 - at ≡ 2 = omega arith in
    rw (e, k, two, drop-drop) (sym (append_assoc (take at out) piece (drop (at + 2) out)))

-- a mark is its two bytes
pub mark_bytes : (m : List ℕ) → length m ≡ 2 → m ≡ bytes_of_mark m
mark_bytes [] e = absurd (omega (arith, e))
mark_bytes (a ∷ []) e = absurd (omega (arith, e))
mark_bytes (a ∷ b ∷ []) e = refl
mark_bytes (a ∷ b ∷ c ∷ m) e = absurd (omega (arith, e))

-- a tail that was lent and came back with a piece at its head
pub tail_back : (out p ys : List ℕ) (n : ℕ) → ys ≡ lead p (take (length out - n) (drop n out))
    → take n out ++ (ys ++ drop (length out - n) (drop n out)) ≡ take n out ++ lead p (drop n out)
tail_back out p ys n e = rw (e, tail_is, tail_ends, append-nil)

-- the second piece behind the first
pub two_back : (out a b xs ys : List ℕ) (n : ℕ) → n ≡ length a → xs ≡ lead a out
    → ys ≡ lead b (take (length xs - n) (drop n xs))
    → take n xs ++ (ys ++ drop (length xs - n) (drop n xs)) ≡ lead (a ++ b) out
two_back out a b xs ys n e f g =
    tail_back xs b ys n g
    ∙ rw (e, f, take-append_seam, drop-append_seam, drop-drop, length-append, append_assoc)

pub two_written : (a b s out xs ys : List ℕ) (n m : ℕ) → a ++ b ≡ s → Written a out n xs → Written b (rest n xs) m ys
    → Written s out (n + m) (back n xs ys)
two_written a b s out xs ys n m e v w =
    let total : n + m ≡ length a + length b = omega (arith, v.0, w.0) in (
      total ∙ sym (length-append a b) ∙ ap length e,
      two_back out a b xs ys n v.0 v.1 w.1 ∙ ap (λ (l : List ℕ). lead l out) e,
    )

-- three pieces
pub three_back : (o a b c l y z : List ℕ) (n e : ℕ) → n ≡ length a → l ≡ lead a o
    → y ≡ lead b (take (length l - n) (drop n l)) → e ≡ n + length b
    → z ≡ lead c
    (take (length (take n l ++ (y ++ drop (length l - n) (drop n l))) - e)
    (drop e (take n l ++ (y ++ drop (length l - n) (drop n l)))))
    → take e (take n l ++ (y ++ drop (length l - n) (drop n l)))
    ++ (z ++ drop (length (take n l ++ (y ++ drop (length l - n) (drop n l))) - e)
    (drop e (take n l ++ (y ++ drop (length l - n) (drop n l)))))
    ≡ lead ((a ++ b) ++ c) o
three_back o a b c l y z n e h k u v w =
    two_back o (a ++ b) c (take n l ++ (y ++ drop (length l - n) (drop n l))) z e
    (v ∙ ap (λ (m : ℕ). m + length b) h ∙ sym (length-append a b)) (two_back o a b l y n h k u) w

-- the output keeps its length
pub lead_length : (a o : List ℕ) → length a ≤ length o → length (lead a o) ≡ length o
lead_length a o h = omega (arith, length-append a (drop (length a) o), length-drop (length a) o)

-- a piece written directly behind what stands at the head
pub over_lead : (out p q l : List ℕ) (at : ℕ) → l ≡ lead p out → at ≡ length p → overlay l at q ≡ lead (p ++ q) out
over_lead out p q l at e f =
    rw (e, f, take-append_seam, drop-append-add, drop-drop, length-append)

-- a piece of k bytes at the head, taken from there: `&out[..k]`
pub at_head : (v o l : List ℕ) (k : ℕ) → k ≡ length v → l ≡ lead v o → take k l ≡ v
at_head v o l k e f = rw (e, f, take-append_seam)

pub head_long : (v o l : List ℕ) (k : ℕ) → k ≡ length v → l ≡ lead v o → k ≡ length (take k l)
head_long v o l k e f = e ∙ ap length (sym (at_head v o l k e f))

-- one store
pub one_byte : (out : List ℕ) (at b : ℕ) → at < length out → set out at b ≡ overlay out at (b ∷ [])
one_byte out at b h = set_split out at b h ∙ rw (add-one, append_snoc)
