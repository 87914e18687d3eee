-- Records written one behind the other, each changed by f, while they are walked over.
use Prim.Native.Nat.{ℕ, ◌+◌, ◌-◌, ◌≤◌}
use mathlib.Core.Path.{◌≡◌, refl, sym, ap, ◌∙◌}
use mathlib.Core.List.{List, [], ◌∷◌, ◌++◌, map, append-nil}
use native.Mathlib.Omega.{arith}
use lib.ListN.{length, take, drop, length-append}
use Rattle.xliff.specs.Bytes.{gather}
use Rattle.xliff.specs.Encode.{Record, record_bytes, spell}
use Rattle.xliff.proofs.lists.Tests.{map-append}
use Rattle.xliff.proofs.unit.Pieces.{spell_append}
use Rattle.walk.specs.Kept.{RestOf}
use Rattle.walk.proofs.RecordLaws.{NextOf, Upto, upto_start, upto_on, spell_one}
use Rattle.writer.specs.Pieces.{lead}
use Rattle.writer.proofs.PieceLaws.{two_back, lead_length}

-- of the records rs those before the offset at of t are written over o, which has become l
pub record Written (F : List Record → Type 0) (f : Record → Record) (t : List ℕ) (rs : List Record) (o : List ℕ) (at : ℕ)
    (l : List ℕ) : Type 0 where
  pub upto : Upto F t rs at
  pub done : at ≡ length (spell (map f upto.before))
  pub out : l ≡ lead (spell (map f upto.before)) o

module _ (F : List Record → Type 0) (f : Record → Record) (t : List ℕ) (rs : List Record) (o : List ℕ) where
  pub written_start : RestOf F t 0 rs → Written F f t rs o 0 o
  unfolding upto_start spell gather
  written_start h = record { upto = upto_start F t rs h; done = refl; out = refl }

  module _ (at : ℕ) (l : List ℕ) (m : Written F f t rs o at l) where
    abbrev front : List ℕ
    front = spell (map f m.upto.before)

    -- one record further, y written behind
    pub written_on : (P : Record → Type 0) (w : ℕ) (n : NextOf P F t at w m.upto.after) (y : List ℕ)
        → length (record_bytes (f n.first)) ≡ length (record_bytes n.first)
        → y ≡ lead (record_bytes (f n.first)) (take (length l - at) (drop at l))
        → Written F f t rs o (at + w) (take at l ++ (y ++ drop (length l - at) (drop at l)))
    unfolding upto_on
    written_on P w n y same e =
        let piece = record_bytes (f n.first) in
        let more : spell (map f (m.upto.before ++ (n.first ∷ []))) ≡ front ++ piece =
        ap spell (map-append f m.upto.before (n.first ∷ [])) ∙ spell_append (map f m.upto.before) (f n.first ∷ [])
        ∙ ap (λ (x : List ℕ). front ++ x) (spell_one (f n.first)) in
        let long = ap length more ∙ length-append front piece in
        record {
          upto = upto_on F P t rs at w m.upto n;
          done = omega (arith, m.done, n.width, same, long);
          out = two_back o front piece l y at m.done m.out e ∙ ap (λ (x : List ℕ). lead x o) (sym more);
        }

    -- all are
    pub written_end : m.upto.after ≡ [] → l ≡ lead (spell (map f rs)) o
    written_end e =
        m.out ∙ ap (λ (q : List Record). lead (spell (map f q)) o)
        (sym (m.upto.all ∙ ap (λ (q : List Record). m.upto.before ++ q) e ∙ append-nil m.upto.before))

    pub written_length : at ≤ length o → length l ≡ length o
    written_length h = ap length m.out ∙ lead_length front o (omega (arith, m.done))
