-- Pieces put one behind the other, and a text that is begun.
use Prim.Native.Nat.{ℕ}
use mathlib.Core.Path.{◌≡◌, refl, sym, ap, ◌∙◌, subst}
use mathlib.Core.Bool.{Bool, true, false}
use mathlib.Core.List.{List, [], ◌++◌, append_assoc, append-nil}
use native.Mathlib.Omega.{arith}
use lib.ListN.{length}
use lib.Dec.{ltb}
use borrow.Author.Tests.{le-ltb}
use Rattle.std.specs.Borrow.{MutBor}
use Rattle.writer.specs.Pieces.{lead}
use Rattle.draft.specs.declared.Draft.{Draft}
use Rattle.draft.specs.Drafts.{Drafted, Began, Wrote}

pub wrote_nothing : {d : Draft} → Wrote [] d d
wrote_nothing {d} =
    record {
      same = refl;
      room = refl;
      on = λ m first text k. subst (λ (x : List ℕ). Drafted m first d x) (sym (append-nil text)) k;
    }

pub wrote_then : {a b : List ℕ} {d e f : Draft} → Wrote a d e → Wrote b e f → Wrote (a ++ b) d f
wrote_then {a} {b} {d} {e} {f} v w =
    record {
      same = w.same ∙ v.same;
      room = w.room ∙ v.room;
      on = λ m first text k.
          subst (λ (x : List ℕ). Drafted m first f x) (append_assoc text a b)
          (w.on m first (text ++ a) (v.on m first text k));
    }

-- the same piece, said otherwise
pub wrote_as : {a b : List ℕ} {d e : Draft} → a ≡ b → Wrote a d e → Wrote b d e
wrote_as {a} {b} {d} {e} h w = subst (λ (x : List ℕ). Wrote x d e) h w

-- no text yet
begun : (m : Bool) (out : MutBor (List ℕ)) (d : Draft) → Began m out d → Drafted m out.now d []
begun m out d b =
    record {
      room = ap length b.output;
      mode = b.mode;
      told = b.full ∙ sym (le-ltb (length out.now) 0 (omega arith));
      used = λ e. b.used;
      stays = λ e. b.output;
      written = λ e h. b.output;
    }

-- A text that is only measured: the output stays, and it is told whether it is too short
module _ (text : List ℕ) (out : MutBor (List ℕ)) (b : Draft) (s : Began true out b) (m : Draft)
    (w : Wrote text b m) where
  measured : Drafted true out.now m text
  measured = w.on true out.now [] (begun true out b s)

  pub measured_stays : m.out.now ≡ out.now
  measured_stays = measured.stays measured.mode

  pub measured_tells : m.full ≡ ltb (length out.now) (length text)
  measured_tells = measured.told

  -- where it is not, the text written behind it stands at the head of the output
  module _ (f : m.full ≡ false) (out₁ : MutBor (List ℕ)) (o : out₁.now ≡ m.out.now)
      (c : Draft) (r : Began false out₁ c) (k : Draft) (x : Wrote text c k) where
    drafted : Drafted false out₁.now k text
    drafted = x.on false out₁.now [] (begun false out₁ c r)

    stayed : out₁.now ≡ out.now
    stayed = o ∙ measured_stays

    not_full : k.full ≡ false
    not_full =
        drafted.told ∙ ap (λ (l : List ℕ). ltb (length l) (length text)) stayed ∙ sym measured_tells ∙ f

    pub written_used : k.used ≡ length text
    written_used = drafted.used not_full

    pub written_there : k.out.now ≡ lead text out.now
    written_there = drafted.written drafted.mode not_full ∙ ap (λ (l : List ℕ). lead text l) stayed
