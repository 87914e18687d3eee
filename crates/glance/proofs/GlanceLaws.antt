-- A glance agrees with what the reader finds.
use Prim.Native.Nat.{ℕ, ◌-◌, ◌≤◌}
use mathlib.Core.Path.{◌≡◌, refl, sym, ◌∙◌, subst}
use mathlib.Core.Bool.{Bool, true, false, cond}
use mathlib.Core.List.{List, [], ◌∷◌}
use lib.ListN.{length, take, drop}
use lib.Dec.{leb}
use Rattle.xliff.specs.Bytes.{two_at}
use Rattle.xliff.specs.Parse.{Mark, UN, UE, SG, IG, TG, TX, CP, PH, PO, PC, SC, EC, IS, IE, MO, SM, MC, EM, unknown, mark_of, mark_at, size_of}
use Rattle.text.specs.Utf8.{text_ok}
use Rattle.table.specs.Records.{sized, unit_of, segment_of, ignorable_of, target_of, standalone_of, isolated_of, pair_of, annotation_start_of, annotation_end_of, text_of, character_of, record_by, record_of}
use Rattle.table.specs.declared.Half.{Half}
use Rattle.table.specs.declared.Form.{Form}
use Rattle.table.specs.declared.Record.{Record}
use Rattle.table.specs.declared.Record.TheVariants.{Target, Text}
use Rattle.table.specs.declared.Read.TheVariants.{Good, Ill, Broken}
use Rattle.marks.specs.Marks.{marked}
use Rattle.marks.proofs.MarkLaws.{mark_found, no_mark}
use Rattle.table.proofs.ReadLaws.{record_is, no_record}
use Rattle.glance.specs.declared.Glance.{Glance}
use Rattle.glance.specs.Glances.{glance_in, Agrees, on_good, on_ill, on_broken, Glanced, item_glance, text_glance, target_glance, glance_by}

sized_agrees : (part : Bool) (t : List ℕ) (n : ℕ) (ok : Bool) (x : Record) (g : Glance) → g ≡ glance_in x n → Agrees g (sized part t n ok x)
unfolding sized
sized_agrees part t n ok x g e = by (leb n (length t)) ok
  where
    by : (a b : Bool) → Agrees g (cond a (cond b (Good x n) (Broken part)) (Broken part))
    by true true = on_good e
    by true false = on_broken
    by false b = on_broken

module _ (t : List ℕ) where
  pair_agrees : (f : Form) (h : Half) → Agrees (item_glance true 12) (pair_of t f h)
  unfolding pair_of
  pair_agrees f h = sized_agrees false t 12 _ _ _ refl

  isolated_agrees : (h : Half) → Agrees (item_glance true 12) (isolated_of t h)
  unfolding isolated_of
  isolated_agrees h = sized_agrees false t 12 _ _ _ refl

  start_agrees : (f : Form) → Agrees (item_glance true 5) (annotation_start_of t f)
  unfolding annotation_start_of
  start_agrees f = sized_agrees false t 5 _ _ _ refl

  end_agrees : (f : Form) → Agrees (item_glance true 4) (annotation_end_of t f)
  unfolding annotation_end_of
  end_agrees f = sized_agrees false t 4 _ _ _ refl

  text_agrees : Agrees (text_glance t) (text_of t false)
  unfolding text_of
  text_agrees = by (leb 4 (length t)) (leb (two_at t 2) (length t - 4)) (text_ok (take (size_of TX t - 4) (drop 4 t)))
    where
      by : (a b c : Bool)
          → Agrees (item_glance false (cond a (size_of TX t) 0))
          (cond a (cond b (cond c (Good Text (size_of TX t)) Ill) (Broken false)) (Broken false))
      by true true true = on_good refl
      by true true false = on_ill
      by true false c = on_broken
      by false b c = on_broken

  target_agrees : Agrees (target_glance t) (target_of t)
  unfolding target_of sized
  target_agrees = by (leb 4 (length t))
    where
      by : (a : Bool)
          → Agrees (cond a (glance_in (Target (two_at t 2)) 4) (item_glance false 0)) (cond a (Good (Target (two_at t 2)) 4) (Broken false))
      by true = on_good refl
      by false = on_broken

  mark_agrees : (m : Mark) → Agrees (glance_by m t) (record_by m t false)
  unfolding record_by unit_of segment_of ignorable_of standalone_of character_of
  mark_agrees UN = sized_agrees false t 3 _ _ _ refl
  mark_agrees UE = on_good refl
  mark_agrees SG = sized_agrees true t 6 _ _ _ refl
  mark_agrees IG = sized_agrees true t 4 _ _ _ refl
  mark_agrees TG = target_agrees
  mark_agrees TX = text_agrees
  mark_agrees CP = sized_agrees false t 6 _ _ _ refl
  mark_agrees PH = sized_agrees false t 12 _ _ _ refl
  mark_agrees PO = pair_agrees _ _
  mark_agrees PC = pair_agrees _ _
  mark_agrees SC = pair_agrees _ _
  mark_agrees EC = pair_agrees _ _
  mark_agrees IS = isolated_agrees _
  mark_agrees IE = isolated_agrees _
  mark_agrees MO = start_agrees _
  mark_agrees SM = start_agrees _
  mark_agrees MC = end_agrees _
  mark_agrees EM = end_agrees _
  mark_agrees unknown = on_broken

pub glanced : (t : List ℕ) (g : Glance) → g ≡ glance_by (mark_at t) t → Glanced t g
glanced t g e =
    let r = record_is t (record_of t false) refl in
    record {
      found = record_of t false;
      means = r.0;
      wide = r.1;
      agrees = subst (λ (z : Glance). Agrees z (record_of t false)) (sym e) (mark_agrees t (mark_at t));
    }

-- by the mark that a test found
pub glance_found : (x y : ℕ) (t : List ℕ) (g : Glance)
    → 2 ≤ length t → marked t (x ∷ y ∷ []) ≡ true → g ≡ glance_by (mark_of x y) t → Glanced t g
glance_found x y t g h e told = glanced t g (told ∙ mark_found (λ (m : Mark). glance_by m t) x y t h e)

-- less than two bytes are no record
pub too_short : (t : List ℕ) (g : Glance) → length t ≤ 1 → Glanced t g
unfolding record_by
too_short t g h =
    let r = record_is t (record_of t false) refl in
    let nothing : record_of t false ≡ Broken false = simp (no_mark t h) in
    record { found = record_of t false; means = r.0; wide = r.1; agrees = rw nothing on_broken }

-- beyond the end there is no record
pub nothing_glanced : (s : List ℕ) (at : ℕ) (g : Glance) → length s ≤ at → Glanced (drop at s) g
nothing_glanced s at g h = let n = no_record s at h in record { found = Broken false; means = n.0; wide = n.1; agrees = on_broken }
