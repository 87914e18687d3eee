-- The walk that writes the marks, one record further.
use Rattle.xliff.specs.Good.{each_cons, GoodRecord, AllGood}
use Prim.Native.Nat.{ℕ, ◌+◌, ◌-◌, ◌≤◌}
use mathlib.Core.Path.{◌≡◌, refl, sym, ap, ap₂, ◌∙◌, subst}
use mathlib.Core.Bool.{Bool, false}
use mathlib.Core.List.{List, [], ◌∷◌, ◌++◌, append_assoc, append-nil}
use native.Mathlib.Omega.{arith}
use lib.ListN.{length, drop, length-append, length-drop}
use Rattle.xliff.specs.Bytes.{gather}
use Rattle.xliff.specs.Item.{Item, mark}
use Rattle.xliff.specs.Encode as encode
use Rattle.xliff.specs.Unit.{segment, ignorable}
use Rattle.xliff.specs.Encode.{opening, closing, part_head, target_head, text_run, inline, ill_text, broken, field_bytes, head_bytes, record_bytes, unit_records, spell}
use Rattle.xliff.specs.Parse.{read, unit}
use Rattle.xliff.specs.Rewrite.{rewrite_item}
use Rattle.places.specs.Passes.{Passes}
use Rattle.places.specs.Markers.{item_in, item_at}
use Rattle.places.specs.Offsets.{At}
use Rattle.places.proofs.Places.{at_start, at_next, at_end}
use Rattle.table.specs.Meaning.{body}
use Rattle.table.specs.declared.Read.{Read}
use Rattle.table.specs.declared.Read.TheVariants.{Good}
use Rattle.glance.specs.declared.Glance.{Glance}
use Rattle.glance.specs.Glances.{kind_of}
use Rattle.orders.proofs.WalkLaws.{Stepped, Walked}
use Rattle.writer.specs.Pieces.{lead}
use Rattle.rewrite_marks.specs.Rewritten.{inside_after, if_inside, rewritten, form_by, rewritten_bytes, inside_of, formed}
use Rattle.xliff.specs.Good.{on_record}
use Rattle.xliff.proofs.unit.Forms.{mark_long}
use Rattle.rewrite_marks.proofs.LengthLaws.{rewritten_long}
use Rattle.rewrite_marks.proofs.FormLaws.{inside_is, record_formed}

module _ (i : ℕ) (p : Bool) where
  abbrev f : Item → Item
  f = rewrite_item i (form_by p)

  -- Up to an offset the output has the rewritten records, behind it the table as it is
  pub record Written (t : List ℕ) (source : Bool) (out₀ : List ℕ) (at : ℕ) (inside : Bool) (out : List ℕ) : Type 0 where
    pub left : List encode.Record
    pub done : List ℕ
    pub here : At t at left
    pub far : length done ≡ at
    pub is : out ≡ done ++ (spell left ++ drop (length t) out₀)
    pub all : done ++ spell (rewritten f source inside left) ≡ rewritten_bytes source i p t

  module _ (t : List ℕ) (source : Bool) (out₀ : List ℕ) where
    pub written_start : Passes t → out₀ ≡ lead t out₀ → Written t source out₀ 0 false out₀
    unfolding rewritten_bytes
    written_start q e =
        record {
          left = unit_records (unit t);
          done = [];
          here = at_start t q;
          far = refl;
          is = e ∙ ap (λ (l : List ℕ). l ++ drop (length t) out₀) (sym q.bytes);
          all = refl;
        }

    module _ (at : ℕ) (inside : Bool) (out : List ℕ) (m : Written t source out₀ at inside out) where
      pub written_length : length t ≤ length out₀ → length out ≡ length out₀
      written_length h =
          let a : length out ≡ length (m.done ++ (spell m.left ++ drop (length t) out₀)) = ap length m.is in
          let b : length (spell m.left) ≡ length t - at = ap length m.here.rest ∙ length-drop at t in
          omega (
            arith,
            h,
            a,
            b,
            m.far,
            m.here.within,
            length-append m.done (spell m.left ++ drop (length t) out₀),
            length-append (spell m.left) (drop (length t) out₀),
            length-drop (length t) out₀,
          )

      pub written_end : length t ≤ at → out ≡ rewritten_bytes source i p t ++ drop (length t) out₀
      unfolding rewritten spell gather
      written_end h =
          let e : m.left ≡ [] = at_end t at m.left m.here h in
          m.is ∙ ap (λ (l : List encode.Record). m.done ++ (spell l ++ drop (length t) out₀)) e
          ∙ ap (λ (l : List ℕ). l ++ drop (length t) out₀)
          (sym (append-nil m.done) ∙ ap (λ (l : List encode.Record). m.done ++ spell (rewritten f source inside l)) (sym e) ∙ m.all)

      pub written_on : (g : Glance) (v : Walked t at m.left g) (out' : List ℕ) → out' ≡ formed inside i p (item_at t at) out at
          → Written t source out₀ (at + g.width) (inside_of source inside (kind_of g.head)) out'
      unfolding item_at spell gather rewritten
      written_on g v out' e =
          record {
            left = s.others;
            done = m.done ++ record_bytes (on_record (if_inside inside f) s.first);
            here = v.rest;
            far = omega (arith, m.far, v.wide, s.wide, rewritten_long i (form_by p) inside s.first, length-append m.done (record_bytes (on_record (if_inside inside f) s.first)));
            is = e ∙ moved;
            all = joined;
          }
        where
          s : Stepped t at m.left (Good v.the v.size)
          s = v.step

          first_read : read (drop at t) ≡ s.first
          first_read = (at_next t at s.first s.others (subst (At t at) s.split m.here)).reads

          laid : out ≡ m.done ++ (record_bytes s.first ++ (spell s.others ++ drop (length t) out₀))
          laid =
              m.is ∙ ap (λ (l : List encode.Record). m.done ++ (spell l ++ drop (length t) out₀)) s.split
              ∙ ap (λ (l : List ℕ). m.done ++ l) (append_assoc (record_bytes s.first) (spell s.others) (drop (length t) out₀))

          moved : formed inside i p (item_in (read (drop at t))) out at
              ≡ (m.done ++ record_bytes (on_record (if_inside inside f) s.first)) ++ (spell s.others ++ drop (length t) out₀)
          moved =
              ap₂ (λ (x : encode.Record) (k : ℕ). formed inside i p (item_in x) out k) first_read (sym m.far)
              ∙ ap (λ (l : List ℕ). formed inside i p (item_in s.first) l (length m.done)) laid
              ∙ record_formed i p inside s.first m.done (spell s.others ++ drop (length t) out₀)
              ∙ sym (append_assoc m.done (record_bytes (on_record (if_inside inside f) s.first)) (spell s.others ++ drop (length t) out₀))

          state : inside_after source inside s.first ≡ inside_of source inside (kind_of g.head)
          state =
              ap (inside_after source inside) (sym s.means) ∙ sym (inside_is source inside (body (drop at t)) v.the)
              ∙ ap (λ (h : Glance). inside_of source inside (kind_of h.head)) (sym v.is)

          joined : (m.done ++ record_bytes (on_record (if_inside inside f) s.first)) ++ spell (rewritten f source (inside_of source inside (kind_of g.head)) s.others) ≡ rewritten_bytes source i p t
          joined =
              append_assoc m.done (record_bytes (on_record (if_inside inside f) s.first)) (spell (rewritten f source (inside_of source inside (kind_of g.head)) s.others))
              ∙ ap (λ (b : Bool). m.done ++ (record_bytes (on_record (if_inside inside f) s.first) ++ spell (rewritten f source b s.others))) (sym state)
              ∙ ap (λ (l : List encode.Record). m.done ++ spell (rewritten f source inside l)) (sym s.split)
              ∙ m.all

      -- a record has at least its mark
      pub two_left : {r : Read} (s : Stepped t at m.left r) → at + 2 ≤ length t
      unfolding record_bytes head_bytes
      two_left s = omega (arith, s.fits, s.wide, least s.first (first_good (subst (λ (l : List encode.Record). AllGood l) s.split m.here.good)))
        where
          first_good : {x : encode.Record} {xs : List encode.Record} → AllGood (x ∷ xs) → GoodRecord x
          first_good (each_cons g h) = g

          least : (x : encode.Record) → GoodRecord x → 2 ≤ length (record_bytes x)
          least (opening c) g = omega arith
          least closing g = omega arith
          least (part_head (segment f)) g = omega arith
          least (part_head (ignorable i)) g = omega arith
          least (target_head q) g = omega arith
          least (text_run cs) g = omega arith
          least (inline x) g = omega (arith, length-append (mark x) (field_bytes x), mark_long x)
          least ill_text g = absurd g
          least (broken b) g = absurd g
