-- A walk over a table that passes, one record further.
use Rattle.xliff.specs.Good.{each_cons, GoodRecord, AllGood, part_heads}
use Prim.Native.Nat.{ℕ, ◌+◌, ◌≤◌, ◌<◌}
use mathlib.Core.Path.{◌≡◌, refl, sym, ◌∙◌, ap, subst}
use mathlib.Core.Bool.{Bool, cond}
use mathlib.Core.List.{List, ◌∷◌}
use native.Mathlib.Omega.{arith}
use lib.ListN.{length, drop}
use lib.Dec.{eqb}
use Rattle.xliff.specs.Encode as encode
use Rattle.xliff.specs.Encode.{record_bytes, unit_records}
use Rattle.xliff.specs.Parse.{read, unit, is_part, most_parts}
use Rattle.xliff.proofs.unit.Valid.{heads_unit}
use Rattle.places.specs.Passes.{Passes}
use Rattle.places.specs.Offsets.{At}
use Rattle.places.proofs.Places.{at_next, at_end, at_more}
use Rattle.table.specs.Meaning.{meaning, width, body}
use Rattle.table.specs.declared.Record.{Record}
use Rattle.table.specs.declared.Record.TheVariants.{Unit as UnitStart, UnitEnd, Segment, Ignorable, Target, Text, Inline}
use Rattle.table.specs.declared.Read.{Read}
use Rattle.table.specs.declared.Read.TheVariants.{Good}
use Rattle.table.specs.Known.{Known}
use Rattle.table.proofs.ReadLaws.{known_same}
use Rattle.glance.specs.declared.Glance.{Glance}
use Rattle.glance.specs.Glances.{kind_of, head_kind_in, glance_in, Agrees, on_good, on_ill, on_broken, Glanced}
use Rattle.syntax.specs.Stages.{is_head, is_part_read}
use Rattle.syntax.proofs.StepLaws.{part_same}

-- what was read at an offset is the first of the records there
pub record Stepped (t : List ℕ) (at : ℕ) (rs : List encode.Record) (r : Read) : Type 0 where
  pub first : encode.Record
  pub others : List encode.Record
  pub split : rs ≡ first ∷ others
  pub means : meaning (body (drop at t)) r ≡ first
  pub wide : width r ≡ length (record_bytes first)
  pub moves : 0 < width r
  pub fits : at + width r ≤ length t
  pub rest : At t (at + width r) others

-- what stands there is a good record
first_good : {r : encode.Record} {rs : List encode.Record} → AllGood (r ∷ rs) → GoodRecord r
first_good (each_cons g a) = g

read_good : (t : List ℕ) (at : ℕ) (rs : List encode.Record) → At t at rs → at < length t → GoodRecord (read (drop at t))
read_good t at rs a l =
    let c = at_more t at rs a l in
    let b = subst (At t at) c.2 a in
    subst GoodRecord (sym (at_next t at c.0 c.1 b).reads) (first_good b.good)

pub known_read : (t : List ℕ) (at : ℕ) (rs : List encode.Record) (r : Read) → At t at rs → at < length t → Known (drop at t) r
    → (meaning (body (drop at t)) r ≡ read (drop at t)) × (width r ≡ length (record_bytes (read (drop at t))))
known_read t at rs r a l k = known_same (drop at t) r k (λ e. subst GoodRecord e (read_good t at rs a l))

stepped_by : (t : List ℕ) (at : ℕ) (rs : List encode.Record) (r : Read) → At t at rs → at < length t
    → (meaning (body (drop at t)) r ≡ read (drop at t)) × (width r ≡ length (record_bytes (read (drop at t)))) → Stepped t at rs r
stepped_by t at rs r a l m =
    let c = at_more t at rs a l in
    let n = at_next t at c.0 c.1 (subst (At t at) c.2 a) in
    let w : width r ≡ length (record_bytes c.0) = m.1 ∙ ap (λ (x : encode.Record). length (record_bytes x)) n.reads in
    record {
      first = c.0;
      others = c.1;
      split = c.2;
      means = m.0 ∙ n.reads;
      wide = w;
      moves = omega (arith, n.moves, w);
      fits = omega (arith, n.fits, w);
      rest = subst (λ (k : ℕ). At t (at + k) c.1) (sym w) n.then;
    }

pub stepped : (t : List ℕ) (at : ℕ) (rs : List encode.Record) (r : Read) → At t at rs → at < length t → Known (drop at t) r → Stepped t at rs r
stepped t at rs r a l k = stepped_by t at rs r a l (known_read t at rs r a l k)

-- the same by a glance
pub record Walked (t : List ℕ) (at : ℕ) (rs : List encode.Record) (g : Glance) : Type 0 where
  pub the : Record
  pub size : ℕ
  pub is : g ≡ glance_in the size
  pub step : Stepped t at rs (Good the size)
  pub wide : g.width ≡ size
  pub moves : 0 < g.width
  pub fits : at + g.width ≤ length t
  pub rest : At t (at + g.width) step.others

walked_by : (t : List ℕ) (at : ℕ) (rs : List encode.Record) (g : Glance) (r : Read) → At t at rs → at < length t
    → (meaning (body (drop at t)) r ≡ read (drop at t)) × (width r ≡ length (record_bytes (read (drop at t)))) → Agrees g r → Walked t at rs g
walked_by t at rs g _ a l m (on_good {x} {w} e) =
    let s = stepped_by t at rs (Good x w) a l m in
    let v : g.width ≡ w = ap (λ (h : Glance). h.width) e in
    record {
      the = x;
      size = w;
      is = e;
      step = s;
      wide = v;
      moves = omega (arith, v, s.moves);
      fits = omega (arith, v, s.fits);
      rest = subst (λ (k : ℕ). At t (at + k) s.others) (sym v) s.rest;
    }
walked_by t at rs g _ a l m on_ill = absurd (subst GoodRecord (sym m.0) (read_good t at rs a l))
walked_by t at rs g _ a l m (on_broken {b}) = absurd (subst GoodRecord (sym m.0) (read_good t at rs a l))

pub walked : (t : List ℕ) (at : ℕ) (rs : List encode.Record) (g : Glance) → At t at rs → at < length t → Glanced (drop at t) g → Walked t at rs g
walked t at rs g a l e = walked_by t at rs g e.found a l (e.means, e.wide) e.agrees

head_part : (x : Record) → is_head x ≡ eqb (head_kind_in x) 0
head_part (UnitStart c) = refl
head_part UnitEnd = refl
head_part (Segment f) = refl
head_part (Ignorable i) = refl
head_part (Target q) = refl
head_part Text = refl
head_part (Inline i) = refl

-- the parts counted
pub parts_on : (t : List ℕ) (at : ℕ) (rs : List encode.Record) (r : Read) → (s : Stepped t at rs r) → part_heads rs ≡ cond (is_part_read r) 1 0 + part_heads s.others
unfolding part_heads
parts_on t at rs r s = ap part_heads s.split ∙ ap (λ (b : Bool). cond b 1 0 + part_heads s.others) (sym (part_same (body (drop at t)) r ∙ ap is_part s.means))

pub parts_walked : (t : List ℕ) (at : ℕ) (rs : List encode.Record) (g : Glance) (v : Walked t at rs g)
    → part_heads rs ≡ cond (eqb (kind_of g.head) 0) 1 0 + part_heads v.step.others
parts_walked t at rs g v =
    parts_on t at rs (Good v.the v.size) v.step
    ∙ ap (λ (b : Bool). cond b 1 0 + part_heads v.step.others) (head_part v.the ∙ ap (λ (h : Glance). eqb (kind_of h.head) 0) (sym v.is))

pub parts_end : (t : List ℕ) (at n : ℕ) (rs : List encode.Record) → At t at rs → length t ≤ at → n + part_heads rs ≡ part_heads (unit_records (unit t)) → n ≡ length (unit t).parts
unfolding part_heads
parts_end t at n rs a l e =
    let z : part_heads rs ≡ 0 = ap part_heads (at_end t at rs a l) in
    omega (arith, z, e, heads_unit (unit t))

pub few_parts : (t : List ℕ) → Passes t → length (unit t).parts ≤ most_parts
few_parts t p = omega (arith, p.few_parts, heads_unit (unit t))
