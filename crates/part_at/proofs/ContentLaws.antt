-- A walk over the records of a content, up to the first other record.
use Prim.Native.Nat.{ℕ, ◌+◌, ◌≤◌, ◌<◌}
use mathlib.Core.Path.{◌≡◌, refl, sym, ap, ◌∙◌, subst}
use mathlib.Core.Bool.{Bool, true, false, not, true≢false}
use mathlib.Core.List.{List, [], ◌∷◌, ◌++◌}
use native.Mathlib.Omega.{arith}
use lib.ListN.{length, drop, length-append}
use Rattle.xliff.specs.Bytes.{gather}
use Rattle.xliff.specs.Encode as encode
use Rattle.xliff.specs.Encode.{text_run, inline, ill_text, record_bytes, spell}
use Rattle.xliff.specs.Parse.{read, is_part}
use Rattle.syntax.specs.Stages.{is_part_read}
use Rattle.syntax.proofs.StepLaws.{part_same}
use Rattle.places.specs.Offsets.{At, Inner, text_inner, inline_inner}
use Rattle.places.proofs.Places.{at_next, at_more}
use Rattle.table.specs.Known.{Known, same_record, some_text}
use Rattle.table.specs.Meaning.{meaning, width, body}
use Rattle.table.specs.declared.Record.TheVariants.{Unit as UnitStart, UnitEnd, Segment, Ignorable, Target, Text, Inline}
use Rattle.table.specs.declared.Read.{Read}
use Rattle.table.specs.declared.Read.TheVariants.{Good, Ill, Broken}
use Rattle.orders.proofs.WalkLaws.{known_read}
use Rattle.part_at.specs.Content.{is_content, is_content_read, outer, ContentAt}

pub content_same : (cs : List ℕ) (r : Read) → is_content_read r ≡ is_content (meaning cs r)
unfolding is_content
content_same cs (Good (UnitStart c) w) = refl
content_same cs (Good UnitEnd w) = refl
content_same cs (Good (Segment f) w) = refl
content_same cs (Good (Ignorable i) w) = refl
content_same cs (Good (Target q) w) = refl
content_same cs (Good Text w) = refl
content_same cs (Good (Inline i) w) = refl
content_same cs Ill = refl
content_same cs (Broken b) = refl

-- what the reader says of the record at an offset
abbrev pub Means : List ℕ → ℕ → Read → Type 0
Means t at r = Known (drop at t) r

part_text : (w : ℕ) → is_part_read (Good Text w) ≡ is_part ill_text
unfolding is_part
part_text w = refl

pub part_known : (t : List ℕ) (r : Read) → Known t r → is_part_read r ≡ is_part (read t)
part_known t r (same_record p q) = part_same (body t) r ∙ ap is_part p
part_known t _ (some_text {w} e) = part_text w ∙ ap is_part (sym e)

-- it is the first of the records there
pub record First (t : List ℕ) (at : ℕ) (x : encode.Record) (rs : List encode.Record) (r : Read) : Type 0 where
  pub means : meaning (body (drop at t)) r ≡ x
  pub wide : width r ≡ length (record_bytes x)
  pub moves : 0 < width r
  pub fits : at + width r ≤ length t
  pub then : At t (at + width r) rs

pub first_read : (t : List ℕ) (at : ℕ) (x : encode.Record) (rs : List encode.Record) (r : Read) → At t at (x ∷ rs) → Means t at r → First t at x rs r
first_read t at x rs r a k =
    let n = at_next t at x rs a in
    let m = known_read t at (x ∷ rs) r a (omega (arith, n.moves, n.fits)) k in
    let w : width r ≡ length (record_bytes x) = m.1 ∙ ap (λ (y : encode.Record). length (record_bytes y)) n.reads in
    record {
      means = m.0 ∙ n.reads;
      wide = w;
      moves = omega (arith, n.moves, w);
      fits = omega (arith, n.fits, w);
      then = subst (λ (k : ℕ). At t (at + k) rs) (sym w) n.then;
    }

-- the records behind a stretch of records
pub at_past : (t : List ℕ) (at : ℕ) (xs rs : List encode.Record) → At t at (xs ++ rs) → At t (at + length (spell xs)) rs
unfolding spell gather
at_past t at [] rs a = subst (λ (k : ℕ). At t k rs) (let z : at ≡ at + 0 = omega arith in z) a
at_past t at (x ∷ xs) rs a =
    let n = at_next t at x (xs ++ rs) a in
    subst (λ (k : ℕ). At t k rs)
    (let z : at + length (record_bytes x) + length (spell xs) ≡ at + length (record_bytes x ++ spell xs) = omega (arith, length-append (record_bytes x) (spell xs)) in z)
    (at_past t (at + length (record_bytes x)) xs rs n.then)

-- what is left of a content
pub record Inside (t : List ℕ) (start at : ℕ) (inner rest : List encode.Record) : Type 0 where
  pub left : List encode.Record
  pub only : Inner left
  pub there : At t at (left ++ rest)
  pub sum : at + length (spell left) ≡ start + length (spell inner)

-- the walk stands somewhere in the content
abbrev pub Walked : List ℕ → ℕ → ℕ → Type 0
Walked t start at = (inner rest : List encode.Record) → At t start (inner ++ rest) → Inner inner → outer rest ≡ true → Inside t start at inner rest

pub walked_start : (t : List ℕ) (start : ℕ) → Walked t start start
walked_start t start inner rest a i o = record { left = inner; only = i; there = a; sum = refl }

inner_first : (x : encode.Record) (rs : List encode.Record) → Inner (x ∷ rs) → is_content x ≡ true
unfolding is_content
inner_first (encode.opening _) rs x3 = elim x3 [ ]
inner_first encode.closing rs x3 = elim x3 [ ]
inner_first (encode.part_head _) rs x5 = elim x5 [ ]
inner_first (encode.target_head _) rs x6 = elim x6 [ ]
inner_first ill_text rs x6 = elim x6 [ ]
inner_first (encode.broken _) rs x8 = elim x8 [ ]
inner_first (text_run cs) rs (text_inner i) = refl
inner_first (inline x) rs (inline_inner i) = refl

inner_others : (x : encode.Record) (rs : List encode.Record) → Inner (x ∷ rs) → Inner rs
inner_others (encode.opening _) rs x3 = elim x3 [ ]
inner_others encode.closing rs x3 = elim x3 [ ]
inner_others (encode.part_head _) rs x5 = elim x5 [ ]
inner_others (encode.target_head _) rs x6 = elim x6 [ ]
inner_others ill_text rs x6 = elim x6 [ ]
inner_others (encode.broken _) rs x8 = elim x8 [ ]
inner_others (text_run cs) rs (text_inner i) = i
inner_others (inline x) rs (inline_inner i) = i

outer_first : (b : Bool) → not b ≡ true → b ≡ true → ⊥
outer_first true h e = true≢false (sym h)
outer_first false h e = true≢false (sym e)

module _ (t : List ℕ) (start at : ℕ) (r : Read) (m : Means t at r) (before : at < length t) where
  same_first : (x : encode.Record) (rs : List encode.Record) → At t at (x ∷ rs) → is_content_read r ≡ is_content x
  same_first x rs a = content_same (body (drop at t)) r ∙ ap is_content (first_read t at x rs r a m).means

  on_by : (inner rest left : List encode.Record) → Inner left → At t at (left ++ rest) → at + length (spell left) ≡ start + length (spell inner) → outer rest ≡ true
      → is_content_read r ≡ true → Inside t start (at + width r) inner rest
  unfolding outer spell gather
  on_by inner [] [] i a s o e = absurd (let c = at_more t at [] a before in let z : ◌≡◌ {A = ℕ} 0 1 = cc c.2 in omega arith)
  on_by inner (y ∷ rest) [] i a s o e = absurd (outer_first (is_content y) o (sym (same_first y rest a) ∙ e))
  on_by inner rest (x ∷ left) i a s o e =
      let f = first_read t at x (left ++ rest) r a m in
      record {
        left = left;
        only = inner_others x left i;
        there = f.then;
        sum = omega (arith, f.wide, s, length-append (record_bytes x) (spell left));
      }

  off_by : (inner rest left : List encode.Record) → Inner left → At t at (left ++ rest) → at + length (spell left) ≡ start + length (spell inner)
      → is_content_read r ≡ false → at ≡ start + length (spell inner)
  unfolding spell gather
  off_by inner rest [] i a s e = omega (arith, s)
  off_by inner rest (x ∷ left) i a s e = absurd (true≢false (sym (same_first x (left ++ rest) a ∙ inner_first x left i) ∙ e))

  pub walked_on : Walked t start at → is_content_read r ≡ true → Walked t start (at + width r)
  walked_on w e inner rest a i o = let s = w inner rest a i o in on_by inner rest s.left s.only s.there s.sum o e

  pub walked_off : Walked t start at → is_content_read r ≡ false → (inner rest : List encode.Record) → At t start (inner ++ rest) → Inner inner → outer rest ≡ true
      → at ≡ start + length (spell inner)
  walked_off w e inner rest a i o = let s = w inner rest a i o in off_by inner rest s.left s.only s.there s.sum e

  pub walked_fits : Walked t start at → ContentAt t start → (0 < width r) × (at + width r ≤ length t)
  walked_fits w (inner, rest, a, i, o) =
      let s = w inner rest a i o in
      let c = at_more t at (s.left ++ rest) s.there before in
      let f = first_read t at c.0 c.1 r (subst (At t at) c.2 s.there) m in
      (f.moves, f.fits)

end_by : (t : List ℕ) (start at : ℕ) (inner rest left : List encode.Record) → At t at (left ++ rest) → at + length (spell left) ≡ start + length (spell inner)
    → length t ≤ at → at ≡ start + length (spell inner)
unfolding spell gather
end_by t start at inner rest [] a s l = omega (arith, s)
end_by t start at inner rest (x ∷ left) a s l = let n = at_next t at x (left ++ rest) a in absurd (omega (arith, n.moves, n.fits))

pub walked_end : (t : List ℕ) (start at : ℕ) → Walked t start at → length t ≤ at
    → (inner rest : List encode.Record) → At t start (inner ++ rest) → Inner inner → outer rest ≡ true → at ≡ start + length (spell inner)
walked_end t start at w l inner rest a i o = let s = w inner rest a i o in end_by t start at inner rest s.left s.there s.sum l
