-- The elements of the subset over tokens: what each token makes of the place in the unit, and the records that it
-- gives. "Comments are skipped, as are blanks outside source and target, and text around a comment is a single run".
use Rattle.std.specs.Prelude.{ℕ, suc, ◌&&◌, cond, List, [], ◌∷◌, ◌++◌, length, eqb, ltb}
use Rattle.std.proofs.Math.Option.{Option, none, some}
use Rattle.xliff.specs.Bytes.{'-', 'I', 'N', 'Y', equal}
use Rattle.xliff.specs.Item.{Item, Fields, start, end, form_P, form_S, character, standalone, isolated, pair, annotation_start, annotation_end}
use Rattle.xliff.specs.Unit.{Opening, Head, segment, ignorable, XliffUnit}
use Rattle.xliff.specs.Encode.{Record, opening, closing, part_head, target_head, text_run, inline}
use Rattle.xliff.specs.Parse.{reading, opening_of, Parse·all}
use Rattle.xliff.specs.Rules.{end_letter}
use Rattle.xml.specs.Words.{'unit', 'segment', 'ignorable', 'source', 'target', 'cp', 'ph', 'pc', 'sc', 'ec', 'mrk', 'sm', 'em', 'id', 'canResegment', 'state', 'order', 'hex', 'copyOf', 'dataRef', 'dataRefStart', 'dataRefEnd', 'startRef', 'canCopy', 'canDelete', 'canOverlap', 'canReorder', 'isolated', 'translate'}
use Rattle.xml.specs.Characters.{is_blank}
use Rattle.xml.specs.Tokens.{Attribute, Token, start_tag, end_tag, char, reference, finish, fault, cut_tag, text_fault, tokens, outside_tags}
use Rattle.xml.specs.Attributes.{with, only, value_of, required, optional, hexadecimal, yes_no, states, choice, code_fields, Attributes·all}

-- "to depth 32 of pc and mrk"
abbrev pub most_depth : ℕ
most_depth = 32

-- "a unit's absent canResegment Y"; its id is read "and not kept"
unfoldable pub unit_opening : List Attribute → Option Opening
unit_opening ats =
    cond (only ('id' ∷ 'canResegment' ∷ []) ats)
    (with (required 'id' ats) (λ i. with (choice 'canResegment' yes_no 'Y' ats) (λ c. some (record { can_resegment = c })))) none

unfoldable pub segment_head : List Attribute → Option Head
segment_head ats =
    cond (only ('id' ∷ 'canResegment' ∷ 'state' ∷ []) ats)
    (with (optional 'id' ats) (λ i.
    with (choice 'canResegment' yes_no '-' ats) (λ c.
    with (choice 'state' states 'I' ats) (λ s. some (segment (record { id = i; can_resegment = c; state = s }))))))
    none

unfoldable pub ignorable_head : List Attribute → Option Head
ignorable_head ats = cond (only ('id' ∷ []) ats) (with (optional 'id' ats) (λ i. some (ignorable i))) none

unfoldable pub part_of_name : List ℕ → List Attribute → Option Head
part_of_name n ats = cond (equal n 'segment') (segment_head ats) (cond (equal n 'ignorable') (ignorable_head ats) none)

-- "an absent order is the part's position"
unfoldable pub target_order : ℕ → List Attribute → Option ℕ
target_order position ats =
    cond (only ('order' ∷ []) ats) (elim (value_of 'order' ats) [ none ↦ some position | some v ↦ required 'order' ats ])
    none

-- what an inline element is
pub data Inline : Type 0 where
  -- an empty element
  single : Item → Inline
  -- an element with content: the items at its two ends
  nested : Item → Item → Inline

abbrev pub code_names : List (List ℕ)
code_names = 'copyOf' ∷ 'dataRef' ∷ 'canCopy' ∷ 'canDelete' ∷ 'canOverlap' ∷ 'canReorder' ∷ 'isolated' ∷ []

-- <cp>
unfoldable pub read_cp : List Attribute → Option Inline
read_cp ats =
    cond (only ('hex' ∷ []) ats) (with (value_of 'hex' ats) (λ v. with (hexadecimal v) (λ c. some (single (character c)))))
    none

-- <ph>: canOverlap is always - in PH
unfoldable pub read_ph : List Attribute → Option Inline
read_ph ats =
    cond (only ('id' ∷ 'copyOf' ∷ 'dataRef' ∷ 'canCopy' ∷ 'canDelete' ∷ 'canReorder' ∷ []) ats)
    (with (code_fields 'id' 'dataRef' (some '-') ats) (λ f. some (single (standalone f)))) none

-- <pc>: the end has its own dataRef and the PC letter. "canOverlap by element": no for pc, yes for sc and ec
unfoldable pub end_of_pc : Fields → ℕ → Fields
end_of_pc f ref =
    record {
      id = f.id;
      copy_of = f.copy_of;
      data_ref = ref;
      can_copy = f.can_copy;
      can_delete = f.can_delete;
      can_overlap = f.can_overlap;
      can_reorder = end_letter f.can_reorder;
    }

unfoldable pub read_pc : List Attribute → Option Inline
read_pc ats =
    cond (only ('id' ∷ 'copyOf' ∷ 'dataRefStart' ∷ 'dataRefEnd' ∷ 'canCopy' ∷ 'canDelete' ∷ 'canOverlap' ∷ 'canReorder' ∷ []) ats)
    (with (code_fields 'id' 'dataRefStart' (choice 'canOverlap' yes_no 'N' ats) ats) (λ f.
    with (optional 'dataRefEnd' ats) (λ ref. some (nested (pair start form_P f) (pair end form_P (end_of_pc f ref)))))) none

-- <sc>, <ec>: with isolated no a pair's, with yes an isolated code's
unfoldable pub isolated_letter : List Attribute → Option ℕ
isolated_letter ats = choice 'isolated' yes_no 'N' ats

unfoldable pub read_sc : List Attribute → Option Inline
read_sc ats =
    cond (only ('id' ∷ code_names) ats)
    (with (isolated_letter ats) (λ i. with (code_fields 'id' 'dataRef' (choice 'canOverlap' yes_no 'Y' ats) ats) (λ f.
    some (single (cond (eqb i 'Y') (isolated start f) (pair start form_S f)))))) none

-- "isolated yes has id and no startRef; else startRef and no id"
unfoldable pub read_ec : List Attribute → Option Inline
read_ec ats =
    with (isolated_letter ats) (λ i.
    let name : List ℕ = cond (eqb i 'Y') 'id' 'startRef' in
    cond (only (name ∷ code_names) ats)
    (with (code_fields name 'dataRef' (choice 'canOverlap' yes_no 'Y' ats) ats)
    (λ f. some (single (cond (eqb i 'Y') (isolated end f) (pair end form_S f))))) none)

-- <mrk>, <sm>, <em>
unfoldable pub read_mrk : List Attribute → Option Inline
read_mrk ats =
    cond (only ('id' ∷ 'translate' ∷ []) ats)
    (with (required 'id' ats) (λ i.
    with (choice 'translate' yes_no '-' ats) (λ t. some (nested (annotation_start form_P i t) (annotation_end form_P i)))))
    none

unfoldable pub read_sm : List Attribute → Option Inline
read_sm ats =
    cond (only ('id' ∷ 'translate' ∷ []) ats)
    (with (required 'id' ats) (λ i.
    with (choice 'translate' yes_no '-' ats) (λ t. some (single (annotation_start form_S i t))))) none

unfoldable pub read_em : List Attribute → Option Inline
read_em ats =
    cond (only ('startRef' ∷ []) ats) (with (required 'startRef' ats) (λ i. some (single (annotation_end form_S i)))) none

unfoldable pub inline_of_name : List ℕ → List Attribute → Option Inline
inline_of_name n ats =
    cond (equal n 'cp') (read_cp ats)
    (cond (equal n 'ph') (read_ph ats)
    (cond (equal n 'pc') (read_pc ats)
    (cond (equal n 'sc') (read_sc ats)
    (cond (equal n 'ec') (read_ec ats)
    (cond (equal n 'mrk') (read_mrk ats) (cond (equal n 'sm') (read_sm ats) (cond (equal n 'em') (read_em ats) none)))))))

-- Where in the unit the tokens stand, outside of source and target: what is due. The number counts the parts so far,
-- the name is the part's element
pub data Due : Type 0 where
  unit_due : Due
  part_due : ℕ → Due
  source_due : ℕ → List ℕ → Due
  target_due : ℕ → List ℕ → Due
  part_end_due : ℕ → List ℕ → Due
  nothing_due : Due

-- a source or a target: the name of its element, and what is due behind it
pub record Side : Type 0 where
  pub name : List ℕ
  pub behind : Due

-- an open pc or mrk: its name, and the item of its end
pub record Open : Type 0 where
  pub name : List ℕ
  pub end_item : Item

pub data Where : Type 0 where
  outside : Due → Where
  -- in a source or target, within these open elements, the innermost first
  in_content : Side → List Open → Where
  -- in an empty element of this name there
  in_empty : Side → List Open → List ℕ → Where

-- what a token makes of it: where it goes on, with records; a place at fault; or the end of the unit's text
pub data Turn : Type 0 where
  on : Where → List Record → Turn
  blame : ℕ → Turn
  over : Turn

-- an element that is read, or the tag blamed
module _ {A : Type 0} where
  unfoldable pub or_blame : Option A → ℕ → (A → Turn) → Turn
  or_blame none at f = blame at
  or_blame (some a) at f = f a

unfoldable pub opened : Due → ℕ → List ℕ → List Attribute → Turn
opened unit_due at n ats =
    cond (equal n 'unit') (or_blame (unit_opening ats) at (λ o. on (outside (part_due 0)) (opening o ∷ []))) (blame at)
opened (part_due k) at n ats = or_blame (part_of_name n ats) at (λ h. on (outside (source_due (suc k) n)) (part_head h ∷ []))
opened (source_due k p) at n ats =
    cond (equal n 'source' && only [] ats) (on (in_content (record { name = 'source'; behind = target_due k p }) []) [])
    (blame at)
opened (target_due k p) at n ats =
    cond (equal n 'target')
    (or_blame (target_order k ats) at
    (λ q. on (in_content (record { name = 'target'; behind = part_end_due k p }) []) (target_head q ∷ []))) (blame at)
opened (part_end_due k p) at n ats = blame at
opened nothing_due at n ats = blame at

unfoldable pub closed : Due → ℕ → List ℕ → Turn
closed unit_due at n = blame at
closed (part_due k) at n = cond (equal n 'unit') (on (outside nothing_due) (closing ∷ [])) (blame at)
closed (source_due k p) at n = blame at
closed (target_due k p) at n = cond (equal n p) (on (outside (part_due k)) []) (blame at)
closed (part_end_due k p) at n = cond (equal n p) (on (outside (part_due k)) []) (blame at)
closed nothing_due at n = blame at

unfoldable pub finished : Due → ℕ → Turn
finished unit_due p = blame p
finished (part_due k) p = blame p
finished (source_due k n) p = blame p
finished (target_due k n) p = blame p
finished (part_end_due k n) p = blame p
finished nothing_due p = over

-- a tag that the text's end cuts: its end; behind the unit, where no tag may come, the tag
unfoldable pub cut_short : Due → ℕ → ℕ → Turn
cut_short unit_due at p = blame p
cut_short (part_due k) at p = blame p
cut_short (source_due k n) at p = blame p
cut_short (target_due k n) at p = blame p
cut_short (part_end_due k n) at p = blame p
cut_short nothing_due at p = blame at

-- "Element content calls for elements, and an element calls for content"
unfoldable pub inline_opened : Side → List Open → ℕ → List ℕ → Inline → Turn
inline_opened side opens at n (single x) = on (in_empty side opens n) (inline x ∷ [])
inline_opened side opens at n (nested x y) =
    cond (ltb (length opens) most_depth) (on (in_content side (record { name = n; end_item = y } ∷ opens)) (inline x ∷ []))
    (blame at)

unfoldable pub inline_closed : Side → List Open → ℕ → List ℕ → Turn
inline_closed side [] at n = cond (equal n side.name) (on (outside side.behind) []) (blame at)
inline_closed side (o ∷ opens) at n = cond (equal n o.name) (on (in_content side opens) (inline o.end_item ∷ [])) (blame at)

unfoldable pub turn : Where → Token → Turn
turn (outside d) (start_tag at n ats) = opened d at n ats
turn (outside d) (end_tag at n) = closed d at n
turn (outside d) (char at c) = cond (is_blank c) (on (outside d) []) (blame at)
turn (outside d) (reference at c) = blame at
turn (outside d) (finish p) = finished d p
turn (outside d) (fault p) = blame p
turn (outside d) (cut_tag at p) = cut_short d at p
turn (outside d) (text_fault at p) = blame at
turn (in_content side opens) (start_tag at n ats) = or_blame (inline_of_name n ats) at (inline_opened side opens at n)
turn (in_content side opens) (end_tag at n) = inline_closed side opens at n
turn (in_content side opens) (char at c) = on (in_content side opens) (text_run (c ∷ []) ∷ [])
turn (in_content side opens) (reference at c) = on (in_content side opens) (text_run (c ∷ []) ∷ [])
turn (in_content side opens) (finish p) = blame p
turn (in_content side opens) (fault p) = blame p
turn (in_content side opens) (cut_tag at p) = blame p
turn (in_content side opens) (text_fault at p) = blame p
turn (in_empty side opens m) (start_tag at n ats) = blame at
turn (in_empty side opens m) (end_tag at n) = cond (equal n m) (on (in_content side opens) []) (blame at)
turn (in_empty side opens m) (char at c) = blame at
turn (in_empty side opens m) (reference at c) = blame at
turn (in_empty side opens m) (finish p) = blame p
turn (in_empty side opens m) (fault p) = blame p
turn (in_empty side opens m) (cut_tag at p) = blame p
turn (in_empty side opens m) (text_fault at p) = blame at

-- what is read: the records of a unit, a text-run for each code point; or the place at fault
pub data Read : Type 0 where
  read : List Record → Read
  bad : ℕ → Read

unfoldable pub behind : List Record → Read → Read
behind rs (read qs) = read (rs ++ qs)
behind rs (bad p) = bad p

unfoldable pub elements : Where → List Token → Read
elements w [] = bad 0
elements w (t ∷ ts) = elim (turn w t) [ on w' rs ↦ behind rs (elements w' ts) | blame p ↦ bad p | over ↦ read [] ]

-- the records of a text, and the unit that they are
unfoldable pub xml_records : List ℕ → Read
xml_records s = elements (outside unit_due) (tokens outside_tags 0 0 s)

unfoldable pub unit_of_records : List Record → XliffUnit
unit_of_records rs = record { opening = opening_of rs; parts = (reading rs).parts }

unfoldable pub Elements·all : Unit {0}
unfolding Attributes·all Parse·all end_letter unit_opening segment_head ignorable_head part_of_name target_order read_cp
    read_ph end_of_pc read_pc isolated_letter read_sc read_ec read_mrk read_sm read_em inline_of_name or_blame opened closed
    finished cut_short inline_opened inline_closed turn behind elements xml_records unit_of_records
Elements·all = tt
