-- A unit written as XML. Order 1: "The writer spells every attribute out except a canResegment or translate of - and an
-- id, copyOf or dataRef of 0, and writes a carriage return as a reference". No XML declaration, nothing between
-- elements.
use Rattle.std.specs.Prelude.{ℕ, zero, suc, ◌/◌, ◌%◌, Bool, true, false, ◌||◌, cond, List, [], ◌∷◌, ◌++◌, eqb, ltb}
use Rattle.xliff.specs.Bytes.{'-', gather, any}
use Rattle.xliff.specs.Text.{utf8}
use Rattle.xliff.specs.Item.{Item, Content, Fields, start, end, form_P, form_S, text, character, standalone, isolated, pair, annotation_start, annotation_end, is_form_P, is_start_half, fields}
use Rattle.xliff.specs.Unit.{Head, segment, ignorable, Target, no_target, target, Part, target_items, XliffUnit}
use Rattle.xliff.specs.Desk.{decimal, hex_byte, digits, hex_digit}
use Rattle.xml.specs.Words.{'unit', 'segment', 'ignorable', 'source', 'target', 'cp', 'ph', 'pc', 'sc', 'ec', 'mrk', 'sm', 'em', 'id', 'canResegment', 'state', 'order', 'hex', 'copyOf', 'dataRef', 'dataRefStart', 'dataRefEnd', 'startRef', 'canCopy', 'canDelete', 'canOverlap', 'canReorder', 'isolated', 'translate', 'yes', 'no', 'amp', 'lt', 'gt'}
use Rattle.xml.specs.Characters.{'<', '>', '/', '=', '&', '#', semicolon, quote, space, carriage_return}
use Rattle.xml.specs.Tokens.{Attribute}
use Rattle.xml.specs.Attributes.{Word, yes_no, yes_first_no, states}
use Rattle.xml.specs.Elements.{most_depth, Elements·all}

-- one blank before each attribute, double quotes
unfoldable pub attribute_bytes : Attribute → List ℕ
attribute_bytes a = space ∷ (a.name ++ ('=' ∷ quote ∷ (a.value ++ (quote ∷ []))))

unfoldable pub opening_tag : List ℕ → List Attribute → List ℕ
opening_tag n ats = '<' ∷ (n ++ (gather attribute_bytes ats ++ ('>' ∷ [])))

unfoldable pub short_tag : List ℕ → List Attribute → List ℕ
short_tag n ats = '<' ∷ (n ++ (gather attribute_bytes ats ++ ('/' ∷ '>' ∷ [])))

unfoldable pub closing_tag : List ℕ → List ℕ
closing_tag n = '<' ∷ '/' ∷ (n ++ ('>' ∷ []))

-- a number, always; a number unless 0; a letter by its word; a letter unless -
abbrev pub attribute : List ℕ → List ℕ → List Attribute
attribute n v = record { name = n; value = v } ∷ []

unfoldable pub number_attribute : List ℕ → ℕ → List Attribute
number_attribute n i = attribute n (decimal i)

unfoldable pub unless_zero : List ℕ → ℕ → List Attribute
unless_zero n zero = []
unless_zero n (suc i) = number_attribute n (suc i)

unfoldable pub word_of : List Word → ℕ → List ℕ
word_of [] l = []
word_of (w ∷ ws) l = cond (eqb l w.letter) w.spelling (word_of ws l)

unfoldable pub word_attribute : List ℕ → List Word → ℕ → List Attribute
word_attribute n ws l = attribute n (word_of ws l)

unfoldable pub unless_hyphen : List ℕ → ℕ → List Attribute
unless_hyphen n l = cond (eqb l '-') [] (word_attribute n yes_no l)

-- the letters of a code; canOverlap not in ph
unfoldable pub hints : Bool → Fields → List Attribute
hints overlap f =
    word_attribute 'canCopy' yes_no f.can_copy
    ++ (word_attribute 'canDelete' yes_no f.can_delete
    ++ (cond overlap (word_attribute 'canOverlap' yes_no f.can_overlap) []
    ++ word_attribute 'canReorder' yes_first_no f.can_reorder))

-- ph; sc and ec, whose id is that of its attribute and whose isolated is spelled out; pc with the dataRef of its end
unfoldable pub ph_attributes : Fields → List Attribute
ph_attributes f =
    number_attribute 'id' f.id ++ (unless_zero 'copyOf' f.copy_of ++ (unless_zero 'dataRef' f.data_ref ++ hints false f))

unfoldable pub half_attributes : List ℕ → List ℕ → Fields → List Attribute
half_attributes id is_isolated f =
    number_attribute id f.id
    ++ (unless_zero 'copyOf' f.copy_of
    ++ (unless_zero 'dataRef' f.data_ref ++ (hints true f ++ attribute 'isolated' is_isolated)))

unfoldable pub pc_attributes : Fields → ℕ → List Attribute
pc_attributes f ref =
    number_attribute 'id' f.id
    ++ (unless_zero 'copyOf' f.copy_of
    ++ (unless_zero 'dataRefStart' f.data_ref ++ (unless_zero 'dataRefEnd' ref ++ hints true f)))

unfoldable pub mark_attributes : ℕ → ℕ → List Attribute
mark_attributes i t = number_attribute 'id' i ++ unless_hyphen 'translate' t

-- text: the three escapes and the carriage return, all else UTF-8
unfoldable pub escaped : ℕ → List ℕ
escaped c =
    cond (eqb c '&') ('&' ∷ 'amp') (cond (eqb c '<') ('&' ∷ 'lt') (cond (eqb c '>') ('&' ∷ 'gt')
    (cond (eqb c carriage_return) ('&' ∷ '#' ∷ 49 ∷ 51 ∷ semicolon ∷ []) (utf8 c))))

-- the ends of pc and mrk in a content whose starts are not in it, the nearest first
unfoldable pub behind_first : List Item → List Item
behind_first [] = []
behind_first (x ∷ xs) = xs

unfoldable pub pending : Content → List Item
pending [] = []
pending (x ∷ xs) =
    let rest : List Item = pending xs in
    cond (is_form_P x) (cond (is_start_half x) (behind_first rest) (x ∷ rest)) rest

-- the dataRef of the first of them
unfoldable pub first_data : List Item → ℕ
first_data [] = 0
first_data (y ∷ ys) = (fields y).data_ref

-- an item, with what stands behind it in its content
unfoldable pub item_text : Item → Content → List ℕ
item_text (text c) after = escaped c
item_text (character c) after = short_tag 'cp' (attribute 'hex' (hex_byte (c / 256) ++ hex_byte (c % 256)))
item_text (standalone f) after = short_tag 'ph' (ph_attributes f)
item_text (isolated start f) after = short_tag 'sc' (half_attributes 'id' 'yes' f)
item_text (isolated end f) after = short_tag 'ec' (half_attributes 'id' 'yes' f)
item_text (pair start form_P f) after = opening_tag 'pc' (pc_attributes f (first_data (pending after)))
item_text (pair start form_S f) after = short_tag 'sc' (half_attributes 'id' 'no' f)
item_text (pair end form_P f) after = closing_tag 'pc'
item_text (pair end form_S f) after = short_tag 'ec' (half_attributes 'startRef' 'no' f)
item_text (annotation_start form_P i t) after = opening_tag 'mrk' (mark_attributes i t)
item_text (annotation_start form_S i t) after = short_tag 'sm' (mark_attributes i t)
item_text (annotation_end form_P i) after = closing_tag 'mrk'
item_text (annotation_end form_S i) after = short_tag 'em' (number_attribute 'startRef' i)

unfoldable pub content_text : Content → List ℕ
content_text [] = []
content_text (x ∷ xs) = item_text x xs ++ content_text xs

unfoldable pub head_name : Head → List ℕ
head_name (segment f) = 'segment'
head_name (ignorable i) = 'ignorable'

unfoldable pub head_attributes : Head → List Attribute
head_attributes (segment f) =
    unless_zero 'id' f.id ++ (unless_hyphen 'canResegment' f.can_resegment ++ word_attribute 'state' states f.state)
head_attributes (ignorable i) = unless_zero 'id' i

unfoldable pub target_text : Target → List ℕ
target_text no_target = []
target_text (target q xs) = opening_tag 'target' (number_attribute 'order' q) ++ (content_text xs ++ closing_tag 'target')

unfoldable pub part_text : Part → List ℕ
part_text p =
    opening_tag (head_name p.head) (head_attributes p.head)
    ++ (opening_tag 'source' []
    ++ (content_text p.source
    ++ (closing_tag 'source' ++ (target_text p.target ++ closing_tag (head_name p.head)))))

-- "The unit's id is written as 1"
unfoldable pub unit_text : XliffUnit → List ℕ
unit_text u =
    opening_tag 'unit' (number_attribute 'id' 1 ++ word_attribute 'canResegment' yes_no u.opening.can_resegment)
    ++ (gather part_text u.parts ++ closing_tag 'unit')

-- how many pc and mrk are open behind an item, if n are before it
unfoldable pub one_less : ℕ → ℕ
one_less zero = zero
one_less (suc n) = n

unfoldable pub depth_behind : ℕ → Item → ℕ
depth_behind n x = cond (is_form_P x) (cond (is_start_half x) (suc n) (one_less n)) n

-- deeper than 32
unfoldable pub deeper : ℕ → Content → Bool
deeper n [] = false
deeper n (x ∷ xs) = ltb most_depth (depth_behind n x) || deeper (depth_behind n x) xs

unfoldable pub too_deep : XliffUnit → Bool
too_deep u = any (λ (p : Part). deeper 0 p.source || deeper 0 (target_items p.target)) u.parts

unfoldable pub Write·all : Unit {0}
unfolding Elements·all digits decimal hex_digit hex_byte attribute_bytes opening_tag short_tag closing_tag number_attribute
    unless_zero word_of word_attribute unless_hyphen hints ph_attributes half_attributes pc_attributes mark_attributes
    escaped behind_first pending first_data item_text content_text head_name head_attributes target_text part_text unit_text
    one_less depth_behind deeper too_deep
Write·all = tt
