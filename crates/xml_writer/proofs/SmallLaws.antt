-- The characters of a table that passes have four hexadecimal digits.
use Prim.Native.Nat.{ℕ, ◌<◌, ◌≤◌}
use mathlib.Core.Path.{◌≡◌, refl, sym, ◌∙◌}
use mathlib.Core.Bool.{Bool, true, false, ◌||◌, ◌&&◌, true≢false}
use mathlib.Core.List.{List, [], ◌∷◌}
use lib.Dec.{eqb, ltb, leb}
use borrow.Author.Tests.{ltb-false, leb-false, le-leb}
use Rattle.xliff.specs.Bytes.{gather}
use Rattle.xliff.specs.Text.{between, xml_allows}
use Rattle.xliff.specs.Item.{Item, Content, text, character, standalone, isolated, pair, annotation_start, annotation_end}
use Rattle.xliff.specs.Unit.{Target, no_target, target, Part, XliffUnit}
use Rattle.xliff.specs.Encode.{Record, closing, text_before, item_before, content_records, target_records, part_records, unit_records}
use Rattle.xliff.specs.Parse.{bad_item}
use Rattle.xliff.specs.Good.{Each, each_nil, each_cons, GoodIn, GoodContent, GoodTarget, GoodPart, GoodParts}
use Rattle.xliff.proofs.lists.Each.{each_append}
use Rattle.xliff.proofs.lists.Tests.{or_left, or_right}
use Rattle.places.specs.Offsets.{Inner, no_inner, text_inner, inline_inner}
use Rattle.places.proofs.Places.{content_inner}
use Rattle.xml_writer.specs.Records.{SmallRecord}

-- XML allows all code points above 65535
not_between : (a c b : ℕ) → between a c b ≡ false → c ≤ b → c < a
unfolding between
not_between a c b e h = by (leb a c) refl e
  where
    by : (x : Bool) → leb a c ≡ x → x && leb c b ≡ false → c < a
    by true f g = absurd (true≢false (sym (le-leb c b h) ∙ g))
    by false f g = leb-false a c f

pub four_digits : (c : ℕ) → bad_item (character c) ≡ false → c < 65536
unfolding bad_item xml_allows
four_digits c e =
    let above : c ≤ 0x10FFFF = ltb-false 0x10FFFF c (or_left (ltb 0x10FFFF c) (xml_allows c) e) in
    let others = eqb c 9 || eqb c 10 || eqb c 13 || between 0x20 c 0xD7FF || between 0xE000 c 0xFFFD in
    not_between 65536 c 0x10FFFF (or_right others (between 0x10000 c 0x10FFFF) (or_right (ltb 0x10FFFF c) (xml_allows c) e)) above

small_text : (c : ℕ) {rs : List Record} → Inner rs → Each SmallRecord rs → Each SmallRecord (text_before c rs)
unfolding text_before
small_text c no_inner e = each_cons tt each_nil
small_text c (text_inner h) (each_cons a e) = each_cons tt e
small_text c (inline_inner h) e = each_cons tt e

small_item : (x : Item) {rs : List Record} → GoodIn x → Inner rs → Each SmallRecord rs → Each SmallRecord (item_before x rs)
unfolding item_before
small_item (text c) g h e = small_text c h e
small_item (character c) g h e = each_cons (four_digits c g) e
small_item (standalone f) g h e = each_cons tt e
small_item (isolated w f) g h e = each_cons tt e
small_item (pair v w f) g h e = each_cons tt e
small_item (annotation_start w i t) g h e = each_cons tt e
small_item (annotation_end w i) g h e = each_cons tt e

small_content : (xs : Content) → GoodContent xs → Each SmallRecord (content_records xs)
unfolding content_records
small_content [] each_nil = each_nil
small_content (x ∷ xs) (each_cons g h) = small_item x g (content_inner xs) (small_content xs h)

small_target : (g : Target) → GoodTarget g → Each SmallRecord (target_records g)
unfolding target_records
small_target no_target h = each_nil
small_target (target q xs) h = each_cons tt (small_content xs h)

small_part : (p : Part) → GoodPart p → Each SmallRecord (part_records p)
unfolding part_records
small_part p g =
    each_cons tt
    (each_append (content_records p.source) (target_records p.target) (small_content p.source g.source)
    (small_target p.target g.target))

small_parts : (ps : List Part) → GoodParts ps → Each SmallRecord (gather part_records ps)
unfolding gather
small_parts [] each_nil = each_nil
small_parts (p ∷ ps) (each_cons g h) = each_append (part_records p) (gather part_records ps) (small_part p g) (small_parts ps h)

pub small_unit : (u : XliffUnit) → GoodParts u.parts → Each SmallRecord (unit_records u)
unfolding unit_records
small_unit u g = each_cons tt
    (each_append (gather part_records u.parts) (closing ∷ []) (small_parts u.parts g) (each_cons tt each_nil))
