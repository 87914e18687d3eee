-- `step` is what a piece promises of its case, `read` what a start tag does.
use Prim.Native.Nat.{ℕ}
use mathlib.Core.Path.{subst}
use mathlib.Core.List.{[], ◌∷◌}
use Rattle.std.proofs.lemmas.Result.{err_from_is_err_and}
use Rattle.xliff.specs.Encode.{inline}
use Rattle.table.specs.Meaning.{item}
use Rattle.table_builder.specs.declared.TableBuilder.{TableBuilder}
use Rattle.xml_records.specs.Collecting.{Collects}
use Rattle.xml_content.specs.Contents.{ElementOn}
use Rattle.xml_content.proofs.ElementLaws.{deeper, short_element, content_blames}
use Rattle.xml_content.proofs.LoopLaws.{nothing_read, piece_on, element_on, at_fault, element_at_fault, ended}
use Rattle.xml_content.proofs.+content_element.Goals as goal

-- the loop begins
pub content-loop-next-init : goal.content-loop-next-init
content-loop-next-init t c =
    let args = c.args in
    nothing_read args.text.now args.start args.depth args.builder.now c.requires

-- plain_piece(text, at, builder)?: a place at fault
pub content-returns-in_err-next : goal.content-returns-in_err-next
content-returns-in_err-next t c =
    let args = c.args in
    let loop = c.loop-next in
    let p = err_from_is_err_and c.from_residual.result c.from_residual.ensures.1 in
    rw (p.1, p.2)
    (at_fault args.text.now args.start args.depth args.builder.now loop.at loop.builder loop.invariant _
    (c.in_err-next.ensures args.depth))

-- Stepped::On(next): at = next
pub content-loop-next-preserved-in-On : goal.content-loop-next-preserved-in-On
content-loop-next-preserved-in-On t c =
    let args = c.args in
    let loop = c.loop-next in
    piece_on args.text.now args.start args.depth args.builder.now loop.at loop.builder loop.invariant _ _
    (rw c.in-On.is at c.in_ok-next.ensures)

-- element(text, tag, builder, depth)?: a place at fault
pub content-returns-in_err-at-in-Tag : goal.content-returns-in_err-at-in-Tag
content-returns-in_err-at-in-Tag t c =
    let args = c.args in
    let loop = c.loop-next in
    let step = rw c.in-Tag.is at c.in_ok-next.ensures in
    let residual = c.from_residual-in_err-at-in-Tag in
    let p = err_from_is_err_and residual.result residual.ensures.1 in
    rw (p.1, p.2)
    (element_at_fault args.text.now args.start args.depth args.builder.now loop.at loop.builder loop.invariant c.in-Tag.tag
    _ step.3 c.in_err-at-in-Tag.ensures)

-- at = element(text, tag, builder, depth)?
pub content-loop-next-preserved : goal.content-loop-next-preserved
content-loop-next-preserved t c =
    let args = c.args in
    let loop = c.loop-next in
    let tag = c.in-Tag.tag in
    let next = c.in_ok-at-in-Tag.at in
    let step = rw c.in-Tag.is at c.in_ok-next.ensures in
    let more = c.element.new.builder in
    element_on args.text.now args.start args.depth args.builder.now loop.at loop.builder loop.invariant tag next more
    step.1
    step.3
    (subst (λ (b : TableBuilder). ElementOn args.text.now tag args.depth b next more) step.0 c.in_ok-at-in-Tag.ensures)

-- if depth == 0 { return Err(Blamed { place: tag.place }) }
pub element-returns-then-depth-eq0 : goal.element-returns-then-depth-eq0
element-returns-then-depth-eq0 t c =
    let args = c.args in
    let read = rw c.in-Nested.is at c.in_ok-next.ensures in
    deeper args.text.now args.tag args.depth c.in-Nested.opened read.1 c.if-depth-eq0.true

-- return Ok(opened.next), in the short form
pub element-returns-then-opened : goal.element-returns-then-opened
element-returns-then-opened t c =
    let args = c.args in
    let opened = c.in-Nested.opened in
    let first = c.put_item.new.builder in
    let read = rw c.in-Nested.is at c.in_ok-next.ensures in
    short_element args.text.now args.tag args.depth opened read.1 c.if-depth-eq0.false c.if-opened.true
    (subst (λ (b : TableBuilder). Collects (inline (item opened.start) ∷ []) b first) read.0 c.put_item.ensures)
    c.put_item-then-opened.ensures

-- content(text, opened.next, builder, depth - 1)?: a place at fault
pub element-returns-in_err-end-in-Nested : goal.element-returns-in_err-end-in-Nested
element-returns-in_err-end-in-Nested t c =
    let args = c.args in
    let read = rw c.in-Nested.is at c.in_ok-next.ensures in
    let residual = c.from_residual-in_err-end-in-Nested in
    let p = err_from_is_err_and residual.result residual.ensures.1 in
    rw (p.1, p.2)
    (content_blames args.text.now args.tag args.depth c.in-Nested.opened read.1 c.if-depth-eq0.false c.if-opened.false _
    c.in_err-end-in-Nested.ensures)

-- close_element(text, tag.name, end, builder, opened.end)
pub element-returns-in_ok-end-in-Nested : goal.element-returns-in_ok-end-in-Nested
element-returns-in_ok-end-in-Nested t c =
    let args = c.args in
    let opened = c.in-Nested.opened in
    let first = c.put_item.new.builder in
    let read = rw c.in-Nested.is at c.in_ok-next.ensures in
    let close = c.close_element in
    ended args.text.now args.tag args.depth opened read.1 c.if-depth-eq0.false c.if-opened.false
    c.in_ok-end-in-Nested.end
    (subst (λ (b : TableBuilder). Collects (inline (item opened.start) ∷ []) b first) read.0 c.put_item.ensures)
    c.in_ok-end-in-Nested.ensures close.new.builder close.result close.ensures
