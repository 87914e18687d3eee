use Prim.Native.Nat.{ℕ, ◌+◌, ◌≤◌}
use mathlib.Core.List.{List}
use Rattle.std.specs.Prelude.{◌≢◌}
use native.Mathlib.Omega.{arith}
use mathlib.Core.Path.{ap, ◌∙◌}
use lib.ListN.{length}
use Rattle.xliff.specs.Encode.{Record, content_records}
use Rattle.walk.specs.Kept.{Of}
use Rattle.walk.specs.Place.{Parted}
use Rattle.walk.specs.declared.Place.{Place}
use Rattle.cut.specs.Halves.{Some}
use Rattle.xliff.proofs.lists.Slices.{tail_is}
use Rattle.accents.specs.Accents.{accent_of}
use Rattle.accents.proofs.AccentLaws.{parted_at}
use Rattle.accents.proofs.cuts_off_accent.Goals as goal

-- where the item behind the cut stands inside a text, its bytes begin within the content
behind_fits : (c : List ℕ) (cut : ℕ) (place : Place) → Some c → ((rs : List Record) → Of c rs → Parted cut rs place) → place.into ≢ 0
    → place.at + 4 + place.into ≤ length c
behind_fits c cut place (xs, o) parted inside =
    (parted_at cut c xs place o (parted (content_records xs) o)).fits (omega arith)

-- walk::place_of(c, cut)
pub place_of-place-requires : goal.place_of-place-requires
place_of-place-requires c =
    let (xs, o) = c.requires in
    (content_records xs, o)

-- return false
pub returns-then-place-eq0 : goal.returns-then-place-eq0
returns-then-place-eq0 c =
    let args = c.args in
    let place_of = c.place_of-place in
    λ xs o.
    (parted_at args.cut args.c.now xs place_of.result o (place_of.ensures (content_records xs) o)
    ).apart c.if-place-eq0.true

-- place.at + marks::TEXT_WIDTH
pub overflow_add-behind : goal.overflow_add-behind
overflow_add-behind c = omega (arith, behind_fits c.args.c.now c.args.cut c.place_of-place.result c.requires c.place_of-place.ensures (λ z. omega (arith, z, c.if-place-eq0.false)))

-- .. + place.into
pub overflow_add-behind-2 : goal.overflow_add-behind-2
overflow_add-behind-2 c = omega (arith, behind_fits c.args.c.now c.args.cut c.place_of-place.result c.requires c.place_of-place.ensures (λ z. omega (arith, z, c.if-place-eq0.false)))

-- &c[behind..]
pub slice_bounds-char_of-count : goal.slice_bounds-char_of-count
slice_bounds-char_of-count c = omega (arith, behind_fits c.args.c.now c.args.cut c.place_of-place.result c.requires c.place_of-place.ensures (λ z. omega (arith, z, c.if-place-eq0.false)))

-- the same
pub slice_bounds-char_of-start : goal.slice_bounds-char_of-start
slice_bounds-char_of-start c = omega (arith, behind_fits c.args.c.now c.args.cut c.place_of-place.result c.requires c.place_of-place.ensures (λ z. omega (arith, z, c.if-place-eq0.false)))

-- is_accent(text::char_of(&c[behind..]))
pub returns : goal.returns
returns c =
    let args = c.args in
    let place_of = c.place_of-place in
    λ xs o.
    c.is_accent.ensures
    ∙ ap accent_of (simp tail_is at c.char_of.ensures)
    ∙ (parted_at args.cut args.c.now xs place_of.result o (place_of.ensures (content_records xs) o)
    ).together (omega arith)
