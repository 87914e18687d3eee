use mathlib.Core.Path.{◌∙◌, sym}
use native.Mathlib.Omega.{arith}
use Rattle.halves.specs.Nearest.{earlier, marker_at}
use Rattle.overlap.proofs.TestLaws.{not_closed, no_end, with_end, end_there}
use Rattle.overlap.proofs.encloses_stray.Goals as goal

-- if !is_closed(t, h.sequence, i) { return false; }
pub returns-then-not-is_closed : goal.returns-then-not-is_closed
returns-then-not-is_closed c =
    let args = c.args in
    let t = args.t.now in
    let markers = args.h.sequence.markers.now in
    not_closed t markers args.i c.requires.1 (earlier (marker_at t markers) args.i)
    (sym c.is_closed.ensures ∙ c.if-not-is_closed.true)

-- if h.sequence.markers.len() <= end { return false; }
pub returns-then-h-end : goal.returns-then-h-end
returns-then-h-end c =
    let args = c.args in
    let t = args.t.now in
    let h = args.h in
    let markers = h.sequence.markers.now in
    let there = end_there t markers h.sequence.keys.now h.starts.now h.ends.now c.requires.0 h.halves args.i c.wide-end.result
    c.requires.1 c.wide-end.ensures.0 in
    no_end t markers args.i c.requires.1 (earlier (marker_at t markers) args.i) (omega (arith, c.if-h-end.true, there))

-- h.has_stray(i + 1, end)
pub returns : goal.returns
returns c =
    let args = c.args in
    let t = args.t.now in
    let h = args.h in
    let markers = h.sequence.markers.now in
    c.has_stray.ensures
    ∙ with_end t markers args.i c.requires.1 (earlier (marker_at t markers) args.i)
    (sym c.is_closed.ensures ∙ c.if-not-is_closed.false) h.sequence.keys.now c.requires.0 c.wide-end.result
    (end_there t markers h.sequence.keys.now h.starts.now h.ends.now c.requires.0 h.halves args.i c.wide-end.result c.requires.1
    c.wide-end.ensures.0)
    c.if-h-end.false
