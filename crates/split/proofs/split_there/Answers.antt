use mathlib.Core.Path.{sym, ◌∙◌}
use lib.ListN.{length}
use Rattle.xliff.specs.Encode.{encode}
use Rattle.xliff.specs.Split.{split_unit}
use Rattle.xliff.specs.Parse.{unit}
use Rattle.part_at.proofs.CheckedLaws.{table_passes}
use Rattle.outcomes.proofs.OutcomeLaws.{answers_refused, answers_result, fits}
use Rattle.split.proofs.ChainLaws.{refused_12, refused_13, refused_23, refused_14, refused_15, done}
use Rattle.split.proofs.split_there.Goals as goal

-- return Answer::Refused(12, 0)
pub returns-then-is_closed : goal.returns-then-is_closed
returns-then-is_closed c =
    let args = c.args in
    let table = args.table.now in
    let n = args.n in
    let source_cut = args.cuts.source in
    let target_cut = args.cuts.target in
    let id = args.cuts.new_id in
    let out = args.out.now in
    let (v, st) = c.requires in
    let (b, p, a, h, s) = st in
    let closed = sym (c.is_closed.ensures b p a s) ∙ c.if-is_closed.true in
    answers_refused _ 12 0 out
    (refused_12 table n source_cut target_cut id (length out) v b p a h closed)

-- return Answer::Refused(13, 0)
pub returns-then-is_bad_cut : goal.returns-then-is_bad_cut
returns-then-is_bad_cut c =
    let args = c.args in
    let table = args.table.now in
    let n = args.n in
    let source_cut = args.cuts.source in
    let target_cut = args.cuts.target in
    let id = args.cuts.new_id in
    let out = args.out.now in
    let (v, st) = c.requires in
    let (b, p, a, h, s) = st in
    let not_closed = sym (c.is_closed.ensures b p a s) ∙ c.if-is_closed.false in
    let bad = sym (c.is_bad_cut.ensures b p a s) ∙ c.if-is_bad_cut.true in
    answers_refused _ 13 0 out
    (refused_13 table n source_cut target_cut id (length out) v b p a h not_closed bad)

-- part_refusals::is_taken(table, cuts.new_id)
pub is_taken-taken-requires : goal.is_taken-taken-requires
is_taken-taken-requires c =
    let known = c.shared_slice_known-1.given in
    let (v, st) = c.requires in
    table_passes c.args.table.now known v

-- return Answer::Refused(23, 0)
pub returns-then-parted : goal.returns-then-parted
returns-then-parted c =
    let args = c.args in
    let table = args.table.now in
    let n = args.n in
    let source_cut = args.cuts.source in
    let target_cut = args.cuts.target in
    let id = args.cuts.new_id in
    let out = args.out.now in
    let (v, st) = c.requires in
    let (b, p, a, h, s) = st in
    let not_closed = sym (c.is_closed.ensures b p a s) ∙ c.if-is_closed.false in
    let cuts = sym (c.is_bad_cut.ensures b p a s) ∙ c.if-is_bad_cut.false in
    let parted = sym (c.is_accent_parted-parted.ensures b p a s) ∙ c.if-parted.true in
    answers_refused _ 23 0 out
    (refused_23 table n source_cut target_cut id (length out) v b p a h not_closed cuts parted)

-- return Answer::Refused(14, 0)
pub returns-then-taken : goal.returns-then-taken
returns-then-taken c =
    let args = c.args in
    let table = args.table.now in
    let n = args.n in
    let source_cut = args.cuts.source in
    let target_cut = args.cuts.target in
    let id = args.cuts.new_id in
    let out = args.out.now in
    let (v, st) = c.requires in
    let (b, p, a, h, s) = st in
    let not_closed = sym (c.is_closed.ensures b p a s) ∙ c.if-is_closed.false in
    let cuts = sym (c.is_bad_cut.ensures b p a s) ∙ c.if-is_bad_cut.false in
    let whole = sym (c.is_accent_parted-parted.ensures b p a s) ∙ c.if-parted.false in
    let taken = sym c.is_taken-taken.ensures ∙ c.if-taken.true in
    answers_refused _ 14 0 out
    (refused_14 table n source_cut target_cut id (length out) v b p a h not_closed cuts whole taken)

-- return Answer::Refused(15, 0)
pub returns-then-is_too_large : goal.returns-then-is_too_large
returns-then-is_too_large c =
    let args = c.args in
    let table = args.table.now in
    let n = args.n in
    let source_cut = args.cuts.source in
    let target_cut = args.cuts.target in
    let id = args.cuts.new_id in
    let out = args.out.now in
    let (v, st) = c.requires in
    let (b, p, a, h, s) = st in
    let not_closed = sym (c.is_closed.ensures b p a s) ∙ c.if-is_closed.false in
    let cuts = sym (c.is_bad_cut.ensures b p a s) ∙ c.if-is_bad_cut.false in
    let whole = sym (c.is_accent_parted-parted.ensures b p a s) ∙ c.if-parted.false in
    let free = sym c.is_taken-taken.ensures ∙ c.if-taken.false in
    let large = sym c.is_too_large.ensures ∙ c.if-is_too_large.true in
    answers_refused _ 15 0 out
    (refused_15 table n source_cut target_cut id (length out) v b p a h not_closed cuts whole free large)

-- split_result::put_split(out, table, place, cuts)
pub put_split-requires : goal.put_split-requires
put_split-requires c =
    let args = c.args in
    let n = args.n in (
      n,
      c.requires,
      fits (length args.out.now)
          (split_unit (unit args.table.now) n args.cuts.source args.cuts.target args.cuts.new_id)
          (sym c.is_too_large.ensures ∙ c.if-is_too_large.false),
    )

-- Answer::Accepted(split_result::put_split(out, table, place, cuts))
pub returns : goal.returns
returns c =
    let args = c.args in
    let table = args.table.now in
    let n = args.n in
    let source_cut = args.cuts.source in
    let target_cut = args.cuts.target in
    let id = args.cuts.new_id in
    let out = args.out.now in
    let put-split = c.put_split in
    let (v, st) = c.requires in
    let (b, p, a, h, s) = st in
    let not_closed = sym (c.is_closed.ensures b p a s) ∙ c.if-is_closed.false in
    let cuts = sym (c.is_bad_cut.ensures b p a s) ∙ c.if-is_bad_cut.false in
    let whole = sym (c.is_accent_parted-parted.ensures b p a s) ∙ c.if-parted.false in
    let free = sym c.is_taken-taken.ensures ∙ c.if-taken.false in
    let small = sym c.is_too_large.ensures ∙ c.if-is_too_large.false in
    let written = put-split.ensures n c.requires in
    answers_result _ (encode (split_unit (unit table) n source_cut target_cut id)) put-split.result out put-split.new.out
    (done table n source_cut target_cut id (length out) v b p a h not_closed cuts whole free small)
    written.0 written.1
