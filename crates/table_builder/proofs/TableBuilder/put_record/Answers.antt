use Prim.Native.Nat.{ℕ, ◌+◌}
use mathlib.Core.Path.{◌≡◌, refl, ap, ◌∙◌}
use mathlib.Core.Bool.{Bool, true, false, cond}
use mir.Val.{bool_byte}
use Rattle.writer.proofs.PieceLaws.{tail_back}
use Rattle.table_builder.specs.Building.{RecordPut}
use Rattle.table_builder.proofs.RecordLaws.{record_beyond, record_passes, record_behind}
use Rattle.table_builder.proofs.TableBuilder.put_record.Goals as goal

-- usize::from(heads_part)
one_if : (b : Bool) → bool_byte b ≡ cond b 1 0
one_if true = refl
one_if false = refl

-- return: a limit is passed already
pub returns-then-self-clause-put : goal.returns-then-self-clause-put
unfolding RecordPut
returns-then-self-clause-put c = λ done run r held spelled heads. record_beyond held r c.if-self.true

-- return: this record passes one
pub returns-then-self-bytes-clause-put : goal.returns-then-self-bytes-clause-put
unfolding RecordPut
returns-then-self-bytes-clause-put c =
    λ done run r held spelled heads. record_passes held r c.if-self.false spelled heads c.if-self-bytes.true refl

-- the record is put
pub returns-clause-put : goal.returns-clause-put
unfolding RecordPut
returns-clause-put c =
    let self = c.args.self.now in
    let wrote = c.put-wrote in
    let behind = tail_back self.table.now c.args.bytes.now wrote.new.out self.used wrote.ensures.1 in
    λ done run r held spelled heads.
    record_behind held r c.if-self.false spelled heads c.if-self-bytes.false c.if-self.false
    (ap (λ (k : ℕ). self.used + k) wrote.ensures.0) refl
    (ap (λ (k : ℕ). self.parts + k) (c.from.ensures ∙ one_if c.args.heads_part)) refl
    behind
