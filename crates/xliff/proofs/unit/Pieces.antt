-- The bytes of a part, and of a table, piece by piece.
use Rattle.xliff.specs.Good.{bytes_of, opened, closed}
use Prim.Native.Nat.{ℕ}
use mathlib.Core.Path.{◌≡◌, sym, ap, ◌∙◌}
use mathlib.Core.List.{List, [], ◌∷◌, ◌++◌, append_assoc, append-nil}
use Rattle.xliff.specs.Bytes.{gather}
use Rattle.xliff.specs.Unit.{Part, XliffUnit}
use Rattle.xliff.specs.Encode.{Record, closing, record_bytes, head_bytes, content_records, target_records, part_records, unit_records, spell, content_bytes, encode}
use Rattle.xliff.proofs.lists.Tests.{gather_append}

-- records one after the other
pub spell_append : (rs qs : List Record) → spell (rs ++ qs) ≡ spell rs ++ spell qs
unfolding spell
spell_append rs qs = gather_append record_bytes rs qs

-- a part: its head, its source, its target
pub part_bytes : (p : Part) → spell (part_records p) ≡ (head_bytes p.head ++ content_bytes p.source) ++ spell (target_records p.target)
unfolding spell gather part_records content_bytes record_bytes
part_bytes p =
    ap (λ (l : List ℕ). head_bytes p.head ++ l) (spell_append (content_records p.source) (target_records p.target))
    ∙ sym (append_assoc (head_bytes p.head) (spell (content_records p.source)) (spell (target_records p.target)))

-- parts one after the other
pub bytes_append : (ps qs : List Part) → bytes_of (ps ++ qs) ≡ bytes_of ps ++ bytes_of qs
bytes_append ps qs = ap spell (gather_append part_records ps qs) ∙ spell_append (gather part_records ps) (gather part_records qs)

-- a table: UN, its parts, UE
pub table_pieces : (u : XliffUnit) → encode u ≡ (opened u ++ bytes_of u.parts) ++ closed
unfolding encode unit_records spell gather
table_pieces u =
    ap (λ (l : List ℕ). opened u ++ l) (spell_append (gather part_records u.parts) (closing ∷ []) ∙ ap (λ (l : List ℕ). bytes_of u.parts ++ l) (append-nil closed))
    ∙ sym (append_assoc (opened u) (bytes_of u.parts) closed)
