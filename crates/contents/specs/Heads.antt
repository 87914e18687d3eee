-- Heads among the records: 0 for SG and IG, 1 for TG, 2 for all else.
use Rattle.std.specs.Prelude.{ℕ, Bool, not, ◌&&◌, ◌||◌, eqb}
use Rattle.xliff.specs.Encode as encode
use Rattle.xliff.specs.Encode.{opening, closing, part_head, target_head, text_run, inline, ill_text, broken}

unfoldable pub head_kind : encode.Record → ℕ
head_kind (opening c) = 2
head_kind closing = 2
head_kind (part_head h) = 0
head_kind (target_head q) = 1
head_kind (text_run cs) = 2
head_kind (inline x) = 2
head_kind ill_text = 2
head_kind (broken b) = 2

-- what follows is of a content that is asked for: of a source, where `targets` of a target too
abbrev pub inside_after_head : Bool → ℕ → Bool → Bool
inside_after_head targets head inside = eqb head 0 || (eqb head 1 && targets || eqb head 2 && inside)

-- a head, or a marker of such a content
abbrev pub is_found : ℕ → Bool → Bool → Bool
is_found head inside marker = not (eqb head 2) || inside && marker
