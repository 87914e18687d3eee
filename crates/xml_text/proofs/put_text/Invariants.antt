use lib.ListN.{take}
use Rattle.draft.specs.Drafts.{Wrote}
use Rattle.xml_text.specs.Escapes.{escaped_bytes}
use Rattle.xml_text.proofs.put_text.Given as goal

-- the bytes so far are written
abbrev pub invariant-loop-b : goal.invariant-loop-b
invariant-loop-b l = Wrote (escaped_bytes (take l.b-index l.text)) l.initial.draft l.draft
