use native.Mathlib.Omega.{arith}
use borrow.Author.Tests.{ne_eqb}
use Rattle.draft.proofs.DraftLaws.{wrote_as}
use Rattle.xml.specs.Words.{'amp', 'lt', 'gt', codes}
use Rattle.xml_text.specs.Escapes.{escaped_byte}
use Rattle.xml_text.proofs.put_escaped.Goals as goal

-- b'&' => draft.put(b"&amp;")
pub returns-in-38 : goal.returns-in-38
unfolding escaped_byte 'amp' codes
returns-in-38 c = rw c.in-38.is c.put.ensures

-- b'<' => draft.put(b"&lt;")
pub returns-in-60 : goal.returns-in-60
unfolding escaped_byte 'lt' codes
returns-in-60 c = rw c.in-60.is c.put-in-60.ensures

-- b'>' => draft.put(b"&gt;")
pub returns-in-62 : goal.returns-in-62
unfolding escaped_byte 'gt' codes
returns-in-62 c = rw c.in-62.is c.put-in-62.ensures

-- b'\r' => draft.put(b"&#13;")
pub returns-in-13 : goal.returns-in-13
unfolding escaped_byte
returns-in-13 c = rw c.in-13.is c.put-in-13.ensures

-- _ => draft.put(&[b])
pub returns-in_default : goal.returns-in_default
unfolding escaped_byte
returns-in_default c =
    let b = c.args.b in
    wrote_as (rw (
      ne_eqb b 38 (λ e. omega arith),
      ne_eqb b 60 (λ e. omega arith),
      ne_eqb b 62 (λ e. omega arith),
      ne_eqb b 13 (λ e. omega arith),
    )) c.put-in_default.ensures
