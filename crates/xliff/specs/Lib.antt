-- The specification. How to read it:
-- `unfoldable pub f`: a definition that a proof opens by name, with a line `unfolding f`; elsewhere it stays shut, so
-- that goals stay short.
-- `abbrev pub f`: a short name for what stands behind it, always open (constants, letters, one-line tests, types).
-- `X·all`: no definition of the field; a line that opens all definitions of file X and of those it builds on, for the
-- examples.
-- Good: stepping stones; no rule is stated there.
pub mod Bytes
pub mod Text
pub mod Answer
pub mod State
pub mod Item
pub mod Unit
pub mod Encode
pub mod Parse
pub mod Good
pub mod Sequences
pub mod Rules
pub mod Check
pub mod Focus
pub mod Split
pub mod Join
pub mod SetTarget
pub mod RemoveTarget
pub mod Rewrite
pub mod Calls
pub mod BothEnds
pub mod Rejoin
pub mod Desk
-- The worked examples
pub mod examples
