-- A stepping stone of the promises of inner crates: what is left of a text at a place in it.
use Rattle.std.specs.Prelude.{ℕ, List, drop}
use Rattle.xml.specs.Tokens.{Token, State, tokens}

-- the tokens of a text from a place on, in a state
abbrev pub tokens_at : List ℕ → State → ℕ → List Token
tokens_at s st i = tokens st 0 i (drop i s)
