-- Document 02, order 6: "translators set or remove targets there, reviewers also rewrite there". No call of theirs
-- changes a part outside the grant. A statement, not its proof.
use Rattle.std.specs.Prelude.{ℕ, suc, ◌≡◌, true, false, List, [], ◌∷◌}
use Rattle.xliff.specs.Bytes.{Bytes}
use Rattle.xliff.specs.Answer.{next_table}
use Rattle.xliff.specs.Unit.{Part}
use Rattle.xliff.specs.Parse.{unit}
use Rattle.grants.specs.Grant.{is_engineer, Grant, within, GrantedCall, granted_outcome}
use Rattle.grants.specs.GrantedLists.{GivenGranted}

-- two lists of parts, from a position on, of one length, that differ at most in parts within the grant
pub data SameOutside (g : Grant) : ℕ → List Part → List Part → Type 0 where
  no_parts : (n : ℕ) → SameOutside g n [] []
  granted_part : (n : ℕ) (p q : Part) (ps qs : List Part) → within g n ≡ true → SameOutside g (suc n) ps qs
      → SameOutside g n (p ∷ ps) (q ∷ qs)
  same_part : (n : ℕ) (p : Part) (ps qs : List Part) → SameOutside g (suc n) ps qs → SameOutside g n (p ∷ ps) (p ∷ qs)

unfoldable pub GrantBinds : Type 0
GrantBinds =
    (t : List ℕ) (c : GrantedCall) → Bytes t → GivenGranted c → is_engineer c.grant.role ≡ false
    → SameOutside c.grant 1 (unit t).parts (unit (next_table (granted_outcome t c) t)).parts
