-- Why nothing is read from tokens.
use Rattle.std.specs.Prelude.{◌≡◌, ℕ, List, Some, slice_get}
use Rattle.lisa_tree.specs.declared.tokens.Token.{Token}
use Rattle.lisa_tree.specs.declared.faults.DescFault.{DescFault}
use Rattle.lisa_tree.specs.declared.faults.DescFault.TheVariants as faults
use Rattle.lisa_tree.specs.Tokens.{toks}
use Rattle.lisa_tree.specs.Brackets.{IsTooDeep, IsFlat}
use Rattle.lisa_behav_reader.specs.Places.{IsMiss}

-- more than 64 brackets are open at a token, and this is the fault of the first such
pub data IsDeep (tokens : List Token) : DescFault → Type 0 where
  too_deep : {i : ℕ} {token : Token} → IsTooDeep (toks tokens) i → slice_get tokens i ≡ Some token → IsDeep tokens (faults.TooDeep token.at)

-- why nothing is read: too many brackets are open, or they are few, and memory ran out or nothing is spelled
pub data IsRefused (tokens : List Token) (fault : DescFault) : Type 0 where
  deep : IsDeep tokens fault → IsRefused tokens fault
  missed : IsFlat (toks tokens) → IsMiss tokens fault → IsRefused tokens fault
