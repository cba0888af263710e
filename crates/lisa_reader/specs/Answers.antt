-- What reading bytes as a description answers beside the description that they spell.
use Rattle.std.specs.Prelude.{◌≡◌, ℕ, ◌≤◌, List, length, Some, slice_get}
use Rattle.lisa_tree.specs.declared.faults.DescFault.{DescFault}
use Rattle.lisa_tree.specs.declared.faults.DescFault.TheVariants as faults
use Rattle.lisa_tree.specs.declared.tokens.Token.{Token}
use Rattle.lisa_tree.specs.Tokens.{Lexes, Breaks, toks}
use Rattle.lisa_tree.specs.Brackets.{IsTooDeep, IsFlat}
use Rattle.lisa_tree.specs.Descriptions.{DescriptionTree}
use Rattle.lisa_tree.specs.Texts.{SpellsText}

-- the bytes are tokens, and at most 64 brackets are open at any of them
pub record AreFlat (bytes : List ℕ) : Type 0 where
  pub tokens : List Token
  pub lexes : Lexes 0 bytes tokens
  pub flat : IsFlat (toks tokens)

-- the fault of bytes that spell no description
pub data IsBroken (bytes : List ℕ) : DescFault → Type 0 where
  -- the first fault from the left, where the bytes aren't tokens
  broken_token : {fault : DescFault} → Breaks 0 bytes fault → IsBroken bytes fault
  -- the first token at which more than 64 brackets are open
  too_deep : {ts : List Token} {i : ℕ} {token : Token} → Lexes 0 bytes ts → IsTooDeep (toks ts) i → slice_get ts i ≡ Some token → IsBroken bytes (faults.TooDeep token.at)
  -- the tokens spell no description of depth at most 128; the place is only bounded, by the number of bytes
  spells_none : {at : ℕ} → AreFlat bytes → ((d : DescriptionTree) → ¬ SpellsText bytes d) → at ≤ length bytes → IsBroken bytes (faults.NotADescription at)

-- the bytes spell some description, or have some fault
pub data HasOutcome (bytes : List ℕ) : Type 0 where
  spells : (d : DescriptionTree) → SpellsText bytes d → HasOutcome bytes
  breaks : (fault : DescFault) → IsBroken bytes fault → HasOutcome bytes

-- the same fault, apart from the place of one that is only bounded
abbrev pub IsSameFault : DescFault → DescFault → Type 0
IsSameFault (faults.NotADescription at) (faults.NotADescription place) = Unit {0}
IsSameFault f g = f ≡ g
