-- How a source is spelled, line by line, and its first fault.
use Rattle.std.specs.Prelude.{ℕ, ◌+◌, ◌≡◌, List, [], ◌∷◌}
use Rattle.asm_source.specs.declared.flaw.Flaw.{Flaw}
use Rattle.asm_source.specs.declared.flaw.Flaw.TheVariants as flaws
use Rattle.asm_source.specs.declared.flaw.SourceFault.{SourceFault}
use Rattle.asm_source.specs.Plain.{PlainPart, PlainLine}
use Rattle.asm_source.specs.Source.{fault_at}
use Rattle.source_grammar.specs.Grammar.{SpellsLine}
use Rattle.source_grammar.specs.Refusals.{HasUnknownDirective, HasBadExpression, IsBadLine}

-- the texts of lines, numbered from this one on, and what they spell
pub data SpellsLines : ℕ → List (List ℕ) → List PlainLine → Type 0 where
  no_lines : {number : ℕ} → SpellsLines number [] []
  lines_on : {number : ℕ} {text : List ℕ} {texts : List (List ℕ)} {l : PlainLine} {ls : List PlainLine}
      → l.line ≡ number → SpellsLine text l.labels l.part → SpellsLines (number + 1) texts ls
      → SpellsLines number (text ∷ texts) (l ∷ ls)

-- a line has this flaw
abbrev pub HasFlaw : List ℕ → Flaw → Type 0
HasFlaw text flaws.BadLine = IsBadLine text
HasFlaw text flaws.UnknownDirective = HasUnknownDirective text
HasFlaw text flaws.BadExpression = HasBadExpression text
HasFlaw text flaws.NoMemory = ⊥

-- lines that are spelled, and then one with a flaw, which is told with its number
pub data HasFirstFault : ℕ → List (List ℕ) → SourceFault → Type 0 where
  fault_here : (flaw : Flaw) {number : ℕ} {text : List ℕ} {texts : List (List ℕ)} → HasFlaw text flaw
      → HasFirstFault number (text ∷ texts) (fault_at number flaw)
  fault_behind : {number : ℕ} {text : List ℕ} {texts labels : List (List ℕ)} {part : PlainPart}
      {fault : SourceFault} → SpellsLine text labels part → HasFirstFault (number + 1) texts fault
      → HasFirstFault number (text ∷ texts) fault
