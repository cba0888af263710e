-- The first fault of a text: the least number that is broken, and inside a number the first place in the text.
use Rattle.std.specs.Prelude.{◌≡◌, ℕ, ◌≤◌, List, length, map, Option, Some, None, slice_get, option_map}
use Rattle.verilog_text.specs.declared.faults.VerilogFault.{VerilogFault}
use Rattle.verilog_text.specs.declared.faults.VerilogFault.TheVariants as faults
use Rattle.verilog_text.specs.Tokens.{VTok, VToks}
use Rattle.verilog_text.specs.Trees.{ModuleTree}
use Rattle.verilog_text.specs.Grammar.{SpellsModule}
use Rattle.verilog_text.specs.Lexing.{Lexes, Breaks}
use Rattle.verilog_text.specs.Spelling.{first_deep, VSpells}
use Rattle.verilog_text.specs.WidePlaces.{first_wide}
use Rattle.verilog_text.specs.Conditions.{IsDuplicate, IsUndeclared, IsWrongUse, IsUnset, IsMisindexed, IsDrivenTwice, IsTooMany}

abbrev pub parts_of : List (ℕ × VTok) → VToks
parts_of ts = map (λ (t : ℕ × VTok). t.1) ts

-- 9: a range or an expression is too wide, the first of which begins at this byte
abbrev pub IsTooWide : (ts : List (ℕ × VTok)) {m : ModuleTree} → SpellsModule (parts_of ts) m → (at : ℕ) → Type 0
IsTooWide ts s at = (k : ℕ) × (first_wide s ≡ Some k) × (option_map (λ (t : ℕ × VTok). t.0) (slice_get ts k) ≡ Some at)

-- nothing is broken up to a number
abbrev pub Holds4 : ModuleTree → Type 0
Holds4 m = (name : List ℕ) → ¬ IsDuplicate m name

abbrev pub Holds5 : ModuleTree → Type 0
Holds5 m = Holds4 m × ((name : List ℕ) → ¬ IsUndeclared m name)

abbrev pub Holds6 : ModuleTree → Type 0
Holds6 m = Holds5 m × ((name : List ℕ) → ¬ IsWrongUse m name)

abbrev pub Holds7 : ModuleTree → Type 0
Holds7 m = Holds6 m × ((name : List ℕ) → ¬ IsUnset m name)

abbrev pub Holds8 : ModuleTree → Type 0
Holds8 m = Holds7 m × ((name : List ℕ) (width needed : ℕ) → ¬ IsMisindexed m name width needed)

abbrev pub Holds9 : {ts : VToks} {m : ModuleTree} → SpellsModule ts m → Type 0
Holds9 {m = m} s = Holds8 m × (first_wide s ≡ None)

abbrev pub Holds10 : {ts : VToks} {m : ModuleTree} → SpellsModule ts m → Type 0
Holds10 {m = m} s = Holds9 s × ((name : List ℕ) → ¬ IsDrivenTwice m name)

-- nothing of 4 to 11 is broken
abbrev pub HoldsAll : {ts : VToks} {m : ModuleTree} → SpellsModule ts m → Type 0
HoldsAll {m = m} s = Holds10 s × ((what : List ℕ) (count limit : ℕ) → ¬ IsTooMany m what count limit)

-- what is broken first in a module that tokens spell
abbrev pub IsFirstBroken : (ts : List (ℕ × VTok)) {m : ModuleTree} → SpellsModule (parts_of ts) m → VerilogFault → Type 0
IsFirstBroken ts {m = m} s (faults.DuplicateName name) = IsDuplicate m name
IsFirstBroken ts {m = m} s (faults.UsedBeforeDeclared name) = Holds4 m × IsUndeclared m name
IsFirstBroken ts {m = m} s (faults.WrongUse name) = Holds5 m × IsWrongUse m name
IsFirstBroken ts {m = m} s (faults.NoInitial name) = Holds6 m × IsUnset m name
IsFirstBroken ts {m = m} s (faults.IndexWidth name width needed) = Holds7 m × IsMisindexed m name width needed
IsFirstBroken ts {m = m} s (faults.TooWide at) = Holds8 m × IsTooWide ts s at
IsFirstBroken ts {m = m} s (faults.TwoDrivers name) = Holds9 s × IsDrivenTwice m name
IsFirstBroken ts {m = m} s (faults.TooMany what count limit) = Holds10 s × IsTooMany m what count limit
IsFirstBroken ts s _ = ⊥

-- the bytes spell the module, and nothing is broken in it
pub record VAccepts (bytes : List ℕ) (m : ModuleTree) : Type 0 where
  pub spelling : VSpells bytes m
  pub holds : HoldsAll spelling.spells

-- tokens whose brackets aren't too deep
pub record Flat (bytes : List ℕ) : Type 0 where
  pub tokens : List (ℕ × VTok)
  pub lexes : Lexes 0 bytes tokens
  pub flat : first_deep 0 tokens ≡ None

-- the first fault of a text; the place of NotInSubset is only bounded, by the number of bytes
pub data VFault (bytes : List ℕ) : VerilogFault → Type 0 where
  bad_byte : {at : ℕ} → Breaks 0 bytes at → VFault bytes (faults.BadByte at)
  too_deep : {at : ℕ} {ts : List (ℕ × VTok)} → Lexes 0 bytes ts → first_deep 0 ts ≡ Some at → VFault bytes (faults.TooDeep at)
  not_in_subset : {at : ℕ} → Flat bytes → ((m : ModuleTree) → ¬ VSpells bytes m) → at ≤ length bytes → VFault bytes (faults.NotInSubset at)
  broken : {m : ModuleTree} {fault : VerilogFault} (spelling : VSpells bytes m) → IsFirstBroken spelling.tokens spelling.spells fault → VFault bytes fault
