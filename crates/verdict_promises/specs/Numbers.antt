-- The numbers of a description's faults.
use Rattle.std.specs.Prelude.{ℕ, ◌≡◌, ◌≤◌, List, [], ◌∷◌, Some}
use Rattle.lisa_tree.specs.declared.faults.DescFault.{DescFault}
use Rattle.lisa_tree.specs.declared.faults.DescFault.TheVariants as faults
use Rattle.lisa_tree.specs.Descriptions.{DescriptionTree}
use Rattle.checked_descriptions.specs.Conditions.{Condition}

-- by which a fault is told; want of memory is none, and has 0
abbrev pub fault_number : DescFault → ℕ
fault_number (faults.BadByte at) = 1
fault_number (faults.NumberTooWide at) = 2
fault_number (faults.NameTooLong at) = 3
fault_number (faults.TooDeep at) = 4
fault_number (faults.NotADescription at) = 5
fault_number (faults.Duplicate name) = 6
fault_number (faults.Unknown operation name) = 7
fault_number (faults.WrongKind operation name) = 8
fault_number (faults.BadWidth name width) = 9
fault_number (faults.BadDepth name depth) = 10
fault_number (faults.Narrowing operation from to) = 11
fault_number (faults.LoopWithoutBound operation) = 12
fault_number (faults.LoopTooLong operation turns) = 13
fault_number (faults.Circular operation) = 14
fault_number (faults.Backward activator activated) = 15
fault_number (faults.Control operation stage) = 16
fault_number faults.BadMain = 17
fault_number faults.BadReset = 18
fault_number (faults.GroupWidth operation name) = 19
fault_number (faults.NotWritten operation name) = 20
fault_number (faults.RootTwice operation) = 21
fault_number (faults.TooMany what count limit) = 22
fault_number (faults.BadText form) = 23
fault_number (faults.Overlap first second word) = 24
fault_number (faults.Ambiguous first second text) = 25
fault_number (faults.NotAnAlias form) = 26
fault_number faults.NoMemory = 0

-- the faults of each of these conditions have its number
abbrev pub HaveNumbers : List Condition → DescriptionTree → Type 0
HaveNumbers [] d = Unit {0}
HaveNumbers (c ∷ rest) d = ((f : DescFault) → c.verdict d (Some f) → fault_number f ≡ c.number) × HaveNumbers rest d

-- its number is one of these
pub record IsNumbered (low high : ℕ) (fault : DescFault) : Type 0 where
  pub from : low ≤ fault_number fault
  pub to : fault_number fault ≤ high
