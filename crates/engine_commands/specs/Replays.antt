-- What `unvcd` gives.
use Rattle.std.specs.Prelude.{ℕ, ◌≡◌, ◌≤◌, ◌⊎◌, List, length, None}
use Rattle.vcd_trace.specs.Parts.{form_of}
use Rattle.vcd_trace.specs.Traces.{dump_trace}
use Rattle.vcd_trace.specs.VcdFaults.{Spells, HasFault}
use Rattle.vcd_trace.specs.declared.faults.VcdFault.{VcdFault}
use Rattle.vcd_trace.specs.declared.faults.VcdFault.TheVariants as vcds
use Rattle.lisa_outcomes.specs.declared.status.Refusal.{Refusal}
use Rattle.lisa_outcomes.specs.declared.status.Refusal.TheVariants as refusals
use Rattle.lisa_outcomes.specs.Outcomes.{Outcome, Finished, After}

-- the most bytes of a dump
abbrev pub dump_limit : ℕ
dump_limit = 134217728

-- the bytes aren't of the form of a dump; the place is only bounded, by their number
abbrev pub IsFormless : List ℕ → VcdFault → Type 0
IsFormless bytes fault = (form_of bytes ≡ None) × ((at : ℕ) × (at ≤ length bytes) × (fault ≡ vcds.BadToken at))

-- they have no form, or one with a fault
abbrev pub IsNoDump : List ℕ → Refusal → Type 0
IsNoDump bytes refusal = (fault : VcdFault) × (IsFormless bytes fault ⊎ HasFault bytes fault) × (refusal ≡ refusals.Vcd fault)

-- the trace of the dump that the bytes spell
abbrev pub GivesReplay : (dump : List ℕ) → Outcome → Type 0
GivesReplay dump = After (Spells dump) (IsNoDump dump) (λ found outcome. outcome ≡ Finished (dump_trace found))
