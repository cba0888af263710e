-- How commands refuse a description, or a module.
use Rattle.std.specs.Prelude.{ℕ, ◌≡◌, ◌↔◌, List, []}
use Rattle.lisa_tree.specs.declared.faults.DescFault.{DescFault}
use Rattle.lisa_reader.specs.Answers.{IsBroken}
use Rattle.verilog_text.specs.declared.faults.VerilogFault.{VerilogFault}
use Rattle.verilog_text.specs.Faults.{VFault}
use Rattle.lisa_outcomes.specs.declared.status.Refusal.{Refusal}
use Rattle.lisa_outcomes.specs.declared.status.Refusal.TheVariants as refusals
use Rattle.lisa_outcomes.specs.Outcomes.{Outcome, Refusing}
use Rattle.verdict_promises.specs.Firsts.{IsFirstFaultOf}

-- the outcome is such a refusal, and nothing is written before
abbrev pub IsRefusedSo : {F : Type 0} → (so : F → Refusal) → (IsFault : F → Type 0) → Outcome → Type 0
IsRefusedSo {F = F} so IsFault outcome = (f : F) × IsFault f × (outcome ≡ Refusing (so f) [])

-- so is refused exactly what has such a fault, and nothing is written before
pub record RefusesSo {F : Type 0} (so : F → Refusal) (IsFault : F → Type 0) (Gives : Outcome → Type 0) : Type 0 where
  pub exactly : (f : F) (text : List ℕ) → Gives (Refusing (so f) text) ↔ (IsFault f × (text ≡ []))
  -- and of what has one nothing else is given
  pub only : (f : F) (outcome : Outcome) → IsFault f → Gives outcome → IsRefusedSo so IsFault outcome

-- a description is refused exactly with these faults of its bytes
abbrev pub RefusesWith : (IsFault : DescFault → Type 0) → (Gives : Outcome → Type 0) → Type 0
RefusesWith IsFault Gives = RefusesSo (λ (f : DescFault). refusals.Description f) IsFault Gives

-- exactly with their first fault
abbrev pub RefusesFirsts : (description : List ℕ) → (Gives : Outcome → Type 0) → Type 0
RefusesFirsts description Gives = RefusesWith (IsFirstFaultOf description) Gives

-- exactly where they spell no description, with the fault of that
abbrev pub RefusesUnread : (description : List ℕ) → (Gives : Outcome → Type 0) → Type 0
RefusesUnread description Gives = RefusesWith (IsBroken description) Gives

-- a module is refused exactly with the first fault of its bytes
abbrev pub RefusesModules : (verilog : List ℕ) → (Gives : Outcome → Type 0) → Type 0
RefusesModules verilog Gives = RefusesSo (λ (f : VerilogFault). refusals.Verilog f) (VFault verilog) Gives
