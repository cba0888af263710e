-- Reading a dump as a step of a command.
use Rattle.std.proofs.Common.{◌≡◌, ◌∙◌, sym, ap, refl, List, ℕ, Ok, Err, ◌⊎◌, inl, inr, ⊎_elim}
use Rattle.vcd_trace.specs.Forms.{Form}
use Rattle.vcd_trace.specs.Meaning.{dump_of}
use Rattle.vcd_trace.specs.Written.{Dump}
use Rattle.vcd_trace.specs.VcdFaults.{Spells, HasFault, Answers, fault_of}
use Rattle.vcd_trace.specs.declared.faults.VcdFault.{VcdFault}
use Rattle.vcd_trace.specs.declared.faults.VcdFault.TheVariants as vcds
use Rattle.lisa_outcomes.specs.declared.status.End.TheVariants as ends
use Rattle.lisa_outcomes.specs.declared.status.Refusal.TheVariants as refusals
use Rattle.lisa_outcomes.specs.Stages.{Finds}
use Rattle.lisa_outcomes.proofs.Finding.{found_ok, found_memory, found_refused}
use Rattle.lisa_outcomes.proofs.Refusals.{vcd_refusal}
use Rattle.lisa_outcomes.proofs.Told.{none_is_no_some, some_is}
use Rattle.engine_commands.specs.Replays.{IsFormless, IsNoDump}
use Rattle.engine_commands.specs.Unread.{unread_dump}

-- bytes that spell a dump spell it alone
one_dump : (bytes : List ℕ) (a b : Dump) → Spells bytes a → Spells bytes b → a ≡ b
one_dump bytes a b x y = x.3 ∙ ap dump_of (some_is (sym x.1 ∙ y.1)) ∙ sym y.3

-- and they have no fault
no_fault : (bytes : List ℕ) (a : Dump) (fault : VcdFault) → Spells bytes a → IsFormless bytes fault ⊎ HasFault bytes fault → ⊥
no_fault bytes a fault x broken = ⊎_elim
    (λ formless. none_is_no_some x.0 (sym formless.0 ∙ x.1))
    (λ has. let same : has.0 ≡ x.0 = some_is (sym has.1 ∙ x.1) in
    none_is_no_some fault (sym x.2 ∙ ap (λ (form : Form). fault_of form.variables form.events) (sym same) ∙ has.2))
    broken

pub dumped : (bytes : List ℕ) (dump : Dump) → Spells bytes dump → Finds (λ (d : Dump). d) (Spells bytes) (IsNoDump bytes) (Ok dump)
dumped bytes dump spells = found_ok (λ (d : Dump). d) (Spells bytes) (IsNoDump bytes) dump spells
    (λ other is. one_dump bytes dump other spells is) (λ refusal wrong. no_fault bytes dump wrong.0 spells wrong.1)

-- the bytes have this fault
refused : (bytes : List ℕ) (fault : VcdFault) → (fault ≡ vcds.NoMemory → ⊥) → IsFormless bytes fault ⊎ HasFault bytes fault
    → Finds {X = Dump} (λ (d : Dump). d) (Spells bytes) (IsNoDump bytes) (Err (ends.Refused (refusals.Vcd fault)))
refused bytes fault other broken = found_refused (λ (d : Dump). d) (Spells bytes) (IsNoDump bytes) (refusals.Vcd fault)
    (vcd_refusal fault other) (fault, broken, refl) (λ dump spells. no_fault bytes dump fault spells broken)

pub undumped : (bytes : List ℕ) (fault : VcdFault) → Answers bytes (Err fault) → Finds {X = Dump} (λ (d : Dump). d) (Spells bytes) (IsNoDump bytes) (Err (unread_dump fault))
undumped bytes (vcds.BadToken at) answers = refused bytes (vcds.BadToken at) (λ e. cc) (inl (answers.1, (at, answers.0, refl)))
undumped bytes (vcds.UnknownCode at) answers = refused bytes (vcds.UnknownCode at) (λ e. cc) (inr answers)
undumped bytes (vcds.BadWidth name width) answers = refused bytes (vcds.BadWidth name width) (λ e. cc) (inr answers)
undumped bytes (vcds.NotRising at) answers = refused bytes (vcds.NotRising at) (λ e. cc) (inr answers)
undumped bytes (vcds.ValueWidth at) answers = refused bytes (vcds.ValueWidth at) (λ e. cc) (inr answers)
undumped bytes (vcds.NoFirst name) answers = refused bytes (vcds.NoFirst name) (λ e. cc) (inr answers)
undumped bytes (vcds.TooMany what count limit) answers = refused bytes (vcds.TooMany what count limit) (λ e. cc) (inr answers)
undumped bytes vcds.NoMemory answers = found_memory (λ (d : Dump). d) (Spells bytes) (IsNoDump bytes)
