-- Reading a module as a step of a command.
use Rattle.std.proofs.Common.{◌≡◌, ◌∙◌, sym, ap, refl, subst, List, ℕ, Err, ◌⊎◌, inl, inr, ⊎_elim}
use Rattle.verilog_text.specs.Trees.{ModuleTree, module_tree}
use Rattle.verilog_text.specs.Faults.{VAccepts, VFault}
use Rattle.verilog_text.specs.declared.modules.Module.{Module}
use Rattle.verilog_text.specs.declared.faults.VerilogFault.{VerilogFault}
use Rattle.verilog_text.specs.declared.faults.VerilogFault.TheVariants as faults
use Rattle.lisa_outcomes.specs.declared.status.End.{End}
use Rattle.lisa_outcomes.specs.declared.status.End.TheVariants as ends
use Rattle.lisa_outcomes.specs.declared.status.Refusal.{Refusal}
use Rattle.lisa_outcomes.specs.declared.status.Refusal.TheVariants as refusals
use Rattle.lisa_outcomes.specs.Stages.{Finds}
use Rattle.lisa_outcomes.proofs.Finding.{found_memory, found_refused}
use Rattle.lisa_outcomes.proofs.Refusals.{verilog_refusal}
use Rattle.verilog_reader.specs.Answers.{IsFault}
use Rattle.module_commands.specs.Designs.{IsUnreadModule}
use Rattle.module_commands.specs.Unread.{unread_end}

memory_is_no_refusal : (r : Refusal) → ends.NoMemory ≡ ends.Refused r → ⊥
memory_is_no_refusal r e = cc

-- the end is want of memory, or the fault is the refusal
unread_is : (bytes : List ℕ) (f : VerilogFault) → IsFault bytes f → (unread_end f ≡ ends.NoMemory) ⊎ ((unread_end f ≡ ends.Refused (refusals.Verilog f)) × VFault bytes f)
unread_is bytes faults.NoMemory broken = inl refl
unread_is bytes _ broken = inr (refl, broken)

pub unread_module : (bytes : List ℕ) (f : VerilogFault) → IsFault bytes f → ((m : ModuleTree) → VAccepts bytes m → f ≡ faults.NoMemory)
    → Finds {X = Module} module_tree (VAccepts bytes) (IsUnreadModule bytes) (Err (unread_end f))
unread_module bytes f broken only = ⊎_elim
    (λ m. subst (λ (e : End). Finds {X = Module} module_tree (VAccepts bytes) (IsUnreadModule bytes) (Err e)) (sym m) (found_memory module_tree (VAccepts bytes) (IsUnreadModule bytes)))
    (λ r. subst (λ (e : End). Finds {X = Module} module_tree (VAccepts bytes) (IsUnreadModule bytes) (Err e)) (sym r.0)
    (found_refused module_tree (VAccepts bytes) (IsUnreadModule bytes) (refusals.Verilog f) (verilog_refusal f (λ e. memory_is_no_refusal _ (ap unread_end (sym e) ∙ r.0))) (f, r.1, refl) (λ m here. memory_is_no_refusal _ (ap unread_end (sym (only m here)) ∙ r.0))))
    (unread_is bytes f broken)
