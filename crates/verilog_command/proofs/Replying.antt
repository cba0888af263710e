-- What `verilog` replies.
use Rattle.std.proofs.Common.{◌≡◌, ◌≤◌, ◌∙◌, inl, inr, sym, ap, subst, arith, List, ℕ, [], Option, Result, Ok, Err, IsOk, OnOk}
use Rattle.lisa_io.proofs.Known.{appends_none}
use Rattle.step_program.specs.declared.faults.LowerFault.{LowerFault}
use Rattle.step_program.specs.declared.faults.LowerFault.TheVariants as faults
use Rattle.lisa_lower.specs.Heavy.{weight_limit, IsTooHeavy}
use Rattle.lisa_lower.specs.description_weight.Weights.{weight}
use Rattle.lisa_outcomes.specs.declared.status.End.{End}
use Rattle.lisa_outcomes.specs.declared.status.End.TheVariants as ends
use Rattle.lisa_outcomes.specs.declared.status.Refusal.{Refusal}
use Rattle.lisa_outcomes.specs.declared.status.Refusal.TheVariants as refusals
use Rattle.lisa_outcomes.specs.Outcomes.{Finished, Refusing}
use Rattle.lisa_outcomes.specs.Refusals.{IsRefusal}
use Rattle.lisa_outcomes.specs.Writes.{Writes}
use Rattle.lisa_outcomes.specs.Replies.{Replies}
use Rattle.lisa_outcomes.proofs.Stages.{memory_replies}
use Rattle.lisa_outcomes.proofs.Within.{nothing_within}
use Rattle.lisa_outcomes.proofs.Told.{err_is, not_ok}
use Rattle.lisa_outcomes.proofs.Refusals.{netlist_refusal}
use Rattle.checked_descriptions.specs.Checked.{Checked}
use Rattle.verilog_command.specs.Modules.{IsHeavy, IsLightText, IsHeavyEnd, WritesModule, written, refused}

ok_writes : {T : Type 0} (result : Result T End) (P : Type 0) → OnOk result P → IsOk result → P
ok_writes (Ok x) P p ok = p
ok_writes (Err e) P p ok = absurd (not_ok ok)

-- what is refused by its weight is no want of memory
heavy_is_refusal : (what : List ℕ) (count limit : ℕ) → IsRefusal (refusals.Netlist (faults.TooMany what count limit))
heavy_is_refusal what count limit = netlist_refusal (faults.TooMany what count limit) (λ e. cc)

module _ (c : Checked) where
  light_is_not_heavy : (refusal : Refusal) → weight c.tree ≤ weight_limit → IsHeavy c.tree refusal → ⊥
  light_is_not_heavy refusal light heavy = let more = heavy.1.heavy in omega (arith, light, more)

  no_refusal : (refusal : Refusal) (text : List ℕ) → weight c.tree ≤ weight_limit → WritesModule c (Refusing refusal text) → ⊥
  no_refusal refusal text light (refused heavy) = light_is_not_heavy refusal light heavy

  no_text : (refusal : Refusal) (text : List ℕ) → IsHeavy c.tree refusal → WritesModule c (Finished text) → ⊥
  no_text refusal text heavy (written light) = light_is_not_heavy refusal light.light heavy

  -- a module's text is written
  pub text_replies : {T : Type 0} (text : List ℕ) (before after : Option (List ℕ)) (old new : ℕ) (result : Result T End) → IsLightText c text → Writes before after old new result text
      → Replies (WritesModule c) before after old new result
  text_replies text before after old new result light writes = record {
    done = λ ok. (text, written light, ok_writes result _ writes.all ok);
    refused = λ refusal e. absurd (writes.refused refusal e);
    real = λ refusal e. absurd (writes.refused refusal e);
    read = writes.read;
    later = writes.later;
    write = writes.write;
    front = inr (Finished text, written light, writes.front);
    finished = λ other is refusal e. writes.refused refusal e;
    refusing = λ refusal other is ok. no_refusal refusal other light.light is;
  }

  same_refusal : (a b : Refusal) → ends.Refused a ≡ ends.Refused b → a ≡ b
  same_refusal a b e = cc

  real_of : (a b : Refusal) (fault : LowerFault) → ends.Refused a ≡ ends.Refused b → IsTooHeavy c.tree fault → a ≡ refusals.Netlist fault → IsRefusal b
  real_of a b fault e heavy is = subst IsRefusal (sym (ap refusals.Netlist heavy.is) ∙ sym is ∙ same_refusal a b e) (heavy_is_refusal _ _ _)

  -- nothing is written where the description is too heavy
  heavy_replies : {T : Type 0} (refusal : Refusal) (sink : Option (List ℕ)) (old : ℕ) → IsHeavy c.tree refusal → Replies {T = T} (WritesModule c) sink sink old old (Err (ends.Refused refusal))
  heavy_replies refusal sink old heavy = record {
    done = λ ok. absurd (not_ok ok);
    refused = λ other e. ([], subst (λ (r : Refusal). WritesModule c (Refusing r [])) (same_refusal refusal other (err_is _ _ e)) (refused heavy), appends_none sink);
    real = λ other e. real_of refusal other heavy.0 (err_is _ _ e) heavy.1 heavy.2;
    read = λ e. unread (err_is _ _ e);
    later = omega arith;
    write = λ e. absurd (unwritten (err_is _ _ e));
    front = nothing_within (WritesModule c) sink;
    finished = λ text gives other e. no_text refusal text heavy gives;
    refusing = λ other text gives ok. not_ok ok;
  }
    where
      unread : ends.Refused refusal ≡ ends.ReadFault → ⊥
      unread e = cc

      unwritten : ends.Refused refusal ≡ ends.WriteFault → ⊥
      unwritten e = cc

  -- nor where memory is wanted
  pub end_replies : {T : Type 0} (end : End) (sink : Option (List ℕ)) (old : ℕ) → IsHeavyEnd c end → Replies {T = T} (WritesModule c) sink sink old old (Err end)
  end_replies {T = T} end sink old (inl memory) = subst (λ (e : End). Replies {T = T} (WritesModule c) sink sink old old (Err e)) (sym memory) (memory_replies (WritesModule c) sink old)
  end_replies {T = T} end sink old (inr heavy) = subst (λ (e : End). Replies {T = T} (WritesModule c) sink sink old old (Err e)) (sym heavy.2) (heavy_replies heavy.0 sink old heavy.1)
