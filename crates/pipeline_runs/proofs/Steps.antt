-- One item after another.
use Rattle.std.proofs.Common.{◌≡◌, ◌≢◌, ℕ, zero, suc, ◌<◌, Bool, true, false, cond, ◌&&◌, ◌||◌, Option, Some, sym, ap, ap₂, ◌∙◌, subst, arith, nat_eq}
use Rattle.pipeline_time.specs.Acts.{Acts, Act}
use Rattle.pipeline_time.specs.Cores.{Core, above_of}
use Rattle.pipeline_time.specs.Running.{Running, word_below, behavior, activate, run}
use Rattle.lisa_activation.specs.declared.kept.Queues.{Queues}
use Rattle.lisa_activation.specs.Queued.{above, count, first, is_due, IsEntered}
use Rattle.lisa_activation.specs.Shown.{Hold, AreQueuesOf}
use Rattle.lisa_activation.proofs.Agree.{enter_agrees}
use Rattle.pipeline_time.proofs.Steps.{other_level}
use Rattle.pipeline_runs.specs.Runs.{Represents}

pub due_entered : (before after : Queues) (occurrence : ℕ) → IsEntered before after occurrence → nat_eq (above before occurrence) 0 ≡ false → (stage number : ℕ) → is_due after stage number ≡ is_due before stage number
due_entered before after occurrence is staged stage number =
    ap₂ (λ a b. a && b) (is.tables.run stage number)
    (ap₂ (λ a b. a || (nat_eq stage 0 && b)) (is.stand stage number) (is.more_first number ∙ unset (first before number) (nat_eq (above before occurrence) 0) (nat_eq number occurrence) staged))
  where
    unset : (a b c : Bool) → b ≡ false → (a || (b && c)) ≡ a
    unset a b c e = grind arith

module _ {R M : Type 0} (core : Core R M) where
  activated : (after : Queues) (moment : M) (slot : Option ℕ) (bits : ℕ → ℕ → Bool) (now : Running M) (here number own : ℕ) → moment ≡ now.moment → slot ≡ now.slot → Hold after bits (activate core here number own now).made (activate core here number own now).first → Represents moment after slot bits (activate core here number own now)
  unfolding activate
  activated after moment slot bits now zero number own e f holds = record { moment_is = e; holds = holds; slot_is = f }
  activated after moment slot bits now (suc s) number own e f holds = record { moment_is = e; holds = holds; slot_is = f }

  pub recorded : (before after : Queues) (moment : M) (slot : Option ℕ) (bits : ℕ → ℕ → Bool) (now : Running M) (here number own : ℕ) → AreQueuesOf core before → number < count before → above_of core number ≡ here → IsEntered before after number → Represents moment before slot bits now → Represents moment after slot bits (activate core here number own now)
  recorded before after moment slot bits now here number own tables within at is seen =
      subst (λ l. Represents moment after slot bits (activate core l number own now)) at
      (activated after moment slot bits now (above_of core number) number own seen.moment_is seen.slot_is (enter_agrees core before after bits now number own tables within is seen.holds).1)

  pub behaved : (queues : Queues) (moment moment' : M) (slot slot' : Option ℕ) (bits : ℕ → ℕ → Bool) (now : Running M) (number word : ℕ) → moment' ≡ core.behave number word moment → slot' ≡ cond (core.is_root number && core.decodes word) (Some word) slot → Represents moment queues slot bits now → Represents moment' queues slot' bits (behavior core number word now)
  unfolding behavior
  behaved queues moment moment' slot slot' bits now number word e f seen = record {
    moment_is = e ∙ ap (core.behave number word) seen.moment_is;
    holds = seen.holds;
    slot_is = f ∙ ap (λ (s : Option ℕ). cond (core.is_root number && core.decodes word) (Some word) s) seen.slot_is;
  }

  pub runs_recorded : (moment : M) (queues : Queues) (slot : Option ℕ) (bits : ℕ → ℕ → Bool) (now : Running M) (here word number level : ℕ) (past : Bool) (own rest : Acts) → core.chooses number word ≡ true → level ≢ here → Represents moment queues slot bits (run core here word rest (activate core here number (word_below past word) now)) → Represents moment queues slot bits (run core here word (Act number level past own rest) now)
  runs_recorded moment queues slot bits now here word number level past own rest is other seen = subst (λ (m : Running M). Represents moment queues slot bits m) (sym (other_level core here word number level past own rest now is other)) seen
