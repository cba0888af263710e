-- A step of a command that looks for something, and what may come of it.
use Rattle.std.specs.Prelude.{◌≡◌, ◌≢◌, Result, Err, IsOk, IfOk, MatchResult}
use Rattle.lisa_outcomes.specs.declared.status.End.{End}
use Rattle.lisa_outcomes.specs.declared.status.End.TheVariants as ends
use Rattle.lisa_outcomes.specs.declared.status.Refusal.{Refusal}
use Rattle.lisa_outcomes.specs.Refusals.{IsRefusal}

-- it is found, and it alone, or something is wrong, or memory was wanted
pub record Finds {X A : Type 0} (view : X → A) (Found : A → Type 0) (Wrong : Refusal → Type 0) (result : Result X End) : Type 0 where
  pub found : IfOk result (λ x. Found (view x))
  pub only : (a : A) → Found a → MatchResult result (λ x. view x ≡ a) (λ e. e ≡ ends.NoMemory)
  pub wrong : (refusal : Refusal) → result ≡ Err (ends.Refused refusal) → Wrong refusal
  pub real : (refusal : Refusal) → result ≡ Err (ends.Refused refusal) → IsRefusal refusal
  pub none : (refusal : Refusal) → Wrong refusal → IsOk result → ⊥
  pub read : result ≢ Err ends.ReadFault
  pub write : result ≢ Err ends.WriteFault
