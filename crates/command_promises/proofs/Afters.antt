-- Commands that first look for something.
use Rattle.std.proofs.Common.{◌≡◌, ℕ, List, [], refl}
use Rattle.lisa_outcomes.specs.declared.status.Refusal.{Refusal}
use Rattle.lisa_outcomes.specs.Outcomes.{Outcome, Finished, Refusing, After, passed, stopped}

-- where a command finished, what it looks for was found
pub found_by : {A : Type 0} (Found : A → Type 0) (Wrong : Refusal → Type 0) (Then : A → Outcome → Type 0) (text : List ℕ) → After Found Wrong Then (Finished text) → (a : A) × Found a × Then a (Finished text)
found_by Found Wrong Then text (passed {a = a} here then) = (a, here, then)

-- where it refused, something was wrong, or it refused behind what it found
pub data Refuses {A : Type 0} (Found : A → Type 0) (Wrong : Refusal → Type 0) (Then : A → Outcome → Type 0) (refusal : Refusal) (text : List ℕ) : Type 0 where
  behind : (a : A) → Found a → Then a (Refusing refusal text) → Refuses Found Wrong Then refusal text
  here : Wrong refusal → text ≡ [] → Refuses Found Wrong Then refusal text

pub refused_by : {A : Type 0} (Found : A → Type 0) (Wrong : Refusal → Type 0) (Then : A → Outcome → Type 0) (refusal : Refusal) (text : List ℕ)
    → After Found Wrong Then (Refusing refusal text) → Refuses Found Wrong Then refusal text
refused_by Found Wrong Then refusal text (passed {a = a} found then) = behind a found then
refused_by Found Wrong Then refusal text (stopped w) = here w refl
