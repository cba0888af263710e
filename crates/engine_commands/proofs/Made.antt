-- Making an engine as a step of a command.
use Rattle.std.proofs.Common.{◌≡◌, ◌∙◌, sym, refl, subst, List, [], ℕ, Option, Some, None, Result, Ok, Err, IfOk, OnOk}
use Rattle.lisa_engine.specs.Memory.{Memory}
use Rattle.lisa_engine.specs.Images.{missing_memory}
use Rattle.lisa_engine.specs.State.{State}
use Rattle.lisa_engine.specs.declared.image.MakeFault.{MakeFault}
use Rattle.lisa_engine.specs.declared.image.MakeFault.TheVariants as makes
use Rattle.lisa_object.specs.declared.faults.ImageFault.TheVariants as images
use Rattle.lisa_outcomes.specs.declared.status.Refusal.TheVariants as refusals
use Rattle.lisa_outcomes.specs.Stages.{Finds}
use Rattle.lisa_outcomes.proofs.Finding.{found_ok, found_memory, found_refused}
use Rattle.lisa_outcomes.proofs.Refusals.{image_refusal}
use Rattle.lisa_outcomes.proofs.Told.{none_is_no_some}
use Rattle.engine_commands.specs.Images.{IsMissing}
use Rattle.lisa_engine.specs.Machines.{Machine}
use Rattle.engine_commands.specs.Making.{IsMade, IsCutMade, Makes}
use Rattle.engine_commands.specs.Tasks.{IsCutUnder, IsSmall}
use Rattle.engine_commands.specs.declared.tasks.Task.{Task}
use Rattle.engine_commands.specs.Unread.{unmade_end}

pub made_finds : {E : Type 0} (view : E → Machine) (wanted : Machine) (memories : List Memory) (e : E) → Makes view wanted memories (Ok e)
    → Finds view (IsMade wanted memories) (IsMissing wanted.arrays memories) (Ok e)
made_finds view wanted memories e makes = found_ok view (IsMade wanted memories) (IsMissing wanted.arrays memories) e (makes.found, makes.is)
    (λ m is. makes.is ∙ sym is.1) (λ refusal wrong. none_is_no_some _ (sym makes.found ∙ wrong.1))

pub unmade_finds : {E : Type 0} (view : E → Machine) (wanted : Machine) (memories : List Memory) (fault : MakeFault) → Makes view wanted memories (Err fault)
    → Finds view (IsMade wanted memories) (IsMissing wanted.arrays memories) (Err (unmade_end fault))
unmade_finds view wanted memories (makes.NoSuchMemory name) made = found_refused view (IsMade wanted memories) (IsMissing wanted.arrays memories) (refusals.Image (images.NoSuchMemory name))
    (image_refusal (images.NoSuchMemory name) (λ e. cc)) (name, made.missing name refl, refl) (λ m is. none_is_no_some _ (sym is.0 ∙ made.missing name refl))
unmade_finds view wanted memories makes.NoMemory made = found_memory view (IsMade wanted memories) (IsMissing wanted.arrays memories)

-- a task over the engine that was made is one over the machine that is wanted
pub cut_wanted : {E : Type 0} (task : Task) (view : E → Machine) (wanted : Machine) (memories : List Memory) (e : E) (third : List ℕ) (left rest before after : Option (List ℕ)) → Makes view wanted memories (Ok e)
    → IsCutUnder task (view e) third left rest before after → IsCutMade task wanted memories third left rest before after
cut_wanted task view wanted memories e third left rest before after makes cut = record {
  found = makes.found;
  cut = subst (λ (m : Machine). IsCutUnder task m third left rest before after) makes.is cut;
}

-- ---- from what making an engine answers

pub is_made : {E : Type 0} (view : E → Machine) (wanted : Machine) (memories : List Memory) (made : Result E MakeFault) → IfOk made (λ e. view e ≡ wanted)
    → OnOk made (missing_memory wanted.arrays memories ≡ None) → ((name : List ℕ) → made ≡ Err (makes.NoSuchMemory name) → missing_memory wanted.arrays memories ≡ Some name)
    → Makes view wanted memories made
is_made view wanted memories made is found missing = record { is = is; found = found; missing = missing }

-- what holds of an engine leads to what else holds of it
pub made_so : {E : Type 0} (P Q : E → Type 0) (made : Result E MakeFault) → ((e : E) → P e → Q e) → IfOk made P → IfOk made Q
made_so P Q (Ok e) to p = to e p
made_so P Q (Err fault) to p = tt

-- an engine stands at its first state
pub made_first : {E : Type 0} (present : E → State) (view : E → Machine) (wanted : Machine) (made : Result E MakeFault)
    → IfOk made (λ e. present e ≡ wanted.defined []) → IfOk made (λ e. view e ≡ wanted) → IfOk made (λ e. present e ≡ (view e).defined [])
made_first present view wanted (Ok e) first is = first ∙ sym (λ i. (is i).defined [])
made_first present view wanted (Err fault) first is = tt

-- it is as small as the machine that is wanted
pub made_small : {E : Type 0} (view : E → Machine) (wanted : Machine) (made : Result E MakeFault) → IfOk made (λ e. view e ≡ wanted) → IsSmall wanted → IfOk made (λ e. IsSmall (view e))
made_small view wanted (Ok e) is small = subst IsSmall (sym is) small
made_small view wanted (Err fault) is small = tt
