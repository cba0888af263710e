-- What a command looks for is found, or there is a refusal.
use Rattle.std.specs.Prelude.{◌≡◌, ◌⊎◌}
use Rattle.lisa_object.specs.declared.faults.ImageFault.TheVariants as images
use Rattle.lisa_object.specs.declared.faults.ObjectFault.TheVariants as objects
use Rattle.vcd_trace.specs.declared.faults.VcdFault.TheVariants as vcds
use Rattle.verilog_reader.specs.Answers.{IsSameFault}
use Rattle.lisa_outcomes.specs.declared.status.Refusal.{Refusal}
use Rattle.lisa_outcomes.specs.declared.status.Refusal.TheVariants as refusals
use Rattle.verdict_promises.specs.Firsts.{IsSameFirst}

-- the same refusal, apart from a place or line that is only bounded, and from the text that two forms share
abbrev pub IsSameRefusal : Refusal → Refusal → Type 0
IsSameRefusal (refusals.Description f) (refusals.Description g) = IsSameFirst f g
IsSameRefusal (refusals.Verilog f) (refusals.Verilog g) = IsSameFault f g
IsSameRefusal (refusals.Image (images.NotAnImage line)) (refusals.Image (images.NotAnImage other)) = Unit {0}
IsSameRefusal (refusals.Object (objects.NotAnObject number line)) (refusals.Object (objects.NotAnObject count other)) = number ≡ count
IsSameRefusal (refusals.Vcd (vcds.BadToken at)) (refusals.Vcd (vcds.BadToken other)) = Unit {0}
IsSameRefusal r s = r ≡ s

-- one thing is found at most, one refusal stands at most, and never both
pub record IsSingle {A : Type 0} (Found : A → Type 0) (Wrong : Refusal → Type 0) : Type 0 where
  pub one : (a b : A) → Found a → Found b → a ≡ b
  pub first : (r s : Refusal) → Wrong r → Wrong s → IsSameRefusal r s
  pub whole : (a : A) (r : Refusal) → Found a → Wrong r → ⊥

-- and always one of them
pub record IsDecided {A : Type 0} (Found : A → Type 0) (Wrong : Refusal → Type 0) : Type 0 where
  pub some : ((a : A) × Found a) ⊎ ((refusal : Refusal) × Wrong refusal)
  pub single : IsSingle Found Wrong
