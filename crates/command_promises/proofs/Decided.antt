-- What is told by a result or by a look-up is found or refused.
use Rattle.std.proofs.Common.{◌≡◌, ◌∙◌, ◌⊎◌, ℕ, List, Option, None, Some, Result, Ok, Err, refl, sym, ap, subst, inl, inr}
use Rattle.lisa_engine.specs.Memory.{Memory}
use Rattle.lisa_engine.specs.Images.{missing_memory}
use Rattle.lisa_engine.specs.Schedules.{schedule_of}
use Rattle.lisa_engine.specs.declared.parts.Item.{Item}
use Rattle.asm_source.specs.Source.{source_of}
use Rattle.lisa_tree.specs.Descriptions.{DescriptionTree}
use Rattle.lisa_object.specs.Objects.{PlainObject}
use Rattle.lisa_object.specs.declared.faults.ImageFault.TheVariants as images
use Rattle.lisa_object.specs.declared.faults.ObjectFault.TheVariants as objects
use Rattle.lisa_object.specs.declared.faults.LinkFault.{LinkFault}
use Rattle.placed_programs.specs.Placed.{object_sense, placed_image}
use Rattle.object_links.specs.LineNames.{parts_of}
use Rattle.object_links.specs.LinkFaults.{link_fault}
use Rattle.generator_commands.specs.lisa_assembler.Memories.{memory_items}
use Rattle.verilog_text.specs.declared.faults.VerilogFault.{VerilogFault}
use Rattle.verilog_text.specs.declared.faults.VerilogFault.TheVariants as faults
use Rattle.vcd_trace.specs.declared.faults.VcdFault.TheVariants as vcds
use Rattle.verilog_text.specs.Trees.{ModuleTree}
use Rattle.verilog_text.specs.Faults.{VAccepts}
use Rattle.verilog_reader.specs.Answers.{IsSameFault, HasOutcome, accepts, refuses}
use Rattle.verilog_reader.proofs.TextLaws.{one_spelled, accepted_unbroken, one_fault}
use Rattle.verilog_reader.proofs.OutcomeLaws.{has_outcome}
use Rattle.lisa_outcomes.specs.declared.status.Refusal.{Refusal}
use Rattle.lisa_outcomes.specs.declared.status.Refusal.TheVariants as refusals
use Rattle.engine_commands.specs.Images.{IsMissing}
use Rattle.lisa_engine.specs.Machines.{Machine}
use Rattle.engine_commands.specs.Schedules.{IsSchedule, IsNoSchedule}
use Rattle.engine_commands.specs.Making.{IsMade}
use Rattle.module_commands.specs.Designs.{IsUnreadModule}
use Rattle.generator_commands.specs.assembler_commands.Assembled.{IsSource, IsNoSource}
use Rattle.generator_commands.specs.assembler_commands.Links.{IsLinked, IsUnlinked}
use Rattle.verdict_promises.proofs.Same.{same}
use Rattle.command_promises.specs.Decided.{IsSameRefusal, IsDecided}

-- ---- the same refusal

own_fault : (f : VerilogFault) → IsSameFault f f
own_fault (faults.NotInSubset at) = tt
own_fault _ = refl

own : (r : Refusal) → IsSameRefusal r r
own (refusals.Description f) = same f f refl
own (refusals.Verilog f) = own_fault f
own (refusals.Image (images.NotAnImage line)) = tt
own (refusals.Object (objects.NotAnObject number line)) = refl
own (refusals.Vcd (vcds.BadToken at)) = tt
own _ = refl

pub alike : (r s : Refusal) → r ≡ s → IsSameRefusal r s
alike r s e = subst (IsSameRefusal r) e (own r)

-- by what two refusals are
pub alike_by : (r s p q : Refusal) → r ≡ p → s ≡ q → IsSameRefusal p q → IsSameRefusal r s
alike_by r s p q e f h = subst (λ (x : Refusal). IsSameRefusal x s) (sym e) (subst (IsSameRefusal p) (sym f) h)

-- ---- results

same_value : {A F : Type 0} (r : Result A F) (a b : A) → r ≡ Ok a → r ≡ Ok b → a ≡ b
same_value {A = A} {F = F} r a b e f = let g : ◌≡◌ {A = Result A F} (Ok a) (Ok b) = sym e ∙ f in cc g

same_error : {A F : Type 0} (r : Result A F) (f g : F) → r ≡ Err f → r ≡ Err g → f ≡ g
same_error {A = A} {F = F} r f g e h = let k : ◌≡◌ {A = Result A F} (Err f) (Err g) = sym e ∙ h in cc k

not_both : {A F : Type 0} (r : Result A F) (a : A) (f : F) → r ≡ Ok a → r ≡ Err f → ⊥
not_both {A = A} {F = F} r a f e h = let k : ◌≡◌ {A = Result A F} (Ok a) (Err f) = sym e ∙ h in cc k

-- an error, as a refusal
abbrev IsError : {A F : Type 0} → Result A F → (F → Refusal) → Refusal → Type 0
IsError {F = F} answer refused r = (f : F) × (answer ≡ Err f) × (r ≡ refused f)

module _ {A F : Type 0} (answer : Result A F) (refused : F → Refusal) (Found : A → Type 0) (Wrong : Refusal → Type 0)
    (value : (a : A) → Found a → answer ≡ Ok a) (found : (a : A) → answer ≡ Ok a → Found a)
    (error : (r : Refusal) → Wrong r → IsError answer refused r) (wrong : (r : Refusal) → IsError answer refused r → Wrong r) where
  by_answer : (r : Result A F) → answer ≡ r → ((a : A) × Found a) ⊎ ((r : Refusal) × Wrong r)
  by_answer (Ok a) e = inl (a, found a e)
  by_answer (Err f) e = inr (refused f, wrong (refused f) (f, e, refl))

  first_error : (r s : Refusal) → IsError answer refused r → IsError answer refused s → IsSameRefusal r s
  first_error r s x y = alike r s (x.2 ∙ ap refused (same_error answer x.0 y.0 x.1 y.1) ∙ sym y.2)

  pub by_result : IsDecided Found Wrong
  by_result = record {
    some = by_answer answer refl;
    single = record {
      one = λ a b x y. same_value answer a b (value a x) (value b y);
      first = λ r s x y. first_error r s (error r x) (error s y);
      whole = λ a r x y. (let e = error r y in not_both answer a e.0 (value a x) e.1);
    };
  }

pub sources_decided : (bytes : List ℕ) → IsDecided (IsSource bytes) (IsNoSource bytes)
sources_decided bytes = by_result (source_of bytes) refusals.Source (IsSource bytes) (IsNoSource bytes) (λ a x. x) (λ a x. x) (λ r x. x) (λ r x. x)

pub schedules_decided : (pins : List Item) (bytes : List ℕ) → IsDecided (IsSchedule pins bytes) (IsNoSchedule pins bytes)
schedules_decided pins bytes = by_result (schedule_of pins bytes) refusals.Schedule (IsSchedule pins bytes) (IsNoSchedule pins bytes) (λ a x. x) (λ a x. x) (λ r x. x) (λ r x. x)

-- ---- look-ups that find a fault

same_fault : {F : Type 0} (x : Option F) (f g : F) → x ≡ Some f → x ≡ Some g → f ≡ g
same_fault {F = F} x f g e h = let k : ◌≡◌ {A = Option F} (Some f) (Some g) = sym e ∙ h in cc k

none_and_some : {F : Type 0} (x : Option F) (f : F) → x ≡ None → x ≡ Some f → ⊥
none_and_some {F = F} x f e h = let k : ◌≡◌ {A = Option F} None (Some f) = sym e ∙ h in cc k

pub memories_decided : (wanted : Machine) (memories : List Memory) → IsDecided (IsMade wanted memories) (IsMissing wanted.arrays memories)
memories_decided wanted memories = record {
  some = by_memory (missing_memory wanted.arrays memories) refl;
  single = record {
    one = λ a b x y. x.1 ∙ sym y.1;
    first = λ r s x y. alike r s (x.2 ∙ ap (λ (name : List ℕ). refusals.Image (images.NoSuchMemory name)) (same_fault (missing_memory wanted.arrays memories) x.0 y.0 x.1 y.1) ∙ sym y.2);
    whole = λ a r x y. none_and_some (missing_memory wanted.arrays memories) y.0 x.0 y.1;
  };
}
  where
    by_memory : (x : Option (List ℕ)) → missing_memory wanted.arrays memories ≡ x → ((machine : Machine) × IsMade wanted memories machine) ⊎ ((r : Refusal) × IsMissing wanted.arrays memories r)
    by_memory None e = inl (wanted, (e, refl))
    by_memory (Some name) e = inr (refusals.Image (images.NoSuchMemory name), (name, e, refl))

pub links_decided : (d : DescriptionTree) (all : List PlainObject) → IsDecided (IsLinked d all) (IsUnlinked d all)
links_decided d all = record {
  some = by_link (link_fault (memory_items d) (parts_of all)) refl;
  single = record {
    one = λ a b x y. x.is ∙ sym y.is;
    first = λ r s x y. alike r s (x.2 ∙ ap refusals.Link (same_fault (link_fault (memory_items d) (parts_of all)) x.0 y.0 x.1 y.1) ∙ sym y.2);
    whole = λ a r x y. none_and_some (link_fault (memory_items d) (parts_of all)) y.0 x.whole y.1;
  };
}
  where
    by_link : (x : Option LinkFault) → link_fault (memory_items d) (parts_of all) ≡ x → ((image : List Memory) × IsLinked d all image) ⊎ ((r : Refusal) × IsUnlinked d all r)
    by_link None e = inl (placed_image object_sense (memory_items d) (parts_of all), record { whole = e; is = refl })
    by_link (Some f) e = inr (refusals.Link f, (f, e, refl))

-- ---- modules

pub modules_decided : (bytes : List ℕ) → IsDecided (VAccepts bytes) (IsUnreadModule bytes)
modules_decided bytes = record {
  some = by (has_outcome bytes);
  single = record {
    one = λ a b x y. one_spelled bytes a b x.spelling y.spelling;
    first = λ r s x y. alike_by r s (refusals.Verilog x.0) (refusals.Verilog y.0) x.2 y.2 (one_fault bytes x.0 y.0 x.1 y.1);
    whole = λ a r x y. accepted_unbroken bytes a y.0 x y.1;
  };
}
  where
    by : HasOutcome bytes → ((m : ModuleTree) × VAccepts bytes m) ⊎ ((r : Refusal) × IsUnreadModule bytes r)
    by (accepts m x) = inl (m, x)
    by (refuses fault x) = inr (refusals.Verilog fault, (fault, x, refl))
