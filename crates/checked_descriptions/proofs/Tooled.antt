-- From what making a description's tools answers to what a command finds.
use Rattle.std.proofs.Common.{◌≡◌, ◌∙◌, sym, ap, refl, subst, length, Result, Ok, Err, IfErr, ◌⊎◌, inl, inr, ⊎_elim}
use Rattle.std.proofs.lemmas.List.{length-map}
use Rattle.lisa_tree.specs.declared.faults.DescFault.{DescFault}
use Rattle.lisa_tree.specs.declared.faults.DescFault.TheVariants as faults
use Rattle.lisa_tree.specs.Descriptions.{DescriptionTree, description_tree}
use Rattle.lisa_syntax.specs.activation_trees.Unfolding.{occurrences}
use Rattle.lisa_syntax.specs.coding_tables.Instructions.{forms_of, form_count}
use Rattle.lisa_syntax.specs.description_sizes.Sizes.{items}
use Rattle.lisa_syntax.specs.instruction_forms.Described.{instruction_form}
use Rattle.lisa_syntax.specs.instruction_forms.Trees.{form_tree}
use Rattle.lisa_syntax.specs.lisa_forms.declared.forms.Forms.{Forms}
use Rattle.lisa_syntax.specs.lisa_forms.Parts.{AreFormsOf}
use Rattle.std.specs.Result.{IsErrAnd}
use Rattle.lisa_syntax.specs.lisa_machine.Verdicts.{IsAccepted, IsFirstFault}
use Rattle.lisa_syntax.proofs.lisa_machine_proofs.Verdicts.{no_fault_in_accepted}
use Rattle.lisa_outcomes.specs.declared.status.End.{End}
use Rattle.lisa_outcomes.specs.declared.status.End.TheVariants as ends
use Rattle.lisa_outcomes.specs.declared.status.Refusal.TheVariants as refusals
use Rattle.lisa_outcomes.specs.Stages.{Finds}
use Rattle.lisa_outcomes.proofs.Finding.{found_ok, found_memory, found_refused}
use Rattle.lisa_outcomes.proofs.Refusals.{description_refusal}
use Rattle.checked_descriptions.specs.declared.tools.Tools.{Tools}
use Rattle.checked_descriptions.specs.Checked.{Checked, IsChecked, IsFaulty}
use Rattle.checked_descriptions.specs.Conditions.{IsFirstOfAll}
use Rattle.checked_descriptions.specs.Instructions.{IsFirstInstructionFault}
use Rattle.checked_descriptions.specs.ToolViews.{checked_of, AreTools}
use Rattle.checked_descriptions.specs.Unread.{unread_end}
use Rattle.checked_descriptions.proofs.Faulty.{memory_is_no_refusal, unread_is}
use Rattle.checked_descriptions.proofs.FormVerdicts.{one_width}
use Rattle.checked_descriptions.proofs.InstructionVerdicts.{OrWanted, no_fault_in_instructions}
use Rattle.checked_descriptions.proofs.Listed.{sound_parts, parts_sound, first_parts, parts_first}

-- ---- a description is checked, or has a first fault, not both

pub no_fault_in_checked : (d : DescriptionTree) (f : DescFault) (c : Checked) → IsChecked d c → IsFirstOfAll d f → ⊥
no_fault_in_checked d f c is broken =
    let parts = sound_parts d is.sound in
    ⊎_elim (λ h. no_fault_in_accepted d f parts.0 h) (λ h. no_fault_in_instructions d f parts.1 h.1) (first_parts d f broken)

same_checked : (a b : Checked) → a.tree ≡ b.tree → a.width ≡ b.width → a ≡ b
same_checked a b tree width = λ i. record { tree = tree i; width = width i }

pub one_checked : (d : DescriptionTree) (a b : Checked) → IsChecked d a → IsChecked d b → a ≡ b
one_checked d a b x y = same_checked a b (x.tree ∙ sym y.tree) (one_width d a.width b.width x.width y.width)

-- ---- its tools

checked_tools : (d : DescriptionTree) (t : Tools) → description_tree t.machine ≡ d → AreTools t → IsChecked d (checked_of t)
checked_tools d t same are = subst (λ (x : DescriptionTree). IsChecked x (checked_of t)) same
    (record { tree = refl; sound = parts_sound (description_tree t.machine) (are.accepted, are.instructions); width = are.forms.has_width })

pub tools_find : (d : DescriptionTree) (t : Tools) → description_tree t.machine ≡ d → AreTools t → Finds {X = Tools} checked_of (IsChecked d) (IsFaulty d) (Ok t)
tools_find d t same are =
    let here = checked_tools d t same are in
    found_ok checked_of (IsChecked d) (IsFaulty d) t here (λ c is. one_checked d (checked_of t) c here is) (λ r wrong. no_fault_in_checked d wrong.0 (checked_of t) here wrong.1)

pub faulty_finds : (d : DescriptionTree) (f : DescFault) → ((f ≡ faults.NoMemory) ⊎ IsFirstOfAll d f) → Finds {X = Tools} checked_of (IsChecked d) (IsFaulty d) (Err (unread_end f))
faulty_finds d f broken = ⊎_elim
    (λ m. subst (λ (e : End). Finds {X = Tools} checked_of (IsChecked d) (IsFaulty d) (Err e)) (sym m) (found_memory checked_of (IsChecked d) (IsFaulty d)))
    (λ r. subst (λ (e : End). Finds {X = Tools} checked_of (IsChecked d) (IsFaulty d) (Err e)) (sym r)
    (⊎_elim (λ w. absurd (wanted w r)) (λ b. found_refused checked_of (IsChecked d) (IsFaulty d) (refusals.Description f) (description_refusal f (λ e. wanted e r)) (f, b, refl) (λ c is. no_fault_in_checked d f c is b)) broken))
    (unread_is f)
  where
    wanted : f ≡ faults.NoMemory → unread_end f ≡ ends.Refused (refusals.Description f) → ⊥
    wanted w r = memory_is_no_refusal _ (ap unread_end (sym w) ∙ r)

-- ---- making them

-- a fault that is passed on
pub told : {X : Type 0} {f : DescFault} (P : DescFault → Type 0) (result : Result X DescFault) → IsErrAnd result (λ e. e ≡ f) → P f → IfErr result P
told P (Ok x) same p = absurd same
told P (Err e) same p = subst P (sym same) p

pub checks_refused : (d : DescriptionTree) (f : DescFault) → OrWanted (IsFirstFault d f) f → OrWanted (IsFirstOfAll d f) f
checks_refused d f h = ⊎_elim (λ m. inl m) (λ b. inr (parts_first d f (inl b))) h

pub instructions_refused : (d e : DescriptionTree) (f : DescFault) → e ≡ d → IsAccepted d → OrWanted (IsFirstInstructionFault e f) f → OrWanted (IsFirstOfAll d f) f
instructions_refused d e f same accepted h =
    ⊎_elim (λ m. inl m) (λ b. inr (parts_first d f (inr (accepted, subst (λ (x : DescriptionTree). IsFirstInstructionFault x f) same b)))) h

-- ---- how much there is of it

pub form_number : (d : DescriptionTree) (f : Forms) → AreFormsOf d f → length f.forms.items ≡ form_count d
form_number d f are = sym (length-map f.forms.items form_tree) ∙ ap length are.all_forms ∙ length-map (forms_of d) (instruction_form d)

pub occurrence_number : (d : DescriptionTree) (f : Forms) → AreFormsOf d f → length f.occurrences.items ≡ length (occurrences d)
occurrence_number d f are = ap length are.all_occurrences

pub item_number : (d : DescriptionTree) (f : Forms) → AreFormsOf d f → length f.items.items ≡ length (items d f.width)
item_number d f are = ap length are.all_items
