-- Forms at their places.
use Rattle.std.proofs.Common.{◌≡◌, ℕ, ◌<◌, ◌+◌, Bool, true, false, List, [], ◌∷◌, Option, None, Some, cond, length, get_or, option_map, slice_get, refl, sym, ap, ◌∙◌, arith}
use Rattle.std.specs.Prelude.{◌↔◌, not}
use Rattle.std.proofs.lemmas.List.{length-map, get_or_default}
use Rattle.std.proofs.lemmas.Option.{slice_get-map, get_or_from_slice_get}
use Rattle.lisa_tree.specs.Descriptions.{DescriptionTree}
use Rattle.lisa_tree.specs.Operations.{is_alias, name_at}
use Rattle.instruction_trees.specs.Trees as plain
use Rattle.instruction_trees.specs.Trees.{Done}
use Rattle.form_patterns.specs.coding_tables.Instructions.{forms_of}
use Rattle.pattern_tables.specs.Instructions.{form_at}
use Rattle.pattern_tables.specs.Patterns.{IsAlias}
use Rattle.form_patterns.specs.instruction_forms.declared.form.Form.{Form}
use Rattle.form_patterns.specs.instruction_forms.Trees.{FormTree, form_tree}
use Rattle.form_patterns.specs.instruction_forms.Described.{instruction_form, AreForms}
use Rattle.form_patterns.specs.instruction_forms.Naming.{form_text}
use Rattle.form_promises.specs.instruction_texts.Symbols.{is_instruction_text}
use Rattle.form_patterns.specs.Instructions.{instruction_plain}
use Rattle.form_promises.specs.form_texts.Instructions.{instruction_symbols, first_bad_from, first_bad_text}
use Rattle.lisa_forms.specs.Verdicts.{form_name_at}

pub as_many : (d : DescriptionTree) (all : List Form) → AreForms d all → length all ≡ length (forms_of d)
as_many d all e = sym (length-map all form_tree) ∙ (ap length e ∙ length-map (forms_of d) (instruction_form d))

some_one : {A : Type 0} (x y : A) → Some x ≡ Some y → x ≡ y
some_one x y e = cc

pub at_place : (d : DescriptionTree) (all : List Form) (k : ℕ) (f : Form) → AreForms d all → slice_get all k ≡ Some f → form_tree f ≡ instruction_form d (form_at (forms_of d) k)
at_place d all k f e g = by (slice_get (forms_of d) k) refl got
  where
    got : option_map (instruction_form d) (slice_get (forms_of d) k) ≡ Some (form_tree f)
    got = sym (slice_get-map (instruction_form d) (forms_of d) k) ∙ (ap (λ (xs : List FormTree). slice_get xs k) (sym e) ∙ (slice_get-map form_tree all k ∙ ap (option_map form_tree) g))

    by : (o : Option plain.Form) → slice_get (forms_of d) k ≡ o → option_map (instruction_form d) o ≡ Some (form_tree f) → form_tree f ≡ instruction_form d (form_at (forms_of d) k)
    by None z h = absurd (cc h)
    by (Some y) z h = sym (some_one (instruction_form d y) (form_tree f) h) ∙ ap (instruction_form d) (sym (get_or_from_slice_get (forms_of d) k y Done z))

pub named : (d : DescriptionTree) (all : List Form) (k : ℕ) (f : Form) → AreForms d all → slice_get all k ≡ Some f → form_text (name_at d) (form_tree f) ≡ form_name_at d k
named d all k f e g = ap (form_text (name_at d)) (at_place d all k f e g)

bad_within : (d : DescriptionTree) (k : ℕ) (fs : List plain.Form) (n : ℕ) → first_bad_from d k fs ≡ Some n → n < k + length fs
bad_within d k [] n e = absurd (cc e)
bad_within d k (f ∷ fs) n e = by (is_instruction_text (instruction_symbols d f)) (λ h. bad_within d (k + 1) fs n h) e
  where
    by : (b : Bool) → (first_bad_from d (k + 1) fs ≡ Some n → n < k + 1 + length fs) → cond b (first_bad_from d (k + 1) fs) (Some k) ≡ Some n → n < k + length (f ∷ fs)
    by true more h = let m : n < k + 1 + length fs = more h in omega arith
    by false more h = let same : k ≡ n = some_one k n h in omega arith

pub bad_is_one : (d : DescriptionTree) (all : List Form) (n : ℕ) → AreForms d all → first_bad_text d ≡ Some n → n < length all
bad_is_one d all n e h = let m : n < 0 + length (forms_of d) = bad_within d 0 (forms_of d) n h in let same : length all ≡ length (forms_of d) = as_many d all e in omega arith

pub as_many_plain : (d : DescriptionTree) (all : List Form) (flags : List Bool) → AreForms d all → flags ≡ instruction_plain d → length flags ≡ length all
as_many_plain d all flags e h = ap length h ∙ (length-map (forms_of d) (λ (f : plain.Form). plain.is_plain (is_alias d) f) ∙ sym (as_many d all e))

-- a form is an alias exactly where it isn't kept as a plain one
pub alias_is : (bs all : List Bool) (k : ℕ) (b : Bool) → bs ≡ all → k < length bs → b ≡ get_or bs k b → (not b ≡ true) ↔ IsAlias all k
alias_is bs all k b same inside is = by b (is ∙ get_or_default bs k b true inside ∙ ap (λ (cs : List Bool). get_or cs k true) same)
  where
    by : (x : Bool) → x ≡ get_or all k true → (not x ≡ true) ↔ (get_or all k true ≡ false)
    by true e = (λ h. absurd (cc h), λ h. absurd (cc (e ∙ h)))
    by false e = (λ h. sym e, λ h. refl)
