-- The form by which a word is decoded, and its parts.
use Rattle.std.proofs.Common.{◌≡◌, ◌↔◌, ◌<◌, ◌∙◌, ℕ, Bool, true, false, List, Option, None, Some, length, map, sym, ap, subst, arith}
use Rattle.std.specs.Prelude.{slice_get, option_map, is_some, if◌then◌else◌}
use Rattle.std.specs.Option.{option_and_then, option_map_or}
use Rattle.std.specs.Borrow.{Bor}
use Rattle.lisa_meaning.specs.activation_trees.declared.parts.Occurrence.{Occurrence}
use Rattle.lisa_meaning.specs.activation_trees.Unfolding.{occurrences}
use Rattle.std.proofs.lemmas.List.{length-map}
use Rattle.std.proofs.lemmas.Option.{slice_get-map, slice_get_within, same_Some, slice_get-get_or}
use Rattle.lisa_tree.specs.Descriptions.{DescriptionTree}
use Rattle.lisa_meaning.specs.coding_tables.Instructions.{forms_of, form_count}
use Rattle.instruction_trees.specs.Trees as plain
use Rattle.lisa_meaning.specs.instruction_forms.declared.form.Form.{Form}
use Rattle.lisa_meaning.specs.instruction_forms.Trees.{FormTree, form_tree}
use Rattle.lisa_meaning.specs.instruction_forms.Described.{instruction_form, AreForms}
use Rattle.lisa_meaning.specs.lisa_forms.declared.forms.Forms.{Forms}
use Rattle.lisa_meaning.specs.lisa_forms.Parts.{AreFormsOf}
use Rattle.lisa_meaning.specs.lisa_forms.Choosing.{numbered_form, Stands, Chooses}
use Rattle.lisa_meaning.specs.Cores.{chooses}
use Rattle.lisa_meaning.specs.lisa_forms.declared.coding.Coding.{Coding}
use Rattle.lisa_meaning.specs.lisa_forms.Codings.{IsCodingOf, IsDecodedAs}
use Rattle.lisa_meaning.specs.Scenes.{form_with, instruction_with, occurrence_part}
use Rattle.lisa_meaning.specs.Standings.{standing}
use Rattle.lisa_meaning.proofs.Words.{decoded_once}
use Rattle.scene_paths.specs.Spans.{HasFields}
use Rattle.scene_paths.proofs.Wide.{form_fields, part_fields}
use Rattle.scene_paths.proofs.Standing.{part_is, choice_is}
use Rattle.lisa_meaning.specs.lisa_machine.Verdicts.{IsAccepted}

pub forms_counted : (d : DescriptionTree) (all : List Form) → AreForms d all → length all ≡ form_count d
forms_counted d all are = sym (length-map all form_tree) ∙ ap length are ∙ length-map (forms_of d) (instruction_form d)

-- a form of a number that is decoded is there
pub decoded_within : (d : DescriptionTree) (w : ℕ) (found : Option ℕ) → IsDecodedAs d w found → (k : ℕ) → found ≡ Some k → k < form_count d
decoded_within d w found decodes k is = let one = subst (IsDecodedAs d w) is decodes in one.within

pub decoded_form : (d : DescriptionTree) (c : Coding) (w : ℕ) (found : Option ℕ) → IsCodingOf d c → IsDecodedAs d w found → option_map (numbered_form d) found ≡ instruction_with d w
decoded_form d c w found is decodes = ap (option_map (numbered_form d)) (decoded_once d c w found is decodes)

-- the kept form of a number
pub kept_form : (d : DescriptionTree) (all : List Form) (k : ℕ) (f : Form) → AreForms d all → slice_get all k ≡ Some f → form_tree f ≡ numbered_form d k
kept_form d all k f are is =
    let low : k < length all = slice_get_within all k f is in
    let counted = forms_counted d all are in
    let inside : k < length (forms_of d) = omega (arith, low, counted) in
    let one : Some (form_tree f) ≡ slice_get (map (instruction_form d) (forms_of d)) k = sym (ap (option_map form_tree) is) ∙ sym (slice_get-map form_tree all k) ∙ ap (λ (ts : List FormTree). slice_get ts k) are in
    let other : slice_get (map (instruction_form d) (forms_of d)) k ≡ Some (numbered_form d k) =
    slice_get-map (instruction_form d) (forms_of d) k ∙ ap (option_map (instruction_form d)) (slice_get-get_or (forms_of d) k plain.Done inside) in
    same_Some (form_tree f) (numbered_form d k) (one ∙ other)

module _ (d : DescriptionTree) (accepted : IsAccepted d) (c : Coding) (is : IsCodingOf d c) (k : ℕ) (low : k < form_count d) where
  pub numbered_fields : HasFields (numbered_form d k)
  numbered_fields = form_fields d accepted c is k low

  pub found_fields : (occurrence : ℕ) (found : Option FormTree) (g : FormTree) → ((part : FormTree) → (found ≡ Some part) ↔ Stands d (numbered_form d k) occurrence (Some part)) → found ≡ Some g → HasFields g
  found_fields occurrence found g exact e = part_fields d (numbered_form d k) occurrence (Some g) numbered_fields ((exact g).0 e)

pub part_of : (d : DescriptionTree) (k occurrence : ℕ) (found : Option FormTree) → ((part : FormTree) → (found ≡ Some part) ↔ Stands d (numbered_form d k) occurrence (Some part)) → found ≡ occurrence_part d (Some (numbered_form d k)) occurrence
part_of d k occurrence found exact = part_is d (numbered_form d k) occurrence found exact

-- ---- words that are decoded

module _ (d : DescriptionTree) (c : Coding) (is : IsCodingOf d c) (w : ℕ) (found : Option ℕ) (decodes : (e : DescriptionTree) → IsCodingOf e c → IsDecodedAs e w found) where
  pub found_is : found ≡ form_with d w
  found_is = decoded_once d c w found is (decodes d is)

  pub found_within : (forms : Forms) (k : ℕ) → AreFormsOf d forms → found ≡ Some k → k < length forms.forms.items
  found_within forms k are at =
      let low = decoded_within d w found (decodes d is) k at in
      let counted = forms_counted d forms.forms.items are.all_forms in
      omega (arith, low, counted)

  pub none_chooses : (k : ℕ) (x : Occurrence) → slice_get (occurrences d) k ≡ Some x → x.past_root ≡ true → found ≡ None → false ≡ chooses d k w
  none_chooses k x there past none =
      let instruction : instruction_with d w ≡ None = ap (option_map (numbered_form d)) (sym found_is ∙ none) in
      sym (chosen_past k x there past ∙ ap (λ (o : Option FormTree). is_some (option_and_then (λ f. standing d f k) o)) instruction)
    where
      chosen_past : (k : ℕ) (x : Occurrence) → slice_get (occurrences d) k ≡ Some x → x.past_root ≡ true → chooses d k w ≡ is_some (option_and_then (λ f. standing d f k) (instruction_with d w))
      chosen_past k x there past = ap (λ (b : Bool). if b then is_some (option_and_then (λ f. standing d f k) (instruction_with d w)) else true) (ap (λ (o : Option Occurrence). option_map_or (λ (y : Occurrence). y.past_root) o false) there ∙ past)

  pub form_chooses : (k n : ℕ) (x : Occurrence) (answer : Bool) → slice_get (occurrences d) k ≡ Some x → x.past_root ≡ true → found ≡ Some n → ((answer ≡ true) ↔ Chooses d (numbered_form d n) k) → answer ≡ chooses d k w
  form_chooses k n x answer there past at exact =
      let instruction : instruction_with d w ≡ Some (numbered_form d n) = ap (option_map (numbered_form d)) (sym found_is ∙ at) in
      let past_it : chooses d k w ≡ is_some (option_and_then (λ f. standing d f k) (instruction_with d w)) =
      ap (λ (b : Bool). if b then is_some (option_and_then (λ f. standing d f k) (instruction_with d w)) else true) (ap (λ (o : Option Occurrence). option_map_or (λ (y : Occurrence). y.past_root) o false) there ∙ past) in
      choice_is d (numbered_form d n) k answer exact ∙ sym (past_it ∙ ap (λ (o : Option FormTree). is_some (option_and_then (λ f. standing d f k) o)) instruction)

-- an occurrence is among those that are kept
pub occurrence_within : (d : DescriptionTree) (forms : Forms) (k : ℕ) (x : Occurrence) → AreFormsOf d forms → slice_get (occurrences d) k ≡ Some x → k < length forms.occurrences.items
occurrence_within d forms k x are there = subst (λ (all : List Occurrence). k < length all) (sym are.all_occurrences) (slice_get_within (occurrences d) k x there)

-- ---- what is kept of a form that is seen

module _ (d : DescriptionTree) (forms : Forms) (c : Coding) (accepted : IsAccepted d) (are : AreFormsOf d forms) (is : IsCodingOf d c) (form : Option ℕ) (k : ℕ) (at : form ≡ Some k) (within : (n : ℕ) → form ≡ Some n → n < form_count d) where
  pub seen_within : k < length forms.forms.items
  seen_within = let low = within k at in let counted = forms_counted d forms.forms.items are.all_forms in omega (arith, low, counted)

  pub whole_fields : (f : Form) → slice_get forms.forms.items k ≡ Some f → HasFields (form_tree f)
  whole_fields f there = subst HasFields (sym (kept_form d forms.forms.items k f are.all_forms there)) (numbered_fields d accepted c is k (within k at))

  pub whole_is : (f : Form) → slice_get forms.forms.items k ≡ Some f → Some (form_tree f) ≡ option_map (numbered_form d) form
  whole_is f there = ap (λ (t : FormTree). Some t) (kept_form d forms.forms.items k f are.all_forms there) ∙ sym (ap (option_map (numbered_form d)) at)

  module _ (occurrence : ℕ) (found : Option (Bor Form)) (exact : (e : DescriptionTree) → AreFormsOf e forms → (part : FormTree) → (option_map (λ (x : Bor Form). form_tree x.now) found ≡ Some part) ↔ Stands e (numbered_form e k) occurrence (Some part)) where
    pub seen_fields : (part : Bor Form) → found ≡ Some part → HasFields (form_tree part.now)
    seen_fields part there = found_fields d accepted c is k (within k at) occurrence (option_map (λ (x : Bor Form). form_tree x.now) found) (form_tree part.now) (exact d are) (ap (option_map (λ (x : Bor Form). form_tree x.now)) there)

    pub seen_part : option_map (λ (x : Bor Form). form_tree x.now) found ≡ occurrence_part d (option_map (numbered_form d) form) occurrence
    seen_part = part_of d k occurrence (option_map (λ (x : Bor Form). form_tree x.now) found) (exact d are) ∙ sym (ap (λ (o : Option ℕ). occurrence_part d (option_map (numbered_form d) o) occurrence) at)

pub kept_count : (d : DescriptionTree) (forms : Forms) (k : ℕ) → AreFormsOf d forms → k < length (occurrences d) → k < length forms.occurrences.items
kept_count d forms k are low = subst (λ (all : List Occurrence). k < length all) (sym are.all_occurrences) low
