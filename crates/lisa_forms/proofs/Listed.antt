-- Instruction trees of an accepted description are of forms that are listed.
use Rattle.lisa_tree.specs.Descriptions.{DescriptionTree}
use Rattle.lisa_tree.specs.Operations.{is_alias}
use Rattle.form_promises.specs.lisa_machine.Verdicts.{IsAccepted}
use Rattle.form_promises.proofs.lisa_machine_proofs.Sound.{sound}
use Rattle.std.proofs.Common.{ℕ}
use Rattle.instruction_trees.specs.Trees.{Tree, Fits, IsBelow, form}
use Rattle.instruction_trees.proofs.Relabelled.{fits_relabel}
use Rattle.form_patterns.specs.coding_tables.Codings.{coding_table}
use Rattle.form_patterns.specs.coding_tables.Instructions.{instruction_items, forms_of}
use Rattle.form_patterns.proofs.coding_tables_proofs.Heights.{are_listed}
use Rattle.pattern_tables.specs.Instructions.{IsListed, IsPlainTree}
use Rattle.lisa_forms.specs.Codings.{HasTree}

module _ (d : DescriptionTree) where
  -- a tree of a listed form that has the word has it
  pub from_listed : (word : ℕ) (t : Tree ℕ) → IsPlainTree (coding_table d) (instruction_items d) (is_alias d) (forms_of d) word t → HasTree d word t
  from_listed word t is = record { fits = is.of_form.fits; is_plain = is.is_plain; has = is.has }

  pub tree_listed : (t : Tree ℕ) → IsAccepted d → Fits IsBelow (coding_table d) t (instruction_items d) → IsListed (coding_table d) (instruction_items d) (forms_of d) t
  tree_listed t accepted fits = record {
    fits = fits;
    listed = are_listed d (sound d accepted).circles (form t) (fits_relabel (λ _. tt) (coding_table d) IsBelow t (instruction_items d) fits);
  }

  pub to_listed : (word : ℕ) (t : Tree ℕ) → IsAccepted d → HasTree d word t → IsPlainTree (coding_table d) (instruction_items d) (is_alias d) (forms_of d) word t
  to_listed word t accepted has = record { of_form = tree_listed t accepted has.fits; is_plain = has.is_plain; has = has.has }
