-- The texts of a description's instructions.
use Rattle.std.specs.Prelude.{ℕ, ◌≡◌, ◌+◌, List, [], ◌∷◌, Option, None, Some, cond, map}
use Rattle.lisa_tree.specs.Descriptions.{DescriptionTree}
use Rattle.instruction_trees.specs.Trees.{Form, Choose}
use Rattle.instruction_forms.specs.coding_tables.Codings.{coding_table}
use Rattle.instruction_forms.specs.coding_tables.Instructions.{forms_of}
use Rattle.instruction_texts.specs.declared.shapes.Shape.{Shape}
use Rattle.instruction_texts.specs.Symbols.{Sym, gather, shown_values, is_instruction_text}
use Rattle.instruction_texts.specs.Texts.{form_symbols}
use Rattle.text_tables.specs.Parts.{all_pieces}
use Rattle.form_texts.specs.Syntaxes.{syntax_table}
use Rattle.form_texts.specs.declared.writing.FormTexts.{FormTexts}

-- what an instruction writes, with the number of each field, in preorder, in place of its value
abbrev pub instruction_symbols : DescriptionTree → Form → List (Sym ℕ)
instruction_symbols d (Choose o own t) = form_symbols (coding_table d) (syntax_table d) o own
instruction_symbols d _ = []

-- the pieces of a text
abbrev pub instruction_shapes : DescriptionTree → Form → List Shape
instruction_shapes d f = gather [] (instruction_symbols d f)

-- the numbers of the fields in the order of the text
abbrev pub instruction_order : DescriptionTree → Form → List ℕ
instruction_order d f = shown_values (instruction_symbols d f)

-- these are the texts of all instructions, in order
pub record AreTexts (d : DescriptionTree) (all : FormTexts) : Type 0 where
  pub shapes : all_pieces all.texts ≡ map (instruction_shapes d) (forms_of d)
  pub orders : map (λ v. v.items) all.orders.items ≡ map (instruction_order d) (forms_of d)

-- the number of the first of these forms that may not have its text, where they are numbered from a number on
abbrev pub first_bad_from : DescriptionTree → ℕ → List Form → Option ℕ
first_bad_from d k [] = None
first_bad_from d k (f ∷ rest) = cond (is_instruction_text (instruction_symbols d f)) (first_bad_from d (k + 1) rest) (Some k)

-- The first form whose text is empty, or has a first run that begins with `.`, or a number that isn't last in its run.
abbrev pub first_bad_text : DescriptionTree → Option ℕ
first_bad_text d = first_bad_from d 0 (forms_of d)
