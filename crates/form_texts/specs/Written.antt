-- What a form writes, by its plain tree.
use Rattle.std.specs.Prelude.{ℕ, suc, ◌+◌, List, [], ◌∷◌, Option, None, Some, length}
use Rattle.lisa_tree.specs.declared.descriptions.SyntaxItem.{SyntaxItem}
use Rattle.lisa_tree.specs.Descriptions.{DescriptionTree}
use Rattle.instruction_forms.specs.declared.form.Field.{Field}
use Rattle.instruction_forms.specs.Trees.{FormTree, FormTrees, Node, End, Then}
use Rattle.instruction_texts.specs.Symbols.{Sym, assemble}
use Rattle.form_texts.specs.Syntaxes.{elements_at}

-- the items of a syntax, none without one
abbrev pub shown_items : Option (List SyntaxItem) → List SyntaxItem
shown_items None = []
shown_items (Some all) = all

-- fields, each with its width and its number, from a number on
abbrev pub numbered_fields : ℕ → List Field → List (ℕ × ℕ)
numbered_fields a [] = []
numbered_fields a (f ∷ fields) = (f.width, a) ∷ numbered_fields (suc a) fields

-- how many fields are a form's own
abbrev pub own_count : FormTree → ℕ
own_count (Node o children fields) = length fields

abbrev mutual
  -- how many fields a form has with its children
  pub field_count : FormTree → ℕ
  field_count (Node o children fields) = length fields + inner_count children

  pub inner_count : FormTrees → ℕ
  inner_count End = 0
  inner_count (Then f rest) = field_count f + inner_count rest

-- how many are its children's
abbrev pub inner_of : FormTree → ℕ
inner_of (Node o children fields) = inner_count children

abbrev mutual
  -- what a form writes whose own fields are numbered from `a` and its children's from `b`
  pub written_from : DescriptionTree → ℕ → ℕ → FormTree → List (Sym ℕ)
  written_from d a b (Node o children fields) = assemble (numbered_fields a fields) (written_parts d b children) (elements_at d o)

  -- what each child writes, where their fields are numbered from `b`
  pub written_parts : DescriptionTree → ℕ → FormTrees → List (List (Sym ℕ))
  written_parts d b End = []
  written_parts d b (Then f rest) = written_from d b (b + own_count f) f ∷ written_parts d (b + field_count f) rest

-- what a whole form writes, its fields numbered in preorder
abbrev pub written : DescriptionTree → FormTree → List (Sym ℕ)
written d f = written_from d 0 (own_count f) f
