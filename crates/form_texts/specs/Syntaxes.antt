-- The syntax of a description's operations as a table of elements: strings, own fields and children by their places.
use Rattle.std.specs.Prelude.{ℕ, zero, suc, List, [], ◌∷◌, Option, None, Some, map, length, position}
use Rattle.std.specs.Option.{option_map_or}
use Rattle.lisa_tree.specs.declared.descriptions.CodingItem.{CodingItem}
use Rattle.lisa_tree.specs.declared.descriptions.CodingItem.TheVariants as items
use Rattle.lisa_tree.specs.declared.descriptions.Format.{Format}
use Rattle.lisa_tree.specs.declared.descriptions.Format.TheVariants as formats
use Rattle.lisa_tree.specs.declared.descriptions.SyntaxItem.{SyntaxItem}
use Rattle.lisa_tree.specs.declared.descriptions.SyntaxPart.{SyntaxPart}
use Rattle.lisa_tree.specs.declared.descriptions.SyntaxPart.TheVariants as parts
use Rattle.lisa_tree.specs.Descriptions.{DescriptionTree}
use Rattle.lisa_tree.specs.Same.{same_name}
use Rattle.lisa_tree.specs.Operations.{syntax_in, sections_at}
use Rattle.instruction_forms.specs.Described.{items_at, labels}
use Rattle.instruction_texts.specs.Symbols.{Kind, Decimal, WithSign, Hexadecimal, Content, Text, Number, Part, Element}

abbrev pub kind_of : Format → Kind
kind_of formats.Decimal = Decimal
kind_of formats.SignedDecimal = WithSign
kind_of formats.Hexadecimal = Hexadecimal

-- the children of a coding, in order
abbrev pub child_names : List CodingItem → List (List ℕ)
child_names [] = []
child_names (items.Bits pattern ∷ rest) = child_names rest
child_names (items.Field n pattern ∷ rest) = child_names rest
child_names (items.Child n ∷ rest) = n ∷ child_names rest

-- the place of a name among others; behind them all, where it isn't one of them
abbrev pub place_in : List ℕ → List (List ℕ) → ℕ
place_in n names = option_map_or (λ k. k) (position (same_name n) names) (length names)

-- an element by the items of the operation's coding
abbrev pub content : List CodingItem → SyntaxPart → Content
content all (parts.Literal text) = Text text
content all (parts.Number n format) = Number (kind_of format) (place_in n (labels all))
content all (parts.Child n) = Part (place_in n (child_names all))

abbrev pub element : List CodingItem → SyntaxItem → Element
element all item = record { joined = item.joined; content = content all item.part }

abbrev pub elements_in : List CodingItem → Option (List SyntaxItem) → List Element
elements_in all None = []
elements_in all (Some shown) = map (element all) shown

-- what an operation writes; nothing without a syntax
abbrev pub elements_at : DescriptionTree → ℕ → List Element
elements_at d o = elements_in (items_at d o) (syntax_in (sections_at d o))

abbrev pub syntax_from : DescriptionTree → ℕ → ℕ → List (List Element)
syntax_from d o zero = []
syntax_from d o (suc more) = elements_at d o ∷ syntax_from d (suc o) more

-- the elements of each operation
abbrev pub syntax_table : DescriptionTree → List (List Element)
syntax_table d = syntax_from d 0 (length d.operations)
