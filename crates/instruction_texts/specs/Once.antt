-- Each field and each child of an operation is written once.
use Rattle.std.specs.Prelude.{◌<◌, ℕ, suc, List, [], ◌∷◌, ◌++◌}
use Rattle.instruction_trees.specs.Trees.{Item, Fixed, Free, Field, Child, In}
use Rattle.instruction_trees.specs.Forms.{Distinct}
use Rattle.instruction_texts.specs.Symbols.{Content, Text, Number, Part, Element}

-- an own field or a child, by its place
pub data Key : Type 0 where
  OfField : ℕ → Key
  OfPart : ℕ → Key

abbrev pub own_keys : Content → List Key
own_keys (Text bs) = []
own_keys (Number kind k) = OfField k ∷ []
own_keys (Part k) = OfPart k ∷ []

abbrev pub keys : List Element → List Key
keys [] = []
keys (e ∷ es) = own_keys e.content ++ keys es

abbrev pub fields_of : List Item → ℕ
fields_of [] = 0
fields_of (Field n ∷ items) = suc (fields_of items)
fields_of (Fixed b ∷ items) = fields_of items
fields_of (Free ∷ items) = fields_of items
fields_of (Child ks ∷ items) = fields_of items

abbrev pub children_of : List Item → ℕ
children_of [] = 0
children_of (Field n ∷ items) = children_of items
children_of (Fixed b ∷ items) = children_of items
children_of (Free ∷ items) = children_of items
children_of (Child ks ∷ items) = suc (children_of items)

pub record IsWrittenOnce (items : List Item) (es : List Element) : Type 0 where
  pub fields : (j : ℕ) → j < fields_of items → In (OfField j) (keys es)
  pub parts : (j : ℕ) → j < children_of items → In (OfPart j) (keys es)
  pub distinct : Distinct (keys es)
