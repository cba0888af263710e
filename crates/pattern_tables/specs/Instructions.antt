-- The forms of an instruction set as lists of frames, and the plain trees that have a word.
use Rattle.std.specs.Prelude.{◌≡◌, ℕ, Bool, true, List, map, slice_index_or}
use Rattle.instruction_trees.specs.Bits.{Frame, Has}
use Rattle.instruction_trees.specs.Trees.{Table, Tree, Done, Item, Form, Fits, IsBelow, AnyValue, In, bits, form_bits, form, is_plain}

abbrev pub form_at : List Form → ℕ → Form
form_at forms k = slice_index_or forms k Done

abbrev pub frames_of : Table → List Item → List Form → List Frame
frames_of table items forms = map (λ (f : Form). form_bits table f items) forms

abbrev pub plain_of : (ℕ → Bool) → List Form → List Bool
plain_of aliases forms = map (λ (f : Form). is_plain aliases f) forms

abbrev pub AllFit : Table → List Item → List Form → Type 0
AllFit table items forms = (f : Form) → In f forms → Fits AnyValue table f items

-- a tree of one of these forms
pub record IsListed (table : Table) (items : List Item) (forms : List Form) (t : Tree ℕ) : Type 0 where
  pub fits : Fits IsBelow table t items
  pub listed : In (form t) forms

-- a plain tree of one of these forms, which has the word
pub record IsPlainTree (table : Table) (items : List Item) (aliases : ℕ → Bool) (forms : List Form) (w : ℕ) (t : Tree ℕ) : Type 0 where
  pub of_form : IsListed table items forms t
  pub is_plain : is_plain aliases t ≡ true
  pub has : Has w (bits table t items)
