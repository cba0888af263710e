-- Ways in a table, each by its last step, with a part to which it leads. On the way to the program: nothing here needs to be trusted.
use Rattle.std.specs.Prelude.{ℕ, ◌≡◌, List, Some, length, position, slice_get}
use Rattle.std.specs.Borrow.{Bor}
use Rattle.lisa_tree.specs.Descriptions.{DescriptionTree}
use Rattle.instruction_trees.specs.Trees as plain
use Rattle.instruction_trees.specs.Trees.{In}
use Rattle.instruction_forms.specs.declared.form.Form.{Form}
use Rattle.instruction_forms.specs.Trees.{FormTree, form_tree}
use Rattle.lowered_words.specs.declared.links.Link.{Link}
use Rattle.lowered_words.specs.declared.links.Link.TheVariants as links
use Rattle.lowered_words.specs.Ways.{Way, Whole, Child, same_way, plain_forms}
use Rattle.lowered_words.specs.Labels.{form_part}

-- a way's last step, with the place of the way above among these
pub data IsLink (ways : List Way) : Way → Link → Type 0 where
  whole : (o : ℕ) → IsLink ways (Whole o) (links.Whole o)
  child : (v : Way) (i o p : ℕ) → position (same_way v) ways ≡ Some p → IsLink ways (Child v i o) (links.Child p i o)

-- these ways, each by its last step
pub record IsTable (ways : List Way) (all : List Link) : Type 0 where
  pub count : length all ≡ length ways
  pub each : (k : ℕ) (w : Way) (l : Link) → slice_get ways k ≡ Some w → slice_get all k ≡ Some l → IsLink ways w l

-- a way leads to a part of some plain form
pub record IsPartBy (d : DescriptionTree) (w : Way) (x : FormTree) : Type 0 where
  pub form : plain.Form
  pub listed : In form (plain_forms d)
  pub is : form_part d w form ≡ Some x

-- such a part for each way
pub record AreParts (d : DescriptionTree) (ways : List Way) (parts : List (Bor Form)) : Type 0 where
  pub count : length parts ≡ length ways
  pub each : (k : ℕ) (w : Way) (x : Bor Form) → slice_get ways k ≡ Some w → slice_get parts k ≡ Some x → IsPartBy d w (form_tree x.now)

pub record Holds (d : DescriptionTree) (ways : List Way) (all : List Link) (parts : List (Bor Form)) : Type 0 where
  pub table : IsTable ways all
  pub kept : AreParts d ways parts

-- a part that is to be put there with its own parts
pub record Enters (d : DescriptionTree) (ways : List Way) (w : Way) (l : Link) (x : FormTree) (all : List Link) (parts : List (Bor Form)) : Type 0 where
  pub held : Holds d ways all parts
  pub link : IsLink ways w l
  pub part : IsPartBy d w x
