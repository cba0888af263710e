-- What is kept of the words of a description's instructions. On the way to the program: nothing here needs to be trusted.
use Rattle.std.specs.Prelude.{ℕ, ◌≡◌, ◌<◌, List, Option, None, Some, length, map, option_map, slice_get}
use Rattle.std.specs.Option.{option_and_then}
use Rattle.std.specs.Borrow.{Bor}
use Rattle.std.specs.Global.{Vec}
use Rattle.lisa_tree.specs.Descriptions.{DescriptionTree}
use Rattle.stage_checks.specs.Graphs.{names_in}
use Rattle.scene_paths.specs.activation_trees.declared.parts.Occurrence.{Occurrence}
use Rattle.scene_paths.specs.activation_trees.Starting.{activating_names}
use Rattle.instruction_forms.specs.declared.form.Field.{Field}
use Rattle.instruction_forms.specs.declared.form.Form.{Form}
use Rattle.instruction_forms.specs.Trees.{form_tree}
use Rattle.pattern_tables.specs.declared.bit_pattern.BitPattern.{BitPattern}
use Rattle.scene_paths.specs.lisa_forms.Rows.{instruction_patterns}
use Rattle.lowered_words.specs.declared.links.Link.{Link}
use Rattle.lowered_words.specs.declared.way_at.Chosen.{Chosen}
use Rattle.lowered_words.specs.Ways.{Way, Whole, Child, all_ways, way_place}
use Rattle.lowered_words.specs.Choosing.{Choice, choice}
use Rattle.lowered_words.specs.Labels.{first_field, label_field}
use Rattle.lowered_words.specs.Laws.{StandsInWord}
use Rattle.lowered_words.specs.Links.{whole_place, child_place}

-- the ways of the plain forms, each by its last step
pub record HasWays (d : DescriptionTree) (links : List Link) : Type 0 where
  pub count : length links ≡ length (all_ways d)
  pub wholes : (o : ℕ) → whole_place links o ≡ way_place d (Whole o)
  pub children : (w : Way) (i o : ℕ) → child_place links (way_place d w) i o ≡ way_place d (Child w i o)

-- a label in the part of a way's place
abbrev pub field_at : List (Bor Form) → List ℕ → Option ℕ → Option Field
field_at parts n None = None
field_at parts n (Some place) = option_and_then (λ (part : Bor Form). first_field n (form_tree part.now)) (slice_get parts place)

-- for each way a part that has its fields, each of which stands in a word
pub record HasParts (d : DescriptionTree) (parts : List (Bor Form)) : Type 0 where
  pub fields : (w : Way) (n : List ℕ) → field_at parts n (way_place d w) ≡ label_field d w n
  pub stand : (n : List ℕ) (place : Option ℕ) (f : Field) → field_at parts n place ≡ Some f → StandsInWord 64 f

-- the literal bits of each form
abbrev pub HasPatterns : DescriptionTree → List BitPattern → Type 0
HasPatterns d patterns = patterns ≡ instruction_patterns d

-- a choice by the place of its way
abbrev pub placed : DescriptionTree → Choice → Chosen
placed d c = record { at = record { place = way_place d c.way }; inside = c.inside }

abbrev pub chosen_at : List (Option Chosen) → ℕ → Option Chosen
chosen_at choices k = option_and_then (λ c. c) (slice_get choices k)

-- by what each occurrence is chosen
abbrev pub HasChoices : DescriptionTree → List (Option Chosen) → Type 0
HasChoices d choices = (k : ℕ) → chosen_at choices k ≡ option_map (placed d) (choice d k)

-- ---- on the way

-- by what the first occurrences are chosen
pub record AreChoices (d : DescriptionTree) (count : ℕ) (choices : List (Option Chosen)) : Type 0 where
  pub counted : length choices ≡ count
  pub each : (k : ℕ) → k < count → chosen_at choices k ≡ option_map (placed d) (choice d k)

-- the names by which each occurrence activates
abbrev pub rows_of : List (Vec (Bor (List ℕ))) → List (List (List ℕ))
rows_of rows = map (λ row. names_in row.items) rows

abbrev pub all_rows : DescriptionTree → List Occurrence → List (List (List ℕ))
all_rows d all = map (λ (x : Occurrence). activating_names d x.operation) all
