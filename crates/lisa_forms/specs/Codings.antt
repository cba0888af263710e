-- What is kept of a description's codings, and what a word is decoded as.
use Rattle.std.specs.Prelude.{◌≡◌, ◌<◌, ℕ, Option, None, true, length, map, option_map, MatchOption}
use Rattle.lisa_tree.specs.declared.faults.DescFault.TheVariants as faults
use Rattle.lisa_tree.specs.Descriptions.{DescriptionTree}
use Rattle.lisa_tree.specs.Operations.{is_alias}
use Rattle.form_promises.specs.lisa_machine.Verdicts.{IsAccepted}
use Rattle.instruction_trees.specs.Bits.{Has}
use Rattle.instruction_trees.specs.Trees.{Tree, Fits, IsBelow, bits, form, is_plain, slice}
use Rattle.instruction_trees.specs.Values.{values}
use Rattle.form_patterns.specs.coding_tables.Codings.{coding_table}
use Rattle.form_patterns.specs.coding_tables.Instructions.{instruction_items, forms_of, form_count}
use Rattle.form_patterns.specs.instruction_forms.Widths.{HasWidth}
use Rattle.pattern_tables.specs.Overlaps.{AnswersOverlap}
use Rattle.pattern_tables.specs.Tables.{HoldPlain}
use Rattle.pattern_tables.specs.Instructions.{form_at}
use Rattle.form_patterns.specs.Instructions.{instruction_frames, instruction_plain, field_places, ArePatterns}
use Rattle.form_patterns.specs.Rows.{ArePlaces}
use Rattle.lisa_forms.specs.declared.coding.Coding.{Coding}
use Rattle.lisa_forms.specs.Coverage.{IsUncoveredVerdict}

-- these are the masks, patterns and places of fields of all forms of an accepted description, and the tables of the plain ones, no two of
-- which overlap
pub record IsCodingOf (d : DescriptionTree) (c : Coding) : Type 0 where
  pub accepted : IsAccepted d
  pub has_width : HasWidth d c.width
  pub all_patterns : ArePatterns d c.width c.patterns.items
  pub all_places : ArePlaces d c.places.items
  pub all_plain : c.plain.items ≡ instruction_plain d
  pub tables : HoldPlain c.patterns.items c.plain.items c.decoder
  pub apart : AnswersOverlap (instruction_frames d) (instruction_plain d) None
  pub alias : IsUncoveredVerdict d (option_map faults.NotAnAlias c.uncovered)

-- there is a form of this number, and it has a field of this number in preorder
pub record HasField (d : DescriptionTree) (k i : ℕ) : Type 0 where
  pub within : k < form_count d
  pub placed : i < length (field_places d (form_at (forms_of d) k))

-- a plain instruction tree has the word
pub record HasTree (d : DescriptionTree) (word : ℕ) (t : Tree ℕ) : Type 0 where
  pub fits : Fits IsBelow (coding_table d) t (instruction_items d)
  pub is_plain : is_plain (is_alias d) t ≡ true
  pub has : Has word (bits (coding_table d) t (instruction_items d))

-- exactly one plain tree has the word, and it is of this form; its values are the fields that stand in the word
pub record IsOneTreeOf (d : DescriptionTree) (word k : ℕ) : Type 0 where
  pub within : k < form_count d
  pub tree : Tree ℕ
  pub has : HasTree d word tree
  pub formed : form tree ≡ form_at (forms_of d) k
  pub read : values tree ≡ map (slice word) (field_places d (form_at (forms_of d) k))
  pub only : (t : Tree ℕ) → HasTree d word t → t ≡ tree

-- no plain tree has the word, or exactly one has, of this form
abbrev pub IsDecodedAs : DescriptionTree → ℕ → Option ℕ → Type 0
IsDecodedAs d word result = MatchOption result ((t : Tree ℕ) → HasTree d word t → ⊥) (IsOneTreeOf d word)

-- two plain trees, one of each of two different forms, have the word
pub record SharesWord (d : DescriptionTree) (i j word : ℕ) : Type 0 where
  pub order : i < j
  pub within : j < form_count d
  pub first : Tree ℕ
  pub second : Tree ℕ
  pub first_has : HasTree d word first
  pub second_has : HasTree d word second
  pub first_formed : form first ≡ form_at (forms_of d) i
  pub second_formed : form second ≡ form_at (forms_of d) j
