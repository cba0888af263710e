-- What the tables of a decoder hold.
use Rattle.std.specs.Prelude.{◌<◌, ◌^◌, ℕ, Bool, List, [], ◌∷◌, length, map, Option, MatchOption}
use Rattle.std.specs.List.{flat_map}
use Rattle.std.specs.List.Sorted.{IsPermutation}
use Rattle.instruction_trees.specs.Bits.{Frame, Has}
use Rattle.instruction_trees.specs.Trees.{In}
use Rattle.instruction_trees.specs.Forms.{Distinct}
use Rattle.pattern_tables.specs.Patterns.{AllStand, frame_at, IsPlain}
use Rattle.pattern_tables.specs.Entries.{entry, plain_entries}
use Rattle.pattern_tables.specs.declared.bit_pattern.BitPattern.{BitPattern}
use Rattle.pattern_tables.specs.declared.entry.Entry.{Entry}
use Rattle.pattern_tables.specs.declared.table.PatternTable.{PatternTable}

-- forms with this mask, by their patterns and numbers
abbrev pub with_mask : ℕ → List ℕ → List ℕ → List Entry
with_mask m (p ∷ ps) (k ∷ ks) = entry m p k ∷ with_mask m ps ks
with_mask m _ _ = []

-- the mask that all forms of a table have
abbrev pub mask_of : PatternTable → ℕ
mask_of t = t.mask

-- the forms of a table, in rising order of their patterns
abbrev pub entries_of : PatternTable → List Entry
entries_of t = with_mask t.mask t.patterns.items t.forms.items

abbrev pub masks_of : List PatternTable → List ℕ
masks_of tables = map mask_of tables

-- the tables have the plain forms with their masks and patterns, each once, and there is one table for each of their masks
pub record HoldPlain (patterns : List BitPattern) (plain : List Bool) (tables : List PatternTable) : Type 0 where
  pub entries : IsPermutation (plain_entries 0 patterns plain) (flat_map entries_of tables)
  pub masks : Distinct (masks_of tables)
  pub used : (t : PatternTable) → In t tables → 0 < length (entries_of t)

-- the plain form that has the word, where there is one
abbrev pub IsDecoded : List Frame → List Bool → ℕ → Option ℕ → Type 0
IsDecoded frames plain w result =
    MatchOption result
    ((k : ℕ) → k < length frames → IsPlain plain k → Has w (frame_at frames k) → ⊥)
    (λ k. (k < length frames) × IsPlain plain k × Has w (frame_at frames k))

-- whichever frames the masks and patterns of the plain forms stand for, this is the form that has the word
abbrev pub AnswersForm : List PatternTable → ℕ → Option ℕ → Type 0
AnswersForm tables w result =
    (width : ℕ) (frames : List Frame) (patterns : List BitPattern) (plain : List Bool)
    → HoldPlain patterns plain tables → AllStand width frames patterns → w < 2 ^ width → IsDecoded frames plain w result
