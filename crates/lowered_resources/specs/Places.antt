-- Where the things of a description stand in its step program. On the way to the program: nothing here needs to be trusted.
use Rattle.std.specs.Prelude.{ℕ, ◌≡◌, ◌+◌, ◌<◌, ◌≤◌, length, slice_index, slice_get, Option, Some}
use Rattle.std.specs.Option.{option_map_or}
use Rattle.lisa_tree.specs.Descriptions.{DescriptionTree}
use Rattle.lisa_engine.specs.declared.parts.Item.{Item}
use Rattle.lisa_tree.specs.Resources.{stages, fields}
use Rattle.meaning_promises.specs.machine_parts.Parts.{arrays_of, pins_of, registers_of}
use Rattle.step_program.specs.Programs.{Program}
use Rattle.step_program.specs.Effects.{item_width}

-- what is told by temps that last through an edge
pub data Lasting : Type 0 where
  -- whether a field of the boundary behind a stage got bits, and which
  Written : (boundary field : ℕ) → Lasting
  Out : (boundary field : ℕ) → Lasting
  -- whether a stall or a flush named a level
  Stall : (level : ℕ) → Lasting
  Flush : (level : ℕ) → Lasting

pub record Places : Type 0 where
  -- the items of fields, by boundary and field
  pub field : ℕ → ℕ → ℕ
  pub temp : Lasting → ℕ

-- ---- what there is

abbrev pub HasField : DescriptionTree → ℕ → ℕ → Type 0
HasField d s f = (s + 1 < length (stages d)) × (f < length (fields d))

-- a field of the boundary behind a stage, where both are told, is there
abbrev pub IsThere : DescriptionTree → Option ℕ → Option ℕ → Type 0
IsThere d stage field = (s f : ℕ) → stage ≡ Some s → field ≡ Some f → HasField d s f

abbrev pub IsLevel : DescriptionTree → ℕ → Type 0
IsLevel d level = (0 < level) × (level ≤ length (stages d))

abbrev pub Has : DescriptionTree → Lasting → Type 0
Has d (Written s f) = HasField d s f
Has d (Out s f) = HasField d s f
Has d (Stall level) = IsLevel d level
Has d (Flush level) = IsLevel d level

abbrev pub field_width : DescriptionTree → ℕ → ℕ
field_width d f = option_map_or (λ field. field.0.width) (slice_get (fields d) f) 1

abbrev pub lasting_width : DescriptionTree → Lasting → ℕ
lasting_width d (Written s f) = 1
lasting_width d (Out s f) = field_width d f
lasting_width d (Stall level) = 1
lasting_width d (Flush level) = 1

-- The program has the arrays and the pins of the description, and its items begin with the registers; there are fields behind these, and
-- temps from `first` up to `lasts` for what is told by them, each for one thing alone.
pub record ArePlaced (d : DescriptionTree) (places : Places) (p : Program) (first lasts : ℕ) : Type 0 where
  pub arrays : p.arrays ≡ arrays_of d
  pub pins : p.pins ≡ pins_of d
  pub registers : (k : ℕ) (item : Item) → slice_get (registers_of d) k ≡ Some item → slice_get p.items k ≡ Some item
  pub behind_registers : (s f : ℕ) → HasField d s f → length (registers_of d) ≤ places.field s f
  pub field_there : (s f : ℕ) → HasField d s f → places.field s f < length p.items
  pub field_wide : (s f : ℕ) → HasField d s f → item_width p (places.field s f) ≡ field_width d f
  pub temp_first : (x : Lasting) → Has d x → first ≤ places.temp x
  pub temp_lasts : (x : Lasting) → Has d x → places.temp x < lasts
  pub temps_there : lasts ≤ length p.temps
  pub temp_wide : (x : Lasting) → Has d x → slice_index p.temps (places.temp x) ≡ lasting_width d x
  pub apart : (x y : Lasting) → Has d x → Has d y → places.temp x ≡ places.temp y → x ≡ y
