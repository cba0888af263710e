-- Where resources stand among the registers, the arrays and the pins.
use Rattle.std.specs.Prelude.{ℕ, ◌≡◌, ◌+◌, List, [], ◌∷◌, Option, None, Some}
use Rattle.lisa_tree.specs.Descriptions.{ResourceTree, DescriptionTree}
use Rattle.lisa_meaning.specs.machine_parts.Parts.{array_in, pin_in, register_in}
use Rattle.scene_paths.specs.declared.before.Before.{Before}

-- one more, where there is one
abbrev pub counted : {P : Type 0} → Option P → ℕ → ℕ
counted None n = n
counted (Some p) n = n + 1

abbrev pub before : ℕ → ℕ → ℕ → Before
before registers arrays pins = record { registers = registers; arrays = arrays; pins = pins }

-- how many registers, arrays and pins there are with one more resource
abbrev pub past : Before → ResourceTree → Before
past b r = before (counted (register_in r) b.registers) (counted (array_in r) b.arrays) (counted (pin_in r) b.pins)

-- for each resource how many stand before it
abbrev pub befores : Before → List ResourceTree → List Before
befores b [] = []
befores b (r ∷ rest) = b ∷ befores (past b r) rest

abbrev pub ArePlaces : DescriptionTree → List Before → Type 0
ArePlaces d all = all ≡ befores (before 0 0 0) d.resources
