-- What the bytes of a description's module are counted by.
use Rattle.std.specs.Prelude.{ℕ, ◌+◌, ◌*◌, ◌≤◌, length}
use Rattle.lisa_tree.specs.Descriptions.{DescriptionTree}
use Rattle.description_weight.specs.Weights.{weight}
use Rattle.step_program.specs.Programs.{Program}
use Rattle.netlist_rules.specs.Sizes.{module_most, AreEnough}

-- the units of weight, the items, arrays and pins, and 16 more
abbrev pub units : DescriptionTree → Program → ℕ
units d p = weight d + length p.items + length p.arrays + length p.pins + 16

-- The stated size of its module is no more than 2,048 bytes for each of them, where the numbers of wires have 7 digits; and these are enough.
pub record IsSmall (d : DescriptionTree) (p : Program) : Type 0 where
  pub low : module_most 7 p ≤ 2048 * units d p
  pub enough : AreEnough 7 p
