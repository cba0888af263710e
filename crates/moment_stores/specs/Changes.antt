-- Changes of what lasts.
use Rattle.std.specs.Prelude.{ℕ, List, slice_set}
use Rattle.lisa_engine.specs.Touches.{set_cell}
use Rattle.lisa_meaning.specs.Moments.{Contents}

abbrev pub with_register : ℕ → ℕ → Contents → Contents
with_register place bits c = record { registers = slice_set c.registers place bits; cells = c.cells; fields = c.fields }

abbrev pub with_cells : List (List ℕ) → Contents → Contents
with_cells cells c = record { registers = c.registers; cells = cells; fields = c.fields }

abbrev pub with_field : ℕ → ℕ → ℕ → Contents → Contents
with_field s f bits c = record { registers = c.registers; cells = c.cells; fields = set_cell c.fields s f bits }
