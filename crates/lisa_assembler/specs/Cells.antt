-- The lines of the values of a `.word`.
use Rattle.std.specs.Prelude.{ℕ, List, [], ◌∷◌, flat_map}
use Rattle.lisa_words.specs.Words.{reduced}
use Rattle.asm_source.specs.Plain.{PlainValue, Number}
use Rattle.asm_source.specs.Plain as sources
use Rattle.lisa_object.specs.declared.parts.FixKind.TheVariants as kinds
use Rattle.lisa_object.specs.Objects.{PlainObjectLine, Cell, Fix}

abbrev pub value_lines : ℕ → PlainValue → List PlainObjectLine
value_lines width (Number n) = Cell (reduced n width) ∷ []
value_lines width (sources.Added s) = Cell 0 ∷ Fix 0 width kinds.Whole s ∷ []

abbrev pub values_lines : ℕ → List PlainValue → List PlainObjectLine
values_lines width values = flat_map (value_lines width) values
