use Rattle.std.proofs.Common.{◌≡◌, ◌+◌, drop}
use Rattle.std.specs.Prelude.{◌+ℤ◌}
use Rattle.asm_source.specs.Numbers.{IsShort}
use Rattle.placed_programs.specs.Symbols.{terms_value}
use Rattle.lisa_linker.specs.Tables.{symbols_of}
use Rattle.lisa_linker.proofs.sums.sum_value.Given as goal

abbrev pub invariant-each : goal.invariant-each
invariant-each l = (l.total +ℤ terms_value (symbols_of l.values) l.address (drop l.term-index l.sum.terms.items)
    ≡ l.sum.constant +ℤ terms_value (symbols_of l.values) l.address l.sum.terms.items)
    × IsShort (8 + l.term-index) l.total
