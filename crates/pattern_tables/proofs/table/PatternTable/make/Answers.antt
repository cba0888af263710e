use Rattle.std.proofs.Common.{subst, sym, arith, ap₂, ◌∙◌}
use Rattle.pattern_tables.specs.Rising.{IsRising}
use Rattle.pattern_tables.specs.Tables.{with_mask}
use Rattle.pattern_tables.proofs.Grouping.{table_patterns, table_forms, table_level, table_few, masked_map}
use Rattle.pattern_tables.proofs.table.PatternTable.make.Goals as goal

pub invariant_of-result : goal.invariant_of-result
invariant_of-result c =
    let p = table_patterns c.args.entries.now c.entries.patterns.items c.entries.entry-index (omega arith) c.entries.invariant.0 in
    let f = table_forms c.args.entries.now c.entries.forms.items c.entries.entry-index (omega arith) c.entries.invariant.1 in
    let size = table_few c.args.entries.now c.entries.patterns.items p in
    record { rising = subst IsRising (sym p) c.requires.rising; level = table_level c.args.entries.now c.entries.patterns.items c.entries.forms.items p f; few = omega (arith, c.requires.few, size) }

pub returns-clause-entries : goal.returns-clause-entries
returns-clause-entries c =
    let p = table_patterns c.args.entries.now c.entries.patterns.items c.entries.entry-index (omega arith) c.entries.invariant.0 in
    let f = table_forms c.args.entries.now c.entries.forms.items c.entries.entry-index (omega arith) c.entries.invariant.1 in
    ap₂ (with_mask c.args.mask) p f ∙ masked_map c.args.mask c.args.entries.now
