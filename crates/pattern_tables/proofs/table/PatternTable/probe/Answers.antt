use Rattle.std.proofs.Common.{arith, sym, ◌∙◌}
use Rattle.std.proofs.lemmas.List.{get_or_default}
use Rattle.pattern_tables.proofs.Decoding.{size_of, pattern_at}
use Rattle.pattern_tables.proofs.table.PatternTable.probe.Goals as goal

pub index-requires : goal.index-requires
index-requires g c = let size = size_of c.args.self.now in omega (arith, size, c.requires)

pub returns-clause-pattern : goal.returns-clause-pattern
returns-clause-pattern g c d =
    let size = size_of c.args.self.now in
    c.index.ensures ∙ get_or_default c.args.self.now.patterns.items c.args.place _ 0 (omega (arith, size, c.requires)) ∙ sym (pattern_at c.args.self.now c.args.place d c.requires)
