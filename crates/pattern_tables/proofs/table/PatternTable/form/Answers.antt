use Rattle.std.proofs.Common.{arith, sym, ◌∙◌}
use Rattle.std.proofs.lemmas.List.{get_or_default}
use Rattle.pattern_tables.proofs.Decoding.{size_of, form_at}
use Rattle.pattern_tables.proofs.table.PatternTable.form.Goals as goal

pub index-requires : goal.index-requires
index-requires c = let size = size_of c.args.self.now in omega (arith, c.args.self.now.level, size, c.requires)

pub returns : goal.returns
returns c d =
    let size = size_of c.args.self.now in
    c.index.ensures ∙ get_or_default c.args.self.now.forms.items c.args.place _ 0 (omega (arith, c.args.self.now.level, size, c.requires)) ∙ sym (form_at c.args.self.now c.args.place d c.requires)
