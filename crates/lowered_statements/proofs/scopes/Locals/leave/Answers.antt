use Rattle.std.proofs.Common.{◌∙◌, List, map, sym, ap}
use Rattle.std.specs.List.{take-map}
use Rattle.lowered_statements.specs.declared.scopes.Entry.{Entry}
use Rattle.lowered_statements.specs.Code.{entry_of}
use Rattle.lowered_statements.proofs.scopes.Locals.leave.Goals as goal

pub returns : goal.returns
returns c = ap (λ (es : List Entry). map entry_of es) c.truncate.ensures.items ∙ sym (take-map entry_of c.args.count c.args.self.now.entries.items)
