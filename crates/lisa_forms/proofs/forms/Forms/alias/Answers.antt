use Rattle.std.proofs.Common.{arith}
use Rattle.lisa_forms.proofs.Parts.{alias_is, as_many_plain}
use Rattle.lisa_forms.proofs.forms.Forms.alias.Goals as goal

pub returns-clause-of_description : goal.returns-clause-of_description
returns-clause-of_description c d are =
    let level = as_many_plain d c.args.self.now.forms.items c.args.self.now.plain.items are.all_forms are.all_plain in
    let within = c.requires in
    alias_is c.args.self.now.plain.items _ c.args.form _ are.all_plain (omega (arith, level, within)) c.index.ensures
