use Rattle.std.proofs.Common.{sym, ap, ◌∙◌}
use Rattle.std.specs.Option.{option_copied_mut}
use Rattle.meant_declarations.proofs.Noted.{appended}
use Rattle.meant_declarations.proofs.declaring.append.Goals as goal

pub returns-in_ok-push : goal.returns-in_ok-push
returns-in_ok-push c =
    let after = c.push.new.self in
    appended c.args.table.now (c.get_mut.follows.lender after) c.args.name.now c.args.operation c.in-Some.own.now after
    (sym c.get_mut.ensures.value ∙ ap option_copied_mut c.in-Some.is) ((c.get_mut.follows.holds after).3 c.requires) c.in_ok-push.ensures.items
