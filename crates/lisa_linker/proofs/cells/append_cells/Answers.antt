use Rattle.std.proofs.Common.{sym, ap, ◌∙◌}
use Rattle.std.specs.Option.{option_copied_mut}
use Rattle.lisa_linker.proofs.Appended.{appended}
use Rattle.lisa_linker.proofs.cells.append_cells.Goals as goal

pub returns-in_ok-extend_from_slice : goal.returns-in_ok-extend_from_slice
returns-in_ok-extend_from_slice c =
    let after = c.extend_from_slice.new.self in
    appended c.args.cells.now (c.get_mut.follows.lender after) c.args.name.now c.args.more.now c.in-Some.own.now after
    (sym c.get_mut.ensures.value ∙ ap option_copied_mut c.in-Some.is) ((c.get_mut.follows.holds after).3 c.requires) c.in_ok-extend_from_slice.ensures.items
