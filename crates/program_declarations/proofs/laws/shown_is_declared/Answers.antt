use Rattle.program_declarations.proofs.Declared.{shown_declared}
use Rattle.program_declarations.proofs.laws.shown_is_declared.Goals as goal

pub returns : goal.returns
returns c d width accepted spelled has given =
    let limits = c.sizes_are_limited.ensures d has in
    shown_declared d width accepted spelled given (c.shown_names_differ.ensures d width accepted spelled has) (c.shown_widths_fit.ensures d width accepted spelled has given) limits.0 limits.1 limits.2
