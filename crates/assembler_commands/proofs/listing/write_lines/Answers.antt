use Rattle.checked_descriptions.specs.ToolViews.{checked_of}
use Rattle.assembler_commands.proofs.ListingEnds.{listed, unlisted}
use Rattle.lisa_engine.specs.declared.trace.TraceEnd.TheVariants as trace_ends
use Rattle.assembler_commands.proofs.listing.write_lines.Goals as goal

pub returns-in-Ok : goal.returns-in-Ok
returns-in-Ok g c =
    let d = (checked_of c.args.tools.now).tree in
    let l = c.in-Ok.ensures.listing d c.requires.forms c.requires.coding c.requires.syntax in
    listed d c.args.image.now _ _ _ _ l.0 l.1 l.2

pub returns-in-Err-WriteFault : goal.returns-in-Err-WriteFault
returns-in-Err-WriteFault g c =
    let d = (checked_of c.args.tools.now).tree in
    let l = c.in-Err-WriteFault.ensures.listing d c.requires.forms c.requires.coding c.requires.syntax in
    unlisted d c.args.image.now _ _ _ _ l.0 trace_ends.WriteFault l.1 (rw c.in-Err-WriteFault.field-0-is at l.2)

pub returns-in-Err-NoMemory : goal.returns-in-Err-NoMemory
returns-in-Err-NoMemory g c =
    let d = (checked_of c.args.tools.now).tree in
    let l = c.in-Err-NoMemory.ensures.listing d c.requires.forms c.requires.coding c.requires.syntax in
    unlisted d c.args.image.now _ _ _ _ l.0 trace_ends.NoMemory l.1 (rw c.in-Err-NoMemory.field-0-is at l.2)
