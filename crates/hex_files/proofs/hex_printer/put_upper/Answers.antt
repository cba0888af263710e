use Rattle.hex_files.proofs.RecordLoops.{no_upper, new_upper}
use Rattle.hex_files.proofs.hex_printer.put_upper.Goals as goal

pub returns-then-old-new : goal.returns-then-old-new
returns-then-old-new c = no_upper c.args.out.now.items c.args.old c.args.new c.if-old-new.true

pub returns : goal.returns
returns c = new_upper c.args.out.now.items _ c.args.old c.args.new c.if-old-new.false c.in_ok-put_record.ensures
