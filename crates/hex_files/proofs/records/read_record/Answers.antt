use Rattle.std.proofs.Common.{sym, ◌∙◌}
use Rattle.hex_files.proofs.LineSteps.{no_record, bad_record, sound_record}
use Rattle.hex_files.proofs.records.read_record.Goals as goal

pub returns-in_default : goal.returns-in_default
returns-in_default c = no_record c.args.line c.args.text.now (sym c.in_ok-found.ensures ∙ c.in_default.is)

pub returns-in-Some-record_fault : goal.returns-in-Some-record_fault
returns-in-Some-record_fault c = bad_record c.args.line c.args.text.now c.in-Some.record c.in-Some-record_fault.fault (sym c.in_ok-found.ensures ∙ c.in-Some.is) (sym c.in-Some-record_fault.ensures)

pub returns : goal.returns
returns c = sound_record c.args.line c.args.text.now c.in-Some.record (sym c.in_ok-found.ensures ∙ c.in-Some.is) (sym c.in_default-record_fault.ensures)
