use Rattle.verilog_reader.proofs.TextLaws.{only_read, only_refused, read_clockable}
use Rattle.verilog_reader.proofs.reading.read_module.Goals as goal

pub returns-clause-only : goal.returns-clause-only
returns-clause-only c = λ m a. only_read c.args.bytes.now c.read.result c.read.ensures.found c.read.ensures.fault m a

pub returns-clause-only_fault : goal.returns-clause-only_fault
returns-clause-only_fault c = λ fault b. only_refused c.args.bytes.now c.read.result c.read.ensures.found c.read.ensures.fault fault b

pub returns-clause-clockable : goal.returns-clause-clockable
returns-clause-clockable c = read_clockable c.args.bytes.now c.read.result c.read.ensures.found
