use Rattle.lisa_machine.proofs.Sound.{sound}
use Rattle.lisa_machine.proofs.Resolved.{reads_input, writes_output, no_output_read, reads_boundary, reads_decoded}
use Rattle.lisa_machine.proofs.resolving.fields_resolve.Goals as goal

pub returns-clause-inputs : goal.returns-clause-inputs
returns-clause-inputs c = λ d accepted o region scope field s. let w = sound d accepted in reads_input d w.known w.stand w.uses o region scope field s

pub returns-clause-outputs : goal.returns-clause-outputs
returns-clause-outputs c = λ d accepted o region scope field s. let w = sound d accepted in writes_output d w.known w.stand w.uses o region scope field s

pub returns-clause-no_reads : goal.returns-clause-no_reads
returns-clause-no_reads c = λ d accepted o region scope field s. let w = sound d accepted in no_output_read d w.known w.stand w.uses o region scope field s

pub returns-clause-boundaries : goal.returns-clause-boundaries
returns-clause-boundaries c = λ d accepted o region scope pipe before after field s. let w = sound d accepted in reads_boundary d w.known w.stand w.uses o region scope pipe before after field s

pub returns-clause-decoded : goal.returns-clause-decoded
returns-clause-decoded c = λ d accepted o region scope s. let w = sound d accepted in reads_decoded d w.known w.stand w.uses o region scope s
