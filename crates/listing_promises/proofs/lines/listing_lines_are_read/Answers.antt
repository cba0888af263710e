use Rattle.listing_promises.proofs.LineKinds.{section_read, value_read, noted_read}
use Rattle.listing_promises.proofs.lines.listing_lines_are_read.Goals as goal

pub returns-clause-section : goal.returns-clause-section
returns-clause-section c = section_read

pub returns-clause-value : goal.returns-clause-value
returns-clause-value c = value_read

pub returns-clause-noted : goal.returns-clause-noted
returns-clause-noted c = noted_read
