-- The ends of commands whose sources or objects weren't read, assembled or linked.
use Rattle.asm_source.specs.declared.flaw.SourceFault.{SourceFault}
use Rattle.asm_source.specs.declared.flaw.SourceFault.TheVariants as sources
use Rattle.lisa_object.specs.declared.faults.ObjectFault.{ObjectFault}
use Rattle.lisa_object.specs.declared.faults.ObjectFault.TheVariants as objects
use Rattle.lisa_object.specs.declared.faults.LinkFault.{LinkFault}
use Rattle.lisa_object.specs.declared.faults.LinkFault.TheVariants as links
use Rattle.lisa_outcomes.specs.declared.status.End.{End}
use Rattle.lisa_outcomes.specs.declared.status.End.TheVariants as ends
use Rattle.lisa_outcomes.specs.declared.status.Refusal.TheVariants as refusals

abbrev pub unread_object : ObjectFault → End
unread_object objects.NoMemory = ends.NoMemory
unread_object fault = ends.Refused (refusals.Object fault)

abbrev pub unlinked_end : LinkFault → End
unlinked_end links.NoMemory = ends.NoMemory
unlinked_end fault = ends.Refused (refusals.Link fault)

abbrev pub unassembled_end : SourceFault → End
unassembled_end sources.NoMemory = ends.NoMemory
unassembled_end fault = ends.Refused (refusals.Source fault)
