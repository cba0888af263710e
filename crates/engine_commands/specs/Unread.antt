-- The ends of commands whose schedule, board, image, dump or input wasn't read, or whose engine wasn't made.
use Rattle.lisa_board.specs.declared.fault.BoardFault.{BoardFault}
use Rattle.lisa_board.specs.declared.fault.BoardFault.TheVariants as boards
use Rattle.lisa_engine.specs.declared.schedule.ScheduleFault.{ScheduleFault}
use Rattle.lisa_engine.specs.declared.schedule.ScheduleFault.TheVariants as schedules
use Rattle.lisa_engine.specs.declared.image.MakeFault.{MakeFault}
use Rattle.lisa_engine.specs.declared.image.MakeFault.TheVariants as makes
use Rattle.lisa_io.specs.declared.whole.ReadEnd.{ReadEnd}
use Rattle.lisa_io.specs.declared.whole.ReadEnd.TheVariants as read_ends
use Rattle.lisa_object.specs.declared.faults.ImageFault.{ImageFault}
use Rattle.lisa_object.specs.declared.faults.ImageFault.TheVariants as images
use Rattle.vcd_trace.specs.declared.faults.VcdFault.{VcdFault}
use Rattle.vcd_trace.specs.declared.faults.VcdFault.TheVariants as vcds
use Rattle.lisa_outcomes.specs.declared.status.End.{End}
use Rattle.lisa_outcomes.specs.declared.status.End.TheVariants as ends
use Rattle.lisa_outcomes.specs.declared.status.Refusal.TheVariants as refusals
use Rattle.lisa_outcomes.specs.declared.status.InputFault.TheVariants as input_faults

abbrev pub unscheduled_end : ScheduleFault → End
unscheduled_end schedules.NoMemory = ends.NoMemory
unscheduled_end fault = ends.Refused (refusals.Schedule fault)

abbrev pub unread_board : BoardFault → End
unread_board boards.NoMemory = ends.NoMemory
unread_board fault = ends.Refused (refusals.Board fault)

abbrev pub unread_dump : VcdFault → End
unread_dump vcds.NoMemory = ends.NoMemory
unread_dump fault = ends.Refused (refusals.Vcd fault)

abbrev pub unread_input : ReadEnd → End
unread_input read_ends.ReadFault = ends.ReadFault
unread_input read_ends.TooLong = ends.Refused (refusals.Input input_faults.TooLong)
unread_input read_ends.NoMemory = ends.NoMemory

abbrev pub unread_image : ImageFault → End
unread_image images.NoMemory = ends.NoMemory
unread_image fault = ends.Refused (refusals.Image fault)

abbrev pub unmade_end : MakeFault → End
unmade_end (makes.NoSuchMemory name) = ends.Refused (refusals.Image (images.NoSuchMemory name))
unmade_end makes.NoMemory = ends.NoMemory
