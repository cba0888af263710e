-- Requests, and runs of the program, that refuse a description.
use Rattle.std.specs.Prelude.{ℕ, ◌≡◌, ◌⊎◌, List, []}
use Rattle.std.specs.Io.KnownBytes.{Appends}
use Rattle.lisa_tree.specs.declared.faults.DescFault.{DescFault}
use Rattle.lisa_reader.specs.Answers.{IsBroken}
use Rattle.lisa_outcomes.specs.declared.status.Refusal.TheVariants as refusals
use Rattle.lisa_outcomes.specs.declared.status.Status.{Status}
use Rattle.lisa_outcomes.specs.declared.status.Status.TheVariants as statuses
use Rattle.lisa_outcomes.specs.Outcomes.{Given}
use Rattle.lisa_outcomes.specs.NamedFiles.{AreFiles, file_at}
use Rattle.command_promises.specs.verdict_promises.Firsts.{IsFirstFaultOf}
use Rattle.command_promises.specs.Refusals.{RefusesWith}
use Rattle.command_words.specs.Requests.{Request, Format, Check, Verilog, Assemble, Link, Disassemble, Generate, Soak, Export, Import, Replay, Occupancy, Simulate, Clock, Asks}
use Rattle.lisa_cli.specs.Files.{files_of}
use Rattle.lisa_cli.specs.Gives.{GivesOver}
use Rattle.lisa_cli.specs.Worlds.{World, IsKnown, NoneFailed}
use Rattle.lisa_cli.specs.Headline.{IsAnswer}

-- the fault with which a request refuses a description that has these bytes: their first one
abbrev pub IsFaultFor : Request → (bytes : List ℕ) → DescFault → Type 0
IsFaultFor (Format description) bytes f = IsBroken bytes f
IsFaultFor (Check description) bytes f = IsFirstFaultOf bytes f
IsFaultFor (Verilog description) bytes f = IsFirstFaultOf bytes f
IsFaultFor (Assemble description source) bytes f = IsFirstFaultOf bytes f
IsFaultFor (Link description objects) bytes f = IsFirstFaultOf bytes f
IsFaultFor (Disassemble description image) bytes f = IsFirstFaultOf bytes f
IsFaultFor (Generate description number count) bytes f = IsFirstFaultOf bytes f
IsFaultFor (Soak description verilog number count edges) bytes f = IsFirstFaultOf bytes f
IsFaultFor (Export format description image memory) bytes f = IsFirstFaultOf bytes f
IsFaultFor (Import format description file memory) bytes f = IsFirstFaultOf bytes f
IsFaultFor (Replay dump) bytes f = ⊥
IsFaultFor (Occupancy names edges) bytes f = IsFirstFaultOf bytes f
IsFaultFor (Simulate task names) bytes f = IsFirstFaultOf bytes f
IsFaultFor (Clock task names) bytes f = ⊥

-- each request, over the bytes of its files, the first of which is the description
abbrev pub RequestsRefuse : Type 0
RequestsRefuse = (request : Request) (bytes : List (List ℕ)) (input : List ℕ) → RefusesWith (IsFaultFor request (file_at bytes 0)) (GivesOver request bytes input)

-- the first file of the request has such bytes, and nothing was written
pub record IsRefusedOver (w : World) (request : Request) (given : Given) (f : DescFault) : Type 0 where
  pub bytes : List (List ℕ)
  pub files : AreFiles given.files (files_of request) bytes
  pub fault : IsFaultFor request (file_at bytes 0) f
  pub written : Appends w.writes.out w.writes.out_after []

-- each run with these words that told a description's fault
abbrev pub RunsRefuse : (words : List (List ℕ)) → Type 0
RunsRefuse words =
    (w : World) (request : Request) (given : Given) (f : DescFault) → Asks words request → IsKnown w request given → IsAnswer w words (statuses.Refused (refusals.Description f))
    → IsRefusedOver w request given f

-- the run refused the description, with such a fault of these bytes
abbrev pub IsToldOf : Request → (description : List ℕ) → Status → Type 0
IsToldOf request description status = (f : DescFault) × IsFaultFor request description f × (status ≡ statuses.Refused (refusals.Description f))

-- each run with these words whose files are there, in which no call fails and the first of whose files has such a fault, unless memory is wanted
abbrev pub FaultsAreTold : (words : List (List ℕ)) → Type 0
FaultsAreTold words =
    (w : World) (request : Request) (given : Given) (bytes : List (List ℕ)) (f : DescFault) (status : Status) → Asks words request → IsKnown w request given
    → AreFiles given.files (files_of request) bytes → IsFaultFor request (file_at bytes 0) f → NoneFailed w request → IsAnswer w words status
    → IsToldOf request (file_at bytes 0) status ⊎ (status ≡ statuses.NoMemory)
