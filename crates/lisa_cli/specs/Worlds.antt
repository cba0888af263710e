-- What a run reads and writes, as it stands before and after.
use Rattle.std.specs.Prelude.{ℕ, ◌≡◌, ◌⊎◌, true, List, [], Option, Some}
use Rattle.std.specs.Io.KnownBytes.{Appends}
use Rattle.lisa_io.specs.Causes.{Rose}
use Rattle.lisa_io.specs.Contents.{Held}
use Rattle.lisa_outcomes.specs.Outcomes.{FileMap, Given}
use Rattle.lisa_outcomes.specs.NamedFiles.{AreFiles, SomeFailed}
use Rattle.lisa_outcomes.specs.RunFiles.{run_bytes}
use Rattle.generator_commands.specs.description_commands.Runs.{IsCutRun}
use Rattle.generator_commands.specs.module_commands.Clocks.{IsCutClock}
use Rattle.command_words.specs.Requests.{Request, Format, Check, Verilog, Assemble, Link, Disassemble, Generate, Soak, Export, Import, Replay, Occupancy, Simulate, Clock, reads_input}
use Rattle.lisa_cli.specs.Files.{files_of}

-- what the files hold and what the input has left before and after, and how often each had failed before and after
pub record Readings : Type 0 where
  pub held : Held
  pub held_after : Held
  pub file_faults : List ℕ → ℕ
  pub file_faults_after : List ℕ → ℕ
  pub input : Option (List ℕ)
  pub input_after : Option (List ℕ)
  pub input_faults : ℕ
  pub input_faults_after : ℕ

abbrev pub readings : Held → Held → (List ℕ → ℕ) → (List ℕ → ℕ) → Option (List ℕ) → Option (List ℕ) → ℕ → ℕ → Readings
readings held held_after file_faults file_faults_after input input_after input_faults input_faults_after = record {
  held = held;
  held_after = held_after;
  file_faults = file_faults;
  file_faults_after = file_faults_after;
  input = input;
  input_after = input_after;
  input_faults = input_faults;
  input_faults_after = input_faults_after;
}

-- what out and err held before and after, what out has sent on for good after, and how often each had failed before and after
pub record Writings : Type 0 where
  pub out : Option (List ℕ)
  pub out_after : Option (List ℕ)
  pub out_sent : Option (List ℕ)
  pub out_faults : ℕ
  pub out_faults_after : ℕ
  pub err : Option (List ℕ)
  pub err_after : Option (List ℕ)
  pub err_faults : ℕ
  pub err_faults_after : ℕ

abbrev pub writings : Option (List ℕ) → Option (List ℕ) → Option (List ℕ) → ℕ → ℕ → Option (List ℕ) → Option (List ℕ) → ℕ → ℕ → Writings
writings out out_after out_sent out_faults out_faults_after err err_after err_faults err_faults_after = record {
  out = out;
  out_after = out_after;
  out_sent = out_sent;
  out_faults = out_faults;
  out_faults_after = out_faults_after;
  err = err;
  err_after = err_after;
  err_faults = err_faults;
  err_faults_after = err_faults_after;
}

pub record World : Type 0 where
  pub reads : Readings
  pub writes : Writings

abbrev pub world : Readings → Writings → World
world reads writes = record { reads = reads; writes = writes }

-- the input is told, where the request reads it
abbrev pub IsHeard : Request → (left : Option (List ℕ)) → List ℕ → Type 0
IsHeard request left input = reads_input request ≡ true → left ≡ Some input

-- the files are told, and so is the input where the request reads it
pub record IsGiven (held : Held) (left : Option (List ℕ)) (request : Request) (given : Given) : Type 0 where
  pub files : held ≡ Some given.files
  pub lines : IsHeard request left given.input

-- what the request reads is told
abbrev pub IsKnown : World → Request → Given → Type 0
IsKnown w request given = IsGiven w.reads.held w.reads.input request given

-- the input failed, which the request reads
abbrev pub HasFailed : Request → (before now : ℕ) → Type 0
HasFailed request before now = (reads_input request ≡ true) × Rose before now

-- a file that the request names failed, or the input, where the request reads it
abbrev pub Blames : Readings → Request → Type 0
Blames r request = SomeFailed (files_of request) r.file_faults r.file_faults_after ⊎ HasFailed request r.input_faults r.input_faults_after

-- the lines that were taken of the input are answered, over the bytes of the files, or on a board nothing was written
abbrev pub IsCutOver : Request → (bytes : List (List ℕ)) → (left rest before after : Option (List ℕ)) → Type 0
IsCutOver (Format description) bytes left rest before after = ⊥
IsCutOver (Check description) bytes left rest before after = ⊥
IsCutOver (Verilog description) bytes left rest before after = ⊥
IsCutOver (Assemble description source) bytes left rest before after = ⊥
IsCutOver (Link description objects) bytes left rest before after = ⊥
IsCutOver (Disassemble description image) bytes left rest before after = ⊥
IsCutOver (Generate description number count) bytes left rest before after = ⊥
IsCutOver (Soak description verilog number count edges) bytes left rest before after = ⊥
IsCutOver (Export format description image memory) bytes left rest before after = ⊥
IsCutOver (Import format description file memory) bytes left rest before after = ⊥
IsCutOver (Replay dump) bytes left rest before after = ⊥
IsCutOver (Occupancy names edges) bytes left rest before after = ⊥
IsCutOver (Simulate task names) bytes left rest before after = IsCutRun task (run_bytes names bytes) left rest before after
IsCutOver (Clock task names) bytes left rest before after = IsCutClock task (run_bytes names bytes) left rest before after

-- what stands after a read fault: nothing was written where a file failed, or the input of a board, and where that of a session failed, the
-- lines that were taken are answered
pub data Blamed (r : Readings) (before after : Option (List ℕ)) (request : Request) : Type 0 where
  file_failed : SomeFailed (files_of request) r.file_faults r.file_faults_after → Appends before after [] → Blamed r before after request
  input_failed : HasFailed request r.input_faults r.input_faults_after
      → ((files : FileMap) → r.held ≡ Some files → (bytes : List (List ℕ)) × AreFiles files (files_of request) bytes × IsCutOver request bytes r.input r.input_after before after)
      → Blamed r before after request

-- nothing that the request uses failed
pub record NoneFailed (w : World) (request : Request) : Type 0 where
  pub read : Blames w.reads request → ⊥
  pub out : Rose w.writes.out_faults w.writes.out_faults_after → ⊥
  pub err : Rose w.writes.err_faults w.writes.err_faults_after → ⊥
