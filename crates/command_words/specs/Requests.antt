-- What the words of a command line ask for.
use Rattle.std.specs.Prelude.{ℕ, ◌≡◌, ◌≢◌, ◌<◌, ◌≤◌, ◌^◌, ◌||◌, Bool, true, false, List, [], ◌∷◌, Option, Some, None, codes, decimal, length}
use Rattle.std.specs.List.{AllByRecursion}
use Rattle.std.specs.Str.{bytes_eq}
use Rattle.hex_files.specs.declared.formats.MemoryFormat.{MemoryFormat}
use Rattle.hex_files.specs.declared.formats.MemoryFormat.TheVariants as formats
use Rattle.lisa_outcomes.specs.RunFiles.{RunNames}
use Rattle.engine_commands.specs.declared.tasks.Task.{Task}
use Rattle.engine_commands.specs.declared.tasks.Task.TheVariants as tasks
use Rattle.engine_commands.specs.Tasks.{takes_input, is_on_board}

-- a command with its files and numbers
pub data Request : Type 0 where
  -- description
  Format : List ℕ → Request
  Check : List ℕ → Request
  Verilog : List ℕ → Request
  -- description and source
  Assemble : List ℕ → List ℕ → Request
  -- description and objects
  Link : List ℕ → List (List ℕ) → Request
  -- description and image
  Disassemble : List ℕ → List ℕ → Request
  -- description, the number that a program is drawn from, and how many instructions it has
  Generate : List ℕ → (number count : ℕ) → Request
  -- description and module, the same of a program, and how many edges are made with it
  Soak : List ℕ → List ℕ → (number count edges : ℕ) → Request
  -- how the memory is written, description, image, and the memory's name
  Export : MemoryFormat → (description image memory : List ℕ) → Request
  -- how it is written, description, the file that has it, and the memory's name
  Import : MemoryFormat → (description file memory : List ℕ) → Request
  -- dump of waves
  Replay : List ℕ → Request
  -- the files of a run over a description, and how many edges are made
  Occupancy : RunNames → (edges : ℕ) → Request
  -- what is to be done with the simulator of a description, and its files
  Simulate : Task → RunNames → Request
  -- what is to be done with the clock of a module, and its files
  Clock : Task → RunNames → Request

-- a dash stands where a file is left out
abbrev pub file_word : Option (List ℕ) → List ℕ
file_word None = codes "-"
file_word (Some name) = name

abbrev pub simulator_word : Task → List ℕ
simulator_word (tasks.State edges) = codes "run"
simulator_word (tasks.Trace edges) = codes "trace"
simulator_word (tasks.Waves edges) = codes "vcd"
simulator_word (tasks.Board edges) = codes "board"
simulator_word tasks.Answers = codes "debug"

abbrev pub is_simulator_word : List ℕ → Bool
is_simulator_word word = bytes_eq word (codes "run") || bytes_eq word (codes "trace") || bytes_eq word (codes "vcd") || bytes_eq word (codes "board") || bytes_eq word (codes "debug")

abbrev pub clock_word : Task → List ℕ
clock_word (tasks.State edges) = codes "clock"
clock_word (tasks.Trace edges) = codes "clocktrace"
clock_word (tasks.Waves edges) = codes "vvcd"
clock_word (tasks.Board edges) = codes "vboard"
clock_word tasks.Answers = codes "vdebug"

abbrev pub export_word : MemoryFormat → List ℕ
export_word formats.Hex = codes "tohex"
export_word formats.Memh = codes "tomem"

abbrev pub import_word : MemoryFormat → List ℕ
import_word formats.Hex = codes "fromhex"
import_word formats.Memh = codes "frommem"

-- the words behind the files
abbrev pub count_words : Task → List (List ℕ)
count_words (tasks.State edges) = decimal edges ∷ []
count_words (tasks.Trace edges) = decimal edges ∷ []
count_words (tasks.Waves edges) = decimal edges ∷ []
count_words (tasks.Board edges) = decimal edges ∷ []
count_words tasks.Answers = []

abbrev pub run_words : RunNames → List (List ℕ) → List (List ℕ)
run_words names counts = names.main ∷ file_word names.image ∷ file_word names.schedule ∷ counts

abbrev pub request_words : Request → List (List ℕ)
request_words (Format description) = codes "fmt" ∷ description ∷ []
request_words (Check description) = codes "check" ∷ description ∷ []
request_words (Verilog description) = codes "verilog" ∷ description ∷ []
request_words (Assemble description source) = codes "asm" ∷ description ∷ source ∷ []
request_words (Link description objects) = codes "link" ∷ description ∷ objects
request_words (Disassemble description image) = codes "dis" ∷ description ∷ image ∷ []
request_words (Generate description number count) = codes "gen" ∷ description ∷ decimal number ∷ decimal count ∷ []
request_words (Soak description verilog number count edges) = codes "soak" ∷ description ∷ verilog ∷ decimal number ∷ decimal count ∷ decimal edges ∷ []
request_words (Export format description image memory) = export_word format ∷ description ∷ image ∷ memory ∷ []
request_words (Import format description file memory) = import_word format ∷ description ∷ file ∷ memory ∷ []
request_words (Replay dump) = codes "unvcd" ∷ dump ∷ []
request_words (Occupancy names edges) = codes "occupancy" ∷ run_words names (decimal edges ∷ [])
request_words (Simulate task names) = simulator_word task ∷ run_words names (count_words task)
request_words (Clock task names) = clock_word task ∷ run_words names (count_words task)

-- a word that names a file
pub record IsFileName (name : List ℕ) : Type 0 where
  pub some : name ≢ []
  pub no_dash : name ≢ codes "-"

abbrev pub IsAnyName : Option (List ℕ) → Type 0
IsAnyName None = Unit {0}
IsAnyName (Some name) = IsFileName name

pub record AreNames (names : RunNames) : Type 0 where
  pub main : IsFileName names.main
  pub image : IsAnyName names.image
  pub schedule : IsAnyName names.schedule

-- a board isn't left out
abbrev pub HasBoard : Task → RunNames → Type 0
HasBoard task names = is_on_board task ≡ true → names.schedule ≢ None

-- the most edges where nothing is told of the single ones
abbrev pub edge_limit : ℕ
edge_limit = 1000000

-- and where each is told
abbrev pub trace_limit : ℕ
trace_limit = 10000

-- the most instructions of a program that is drawn
abbrev pub instruction_limit : ℕ
instruction_limit = 65536

-- the numbers of a program that is drawn are within their limits
pub record IsDraw (number count : ℕ) : Type 0 where
  pub fits : number < 2 ^ 64
  pub few : count ≤ instruction_limit

-- the number of edges is within its limit
abbrev pub IsCounted : Task → Type 0
IsCounted (tasks.State edges) = edges ≤ edge_limit
IsCounted (tasks.Trace edges) = edges ≤ trace_limit
IsCounted (tasks.Waves edges) = edges ≤ trace_limit
IsCounted (tasks.Board edges) = edges ≤ edge_limit
IsCounted tasks.Answers = Unit {0}

-- from 1 to 32 objects
pub record AreObjectNames (objects : List (List ℕ)) : Type 0 where
  pub names : AllByRecursion IsFileName objects
  pub some : 1 ≤ length objects
  pub few : length objects ≤ 32

-- each file has a name, a memory's name is a word, and the numbers are within their limits
abbrev pub IsAllowed : Request → Type 0
IsAllowed (Format description) = IsFileName description
IsAllowed (Check description) = IsFileName description
IsAllowed (Verilog description) = IsFileName description
IsAllowed (Assemble description source) = IsFileName description × IsFileName source
IsAllowed (Link description objects) = IsFileName description × AreObjectNames objects
IsAllowed (Disassemble description image) = IsFileName description × IsFileName image
IsAllowed (Generate description number count) = IsFileName description × IsDraw number count
IsAllowed (Soak description verilog number count edges) = IsFileName description × IsFileName verilog × IsDraw number count × edges ≤ edge_limit
IsAllowed (Export format description image memory) = IsFileName description × IsFileName image × (memory ≢ [])
IsAllowed (Import format description file memory) = IsFileName description × IsFileName file × (memory ≢ [])
IsAllowed (Replay dump) = IsFileName dump
IsAllowed (Occupancy names edges) = AreNames names × edges ≤ edge_limit
IsAllowed (Simulate task names) = AreNames names × IsCounted task × HasBoard task names
IsAllowed (Clock task names) = AreNames names × IsCounted task × HasBoard task names

-- it takes the lines of the input
abbrev pub reads_input : Request → Bool
reads_input (Format description) = false
reads_input (Check description) = false
reads_input (Verilog description) = false
reads_input (Assemble description source) = false
reads_input (Link description objects) = false
reads_input (Disassemble description image) = false
reads_input (Generate description number count) = false
reads_input (Soak description verilog number count edges) = false
reads_input (Export format description image memory) = false
reads_input (Import format description file memory) = false
reads_input (Replay dump) = false
reads_input (Occupancy names edges) = false
reads_input (Simulate task names) = takes_input task
reads_input (Clock task names) = takes_input task

-- the words ask for this
pub record Asks (words : List (List ℕ)) (request : Request) : Type 0 where
  pub spelled : words ≡ request_words request
  pub allowed : IsAllowed request
