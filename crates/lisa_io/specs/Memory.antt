-- What the fakes hold.
use Rattle.std.specs.Prelude.{ℕ, ◌+◌, ◌-◌, ◌^◌, ◌≡◌, List, Option, Bool, take, drop, min, string_bytes, find, unwrap_or, vec_len, Contains}
use Rattle.std.specs.Option.{option_map}
use Rattle.std.specs.Str.{bytes_eq}
use Rattle.lisa_io.specs.declared.calls.Calls.{Calls}
use Rattle.lisa_io.specs.declared.files.MemFile.{MemFile}
use Rattle.lisa_io.specs.declared.files.MemFiles.{MemFiles}
use Rattle.lisa_io.specs.declared.memory.MemSource.{MemSource}
use Rattle.lisa_io.specs.declared.memory.MemSink.{MemSink}

-- the number of the call that comes next
abbrev pub next_call : Calls → ℕ
next_call calls = min (calls.made + 1) (2 ^ 64 - 1)

-- the call that comes next is one of those that are to fail
abbrev pub IsToFail : Calls → Type 0
IsToFail calls = Contains calls.failing.items (next_call calls)

-- one call was counted
pub record IsNextCall (old new : Calls) : Type 0 where
  pub made : new.made ≡ next_call old
  pub failing : new.failing ≡ old.failing

-- of a source: the bytes that are left, the faults and the calls
abbrev pub bytes_left : MemSource → List ℕ
bytes_left s = drop s.at s.bytes.items

abbrev pub source_faults : MemSource → ℕ
source_faults s = s.faults

abbrev pub source_calls : MemSource → Calls
source_calls s = s.calls

-- of a sink: the bytes that were written, the room that is left, the most that one put takes, the faults and the calls
abbrev pub sink_bytes : MemSink → List ℕ
sink_bytes s = take s.len s.room.items

abbrev pub sink_room : MemSink → ℕ
sink_room s = vec_len s.room - s.len

abbrev pub sink_most : MemSink → ℕ
sink_most s = s.most

abbrev pub sink_faults : MemSink → ℕ
sink_faults s = s.faults

abbrev pub sink_calls : MemSink → Calls
sink_calls s = s.calls

-- of a file: its name and its bytes
abbrev pub file_name : MemFile → List ℕ
file_name file = string_bytes file.name

abbrev pub file_content : MemFile → List ℕ
file_content file = file.bytes.items

-- a file of this name
abbrev pub named : List ℕ → MemFile → Bool
named name file = bytes_eq (file_name file) name

-- the bytes of the first file of a name, and how often it failed; names that no file has share one count
abbrev pub file_bytes : List MemFile → List ℕ → Option (List ℕ)
file_bytes files name = option_map file_content (find (named name) files)

abbrev pub file_faults : List MemFile → ℕ → List ℕ → ℕ
file_faults files missing name = unwrap_or (option_map (λ f. f.faults) (find (named name) files)) missing

-- of files: the bytes by name, the faults by name, and the calls
abbrev pub files_held : MemFiles → List ℕ → Option (List ℕ)
files_held m = file_bytes m.files.items

abbrev pub files_faults : MemFiles → List ℕ → ℕ
files_faults m = file_faults m.files.items m.missing

abbrev pub files_calls : MemFiles → Calls
files_calls m = m.calls
