use Rattle.std.proofs.Common.{◌≡◌, ℕ, ◌<◌, get_or}
use Rattle.lisa_io.specs.Memory.{file_bytes}
use Rattle.lisa_io.specs.declared.files.MemFile.{MemFile}
use Rattle.lisa_io.proofs.files.forget_faults.Given as goal

abbrev pub invariant-loop-file : goal.invariant-loop-file
invariant-loop-file l =
    (file_bytes l.files ≡ file_bytes l.initial.files)
    × ((k : ℕ) → k < l.file-index → (d : MemFile) → (get_or l.files k d).faults ≡ 0)
