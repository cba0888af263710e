use Rattle.std.proofs.Common.{◌≡◌, ◌≤◌, ◌<◌, ◌^◌, List, ℕ, map, drop, length}
use Rattle.lisa_outcomes.specs.NamedFiles.{file_at}
use Rattle.lisa_outcomes.specs.FileViews.{named_of, all_bytes}
use Rattle.lisa_outcomes.proofs.ReadingFiles.{HasRead}
use Rattle.lisa_outcomes.proofs.loading.load_files.Given as goal

abbrev pub invariant-loop-place : goal.invariant-loop-place
invariant-loop-place g l =
    HasRead (g.F.Files.held l.fn.files) (map named_of l.fn.named) (map named_of (drop l.place l.fn.named)) (all_bytes l.all) (g.F.Files.faults l.fn.files) (g.F.Files.faults l.files)
    × (g.F.Files.held l.files ≡ g.F.Files.held l.fn.files) × ((other : List ℕ) → g.F.Files.faults l.fn.files other ≤ g.F.Files.faults l.files other)
    × ((place : ℕ) → length (file_at (all_bytes l.all) place) < 2 ^ 32)
    × (length l.all.items ≡ l.place)
