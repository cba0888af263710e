-- Reading an image, on its lines.
use Rattle.std.specs.Prelude.{ℕ, zero, suc, ◌+◌, ◌^◌, Bool, true, false, List, [], ◌∷◌, length, map, codes, Option, Some, None, nat_lt, nat_le, not, ◌==◌, ◌&&◌, if◌then◌else◌}
use Rattle.std.specs.List.{list_any, slice_split}
use Rattle.std.specs.Str.{bytes_eq}
use Rattle.lisa_engine.specs.Memory.{Memory}
use Rattle.lisa_object.specs.declared.parts.Stamped.{Stamped}
use Rattle.lisa_object.specs.declared.image_reader.Extent.{Extent}
use Rattle.lisa_object.specs.Rules.{is_visible, is_depth}
use Rattle.lisa_object.specs.Reading.{◌>>=◌, Word, first_of, is_nil, is_last, small_of, hex_of, opening_of}

-- what a memory's line may say
abbrev pub is_extent : Extent → Bool
is_extent e = nat_le 1 e.width && nat_le e.width 64 && is_depth e.depth && nat_le 1 e.count && nat_le e.count e.depth

abbrev pub extent_in : Word → Word → Word → Option Extent
extent_in width depth count =
    small_of width >>= λ w. small_of depth >>= λ d. small_of count >>= λ c.
    if is_extent (record { width = w; depth = d; count = c }) then Some (record { width = w; depth = d; count = c }) else None

abbrev pub extent_of : List Word → Option Extent
extent_of words =
    first_of words >>= λ w. first_of w.1 >>= λ d. first_of d.1 >>= λ c. if is_nil c.1 then extent_in w.0 d.0 c.0 else None

-- a memory's name and extent
abbrev pub head_of : List Word → Option (Word × Extent)
head_of words =
    first_of words >>= λ k. first_of k.1 >>= λ n.
    if bytes_eq k.0 (codes "memory") && is_visible n.0 then (extent_of n.1 >>= λ e. Some (n.0, e)) else None

unfoldable pub head_at : Word → Option (Word × Extent)
head_at line = head_of (slice_split (λ b. b == 32) line)

-- a cell's line
unfoldable pub cell_at : ℕ → Word → Option ℕ
cell_at width line = hex_of line >>= λ n. if nat_lt n (2 ^ width) then Some n else None

-- so many cells, and the lines behind them
unfoldable pub cells_of : ℕ → ℕ → List Word → Option (List ℕ × List Word)
cells_of width zero lines = Some ([], lines)
cells_of width (suc n) [] = None
cells_of width (suc n) (line ∷ lines) = cell_at width line >>= λ cell. cells_of width n lines >>= λ r. Some (cell ∷ r.0, r.1)

abbrev pub filled : Word → Extent → List ℕ → Memory
filled name e cells = record { name = name; width = e.width; depth = e.depth; cells = cells }

-- a memory, where so many cells and these names stand before it
unfoldable pub memory_of : ℕ → List Word → Word → List Word → Option (Memory × List Word)
memory_of before seen line lines =
    head_at line >>= λ h. if nat_le (before + h.1.count) 4194304 && not (list_any (bytes_eq h.0) seen) then (cells_of h.1.width h.1.count lines >>= λ r. Some (filled h.0 h.1 r.0, r.1)) else None

abbrev pub and_more : (ℕ → List Word → List Word → Option (List Memory)) → ℕ → List Word → Memory × List Word → Option (List Memory)
and_more more before seen m = more (before + length m.0.cells) (m.0.name ∷ seen) m.1 >>= λ all. Some (m.0 ∷ all)

-- at most so many memories, up to the line `end`, where so many cells and these names stand before them
unfoldable pub memories_of : ℕ → ℕ → List Word → List Word → Option (List Memory)
memories_of zero before seen lines = None
memories_of (suc n) before seen [] = None
memories_of (suc n) before seen (line ∷ lines) =
    if bytes_eq line (codes "end") then (if is_last lines then Some [] else None)
    else (memory_of before seen line lines >>= and_more (memories_of n) before seen)

-- the memories in these lines, of which there are fewer than lines
abbrev pub memories_in : List Word → Option (List Memory)
memories_in lines = memories_of (length lines) 0 [] lines

unfoldable pub image_of : List Word → Option Stamped
image_of [] = None
image_of (line ∷ lines) = opening_of (codes "image") line >>= λ d. memories_in lines >>= λ ms. Some (record { digest = d; image = ms })
