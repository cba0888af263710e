-- What entries of lines define and hold, line by line.
use Rattle.std.proofs.Common.{◌≡◌, ℕ, ◌+◌, Bool, true, false, cond, List, ◌∷◌, ◌++◌, length, Option, None, Some, refl, sym, ap, add-zero}
use Rattle.std.specs.Option.{option_or}
use Rattle.std.specs.Str.{bytes_eq}
use Rattle.std.proofs.lemmas.List.{length-replicate}
use Rattle.lisa_object.specs.Objects.{PlainObjectLine, Section, Space, Label, Equ, Global, Cell, Fix}
use Rattle.placed_programs.specs.Entries.{entries_of}
use Rattle.placed_programs.specs.Addresses.{Counts, adding, address, counts_after, definitions}
use Rattle.placed_programs.specs.Symbols.{Symbols}
use Rattle.placed_programs.specs.Placed.{object_sense, cells_in}
use Rattle.object_links.specs.LinkFaults.{range_in}
use Rattle.object_links.specs.LineSizes.{line_size, line_enters}
use Rattle.lisa_linker.specs.LineValues.{line_defines, line_cells, line_fault}
use Rattle.lisa_linker.specs.Tables.{is_here}
use Rattle.lisa_linker.proofs.FixBits.{fixed_is}

-- no cell more
adding_none : (here : Option (List ℕ)) (counts : Counts) → counts ≡ adding here 0 counts
adding_none None counts = refl
adding_none (Some p) counts = λ i m. by m (bytes_eq m p) i
  where
    by : (m : List ℕ) (b : Bool) → counts m ≡ cond b (counts m + 0) (counts m)
    by m true = sym (add-zero (counts m))
    by m false = refl

pub counts_line : (counts : Counts) (here : Option (List ℕ)) (l : PlainObjectLine) (ls : List PlainObjectLine)
    → counts_after counts here (entries_of (l ∷ ls)) ≡ counts_after (adding here (line_size l) counts) (line_enters here l) (entries_of ls)
counts_line counts here (Section n w) ls = refl
counts_line counts here (Space n) ls = refl
counts_line counts here (Label n) ls = refl
counts_line counts here (Equ n v) ls = refl
counts_line counts here (Global n) ls = refl
counts_line counts here (Cell v) ls = refl
counts_line counts here (Fix l w k s) ls = ap (λ (c : Counts). counts_after c here (entries_of ls)) (adding_none here counts)

pub defines_line : (counts : Counts) (here : Option (List ℕ)) (l : PlainObjectLine) (ls : List PlainObjectLine)
    → definitions counts here (entries_of (l ∷ ls)) ≡ line_defines counts here l ++ definitions (adding here (line_size l) counts) (line_enters here l) (entries_of ls)
defines_line counts here (Section n w) ls = refl
defines_line counts here (Space n) ls = refl
defines_line counts here (Label n) ls = refl
defines_line counts here (Equ n v) ls = refl
defines_line counts here (Global n) ls = refl
defines_line counts here (Cell v) ls = refl
defines_line counts here (Fix l w k s) ls = ap (λ (c : Counts). definitions c here (entries_of ls)) (adding_none here counts)

pub range_line : (number : ℕ) (symbols : Symbols) (counts : Counts) (here : Option (List ℕ)) (l : PlainObjectLine) (ls : List PlainObjectLine)
    → range_in number symbols counts here (entries_of (l ∷ ls))
    ≡ option_or (line_fault number symbols here (address here counts) l ls) (range_in number symbols (adding here (line_size l) counts) (line_enters here l) (entries_of ls))
range_line number symbols counts here (Section n w) ls = refl
range_line number symbols counts here (Space n) ls = refl
range_line number symbols counts here (Label n) ls = refl
range_line number symbols counts here (Equ n v) ls = refl
range_line number symbols counts here (Global n) ls = refl
range_line number symbols counts here (Cell v) ls = refl
range_line number symbols counts here (Fix l w k s) ls = ap (λ (c : Counts). range_in number symbols c here (entries_of ls)) (adding_none here counts)

-- ---- cells of a memory

-- whether the memory is entered behind a line
abbrev pub inside_behind : List ℕ → Bool → PlainObjectLine → Bool
inside_behind m b (Section n w) = bytes_eq m n
inside_behind m b (Space n) = b
inside_behind m b (Label n) = b
inside_behind m b (Equ n v) = b
inside_behind m b (Global n) = b
inside_behind m b (Cell v) = b
inside_behind m b (Fix l w k s) = b

pub here_behind : (m : List ℕ) (here : Option (List ℕ)) (l : PlainObjectLine) → inside_behind m (is_here m here) l ≡ is_here m (line_enters here l)
here_behind m here (Section n w) = refl
here_behind m here (Space n) = refl
here_behind m here (Label n) = refl
here_behind m here (Equ n v) = refl
here_behind m here (Global n) = refl
here_behind m here (Cell v) = refl
here_behind m here (Fix l w k s) = refl

pub inside_line : (symbols : Symbols) (m : List ℕ) (a : ℕ) (l : PlainObjectLine) (ls : List PlainObjectLine)
    → cells_in object_sense symbols m true a (entries_of (l ∷ ls)) ≡ line_cells symbols a l ls ++ cells_in object_sense symbols m (inside_behind m true l) (a + line_size l) (entries_of ls)
inside_line symbols m a (Section n w) ls = refl
inside_line symbols m a (Space n) ls = refl
inside_line symbols m a (Label n) ls = refl
inside_line symbols m a (Equ n v) ls = refl
inside_line symbols m a (Global n) ls = refl
inside_line symbols m a (Cell v) ls = ap (λ (x : ℕ). x ∷ cells_in object_sense symbols m true (a + 1) (entries_of ls)) (sym (fixed_is symbols a v ls))
inside_line symbols m a (Fix l w k s) ls = ap (λ (b : ℕ). cells_in object_sense symbols m true b (entries_of ls)) (sym (add-zero a))

pub outside_line : (symbols : Symbols) (m : List ℕ) (a : ℕ) (l : PlainObjectLine) (ls : List PlainObjectLine)
    → cells_in object_sense symbols m false a (entries_of (l ∷ ls)) ≡ cells_in object_sense symbols m (inside_behind m false l) a (entries_of ls)
outside_line symbols m a (Section n w) ls = refl
outside_line symbols m a (Space n) ls = refl
outside_line symbols m a (Label n) ls = refl
outside_line symbols m a (Equ n v) ls = refl
outside_line symbols m a (Global n) ls = refl
outside_line symbols m a (Cell v) ls = refl
outside_line symbols m a (Fix l w k s) ls = refl

pub line_length : (symbols : Symbols) (a : ℕ) (l : PlainObjectLine) (ls : List PlainObjectLine) → length (line_cells symbols a l ls) ≡ line_size l
line_length symbols a (Section n w) ls = refl
line_length symbols a (Space n) ls = length-replicate n 0
line_length symbols a (Label n) ls = refl
line_length symbols a (Equ n v) ls = refl
line_length symbols a (Global n) ls = refl
line_length symbols a (Cell v) ls = refl
line_length symbols a (Fix l w k s) ls = refl
