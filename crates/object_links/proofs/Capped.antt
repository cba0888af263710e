-- Counts of cells that stop at 2 ^ 64 - 1.
use Rattle.std.proofs.Common.{◌≡◌, ℕ, ◌+◌, Bool, true, false, cond, List, [], ◌∷◌, Option, None, Some, refl, sym, ap, ◌∙◌, arith}
use Rattle.std.specs.Str.{bytes_eq}
use Rattle.lisa_object.specs.Objects.{PlainObjectLine, Section, Space, Label, Equ, Global, Cell, Fix}
use Rattle.placed_programs.specs.Entries.{Entry, PlainCell, entries_of}
use Rattle.placed_programs.specs.Addresses.{Counts, adding, entry_size, entered, counts_after}
use Rattle.object_links.specs.LinkFaults.{capped, all_counts}
use Rattle.object_links.specs.LineSizes.{line_size, line_enters}

abbrev pub Alike : Counts → Counts → Type 0
Alike one other = (m : List ℕ) → capped (one m) ≡ capped (other m)

more : (a b n : ℕ) → capped a ≡ capped b → capped (a + n) ≡ capped (b + n)
more a b n e = omega (arith, e)

adding_alike : (one other : Counts) → Alike one other → (here : Option (List ℕ)) (n : ℕ) → Alike (adding here n one) (adding here n other)
adding_alike one other same None n m = same m
adding_alike one other same (Some p) n m = by (bytes_eq m p)
  where
    by : (b : Bool) → capped (cond b (one m + n) (one m)) ≡ capped (cond b (other m + n) (other m))
    by true = more (one m) (other m) n (same m)
    by false = same m

pub after_alike : (one other : Counts) → Alike one other → (here : Option (List ℕ)) (es : List (Entry PlainCell)) → Alike (counts_after one here es) (counts_after other here es)
after_alike one other same here [] m = same m
after_alike one other same here (e ∷ es) m =
    after_alike (adding here (entry_size e) one) (adding here (entry_size e) other) (adding_alike one other same here (entry_size e)) (entered here e) es m

pub all_alike : (one other : Counts) → Alike one other → (parts : List (List (Entry PlainCell))) → Alike (all_counts one parts) (all_counts other parts)
all_alike one other same [] m = same m
all_alike one other same (es ∷ parts) m = all_alike (counts_after one None es) (counts_after other None es) (after_alike one other same None es) parts m

-- no cell more
pub none_more : (counts : Counts) (here : Option (List ℕ)) → Alike counts (adding here 0 counts)
none_more counts None m = refl
none_more counts (Some p) m = by (bytes_eq m p)
  where
    zero_more : counts m ≡ counts m + 0
    zero_more = omega arith

    by : (b : Bool) → capped (counts m) ≡ capped (cond b (counts m + 0) (counts m))
    by true = ap capped zero_more
    by false = refl

pub after_line : (counts : Counts) (here : Option (List ℕ)) (l : PlainObjectLine) (ls : List PlainObjectLine)
    → Alike (counts_after counts here (entries_of (l ∷ ls))) (counts_after (adding here (line_size l) counts) (line_enters here l) (entries_of ls))
after_line counts here (Section n w) ls m = refl
after_line counts here (Space n) ls m = refl
after_line counts here (Label n) ls m = refl
after_line counts here (Equ n v) ls m = refl
after_line counts here (Global n) ls m = refl
after_line counts here (Cell v) ls m = refl
after_line counts here (Fix l w k s) ls m = after_alike counts (adding here 0 counts) (none_more counts here) here (entries_of ls) m

-- the cells of a line are counted, and those of the lines behind it are left
pub line_counted : (old new total : Counts) (here : Option (List ℕ)) (l : PlainObjectLine) (ls : List PlainObjectLine)
    → Alike new (adding here (line_size l) old) → Alike (counts_after old here (entries_of (l ∷ ls))) total
    → Alike (counts_after new (line_enters here l) (entries_of ls)) total
line_counted old new total here l ls counted same m =
    after_alike new (adding here (line_size l) old) counted (line_enters here l) (entries_of ls) m ∙ sym (after_line old here l ls m) ∙ same m

-- the cells of an object are counted, and those of the objects behind it are left
pub object_counted : (old new total : Counts) (es : List (Entry PlainCell)) (parts : List (List (Entry PlainCell)))
    → Alike new (counts_after old None es) → Alike (all_counts old (es ∷ parts)) total → Alike (all_counts new parts) total
object_counted old new total es parts counted same m = all_alike new (counts_after old None es) counted parts m ∙ same m
