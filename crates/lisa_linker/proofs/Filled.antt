-- Cells are filled line by line, and object by object.
use Rattle.std.proofs.Common.{◌≡◌, ◌⊎◌, inl, inr, ◌≤◌, ℕ, ◌+◌, ℤ, Bool, true, false, List, [], ◌∷◌, ◌++◌, length, Option, None, Some, refl, sym, ap, ◌∙◌, append_assoc, arith}
use Rattle.std.specs.Prelude.{flat_map}
use Rattle.std.specs.Map.{lookup}
use Rattle.std.specs.Option.{option_or}
use Rattle.std.specs.Str.{bytes_eq}
use Rattle.std.proofs.lemmas.List.{length-append, append-nil}
use Rattle.lisa_object.specs.declared.rules.Standing.{Standing}
use Rattle.lisa_object.specs.declared.faults.LinkFault.{LinkFault}
use Rattle.lisa_object.specs.declared.faults.LinkFault.TheVariants as faults
use Rattle.name_tables.specs.TableViews.{value_of}
use Rattle.lisa_object.specs.Objects.{PlainObjectLine}
use Rattle.lisa_object.specs.ObjectRules.{AreLines}
use Rattle.lisa_object.specs.LineMachine.{after, start, are_lines}
use Rattle.lisa_object.proofs.LineRules.{rules_make_lines}
use Rattle.placed_programs.specs.Entries.{entries_of}
use Rattle.placed_programs.specs.Addresses.{Counts, no_cells, address, counts_after, definitions}
use Rattle.placed_programs.specs.Symbols.{Symbols, with_counts, symbol}
use Rattle.placed_programs.specs.Placed.{object_sense, cells_in, part_cells}
use Rattle.placed_programs.proofs.Counted.{counts_grow}
use Rattle.object_links.specs.LinkFaults.{Entries, range_in, range_from}
use Rattle.object_links.specs.LineSizes.{line_enters}
use Rattle.lisa_linker.specs.LineValues.{line_cells, line_fault}
use Rattle.lisa_linker.specs.Tables.{ByName, symbols_in, behind_if, is_here}
use Rattle.lisa_linker.specs.Parts.{part_fault}
use Rattle.lisa_linker.proofs.FixBits.{followed, narrow_behind}
use Rattle.lisa_linker.proofs.Steps.{Table, sizes, cells_go_on, range_goes_on, range_stops}

-- ---- lines

-- what is filled before the lines that are left, of all lines
pub record AreFilled (number : ℕ) (symbols : Symbols) (old : Table) (all : List PlainObjectLine)
    (cells : Table) (here : Option (List ℕ)) (left : List PlainObjectLine) : Type 0 where
  pub standing : Standing
  pub lines : are_lines standing left ≡ true
  pub narrow : standing.width ≤ 64
  pub filled : (m : List ℕ) → cells m ++ cells_in object_sense symbols m (is_here m here) (length (cells m)) (entries_of left)
      ≡ old m ++ cells_in object_sense symbols m false (length (old m)) (entries_of all)
  pub ranges : range_in number symbols (sizes cells) here (entries_of left) ≡ range_in number symbols (sizes old) None (entries_of all)

pub filled_on : (number : ℕ) (symbols : Symbols) (old : Table) (all : List PlainObjectLine) (cells next_cells : Table) (here next : Option (List ℕ)) (l : PlainObjectLine) (ls : List PlainObjectLine)
    → AreFilled number symbols old all cells here (l ∷ ls)
    → ((m : List ℕ) → next_cells m ≡ behind_if (is_here m here) (line_cells symbols (address here (sizes cells)) l ls) (cells m))
    → line_fault number symbols here (address here (sizes cells)) l ls ≡ None
    → next ≡ line_enters here l
    → AreFilled number symbols old all next_cells next ls
filled_on number symbols old all cells next_cells here next l ls a step none enters =
    let f = followed a.standing l ls a.lines in
    record {
      standing = after a.standing l;
      lines = f.rest;
      narrow = narrow_behind a.standing l f.may a.narrow;
      filled = λ m.
          ap (λ (h : Option (List ℕ)). next_cells m ++ cells_in object_sense symbols m (is_here m h) (length (next_cells m)) (entries_of ls)) enters
          ∙ cells_go_on symbols cells next_cells here l ls step m
          ∙ a.filled m;
      ranges =
          ap (λ (h : Option (List ℕ)). range_in number symbols (sizes next_cells) h (entries_of ls)) enters
          ∙ range_goes_on symbols cells next_cells here l ls step number none
          ∙ a.ranges;
    }

pub filled_stops : (number : ℕ) (symbols : Symbols) (old : Table) (all : List PlainObjectLine) (cells : Table) (here : Option (List ℕ)) (l : PlainObjectLine) (ls : List PlainObjectLine) (f : LinkFault)
    → AreFilled number symbols old all cells here (l ∷ ls) → line_fault number symbols here (address here (sizes cells)) l ls ≡ Some f
    → range_in number symbols (sizes old) None (entries_of all) ≡ Some f
filled_stops number symbols old all cells here l ls f a e = sym a.ranges ∙ range_stops number symbols (sizes cells) here l ls f e

pub filled_first : (number : ℕ) (symbols : Symbols) (old : Table) (all : List PlainObjectLine) → AreLines all → AreFilled number symbols old all old None all
filled_first number symbols old all rules = record { standing = start; lines = rules_make_lines all rules; narrow = omega arith; filled = λ m. refl; ranges = refl }

-- the fault of the first line is that of all lines
pub line_stops : (number : ℕ) (symbols : Symbols) (old : Table) (all : List PlainObjectLine) (cells : Table) (here : Option (List ℕ)) (l : PlainObjectLine) (ls : List PlainObjectLine) (f : LinkFault)
    → AreFilled number symbols old all cells here (l ∷ ls) → (f ≡ faults.NoMemory) ⊎ (line_fault number symbols here (address here (sizes cells)) l ls ≡ Some f)
    → (f ≡ faults.NoMemory) ⊎ (range_in number symbols (sizes old) None (entries_of all) ≡ Some f)
line_stops number symbols old all cells here l ls f a (inl e) = inl e
line_stops number symbols old all cells here l ls f a (inr e) = inr (filled_stops number symbols old all cells here l ls f a e)

-- where no line is left, the cells are there
pub filled_all : (number : ℕ) (symbols : Symbols) (old : Table) (all : List PlainObjectLine) (cells : Table) (here : Option (List ℕ)) → AreFilled number symbols old all cells here []
    → (m : List ℕ) → cells m ≡ old m ++ cells_in object_sense symbols m false (length (old m)) (entries_of all)
filled_all number symbols old all cells here a m = none (is_here m here) ∙ a.filled m
  where
    none : (b : Bool) → cells m ≡ cells m ++ cells_in object_sense symbols m b (length (cells m)) []
    none true = sym (append-nil (cells m))
    none false = sym (append-nil (cells m))

pub ranges_all : (number : ℕ) (symbols : Symbols) (old : Table) (all : List PlainObjectLine) (cells : Table) (here : Option (List ℕ)) → AreFilled number symbols old all cells here []
    → range_in number symbols (sizes old) None (entries_of all) ≡ None
ranges_all number symbols old all cells here a = sym a.ranges

-- ---- symbols

pub symbols_are : (own others : ByName ℤ) (ds shared : List (List ℕ × ℤ)) → ((n : List ℕ) → value_of own n ≡ lookup (bytes_eq n) ds) → ((n : List ℕ) → value_of others n ≡ lookup (bytes_eq n) shared)
    → symbols_in own others ≡ symbol ds shared
symbols_are own others ds shared a b = λ i n. option_or (a n i) (b n i)

module _ (number : ℕ) (own others : ByName ℤ) (shared : List (List ℕ × ℤ)) (counts : Counts) (old new : Table) (es : Entries)
    (counted : (m : List ℕ) → counts m ≡ sizes old m)
    (is_own : (n : List ℕ) → value_of own n ≡ lookup (bytes_eq n) (definitions counts None es)) (is_shared : (n : List ℕ) → value_of others n ≡ lookup (bytes_eq n) shared) where
  same : symbols_in own others ≡ symbol (definitions counts None es) shared
  same = symbols_are own others (definitions counts None es) shared is_own is_shared

  pub part_added : ((m : List ℕ) → new m ≡ old m ++ cells_in object_sense (symbols_in own others) m false (sizes old m) es) → (m : List ℕ) → new m ≡ old m ++ part_cells object_sense shared m (counts, es)
  part_added added m =
      added m
      ∙ ap (λ (s : Symbols). old m ++ cells_in object_sense s m false (sizes old m) es) same
      ∙ sym (ap (λ (k : ℕ). old m ++ cells_in object_sense (symbol (definitions counts None es) shared) m false k es) (counted m))

  pub part_range : range_in number (symbols_in own others) (sizes old) None es ≡ part_fault number shared (counts, es)
  part_range =
      ap (λ (s : Symbols). range_in number s (sizes old) None es) same
      ∙ sym (ap (λ (c : Counts). range_in number (symbol (definitions counts None es) shared) c None es) (λ i m. counted m i))

  pub part_stops : (f : LinkFault) → (f ≡ faults.NoMemory) ⊎ (range_in number (symbols_in own others) (sizes old) None es ≡ Some f) → (f ≡ faults.NoMemory) ⊎ (part_fault number shared (counts, es) ≡ Some f)
  part_stops f (inl e) = inl e
  part_stops f (inr e) = inr (sym part_range ∙ e)

-- a memory has as many cells as are counted
pub part_sized : (symbols : Symbols) (counts next : Counts) (old new : Table) (es : Entries) → ((m : List ℕ) → counts m ≡ sizes old m) → ((m : List ℕ) → next m ≡ counts_after counts None es m)
    → ((m : List ℕ) → new m ≡ old m ++ cells_in object_sense symbols m false (sizes old m) es) → (m : List ℕ) → next m ≡ sizes new m
part_sized symbols counts next old new es counted after added m =
    let more : List ℕ = cells_in object_sense symbols m false (sizes old m) es in
    after m
    ∙ counts_grow object_sense symbols m counts None (sizes old m) es
    ∙ ap (λ (k : ℕ). k + length more) (counted m)
    ∙ sym (length-append (old m) more)
    ∙ sym (ap length (added m))

-- ---- objects

-- what is filled before the parts that are left, of all parts
pub record ArePlaced (shared : List (List ℕ × ℤ)) (all : List Entries) (first : Counts) (number : ℕ) (counts : Counts) (cells : Table) (left : List Entries) : Type 0 where
  pub counted : (m : List ℕ) → counts m ≡ sizes cells m
  pub filled : (m : List ℕ) → cells m ++ flat_map (part_cells object_sense shared m) (with_counts counts left) ≡ flat_map (part_cells object_sense shared m) (with_counts first all)
  pub ranges : range_from number shared (with_counts counts left) ≡ range_from 1 shared (with_counts first all)

pub placed_on : (shared : List (List ℕ × ℤ)) (all : List Entries) (first : Counts) (number : ℕ) (counts next_counts : Counts) (cells next_cells : Table) (es : Entries) (left : List Entries)
    → ArePlaced shared all first number counts cells (es ∷ left)
    → ((m : List ℕ) → next_counts m ≡ counts_after counts None es m)
    → ((m : List ℕ) → next_cells m ≡ cells m ++ part_cells object_sense shared m (counts, es))
    → part_fault number shared (counts, es) ≡ None
    → ArePlaced shared all first (number + 1) next_counts next_cells left
placed_on shared all first number counts next_counts cells next_cells es left p counted added none =
    let same : next_counts ≡ counts_after counts None es = λ i m. counted m i in
    record {
      counted = λ m.
          counted m
          ∙ counts_grow object_sense (symbol (definitions counts None es) shared) m counts None (counts m) es
          ∙ ap (λ (k : ℕ). k + length (part_cells object_sense shared m (counts, es))) (p.counted m)
          ∙ sym (length-append (cells m) (part_cells object_sense shared m (counts, es)))
          ∙ sym (ap length (added m));
      filled = λ m.
          let own : List ℕ = part_cells object_sense shared m (counts, es) in
          let rest : Counts → List ℕ = λ c. flat_map (part_cells object_sense shared m) (with_counts c left) in
          let moved : (cells m ++ own) ++ rest (counts_after counts None es) ≡ cells m ++ (own ++ rest (counts_after counts None es)) = simp append_assoc in
          ap (λ (xs : List ℕ). xs ++ rest next_counts) (added m) ∙ ap (λ (c : Counts). (cells m ++ own) ++ rest c) same ∙ moved ∙ p.filled m;
      ranges =
          ap (λ (c : Counts). range_from (number + 1) shared (with_counts c left)) same
          ∙ sym (ap (λ (f : Option LinkFault). option_or f (range_from (number + 1) shared (with_counts (counts_after counts None es) left))) none)
          ∙ p.ranges;
    }

pub placed_stops : (shared : List (List ℕ × ℤ)) (all : List Entries) (first : Counts) (number : ℕ) (counts : Counts) (cells : Table) (es : Entries) (left : List Entries) (f : LinkFault)
    → ArePlaced shared all first number counts cells (es ∷ left) → part_fault number shared (counts, es) ≡ Some f → range_from 1 shared (with_counts first all) ≡ Some f
placed_stops shared all first number counts cells es left f p e =
    sym p.ranges ∙ ap (λ (g : Option LinkFault). option_or g (range_from (number + 1) shared (with_counts (counts_after counts None es) left))) e

pub placed_fault : (shared : List (List ℕ × ℤ)) (all : List Entries) (first : Counts) (number : ℕ) (counts : Counts) (cells : Table) (es : Entries) (left : List Entries) (f : LinkFault)
    → ArePlaced shared all first number counts cells (es ∷ left) → (f ≡ faults.NoMemory) ⊎ (part_fault number shared (counts, es) ≡ Some f)
    → (f ≡ faults.NoMemory) ⊎ (range_from 1 shared (with_counts first all) ≡ Some f)
placed_fault shared all first number counts cells es left f p (inl e) = inl e
placed_fault shared all first number counts cells es left f p (inr e) = inr (placed_stops shared all first number counts cells es left f p e)

pub placed_first : (shared : List (List ℕ × ℤ)) (all : List Entries) (counts : Counts) (cells : Table) → ((m : List ℕ) → counts m ≡ 0) → ((m : List ℕ) → cells m ≡ []) → ArePlaced shared all no_cells 1 counts cells all
placed_first shared all counts cells zero none =
    let same : counts ≡ no_cells = λ i m. zero m i in
    record {
      counted = λ m. zero m ∙ sym (ap length (none m));
      filled = λ m.
          ap (λ (xs : List ℕ). xs ++ flat_map (part_cells object_sense shared m) (with_counts counts all)) (none m)
          ∙ ap (λ (c : Counts). flat_map (part_cells object_sense shared m) (with_counts c all)) same;
      ranges = ap (λ (c : Counts). range_from 1 shared (with_counts c all)) same;
    }

pub placed_all : (shared : List (List ℕ × ℤ)) (all : List Entries) (first : Counts) (number : ℕ) (counts : Counts) (cells : Table) → ArePlaced shared all first number counts cells []
    → (m : List ℕ) → cells m ≡ flat_map (part_cells object_sense shared m) (with_counts first all)
placed_all shared all first number counts cells p m = sym (append-nil (cells m)) ∙ p.filled m
