-- The cells of one line more.
use Rattle.std.proofs.Common.{◌≡◌, ℕ, ◌+◌, Bool, true, false, cond, List, ◌∷◌, ◌++◌, length, Option, None, Some, refl, sym, ap, ◌∙◌, append_assoc}
use Rattle.std.specs.Option.{option_or}
use Rattle.std.specs.Str.{bytes_eq}
use Rattle.std.proofs.lemmas.List.{length-append}
use Rattle.std.proofs.lemmas.Slice.Eq.{bytes_eq-Decides}
use Rattle.lisa_object.specs.Objects.{PlainObjectLine}
use Rattle.lisa_object.specs.declared.faults.LinkFault.{LinkFault}
use Rattle.placed_programs.specs.Entries.{entries_of}
use Rattle.placed_programs.specs.Addresses.{Counts, adding, address}
use Rattle.placed_programs.specs.Symbols.{Symbols}
use Rattle.placed_programs.specs.Placed.{object_sense, cells_in}
use Rattle.object_links.specs.LinkFaults.{range_in}
use Rattle.object_links.specs.LineSizes.{line_size, line_enters}
use Rattle.lisa_linker.specs.LineValues.{line_cells, line_fault}
use Rattle.lisa_linker.specs.Tables.{behind_if, is_here}
use Rattle.lisa_linker.proofs.ByLine.{inside_behind, here_behind, inside_line, outside_line, line_length, range_line}

-- cells of memories by their names
abbrev pub Table : Type 0
Table = List ℕ → List ℕ

abbrev pub sizes : Table → Counts
sizes cells m = length (cells m)

-- the memory that is entered has the address
pub address_is : (counts : Counts) (m : List ℕ) (here : Option (List ℕ)) → is_here m here ≡ true → address here counts ≡ counts m
address_is counts m None e = absurd (cc e)
address_is counts m (Some n) e = ap counts (sym ((bytes_eq-Decides m n).0 e))

module _ (symbols : Symbols) (old new : Table) (here : Option (List ℕ)) (l : PlainObjectLine) (ls : List PlainObjectLine)
    (step : (m : List ℕ) → new m ≡ behind_if (is_here m here) (line_cells symbols (address here (sizes old)) l ls) (old m)) where
  -- a memory with its cells so far and those of the lines that are left
  abbrev Whole : Table → List ℕ → Option (List ℕ) → List PlainObjectLine → List ℕ
  Whole cells m h rest = cells m ++ cells_in object_sense symbols m (is_here m h) (length (cells m)) (entries_of rest)

  size_behind : (m : List ℕ) → length (new m) ≡ adding here (line_size l) (sizes old) m
  size_behind m = by here refl
    where
      sized : (b : Bool) → length (behind_if b (line_cells symbols (address here (sizes old)) l ls) (old m)) ≡ cond b (length (old m) + line_size l) (length (old m))
      sized true =
          length-append (old m) (line_cells symbols (address here (sizes old)) l ls)
          ∙ ap (λ (k : ℕ). length (old m) + k) (line_length symbols (address here (sizes old)) l ls)
      sized false = refl

      by : (h : Option (List ℕ)) → here ≡ h → length (new m) ≡ adding h (line_size l) (sizes old) m
      by None e = ap length (step m ∙ ap (λ (h : Option (List ℕ)). behind_if (is_here m h) (line_cells symbols (address here (sizes old)) l ls) (old m)) e)
      by (Some n) e =
          ap length (step m ∙ ap (λ (h : Option (List ℕ)). behind_if (is_here m h) (line_cells symbols (address here (sizes old)) l ls) (old m)) e)
          ∙ sized (bytes_eq m n)

  pub sizes_behind : sizes new ≡ adding here (line_size l) (sizes old)
  sizes_behind = λ i m. size_behind m i

  pub cells_go_on : (m : List ℕ) → Whole new m (line_enters here l) ls ≡ Whole old m here (l ∷ ls)
  cells_go_on m = by (is_here m here) refl
    where
      own : List ℕ
      own = line_cells symbols (address here (sizes old)) l ls

      by : (b : Bool) → is_here m here ≡ b → Whole new m (line_enters here l) ls ≡ Whole old m here (l ∷ ls)
      by true e =
          let a : ℕ = length (old m) in
          let at : address here (sizes old) ≡ a = address_is (sizes old) m here e in
          let now : new m ≡ old m ++ own = step m ∙ ap (λ (b : Bool). behind_if b own (old m)) e in
          let is : own ≡ line_cells symbols a l ls = ap (λ (k : ℕ). line_cells symbols k l ls) at in
          let size : length (old m ++ own) ≡ a + line_size l = length-append (old m) own ∙ ap (λ (k : ℕ). a + k) (line_length symbols (address here (sizes old)) l ls) in
          let in_next : is_here m (line_enters here l) ≡ inside_behind m true l = sym (here_behind m here l) ∙ ap (λ (b : Bool). inside_behind m b l) e in
          let rest : ℕ → Bool → List ℕ = λ k b. cells_in object_sense symbols m b k (entries_of ls) in
          let moved : (old m ++ own) ++ rest (a + line_size l) (inside_behind m true l) ≡ old m ++ (own ++ rest (a + line_size l) (inside_behind m true l)) = simp append_assoc in
          ap (λ (xs : List ℕ). xs ++ rest (length xs) (is_here m (line_enters here l))) now
          ∙ ap (λ (k : ℕ). (old m ++ own) ++ rest k (is_here m (line_enters here l))) size
          ∙ ap (λ (b : Bool). (old m ++ own) ++ rest (a + line_size l) b) in_next
          ∙ moved
          ∙ ap (λ (xs : List ℕ). old m ++ (xs ++ rest (a + line_size l) (inside_behind m true l))) is
          ∙ ap (λ (xs : List ℕ). old m ++ xs) (sym (inside_line symbols m a l ls))
          ∙ ap (λ (b : Bool). old m ++ cells_in object_sense symbols m b a (entries_of (l ∷ ls))) (sym e)
      by false e =
          let a : ℕ = length (old m) in
          let now : new m ≡ old m = step m ∙ ap (λ (b : Bool). behind_if b own (old m)) e in
          let in_next : is_here m (line_enters here l) ≡ inside_behind m false l = sym (here_behind m here l) ∙ ap (λ (b : Bool). inside_behind m b l) e in
          let rest : ℕ → Bool → List ℕ = λ k b. cells_in object_sense symbols m b k (entries_of ls) in
          ap (λ (xs : List ℕ). xs ++ rest (length xs) (is_here m (line_enters here l))) now
          ∙ ap (λ (b : Bool). old m ++ rest a b) in_next
          ∙ ap (λ (xs : List ℕ). old m ++ xs) (sym (outside_line symbols m a l ls))
          ∙ ap (λ (b : Bool). old m ++ cells_in object_sense symbols m b a (entries_of (l ∷ ls))) (sym e)

  -- where the line has no fault, the lines behind it decide
  pub range_goes_on : (number : ℕ) → line_fault number symbols here (address here (sizes old)) l ls ≡ None
      → range_in number symbols (sizes new) (line_enters here l) (entries_of ls) ≡ range_in number symbols (sizes old) here (entries_of (l ∷ ls))
  range_goes_on number none =
      ap (λ (c : Counts). range_in number symbols c (line_enters here l) (entries_of ls)) sizes_behind
      ∙ sym (ap (λ (f : Option LinkFault). option_or f (range_in number symbols (adding here (line_size l) (sizes old)) (line_enters here l) (entries_of ls))) none)
      ∙ sym (range_line number symbols (sizes old) here l ls)

pub range_stops : (number : ℕ) (symbols : Symbols) (counts : Counts) (here : Option (List ℕ)) (l : PlainObjectLine) (ls : List PlainObjectLine) (f : LinkFault)
    → line_fault number symbols here (address here counts) l ls ≡ Some f → range_in number symbols counts here (entries_of (l ∷ ls)) ≡ Some f
range_stops number symbols counts here l ls f e =
    range_line number symbols counts here l ls
    ∙ ap (λ (g : Option LinkFault). option_or g (range_in number symbols (adding here (line_size l) counts) (line_enters here l) (entries_of ls))) e
