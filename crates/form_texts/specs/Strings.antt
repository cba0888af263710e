-- Strings that many forms write, kept once for all of them.
use Rattle.std.specs.Prelude.{ℕ, ◌≡◌, ◌<◌, Bool, true, false, ◌&&◌, List, [], ◌∷◌, ◌++◌, Option, None, Some, length, map, take, nat_eq, slice_get}
use Rattle.std.specs.Global.{Vec}
use Rattle.std.specs.List.{flat_map}
use Rattle.instruction_texts.specs.declared.shapes.Shape.{Shape}
use Rattle.instruction_texts.specs.Symbols.{Sym, Byte, Gap, Shown, text_sym, gather, parts_from, is_clean}
use Rattle.text_tables.specs.Shared.{shapes_at}
use Rattle.form_texts.specs.Syntaxes.{kind_of}
use Rattle.form_texts.specs.Pieces.{ended, dotted}
use Rattle.form_texts.specs.declared.symbols.Symbol.{Symbol}
use Rattle.form_texts.specs.declared.symbols.Symbol.TheVariants as symbols
use Rattle.form_texts.specs.declared.strings.Strings.{Strings}
use Rattle.form_texts.specs.declared.strings.StringTable.{StringTable}

-- the strings of a number, if there are so many
abbrev pub strings_at : List Strings → ℕ → Option Strings
strings_at all k = slice_get all k

abbrev pub bytes_of : Option Strings → List ℕ
bytes_of None = []
bytes_of (Some s) = s.text.items

-- the symbols that the code's one stands for
abbrev pub symbols_of : List Strings → Symbol → List (Sym ℕ)
symbols_of all (symbols.Byte b) = Byte b ∷ []
symbols_of all symbols.Gap = Gap ∷ []
symbols_of all (symbols.Number format width field) = Shown (kind_of format) width field ∷ []
symbols_of all (symbols.Strings k) = map text_sym (bytes_of (strings_at all k))

-- the number of the strings that a symbol is, and the field whose number it is
abbrev pub strings_number : Symbol → Option ℕ
strings_number (symbols.Strings k) = Some k
strings_number _ = None

abbrev pub field_number : Symbol → Option ℕ
field_number (symbols.Number format width field) = Some field
field_number _ = None

-- what a child writes
abbrev pub part_of : List Strings → Vec Symbol → List (Sym ℕ)
part_of all part = flat_map (symbols_of all) part.items

-- Behind any run, a text that goes on with these strings has that run with their front, the pieces between, and what follows behind the run
-- at their end.
pub record IsOpened (s : Strings) (pieces : List Shape) : Type 0 where
  pub gathers : (p : List ℕ) (rest : List (Sym ℕ)) → gather p (map text_sym s.text.items ++ rest) ≡ ended (p ++ take s.head s.text.items) ++ (pieces ++ gather s.run.items rest)
  pub parts : (rest : List (Sym ℕ)) → parts_from (map text_sym s.text.items ++ rest) ≡ nat_eq s.head 0
  pub dots : dotted pieces ≡ s.dotted

-- the strings stand with the pieces between
pub record AreOpened (t : StringTable) : Type 0 where
  pub count : length t.shared.items ≡ length t.strings.items
  pub opened : (k : ℕ) (s : Strings) → strings_at t.strings.items k ≡ Some s → IsOpened s (shapes_at (map (λ v. v.items) t.shared.items) k)
  pub front : (k : ℕ) (s : Strings) → strings_at t.strings.items k ≡ Some s → s.head < length s.text.items

-- ---- runs behind numbers

-- each number is the last thing in its run, also one that stands before
abbrev pub clean_behind : Bool → List (Sym ℕ) → Bool
clean_behind true s = parts_from s && is_clean s
clean_behind false s = is_clean s

-- the same of what follows, where it isn't decided
abbrev pub clean_after : Option Bool → List (Sym ℕ) → Bool
clean_after None s = false
clean_after (Some b) s = clean_behind b s
