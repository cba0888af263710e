-- What is said of an object's entries, by its lines.
use Rattle.std.proofs.Common.{◌≡◌, ℕ, List, [], ◌∷◌, ◌++◌, map, filter, Option, refl, ap, ◌∙◌, append_assoc}
use Rattle.std.specs.Prelude.{flat_map}
use Rattle.std.specs.List.{list_any}
use Rattle.std.specs.Option.{option_or}
use Rattle.std.specs.Str.{bytes_eq}
use Rattle.lisa_object.specs.declared.parts.Object.{Object}
use Rattle.lisa_object.specs.Objects.{PlainObjectLine, Section, Space, Label, Equ, Global, Cell, Fix, object_tree}
use Rattle.lisa_object.specs.ObjectRules.{defined}
use Rattle.placed_programs.specs.Entries.{Entry, Enter, Room, Put, Mark, Equal, Share, PlainFix, PlainCell, fix_line, lines_of, entries_of}
use Rattle.placed_programs.specs.Symbols.{shared_by, is_shared}
use Rattle.object_links.specs.Firsts.{first_of}
use Rattle.object_links.specs.LinkFaults.{if_unknown, unknown, own_names, exported_names, fix_names, used_by}
use Rattle.object_links.specs.LineNames.{parts_of, line_unknown, line_shares, line_uses, line_exports}

pub unknown_lines : (widths : List ℕ → Option ℕ) (ls : List PlainObjectLine) → first_of (line_unknown widths) ls ≡ first_of (unknown widths) (entries_of ls)
unknown_lines widths [] = refl
unknown_lines widths (Section n w ∷ ls) = ap (option_or (if_unknown widths n w)) (unknown_lines widths ls)
unknown_lines widths (Space n ∷ ls) = unknown_lines widths ls
unknown_lines widths (Label n ∷ ls) = unknown_lines widths ls
unknown_lines widths (Equ n v ∷ ls) = unknown_lines widths ls
unknown_lines widths (Global n ∷ ls) = unknown_lines widths ls
unknown_lines widths (Cell v ∷ ls) = unknown_lines widths ls
unknown_lines widths (Fix l w k s ∷ ls) = unknown_lines widths ls

pub unknown_objects : (widths : List ℕ → Option ℕ) (objects : List Object)
    → first_of (λ o. first_of (line_unknown widths) (object_tree o).lines) objects ≡ first_of (first_of (unknown widths)) (parts_of (map object_tree objects))
unknown_objects widths [] = refl
unknown_objects widths (o ∷ objects) =
    ap (λ (x : Option (List ℕ)). option_or x (first_of (λ (p : Object). first_of (line_unknown widths) (object_tree p).lines) objects)) (unknown_lines widths (object_tree o).lines)
    ∙ ap (option_or (first_of (unknown widths) (entries_of (object_tree o).lines))) (unknown_objects widths objects)

pub shares_lines : (ls : List PlainObjectLine) → flat_map line_shares ls ≡ flat_map shared_by (entries_of ls)
shares_lines [] = refl
shares_lines (Section n w ∷ ls) = shares_lines ls
shares_lines (Space n ∷ ls) = shares_lines ls
shares_lines (Label n ∷ ls) = shares_lines ls
shares_lines (Equ n v ∷ ls) = shares_lines ls
shares_lines (Global n ∷ ls) = ap (λ (ns : List (List ℕ)). n ∷ ns) (shares_lines ls)
shares_lines (Cell v ∷ ls) = shares_lines ls
shares_lines (Fix l w k s ∷ ls) = shares_lines ls

pub defined_lines : (ls : List PlainObjectLine) → flat_map defined ls ≡ own_names (entries_of ls)
defined_lines [] = refl
defined_lines (Section n w ∷ ls) = defined_lines ls
defined_lines (Space n ∷ ls) = defined_lines ls
defined_lines (Label n ∷ ls) = ap (λ (ns : List (List ℕ)). n ∷ ns) (defined_lines ls)
defined_lines (Equ n v ∷ ls) = ap (λ (ns : List (List ℕ)). n ∷ ns) (defined_lines ls)
defined_lines (Global n ∷ ls) = defined_lines ls
defined_lines (Cell v ∷ ls) = defined_lines ls
defined_lines (Fix l w k s ∷ ls) = defined_lines ls

pub exports_lines : (ls : List PlainObjectLine) → line_exports ls ≡ exported_names (entries_of ls)
exports_lines ls =
    ap (λ (ns : List (List ℕ)). filter (λ (n : List ℕ). list_any (bytes_eq n) ns) (flat_map defined ls)) (shares_lines ls)
    ∙ ap (λ (ns : List (List ℕ)). filter (λ (n : List ℕ). is_shared (entries_of ls) n) ns) (defined_lines ls)

uses_fixes : (fs : List PlainFix) (ls : List PlainObjectLine) → flat_map line_uses (map fix_line fs ++ ls) ≡ flat_map fix_names fs ++ flat_map line_uses ls
uses_fixes [] ls = refl
uses_fixes (f ∷ fs) ls = ap (λ (ns : List (List ℕ)). fix_names f ++ ns) (uses_fixes fs ls) ∙ simp append_assoc

-- where each fix stands behind its cell
pub uses_lines : (es : List (Entry PlainCell)) → flat_map line_uses (lines_of es) ≡ flat_map used_by es
uses_lines [] = refl
uses_lines (Enter n w ∷ es) = uses_lines es
uses_lines (Room n ∷ es) = uses_lines es
uses_lines (Put c ∷ es) = uses_fixes c.fixes (lines_of es) ∙ ap (λ (ns : List (List ℕ)). flat_map fix_names c.fixes ++ ns) (uses_lines es)
uses_lines (Mark n ∷ es) = uses_lines es
uses_lines (Equal n v ∷ es) = uses_lines es
uses_lines (Share n ∷ es) = uses_lines es
