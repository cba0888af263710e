use Rattle.std.proofs.Common.{◌≡◌, ℕ, List, map, subst}
use Rattle.std.specs.Prelude.{OnOk}
use Rattle.std.specs.Map.{lookup}
use Rattle.std.specs.Option.{option_or}
use Rattle.std.specs.Str.{bytes_eq}
use Rattle.name_tables.specs.TableViews.{value_of}
use Rattle.lisa_object.specs.declared.parts.ObjectLine.{ObjectLine}
use Rattle.lisa_object.specs.Objects.{object_line_tree}
use Rattle.placed_programs.specs.Entries.{entries_of}
use Rattle.placed_programs.specs.Symbols.{exports}
use Rattle.object_links.specs.LineSizes.{count_of}
use Rattle.lisa_linker.proofs.values.note_shared.Goals as goal

pub returns-clause-noted : goal.returns-clause-noted
returns-clause-noted c =
    let P : List ObjectLine → Type 0 = λ ls. OnOk c.note_shared_lines.result ((n : List ℕ) → value_of c.note_shared_lines.new.values n
    ≡ option_or (value_of c.args.values.now n) (lookup (bytes_eq n) (exports (count_of c.args.counts.now) (entries_of (map object_line_tree ls))))) in
    subst P c.deref.ensures.value c.note_shared_lines.ensures.noted
