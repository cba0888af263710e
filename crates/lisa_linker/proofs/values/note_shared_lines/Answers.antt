use Rattle.std.proofs.Common.{ℕ, List, None, Option, ℤ, map, ap, ◌∙◌}
use Rattle.std.specs.List.{list_any}
use Rattle.std.specs.Option.{option_or}
use Rattle.std.specs.Str.{bytes_eq}
use Rattle.name_tables.specs.TableViews.{value_of}
use Rattle.lisa_object.specs.Objects.{object_line_tree}
use Rattle.placed_programs.specs.Addresses.{definitions}
use Rattle.placed_programs.specs.Entries.{entries_of}
use Rattle.placed_programs.specs.Symbols.{is_shared}
use Rattle.object_links.specs.LineSizes.{count_of}
use Rattle.object_links.proofs.ByLines.{shares_lines}
use Rattle.lisa_linker.proofs.Noted.{shared_wanted}
use Rattle.lisa_linker.proofs.values.note_shared_lines.Goals as goal

pub returns-clause-noted : goal.returns-clause-noted
returns-clause-noted c = λ n.
    let ls = map object_line_tree c.args.lines.now in
    c.in_ok-note_values.ensures.noted n
    ∙ ap (λ (v : Option ℤ). option_or (value_of c.args.values.now n) v)
    (shared_wanted c.in_ok-shared.shared (is_shared (entries_of ls)) n (definitions (count_of c.args.counts.now) None (entries_of ls))
    (λ k. c.in_ok-shared.ensures k ∙ ap (λ (ns : List (List ℕ)). list_any (bytes_eq k) ns) (shares_lines ls)))
