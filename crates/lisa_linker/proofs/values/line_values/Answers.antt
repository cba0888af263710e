use Rattle.std.proofs.Common.{◌≡◌, ℤ, None, Option, map, ap, ◌∙◌, rules}
use Rattle.std.specs.Option.{option_or}
use Rattle.name_tables.specs.TableViews.{value_of}
use Rattle.lisa_object.specs.Objects.{object_line_tree}
use Rattle.placed_programs.specs.Addresses.{definitions}
use Rattle.placed_programs.specs.Entries.{entries_of}
use Rattle.object_links.specs.LineSizes.{count_of}
use Rattle.lisa_linker.proofs.Noted.{Defined, own_wanted, wanted_value}
use Rattle.lisa_linker.proofs.values.line_values.Goals as goal

pub returns-clause-values : goal.returns-clause-values
returns-clause-values c = λ n.
    let ds : Defined = definitions (count_of c.args.counts.now) None (entries_of (map object_line_tree c.args.lines.now)) in
    let empty : value_of c.new-values.result n ≡ None = search rules in
    c.in_ok-note_values.ensures.noted n ∙ ap (λ (v : Option ℤ). option_or v (wanted_value None n ds)) empty ∙ own_wanted n ds
