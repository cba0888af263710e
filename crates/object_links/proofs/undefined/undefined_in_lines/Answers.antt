use Rattle.std.proofs.Common.{◌∙◌, map}
use Rattle.name_tables.specs.TableViews.{has_name}
use Rattle.lisa_object.specs.Objects.{object_line_tree}
use Rattle.object_links.proofs.NamesUsed.{undefined_lines}
use Rattle.object_links.proofs.undefined.undefined_in_lines.Goals as goal

pub returns : goal.returns
returns c = λ names is.
    c.unknown_name.ensures
    ∙ undefined_lines (has_name c.in_ok-own.own) (has_name c.args.others.now) names (map object_line_tree c.args.lines.now) c.in_ok-own.ensures is c.requires
