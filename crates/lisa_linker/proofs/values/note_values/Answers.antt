use Rattle.std.proofs.Common.{◌+◌, List, drop, map, subst, ap, ◌∙◌, arith}
use Rattle.std.specs.Option.{option_copied, option_or}
use Rattle.name_tables.specs.TableViews.{value_of}
use Rattle.lisa_object.specs.declared.parts.ObjectLine.{ObjectLine}
use Rattle.lisa_object.specs.Objects.{object_line_tree}
use Rattle.object_links.specs.LineSizes.{count_of}
use Rattle.object_links.proofs.Steps.{one_line}
use Rattle.lisa_linker.proofs.Noted.{Defined, AreNoted, noted_first, noted_on, wanted_value}
use Rattle.lisa_linker.proofs.values.note_values.Goals as goal

pub each-init : goal.each-init
each-init c = noted_first (option_copied c.args.wanted) c.args.counts.now c.args.values.now (map object_line_tree c.args.lines.now) c.requires.lines c.requires.short

pub each-preserved : goal.each-preserved
each-preserved c =
    let P : List ObjectLine → Type 0 = λ ls. AreNoted (option_copied c.args.wanted) (count_of c.args.counts.now) c.args.values.now (map object_line_tree c.args.lines.now)
    c.each.counts c.each.values (option_copied c.each.here) (map object_line_tree ls) in
    noted_on (option_copied c.args.wanted) (count_of c.args.counts.now) c.args.values.now (map object_line_tree c.args.lines.now)
    c.each.counts c.add_line.new.counts c.each.values c.note_wanted.new.values (option_copied c.each.here) (option_copied c.line_enters-here.result)
    (object_line_tree c.line-item.result) (map object_line_tree (drop (c.each.line-index + 1) c.args.lines.now))
    (subst P (one_line c.args.lines.now c.each.line-index c.line-item.result (omega arith) c.line-item.is) c.each.invariant)
    c.defined_value-defined.ensures.short
    c.in_ok-add_line.ensures
    (λ n. c.in_ok-note_wanted.ensures.noted n ∙ ap (λ (ds : Defined). option_or (value_of c.each.values n) (wanted_value (option_copied c.args.wanted) n ds)) c.defined_value-defined.ensures.value)
    c.line_enters-here.ensures
