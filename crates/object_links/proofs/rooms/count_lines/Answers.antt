use Rattle.std.proofs.Common.{◌∷◌, ◌+◌, ℕ, List, Option, None, drop, map, sym, ap, ◌∙◌, arith}
use Rattle.std.specs.Option.{option_copied}
use Rattle.lisa_object.specs.declared.parts.ObjectLine.{ObjectLine}
use Rattle.lisa_object.specs.Objects.{PlainObjectLine, object_line_tree}
use Rattle.placed_programs.specs.Entries.{entries_of}
use Rattle.placed_programs.specs.Addresses.{Counts, counts_after}
use Rattle.object_links.specs.LinkFaults.{capped}
use Rattle.object_links.specs.LineSizes.{count_of}
use Rattle.object_links.proofs.Steps.{one_line}
use Rattle.object_links.proofs.Capped.{Alike, line_counted}
use Rattle.object_links.proofs.rooms.count_lines.Goals as goal

pub each-preserved : goal.each-preserved
each-preserved c = λ m.
    let rest : List PlainObjectLine = map object_line_tree (drop (c.each.line-index + 1) c.args.lines.now) in
    let total : Counts = counts_after (count_of c.args.counts.now) None (entries_of (map object_line_tree c.args.lines.now)) in
    let before : Alike (counts_after (count_of c.each.counts) (option_copied c.each.here) (entries_of (object_line_tree c.line-item.result ∷ rest))) total =
    λ q. ap (λ (ls : List ObjectLine). capped (counts_after (count_of c.each.counts) (option_copied c.each.here) (entries_of (map object_line_tree ls)) q))
    (sym (one_line c.args.lines.now c.each.line-index c.line-item.result (omega arith) c.line-item.is)) ∙ c.each.invariant q in
    ap (λ (here : Option (List ℕ)). capped (counts_after (count_of c.count_line.new.counts) here (entries_of rest) m)) c.line_enters-here.ensures
    ∙ line_counted (count_of c.each.counts) (count_of c.count_line.new.counts) total (option_copied c.each.here) (object_line_tree c.line-item.result) rest c.in_ok-count_line.ensures before m
