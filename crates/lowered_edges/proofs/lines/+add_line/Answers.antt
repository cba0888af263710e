use Rattle.std.proofs.Common.{sym, arith}
use Rattle.lowered_behaviors.proofs.scene_paths_proofs.Above.{before}
use Rattle.lowered_layouts.specs.lowered_words.Code.{words_tree}
use Rattle.lowered_edges.proofs.Lining.{none_behind, first_behind, next_behind}
use Rattle.lowered_edges.proofs.lines.+add_line.Goals as goal

pub add_line-requires : goal.add_line-requires
add_line-requires t c =
    let falls = before (words_tree c.args.words.now) c.args.number c.in-Some-parent.parent c.in-Some.own (sym c.in-Some.ensures) c.in-Some-parent.is in
    (omega (arith, falls, c.decreases), tt)

pub returns-in-None : goal.returns-in-None
returns-in-None t c = none_behind (words_tree c.args.words.now) c.args.number c.args.all.now.items (sym c.in-None.ensures)

pub returns-in-None-parent : goal.returns-in-None-parent
returns-in-None-parent t c =
    first_behind (words_tree c.args.words.now) c.args.number c.in-Some.own c.args.all.now.items c.push.new.self.items (sym c.in-Some.ensures) c.in_ok-push-in-Some.ensures.items c.in-None-parent.is

pub returns-in_ok-add_line-in-Some-parent : goal.returns-in_ok-add_line-in-Some-parent
returns-in_ok-add_line-in-Some-parent t c =
    next_behind (words_tree c.args.words.now) c.args.number c.in-Some-parent.parent c.in-Some.own c.args.all.now.items c.push.new.self.items c.add_line.new.all.items
    (sym c.in-Some.ensures) c.in_ok-push-in-Some.ensures.items c.in-Some-parent.is c.in_ok-add_line-in-Some-parent.ensures
