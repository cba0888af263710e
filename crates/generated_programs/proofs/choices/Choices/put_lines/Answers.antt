use Rattle.std.proofs.Common.{arith}
use Rattle.lisa_tree.specs.Descriptions.{description_tree}
use Rattle.generated_programs.proofs.Stepping.{one_line_less, none_left}
use Rattle.generated_programs.proofs.choices.Choices.put_lines.Goals as goal

pub loop-line-preserved : goal.loop-line-preserved
loop-line-preserved g c =
    one_line_less (description_tree c.args.self.now.machine.now) g.G.NextWord.step _ _ _ _ _ _ _ (omega arith) c.loop-line.invariant c.in_ok-put_line.ensures.line c.in_ok-put_line.ensures.behind

pub returns : goal.returns
returns g c = none_left (description_tree c.args.self.now.machine.now) g.G.NextWord.step _ _ _ _ (omega arith) c.loop-line.invariant
