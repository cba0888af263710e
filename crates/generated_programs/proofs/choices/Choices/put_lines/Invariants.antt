-- The text so far, before the lines that are left.
use Rattle.std.proofs.Common.{◌++◌, ◌-◌}
use Rattle.lisa_tree.specs.Descriptions.{description_tree}
use Rattle.lisa_object.specs.Texts.{text_of}
use Rattle.generated_programs.specs.Draws.{drawn_lines}
use Rattle.generated_programs.proofs.Stepping.{AreDrawn}
use Rattle.generated_programs.proofs.choices.Choices.put_lines.Given as goal

abbrev pub invariant-loop-line : goal.invariant-loop-line
invariant-loop-line g l =
    let d = description_tree l.self.machine.now in
    AreDrawn d g.G.NextWord.step (l.fn.text.items ++ text_of (drawn_lines d g.G.NextWord.step l.count l.fn.generator)) (l.count - l._line) l.text.items l.generator
