use Rattle.std.proofs.Common.{take}
use Rattle.form_texts.proofs.Stringed.{strings_added}
use Rattle.form_texts.proofs.gathering.add_strings.Goals as goal

pub returns-clause-parts : goal.returns-clause-parts
returns-clause-parts c = λ shared.
    let old = c.args.growing.now in
    strings_added shared c.args.number old.parts.items c.end_part.new.growing.parts.items c.push.new.self.items old.pieces.shapes.items c.end_run.new.pieces.shapes.items old.pieces.run.items c.extend_from_slice.new.self.items
    (take c.args.strings.now.head c.args.strings.now.text.items) (rw c.deref.ensures.value at c.in_ok-extend_from_slice.ensures.items) c.in_ok-end_run.ensures.shapes (c.in_ok-end_part.ensures.parts shared) c.in_ok-push.ensures.items
