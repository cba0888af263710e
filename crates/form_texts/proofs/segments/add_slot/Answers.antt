use Rattle.std.proofs.Common.{◌++◌}
use Rattle.form_texts.specs.Segments.{slot_symbols}
use Rattle.form_texts.proofs.Segmented.{slot_on}
use Rattle.form_texts.proofs.segments.add_slot.Goals as goal

pub returns-clause-goes_on : goal.returns-clause-goes_on
returns-clause-goes_on c = λ rest whole so_far.
    let slot = c.args.slot in
    let new = c.end_text.new.growing in
    slot_on c.end_text.new.table.strings.items new.segments.items c.push.new.self.items new.text.items slot c.in_ok-end_text.ensures.empty c.in_ok-push.ensures.items rest whole
    (c.in_ok-end_text.ensures.goes_on (λ fields parts. slot_symbols slot fields parts ++ rest fields parts) whole so_far)
