use Rattle.std.proofs.Common.{◌++◌, ℕ, List, ap, map}
use Rattle.instruction_texts.specs.Symbols.{text_sym}
use Rattle.form_texts.proofs.Segmented.{text_on, one_content, same_rest}
use Rattle.form_texts.proofs.Stringed.{on_one}
use Rattle.form_texts.proofs.segments.add_content.Goals as goal

pub returns-in_ok-extend_from_slice-in-Literal-clause-goes_on : goal.returns-in_ok-extend_from_slice-in-Literal-clause-goes_on
returns-in_ok-extend_from_slice-in-Literal-clause-goes_on c = λ rest whole so_far.
    let all = c.args.table.now.strings.items in
    let old = c.args.growing.now in
    let bytes = c.as_bytes.result.now in
    text_on all old.segments.items old.text.items c.extend_from_slice.new.self.items bytes c.in_ok-extend_from_slice-in-Literal.ensures.items rest whole
    (same_rest all old.segments.items old.text.items (λ fields parts. map text_sym c.in-Literal.text ++ rest fields parts) (λ fields parts. map text_sym bytes ++ rest fields parts) whole
    (λ fields parts. ap (λ (l : List ℕ). map text_sym l ++ rest fields parts) c.as_bytes.ensures)
    (one_content all old.segments.items old.text.items c.args.items.now _ _ c.in-Literal.is rest whole so_far))

pub returns-in-Number-clause-goes_on : goal.returns-in-Number-clause-goes_on
returns-in-Number-clause-goes_on c =
    let all = c.args.table.now.strings.items in
    let old = c.args.growing.now in
    let items = c.args.items.now in
    on_one c.add_slot.result c.add_slot.ensures.goes_on (λ goes_on rest whole so_far.
    goes_on rest whole (rw c.field_place.ensures (one_content all old.segments.items old.text.items items _ _ c.in-Number.is rest whole so_far)))

pub returns-in-Child-clause-goes_on : goal.returns-in-Child-clause-goes_on
returns-in-Child-clause-goes_on c =
    let all = c.args.table.now.strings.items in
    let old = c.args.growing.now in
    let items = c.args.items.now in
    on_one c.add_slot-in-Child.result c.add_slot-in-Child.ensures.goes_on (λ goes_on rest whole so_far.
    goes_on rest whole (rw c.child_place.ensures (one_content all old.segments.items old.text.items items _ _ c.in-Child.is rest whole so_far)))
