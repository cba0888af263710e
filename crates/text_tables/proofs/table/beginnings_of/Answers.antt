use Rattle.std.proofs.Common.{◌∙◌, ap, arith}
use Rattle.instruction_texts.specs.Starts.{first_start, negative_start}
use Rattle.text_tables.specs.Parts.{all_pieces}
use Rattle.text_tables.specs.Shared.{shapes_at}
use Rattle.text_tables.proofs.Keeping.{keeps_more}
use Rattle.text_tables.proofs.Parted.{text_of_parts, enters_same}
use Rattle.text_tables.proofs.table.beginnings_of.Goals as goal

pub forms-preserved : goal.forms-preserved
forms-preserved c =
    let t = c.args.texts.now in
    let k = c.forms.form in
    let is = text_of_parts t k c.index.result.now c.deref.result.now c.deref-in-forms.result.now (omega arith) c.index.ensures c.deref.ensures.value c.deref-in-forms.ensures.value in
    keeps_more (all_pieces t) k c.forms.beginnings c.enter_form.new.self
    (enters_same c.first_pieces-front.result.now (shapes_at (all_pieces t) k) k c.forms.beginnings c.enter_form.new.self (c.first_pieces-front.ensures.first ∙ ap first_start is) (c.first_pieces-front.ensures.negative ∙ ap negative_start is) c.in_ok-enter_form.ensures)
    c.forms.invariant
