use Rattle.std.proofs.Common.{◌++◌, sym, subst}
use Rattle.instruction_texts.specs.Symbols.{written_by, gap}
use Rattle.form_texts.specs.Segments.{Writing, GoesOn}
use Rattle.form_texts.specs.Syntaxes.{content}
use Rattle.form_texts.specs.declared.segments.Growing.{Growing}
use Rattle.form_texts.proofs.Segmented.{unjoined_on, joined_on}
use Rattle.form_texts.proofs.Stringed.{on_one}
use Rattle.form_texts.proofs.segments.add_element.Goals.{then-not-item+in_ok-push, else-not-item}
use Rattle.form_texts.proofs.segments.add_element.Goals as goal

pub returns-clause-goes_on : goal.returns-clause-goes_on
returns-clause-goes_on c =
    let all = c.args.table.now.strings.items in
    let old = c.args.growing.now in
    let item = c.args.item.now in
    let own : Writing → Writing = λ rest fields parts. written_by fields parts (content c.args.items.now item.part) ++ rest fields parts in
    let behind_gap : (rest whole : Writing) → GoesOn all old (λ fields parts. gap item.joined ++ own rest fields parts) whole → GoesOn all c.if-not-item.growing (own rest) whole = λ rest whole so_far.
    elim c.if-not-item.branch [
      | then-not-item+in_ok-push w ↦ subst (λ (g : Growing). GoesOn all g (own rest) whole) (sym w.growing-is) (unjoined_on all old.segments.items old.text.items w.push.new.self.items item.joined w.if-not-item.true w.in_ok-push.ensures.items (own rest) whole so_far)
      | else-not-item w ↦ subst (λ (g : Growing). GoesOn all g (own rest) whole) (sym w.growing-is) (joined_on all old.segments.items old.text.items item.joined w.if-not-item.false (own rest) whole so_far)
    ] in
    on_one c.add_content.result c.add_content.ensures.goes_on (λ goes_on rest whole so_far. goes_on rest whole (behind_gap rest whole so_far))
