use Rattle.std.proofs.Common.{◌+◌, ◌++◌, ◌-◌, [], take, drop, length, sym, subst}
use Rattle.instruction_texts.specs.Symbols.{written_by, gap}
use Rattle.form_texts.specs.Segments.{Writing, GoesOn, shown_by, shown_behind}
use Rattle.form_texts.specs.Syntaxes.{content}
use Rattle.form_texts.specs.declared.segments.Growing.{Growing}
use Rattle.form_texts.specs.declared.strings.StringTable.{StringTable}
use Rattle.form_texts.proofs.Segmented.{first_shown, no_elements, one_first, one_shown, none_shown, all_shown, same_rest}
use Rattle.form_texts.proofs.Tabled.{longer_still}
use Rattle.form_texts.proofs.segments.segments_of.Goals.{in_default, in-len1-up+in_ok-add_content+else-loop-item-test}
use Rattle.form_texts.proofs.segments.segments_of.Goals as goal

pub loop-item-init : goal.loop-item-init
loop-item-init c =
    let items = c.args.items.now in
    let shown = c.args.shown.now in
    let added = c.in_ok-add_content.ensures in
    record {
      opened = added.opened;
      longer = added.longer;
      goes_on = added.goes_on (shown_behind items (take (length shown - 1) (drop 1 shown))) (shown_by items shown)
          (one_first c.args.table.now.strings.items c.new.result.items c.new-2.result.items items shown c.first-item.result c.new.ensures.items c.new-2.ensures.items c.in-len1-up.len_at_least c.first-item.is);
    }

pub loop-item-preserved : goal.loop-item-preserved
loop-item-preserved c =
    let items = c.args.items.now in
    let shown = c.args.shown.now in
    let behind = take (length shown - 1) (drop 1 shown) in
    let item = c.item-item.result in
    let i = c.loop-item.item-index in
    let added = c.in_ok-add_element.ensures in
    let inv = c.loop-item.invariant in
    record {
      opened = added.opened;
      longer = longer_still c.args.table.now.strings.items c.loop-item.table.strings.items c.add_element.new.table.strings.items inv.longer added.longer;
      goes_on = added.goes_on (shown_behind items (drop (i + 1) behind)) (shown_by items shown)
          (same_rest c.loop-item.table.strings.items c.loop-item.growing.segments.items c.loop-item.growing.text.items (shown_behind items (drop i behind))
          (λ fields parts. gap item.joined ++ (written_by fields parts (content items item.part) ++ shown_behind items (drop (i + 1) behind) fields parts)) (shown_by items shown)
          (one_shown items behind i item c.loop-item-test.true c.item-item.is) inv.goes_on);
    }

pub returns-clause-written : goal.returns-clause-written
returns-clause-written c =
    let items = c.args.items.now in
    let shown = c.args.shown.now in
    let whole : Writing = shown_by items shown in
    let nothing : Writing = λ fields parts. [] in
    let table = c.if-shown-lt1.table in
    let growing = c.if-shown-lt1.growing in
    let so_far : GoesOn table.strings.items growing nothing whole =
    elim c.if-shown-lt1.branch [
      | in_default w ↦ subst (λ (g : Growing). GoesOn table.strings.items g nothing whole) (sym w.growing-is)
          (same_rest table.strings.items c.new.result.items c.new-2.result.items whole nothing whole (no_elements items shown w.in_default.len_below)
          (first_shown table.strings.items c.new.result.items c.new-2.result.items whole c.new.ensures.items c.new-2.ensures.items))
      | in-len1-up+in_ok-add_content+else-loop-item-test w ↦
          let behind = take (length shown - 1) (drop 1 shown) in
          let i = w.loop-item.item-index in
          let here = w.loop-item.growing in
          subst (λ (t : StringTable). GoesOn t.strings.items growing nothing whole) (sym w.table-is)
          (subst (λ (g : Growing). GoesOn w.loop-item.table.strings.items g nothing whole) (sym w.growing-is)
          (same_rest w.loop-item.table.strings.items here.segments.items here.text.items (shown_behind items (drop i behind)) nothing whole (none_shown items behind i w.loop-item-test.false) w.loop-item.invariant.goes_on))
    ] in
    all_shown c.end_text.new.table.strings.items c.end_text.new.growing.segments.items c.end_text.new.growing.text.items whole c.in_ok-end_text.ensures.empty (c.in_ok-end_text.ensures.goes_on nothing whole so_far)
