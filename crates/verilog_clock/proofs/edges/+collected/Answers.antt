use Rattle.std.proofs.Common.{◌≡◌, ◌++◌, List, true, false, ap, sym, ◌∙◌, arith, suc, ◌∷◌, drop, drop-cons}
use Rattle.verilog_text.specs.Values.{is_true}
use Rattle.verilog_clock.specs.declared.code.Act.{Act}
use Rattle.verilog_clock.specs.declared.code.Update.{Update}
use Rattle.verilog_clock.specs.Compiled.{rows, code_value, acts_updates, acts_most}
use Rattle.verilog_clock.proofs.Lists.{updates-this, updates-other, most-either, size-either, size_at, acts_size}
use Rattle.verilog_clock.proofs.edges.+collected.Goals as goal

pub collect_one-collect-requires : goal.collect_one-collect-requires
collect_one-collect-requires t c = (omega (arith, c.decreases, size-either _ _ _ _ c.in-If.is, ap acts_size c.deref.ensures.value), omega (arith, most-either _ _ _ _ c.in-If.is, ap acts_most c.deref.ensures.value, c.requires))

pub collect_one-collect-requires-else-is_true : goal.collect_one-collect-requires-else-is_true
collect_one-collect-requires-else-is_true t c = (omega (arith, c.decreases, size-either _ _ _ _ c.in-If.is, ap acts_size c.deref-else-is_true.ensures.value), omega (arith, most-either _ _ _ _ c.in-If.is, ap acts_most c.deref-else-is_true.ensures.value, c.requires))

pub collect_one-returns-then-is_true-clause-items : goal.collect_one-returns-then-is_true-clause-items
collect_one-returns-then-is_true-clause-items t c =
    let so : is_true (code_value c.args.values.now (rows c.args.cells.now) c.in-If.test) ≡ true = ap is_true (sym c.evaluate-in-If.ensures) ∙ sym c.is_true.ensures ∙ c.if-is_true.true in
    c.collect.ensures.items ∙ ap (λ (us : List Update). c.args.updates.now.items ++ us)
    (ap (acts_updates c.args.values.now (rows c.args.cells.now)) c.deref.ensures.value ∙ sym (updates-this _ _ _ _ _ _ c.in-If.is so))

pub collect_one-returns-then-is_true-clause-len : goal.collect_one-returns-then-is_true-clause-len
collect_one-returns-then-is_true-clause-len t c = omega (arith, most-either _ _ _ _ c.in-If.is, ap acts_most c.deref.ensures.value, c.collect.ensures.len)

pub collect_one-returns-else-is_true-clause-items : goal.collect_one-returns-else-is_true-clause-items
collect_one-returns-else-is_true-clause-items t c =
    let so : is_true (code_value c.args.values.now (rows c.args.cells.now) c.in-If.test) ≡ false = ap is_true (sym c.evaluate-in-If.ensures) ∙ sym c.is_true.ensures ∙ c.if-is_true.false in
    c.collect-else-is_true.ensures.items ∙ ap (λ (us : List Update). c.args.updates.now.items ++ us)
    (ap (acts_updates c.args.values.now (rows c.args.cells.now)) c.deref-else-is_true.ensures.value ∙ sym (updates-other _ _ _ _ _ _ c.in-If.is so))

pub collect_one-returns-else-is_true-clause-len : goal.collect_one-returns-else-is_true-clause-len
collect_one-returns-else-is_true-clause-len t c = omega (arith, most-either _ _ _ _ c.in-If.is, ap acts_most c.deref-else-is_true.ensures.value, c.collect-else-is_true.ensures.len)

pub collect-collect_one-requires : goal.collect-collect_one-requires
collect-collect_one-requires t c =
    let first = drop-cons c.args.acts.now c.each.act-index c.act-item.result c.each-test.true ∙ ap (λ (a : Act). a ∷ drop (suc c.each.act-index) c.args.acts.now) (sym c.act-item.is) in
    (omega (arith, c.decreases, size_at _ _ _ c.each-test.true c.act-item.is), omega (arith, c.each.invariant.len, c.each.invariant.room, c.requires, ap acts_most first))
