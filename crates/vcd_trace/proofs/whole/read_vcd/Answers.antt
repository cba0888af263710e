use Rattle.std.proofs.Common.{◌∙◌, ap, arith, length}
use Rattle.vcd_trace.proofs.WholeLaws.{answers_form, answers_check, no_fault_of, narrow_all, few_all, dump_is}
use Rattle.vcd_trace.proofs.whole.read_vcd.Goals as goal

pub returns-in_err-content : goal.returns-in_err-content
returns-in_err-content c = answers_form c.args.bytes.now _ _ c.from_residual.ensures.1 c.in_err-content.ensures

pub returns-in_err-check : goal.returns-in_err-check
returns-in_err-check c =
    answers_check c.args.bytes.now c.in_ok-content.content c.in_ok-codes.codes.variables.now c.events.result.now _ _ c.in_ok-content.ensures (c.in_ok-codes.ensures ∙ c.variables.ensures) c.events.ensures
    c.from_residual-in_err-check.ensures.1 c.in_err-check.ensures

pub make_items-requires : goal.make_items-requires
make_items-requires c =
    let form = c.in_ok-content.content in
    let none = no_fault_of form c.in_ok-codes.codes.variables.now c.events.result.now (c.in_ok-codes.ensures ∙ c.variables.ensures) c.events.ensures c.in_ok-check.ensures in
    rw c.variables-2.ensures (narrow_all form.variables form.events none)

pub read_times-requires : goal.read_times-requires
read_times-requires c =
    let form = c.in_ok-content.content in
    let none = no_fault_of form c.in_ok-codes.codes.variables.now c.events.result.now (c.in_ok-codes.ensures ∙ c.variables.ensures) c.events.ensures c.in_ok-check.ensures in
    let few = few_all form.variables form.events none in
    omega (arith, few, ap length (c.in_ok-codes.ensures ∙ c.variables.ensures))

pub returns : goal.returns
returns c =
    let form = c.in_ok-content.content in
    let none = no_fault_of form c.in_ok-codes.codes.variables.now c.events.result.now (c.in_ok-codes.ensures ∙ c.variables.ensures) c.events.ensures c.in_ok-check.ensures in (
      form,
      c.in_ok-content.ensures,
      none,
      dump_is form _ _ c.variables-2.result.now c.in_ok-codes.codes.variables.now c.events-2.result.now c.in_ok-items.ensures c.variables-2.ensures c.in_ok-times.ensures
          (c.in_ok-codes.ensures ∙ c.variables.ensures) c.events-2.ensures,
    )
