use Rattle.std.specs.Option.{option_copied, option_to_list}
use Rattle.std.proofs.lemmas.Result.{err_from_is_err_and}
use Rattle.lisa_assembler.specs.Seen.{seen_behind}
use Rattle.lisa_assembler.proofs.Doubles.{front_fault, back_fault, none_double, holds_behind}
use Rattle.lisa_assembler.proofs.names.enter_names.Goals as goal

pub returns-in_err-enter_labels-clause-fault : goal.returns-in_err-enter_labels-clause-fault
returns-in_err-enter_labels-clause-fault c = λ names h.
    let p = err_from_is_err_and c.from_residual.result c.from_residual.ensures.1 in
    rw (p.1, p.2) (front_fault c.args.line names c.args.labels.now (option_to_list (option_copied c.args.own)) c.in_err-enter_labels.field-0.0 (c.in_err-enter_labels.ensures.fault names h))

pub returns-in_err-enter_own-clause-fault : goal.returns-in_err-enter_own-clause-fault
returns-in_err-enter_own-clause-fault c = λ names h.
    let e = c.in_ok-enter_labels.ensures.new names h in
    let p = err_from_is_err_and c.from_residual-in_err-enter_own.result c.from_residual-in_err-enter_own.ensures.1 in
    rw (p.1, p.2) (back_fault c.args.line names c.args.labels.now (option_to_list (option_copied c.args.own)) c.in_err-enter_own.field-0.0 e.0
    (c.in_err-enter_own.ensures.fault (seen_behind names c.args.labels.now) e.1))

pub returns-clause-new : goal.returns-clause-new
returns-clause-new c = λ names h.
    let e = c.in_ok-enter_labels.ensures.new names h in
    let f = c.in_ok-enter_own.ensures.new (seen_behind names c.args.labels.now) e.1 in (
      none_double names c.args.labels.now (option_to_list (option_copied c.args.own)) e.0 f.0,
      holds_behind c.enter_own.new.seen names c.args.labels.now (option_to_list (option_copied c.args.own)) f.1,
    )
