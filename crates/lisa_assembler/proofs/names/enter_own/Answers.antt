use Rattle.std.proofs.Common.{option_copied, option_to_list}
use Rattle.lisa_assembler.proofs.Doubles.{none_more, one_more_new, one_more_fault}
use Rattle.lisa_assembler.proofs.names.enter_own.Goals as goal

pub returns-in-None-clause-new : goal.returns-in-None-clause-new
returns-in-None-clause-new c = λ names h. none_more c.args.seen.now names (option_to_list (option_copied c.args.own)) (rw c.in-None.is) h

pub returns-in-Some-clause-new : goal.returns-in-Some-clause-new
returns-in-Some-clause-new c = λ names h.
    one_more_new c.enter_new.result c.enter_new.new.seen names (option_to_list (option_copied c.args.own)) c.in-Some.name.now (rw c.in-Some.is) (c.enter_new.ensures.new names h)

pub returns-in-Some-clause-fault : goal.returns-in-Some-clause-fault
returns-in-Some-clause-fault c = λ names h.
    one_more_fault c.enter_new.result c.args.line names (option_to_list (option_copied c.args.own)) c.in-Some.name.now (rw c.in-Some.is) (c.enter_new.ensures.fault names h)
