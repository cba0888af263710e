use Rattle.std.proofs.Common.{arith}
use Rattle.std.proofs.lemmas.Result.{on_ok_weaker}
use Rattle.lisa_printer.specs.CanonicalTokens.{instance_tokens, instances_tokens, more_instances}
use Rattle.lisa_printer.proofs.LoopLaws.{first_then, instances_tokens-cons}
use Rattle.lisa_printer.proofs.sections.put_instances.Goals as goal

pub returns : goal.returns
returns c =
    on_ok_weaker c.put_more_instances.result
    (λ e.
    first_then instances_tokens more_instances c.first-item.result (instance_tokens c.first-item.result) (instances_tokens-cons c.first-item.result)
    c.args.all.now c.args.page.now c.put_instance.new.page c.put_more_instances.new.page (omega arith) c.first-item.is c.in_ok-put_instance.ensures e)
    c.put_more_instances.ensures
