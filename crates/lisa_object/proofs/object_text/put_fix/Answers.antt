use Rattle.std.proofs.lemmas.Result.{IfOk-equal}
use Rattle.lisa_object.proofs.ObjectPuts.{fix_puts}
use Rattle.lisa_object.proofs.object_text.put_fix.Goals as goal

pub returns : goal.returns
returns c = IfOk-equal c.put_sum.result _ _ _ c.put_sum.ensures (fix_puts c.args.out.now.items _ _ _ _ _ _ _ c.in_ok-put.ensures c.in_ok-put_field.ensures)
