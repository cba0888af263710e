use Rattle.text_tables.specs.Parts.{all_pieces}
use Rattle.text_tables.proofs.Aliking.{one_counted}
use Rattle.text_tables.proofs.alike.alike_counts.Goals as goal

pub forms-preserved : goal.forms-preserved
forms-preserved c = one_counted (all_pieces c.args.texts.now) c.forms.form c.alike_to_before.result c.forms.counts.items c.push.new.self.items c.in_ok-push.ensures.items c.alike_to_before.ensures c.forms.invariant
