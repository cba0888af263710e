use Rattle.text_counts.proofs.tables.TextCounts.make.Goals as goal

pub expression_counts-requires-clause-alike : goal.expression_counts-requires-clause-alike
expression_counts-requires-clause-alike g c = rw c.deref-5.ensures.value c.in_ok-alike.ensures

pub behavior_counts-requires-clause-alike : goal.behavior_counts-requires-clause-alike
behavior_counts-requires-clause-alike g c = rw c.deref-7.ensures.value c.in_ok-alike.ensures

pub behavior_counts-requires-2-clause-alike : goal.behavior_counts-requires-2-clause-alike
behavior_counts-requires-2-clause-alike g c = rw c.deref-9.ensures.value c.in_ok-alike.ensures
