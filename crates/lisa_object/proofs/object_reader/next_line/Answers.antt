use Rattle.lisa_object.proofs.object_reader.next_line.Goals as goal

pub returns-clause-seen : goal.returns-clause-seen
returns-clause-seen c = λ names h. (c.in_ok-enter_defined.ensures.new names h).1
