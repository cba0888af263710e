use Rattle.lisa_object.proofs.object_reader.enter_defined.Goals as goal

pub returns-in-Some-clause-new : goal.returns-in-Some-clause-new
returns-in-Some-clause-new c = λ names h. rw c.in-Some.ensures (c.enter.ensures.new names h)
