use Rattle.lisa_reader.proofs.ByteLaws.{one_description, spelled_unbroken, one_fault, has_outcome}
use Rattle.lisa_reader.proofs.laws.descriptions_are_unique.Goals as goal

pub returns-clause-some : goal.returns-clause-some
returns-clause-some c = has_outcome c.args.bytes.now

pub returns-clause-one : goal.returns-clause-one
returns-clause-one c = λ d e s t. one_description c.args.bytes.now d e s t

pub returns-clause-whole : goal.returns-clause-whole
returns-clause-whole c = λ d fault s b. spelled_unbroken c.args.bytes.now d fault s b

pub returns-clause-first : goal.returns-clause-first
returns-clause-first c = λ f g b d. one_fault c.args.bytes.now f g b d
