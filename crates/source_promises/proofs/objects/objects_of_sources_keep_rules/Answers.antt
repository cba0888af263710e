use Rattle.source_promises.proofs.KeptObjects.{keeps_rules}
use Rattle.source_promises.proofs.objects.objects_of_sources_keep_rules.Goals as goal

pub returns : goal.returns
returns c = λ d bytes lines o accepted has words digest says object. keeps_rules d accepted has words c.fields_are_apart.ensures.fields bytes lines o digest says object
