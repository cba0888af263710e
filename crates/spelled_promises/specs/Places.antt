-- What stands at a place where tokens spell the description.
use Rattle.std.specs.Prelude.{IfSome}
use Rattle.std.specs.List.{AllByRecursion}
use Rattle.description_places.specs.Places as places
use Rattle.description_places.specs.Places.{Place}
use Rattle.spelled_promises.specs.Words.{IsName, IsType, IsPattern}
use Rattle.spelled_promises.specs.Trees.{AreNames, IsWellFormedExpr, IsTarget, IsRootWord, IsWellFormedHead, IsWellFormedResource, IsWellFormedSection, IsWellFormedOperation}

abbrev pub IsWellFormedPlace : Place → Type 0
IsWellFormedPlace (places.Resource k r) = IsWellFormedResource r
IsWellFormedPlace (places.Head operation) = IsWellFormedOperation operation
IsWellFormedPlace (places.Section all k) = AllByRecursion IsWellFormedSection all
IsWellFormedPlace (places.Declared k n) = IsName n
IsWellFormedPlace (places.Alternatives names) = AreNames names
IsWellFormedPlace (places.Stands n) = IsName n
IsWellFormedPlace (places.Root word group) = IsRootWord word × IsName group
IsWellFormedPlace (places.Field n pattern) = IsName n × IsPattern pattern
IsWellFormedPlace (places.Operand n) = IsName n
IsWellFormedPlace (places.Number n format) = IsName n
IsWellFormedPlace (places.Shown n) = IsName n
IsWellFormedPlace (places.Reads n) = IsName n
IsWellFormedPlace (places.ReadsElement n) = IsName n
IsWellFormedPlace (places.ReadsInput field) = IsName field
IsWellFormedPlace (places.ReadsOutput field) = ⊥
IsWellFormedPlace (places.ReadsBoundary pipe before after field) = IsName pipe × IsName before × IsName after × IsName field
IsWellFormedPlace places.ReadsDecoded = Unit {0}
IsWellFormedPlace (places.Casts shape) = IsType shape
IsWellFormedPlace (places.Writes n) = IsName n
IsWellFormedPlace (places.WritesElement n) = IsName n
IsWellFormedPlace (places.WritesOutput field) = IsName field
IsWellFormedPlace (places.Local shape n value) = IsType shape × IsName n × IfSome value IsWellFormedExpr
IsWellFormedPlace (places.Assigns target value) = IsTarget target × IsWellFormedExpr value
IsWellFormedPlace places.Loops = Unit {0}
IsWellFormedPlace (places.Counts head) = IsWellFormedHead head
IsWellFormedPlace (places.Steps n) = IsName n
IsWellFormedPlace (places.Calls n) = IsName n
IsWellFormedPlace (places.Stalls pipe stage) = IsName pipe × IsName stage
IsWellFormedPlace (places.Flushes pipe stage) = IsName pipe × IsName stage
IsWellFormedPlace (places.Executes pipe) = IsName pipe
IsWellFormedPlace (places.Shifts pipe) = IsName pipe
IsWellFormedPlace (places.Starts n) = IsName n
