use Rattle.std.proofs.Common.{length, arith}
use Rattle.lisa_io.proofs.Taken.{taken, ended}
use Rattle.lisa_io.proofs.memory.MemSourceSource.take.Goals as goal

pub returns-clause-bytes : goal.returns-clause-bytes
returns-clause-bytes c = (
  taken _ _ _ _ (rw c.deref.ensures.value at c.copy_from-count.ensures.same),
  λ none some. ended _ _ _ (length c.copy_from-count.new.into) (omega arith) none some,
)
