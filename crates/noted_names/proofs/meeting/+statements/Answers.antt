use Rattle.std.proofs.Common.{◌≡◌, ◌++◌, ℕ, List, OnOk, sym, subst}
use Rattle.noted_names.specs.Standing.{names_of}
use Rattle.noted_names.proofs.Gathered.{block_is}
use Rattle.noted_names.proofs.meeting.+statements.Goals as goal

pub add_statement-returns-in-Block : goal.add_statement-returns-in-Block
add_statement-returns-in-Block t c =
    subst (λ (l : List (List ℕ)). OnOk c.add_statements.result (names_of c.add_statements.new.met.items ≡ names_of c.args.met.now.items ++ l))
    (sym (block_is c.args.statement.now c.in-Block.all c.as_slice.result.now c.in-Block.is c.as_slice.ensures.value)) c.add_statements.ensures
