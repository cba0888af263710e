use Rattle.std.proofs.Common.{◌≡◌, drop}
use Rattle.std.specs.List.{list_any}
use Rattle.lisa_tree.specs.Operations.{coding_in, sections_at}
use Rattle.coded_names.specs.Codings.{is_coding}
use Rattle.description_types.proofs.uses.any_coded.Given as goal

abbrev pub invariant-loop-operation : goal.invariant-loop-operation
invariant-loop-operation g l = list_any (λ o. is_coding (coding_in (sections_at (g.N.Names.tree l.names) o))) l.operations ≡ list_any (λ o. is_coding (coding_in (sections_at (g.N.Names.tree l.names) o))) (drop l.operation-index l.operations)
