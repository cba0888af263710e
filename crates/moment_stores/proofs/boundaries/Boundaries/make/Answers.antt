use Rattle.std.proofs.Common.{subst, sym, List, ℕ}
use Rattle.std.specs.Prelude.{Option}
use Rattle.moment_stores.specs.Rows.{IsTable}
use Rattle.moment_stores.proofs.Tables.{table_shaped}
use Rattle.moment_stores.proofs.boundaries.Boundaries.make.Goals as goal

pub invariant_of-result : goal.invariant_of-result
invariant_of-result c = record {
  of_fields = subst (λ (t : List (List ℕ)). IsTable c.args.count c.args.width t) (sym c.in_ok-fields.ensures) (table_shaped _ _ _);
  of_outs = subst (λ (t : List (List (Option ℕ))). IsTable c.args.count c.args.width t) (sym c.in_ok-outs.ensures) (table_shaped _ _ _);
}
