use Rattle.std.proofs.Common.{◌≡◌, ◌++◌, ◌∙◌, ap, subst, sym, List, ℕ, arith, take, drop, length}
use Rattle.std.specs.Prelude.{Option}
use Rattle.moment_stores.specs.Rows.{rows, IsTable}
use Rattle.moment_stores.proofs.Tables.{table_shaped, written_back}
use Rattle.moment_stores.proofs.boundaries.Boundaries.begin.Goals as goal

pub invariant_of-self : goal.invariant_of-self
invariant_of-self c =
    let old = c.args.self.now in
    let back : take old.outs.len (c.fill_in.new.all ++ drop (length c.fill_in.new.all) old.outs.items) ≡ c.fill_in.new.all = written_back c.fill_in.new.all old.outs.items old.outs.len (omega (arith, c.fill_in.auto.all, c.deref_mut.ensures.len, ap length c.deref_mut.ensures.value)) old.outs.ok.0 in
    record {
      of_fields = old.of_fields;
      of_outs = subst (λ (t : List (List (Option ℕ))). IsTable old.count old.width t) (sym (ap rows back ∙ c.fill_in.ensures)) (table_shaped _ _ _);
    }
