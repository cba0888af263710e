use Rattle.std.proofs.Common.{◌≡◌, ◌++◌, ◌∙◌, ap, subst, sym, List, ℕ, arith, take, drop, length}
use Rattle.moment_stores.specs.Rows.{rows, IsTable}
use Rattle.moment_stores.proofs.Tables.{table_shaped, written_back}
use Rattle.moment_stores.proofs.boundaries.Boundaries.close.Goals as goal

pub invariant_of-self : goal.invariant_of-self
invariant_of-self c =
    let old = c.args.self.now in
    let new = c.close_rows.new.fields in
    let back : take old.fields.len (new ++ drop (length new) old.fields.items) ≡ new = written_back new old.fields.items old.fields.len (omega (arith, c.close_rows.auto.fields, c.deref_mut.ensures.len, ap length c.deref_mut.ensures.value)) old.fields.ok.0 in
    record {
      of_fields = subst (λ (t : List (List ℕ)). IsTable old.count old.width t) (sym (ap rows back ∙ c.close_rows.ensures)) (table_shaped _ _ _);
      of_outs = old.of_outs;
    }
