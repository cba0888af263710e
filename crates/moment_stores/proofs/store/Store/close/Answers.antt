use Rattle.std.proofs.Common.{ℕ, List, subst, sym, ap}
use Rattle.lisa_meaning.specs.Moments.{Outs}
use Rattle.moment_stores.specs.Rows.{rows}
use Rattle.moment_stores.specs.Fitting.{FieldsFit, OutsFit}
use Rattle.moment_stores.specs.Stores.{description_of}
use Rattle.moment_stores.proofs.Fits.{fields_closed}
use Rattle.moment_stores.proofs.store.Store.close.Goals as goal

pub invariant_of-self-clause-fields_fit : goal.invariant_of-self-clause-fields_fit
invariant_of-self-clause-fields_fit c =
    let self = c.args.self.now in
    subst (λ (t : List (List ℕ)). FieldsFit (description_of self) t) (sym c.close.ensures.fields)
    (fields_closed (description_of self) (rows self.boundaries.fields.items) (rows self.boundaries.outs.items) self.fields_fit self.outs_fit _ _ _ _)

pub invariant_of-self-clause-outs_fit : goal.invariant_of-self-clause-outs_fit
invariant_of-self-clause-outs_fit c = subst (λ (t : Outs). OutsFit (description_of c.args.self.now) t) (sym (ap rows c.close.ensures.outs)) c.args.self.now.outs_fit
