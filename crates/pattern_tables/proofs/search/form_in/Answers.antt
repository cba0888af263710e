use Rattle.std.proofs.Common.{arith, ℕ, ◌<◌, sym, subst}
use Rattle.pattern_tables.proofs.Decoding.{cheap_table, if_none, no_entry_in, mask_in, size_of, form_at, no_entry}
use Rattle.pattern_tables.proofs.search.form_in.Goals as goal

pub returns-in_err-place-clause-none : goal.returns-in_err-place-clause-none
returns-in_err-place-clause-none g c = if_none c.from_residual.result (no_entry_in c.args.table.now c.args.word (rw c.mask.ensures at c.in_err-place.ensures.none))

pub returns-in_err-place-clause-cost : goal.returns-in_err-place-clause-cost
returns-in_err-place-clause-cost g c = cheap_table c.args.table.now _ _ c.place_of.ensures.more c.place_of.ensures.cost

pub form-requires : goal.form-requires
form-requires g c = let size = size_of c.args.table.now in omega (arith, size, c.in_ok-place.ensures.found.0)

pub returns-clause-found : goal.returns-clause-found
returns-clause-found g c =
    let at = rw c.mask.ensures at c.in_ok-place.ensures.found in
    rw (c.form.ensures no_entry, form_at c.args.table.now c.in_ok-place.place no_entry (subst (λ (n : ℕ). c.in_ok-place.place < n) (sym (size_of c.args.table.now)) at.0)) (mask_in _ _ _ _ _ c.args.table.now.level at.0 at.1)

pub returns-clause-cost : goal.returns-clause-cost
returns-clause-cost g c = cheap_table c.args.table.now _ _ c.place_of.ensures.more c.place_of.ensures.cost
