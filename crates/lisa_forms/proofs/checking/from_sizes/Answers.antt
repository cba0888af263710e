use Rattle.std.proofs.Common.{◌≡◌, ℕ, None, Some, Result, MatchResult, subst, inr}
use Rattle.lisa_tree.specs.declared.faults.DescFault.{DescFault}
use Rattle.description_sizes.specs.declared.unfolding.Unfolded.{Unfolded}
use Rattle.description_sizes.specs.Outcomes.{IsUnfolded}
use Rattle.description_sizes.specs.Sizes.{size_fault}
use Rattle.lisa_forms.specs.Verdicts.{IsSizeVerdict, from_texts}
use Rattle.lisa_forms.proofs.Walking.{here, past, err_past, ok_past}
use Rattle.lisa_forms.proofs.Counts.{size_refused, unfolded_fits}
use Rattle.lisa_forms.proofs.checking.from_sizes.Goals as goal

pub from_texts-requires-clause-before : goal.from_texts-requires-clause-before
from_texts-requires-clause-before g c =
    let d = g.N.Names.tree c.args.names.now in
    let fits = unfolded_fits d c.width_of-width.result c.in_ok-count.count _ c.in-Ok.unfolded c.width_of-width.ensures c.in_ok-count.ensures c.in-Ok.is c.in_ok-unfolded.ensures in
    λ later. c.requires.before (past (IsSizeVerdict d) (from_texts d) None fits later)

pub returns-in-Ok-clause-accepted : goal.returns-in-Ok-clause-accepted
returns-in-Ok-clause-accepted g c =
    let d = g.N.Names.tree c.args.names.now in
    let fits = unfolded_fits d c.width_of-width.result c.in_ok-count.count _ c.in-Ok.unfolded c.width_of-width.ensures c.in_ok-count.ensures c.in-Ok.is c.in_ok-unfolded.ensures in
    ok_past (IsSizeVerdict d) (from_texts d) c.from_texts.result fits c.from_texts.ensures.accepted

pub returns-in-Ok-clause-fault : goal.returns-in-Ok-clause-fault
returns-in-Ok-clause-fault g c =
    let d = g.N.Names.tree c.args.names.now in
    let fits = unfolded_fits d c.width_of-width.result c.in_ok-count.count _ c.in-Ok.unfolded c.width_of-width.ensures c.in_ok-count.ensures c.in-Ok.is c.in_ok-unfolded.ensures in
    err_past (IsSizeVerdict d) (from_texts d) c.from_texts.result fits c.from_texts.ensures.fault

pub returns-in-Err-clause-fault : goal.returns-in-Err-clause-fault
returns-in-Err-clause-fault g c =
    let d = g.N.Names.tree c.args.names.now in
    let width = c.width_of-width.result in
    let f = c.in-Err.fault in
    let told : size_fault d width c.in_ok-count.count ≡ Some f = subst (λ (found : Result Unfolded DescFault). MatchResult found (IsUnfolded d width c.in_ok-count.count) (λ fault. size_fault d width c.in_ok-count.count ≡ Some fault)) c.in-Err.is c.in_ok-unfolded.ensures in
    inr (here (IsSizeVerdict d) (from_texts d) f (size_refused d width f c.width_of-width.ensures (subst (λ (n : ℕ). size_fault d width n ≡ Some f) c.in_ok-count.ensures told)))
