use Rattle.std.proofs.Common.{◌≡◌, ◌∙◌, sym, arith, inl, inr, ⊎_elim, nat_eq}
use Rattle.std.proofs.lemmas.Bool.{or_cases, eqb-true, eq-eqb}
use Rattle.std.proofs.Common.{rules}
use Rattle.graph_paths.specs.Paths.{saw, Reaches}
use Rattle.graph_paths.proofs.Seen.{saw-set}
use Rattle.stage_checks.proofs.running.reached.Goals as goal

pub returns-clause-exact : goal.returns-clause-exact
returns-clause-exact c = λ b.
    let set = saw-set c.in_ok-seen.seen.items c.args.start b (search rules) in (
      (λ on. ⊎_elim (λ old. inr ((c.in_ok-seen.ensures.exact b).0 old)) (λ same. inl (eqb-true b c.args.start same)) (or_cases (saw c.in_ok-seen.seen.items b) (nat_eq b c.args.start) (sym set ∙ on))),
      (λ from. set ∙ ⊎_elim
          (λ (same : b ≡ c.args.start). let e = eq-eqb b c.args.start same in grind (arith, e))
          (λ (way : Reaches c.args.next.now c.args.start b). let e = (c.in_ok-seen.ensures.exact b).1 way in grind (arith, e)) from),
    )
