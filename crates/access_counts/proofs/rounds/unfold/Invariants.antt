-- With the levels that are left the ledger is worth what it was.
use Rattle.std.proofs.Common.{◌≡◌, ◌-◌}
use Rattle.access_counts.specs.Ledgers.{HasRoom, capped}
use Rattle.access_counts.specs.Rounds.{Rates, worth_within}
use Rattle.access_counts.proofs.rounds.unfold.Given as goal

abbrev pub invariant-loop-level : goal.invariant-loop-level
invariant-loop-level g l =
    let d = g.N.Names.tree l.names in
    let chosen = g.C.Choices.chosen l.choices in
    record {
      room : HasRoom d l.ledger;
      rest : (rates : Rates) → capped (worth_within (l.levels - l._level) d chosen rates l.ledger) ≡ capped (worth_within l.levels d chosen rates l.fn.start);
    }
