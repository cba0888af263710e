-- With the operations that are left all are noted.
use Rattle.std.proofs.Common.{◌≡◌, ◌+◌, ℕ, drop}
use Rattle.access_counts.specs.Ledgers.{Prices, HasRoom, capped, worth, worth_from, ledger_worth}
use Rattle.access_counts.specs.Rounds.{priced}
use Rattle.access_counts.proofs.rounds.note_all.Given as goal

abbrev pub invariant-loop-operation : goal.invariant-loop-operation
invariant-loop-operation g l =
    let d = g.N.Names.tree l.names in
    record {
      room : HasRoom d l.ledger;
      rest : (p : Prices) → capped (ledger_worth p l.ledger + (worth_from (λ b. (priced d p b).read) l.operation (drop l.operation l.read) + (worth_from (λ b. (priced d p b).assigned) l.operation (drop l.operation l.assigned) + worth_from (λ b. (priced d p b).run) l.operation (drop l.operation l.run))))
          ≡ capped (ledger_worth p l.fn.ledger + (worth (λ b. (priced d p b).read) l.read + (worth (λ b. (priced d p b).assigned) l.assigned + worth (λ b. (priced d p b).run) l.run)));
    }
