-- With the operations that are left all are noted.
use Rattle.std.proofs.Common.{◌≡◌, ◌+◌, ℕ, drop}
use Rattle.access_counts.specs.Ledgers.{Prices, HasRoom, capped, worth, worth_from, ledger_worth}
use Rattle.access_counts.specs.Rounds.{texts_priced}
use Rattle.access_counts.proofs.unfolding.note_all_texts.Given as goal

abbrev pub invariant-loop-operation : goal.invariant-loop-operation
invariant-loop-operation g l =
    let d = g.N.Names.tree l.names in
    record {
      room : HasRoom d l.ledger;
      rest : (p : Prices) → capped (ledger_worth p l.ledger + worth_from (texts_priced d p) l.operation (drop l.operation l.times)) ≡ capped (ledger_worth p l.fn.ledger + worth (texts_priced d p) l.times);
    }
