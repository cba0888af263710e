use Rattle.std.proofs.Common.{◌≡◌, length, ap, ◌∙◌, arith, rules}
use Rattle.lisa_board.specs.Boards.{Devices}
use Rattle.lisa_board.proofs.Counters.{none_looked}
use Rattle.lisa_board.proofs.run.run_board.Goals as goal

pub make_edges-requires-clause-counters : goal.make_edges-requires-clause-counters
make_edges-requires-clause-counters g c =
    let same = ap (λ (b : Devices). length b.timers) c.board.view_is in
    let count : c.len.result ≡ length c.args.board.now.timers = omega (arith, c.len.ensures, c.board.inside.timers.ok.0, same) in
    c.deref_mut.ensures.value ∙ c.in_ok-counters.ensures.items_if_clones_equal (λ y e. search rules) ∙ none_looked c.args.board.now.timers c.len.result count
