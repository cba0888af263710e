use Rattle.std.proofs.Common.{◌≡◌, ◌+◌, ◌∙◌, ap, arith}
use Rattle.access_counts.specs.Unfolded.{counted_within, text_accesses}
use Rattle.access_counts.specs.Ledgers.{capped, worth, ledger_worth}
use Rattle.access_counts.specs.Rounds.{prices_by, access_of, texts_priced}
use Rattle.access_counts.proofs.Worth.{starts}
use Rattle.access_counts.proofs.unfolding.count_accesses.Goals as goal

pub returns-clause-exact : goal.returns-clause-exact
returns-clause-exact g c = λ rates.
    let d = g.N.Names.tree c.args.names.now in
    let chosen = g.C.Choices.chosen c.args.choices.now in
    let p = prices_by chosen rates (counted_within c.args.levels d chosen (access_of d rates)) in
    let nothing = c.in_ok-start.ensures.nothing p in
    c.in_ok-ledger.ensures.same rates ∙ (c.note_all_texts.ensures.more p).same ∙ starts _ _ nothing
