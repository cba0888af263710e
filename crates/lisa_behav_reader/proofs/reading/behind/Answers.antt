use Rattle.std.proofs.Common.{sym}
use Rattle.std.proofs.lemmas.List.{drop-map, take_rest}
use Rattle.lisa_tree.specs.declared.tokens.Token.{Token}
use Rattle.lisa_behav_reader.proofs.reading.behind.Goals as goal

pub returns-clause-value : goal.returns-clause-value
returns-clause-value c = rw take_rest (sym (drop-map (λ (t : Token). t.part) c.args.count c.args.tokens.now))
