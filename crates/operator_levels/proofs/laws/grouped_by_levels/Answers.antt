use Rattle.operator_levels.proofs.ChainLaws as laws
use Rattle.operator_levels.proofs.laws.grouped_by_levels.Goals as goal

pub returns-clause-found : goal.returns-clause-found
returns-clause-found g c = λ limit t x rest e. laws.found g.T.Joined.two g.T.Joined.deep limit t x rest e

pub returns-clause-only : goal.returns-clause-only
returns-clause-only g c = λ limit t x rest d deep. laws.only g.T.Joined.two g.T.Joined.deep limit g.met.T.Joined.deepens t x rest d deep
