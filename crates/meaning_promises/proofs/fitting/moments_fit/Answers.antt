use Rattle.lisa_meaning.specs.Effects.{run_behavior}
use Rattle.lisa_meaning.specs.Moments.{begin_moment, close_moment}
use Rattle.lisa_meaning.proofs.Stored.{begins, behavior_kept, closes}
use Rattle.meaning_promises.proofs.Kept.{stored, fitting, moment_stored, moment_fitting}
use Rattle.meaning_promises.proofs.fitting.moments_fit.Goals as goal

pub returns-clause-begins : goal.returns-clause-begins
returns-clause-begins c = λ d pins contents fit. moment_fitting d (begin_moment d pins contents) (begins d pins contents (stored d contents fit))

pub returns-clause-behaves : goal.returns-clause-behaves
returns-clause-behaves c = λ d scene m fit. moment_fitting d (run_behavior d scene m) (behavior_kept d scene m (moment_stored d m fit))

pub returns-clause-closes : goal.returns-clause-closes
returns-clause-closes c = λ d m fit. fitting d (close_moment d m) (closes d m (moment_stored d m fit))
