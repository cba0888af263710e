use Rattle.std.proofs.Common.{sym, ap, ◌∙◌, subst}
use Rattle.lisa_words.specs.Gaps.{GapIs, GapFits, gap_at}
use Rattle.lisa_words.proofs.GapLaws.{gap_is, gap_whole, gap_broken, gap_fits}
use Rattle.lisa_words.proofs.gaps.leading_gap.Goals as goal

pub returns-clause-found : goal.returns-clause-found
returns-clause-found c = subst (λ g. GapIs c.args.bytes.now g) (sym c.gap_at.ensures) (gap_is c.args.bytes.now)

pub returns-clause-only : goal.returns-clause-only
returns-clause-only c = λ text rest e g. c.gap_at.ensures ∙ ap gap_at e ∙ gap_whole g

pub returns-clause-only_broken : goal.returns-clause-only_broken
returns-clause-only_broken c = λ n g. c.gap_at.ensures ∙ gap_broken g

pub returns-clause-within : goal.returns-clause-within
returns-clause-within c = subst (λ g. GapFits c.args.bytes.now g) (sym c.gap_at.ensures) (gap_fits c.args.bytes.now (gap_at c.args.bytes.now) (gap_is c.args.bytes.now))
