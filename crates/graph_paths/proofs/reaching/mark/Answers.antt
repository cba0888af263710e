use Rattle.std.proofs.Common.{sym, ◌∙◌}
use Rattle.graph_paths.proofs.Seen.{saw_at, saw-set, seen_twice, not_twice, pushed}
use Rattle.graph_paths.proofs.reaching.mark.Goals as goal

pub returns-clause-seen : goal.returns-clause-seen
returns-clause-seen c = λ b. saw-set _ _ b c.requires

pub returns-clause-work : goal.returns-clause-work
returns-clause-work c = λ b. rw c.in_ok-push.ensures.items (pushed _ _ _ b (saw_at _ _ _ c.requires ∙ sym c.index.ensures ∙ c.if-index.false))

pub returns-then-index-clause-seen : goal.returns-then-index-clause-seen
returns-then-index-clause-seen c = λ b. seen_twice _ _ b (saw_at _ _ _ c.requires ∙ sym c.index.ensures ∙ c.if-index.true)

pub returns-then-index-clause-work : goal.returns-then-index-clause-work
returns-then-index-clause-work c = λ b. not_twice _ _ _ b (saw_at _ _ _ c.requires ∙ sym c.index.ensures ∙ c.if-index.true)
