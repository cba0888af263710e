use Rattle.std.proofs.Common.{◌≡◌, ◌<◌, length, ◌+◌, ◌*◌}
use Rattle.lisa_tree.specs.Activations.{act_trees}
use Rattle.lisa_tree.specs.Tokens.{toks}
use Rattle.lisa_activation_reader.specs.Gives.{with_front}
use Rattle.lisa_activation_reader.specs.Reading.{acts, more, items_of}
use Rattle.lisa_activation_reader.proofs.items.+activations.Given as goal

abbrev pub decreases-activation : goal.decreases-activation
decreases-activation l = 8 * length l.tokens.now + 5

abbrev pub decreases-braced : goal.decreases-braced
decreases-braced l = 8 * length l.tokens.now

abbrev pub decreases-by_front : goal.decreases-by_front
decreases-by_front l = 8 * length l.tokens.now + 2

abbrev pub decreases-choice : goal.decreases-choice
decreases-choice l = 8 * length l.tokens.now + 5

abbrev pub decreases-further : goal.decreases-further
decreases-further l = 8 * length l.tokens.now

abbrev pub decreases-item : goal.decreases-item
decreases-item l = 8 * length l.tokens.now + 3

abbrev pub decreases-items : goal.decreases-items
decreases-items l = 8 * length l.tokens.now + 4

abbrev pub decreases-otherwise : goal.decreases-otherwise
decreases-otherwise l = 8 * length l.tokens.now + 5

abbrev pub invariant-items-each : goal.invariant-items-each
invariant-items-each l = (with_front (act_trees l.all.items) (acts (more l.budget (toks l.rest))) ≡ items_of acts l.budget (toks l.tokens)) × (length l.rest < length l.tokens)

abbrev pub decreases-items-each : goal.decreases-items-each
decreases-items-each l = length l.rest
