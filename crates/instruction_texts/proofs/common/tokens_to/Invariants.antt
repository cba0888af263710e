use Rattle.std.specs.Prelude.{◌<◌, List, [], map, length, reverse}
use Rattle.instruction_texts.specs.declared.shapes.Token.{Token}
use Rattle.instruction_texts.specs.Meetings.{Way}
use Rattle.instruction_texts.proofs.common.tokens_to.Given as goal

abbrev pub invariant-back : goal.invariant-back
invariant-back l = (l.number < length l.meetings) × ((ws : List Token) → Way l.meetings l.number (reverse (map (λ token. token.now) l.tokens.items)) ws → Way l.meetings l.fn.last [] ws)

abbrev pub decreases-back : goal.decreases-back
decreases-back l = l.number
