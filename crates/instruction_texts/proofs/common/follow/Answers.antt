use Rattle.std.proofs.Common.{arith}
use Rattle.std.specs.Prelude.{option_map}
use Rattle.instruction_texts.specs.Moves.{step_of}
use Rattle.instruction_texts.proofs.Searching.{joins_longer, follows, on_ok}
use Rattle.instruction_texts.proofs.common.follow.Goals as goal

pub join-requires-4 : goal.join-requires-4
join-requires-4 c = omega (arith, c.requires.inside, joins_longer c.in_ok-join.ensures, joins_longer c.in_ok-join-2.ensures, joins_longer c.in_ok-join-3.ensures)

pub returns : goal.returns
returns c = on_ok c.join-4.result c.join-4.ensures (λ j. follows c.args.first.now c.args.second.now c.args.meetings.now.items c.join.new.meetings.items c.join-2.new.meetings.items c.join-3.new.meetings.items c.join-4.new.meetings.items c.args.number c.places.result.0 c.places.result.1 (option_map step_of c.first_move-plain.result) (option_map step_of c.first_move-other_plain.result) (option_map step_of c.second_move-negative.result) (option_map step_of c.second_move-other_negative.result) c.requires.inside (rw c.deref.ensures.value at c.places.ensures) c.first_move-plain.ensures c.second_move-negative.ensures c.first_move-other_plain.ensures c.second_move-other_negative.ensures c.in_ok-join.ensures c.in_ok-join-2.ensures c.in_ok-join-3.ensures j)
