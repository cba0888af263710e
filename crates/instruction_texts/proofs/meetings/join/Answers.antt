use Rattle.std.proofs.Common.{None, refl}
use Rattle.std.specs.Prelude.{option_map}
use Rattle.instruction_texts.specs.Moves.{step_of}
use Rattle.instruction_texts.proofs.Joining.{no_first, no_second, none_joins, coming_joins, pushed_joins}
use Rattle.instruction_texts.proofs.meetings.join.Goals as goal

pub returns-in_default : goal.returns-in_default
returns-in_default c = rw c.in_default.is-1 (no_second c.args.meetings.now.items c.args.before (option_map step_of c.args.first) None refl)

pub returns-in_default-3 : goal.returns-in_default-3
returns-in_default-3 c = rw c.in_default.is-0 (no_first c.args.meetings.now.items c.args.before None (option_map step_of c.args.second) refl)

pub returns-in_default-2 : goal.returns-in_default-2
returns-in_default-2 c =
    rw (c.in-Some-Some.is-0, c.in-Some-Some.is-1) (none_joins c.args.meetings.now.items c.args.before (step_of c.in-Some-Some.first) (step_of c.in-Some-Some.second) (rw c.in_default-2.is at c.in_ok-token.ensures))

pub returns-then-comes : goal.returns-then-comes
returns-then-comes c =
    rw (c.in-Some-Some.is-0, c.in-Some-Some.is-1) (coming_joins c.args.meetings.now.items c.args.before (step_of c.in-Some-Some.first) (step_of c.in-Some-Some.second) (rw c.deref.ensures.value at c.comes.ensures c.if-comes.true))

pub returns : goal.returns
returns c =
    rw (c.in-Some-Some.is-0, c.in-Some-Some.is-1) (pushed_joins c.args.meetings.now.items c.push.new.self.items c.args.before (step_of c.in-Some-Some.first) (step_of c.in-Some-Some.second) c.in-Some.token (rw c.in-Some.is at c.in_ok-token.ensures) c.in_ok-push.ensures.items)
