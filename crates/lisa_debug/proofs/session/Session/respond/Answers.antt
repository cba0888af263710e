use Rattle.std.proofs.Common.{length, subst, refl}
use Rattle.std.specs.Prelude.{IfOk}
use Rattle.lisa_debug.specs.Commands.{IsShown, IsWithin}
use Rattle.lisa_debug.proofs.Fronts.{on_ok}
use Rattle.lisa_debug.proofs.session.Session.respond.Goals as goal

pub carry_out-requires-clause-live : goal.carry_out-requires-clause-live
carry_out-requires-clause-live g c = c.requires.live

pub carry_out-requires-clause-within : goal.carry_out-requires-clause-within
carry_out-requires-clause-within g c = subst (λ r. IfOk r (IsWithin (length c.args.self.now.journal.entries.items))) c.in-Ok.is c.requires.within

pub carry_out-requires-clause-shown : goal.carry_out-requires-clause-shown
carry_out-requires-clause-shown g c = subst (λ r. IfOk r (IsShown (g.E.Engine.machine c.args.self.now.engine).items (g.E.Engine.machine c.args.self.now.engine).arrays)) c.in-Ok.is c.requires.shown

pub returns-in-Ok-clause-puts : goal.returns-in-Ok-clause-puts
returns-in-Ok-clause-puts g c = rw c.in-Ok.is c.carry_out.ensures.puts

pub returns-in-Ok-clause-came : goal.returns-in-Ok-clause-came
returns-in-Ok-clause-came g c = rw c.in-Ok.is c.carry_out.ensures.came

pub returns-in-Ok-clause-goes : goal.returns-in-Ok-clause-goes
returns-in-Ok-clause-goes g c = rw c.in-Ok.is c.carry_out.ensures.goes

pub returns-in-Err-clause-puts : goal.returns-in-Err-clause-puts
returns-in-Err-clause-puts g c = rw c.in-Err.is c.refuse.ensures.puts

pub returns-in-Err-clause-came : goal.returns-in-Err-clause-came
returns-in-Err-clause-came g c = rw c.in-Err.is (on_ok c.refuse.result (record { same = refl; live = c.requires.live; stands = refl }))

pub returns-in-Err-clause-goes : goal.returns-in-Err-clause-goes
returns-in-Err-clause-goes g c = rw c.in-Err.is c.refuse.ensures.goes
