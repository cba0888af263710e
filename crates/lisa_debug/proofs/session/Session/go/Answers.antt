use Rattle.std.proofs.Common.{length, subst, refl}
use Rattle.lisa_debug.specs.Commands.{IsShown, IsWithin}
use Rattle.lisa_debug.proofs.session.Session.go.Goals as goal

pub step-requires-clause-live : goal.step-requires-clause-live
step-requires-clause-live g c = c.requires.live

pub step-requires-clause-limit : goal.step-requires-clause-limit
step-requires-clause-limit g c = subst (IsWithin (length c.args.self.now.journal.entries.items)) c.in-Step.is c.requires.within

pub step_until-requires-clause-live : goal.step_until-requires-clause-live
step_until-requires-clause-live g c = c.requires.live

pub step_until-requires-clause-limit : goal.step_until-requires-clause-limit
step_until-requires-clause-limit g c = subst (IsWithin (length c.args.self.now.journal.entries.items)) c.in-Until.is c.requires.within

pub step_until-requires-clause-item : goal.step_until-requires-clause-item
step_until-requires-clause-item g c = subst (IsShown (g.E.Engine.machine c.args.self.now.engine).items (g.E.Engine.machine c.args.self.now.engine).arrays) c.in-Until.is c.requires.shown

pub back-requires-clause-live : goal.back-requires-clause-live
back-requires-clause-live g c = c.requires.live

pub back-requires-clause-limit : goal.back-requires-clause-limit
back-requires-clause-limit g c = subst (IsWithin (length c.args.self.now.journal.entries.items)) c.in-Back.is c.requires.within

pub returns-in-Step : goal.returns-in-Step
returns-in-Step g c = rw c.in-Step.is c.step.ensures

pub returns-in-Until : goal.returns-in-Until
returns-in-Until g c = rw c.in-Until.is c.step_until.ensures

pub returns-in-Back : goal.returns-in-Back
returns-in-Back g c = rw c.in-Back.is c.back.ensures

pub returns-in-Show : goal.returns-in-Show
returns-in-Show g c = rw c.in-Show.is (record { same = refl; live = c.requires.live; stands = refl })

pub returns-in-ShowItem : goal.returns-in-ShowItem
returns-in-ShowItem g c = rw c.in-ShowItem.is (record { same = refl; live = c.requires.live; stands = refl })

pub returns-in-ShowCell : goal.returns-in-ShowCell
returns-in-ShowCell g c = rw c.in-ShowCell.is (record { same = refl; live = c.requires.live; stands = refl })

pub returns-in-Where : goal.returns-in-Where
returns-in-Where g c = rw c.in-Where.is (record { same = refl; live = c.requires.live; stands = refl })

pub returns-in-ListItems : goal.returns-in-ListItems
returns-in-ListItems g c = rw c.in-ListItems.is (record { same = refl; live = c.requires.live; stands = refl })

pub returns-in-Quit : goal.returns-in-Quit
returns-in-Quit g c = rw c.in-Quit.is (record { same = refl; live = c.requires.live; stands = refl })
