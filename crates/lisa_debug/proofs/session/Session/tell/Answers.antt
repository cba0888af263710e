use Rattle.std.proofs.Common.{subst}
use Rattle.lisa_io.proofs.Known.{puts_nothing}
use Rattle.lisa_debug.specs.Commands.{IsShown}
use Rattle.lisa_debug.proofs.session.Session.tell.Goals as goal

pub position-position-requires : goal.position-position-requires
position-position-requires g c = c.requires.live.limit

pub value-requires : goal.value-requires
value-requires g c = subst (IsShown (g.E.Engine.machine c.args.self.now.engine).items (g.E.Engine.machine c.args.self.now.engine).arrays) c.in-Until.is c.requires.shown

pub put_item-requires : goal.put_item-requires
put_item-requires g c = subst (IsShown (g.E.Engine.machine c.args.self.now.engine).items (g.E.Engine.machine c.args.self.now.engine).arrays) c.in-ShowItem.is c.requires.shown

pub put_cell-requires-clause-array : goal.put_cell-requires-clause-array
put_cell-requires-clause-array g c = (subst (IsShown (g.E.Engine.machine c.args.self.now.engine).items (g.E.Engine.machine c.args.self.now.engine).arrays) c.in-ShowCell.is c.requires.shown).0

pub put_cell-requires-clause-index : goal.put_cell-requires-clause-index
put_cell-requires-clause-index g c = (subst (IsShown (g.E.Engine.machine c.args.self.now.engine).items (g.E.Engine.machine c.args.self.now.engine).arrays) c.in-ShowCell.is c.requires.shown).1

pub returns-in-Until : goal.returns-in-Until
returns-in-Until g c = rw c.in-Until.is (rw (c.position-position.ensures, c.value.ensures, c.requires.live.now) at c.put_met_line.ensures)

pub returns-in-Show : goal.returns-in-Show
returns-in-Show g c = rw c.in-Show.is (rw (c.position-position.ensures, c.requires.live.now) at c.write_state.ensures)

pub returns-in-ShowItem : goal.returns-in-ShowItem
returns-in-ShowItem g c = rw c.in-ShowItem.is (rw c.requires.live.now at c.put_item.ensures)

pub returns-in-ShowCell : goal.returns-in-ShowCell
returns-in-ShowCell g c = rw c.in-ShowCell.is (rw c.requires.live.now at c.put_cell.ensures)

pub returns-in-ListItems : goal.returns-in-ListItems
returns-in-ListItems g c = rw c.in-ListItems.is (rw c.items.ensures at c.put_list.ensures)

pub returns-in-Quit : goal.returns-in-Quit
returns-in-Quit g c = rw c.in-Quit.is puts_nothing

pub returns-in-Step : goal.returns-in-Step
returns-in-Step g c = rw c.in-Step.is (rw c.position-position.ensures at c.put_edge_line.ensures)

pub returns-in-Where : goal.returns-in-Where
returns-in-Where g c = rw c.in-Where.is (rw c.position-position.ensures at c.put_edge_line-in-Where.ensures)

pub returns-in-Back : goal.returns-in-Back
returns-in-Back g c = rw c.in-Back.is (rw c.position-position.ensures at c.put_edge_line-in-Back.ensures)
