use Rattle.std.proofs.Common.{ap, sym, subst, ◌∙◌, arith}
use Rattle.verilog_text.specs.Trees.{VTree}
use Rattle.verilog_text.specs.Values.{v_width}
use Rattle.verilog_text.specs.Clocked.{widths_of}
use Rattle.verilog_text.specs.Clockable.{IsNarrow}
use Rattle.verilog_clock.specs.Scopes.{module_in}
use Rattle.verilog_clock.proofs.Trees.{tree_size}
use Rattle.verilog_clock.proofs.Meanings.{join_is}
use Rattle.verilog_clock.proofs.compile.+widths.Goals as goal

pub own_width-parts_width-requires : goal.own_width-parts_width-requires
own_width-parts_width-requires t c =
    let tree = join_is _ _ _ c.in-Join.is c.deref-in-Join.ensures.value in
    let narrow = subst (λ (e : VTree). IsNarrow (widths_of (module_in c.args.scope.now)) e) tree c.requires in
    (omega (arith, c.decreases, ap tree_size tree), (narrow.1, narrow.0))

pub own_width-returns-in-Join-clause-value : goal.own_width-returns-in-Join-clause-value
own_width-returns-in-Join-clause-value t c =
    c.parts_width.ensures ∙ sym (ap (v_width (widths_of (module_in c.args.scope.now))) (join_is _ _ _ c.in-Join.is c.deref-in-Join.ensures.value))

pub own_width-returns-in-Join-clause-small : goal.own_width-returns-in-Join-clause-small
own_width-returns-in-Join-clause-small t c =
    let narrow = subst (λ (e : VTree). IsNarrow (widths_of (module_in c.args.scope.now)) e) (join_is _ _ _ c.in-Join.is c.deref-in-Join.ensures.value) c.requires in
    omega (arith, c.parts_width.ensures, narrow.0)
