use Rattle.std.proofs.Common.{◌*◌, ap, sym, subst, ◌∙◌, arith}
use Rattle.verilog_text.specs.declared.expressions.VExpr.{VExpr}
use Rattle.verilog_text.specs.Trees.{VTree, vexpr_tree}
use Rattle.verilog_text.specs.Values.{v_width}
use Rattle.verilog_text.specs.Clocked.{widths_of}
use Rattle.verilog_text.specs.Clockable.{IsNarrow}
use Rattle.verilog_clock.specs.Named.{Means}
use Rattle.verilog_clock.specs.Scopes.{module_in}
use Rattle.verilog_clock.proofs.Trees.{tree_size}
use Rattle.verilog_clock.proofs.Meanings.{join_is, if_ok_so, parts_mean, repeat_means, repeats_mean, join_means, split_list}
use Rattle.verilog_clock.proofs.compile.+compiled.Goals as goal

pub compile-compile_join-requires : goal.compile-compile_join-requires
compile-compile_join-requires t c =
    let tree = join_is _ _ _ c.in-Join.is c.deref-in-Join.ensures.value in
    let narrow = subst (λ (e : VTree). IsNarrow (widths_of (module_in c.args.scope.now)) e) tree c.requires.narrow in
    (omega (arith, c.decreases, ap tree_size tree), (narrow.1, narrow.0))

pub compile-returns-in-Bits : goal.compile-returns-in-Bits
compile-returns-in-Bits t c = if_ok_so _ _ _ c.select.ensures
    (λ code is. subst (λ (e : VTree). Means (module_in c.args.scope.now) e c.args.length code) (sym (ap vexpr_tree c.in-Bits.is)) (is c.args.length))

pub compile-returns-in_ok-joined-in-Join : goal.compile-returns-in_ok-joined-in-Join
compile-returns-in_ok-joined-in-Join t c =
    parts_mean (module_in c.args.scope.now) c.args.e.now c.deref-in-Join.result.now c.in_ok-joined-in-Join.joined c.args.length (join_is _ _ _ c.in-Join.is c.deref-in-Join.ensures.value) c.in_ok-joined-in-Join.ensures.value

pub compile_part-compile_join-requires : goal.compile_part-compile_join-requires
compile_part-compile_join-requires t c =
    let tree = join_is _ _ _ c.in-Join.is c.deref.ensures.value in
    let narrow = subst (λ (e : VTree). IsNarrow (widths_of (module_in c.args.scope.now)) e) tree c.requires in
    (omega (arith, c.decreases, ap tree_size tree), (narrow.1, narrow.0))

pub compile_part-returns-in-Join-clause-value : goal.compile_part-returns-in-Join-clause-value
compile_part-returns-in-Join-clause-value t c = if_ok_so c.compile_join.result _ _ c.compile_join.ensures.value
    (λ part is. parts_mean (module_in c.args.scope.now) c.args.e.now c.deref.result.now part.0 part.1 (join_is _ _ _ c.in-Join.is c.deref.ensures.value) is)

pub compile_part-returns-in-Join-clause-width : goal.compile_part-returns-in-Join-clause-width
compile_part-returns-in-Join-clause-width t c = if_ok_so c.compile_join.result _ _ c.compile_join.ensures.width
    (λ part is. is ∙ sym (ap (v_width (widths_of (module_in c.args.scope.now))) (join_is _ _ _ c.in-Join.is c.deref.ensures.value)))

pub compile_part-returns-in-Repeat-clause-value : goal.compile_part-returns-in-Repeat-clause-value
compile_part-returns-in-Repeat-clause-value t c = if_ok_so c.compile_repeat.result _ _ c.compile_repeat.ensures.value
    (λ part is. repeats_mean (module_in c.args.scope.now) c.args.e.now c.in-Repeat.a.value c.deref-in-Repeat.result.now c.in-Repeat.times part.0 part.1 (ap vexpr_tree c.in-Repeat.is) c.deref-in-Repeat.ensures is)

pub compile_part-returns-in-Repeat-clause-width : goal.compile_part-returns-in-Repeat-clause-width
compile_part-returns-in-Repeat-clause-width t c = if_ok_so c.compile_repeat.result _ _ c.compile_repeat.ensures.width
    (λ part is. is ∙ ap (λ (x : VExpr). c.in-Repeat.times * v_width (widths_of (module_in c.args.scope.now)) (vexpr_tree x)) c.deref-in-Repeat.ensures
    ∙ sym (ap (v_width (widths_of (module_in c.args.scope.now))) (ap vexpr_tree c.in-Repeat.is)))

pub compile_repeat-returns-clause-value : goal.compile_repeat-returns-clause-value
compile_repeat-returns-clause-value t c =
    repeat_means (module_in c.args.scope.now) c.args.a.now c.args.times c.in_ok-a.width c.in_ok-a.a c.in_ok-all.all c.in_ok-a.ensures.width c.in_ok-a.ensures.value c.in_ok-all.ensures

pub compile_join-returns-clause-value : goal.compile_join-returns-clause-value
compile_join-returns-clause-value t c =
    join_means (module_in c.args.scope.now) c.args.parts.now c.first-item.result _ c.in_ok-high.width c.in_ok-rest.low c.of.result.bits c.in_ok-high.high c.in_ok-rest.rest c.in_ok-joined.joined
    (split_list c.args.parts.now c.first-item.result c.in-len1-up.len_at_least c.first-item.is) c.in_ok-high.ensures.width c.in_ok-rest.ensures.width c.of.ensures c.in_ok-high.ensures.value c.in_ok-rest.ensures.value c.in_ok-joined.ensures
