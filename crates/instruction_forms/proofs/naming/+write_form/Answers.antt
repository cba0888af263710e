use Rattle.std.proofs.Common.{◌≡◌, ◌++◌, ◌∙◌, Bool, cond, [], sym, ap}
use Rattle.std.specs.Prelude.{codes}
use Rattle.std.proofs.lemmas.List.{append-nil}
use Rattle.lisa_tree.specs.Operations.{name_at}
use Rattle.instruction_forms.proofs.Commas.{first_written, next_written, all_written}
use Rattle.instruction_forms.proofs.naming.+write_form.Goals.{then-opened, else-opened}
use Rattle.instruction_forms.proofs.naming.+write_form.Goals as goal

pub loop-child-init : goal.loop-child-init
loop-child-init g t c =
    first_written (name_at (g.N.Names.tree c.args.names.now)) c.args.form.now c.deref-child-items.result.now c.deref-child-items.ensures.value c.write_name.new.text.items c.args.text.now.items c.in_ok-write_name.ensures

pub loop-child-preserved : goal.loop-child-preserved
loop-child-preserved g t c =
    let which : c.if-opened.push ≡ cond c.loop-child.opened 44 40 = elim c.if-opened.branch [
      | then-opened w ↦ w.push-is ∙ sym (ap (λ (b : Bool). cond b 44 40) w.if-opened.true)
      | else-opened w ↦ w.push-is ∙ sym (ap (λ (b : Bool). cond b 44 40) w.if-opened.false)
    ] in
    next_written (name_at (g.N.Names.tree c.args.names.now)) c.deref-child-items.result.now c.loop-child.child-index c.child-item.result c.loop-child-test.true c.child-item.is
    c.loop-child.opened c.if-opened.push which c.loop-child.text.items c.push.new.self.items c.write_form.new.text.items c.in_ok-push.ensures.items c.in_ok-write_form.ensures
    ∙ c.loop-child.invariant

pub returns-in_ok-push-2 : goal.returns-in_ok-push-2
returns-in_ok-push-2 g t c =
    let all = all_written (name_at (g.N.Names.tree c.args.names.now)) c.deref-child-items.result.now c.loop-child.child-index c.loop-child-test.false c.loop-child.opened c.loop-child.text.items in
    c.in_ok-push-2.ensures.items
    ∙ ap (λ (b : Bool). c.loop-child.text.items ++ cond b (codes ")") []) (sym c.if-opened-2.true)
    ∙ sym all ∙ c.loop-child.invariant

pub returns-else-opened-2 : goal.returns-else-opened-2
returns-else-opened-2 g t c =
    let all = all_written (name_at (g.N.Names.tree c.args.names.now)) c.deref-child-items.result.now c.loop-child.child-index c.loop-child-test.false c.loop-child.opened c.loop-child.text.items in
    sym (append-nil c.loop-child.text.items)
    ∙ ap (λ (b : Bool). c.loop-child.text.items ++ cond b (codes ")") []) (sym c.if-opened-2.false)
    ∙ sym all ∙ c.loop-child.invariant
