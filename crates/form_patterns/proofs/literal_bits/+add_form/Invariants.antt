-- What is left to add leads to the whole.
use Rattle.std.proofs.Common.{drop}
use Rattle.instruction_forms.specs.declared.form.Form.{out-Form}
use Rattle.form_patterns.proofs.Adding.{Leads}
use Rattle.form_patterns.proofs.Framing.{rest_frame}
use Rattle.form_patterns.proofs.literal_bits.+add_form.Given as goal

abbrev pub invariant-loop-item : goal.invariant-loop-item
invariant-loop-item g l =
    let d = g.N.Names.tree l.names in
    let f = out-Form l.form in
    Leads l.initial.bits (rest_frame d f.operation l.items f.children.items) l.bits (rest_frame d f.operation (drop l.item-index l.items) (drop l.place f.children.items))
