use Rattle.std.proofs.Common.{◌∙◌, ap}
use Rattle.step_program.specs.Programs.{program_tree}
use Rattle.netlist_wires.specs.Wiring.{Sym, ended}
use Rattle.netlist_wires.specs.contracts.keys.KeyPartialEq.TheImpl as impl
use Rattle.netlist_build.specs.Symbolic.{first}
use Rattle.netlist_build.proofs.Finds.{is_find}
use Rattle.netlist_build.proofs.EqualKeys.{key_same}
use Rattle.netlist_build.proofs.Wordy.{key_words, item_words, few_items, write_words, ended_sym, ended_keys}
use Rattle.netlist_build.proofs.Assembly.{assembled}
use Rattle.netlist_build.proofs.building.assemble.Goals as goal

pub all_actions-requires-clause-items : goal.all_actions-requires-clause-items
all_actions-requires-clause-items c =
    let p = program_tree c.args.program.now in
    let sym_is = ended_sym (first impl.eq-value.it) p _ _ _ c.in_ok-symbols.ensures c.no_keys-keys.ensures c.in_ok-take_all.ensures.sym in
    item_words (first impl.eq-value.it) (is_find impl.eq-value.it key_same) p c.requires _ (ap (λ (s : Sym). s.items) sym_is)

pub all_actions-requires-clause-few : goal.all_actions-requires-clause-few
all_actions-requires-clause-few c =
    let p = program_tree c.args.program.now in
    let sym_is = ended_sym (first impl.eq-value.it) p _ _ _ c.in_ok-symbols.ensures c.no_keys-keys.ensures c.in_ok-take_all.ensures.sym in
    few_items (first impl.eq-value.it) (is_find impl.eq-value.it key_same) p c.requires _ (ap (λ (s : Sym). s.items) sym_is)

pub all_actions-requires-clause-writes : goal.all_actions-requires-clause-writes
all_actions-requires-clause-writes c =
    let p = program_tree c.args.program.now in
    let sym_is = ended_sym (first impl.eq-value.it) p _ _ _ c.in_ok-symbols.ensures c.no_keys-keys.ensures c.in_ok-take_all.ensures.sym in
    write_words (first impl.eq-value.it) (is_find impl.eq-value.it key_same) p c.requires _ (ap (λ (s : Sym). s.writes) sym_is)

pub all_members-requires-clause-words : goal.all_members-requires-clause-words
all_members-requires-clause-words c =
    let p = program_tree c.args.program.now in
    let keys_is = ended_keys (first impl.eq-value.it) p _ _ _ c.in_ok-symbols.ensures c.no_keys-keys.ensures c.in_ok-take_all.ensures.keys in
    key_words (first impl.eq-value.it) (is_find impl.eq-value.it key_same) p c.requires _ (c.as_slice-2.ensures.keys ∙ keys_is)

pub returns-clause-built : goal.returns-clause-built
returns-clause-built c =
    let p = program_tree c.args.program.now in
    let find = first impl.eq-value.it in
    let sym_is = ended_sym find p _ _ _ c.in_ok-symbols.ensures c.no_keys-keys.ensures c.in_ok-take_all.ensures.sym in
    let keys_is = ended_keys find p _ _ _ c.in_ok-symbols.ensures c.no_keys-keys.ensures c.in_ok-take_all.ensures.keys in
    assembled p (ended find p) _ _ _ _ _ _ _ c.in_ok-name.ensures c.in_ok-clock.ensures (c.in_ok-inputs.ensures ∙ c.deref.ensures.value) c.in_ok-members.ensures (c.as_slice-2.ensures.keys ∙ keys_is) c.in_ok-actions.ensures sym_is
