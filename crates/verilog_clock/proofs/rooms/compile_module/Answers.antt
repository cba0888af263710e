use Rattle.std.proofs.Common.{List, map, subst, sym}
use Rattle.std.specs.Prelude.{All}
use Rattle.verilog_text.specs.declared.modules.Member.{Member}
use Rattle.verilog_text.specs.Trees.{member_tree}
use Rattle.verilog_text.specs.Clocked.{nets, blocks, widths_of}
use Rattle.verilog_clock.specs.Named.{AreNets, MeansBlocks, IsSmallMember}
use Rattle.verilog_clock.specs.Scopes.{module_in}
use Rattle.verilog_clock.proofs.Edging.{runs}
use Rattle.verilog_clock.proofs.Small.{small_members}
use Rattle.verilog_clock.proofs.rooms.compile_module.Goals as goal

pub returns-clause-runs : goal.returns-clause-runs
returns-clause-runs c =
    let m = module_in c.args.scope.now in
    runs m c.in_ok-nets.nets.items c.in_ok-acts.acts.items
    (subst (λ (xs : List Member). AreNets m c.in_ok-nets.nets.items (nets (map (member_tree m.clock) xs))) c.deref.ensures.value c.in_ok-nets.ensures)
    (subst (λ (xs : List Member). MeansBlocks m c.in_ok-acts.acts.items (blocks (map (member_tree m.clock) xs))) c.deref-2.ensures.value c.in_ok-acts.ensures)

pub compile_nets-requires : goal.compile_nets-requires
compile_nets-requires c =
    let m = module_in c.args.scope.now in
    subst (λ (xs : List Member). All (IsSmallMember (widths_of m)) (map (member_tree m.clock) xs)) (sym c.deref.ensures.value) (small_members m c.requires)

pub compile_blocks-requires : goal.compile_blocks-requires
compile_blocks-requires c =
    let m = module_in c.args.scope.now in
    subst (λ (xs : List Member). All (IsSmallMember (widths_of m)) (map (member_tree m.clock) xs)) (sym c.deref-2.ensures.value) (small_members m c.requires)
