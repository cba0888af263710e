use Rattle.std.proofs.Common.{◌≡◌, None, option_map, sym, ap, ◌∙◌}
use Rattle.lisa_tree.specs.Descriptions.{DescriptionTree}
use Rattle.description_sizes.specs.activation_trees.Twice.{first_root_twice}
use Rattle.lisa_forms.specs.Verdicts.{root_twice, IsRootVerdict, from_sizes}
use Rattle.lisa_forms.proofs.Walking.{past, err_past, ok_past}
use Rattle.lisa_forms.proofs.checking.from_roots.Goals as goal

no_root_twice : (d : DescriptionTree) → None ≡ first_root_twice d → IsRootVerdict d None
no_root_twice d e = ap (option_map (root_twice d)) e

pub from_sizes-requires-clause-before : goal.from_sizes-requires-clause-before
from_sizes-requires-clause-before g c =
    let d = g.N.Names.tree c.args.names.now in
    λ later. c.requires.before (past (IsRootVerdict d) (from_sizes d) None (no_root_twice d (sym c.in-None.is ∙ c.in_ok-first_root_twice.ensures)) later)

pub returns-in-None-clause-accepted : goal.returns-in-None-clause-accepted
returns-in-None-clause-accepted g c =
    let d = g.N.Names.tree c.args.names.now in
    ok_past (IsRootVerdict d) (from_sizes d) c.from_sizes.result (no_root_twice d (sym c.in-None.is ∙ c.in_ok-first_root_twice.ensures)) c.from_sizes.ensures.accepted

pub returns-in-None-clause-fault : goal.returns-in-None-clause-fault
returns-in-None-clause-fault g c =
    let d = g.N.Names.tree c.args.names.now in
    err_past (IsRootVerdict d) (from_sizes d) c.from_sizes.result (no_root_twice d (sym c.in-None.is ∙ c.in_ok-first_root_twice.ensures)) c.from_sizes.ensures.fault
