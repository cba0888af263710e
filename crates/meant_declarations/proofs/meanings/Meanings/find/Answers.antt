use Rattle.std.proofs.Common.{◌∙◌, ℕ, List, Bool, length, ap, sym, subst}
use Rattle.std.specs.Global.{Vec}
use Rattle.graph_paths.specs.Paths.{AreNodes}
use Rattle.least_fixed_points.specs.Settles.{entry}
use Rattle.meant_declarations.specs.Meanings.{Meant}
use Rattle.meant_declarations.specs.Walks.{IsOrigin}
use Rattle.meant_declarations.proofs.Leading.{found, back_nodes}
use Rattle.meant_declarations.proofs.meanings.Meanings.find.Goals as goal

pub origins-requires : goal.origins-requires
origins-requires g c = subst AreNodes (sym (c.deref.ensures.value ∙ ap (λ (m : Meant). m.back) c.self.view_is)) (back_nodes (g.N.Names.tree c.args.names.now) c.args.self.now c.requires)

pub returns-clause-length : goal.returns-clause-length
returns-clause-length g c = c.in_ok-found.ensures.count ∙ ap length (c.deref.ensures.value ∙ ap (λ (m : Meant). m.back) c.self.view_is) ∙ c.requires.back_count

pub returns-clause-exact : goal.returns-clause-exact
returns-clause-exact g c = λ i.
    found (g.N.Names.tree c.args.names.now) c.args.self.now c.requires c.args.marked.now c.in_ok-starts.starts.items c.in_ok-starts.ensures i (entry c.in_ok-found.found.items i)
    (subst (λ (back : List (Vec ℕ)). IsOrigin back c.in_ok-starts.starts.items i (entry c.in_ok-found.found.items i)) (c.deref.ensures.value ∙ ap (λ (m : Meant). m.back) c.self.view_is)
    (subst (λ (starts : List Bool). IsOrigin c.deref.result.now starts i (entry c.in_ok-found.found.items i)) c.deref-2.ensures.value (c.in_ok-found.ensures.exact i)))
