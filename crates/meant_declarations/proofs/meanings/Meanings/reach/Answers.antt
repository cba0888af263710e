use Rattle.std.proofs.Common.{◌≡◌, ◌∙◌, ℕ, List, Option, length, ap, sym, subst}
use Rattle.std.specs.Global.{Vec}
use Rattle.graph_paths.specs.Paths.{AreNodes, saw}
use Rattle.least_fixed_points.specs.Settles.{entry}
use Rattle.meant_declarations.specs.Meanings.{Meant}
use Rattle.meant_declarations.specs.Walks.{IsOrigin}
use Rattle.std.specs.Option.{is_some}
use Rattle.meant_declarations.proofs.Leading.{reached, back_nodes}
use Rattle.meant_declarations.proofs.meanings.Meanings.reach.Goals as goal

pub origins-requires : goal.origins-requires
origins-requires g c = subst AreNodes (sym (c.deref.ensures.value ∙ ap (λ (m : Meant). m.back) c.self.view_is)) (back_nodes (g.N.Names.tree c.args.names.now) c.args.self.now c.requires)

pub returns-clause-length : goal.returns-clause-length
returns-clause-length g c =
    c.in_ok-reached.ensures.length ∙ ap length c.deref-2.ensures.value ∙ c.in_ok-found.ensures.count ∙ ap length (c.deref.ensures.value ∙ ap (λ (m : Meant). m.back) c.self.view_is) ∙ c.requires.back_count

pub returns-clause-exact : goal.returns-clause-exact
returns-clause-exact g c = λ i.
    let told = reached (g.N.Names.tree c.args.names.now) c.args.self.now c.requires c.args.marked.now i (entry c.in_ok-found.found.items i)
    (subst (λ (back : List (Vec ℕ)). IsOrigin back c.args.marked.now i (entry c.in_ok-found.found.items i)) (c.deref.ensures.value ∙ ap (λ (m : Meant). m.back) c.self.view_is) (c.in_ok-found.ensures.exact i)) in
    let is : saw c.in_ok-reached.reached.items i ≡ is_some (entry c.in_ok-found.found.items i) = c.in_ok-reached.ensures.marked i ∙ ap (λ (table : List (Option ℕ)). is_some (entry table i)) c.deref-2.ensures.value in
    (λ e. told.0 (sym is ∙ e), λ some. is ∙ told.1 some)
