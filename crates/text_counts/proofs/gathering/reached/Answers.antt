use Rattle.std.proofs.Common.{◌∙◌, ℕ, List, Bool, ap, sym}
use Rattle.std.specs.Global.{Vec}
use Rattle.graph_paths.specs.Paths.{targets, saw}
use Rattle.text_counts.proofs.Sources.{searched_sources}
use Rattle.text_counts.proofs.gathering.reached.Goals as goal

pub returns : goal.returns
returns g c =
    let graph = c.args.graph.now in
    let seen = c.in_ok-seen.ensures.exact in
    searched_sources (g.N.Names.tree graph.names.now) graph.next.now c.requires.outline graph.base graph.first c.deref.result.now
    (λ a. ap (λ (l : List (Vec ℕ)). targets l a) c.deref.ensures.value ∙ c.in_ok-edges.ensures.rows a)
    c.args.reference c.in_ok-nodes.nodes.items c.requires.reference
    (λ b e. (seen b).0 (sym (c.in_ok-nodes.ensures b ∙ ap (λ (l : List Bool). saw l b) c.deref-2.ensures.value) ∙ e))
    (λ b r. c.in_ok-nodes.ensures b ∙ ap (λ (l : List Bool). saw l b) c.deref-2.ensures.value ∙ (seen b).1 r)
