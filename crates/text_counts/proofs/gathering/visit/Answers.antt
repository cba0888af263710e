use Rattle.std.proofs.Common.{◌≡◌, ◌<◌, ◌∙◌, ℕ, List, Some, true, length, map, set, sym, subst, arith, rules}
use Rattle.std.specs.Global.{Vec}
use Rattle.std.proofs.lemmas.List.{map-set}
use Rattle.std.specs.Rc.{rc_value}
use Rattle.graph_paths.specs.Paths.{targets, is_in}
use Rattle.lisa_tree.specs.declared.declared.What.TheVariants as whats
use Rattle.lisa_tree.specs.Declarations.{what_at}
use Rattle.text_counts.specs.Gathering.{IsGathered, gathered}
use Rattle.text_counts.proofs.Leading.{declared}
use Rattle.text_counts.proofs.Sources.{is_gathered}
use Rattle.text_counts.proofs.Visits.{one_done, saw_still, saw_now}
use Rattle.text_counts.proofs.gathering.visit.Goals as goal

pub returns-clause-gathered : goal.returns-clause-gathered
returns-clause-gathered g c =
    let d = g.N.Names.tree c.args.graph.now.names.now in
    let i = c.args.number in
    let is : what_at d i ≡ Some whats.Reference = search (rules, c.ne.ensures, c.if-ne.false, c.what_at.ensures) in
    let old = c.args.lists.now.items in
    let list = c.in_ok-list.list in
    let all = is_gathered d (map rc_value old) c.args.done.now.items c.requires.gathered i c.in_ok-nodes.nodes.items (rw c.deref-2.ensures.value at c.in_ok-nodes.ensures) in
    let has : (a : ℕ) → is_in a (rc_value list).items ≡ is_in a (gathered d (targets (map rc_value old)) c.in_ok-nodes.nodes.items) = rw (c.deref-3.ensures.value, c.deref-4.ensures.value) at c.in_ok-list.ensures.same in
    subst (λ (l : List (Vec ℕ)). IsGathered d l (set c.args.done.now.items i true)) (sym (map-set rc_value old i list))
    (one_done d (map rc_value old) c.args.done.now.items c.requires.gathered i is (rc_value list) c.in_ok-list.ensures.rising (λ a e. (all a).0 (sym (has a) ∙ e)) (λ a m. has a ∙ (all a).1 m))

pub returns-clause-kept : goal.returns-clause-kept
returns-clause-kept g c =
    let d = g.N.Names.tree c.args.graph.now.names.now in
    let is : what_at d c.args.number ≡ Some whats.Reference = search (rules, c.ne.ensures, c.if-ne.false, c.what_at.ensures) in
    let l : c.args.number < length c.args.done.now.items = (let h = declared d c.args.number whats.Reference is in let f = c.requires.gathered.flags in omega (arith, h, f)) in
    λ k e. saw_still c.args.done.now.items c.args.number k l e

pub returns-clause-done : goal.returns-clause-done
returns-clause-done g c = λ is.
    let d = g.N.Names.tree c.args.graph.now.names.now in
    let l : c.args.number < length c.args.done.now.items = (let h = declared d c.args.number whats.Reference is in let f = c.requires.gathered.flags in omega (arith, h, f)) in
    saw_now c.args.done.now.items c.args.number l
