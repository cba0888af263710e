use Rattle.std.proofs.Common.{◌≡◌, ◌<◌, ◌≤◌, ◌∙◌, ℕ, Bool, true, false, length, map, ap, subst, arith, ⊎_elim}
use Rattle.std.specs.Rc.{rc_value}
use Rattle.std.proofs.Math.ListN.{length-replicate}
use Rattle.std.proofs.lemmas.Bool.{cases_lt}
use Rattle.std.proofs.lemmas.List.{length-map}
use Rattle.graph_paths.specs.Paths.{saw}
use Rattle.lisa_tree.specs.Declarations.{what_at}
use Rattle.text_counts.proofs.Visits.{nothing_gathered, all_done}
use Rattle.text_counts.proofs.references.Meanings.make.Goals.{in-Some+in_ok-visit, in_default}
use Rattle.text_counts.proofs.references.Meanings.make.Goals as goal

pub loop-node-init : goal.loop-node-init
loop-node-init g c =
    let n = c.entry_count-count.result in
    let new = c.in_ok-done.ensures.items_if_clones_equal (λ y e. e) in
    nothing_gathered (g.N.Names.tree c.args.names.now) (map rc_value c.in_ok-lists.lists.items) c.in_ok-done.done.items n c.entry_count-count.ensures (length-map c.in_ok-lists.lists.items rc_value ∙ c.in_ok-lists.ensures.length) c.in_ok-lists.ensures.none
    new (ap length new ∙ length-replicate n false)

pub loop-node-preserved : goal.loop-node-preserved
loop-node-preserved g c = elim c.match-checked_sub.branch [
  | in-Some+in_ok-visit w ↦ rw (w.lists-is, w.done-is) w.in_ok-visit.ensures.gathered
  | in_default w ↦ rw (w.lists-is, w.done-is) c.loop-node.invariant
]

pub loop-number-preserved : goal.loop-number-preserved
loop-number-preserved g c =
    let d = g.N.Names.tree c.args.names.now in
    let number = c.loop-number.number in
    let seen : ℕ → Bool = saw c.visit-in-loop-number.new.done.items in
    let visited = c.in_ok-visit-2.ensures in
    record {
      gathered = visited.gathered;
      done = λ i h is. ⊎_elim
          (λ (less : i < number). visited.kept i (c.loop-number.invariant.done i less is))
          (λ (le : number ≤ i).
          let same : number ≡ i = omega (arith, h, le) in
          subst (λ (k : ℕ). seen k ≡ true) same (visited.done (ap (what_at d) same ∙ is)))
          (cases_lt i number);
    }

pub returns : goal.returns
returns g c =
    let last = c.loop-number.invariant in
    all_done (g.N.Names.tree c.args.names.now) (map rc_value c.loop-number.lists.items) c.loop-number.done.items last.gathered
    (λ i h is. last.done i (let e = c.entry_count-count.ensures in omega (arith, h, e)) is)
