use Rattle.std.proofs.Common.{◌≡◌, ◌+◌, ◌&&◌, ℕ, Bool, true, false, List, length, refl, ap, sym, ◌∙◌, arith}
use Rattle.std.proofs.lemmas.List.{length_push}
use Rattle.lisa_tree.specs.Descriptions.{DescriptionTree}
use Rattle.lisa_tree.specs.Declarations.{entries, what_at}
use Rattle.graph_paths.specs.Paths.{saw}
use Rattle.meant_declarations.specs.Walks.{is_declaration}
use Rattle.meant_declarations.proofs.Direct.{nothing_past}
use Rattle.meant_declarations.proofs.Walks.{one_more_mark, all_marks}
use Rattle.meant_declarations.proofs.meanings.marked_declarations.Goals as goal
use Rattle.meant_declarations.proofs.meanings.marked_declarations.Goals.{then-is_marked, else-is_marked}

abbrev marks : List Bool → DescriptionTree → ℕ → Bool
marks marked d i = saw marked i && is_declaration (what_at d i)

pub loop-entry-preserved : goal.loop-entry-preserved
loop-entry-preserved g c = record {
  count = ap length c.in_ok-push.ensures.items ∙ length_push c.loop-entry.starts.items c.if-is_marked.push ∙ ap (λ (k : ℕ). k + 1) c.loop-entry.invariant.count;
  starts = λ i h.
      ap (λ (all : List Bool). saw all i) c.in_ok-push.ensures.items
      ∙ one_more_mark (marks c.args.marked.now (g.N.Names.tree c.args.names.now)) c.loop-entry.starts.items c.if-is_marked.push c.loop-entry.entry c.loop-entry.invariant.count c.loop-entry.invariant.starts mark i h;
}
  where
    mark : c.if-is_marked.push ≡ marks c.args.marked.now (g.N.Names.tree c.args.names.now) c.loop-entry.entry
    mark = elim c.if-is_marked.branch [
      | then-is_marked w ↦ w.push-is ∙ w.is_declaration.ensures ∙ ap is_declaration w.what_at.ensures ∙ sym (ap (λ (t : Bool). t && is_declaration (what_at (g.N.Names.tree c.args.names.now) c.loop-entry.entry)) (sym c.is_marked.ensures ∙ w.if-is_marked.true))
      | else-is_marked w ↦ w.push-is ∙ w.if-is_marked.false ∙ sym (ap (λ (t : Bool). t && is_declaration (what_at (g.N.Names.tree c.args.names.now) c.loop-entry.entry)) (sym c.is_marked.ensures ∙ w.if-is_marked.false))
    ]

pub returns : goal.returns
returns g c =
    let last : c.loop-entry.entry ≡ length (entries (g.N.Names.tree c.args.names.now)) = omega (arith, c.loop-entry-test.false, c.loop-entry.auto.entry-end, c.entry_count-entry-end.ensures) in
    all_marks (marks c.args.marked.now (g.N.Names.tree c.args.names.now)) c.loop-entry.starts.items c.loop-entry.entry c.loop-entry.invariant.count c.loop-entry.invariant.starts
    (λ i h. ap (λ (t : Bool). saw c.args.marked.now i && t) (nothing_past (g.N.Names.tree c.args.names.now) i (omega (arith, h, last))) ∙ off (saw c.args.marked.now i))
  where
    off : (t : Bool) → (t && false) ≡ false
    off true = refl
    off false = refl
