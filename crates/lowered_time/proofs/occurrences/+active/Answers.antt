use Rattle.std.proofs.Common.{◌≡◌, ◌∙◌, ◌&&◌, Bool, true, false, nat_eq, sym, ap, subst}
use Rattle.std.proofs.lemmas.Bool.{eq-eqb, ne_eqb}
use Rattle.step_pieces.specs.declared.drafts.Draft.{Draft}
use Rattle.step_pieces.specs.Drafts.{leaf_tree}
use Rattle.pipeline_runs.specs.declared.tree.Tree.{Tree}
use Rattle.pipeline_runs.specs.Runs.{acts_of}
use Rattle.lowered_time.specs.Building.{is_idle, active}
use Rattle.lowered_time.specs.Code.{Adds}
use Rattle.lowered_time.proofs.Putting.{on_ok, item_idle, item_here, item_later, if_put}
use Rattle.lowered_time.proofs.occurrences.+active.Goals.{then-level-here+in_ok-begin-in-Item+in_ok-active-in-Item, else-level-here+in_ok-record-in-Item}
use Rattle.lowered_time.proofs.occurrences.+active.Goals as goal

-- what was told of a tree, of one that is the same
told : (f : Tree → Bool) (result is : Bool) (tested own : Tree) → result ≡ f tested → tested ≡ own → result ≡ is → f own ≡ is
told f result is tested own by_call same so = sym (by_call ∙ ap f same) ∙ so

pub returns-in_ok-active-in-If-2 : goal.returns-in_ok-active-in-If-2
returns-in_ok-active-in-If-2 g t c =
    let core = g.P.Parts.core c.args.parts.now in
    let ops = g.P.Parts.operations c.args.parts.now in
    let layout = g.P.Parts.layout c.args.parts.now in
    let here = c.args.here in
    let row = c.args.under.row in
    let guard = leaf_tree c.args.under.guard in
    let taking = c.in_ok-taking-in-If.taking in
    let leaving = c.in_ok-leaving-in-If.leaving in
    let d3 = c.hold_unless.new.draft in
    let d4 = c.active-in-If.new.draft in
    let d5 = c.active-in-If-2.new.draft in
    let d6 = c.active-in-If-3.new.draft in
    let first = subst (λ (t : Tree). Adds (active core ops layout here row (leaf_tree taking) (acts_of t)) d3 d4) c.deref-in-If.ensures c.in_ok-active-in-If.ensures in
    let second = subst (λ (t : Tree). Adds (active core ops layout here row (leaf_tree leaving) (acts_of t)) d4 d5) c.deref-in-If-2.ensures c.in_ok-active-in-If-2.ensures in
    on_ok c.active-in-If-3.result
    (λ last.
    subst (λ (t : Tree). Adds (active core ops layout here row guard (acts_of t)) c.args.draft.now d6) (sym c.in-If.is)
    (if_put core ops layout here row guard c.in-If.number c.in-If.test (acts_of c.in-If.taken.value) (acts_of c.in-If.other.value) (acts_of c.in-If.rest.value)
    c.args.draft.now c.condition.new.draft c.hold_both.new.draft d3 d4 d5 d6 c.in_ok-holds-in-If.holds taking leaving c.in_ok-holds-in-If.ensures c.in_ok-taking-in-If.ensures c.in_ok-leaving-in-If.ensures first second
    (subst (λ (t : Tree). Adds (active core ops layout here row guard (acts_of t)) d5 d6) c.deref-in-If-3.ensures last)))
    c.active-in-If-3.ensures

pub returns-after-level-here : goal.returns-after-level-here
returns-after-level-here g t c =
    let core = g.P.Parts.core c.args.parts.now in
    let ops = g.P.Parts.operations c.args.parts.now in
    let layout = g.P.Parts.layout c.args.parts.now in
    let here = c.args.here in
    let row = c.args.under.row in
    let guard = leaf_tree c.args.under.guard in
    let x = c.in_ok-guard-in-Item.guard in
    let number = c.in-Item.number in
    let level = c.in-Item.level in
    let past = c.in-Item.past in
    let own = acts_of c.in-Item.own.value in
    let rest = acts_of c.in-Item.rest.value in
    let a = c.args.draft.now in
    let b = c.chosen.new.draft in
    let e = c.active-in-Item.new.draft in
    let busy : (nat_eq level here && is_idle core ops layout number own) ≡ false =
    told (λ t. nat_eq level here && is_idle core ops layout number (acts_of t)) c.is_left_out.result false c.deref.result.now c.in-Item.own.value c.is_left_out.ensures c.deref.ensures c.if-is_left_out.false in
    on_ok c.active-in-Item.result
    (λ last.
    let others = λ (d : Draft) (is : c.if-level-here.draft ≡ d).
    subst (λ (from : Draft). Adds (active core ops layout here row guard rest) from e) is
    (subst (λ (t : Tree). Adds (active core ops layout here row guard (acts_of t)) c.if-level-here.draft e) c.deref-in-Item.ensures last) in
    subst (λ (t : Tree). Adds (active core ops layout here row guard (acts_of t)) a e) (sym c.in-Item.is)
    (elim c.if-level-here.branch [
      | then-level-here+in_ok-begin-in-Item+in_ok-active-in-Item w ↦
          let mine = w.own_under-mine.result in
          item_here core ops layout here row guard number level past own rest mine.row a b w.begin.new.draft w.active-then-level-here.new.draft e x mine.guard
          (eq-eqb level here w.if-level-here.true) busy w.own_under-mine.ensures.row w.own_under-mine.ensures.guard c.in_ok-guard-in-Item.ensures w.in_ok-begin-in-Item.ensures
          (subst (λ (t : Tree). Adds (active core ops layout here mine.row (leaf_tree mine.guard) (acts_of t)) w.begin.new.draft w.active-then-level-here.new.draft) w.deref-then-level-here.ensures w.in_ok-active-in-Item.ensures)
          (others w.active-then-level-here.new.draft w.draft-is)
      | else-level-here+in_ok-record-in-Item w ↦
          item_later core ops layout here row guard number level past own rest a b w.record.new.draft e x
          (ne_eqb level here w.if-level-here.false) c.in_ok-guard-in-Item.ensures w.in_ok-record-in-Item.ensures (others w.record.new.draft w.draft-is)
    ]))
    c.active-in-Item.ensures

pub returns-then-is_left_out : goal.returns-then-is_left_out
returns-then-is_left_out g t c =
    let core = g.P.Parts.core c.args.parts.now in
    let ops = g.P.Parts.operations c.args.parts.now in
    let layout = g.P.Parts.layout c.args.parts.now in
    let here = c.args.here in
    let row = c.args.under.row in
    let guard = leaf_tree c.args.under.guard in
    let number = c.in-Item.number in
    let level = c.in-Item.level in
    let own = acts_of c.in-Item.own.value in
    let a = c.args.draft.now in
    let b = c.active.new.draft in
    let idle : (nat_eq level here && is_idle core ops layout number own) ≡ true =
    told (λ t. nat_eq level here && is_idle core ops layout number (acts_of t)) c.is_left_out.result true c.deref.result.now c.in-Item.own.value c.is_left_out.ensures c.deref.ensures c.if-is_left_out.true in
    on_ok c.active.result
    (λ last.
    subst (λ (t : Tree). Adds (active core ops layout here row guard (acts_of t)) a b) (sym c.in-Item.is)
    (item_idle core ops layout here row guard number level c.in-Item.past own (acts_of c.in-Item.rest.value) a b idle
    (subst (λ (t : Tree). Adds (active core ops layout here row guard (acts_of t)) a b) c.deref-then-is_left_out.ensures last)))
    c.active.ensures
