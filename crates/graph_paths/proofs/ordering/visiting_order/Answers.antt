use Rattle.std.proofs.Common.{◌≡◌, ◌∙◌, ◌<◌, ◌||◌, ℕ, List, true, sym, ap, arith, length, nat_eq, subst}
use Rattle.std.specs.Global.{Vec}
use Rattle.graph_paths.specs.Paths.{is_in, AreNodes}
use Rattle.graph_paths.proofs.Seen.{in-push}
use Rattle.graph_paths.proofs.Search.{popped}
use Rattle.graph_paths.proofs.Listed.{back_nodes, one_below}
use Rattle.graph_paths.proofs.ordering.visiting_order.Goals as goal

pub row-requires : goal.row-requires
row-requires c =
    let l : c.in-Some.node < length c.args.next.now = c.going.invariant.work _ (popped c.going.work.items _ c.in-Some.node c.in-Some.ensures.items) in
    let n : length c.deref-in-Some.result.now ≡ length c.args.next.now = ap length c.deref-in-Some.ensures.value ∙ c.in_ok-back.ensures.length in
    subst (λ (n : ℕ). c.in-Some.node < n) (sym n) l

pub lower_all-requires-clause-nodes : goal.lower_all-requires-clause-nodes
lower_all-requires-clause-nodes c = λ b e.
    let nodes : AreNodes c.in_ok-back.back.items = back_nodes c.args.next.now c.in_ok-back.back.items c.in_ok-back.ensures.exact c.in_ok-back.ensures.length in
    let here : AreNodes c.deref-in-Some.result.now = subst (λ (rows : List (Vec ℕ)). AreNodes rows) (sym c.deref-in-Some.ensures.value) nodes in
    let n : length c.deref-in-Some.result.now ≡ length c.going.seen.items = ap length c.deref-in-Some.ensures.value ∙ c.in_ok-back.ensures.length ∙ sym c.going.invariant.len in
    subst (λ (n : ℕ). b < n) n (here c.in-Some.node b (sym (ap (is_in b) c.row.ensures) ∙ e))

pub lower_all-requires-clause-work : goal.lower_all-requires-clause-work
lower_all-requires-clause-work c = λ b e.
    let here : is_in b c.going.work.items ≡ (is_in b c.pop.new.self.items || nat_eq b c.in-Some.node) = ap (is_in b) c.in-Some.ensures.items ∙ in-push b c.pop.new.self.items c.in-Some.node in
    let on : is_in b c.going.work.items ≡ true = grind (arith, here, e) in
    subst (λ (n : ℕ). b < n) (sym c.going.invariant.len) (c.going.invariant.work b on)

pub going-preserved : goal.going-preserved
going-preserved c =
    let len : length c.lower_all.new.seen.items ≡ length c.args.next.now = c.in_ok-lower_all.ensures.length ∙ c.going.invariant.len in
    record {
      len = len;
      counts = c.in_ok-lower_all.ensures.counts ∙ c.going.invariant.counts;
      work = λ b e. subst (λ (n : ℕ). b < n) len (c.in_ok-lower_all.ensures.work b e);
      all = λ b e.
          one_below (length c.args.next.now) b c.in-Some.node c.going.all.items c.going.invariant.all
          (c.going.invariant.work _ (popped c.going.work.items _ c.in-Some.node c.in-Some.ensures.items)) (sym (ap (is_in b) c.in_ok-push.ensures.items) ∙ e);
    }
