use Rattle.std.proofs.Common.{ℕ, [], subst, arith}
use Rattle.graph_paths.specs.Paths.{targets, Leads}
use Rattle.graph_paths.proofs.Search.{popped}
use Rattle.stage_checks.specs.Spreading.{source, along}
use Rattle.stage_checks.proofs.Tables.{entry_below}
use Rattle.stage_checks.proofs.Ranks.{marked, sources_marked, still_sourced, lower, in_front, is_last}
use Rattle.stage_checks.proofs.spreading.spread.Goals as goal

pub going-init : goal.going-init
going-init c =
    let g = lower c.args.next.now c.args.sources.now c.args.rank c.args.table.now.items c.requires.spreading in
    let s = rw c.row.ensures at c.in_ok-mark_all.ensures.table in
    let w = rw (c.row.ensures, c.new-work.ensures.items) at c.in_ok-mark_all.ensures.work in
    record {
      spreading = marked c.args.next.now c.args.sources.now c.args.rank c.args.table.now.items _ [] [] _ (targets c.args.sources.now c.args.rank) g
          (λ b l. source l) (λ b h. h) (λ b k h o l. absurd (cc h)) c.in_ok-mark_all.ensures.length s w;
      sourced = sources_marked c.args.next.now c.args.sources.now c.args.rank c.args.table.now.items _ s g.high c.requires.sourced;
    }

pub row-requires-in-Some : goal.row-requires-in-Some
row-requires-in-Some c =
    let l = entry_below c.going.table.items c.in-Some.node _ (c.going.invariant.spreading.works _ (popped c.going.work.items _ c.in-Some.node c.in-Some.ensures.items)) in
    omega (arith, l, c.going.invariant.spreading.len)

pub going-preserved : goal.going-preserved
going-preserved c =
    let g = c.going.invariant.spreading in
    let s = rw c.row-in-Some.ensures at c.in_ok-mark_all-2.ensures.table in
    let w = rw c.row-in-Some.ensures at c.in_ok-mark_all-2.ensures.work in
    record {
      spreading = marked c.args.next.now c.args.sources.now c.args.rank c.going.table.items _ c.going.work.items c.pop.new.self.items _ (targets c.args.next.now c.in-Some.node) g
          (λ b l. along (g.sound _ _ (g.works _ (popped c.going.work.items _ c.in-Some.node c.in-Some.ensures.items))) l)
          (λ b h. in_front b c.going.work.items _ _ c.in-Some.ensures.items h)
          (λ b k h o l. subst (λ (m : ℕ). Leads c.args.next.now m k) (is_last b c.going.work.items _ _ c.in-Some.ensures.items h o) l)
          c.in_ok-mark_all-2.ensures.length s w;
      sourced = still_sourced c.args.next.now c.args.sources.now c.args.rank c.args.rank c.going.table.items _ _ s c.going.invariant.sourced;
    }
