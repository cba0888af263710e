use Rattle.std.proofs.Common.{◌≡◌, ◌<◌, ◌+◌, ◌-◌, ◌*◌, ◌∙◌, ℕ, get_or, length, refl, ap, sym, arith}
use Rattle.std.specs.Prelude.{sum_by}
use Rattle.std.specs.List.{range_with_len}
use Rattle.access_counts.specs.Ledgers.{capped}
use Rattle.access_counts.proofs.Worth.{starts}
use Rattle.description_weight.proofs.Counting.{summed, told, range_step, range_past}
use Rattle.description_weight.proofs.pairs.sum_of_products.Goals as goal

pub loop-array-init : goal.loop-array-init
loop-array-init c =
    let f : ℕ → ℕ = λ k. get_or c.args.reads.now k 0 * get_or c.args.writes.now k 0 in
    let n = length c.args.reads.now in
    record {
      fits = omega arith;
      rest = ap (λ (k : ℕ). capped (0 + sum_by f (range_with_len 0 k))) (let e : n - 0 ≡ n = omega arith in e) ∙ starts 0 _ refl;
    }

pub loop-array-preserved : goal.loop-array-preserved
loop-array-preserved c =
    let f : ℕ → ℕ = λ k. get_or c.args.reads.now k 0 * get_or c.args.writes.now k 0 in
    let n = length c.args.reads.now in
    let i = c.loop-array.array in
    let e = c.saturating_add-sum.ensures in
    record {
      fits = omega (arith, e);
      rest = summed c.loop-array.sum c.saturating_add-sum.result (f i) c.saturating_mul.result (sum_by f (range_with_len (i + 1) (n - (i + 1)))) _ e c.saturating_mul.ensures
          (ap (λ (k : ℕ). capped (c.loop-array.sum + k)) (sym (range_step f i n (omega arith))) ∙ c.loop-array.invariant.rest);
    }

pub returns : goal.returns
returns c =
    let f : ℕ → ℕ = λ k. get_or c.args.reads.now k 0 * get_or c.args.writes.now k 0 in
    told c.loop-array.sum _ _ c.loop-array.invariant.fits (range_past f c.loop-array.array (length c.args.reads.now) (omega arith)) c.loop-array.invariant.rest
