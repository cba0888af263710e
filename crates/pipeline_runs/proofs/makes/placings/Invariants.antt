use Rattle.std.proofs.Common.{◌≡◌, ◌++◌, map, drop}
use Rattle.lisa_activation.specs.declared.placing.Placing.{Placing}
use Rattle.pipeline_runs.specs.declared.tree.Occurrence.{Occurrence}
use Rattle.pipeline_runs.proofs.makes.placings.Given as goal

abbrev pub invariant-loop-occurrence : goal.invariant-loop-occurrence
invariant-loop-occurrence l = record {
  own : map (λ (p : Placing). p.level) l.row.items ++ map (λ (o : Occurrence). o.level) (drop l.occurrence-index l.occurrences) ≡ map (λ (o : Occurrence). o.level) l.occurrences;
  above : map (λ (p : Placing). p.above) l.row.items ++ map (λ (o : Occurrence). o.above) (drop l.occurrence-index l.occurrences) ≡ map (λ (o : Occurrence). o.above) l.occurrences;
}
