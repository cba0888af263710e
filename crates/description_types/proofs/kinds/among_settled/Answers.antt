use Rattle.std.proofs.Common.{◌&&◌, List, Bool, ap, sym, ◌∙◌, arith}
use Rattle.std.proofs.lemmas.Bool.{and_parts}
use Rattle.graph_paths.specs.Paths.{saw}
use Rattle.description_types.proofs.kinds.among_settled.Goals as goal

pub returns-clause-within : goal.returns-clause-within
returns-clause-within g c = λ i h.
    c.in_ok-kept.ensures i
    ∙ ap (λ (b : Bool). saw c.args.marked.now i && b) (ap (λ (m : List Bool). saw m i) c.deref.ensures.value ∙ c.in_ok-settled.ensures.exact i (omega (arith, h, c.entry_count.ensures)))

pub returns-clause-marked : goal.returns-clause-marked
returns-clause-marked g c = λ i e. (and_parts (saw c.args.marked.now i) (saw c.deref.result.now i) (sym (c.in_ok-kept.ensures i) ∙ e)).0
