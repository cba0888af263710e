use Rattle.std.proofs.Common.{ap, sym, ◌∙◌, arith, ⊎_elim, get_or-set_same, get_or-set_other}
use Rattle.std.specs.Prelude.{slice_index, slice_set}
use Rattle.std.proofs.Math.ListN.{length-set}
use Rattle.std.proofs.lemmas.Bool.{cases_eq}
use Rattle.pipeline_states.specs.Taken.{word_in}
use Rattle.pipeline_states.proofs.taken.Taken.words.Goals as goal

pub loop-stage-preserved : goal.loop-stage-preserved
loop-stage-preserved c =
    let words = c.loop-stage.words in
    let stage = c.loop-stage.stage in
    let word = c.word.result in
    let far = c.loop-stage.invariant in
    record {
      len = length-set words stage word ∙ far.len;
      done = λ s low.
          ⊎_elim
          (λ e. ap (λ n. slice_index (slice_set words stage word) n) e ∙ get_or-set_same words stage word 0 (omega (arith, far.len, c.loop-stage-test.true)) ∙ c.word.ensures ∙ ap (λ n. word_in c.args.self.now.places.now c.args.self.now.items.now n) (sym e))
          (λ ne. get_or-set_other words stage s word 0 ne ∙ far.done s (omega arith))
          (cases_eq s stage);
    }

pub returns : goal.returns
returns c stage low = c.loop-stage.invariant.done stage (omega arith)
