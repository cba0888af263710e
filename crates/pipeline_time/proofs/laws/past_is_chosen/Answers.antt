use Rattle.std.proofs.Common.{◌∙◌, sym, ap}
use Rattle.pipeline_time.specs.Journal.{stage_word}
use Rattle.pipeline_time.specs.Running.{word_below}
use Rattle.pipeline_time.specs.States.{after}
use Rattle.pipeline_time.proofs.Tree.{chosen_decodes}
use Rattle.pipeline_time.proofs.Agree.{words_agree, good_past}
use Rattle.pipeline_time.proofs.Due.{due_chosen}
use Rattle.pipeline_time.proofs.laws.past_is_chosen.Goals as goal

pub returns-clause-standing : goal.returns-clause-standing
returns-clause-standing g c core sound first entries level number word past stood =
    let old = (after core first entries).past in
    let has = words_agree core sound old level number word (good_past core sound first entries) stood in
    let chosen = has.chosen past in
    (sym (has.is ∙ ap (λ p. word_below p (stage_word core old level)) past), chosen_decodes core sound number word past chosen, chosen)

pub returns-clause-due : goal.returns-clause-due
returns-clause-due g c core sound = due_chosen core sound
