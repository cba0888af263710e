use Rattle.pipeline_time.specs.States.{after}
use Rattle.pipeline_time.proofs.Counts.{slot_is_word, no_slot_no_word}
use Rattle.pipeline_time.proofs.laws.slots_are_words.Goals as goal

pub returns : goal.returns
returns g c core sound first entries level =
    (slot_is_word core sound first entries level, no_slot_no_word core sound (after core first entries).past level)
