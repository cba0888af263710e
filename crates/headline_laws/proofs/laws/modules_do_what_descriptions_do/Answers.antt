use Rattle.headline_laws.proofs.Written.{unique, written_so, to_clock, from_clock}
use Rattle.headline_laws.proofs.laws.modules_do_what_descriptions_do.Goals as goal

pub returns : goal.returns
returns c = λ run text writes own task silent input outcome bytes.
    let w = written_so run text writes in
    let checks = unique c.checks_are_unique.ensures.one c.checks_are_unique.ensures.whole in
    (λ gives. to_clock checks run text w task silent input bytes own outcome gives, λ gives. from_clock checks run text w task silent input bytes own outcome gives)
