use Rattle.headline_laws.proofs.Written.{unique}
use Rattle.headline_laws.proofs.Single.{runs_print_one, clocks_print_one}
use Rattle.headline_laws.proofs.laws.runs_print_one_text.Goals as goal

pub returns-clause-runs : goal.returns-clause-runs
returns-clause-runs c = λ files names task input first second x y.
    runs_print_one c.images_are_unique.ensures task input first second (unique c.checks_are_unique.ensures.one c.checks_are_unique.ensures.whole) files names x y

pub returns-clause-clocks : goal.returns-clause-clocks
returns-clause-clocks c = λ files names task input first second x y. clocks_print_one c.images_are_unique.ensures task input first second files names x y
