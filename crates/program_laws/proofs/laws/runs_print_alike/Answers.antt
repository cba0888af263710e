use Rattle.program_laws.proofs.Agreed.{agree}
use Rattle.program_laws.proofs.laws.runs_print_alike.Goals as goal

pub returns : goal.returns
returns c =
    agree c.images_are_unique.ensures c.modules_print_what_descriptions_print.ensures.files _ _ _ c.words_ask_for_one.ensures c.words_ask_for_one-2.ensures c.words_ask_for_one-3.ensures
