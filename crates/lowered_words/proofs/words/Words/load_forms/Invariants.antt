use Rattle.lowered_time.specs.Pieces.{steps}
use Rattle.lowered_time.specs.Code.{Adds}
use Rattle.lowered_words.specs.Loading.{form_loaded}
use Rattle.lowered_words.specs.Code.{words_tree}
use Rattle.lowered_words.proofs.Writing.{plain_before}
use Rattle.lowered_words.proofs.words.Words.load_forms.Given as goal

abbrev pub invariant-loop-number : goal.invariant-loop-number
invariant-loop-number l = Adds (steps (plain_before (words_tree l.self) (form_loaded (words_tree l.self) l.width l.base l.scratch) l.number)) l.fn.draft l.draft
