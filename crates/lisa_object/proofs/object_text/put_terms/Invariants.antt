use Rattle.std.proofs.Common.{◌≡◌, ◌++◌, take, map}
use Rattle.lisa_object.specs.ObjectText.{term_word}
use Rattle.lisa_object.specs.ObjectPieces.{behind_blanks}
use Rattle.lisa_object.proofs.object_text.put_terms.Given as goal

abbrev pub invariant-loop-term : goal.invariant-loop-term
invariant-loop-term l = l.out.items ≡ l.fn.out.items ++ behind_blanks (map term_word (take l.term-index l.terms))
