use Rattle.std.proofs.Common.{◌≡◌, ◌++◌, take, map}
use Rattle.lisa_object.specs.Texts.{text_of}
use Rattle.lisa_object.specs.ObjectPieces.{line_text}
use Rattle.lisa_object.proofs.object_text.put_lines.Given as goal

abbrev pub invariant-loop-line : goal.invariant-loop-line
invariant-loop-line l = l.out.items ≡ l.fn.out.items ++ text_of (map line_text (take l.line-index l.lines))
