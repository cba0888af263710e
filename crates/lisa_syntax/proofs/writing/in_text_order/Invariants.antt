use Rattle.std.proofs.Common.{take}
use Rattle.lisa_syntax.proofs.Texts.{Shows}
use Rattle.lisa_syntax.proofs.writing.in_text_order.Given as goal

abbrev pub invariant-loop-place : goal.invariant-loop-place
invariant-loop-place l = Shows (take l.place l.order) l.fields l.shown.items
