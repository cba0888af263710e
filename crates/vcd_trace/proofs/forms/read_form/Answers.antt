use Rattle.std.proofs.Common.{◌∙◌, Bool, cond, Some, None, ap, sym, arith}
use Rattle.vcd_trace.specs.VcdWords.{Placed}
use Rattle.vcd_trace.specs.Left.{words_left}
use Rattle.vcd_trace.proofs.FormLaws.{read_none, read_wrong, read_more, read_end, open_more, next_some, next_none}
use Rattle.vcd_trace.proofs.forms.read_form.Goals as goal

pub returns-in-None : goal.returns-in-None
returns-in-None c =
    let is = next_some (words_left c.loop-word.words) c.in-Some.word (words_left c.in-Some.behind) c.in-Some.ensures.next in (
      omega (arith, ap (λ (w : Placed). w.at) c.word.view_is, c.in-Some.ensures.here, c.in-Some.ensures.kept, c.loop-word.invariant.1),
      read_none c.args.bytes.now (words_left c.loop-word.words) c.loop-word.place c.loop-word.content c.loop-word.invariant.0 c.in-Some.word (words_left c.in-Some.behind) is (sym c.in-None.ensures.part),
    )

pub returns-in-None-after : goal.returns-in-None-after
returns-in-None-after c =
    let is = next_some (words_left c.loop-word.words) c.in-Some.word (words_left c.in-Some.behind) c.in-Some.ensures.next in (
      omega (arith, ap (λ (w : Placed). w.at) c.word.view_is, c.in-Some.ensures.here, c.in-Some.ensures.kept, c.loop-word.invariant.1),
      read_wrong c.args.bytes.now (words_left c.loop-word.words) c.loop-word.place c.loop-word.content c.loop-word.invariant.0 c.in-Some.word (words_left c.in-Some.behind) is
          c.in-Some-read_part.found.0 (words_left c.in-Some-read_part.found.1) (sym c.in-Some-read_part.ensures.part) (sym c.in-None-after.ensures),
    )

pub loop-word-preserved : goal.loop-word-preserved
loop-word-preserved c =
    let is = next_some (words_left c.loop-word.words) c.in-Some.word (words_left c.in-Some.behind) c.in-Some.ensures.next in (
      read_more c.args.bytes.now (words_left c.loop-word.words) c.loop-word.place c.loop-word.content c.loop-word.invariant.0 c.in-Some.word (words_left c.in-Some.behind) is
          c.in-Some-read_part.found.0 (words_left c.in-Some-read_part.found.1) (sym c.in-Some-read_part.ensures.part) c.in-Some-after.next c.take.new.self (sym c.in-Some-after.ensures)
          c.in_ok-take.ensures.variables c.in_ok-take.ensures.events,
      c.in-Some-read_part.ensures.kept ∙ c.in-Some.ensures.kept ∙ c.loop-word.invariant.1,
      open_more c.loop-word.place c.in-Some-after.next c.in-Some-read_part.found.0 c.loop-word.words.at c.in-Some-read_part.found.1.at (sym c.in-Some-after.ensures) c.loop-word.invariant.2
          (omega (arith, c.in-Some.ensures.forward, c.in-Some-read_part.ensures.forward)),
    )

pub returns-then-may_end : goal.returns-then-may_end
returns-then-may_end c =
    read_end c.args.bytes.now (words_left c.loop-word.words) c.loop-word.place c.loop-word.content c.loop-word.invariant.0 (next_none (words_left c.loop-word.words) c.in_default.ensures.next)
    ∙ ap (λ (b : Bool). cond b (Some c.loop-word.content) None) (sym c.may_end.ensures ∙ c.if-may_end.true)

pub returns : goal.returns
returns c = (
  omega (arith, c.loop-word.invariant.1),
  read_end c.args.bytes.now (words_left c.loop-word.words) c.loop-word.place c.loop-word.content c.loop-word.invariant.0 (next_none (words_left c.loop-word.words) c.in_default.ensures.next)
      ∙ ap (λ (b : Bool). cond b (Some c.loop-word.content) None) (sym c.may_end.ensures ∙ c.if-may_end.false),
)
