use Rattle.std.proofs.Common.{◌≡◌, ◌+◌, ◌<◌, ◌∙◌, sym, ap, arith, take, drop, Some}
use Rattle.std.specs.List.{prefix_len}
use Rattle.vcd_trace.specs.VcdWords.{word_at, is_solid, words_from}
use Rattle.vcd_trace.specs.Parts.{next_of}
use Rattle.vcd_trace.proofs.WordLaws.{none_left, one_left}
use Rattle.vcd_trace.proofs.words.next_word.Goals as goal

pub returns-then-size-eq0-clause-next : goal.returns-then-size-eq0-clause-next
returns-then-size-eq0-clause-next c =
    ap next_of (sym (none_left c.args.words.at c.blank_length-gap.result c.solid_length-size.result c.args.words.rest.now c.blank_length-gap.ensures.value
    (c.solid_length-size.ensures.value ∙ ap (prefix_len is_solid) c.split_at.ensures.back) c.if-size-eq0.true))

pub returns-clause-next : goal.returns-clause-next
returns-clause-next c =
    let some : 0 < c.solid_length-size.result = omega arith in
    let front : c.split_at-2.result.0.now ≡ take c.solid_length-size.result (drop c.blank_length-gap.result c.args.words.rest.now)
    = c.split_at-2.ensures.front ∙ ap (take c.solid_length-size.result) c.split_at.ensures.back in
    let back : c.split_at-2.result.1.now ≡ drop c.solid_length-size.result (drop c.blank_length-gap.result c.args.words.rest.now)
    = c.split_at-2.ensures.back ∙ ap (drop c.solid_length-size.result) c.split_at.ensures.back in
    (λ i. Some (word_at (c.args.words.at + c.blank_length-gap.result) (front i), words_from (c.args.words.at + c.blank_length-gap.result + c.solid_length-size.result) (back i)))
    ∙ ap next_of (sym (one_left c.args.words.at c.blank_length-gap.result c.solid_length-size.result c.args.words.rest.now c.blank_length-gap.ensures.value
    (c.solid_length-size.ensures.value ∙ ap (prefix_len is_solid) c.split_at.ensures.back) some))
