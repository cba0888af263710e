use Rattle.std.proofs.Common.{◌∙◌, inl, sym, arith}
use Rattle.std.proofs.lemmas.Bool.{ltb-true, ltb-false}
use Rattle.lisa_board.proofs.BoardReads.{no_device, no_timer, no_console}
use Rattle.lisa_board.proofs.line.read_words.Goals as goal
use Rattle.lisa_board.proofs.line.read_words.Goals.{in_default-via-then-words-lt3, in_default-via-else-words-lt3+else-words-lt4+then-words-lt6, in_default-via-else-words-lt3+else-words-lt4+else-words-lt6+else-words-lt7}

pub returns-else-is_same_word : goal.returns-else-is_same_word
returns-else-is_same_word c =
    inl (no_timer c.args.items.now c.args.pins.now c.args.line c.args.board.now c.args.words.now _ (omega (arith, c.in-len3.len_at_least, c.in-len3.len_below))
    (sym c.is_same_word.ensures ∙ c.if-is_same_word.false))

pub returns-else-is_same_word-2 : goal.returns-else-is_same_word-2
returns-else-is_same_word-2 c =
    inl (no_console c.args.items.now c.args.pins.now c.args.line c.args.board.now c.args.words.now _ (omega (arith, c.in-len6.len_at_least, c.in-len6.len_below))
    (sym c.is_same_word-in-len6.ensures ∙ c.if-is_same_word-2.false))

pub returns-in_default : goal.returns-in_default
returns-in_default c = elim c.in_default.branch [
  | in_default-via-then-words-lt3 w ↦ inl (no_device c.args.items.now c.args.pins.now c.args.line c.args.board.now c.args.words.now (λ e. grind (arith, ltb-true, ltb-false)) (λ e. grind (arith, ltb-true, ltb-false)))
  | in_default-via-else-words-lt3+else-words-lt4+then-words-lt6 w ↦ inl (no_device c.args.items.now c.args.pins.now c.args.line c.args.board.now c.args.words.now (λ e. grind (arith, ltb-true, ltb-false)) (λ e. grind (arith, ltb-true, ltb-false)))
  | in_default-via-else-words-lt3+else-words-lt4+else-words-lt6+else-words-lt7 w ↦ inl (no_device c.args.items.now c.args.pins.now c.args.line c.args.board.now c.args.words.now (λ e. grind (arith, ltb-true, ltb-false)) (λ e. grind (arith, ltb-true, ltb-false)))
]
