use Rattle.std.proofs.Common.{◌≡◌, map}
use Rattle.lisa_board.specs.Boards.{IsBoardFor}
use Rattle.lisa_board.specs.BoardLines.{board_of}
use Rattle.lisa_board.proofs.BoardReads.{left_from}
use Rattle.lisa_board.proofs.reader.read_board.Given as goal

abbrev pub invariant-loop-place : goal.invariant-loop-place
invariant-loop-place l =
    (board_of l.fn.items l.fn.pins l.fn.bytes ≡ left_from l.fn.items l.fn.pins (map (λ p. p.now) l.parts.items) l.place l.board)
    × IsBoardFor l.fn.items l.fn.pins l.board
