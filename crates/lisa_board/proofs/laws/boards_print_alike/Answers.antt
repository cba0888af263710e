use Rattle.lisa_board.proofs.RunLaws.{output_alike}
use Rattle.lisa_board.proofs.laws.boards_print_alike.Goals as goal

pub returns : goal.returns
returns c = output_alike
