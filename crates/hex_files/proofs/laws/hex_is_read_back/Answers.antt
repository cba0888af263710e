use Rattle.hex_files.proofs.HexWhole.{read_back}
use Rattle.hex_files.proofs.laws.hex_is_read_back.Goals as goal

pub returns : goal.returns
returns c = read_back
