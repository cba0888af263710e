use Rattle.hex_files.proofs.MemhWhole.{read_back}
use Rattle.hex_files.proofs.laws.memh_is_read_back.Goals as goal

pub returns : goal.returns
returns c = read_back
