use Rattle.hex_files.proofs.HeldMaps.{values_hold}
use Rattle.hex_files.proofs.laws.values_hold_the_map.Goals as goal

pub returns : goal.returns
returns c = values_hold
