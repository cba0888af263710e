use Rattle.std.proofs.Common.{sym, subst, length, ◌≤◌, []}
use Rattle.std.specs.Prelude.{find}
use Rattle.std.specs.Option.{option_map_or}
use Rattle.lisa_engine.specs.Images.{has_name}
use Rattle.lisa_engine.proofs.Loading.{fits, shape}
use Rattle.lisa_engine.proofs.image.first_cells.Goals as goal

pub load-requires : goal.load-requires
load-requires c =
    let h = c.in_default.ensures in
    subst (λ array. length (option_map_or (λ memory. memory.cells) (find (has_name array.name) c.args.image.now) []) ≤ array.depth) (sym c.array-item.is)
    (fits _ _ c.requires.image c.requires.arrays (sym h) c.loop-array.array-index c.array-item.result c.loop-array-test.true).room

pub returns-clause-shape : goal.returns-clause-shape
returns-clause-shape c = let h = c.in_default.ensures in shape _ _ c.requires.image c.requires.arrays (sym h)
