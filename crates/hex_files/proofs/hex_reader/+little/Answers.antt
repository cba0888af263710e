use Rattle.std.proofs.Common.{List, ℕ, length, get_or, ap, arith}
use Rattle.hex_files.proofs.CellPieces.{little_small}
use Rattle.hex_files.proofs.hex_reader.+little.Goals as goal

pub overflow_mul-result : goal.overflow_mul-result
overflow_mul-result t c =
    let s = little_small (length c.in-Some.rest.now) c.little.result 0 (omega (arith, c.in-Some.ensures.cases.1, c.requires)) c.little.ensures.small (omega arith) in
    omega (arith, s.1)

pub overflow_add-result : goal.overflow_add-result
overflow_add-result t c =
    let first = ap (λ (l : List ℕ). get_or l 0 0) c.in-Some.ensures.cases.0 in
    let s = little_small (length c.in-Some.rest.now) c.little.result c.from.result (omega (arith, c.in-Some.ensures.cases.1, c.requires)) c.little.ensures.small (omega (arith, c.type_inv.bytes 0, first, c.from.ensures)) in
    omega (arith, s.2)
