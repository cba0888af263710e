use Rattle.std.proofs.Common.{arith, rules, ◌≡◌, ap, List, length}
use Rattle.pattern_tables.specs.declared.table.PatternTable.{PatternTable}
use Rattle.pattern_tables.proofs.Decoding.{found_decodes, none_decodes, looks_upto, looks_part}
use Rattle.pattern_tables.proofs.Bounded.{looks_bounded}
use Rattle.pattern_tables.proofs.decoder.Decoder.decode.Goals as goal

pub returns-in-Some-clause-form : goal.returns-in-Some-clause-form
returns-in-Some-clause-form g c width frames patterns plain hold stand below =
    let same : c.deref-table-items.result.now ≡ c.args.self.now = search rules in
    let size : length c.deref-table-items.result.now ≡ length c.args.self.now = ap (λ (ts : List PatternTable). length ts) same in
    found_decodes width frames patterns plain c.args.self.now hold stand c.args.word below c.tables.table-index c.table-item.result c.in-Some.form (omega (arith, size, c.tables-test.true)) (rw same at c.table-item.is) c.in-Some.ensures.found

pub returns-in-Some-clause-cost : goal.returns-in-Some-clause-cost
returns-in-Some-clause-cost g c patterns plain hold =
    let same : c.deref-table-items.result.now ≡ c.args.self.now = search rules in
    let size : length c.deref-table-items.result.now ≡ length c.args.self.now = ap (λ (ts : List PatternTable). length ts) same in
    let up = looks_upto c.args.self.now c.tables.table-index c.table-item.result (omega (arith, size, c.tables-test.true)) (rw same at c.table-item.is) in
    let all = looks_bounded patterns plain c.args.self.now hold in
    omega (arith, up, all, c.in-Some.ensures.cost, c.tables.invariant.cost)

pub returns-clause-form : goal.returns-clause-form
returns-clause-form g c width frames patterns plain hold stand below =
    let same : c.deref-table-items.result.now ≡ c.args.self.now = search rules in
    let size : length c.deref-table-items.result.now ≡ length c.args.self.now = ap (λ (ts : List PatternTable). length ts) same in
    none_decodes width frames patterns plain c.args.self.now hold stand c.args.word below c.tables.table-index _ _ c.tables.invariant (omega (arith, size, c.tables-test.false))

pub returns-clause-cost : goal.returns-clause-cost
returns-clause-cost g c patterns plain hold =
    let all = looks_bounded patterns plain c.args.self.now hold in
    let part = looks_part c.args.self.now c.tables.table-index in
    omega (arith, all, part, c.tables.invariant.cost)
