use Rattle.name_tables.proofs.Stands.{stands_there, stands_past, stands_elsewhere}
use Rattle.std.proofs.Common.{◌∙◌, ap, sym, arith}
use Rattle.std.specs.Str.{bytes_eq}
use Rattle.name_tables.proofs.named_values.place_at.Goals as goal

pub returns-then-place-entries : goal.returns-then-place-entries
returns-then-place-entries g c places finds is = stands_past places c.args.entries.now c.args.name.now c.args.place finds is (omega arith)

pub returns-then-eq : goal.returns-then-eq
returns-then-eq g c places finds is = stands_there places c.args.entries.now c.args.name.now c.args.place finds is c.index-entries-place.result (omega arith) c.index-entries-place.is (ap (λ (e : _). bytes_eq e.0 c.args.name.now) c.index-entries-place.is ∙ sym c.eq.ensures ∙ c.if-eq.true)

pub returns-else-eq : goal.returns-else-eq
returns-else-eq g c places finds is = stands_elsewhere places c.args.entries.now c.args.name.now c.args.place finds is c.index-entries-place.result c.index-entries-place.is (ap (λ (e : _). bytes_eq e.0 c.args.name.now) c.index-entries-place.is ∙ sym c.eq.ensures ∙ c.if-eq.false)
