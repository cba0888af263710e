use Rattle.std.proofs.Common.{◌∙◌, ◌<◌, ◌≤◌, length, sym, ap, arith}
use Rattle.lowered_words.specs.Kept.{field_at}
use Rattle.lowered_words.proofs.Keeping.{field_read, field_past}
use Rattle.lowered_words.proofs.words.Words.field.Goals as goal

pub returns-then-place-len : goal.returns-then-place-len
returns-then-place-len c =
    let parts = c.args.self.now.table.parts.items in
    let inside : c.in-Some.place < length parts = (let h = c.if-place-len.true in let l = c.len.ensures in let k = c.args.self.now.table.parts.ok in omega (arith, h, l, k)) in
    field_read parts c.in-Some.place c.index.result.now c.deref.result.now c.args.name.now _ inside c.index.ensures c.deref.ensures.value c.field_named.ensures
    ∙ ap (field_at parts c.args.name.now) (sym c.in-Some.is)

pub returns-else-place-len : goal.returns-else-place-len
returns-else-place-len c =
    let parts = c.args.self.now.table.parts.items in
    let past : length parts ≤ c.in-Some.place = (let h = c.if-place-len.false in let l = c.len.ensures in let k = c.args.self.now.table.parts.ok in omega (arith, h, l, k)) in
    field_past parts c.in-Some.place c.args.name.now past ∙ ap (field_at parts c.args.name.now) (sym c.in-Some.is)
