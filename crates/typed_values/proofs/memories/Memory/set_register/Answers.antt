use Rattle.std.proofs.Common.{rules, ◌<◌, ◌∙◌, ℕ, ap, sym, length, List, map, Option}
use Rattle.typed_values.specs.Words.{TypedWord}
use Rattle.typed_values.specs.Effects.{in_kind}
use Rattle.typed_values.specs.ResetEffects.{moment, moment_of, with_register}
use Rattle.typed_values.proofs.Maps.{plain, replaced}
use Rattle.typed_values.proofs.memories.Memory.set_register.Goals as goal

pub returns-then-number-len : goal.returns-then-number-len
returns-then-number-len c =
    let old = c.args.self.now in
    let below : c.in-Some.number < length old.registers.items = search rules in
    ap (λ (ws : List TypedWord). moment ws (map plain old.locals.entries.items)) (replaced old.registers.items c.in-Some.number c.index.result.now c.like.result (in_kind c.args.given) below c.index.ensures c.like.ensures)
    ∙ ap (λ (number : Option ℕ). with_register number (in_kind c.args.given) (moment_of old)) (sym c.in-Some.is)
