use Rattle.std.proofs.Common.{◌∙◌, ap, ℕ, List, map}
use Rattle.typed_values.specs.declared.values.Value.{Value}
use Rattle.typed_values.specs.Words.{TypedWord, typed_word}
use Rattle.typed_values.specs.ResetEffects.{moment}
use Rattle.typed_values.proofs.Maps.{plain, taken}
use Rattle.typed_values.proofs.memories.Memory.leave.Goals as goal

pub returns : goal.returns
returns c =
    let old = c.args.self.now in
    ap (λ (es : List (List ℕ × TypedWord)). moment (map typed_word old.registers.items) es) (ap (λ (es : List (List ℕ × Value)). map plain es) c.truncate.ensures ∙ taken c.args.count old.locals.entries.items)
