use Rattle.std.proofs.Common.{◌∙◌, ap, Option, option_map}
use Rattle.lisa_tree.specs.Same.{same_name}
use Rattle.typed_values.specs.declared.values.Value.{Value}
use Rattle.typed_values.specs.Words.{typed_word}
use Rattle.typed_values.proofs.Maps.{looked_up}
use Rattle.typed_values.proofs.memories.Memory.local_named.Goals as goal

pub returns : goal.returns
returns c = ap (λ (v : Option Value). option_map typed_word v) c.get.ensures ∙ looked_up (same_name c.args.name.now) c.args.self.now.locals.entries.items
