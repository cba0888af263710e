-- No item stands at the end of a text.
use Rattle.std.proofs.Common.{◌≡◌, [], Ok, None, refl}
use Rattle.asm_source.specs.Parts.{label_at, token_at}

pub no_label : label_at [] ≡ Ok None
unfolding label_at
no_label = refl

pub no_token : token_at [] ≡ Ok None
unfolding token_at
no_token = refl
