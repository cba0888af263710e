-- Tokens at which too many brackets are open.
use Rattle.std.proofs.Common.{◌≡◌, ℕ, List, length, refl, arith}
use Rattle.std.specs.Prelude.{slice_index_or}
use Rattle.std.proofs.lemmas.List.{length-map}
use Rattle.std.proofs.lemmas.Option.{slice_get_read}
use Rattle.lisa_tree.specs.declared.tokens.Token.{Token}
use Rattle.lisa_tree.specs.declared.faults.DescFault.TheVariants as faults
use Rattle.lisa_tree.specs.Tokens.{toks}
use Rattle.lisa_tree.specs.Brackets.{IsTooDeep}
use Rattle.behavior_readings.specs.Refusals.{IsDeep, too_deep}

pub deep_there : (ts : List Token) (i : ℕ) (t : Token) → IsTooDeep (toks ts) i → t ≡ slice_index_or ts i t → IsDeep ts (faults.TooDeep t.at)
deep_there ts i t deep is =
    too_deep deep (slice_get_read ts (length ts) i t refl (omega (arith, deep.within, length-map ts (λ (x : Token). x.part))) is)
