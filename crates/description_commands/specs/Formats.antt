-- What `fmt` gives.
use Rattle.std.specs.Prelude.{◌≡◌}
use Rattle.lisa_tree.specs.Descriptions.{DescriptionTree}
use Rattle.lisa_printer.specs.CanonicalText.{canonical_text}
use Rattle.lisa_printer.specs.CanonicalTokens.{description_tokens}
use Rattle.lisa_outcomes.specs.Outcomes.{Outcome, Finished}

-- the canonical text
abbrev pub Formats : DescriptionTree → Outcome → Type 0
Formats d outcome = outcome ≡ Finished (canonical_text (description_tokens d))
