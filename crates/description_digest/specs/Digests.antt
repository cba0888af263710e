-- The digest of a description: of its canonical text.
use Rattle.std.specs.Prelude.{ℕ, List}
use Rattle.sha2.specs.Sha256.{sha256}
use Rattle.lisa_tree.specs.Descriptions.{DescriptionTree}
use Rattle.lisa_printer.specs.CanonicalText.{canonical_text}
use Rattle.lisa_printer.specs.CanonicalTokens.{description_tokens}

abbrev pub digest_of : DescriptionTree → List ℕ
digest_of d = sha256 (canonical_text (description_tokens d))
