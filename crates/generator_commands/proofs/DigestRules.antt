-- The digest of a description keeps the rules of digests.
use Rattle.std.proofs.Common.{◌<◌, ℕ, zero, suc, List, arith}
use Rattle.std.specs.Prelude.{All}
use Rattle.std.specs.Int.{w32, bytes_high_first, to_be_bytes}
use Rattle.std.specs.Prelude.{slice_index}
use Rattle.std.specs.List.{AllByRecursion}
use Rattle.std.proofs.lemmas.List.Elements.{All-nil, All-append, All-from_recursion}
use Rattle.sha2.specs.Sha256.{digest_bytes, sha256}
use Rattle.sha2.proofs.Facts256.{length-sha256}
use Rattle.lisa_tree.specs.Descriptions.{DescriptionTree}
use Rattle.lisa_object.specs.Rules.{IsDigest}
use Rattle.description_digest.specs.Digests.{digest_of}

abbrev IsByte : ℕ → Type 0
IsByte b = b < 256

bytes_fit : (k n : ℕ) → AllByRecursion IsByte (bytes_high_first k n)
bytes_fit zero n = tt
bytes_fit (suc zero) n = (omega arith, tt)
bytes_fit (suc (suc k)) n = (omega arith, bytes_fit (suc k) n)

words_fit : (h : List ℕ) (n : ℕ) → All IsByte (digest_bytes h n)
unfolding digest_bytes
words_fit h zero = All-nil IsByte
words_fit h (suc n) = All-append IsByte (digest_bytes h n) (to_be_bytes w32 (slice_index h n)) (words_fit h n) (All-from_recursion IsByte (to_be_bytes w32 (slice_index h n)) (bytes_fit 4 (slice_index h n)))

all_bytes : (m : List ℕ) → All IsByte (sha256 m)
unfolding sha256
all_bytes m = words_fit _ 8

pub digest_rules : (d : DescriptionTree) → IsDigest (digest_of d)
digest_rules d = record { size = length-sha256 _; bytes = all_bytes _ }
