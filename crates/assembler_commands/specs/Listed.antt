-- What `dis` gives.
use Rattle.std.specs.Prelude.{ℕ, ◌≡◌, List, None, Some}
use Rattle.lisa_tree.specs.Descriptions.{DescriptionTree}
use Rattle.lisa_engine.specs.Memory.{Memory}
use Rattle.lisa_engine.specs.Images.{missing_memory}
use Rattle.source_promises.specs.lisa_assembler.Memories.{memory_items}
use Rattle.lisa_disasm.specs.Listings.{IsListing}
use Rattle.lisa_outcomes.specs.Outcomes.{Outcome, Finished, After}
use Rattle.checked_descriptions.specs.engine_commands.Images.{IsMissing}
use Rattle.checked_descriptions.specs.Descriptions.{AfterSpelling}
use Rattle.checked_descriptions.specs.Checked.{Checked, AfterChecks}
use Rattle.checked_descriptions.specs.DescriptionImages.{AfterImage}

-- these memories, each of which is one of the description's
abbrev pub AreThere : DescriptionTree → List Memory → List Memory → Type 0
AreThere d image found = (missing_memory (memory_items d) image ≡ None) × (found ≡ image)

-- the listing of these memories
abbrev pub IsListed : DescriptionTree → List Memory → Outcome → Type 0
IsListed d image outcome = (text : List ℕ) × IsListing d image text × (outcome ≡ Finished text)

-- the first memory that is none of the description's is the refusal
abbrev pub Lists : DescriptionTree → List Memory → Outcome → Type 0
Lists d image = After (AreThere d image) (IsMissing (memory_items d) image) (IsListed d)

-- over a description that is checked
abbrev pub ListsChecked : List ℕ → Checked → Outcome → Type 0
ListsChecked image c = AfterImage c.tree (Some image) (Lists c.tree)

-- over the bytes of a description and of an image: the description is read and checked first, and then the image
abbrev pub GivesListing : (description image : List ℕ) → Outcome → Type 0
GivesListing description image = AfterSpelling description (λ d. AfterChecks d (ListsChecked image))
