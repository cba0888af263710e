-- The objects of a description.
use Rattle.std.specs.Prelude.{ℕ, ◌+◌, ◌≤◌, ◌≡◌, ◌≢◌, ◌==◌, ◌⊎◌, List, [], ◌∷◌, count_by}
use Rattle.lisa_tree.specs.Descriptions.{DescriptionTree}
use Rattle.description_digest.specs.Digests.{digest_of}
use Rattle.lisa_object.specs.Objects.{PlainObject}
use Rattle.lisa_object.specs.ObjectRules.{IsObject}
use Rattle.lisa_object.specs.ObjectText.{object_text}
use Rattle.lisa_object.specs.declared.faults.ObjectFault.TheVariants as objects
use Rattle.lisa_outcomes.specs.declared.status.Refusal.{Refusal}
use Rattle.lisa_outcomes.specs.declared.status.Refusal.TheVariants as refusals
use Rattle.lisa_outcomes.specs.Outcomes.{Outcome, After}

-- ---- objects from bytes

-- the object that bytes spell
abbrev pub SpellsObject : List ℕ → PlainObject → Type 0
SpellsObject bytes object = IsObject object × (bytes ≡ object_text object)

-- the objects that files spell, in their order
abbrev pub AreObjects : List (List ℕ) → List PlainObject → Type 0
AreObjects [] all = all ≡ []
AreObjects (bytes ∷ rest) all = (first : PlainObject) × (others : List PlainObject) × (all ≡ first ∷ others) × SpellsObject bytes first × AreObjects rest others

-- the file of this number spells none; the line is only bounded, by the lines of the bytes
abbrev pub IsNoObject : ℕ → List ℕ → Refusal → Type 0
IsNoObject number bytes refusal =
    ((object : PlainObject) → SpellsObject bytes object → ⊥)
    × ((line : ℕ) × (line ≤ 1 + count_by (λ b. b == 10) bytes) × (refusal ≡ refusals.Object (objects.NotAnObject number line)))

-- the first file that spells none, where they are counted from this number on
abbrev pub IsUnspelled : ℕ → List (List ℕ) → Refusal → Type 0
IsUnspelled number [] refusal = ⊥
IsUnspelled number (bytes ∷ rest) refusal =
    IsNoObject number bytes refusal ⊎ (((object : PlainObject) × SpellsObject bytes object) × IsUnspelled (number + 1) rest refusal)

-- ---- for this description

-- each has this digest
abbrev pub HaveDigest : (digest : List ℕ) → List PlainObject → Type 0
HaveDigest digest [] = Unit {0}
HaveDigest digest (object ∷ rest) = (object.digest ≡ digest) × HaveDigest digest rest

-- the first that has another, where they are counted from this number on
abbrev pub IsElsewhere : (digest : List ℕ) → ℕ → List PlainObject → Refusal → Type 0
IsElsewhere digest number [] refusal = ⊥
IsElsewhere digest number (object ∷ rest) refusal =
    ((object.digest ≢ digest) × (refusal ≡ refusals.Object (objects.OtherDescription number object.digest digest)))
    ⊎ ((object.digest ≡ digest) × IsElsewhere digest (number + 1) rest refusal)

-- the objects that files spell, all with this digest
abbrev pub AreObjectsFor : (digest : List ℕ) → List (List ℕ) → List PlainObject → Type 0
AreObjectsFor digest files all = AreObjects files all × HaveDigest digest all

-- a file spells no object, or all do and one has another digest; objects count from 1
abbrev pub AreNoObjectsFor : (digest : List ℕ) → List (List ℕ) → Refusal → Type 0
AreNoObjectsFor digest files refusal = IsUnspelled 1 files refusal ⊎ ((all : List PlainObject) × AreObjects files all × IsElsewhere digest 1 all refusal)

-- the outcome of a command that first reads objects for this description
abbrev pub AfterObjects : DescriptionTree → List (List ℕ) → (List PlainObject → Outcome → Type 0) → Outcome → Type 0
AfterObjects d files Then = After (AreObjectsFor (digest_of d) files) (AreNoObjectsFor (digest_of d) files) Then
