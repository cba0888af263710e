-- What a listing is as a source.
use Rattle.std.specs.Prelude.{◌≡◌, ℕ, List, [], ◌∷◌, Contains}
use Rattle.lisa_tree.specs.Descriptions.{DescriptionTree}
use Rattle.lisa_engine.specs.Memory.{Memory}
use Rattle.asm_source.specs.Plain.{PlainLine}
use Rattle.lisa_object.specs.Objects.{PlainObject}
use Rattle.lisa_object.specs.ObjectRules.{IsObject}
use Rattle.lisa_object.specs.Rules.{IsStamped}
use Rattle.lisa_object.specs.Texts.{image_text}
use Rattle.lisa_object.specs.declared.parts.Stamped.{Stamped}
use Rattle.lisa_assembler.specs.Objects.{IsObjectOf}
use Rattle.lisa_outcomes.specs.Outcomes.{Finished}
use Rattle.assembler_commands.specs.Assembled.{IsSource, GivesObject}
use Rattle.assembler_commands.specs.Links.{stamped, IsLinked, GivesLink}
use Rattle.assembler_commands.specs.Programs.{IsSourceImage}

-- two images have the same memories, with the same cells; their order may differ
pub record AreAlike (one other : List Memory) : Type 0 where
  pub none_less : (m : Memory) → Contains one m → Contains other m
  pub none_more : (m : Memory) → Contains other m → Contains one m

-- the text is a source without a fault, whose object, linked alone, is the image of this source, which is like the image that is listed
pub record Reassembles (d : DescriptionTree) (image : List Memory) (text : List ℕ) : Type 0 where
  pub lines : List PlainLine
  pub object : PlainObject
  pub linked : List Memory
  pub said : IsSource text lines
  pub assembled : IsObjectOf d lines object
  pub is_object : IsObject object
  pub is_linked : IsLinked d (object ∷ []) linked
  pub is_image : IsStamped (stamped d linked)
  pub placed : IsSourceImage d (text ∷ []) linked
  pub alike : AreAlike image linked

-- the bytes spell this image
abbrev pub SpellsImage : List ℕ → Stamped → Type 0
SpellsImage bytes image = IsStamped image × (bytes ≡ image_text image)

-- `asm` gives an object of the listing and `link` an image of this object, which is like the image that is listed, and for the same description
pub record IsReassembled (description image listing : List ℕ) : Type 0 where
  pub object : List ℕ
  pub relinked : List ℕ
  pub before : Stamped
  pub after : Stamped
  pub assembled : GivesObject description listing (Finished object)
  pub is_linked : GivesLink description (object ∷ []) (Finished relinked)
  pub listed : SpellsImage image before
  pub linked : SpellsImage relinked after
  pub stamped_alike : after.digest ≡ before.digest
  pub alike : AreAlike before.image after.image
