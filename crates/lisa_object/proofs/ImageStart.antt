-- The first line of an image.
use Rattle.std.proofs.Common.{◌≡◌, ℕ, List, ◌∷◌, Option, Some, None, refl, ap, ◌∙◌}
use Rattle.std.specs.Prelude.{codes}
use Rattle.lisa_engine.specs.Memory.{Memory}
use Rattle.lisa_object.specs.declared.parts.Stamped.{Stamped}
use Rattle.lisa_object.specs.declared.faults.Stop.{Stop}
use Rattle.lisa_object.specs.declared.faults.Stop.TheVariants.{Misspelled, NoMemory}
use Rattle.lisa_object.specs.Gives.{Fails}
use Rattle.lisa_object.specs.Reading.{◌>>=◌, Word, opening_of}
use Rattle.lisa_object.specs.ImageReading.{memories_in, image_of}

module _ (parts : List Word) (line : Word) (lines : List Word) (is : parts ≡ line ∷ lines) where
  begun : (r : Option (List ℕ)) → opening_of (codes "image") line ≡ r → image_of parts ≡ (r >>= λ d. memories_in lines >>= λ ms. Some (record { digest = d; image = ms }))
  unfolding image_of
  begun r e = ap image_of is ∙ ap (λ (q : Option (List ℕ)). q >>= λ d. memories_in lines >>= λ ms. Some (record { digest = d; image = ms })) e

  pub unopened : opening_of (codes "image") line ≡ None → image_of parts ≡ None
  unopened e = begun None e

  module _ (d : List ℕ) (e : opening_of (codes "image") line ≡ Some d) where
    pub opened : (ms : List Memory) → memories_in lines ≡ Some ms → image_of parts ≡ Some (record { digest = d; image = ms })
    opened ms f = begun (Some d) e ∙ ap (λ (q : Option (List Memory)). q >>= λ ms. Some (record { digest = d; image = ms })) f

    lost : memories_in lines ≡ None → image_of parts ≡ None
    lost f = begun (Some d) e ∙ ap (λ (q : Option (List Memory)). q >>= λ ms. Some (record { digest = d; image = ms })) f

    pub fails : (e : Stop) → Fails e (memories_in lines) → Fails e (image_of parts)
    fails NoMemory f = tt
    fails (Misspelled at) f = lost f
