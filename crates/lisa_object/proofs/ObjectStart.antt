-- The first line of an object.
use Rattle.std.proofs.Common.{◌≡◌, ℕ, List, [], ◌∷◌, Option, Some, None, refl, ap, ◌∙◌}
use Rattle.std.specs.Prelude.{codes}
use Rattle.lisa_object.specs.declared.faults.Stop.{Stop}
use Rattle.lisa_object.specs.declared.faults.Stop.TheVariants.{Misspelled, NoMemory}
use Rattle.lisa_object.specs.Gives.{Fails}
use Rattle.lisa_object.specs.Reading.{◌>>=◌, Word, opening_of}
use Rattle.lisa_object.specs.Objects.{PlainObjectLine, PlainObject}
use Rattle.lisa_object.specs.LineMachine.{start}
use Rattle.lisa_object.specs.ObjectReading.{lines_of, object_of}

module _ (parts : List Word) (line : Word) (lines : List Word) (is : parts ≡ line ∷ lines) where
  begun : (r : Option (List ℕ)) → opening_of (codes "object") line ≡ r → object_of parts ≡ (r >>= λ d. lines_of start [] lines >>= λ ls. Some (record { digest = d; lines = ls }))
  unfolding object_of
  begun r e = ap object_of is ∙ ap (λ (q : Option (List ℕ)). q >>= λ d. lines_of start [] lines >>= λ ls. Some (record { digest = d; lines = ls })) e

  pub unopened : opening_of (codes "object") line ≡ None → object_of parts ≡ None
  unopened e = begun None e

  module _ (d : List ℕ) (e : opening_of (codes "object") line ≡ Some d) where
    pub opened : (ls : List PlainObjectLine) → lines_of start [] lines ≡ Some ls → object_of parts ≡ Some (record { digest = d; lines = ls })
    opened ls f = begun (Some d) e ∙ ap (λ (q : Option (List PlainObjectLine)). q >>= λ ls. Some (record { digest = d; lines = ls })) f

    lost : lines_of start [] lines ≡ None → object_of parts ≡ None
    lost f = begun (Some d) e ∙ ap (λ (q : Option (List PlainObjectLine)). q >>= λ ls. Some (record { digest = d; lines = ls })) f

    pub fails : (e : Stop) → Fails e (lines_of start [] lines) → Fails e (object_of parts)
    fails NoMemory f = tt
    fails (Misspelled at) f = lost f
