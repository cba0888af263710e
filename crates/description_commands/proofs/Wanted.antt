-- An engine that was made is of the machine that is wanted.
use Rattle.std.proofs.Common.{◌≡◌, ◌∙◌, List, ℕ, Result, Ok, Err, IfOk}
use Rattle.lisa_engine.specs.State.{State}
use Rattle.lisa_engine.specs.Machines.{Machine, machine_of}
use Rattle.lisa_engine.specs.declared.parts.Item.{Item}
use Rattle.lisa_engine.specs.declared.parts.ArrayItem.{ArrayItem}
use Rattle.lisa_engine.specs.declared.image.MakeFault.{MakeFault}

-- where what it has and means is what is wanted
pub made_wanted : {E : Type 0} (view : E → Machine) (pins items : List Item) (arrays : List ArrayItem) (defined : List (List ℕ) → State) (wanted : Machine) (made : Result E MakeFault)
    → IfOk made (λ e. view e ≡ machine_of pins items arrays defined) → pins ≡ wanted.pins → items ≡ wanted.items → arrays ≡ wanted.arrays → defined ≡ wanted.defined
    → IfOk made (λ e. view e ≡ wanted)
made_wanted view pins items arrays defined wanted (Ok e) is same_pins same_items same_arrays same_defined =
    is ∙ (λ i. machine_of (same_pins i) (same_items i) (same_arrays i) (same_defined i))
made_wanted view pins items arrays defined wanted (Err fault) is same_pins same_items same_arrays same_defined = tt
