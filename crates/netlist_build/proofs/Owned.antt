-- Each item is its own at first.
use Rattle.std.proofs.Common.{◌≡◌, ℕ, ◌+◌, ◌<◌, List, [], ◌∷◌, ◌++◌, length, drop, ap, sym, ◌∙◌, append_assoc, add-one, drop-cons}
use Rattle.lisa_engine.specs.declared.parts.Item.{Item}
use Rattle.netlist_wires.specs.declared.keys.Flat.{Flat}
use Rattle.netlist_wires.specs.declared.keys.Flat.TheVariants.{OfItem}
use Rattle.netlist_wires.specs.Wiring.{own_items}

pub own_more : (items : List Item) (i : ℕ) (fs : List Flat) → i < length items → (fs ++ (OfItem i ∷ [])) ++ own_items (i + 1) (drop (i + 1) items) ≡ fs ++ own_items i (drop i items)
own_more items i fs h =
    let any : Item = record { name = []; width = 0 } in
    append_assoc fs (OfItem i ∷ []) (own_items (i + 1) (drop (i + 1) items))
    ∙ ap (λ (more : List Flat). fs ++ more) (ap (λ (n : ℕ). OfItem i ∷ own_items n (drop n items)) (add-one i) ∙ sym (ap (own_items i) (drop-cons items i any h)))
