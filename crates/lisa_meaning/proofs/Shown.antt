-- What an accepted description shows: registers of widths that words have, and arrays with different names.
use Rattle.std.proofs.Common.{◌≡◌, ◌≢◌, ◌<◌, ◌++◌, ◌∙◌, ℕ, List, [], ◌∷◌, length, map, get_or, sym, arith}
use Rattle.std.specs.Prelude.{AllPairs}
use Rattle.std.specs.List.{AllByRecursion}
use Rattle.std.proofs.lemmas.List.{length-append, length-map, get_or-map, get_or_append_left}
use Rattle.std.proofs.lemmas.List.Elements.{All-from_recursion}
use Rattle.lisa_tree.specs.Descriptions.{DescriptionTree}
use Rattle.lisa_engine.specs.declared.parts.Item.{Item}
use Rattle.lisa_engine.specs.declared.parts.ArrayItem.{ArrayItem}
use Rattle.use_promises.specs.machine_parts.Parts.{arrays_of, pins_of, registers_of}
use Rattle.use_promises.specs.machine_parts.Laws.{HasWidth, HaveWidths}
use Rattle.use_promises.specs.Showing.{FitsItem, FitsShown}

module _ (d : DescriptionTree) (shows : FitsShown d) where
  have_widths : (all : List Item) → AllByRecursion FitsItem all → AllByRecursion HasWidth all
  have_widths [] h = tt
  have_widths (i ∷ all) h = (record { least = h.0.0; most = h.0.1 }, have_widths all h.1)

  pub registers_fit : HaveWidths (registers_of d)
  registers_fit = All-from_recursion HasWidth (registers_of d) (have_widths (registers_of d) shows.registers)

  pub arrays_distinct : AllPairs (λ (a b : ArrayItem). a.name ≢ b.name) (arrays_of d)
  arrays_distinct i j a less low same =
      let names = map (λ (x : ArrayItem). x.name) (arrays_of d) in
      let more = map (λ (x : Item). x.name) (pins_of d) ++ map (λ (x : Item). x.name) (registers_of d) in
      let count = length-map (arrays_of d) (λ (x : ArrayItem). x.name) in
      let l = length-append names more in
      let named : (k : ℕ) → k < length (arrays_of d) → get_or (names ++ more) k a.name ≡ (get_or (arrays_of d) k a).name =
      λ k h. get_or_append_left names more a.name k (omega (arith, h, count)) ∙ get_or-map (λ (x : ArrayItem). x.name) (arrays_of d) k a a.name h in
      shows.names i j a.name less (omega (arith, low, l, count)) (named i (omega (arith, less, low)) ∙ same ∙ sym (named j low))
