use Rattle.std.proofs.Common.{◌++◌, ◌∷◌, [], ℕ, List, Ok, take}
use Rattle.std.specs.List.{flat_map}
use Rattle.lisa_tree.specs.Descriptions.{DescriptionTree}
use Rattle.lisa_engine.specs.Traces.{PutsUnless}
use Rattle.lisa_syntax.specs.lisa_forms.Codings.{IsCodingOf}
use Rattle.lisa_syntax.specs.Parts.{IsSyntaxOf}
use Rattle.lisa_disasm.specs.Listings.{IsCellLine}
use Rattle.lisa_disasm.proofs.listing.put_cells.Given as goal

abbrev pub invariant-loop-cell : goal.invariant-loop-cell
invariant-loop-cell g l =
    (d : DescriptionTree) (line : ℕ → List ℕ) → IsCodingOf d l.coding → IsSyntaxOf d l.syntax → ((w : ℕ) → IsCellLine d l.is_code w (line w))
    → PutsUnless {T = Unit {0}} (g.O.Sink.written l.fn.out) (g.O.Sink.written l.out) (g.O.Sink.faults l.fn.out) (g.O.Sink.faults l.out) (Ok tt)
    (flat_map (λ w. line w ++ 10 ∷ []) (take l.cell-index l.cells))
