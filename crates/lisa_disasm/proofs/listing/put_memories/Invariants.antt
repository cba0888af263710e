use Rattle.std.proofs.Common.{ℕ, List, Ok, take}
use Rattle.std.specs.List.{flat_map}
use Rattle.lisa_tree.specs.Descriptions.{DescriptionTree}
use Rattle.lisa_engine.specs.Traces.{PutsUnless}
use Rattle.lisa_object.specs.Texts.{text_of}
use Rattle.lisa_syntax.specs.lisa_forms.Codings.{IsCodingOf}
use Rattle.lisa_syntax.specs.Parts.{IsSyntaxOf}
use Rattle.lisa_disasm.specs.Listings.{IsCellLine, holds_instructions, memory_lines}
use Rattle.lisa_disasm.proofs.listing.put_memories.Given as goal

abbrev pub invariant-loop-memory : goal.invariant-loop-memory
invariant-loop-memory g l =
    (d : DescriptionTree) (line : ℕ → ℕ → List ℕ) → IsCodingOf d l.coding → IsSyntaxOf d l.syntax → ((m w : ℕ) → IsCellLine d (holds_instructions l.width m) w (line m w))
    → PutsUnless {T = Unit {0}} (g.O.Sink.written l.fn.out) (g.O.Sink.written l.out) (g.O.Sink.faults l.fn.out) (g.O.Sink.faults l.out) (Ok tt)
    (flat_map (λ m. text_of (memory_lines line m)) (take l.memory-index l.memories))
