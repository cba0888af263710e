-- The occurrences of a plan, one after the other.
use Rattle.std.proofs.Common.{◌≡◌, ℕ, suc, ◌<◌, false, List, ◌++◌, length, get_or, Some, refl, sym, ap, ◌∙◌, subst, arith}
use Rattle.std.specs.Prelude.{slice_get}
use Rattle.std.proofs.lemmas.List.{length-append}
use Rattle.std.proofs.lemmas.Option.{slice_get-get_or}
use Rattle.step_pieces.specs.declared.drafts.Draft.{Draft}
use Rattle.pipeline_time.specs.Acts.{Acts, Done, Act, When, nodes, size}
use Rattle.pipeline_time.specs.Cores.{Core, above_of}
use Rattle.pipeline_time.specs.Sound.{IsSound}
use Rattle.pipeline_runs.specs.declared.tree.Occurrence.{Occurrence}
use Rattle.pipeline_runs.specs.declared.plan.Plan.{Plan}
use Rattle.pipeline_runs.specs.Runs.{node_of}
use Rattle.pipeline_runs.specs.Turns.{IsPlanOf}
use Rattle.pipeline_runs.proofs.Tables.{map_length, number_is, one_at}
use Rattle.lowered_time.specs.Pieces.{steps}
use Rattle.lowered_time.specs.Building.{Operations, Layout, bit_ends, set_place, next_bit}
use Rattle.lowered_time.specs.Code.{Adds}
use Rattle.lowered_time.proofs.Putting.{bits_more}

nodes_length : (above : ℕ) (acts : Acts) → length (nodes above acts) ≡ size acts
nodes_length above Done = refl
nodes_length above (Act number level past own rest) = omega (arith, length-append (nodes level own) (nodes above rest), nodes_length level own, nodes_length above rest)
nodes_length above (When number test taken other rest) =
    omega (arith, length-append (nodes above taken) (nodes above other ++ nodes above rest), length-append (nodes above other) (nodes above rest), nodes_length above taken, nodes_length above other, nodes_length above rest)

pub at_item : {X : Type 0} (xs : List X) (i : ℕ) (x : X) → i < length xs → x ≡ get_or xs i x → slice_get xs i ≡ Some x
at_item xs i x low is = slice_get-get_or xs i x low ∙ ap Some (sym is)

module _ {R M : Type 0} (core : Core R M) (sound : IsSound core) (plan : Plan) (planned : IsPlanOf core plan) where
  pub item_above : (items : List Occurrence) → items ≡ plan.occurrences.items → (i : ℕ) (o : Occurrence) → i < length items → o ≡ get_or items i o → o.above ≡ above_of core o.number
  item_above items same i o low is = sym (one_at core sound plan planned i o (ap (λ (xs : List Occurrence). slice_get xs i) (sym same) ∙ at_item items i o low is)).above_is

  pub as_many : length plan.occurrences.items ≡ suc (size core.acts)
  as_many = sym (map_length node_of plan.occurrences.items) ∙ ap length planned.nodes ∙ nodes_length 0 (Act 0 0 false core.acts Done) ∙ omega arith

  module _ (ops : Operations) (layout : Layout) (level : ℕ) where
    pub bits_on : (items : List Occurrence) → items ≡ plan.occurrences.items → (i next : ℕ) (o : Occurrence) (a b c : Draft) → i < length items → o ≡ get_or items i o → next ≡ suc i
        → Adds (steps (bit_ends core ops layout level i)) a b
        → Adds (steps (set_place core ops layout (layout.bit (suc level) o.number) (next_bit core ops layout level o.number))) b c
        → Adds (steps (bit_ends core ops layout level next)) a c
    bits_on items same i next o a b c low is more before one =
        let number = number_is core sound plan planned i o (ap (λ (xs : List Occurrence). slice_get xs i) (sym same) ∙ at_item items i o low is) in
        subst (λ (n : ℕ). Adds (steps (bit_ends core ops layout level n)) a c) (sym more)
        (bits_more core ops layout level i a b c before (subst (λ (n : ℕ). Adds (steps (set_place core ops layout (layout.bit (suc level) n) (next_bit core ops layout level n))) b c) number one))

    pub all_bits : (items : List Occurrence) → items ≡ plan.occurrences.items → (i : ℕ) (a b : Draft) → i ≡ length items → Adds (steps (bit_ends core ops layout level i)) a b → Adds (steps (bit_ends core ops layout level (suc (size core.acts)))) a b
    all_bits items same i a b whole put = subst (λ (n : ℕ). Adds (steps (bit_ends core ops layout level n)) a b) (whole ∙ ap length same ∙ as_many) put
