-- What the module of a description's program is charged with in all.
use Rattle.std.proofs.Common.{◌≤◌, ◌+◌, ◌*◌, ℕ, zero, suc, Option, length, refl, arith}
use Rattle.lisa_tree.specs.Descriptions.{DescriptionTree}
use Rattle.description_types.specs.Types.{Types}
use Rattle.lisa_machine.specs.Soundness.{IsSound}
use Rattle.pipeline_time.specs.Sound as time
use Rattle.step_program.specs.Programs.{Program, Temp}
use Rattle.step_pieces.specs.Pieces.{Builder}
use Rattle.netlist_wires.specs.Tables.{program_names}
use Rattle.netlist_rules.specs.Sizes.{longest, module_most}
use Rattle.module_sizes.specs.Charges.{name_most, pair_most}
use Rattle.touch_promises.specs.lisa_meaning.Cores.{core_of}
use Rattle.lowered_time.specs.Pieces.{steps, chain}
use Rattle.lowered_time.specs.Building.{held_at, open_at, ends}
use Rattle.lowered_time.specs.Lowering.{IsLaidOut}
use Rattle.lowered_edges.specs.lowered_layouts.Temps.{lasting_widths}
use Rattle.lowered_edges.specs.lowered_resources.Places.{Flush}
use Rattle.lowered_edges.specs.lowered_layouts.Items.{places_of, time_layout}
use Rattle.lowered_edges.specs.lowered_layouts.Ends as closing
use Rattle.lowered_edges.specs.Parts.{operations}
use Rattle.lowered_edges.specs.Programs.{word_width, edge_piece, edge_program}
use Rattle.module_sizes.specs.Costs.{Rates, IsLongest, AreFormed, moves_accesses, pair_rates, write_rates}
use Rattle.module_sizes.specs.Activating.{edge_worth}
use Rattle.module_sizes.specs.Priced.{prices_of}
use Rattle.module_sizes.specs.Whole.{end_count}
use Rattle.module_sizes.proofs.Adding.{total}
use Rattle.module_sizes.proofs.Pairs.{pairs_low}
use Rattle.module_sizes.proofs.Activating.{temp_short, chain_few, edge_then}
use Rattle.module_sizes.proofs.Priced.{are_priced}
use Rattle.module_sizes.proofs.Quiet.{is_quiet}
use Rattle.module_sizes.proofs.Ends.{ends_cost, fields_cost}

pub rises : (n a b : ℕ) → a ≤ b → n * a ≤ n * b
rises zero a b h = omega arith
rises (suc n) a b h = let more = rises n a b h in omega (arith, h, more)

module _ (d : DescriptionTree) (s : IsSound d) (types : Types) (width : ℕ) (sound : time.IsSound (core_of d)) (q : Program) (laid : IsLaidOut (core_of d) (time_layout d width) q) where
  pub edge_cost : (p : Program) (most : ℕ) → IsLongest most → (rates : Rates) → AreFormed p (edge_piece d types width).moves → total p most rates (edge_piece d types width) ≤ edge_worth (core_of d) (prices_of d rates) (core_of d).stages + 856 * end_count d types width
  edge_cost p most low rates formed =
      let core = core_of d in
      let ops = operations d types width in
      let layout = time_layout d width in
      let last : Builder = steps (ends core ops layout core.stages) in
      let close : Builder = closing.ends d (λ level. Temp (held_at level)) (λ level. Temp (open_at level)) in
      let one = ends_cost p most low rates core ops layout (λ n. refl) (λ n. temp_short p most low rates ((places_of d).temp (Flush n))) core.stages in
      let bits : ℕ = length (ends core ops layout core.stages) in
      let closed : ℕ = length (close 0).moves in
      let both = chain_few p most low rates last close (856 * bits) (856 * closed) (λ from formed. one)
      (λ from formed.
      fields_cost p most low rates d (λ level. Temp (held_at level)) (λ level. Temp (open_at level)) (λ n. refl) (λ n. refl) (λ n. temp_short p most low rates (held_at n)) (λ n. temp_short p most low rates (open_at n)) from) in
      let all = edge_then p most low rates core ops layout (prices_of d rates) (are_priced d s types width p most low rates) (is_quiet core layout q laid sound) (chain last close) (856 * bits + 856 * closed) both (length (lasting_widths d width)) formed in
      omega (arith, all)

module _ (d : DescriptionTree) (s : IsSound d) (types : Types) (declared : Option ℕ) (sound : time.IsSound (core_of d)) (q : Program) (laid : IsLaidOut (core_of d) (time_layout d (word_width declared)) q) where
  abbrev p : Program
  p = edge_program d types declared

  abbrev most : ℕ
  most = longest (program_names p)

  -- with no more writes of each array than these
  pub module_cost : IsLongest most → AreFormed p p.moves → (writes : ℕ → ℕ) → ((a : ℕ) → moves_accesses (write_rates a 1) p.moves ≤ writes a)
      → module_most 7 p ≤ 111 + (835 * length p.items + 229 * length p.arrays + 215 * length p.pins)
      + (edge_worth (core_of d) (prices_of d (pair_rates (λ a. writes a * pair_most most))) (core_of d).stages + 856 * end_count d types (word_width declared))
  module_cost low formed writes few =
      let greatest = low.greatest in
      let items = rises (length p.items) (51 + 4 * name_most most) 835 (omega (arith, greatest)) in
      let arrays = rises (length p.arrays) (33 + name_most most) 229 (omega (arith, greatest)) in
      let pins = rises (length p.pins) (19 + name_most most) 215 (omega (arith, greatest)) in
      let steps' = pairs_low p most p.moves writes few in
      let edge' = edge_cost d s types (word_width declared) sound q laid p most low (pair_rates (λ a. writes a * pair_most most)) formed in
      omega (arith, items, arrays, pins, steps', edge')
