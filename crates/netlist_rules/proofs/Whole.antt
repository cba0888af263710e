-- The module of a well-formed program is accepted, and no larger than stated.
use Rattle.std.proofs.Common.{◌≡◌, ℕ, ◌^◌, ◌<◌, ◌≤◌, List, [], ◌∷◌, length, arith}
use Rattle.std.specs.Prelude.{slice_index_or}
use Rattle.verilog_text.specs.Trees.{members_depth}
use Rattle.verilog_text.specs.Printing.{module_tokens, module_text}
use Rattle.verilog_text.specs.Faults.{VAccepts}
use Rattle.verilog_rules.proofs.Narrow.{Each}
use Rattle.step_program.specs.Programs.{Program}
use Rattle.step_program.specs.Effects.{array_depth}
use Rattle.step_program.specs.WellFormed.{IsWellFormed}
use Rattle.netlist_wires.specs.declared.keys.Write.{Write}
use Rattle.netlist_wires.specs.Tables.{IsFind, HasDistinctNames, program_names}
use Rattle.netlist_wires.specs.Costs.{moves_cost}
use Rattle.netlist_wires.specs.Wiring.{Find, nothing, Going, begun_going, ended, built}
use Rattle.netlist_wires.proofs.Growing.{IsBelow, IsOrdered, flat_width, AreSound, IsSymSound, Went, all_grown, begun_sound}
use Rattle.netlist_rules.specs.Sizes.{longest, room_for, moves_most, module_most, AreEnough}
use Rattle.netlist_rules.proofs.Spelled.{ArePuts, members_part, written}
use Rattle.netlist_rules.proofs.Accepted.{accepted}
use Rattle.netlist_rules.proofs.Bounds.{zeros_settled, going_most, wires_few, all_short, room_is, module_short}
use Rattle.netlist_rules.proofs.Lengths.{texts_short}

module _ (find : Find) (is_find : IsFind find) (p : Program) (formed : IsWellFormed p) (few : length (ended find p).keys ≤ 2 ^ 64) where
  abbrev end : Going
  end = ended find p

  went : Went p formed find is_find [] end (moves_cost [] p.moves)
  went = all_grown p formed find is_find (begun_going p) p.moves (begun_sound p formed find is_find) formed.moves

  ordered : IsOrdered p end.keys
  ordered = went.ordered (λ k key e. absurd (cc))

  sound : IsSymSound p formed find is_find end.keys end.sym
  sound = went.sym

  below : (i : ℕ) → i < length p.items → IsBelow p (length end.keys) (slice_index_or end.sym.items i nothing)
  below i h = (sound.items i h).below

  are_puts : (ws : List Write) → AreSound p formed find is_find end.keys ws → ArePuts p formed (length end.keys) ws
  are_puts [] b = tt
  are_puts (w ∷ ws) b = ((b.0.array, b.0.guard, b.0.index, b.0.value), are_puts ws b.1)

  are_deep : (ws : List Write) → AreSound p formed find is_find end.keys ws → Each (λ (w : Write). array_depth p w.array ≡ 2 ^ flat_width p end.keys w.index) ws
  are_deep [] b = tt
  are_deep (w ∷ ws) b = (b.0.deep, are_deep ws b.1)

  pub whole_accepted : HasDistinctNames p → VAccepts (module_text (built find p)) (built find p)
  whole_accepted distinct =
      accepted p formed distinct end few ordered sound.items_many below (are_puts end.sym.writes sound.writes) (are_deep end.sym.writes sound.writes)

  pub whole_depth : members_depth (built find p).members ≤ 3
  whole_depth = (members_part p formed end few ordered sound.items_many below (are_puts end.sym.writes sound.writes)).depth

  module _ (digits : ℕ) (some : 1 ≤ digits) (within : digits ≤ 20) where
    puts : ArePuts p formed (length end.keys) end.sym.writes
    puts = are_puts end.sym.writes sound.writes

    going_short : going_most (room_for digits (longest (program_names p))) end ≤ moves_most p (room_for digits (longest (program_names p))) [] p.moves
    going_short = omega (arith, all_short find (room_for digits (longest (program_names p))) (room_is digits within p) p formed is_find (begun_going p) p.moves (begun_sound p formed find is_find) formed.moves (zeros_settled p.temps))

    pub whole_size : length end.keys ≤ 10 ^ digits → length (module_text (built find p)) ≤ module_most digits p
    whole_size enough =
        omega (arith, texts_short (module_tokens (built find p)) (written p formed end few ordered sound.items_many below puts), module_short digits some within p formed end enough ordered sound.items_many below puts going_short)

  pub whole_short : (digits : ℕ) → AreEnough digits p → length (module_text (built find p)) ≤ module_most digits p
  whole_short digits h =
      let room = room_for digits (longest (program_names p)) in
      whole_size digits h.some h.few (wires_few room end (10 ^ digits) (omega (arith, going_short digits h.some h.few, h.enough)))
