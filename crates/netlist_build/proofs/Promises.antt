-- What is promised of the module of a program.
use Rattle.std.proofs.Common.{◌≡◌, ◌≢◌, ◌≤◌, ◌^◌, ℕ, suc, List, [], ◌∷◌, length, refl, sym, ap, subst, arith}
use Rattle.std.specs.Prelude.{AllPairs}
use Rattle.verilog_text.specs.Clocked.{Net, nets}
use Rattle.verilog_text.specs.Printing.{module_text}
use Rattle.verilog_text.specs.Faults.{VAccepts}
use Rattle.step_program.specs.Programs.{Program}
use Rattle.step_program.specs.WellFormed.{IsWellFormed}
use Rattle.netlist_wires.specs.declared.keys.Key.{Key}
use Rattle.netlist_wires.specs.Tables.{IsFind, HasDistinctNames}
use Rattle.netlist_wires.specs.Costs.{wires_most}
use Rattle.netlist_wires.specs.Wiring.{Find, begun_going, ended, built}
use Rattle.netlist_wires.proofs.Members.{regs_is, arrays_is, nets_is, wire_nets}
use Rattle.netlist_wires.proofs.Growing.{all_grown, begun_sound}
use Rattle.netlist_wires.proofs.Edges.{states_are}
use Rattle.netlist_rules.proofs.Whole.{whole_accepted, whole_size, whole_short}
use Rattle.netlist_build.specs.Carried.{IsModuleOf, AreFew, WiresDiffer}
use Rattle.netlist_build.proofs.Sharing.{Finds, ended_once, wires_differ}

module _ (find : Find) (is_find : IsFind find) (p : Program) (formed : IsWellFormed p) where
  pub is_module : HasDistinctNames p → length (ended find p).keys ≤ 2 ^ 64 → IsModuleOf p (built find p)
  is_module distinct few = record {
    items = regs_is p (ended find p);
    arrays = arrays_is p (ended find p);
    pins = refl;
    states = λ image entries rules found fits. states_are p formed distinct find is_find few image entries rules found fits;
  }

  pub is_accepted : HasDistinctNames p → length (ended find p).keys ≤ 2 ^ 64 → VAccepts (module_text (built find p)) (built find p)
  is_accepted distinct few = whole_accepted find is_find p formed few distinct

  pub is_small : length (ended find p).keys ≤ 2 ^ 64 → AreFew p (length (module_text (built find p)))
  is_small few = record {
    always = whole_size find is_find p formed few 20 (omega arith) (omega arith) (omega (arith, few));
    short = whole_short find is_find p formed few;
  }

  net_count : (n : ℕ) (keys : List Key) → length (wire_nets p n keys) ≡ length keys
  net_count n [] = refl
  net_count n (key ∷ keys) = omega (arith, net_count (suc n) keys)

  pub has_few_wires : length (nets (built find p).members) ≤ wires_most p
  has_few_wires =
      omega (arith, ap (λ (xs : List Net). length xs) (nets_is p (ended find p)), net_count 0 (ended find p).keys, (all_grown p formed find is_find (begun_going p) p.moves (begun_sound p formed find is_find) formed.moves).few)

  pub is_shared : Finds find → HasDistinctNames p → length (ended find p).keys ≤ 2 ^ 64 → WiresDiffer (built find p)
  is_shared finds distinct few =
      let ordered = (all_grown p formed find is_find (begun_going p) p.moves (begun_sound p formed find is_find) formed.moves).ordered (λ k key e. absurd (cc)) in
      subst (λ (all : List Net). AllPairs (λ (a b : Net). a.item.width ≡ b.item.width → a.value ≢ b.value) all) (sym (nets_is p (ended find p)))
      (wires_differ p formed distinct (ended find p).keys (ended_once find finds p) ordered few)
