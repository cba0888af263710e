-- The parts of a module, from flat operands.
use Rattle.std.specs.Prelude.{◌<◌, ◌^◌, List, [], ◌∷◌, ◌++◌}
use Rattle.verilog_text.specs.declared.modules.Action.{Action}
use Rattle.verilog_text.specs.Trees.{ActionTrees, action_then, MemberTree, Initial, Always}
use Rattle.step_program.specs.Programs.{Program}
use Rattle.step_program.specs.WellFormed.{IsWidth}
use Rattle.netlist_wires.specs.declared.keys.Flat.{Flat}
use Rattle.netlist_wires.specs.declared.keys.Flat.TheVariants.{Fixed}
use Rattle.netlist_wires.specs.declared.keys.Body.{Body}
use Rattle.netlist_wires.specs.declared.keys.Body.TheVariants.{Copied, Lowest, Padded, Inverse, Load, Operate, Select}
use Rattle.netlist_wires.specs.declared.keys.Key.{Key}
use Rattle.netlist_wires.specs.declared.keys.Write.{Write}
use Rattle.netlist_wires.specs.Wiring.{put_cell, reg_members, array_members, first_settings, wires_from, clock_name}

-- a number is within its width, which is from 1 to 64
abbrev pub IsWord : Flat → Type 0
IsWord (Fixed w v) = IsWidth w × (v < 2 ^ w)
IsWord _ = Unit {0}

abbrev pub HasWords : Body → Type 0
HasWords (Copied f) = IsWord f
HasWords (Lowest high f) = IsWord f
HasWords (Padded zeros f) = IsWidth zeros × IsWord f
HasWords (Inverse f) = IsWord f
HasWords (Load array f) = IsWord f
HasWords (Operate op f g) = IsWord f × IsWord g
HasWords (Select c f g) = IsWord c × IsWord f × IsWord g

pub record IsWrite (write : Write) : Type 0 where
  pub guard : IsWord write.guard
  pub index : IsWord write.index
  pub value : IsWord write.value

-- actions in front of others
abbrev pub actions_then : List Action → ActionTrees → ActionTrees
actions_then [] rest = rest
actions_then (action ∷ actions) rest = action_then action (actions_then actions rest)

-- writes in their order
abbrev pub puts : Program → List Write → ActionTrees → ActionTrees
puts p [] rest = rest
puts p (write ∷ writes) rest = put_cell p write (puts p writes rest)

-- the members of a module with these wires and actions
abbrev pub members_of : Program → List Key → ActionTrees → List MemberTree
members_of p keys acts =
    reg_members p.items ++ (array_members p.arrays ++ (Initial (first_settings p.items p.first) ∷ (wires_from p 0 keys ++ (Always clock_name acts ∷ []))))
