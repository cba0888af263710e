-- A module from its parts.
use Rattle.std.proofs.Common.{◌≡◌, ◌∙◌, ℕ, List, ap, ap₂, map}
use Rattle.lisa_engine.specs.declared.parts.Item.{Item}
use Rattle.verilog_text.specs.declared.modules.Member.{Member}
use Rattle.verilog_text.specs.Trees.{ActionTrees, MemberTree, ModuleTree, member_tree}
use Rattle.step_program.specs.Programs.{Program}
use Rattle.netlist_wires.specs.declared.keys.Key.{Key}
use Rattle.netlist_wires.specs.Wiring.{Sym, Going, actions, clock_name, members_at, module_at}
use Rattle.netlist_build.specs.Assembled.{members_of}

module_same : {n k : List ℕ} {is : List Item} {ms : List MemberTree} (name clock : List ℕ) (inputs : List Item) (members : List MemberTree) → n ≡ name → k ≡ clock → is ≡ inputs → ms ≡ members
    → (let out : ModuleTree = record { name = n; clock = k; inputs = is; members = ms } in out) ≡ record { name = name; clock = clock; inputs = inputs; members = members }
module_same {n = n} {k = k} {is = is} {ms = ms} name clock inputs members a b c d =
    ap₂ {C = ModuleTree} (λ (x y : List ℕ). (let out : ModuleTree = record { name = x; clock = y; inputs = is; members = ms } in out)) a b
    ∙ ap₂ {C = ModuleTree} (λ (is : List Item) (ms : List MemberTree). (let out : ModuleTree = record { name = name; clock = clock; inputs = is; members = ms } in out)) c d

pub assembled : (p : Program) (end : Going) (name clock : List ℕ) (inputs : List Item) (members : List Member) (keys : List Key) (acts : ActionTrees) (s : Sym) → name ≡ (module_at p end).name → clock ≡ clock_name
    → inputs ≡ p.pins → map (member_tree clock_name) members ≡ members_of p keys acts → keys ≡ end.keys → acts ≡ actions p s → s ≡ end.sym
    → (let out : ModuleTree = record { name = name; clock = clock; inputs = inputs; members = map (member_tree clock) members } in out) ≡ module_at p end
assembled p end name clock inputs members keys acts s is_name is_clock is_inputs is_members is_keys is_acts is_sym =
    module_same (module_at p end).name clock_name p.pins (members_at p end) is_name is_clock is_inputs
    (ap (λ (k : List ℕ). map (member_tree k) members) is_clock ∙ is_members ∙ ap₂ (members_of p) is_keys (is_acts ∙ ap (actions p) is_sym))
