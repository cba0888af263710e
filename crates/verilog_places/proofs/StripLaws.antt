-- Where each `always` block names the clock, naming it changes nothing.
use Rattle.std.proofs.Common.{◌≡◌, ℕ, suc, List, [], ◌∷◌, map, refl, ap, ◌∙◌, arith}
use Rattle.std.specs.Prelude.{All}
use Rattle.lisa_engine.specs.declared.parts.Item.{Item}
use Rattle.verilog_text.specs.Trees.{MemberTree, ModuleTree}
use Rattle.verilog_places.specs.Clocks.{clocked, with_one_clock, HasOneClock}

same_members : (clock : List ℕ) (all : List MemberTree) → All (λ (member : MemberTree). clocked clock member ≡ member) all → map (clocked clock) all ≡ all
same_members clock [] same = refl
same_members clock (member ∷ all) same =
    ap (λ (first : MemberTree). first ∷ map (clocked clock) all) (same 0 member (omega arith)) ∙ ap (λ (rest : List MemberTree). member ∷ rest) (same_members clock all (λ k d within. same (suc k) d (omega arith)))

pub same_clock : (m : ModuleTree) → HasOneClock m → with_one_clock m ≡ m
same_clock m same = ap (λ (all : List MemberTree). record { name = m.name; clock = m.clock; inputs = m.inputs; members = all }) (same_members m.clock m.members same)

-- modules of the same parts
pub same_parts : (name clock : List ℕ) {inputs pins : List Item} {members all : List MemberTree} → inputs ≡ pins → members ≡ all
    → ◌≡◌ {A = ModuleTree} (record { name = name; clock = clock; inputs = inputs; members = members }) (record { name = name; clock = clock; inputs = pins; members = all })
same_parts name clock {pins = pins} {members = members} e f =
    ap (λ (i : List Item). record { name = name; clock = clock; inputs = i; members = members }) e ∙ ap (λ (all : List MemberTree). record { name = name; clock = clock; inputs = pins; members = all }) f
