-- One turn of the loops that put wires and actions behind others.
use Rattle.std.proofs.Common.{◌≡◌, ℕ, ◌+◌, ◌<◌, List, [], ◌∷◌, ◌++◌, length, map, drop, get_or, None, refl, sym, ap, ap₂, ◌∙◌, append_assoc, add-one, drop-cons}
use Rattle.std.specs.Prelude.{reverse}
use Rattle.std.proofs.lemmas.List.{map-append, reverse-append}
use Rattle.lisa_engine.specs.declared.parts.Item.{Item}
use Rattle.verilog_text.specs.declared.expressions.VExpr.{VExpr}
use Rattle.verilog_text.specs.declared.modules.Action.{Action}
use Rattle.verilog_text.specs.declared.modules.Action.TheVariants as acts
use Rattle.verilog_text.specs.declared.modules.Member.{Member}
use Rattle.verilog_text.specs.declared.modules.Member.TheVariants as members
use Rattle.verilog_text.specs.Trees as trees
use Rattle.verilog_text.specs.Trees.{VTree, ActionTrees, MemberTree, vexpr_tree, action_then, action_trees, member_tree}
use Rattle.step_program.specs.Programs.{Program}
use Rattle.netlist_wires.specs.declared.keys.Flat.{Flat}
use Rattle.netlist_wires.specs.declared.keys.Key.{Key}
use Rattle.netlist_wires.specs.declared.keys.Write.{Write}
use Rattle.netlist_wires.specs.Wiring.{item_name, wire_name, named, body_tree, wires_from, set_items, put_cell, put_cells}
use Rattle.netlist_build.specs.Assembled.{actions_then, puts}

pub actions_push : (xs : List Action) (a : Action) (rest : ActionTrees) → actions_then (xs ++ (a ∷ [])) rest ≡ actions_then xs (action_then a rest)
actions_push [] a rest = refl
actions_push (x ∷ xs) a rest = ap (action_then x) (actions_push xs a rest)

pub actions_whole : (xs : List Action) → action_trees xs ≡ actions_then xs trees.Done
actions_whole [] = refl
actions_whole (x ∷ xs) = ap (action_then x) (actions_whole xs)

pub set_step : (p : Program) (flats : List Flat) (i : ℕ) (d : Flat) (xs new : List Action) (name : List ℕ) (value : VExpr) (rest : ActionTrees) → i < length flats → name ≡ item_name p i
    → vexpr_tree value ≡ named p (get_or flats i d) → new ≡ xs ++ (acts.Set name None value ∷ [])
    → actions_then new (set_items p (i + 1) (drop (i + 1) flats) rest) ≡ actions_then xs (set_items p i (drop i flats) rest)
set_step p flats i d xs new name value rest h is_name is_value is_new =
    let later = set_items p (i + 1) (drop (i + 1) flats) rest in
    ap (λ (all : List Action). actions_then all later) is_new ∙ actions_push xs (acts.Set name None value) later
    ∙ ap (actions_then xs)
    (ap₂ (λ (n : List ℕ) (e : VTree). trees.Set n e later) is_name is_value
    ∙ ap (λ (j : ℕ). trees.Set (item_name p i) (named p (get_or flats i d)) (set_items p j (drop j flats) rest)) (add-one i)
    ∙ ap (λ (fs : List Flat). set_items p i fs rest) (sym (drop-cons flats i d h)))

pub write_step : (p : Program) (writes : List Write) (i : ℕ) (d : Write) (xs new : List Action) (action : Action) (rest : ActionTrees) → i < length writes
    → ((more : ActionTrees) → action_then action more ≡ put_cell p (get_or writes i d) more) → new ≡ xs ++ (action ∷ [])
    → actions_then new (puts p (drop (i + 1) writes) rest) ≡ actions_then xs (puts p (drop i writes) rest)
write_step p writes i d xs new action rest h is is_new =
    let later = puts p (drop (i + 1) writes) rest in
    ap (λ (all : List Action). actions_then all later) is_new ∙ actions_push xs action later
    ∙ ap (actions_then xs)
    (is later ∙ ap (λ (j : ℕ). put_cell p (get_or writes i d) (puts p (drop j writes) rest)) (add-one i) ∙ ap (λ (ws : List Write). puts p ws rest) (sym (drop-cons writes i d h)))

pub wire_step : (p : Program) (clock : List ℕ) (keys : List Key) (i : ℕ) (d : Key) (xs new : List Member) (name : List ℕ) (value : VExpr) → i < length keys
    → name ≡ wire_name i → vexpr_tree value ≡ body_tree p (get_or keys i d).body → new ≡ xs ++ (members.Wire (record { name = name; width = (get_or keys i d).width }) value ∷ [])
    → map (member_tree clock) new ++ wires_from p (i + 1) (drop (i + 1) keys) ≡ map (member_tree clock) xs ++ wires_from p i (drop i keys)
wire_step p clock keys i d xs new name value h is_name is_value is_new =
    let item : Item = record { name = name; width = (get_or keys i d).width } in
    let later = wires_from p (i + 1) (drop (i + 1) keys) in
    ap (λ (all : List Member). map (member_tree clock) all ++ later) is_new
    ∙ ap (λ (ms : List MemberTree). ms ++ later) (map-append (member_tree clock) xs (members.Wire item value ∷ []))
    ∙ append_assoc (map (member_tree clock) xs) (trees.Wire item (vexpr_tree value) ∷ []) later
    ∙ ap (λ (ms : List MemberTree). map (member_tree clock) xs ++ ms)
    (ap₂ (λ (n : List ℕ) (e : VTree). trees.Wire (record { name = n; width = (get_or keys i d).width }) e ∷ later) is_name is_value
    ∙ ap (λ (j : ℕ). trees.Wire (record { name = wire_name i; width = (get_or keys i d).width }) (body_tree p (get_or keys i d).body) ∷ wires_from p j (drop j keys)) (add-one i)
    ∙ ap (wires_from p i) (sym (drop-cons keys i d h)))

puts_append : (p : Program) (xs ys : List Write) (rest : ActionTrees) → put_cells p (xs ++ ys) rest ≡ put_cells p ys (put_cells p xs rest)
puts_append p [] ys rest = refl
puts_append p (x ∷ xs) ys rest = puts_append p xs ys (put_cell p x rest)

-- the oldest write stands first
pub puts_reversed : (p : Program) (writes : List Write) (rest : ActionTrees) → put_cells p (reverse writes) rest ≡ puts p writes rest
puts_reversed p [] rest = refl
puts_reversed p (w ∷ writes) rest =
    ap (λ (ws : List Write). put_cells p ws rest) (reverse-append (w ∷ []) writes)
    ∙ puts_append p (reverse writes) (w ∷ []) rest ∙ ap (put_cell p w) (puts_reversed p writes rest)
