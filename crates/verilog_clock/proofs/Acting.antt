-- Compiled actions and wires mean what they stand for.
use Rattle.std.proofs.Common.{◌≡◌, ℕ, zero, suc, ◌%◌, ◌^◌, ◌<◌, ◌≤◌, Bool, true, false, List, [], ◌∷◌, ◌++◌, length, map, get_or, drop, drop-cons, add-one, ◌+◌, refl, sym, ap, ap₂, ◌∙◌, subst, arith, append_assoc, Some, None}
use Rattle.std.specs.Prelude.{All, if◌then◌else◌}
use Rattle.std.specs.Global.{Vec}
use Rattle.std.proofs.lemmas.List.{get_or-map, length-map, map-append, append-nil}
use Rattle.verilog_text.specs.declared.expressions.VExpr.{VExpr}
use Rattle.verilog_text.specs.declared.modules.Action.{Action, If'}
use Rattle.verilog_text.specs.declared.modules.Action.TheVariants as acts
use Rattle.verilog_text.specs.declared.modules.Member.{Member}
use Rattle.verilog_text.specs.Trees as trees
use Rattle.verilog_text.specs.Trees.{VTree, ActionTrees, vexpr_tree, action_then, action_trees, ModuleTree, member_tree}
use Rattle.verilog_text.specs.Values.{Widths, v_width, is_true, self_value, assigned}
use Rattle.verilog_text.specs.Clocked.{regs, arrays, env_of, widths_of, item_place, array_place, updates}
use Rattle.verilog_text.specs.Clocked as modules
use Rattle.verilog_text.specs.Clockable.{AreNarrowActions}
use Rattle.verilog_clock.specs.declared.code.Code.{Code}
use Rattle.verilog_clock.specs.declared.code.Net.{Net}
use Rattle.verilog_clock.specs.declared.code.Act.{Act}
use Rattle.verilog_clock.specs.declared.code.Act.TheVariants as codes
use Rattle.verilog_clock.specs.declared.code.Update.{Update}
use Rattle.verilog_clock.specs.declared.code.Update.TheVariants as changes
use Rattle.verilog_clock.specs.declared.lengths.Length.{Length}
use Rattle.verilog_clock.specs.Compiled.{code_value, act_updates, acts_updates}
use Rattle.verilog_clock.specs.Named.{AreWithin, Means, MeansAssigned, MeansAct, MeansActs, AreNets, placed}
use Rattle.verilog_clock.proofs.Trees.{action_then-If}
use Rattle.verilog_clock.proofs.Lists.{act_updates-If}

-- what holds of each element's image holds of an element's
pub all_mapped : {X Y : Type 0} (P : Y → Type 0) (f : X → Y) (xs : List X) (i : ℕ) (x : X) → All P (map f xs) → i < length xs → x ≡ get_or xs i x → P (f x)
all_mapped P f xs i x all within is =
    let far : i < length (map f xs) = omega (arith, length-map xs f) in
    subst P (get_or-map f xs i x (f x) within ∙ ap f (sym is)) (all i (f x) far)

pub set_means : (m : ModuleTree) (name : List ℕ) (value : VTree) (place width : ℕ) (length : Length) (code : Code)
    → width ≡ (widths_of m).wide name → length.bits ≡ width → place ≡ item_place (regs m.members) name → MeansAssigned m value width code
    → MeansAct m (trees.Set name value) (codes.Set place length code)
set_means m name value place width length code wide bits is_place means values cells within more =
    let env = env_of m values cells in
    let v : code_value values cells code % 2 ^ length.bits ≡ assigned env ((widths_of m).wide name) value =
    ap (λ (n : ℕ). code_value values cells code % 2 ^ n) bits ∙ means values cells within ∙ ap (λ (n : ℕ). assigned env n value) wide in
    ap₂ (λ (p v : ℕ). changes.Item p v ∷ map (placed m) (updates env more)) is_place v

pub put_means : (m : ModuleTree) (name : List ℕ) (index value : VTree) (place width : ℕ) (length : Length) (at code : Code)
    → width ≡ (widths_of m).cell name → length.bits ≡ width → place ≡ array_place (arrays m.members) name → Means m index (v_width (widths_of m) index) at → MeansAssigned m value width code
    → MeansAct m (trees.Put name index value) (codes.Put place at length code)
put_means m name index value place width length at code wide bits is_place is_at means values cells within more =
    let env = env_of m values cells in
    let v : code_value values cells code % 2 ^ length.bits ≡ assigned env ((widths_of m).cell name) value =
    ap (λ (n : ℕ). code_value values cells code % 2 ^ n) bits ∙ means values cells within ∙ ap (λ (n : ℕ). assigned env n value) wide in
    ap₂ (λ (p i : ℕ). changes.Cell p i (code_value values cells code % 2 ^ length.bits) ∷ map (placed m) (updates env more)) is_place (is_at values cells within)
    ∙ ap (λ (v : ℕ). changes.Cell (array_place (arrays m.members) name) (self_value env index) v ∷ map (placed m) (updates env more)) v

either : (b : Bool) {X : Type 0} (x y u v : X) → x ≡ u → y ≡ v → (if b then x else y) ≡ (if b then u else v)
either true x y u v is other = is
either false x y u v is other = other

picked : {X Y : Type 0} (f : X → Y) (b : Bool) (xs ys : List X) → map f (if b then xs else ys) ≡ (if b then map f xs else map f ys)
picked f true xs ys = refl
picked f false xs ys = refl

pub if_means : (m : ModuleTree) (a : Action) (test : VExpr) (v w : Vec Action) (xs ys : List Action) (code : Code) (before after : List Act) (these others : Vec Act)
    → a ≡ acts.If test v w → xs ≡ v.items → ys ≡ w.items → Means m (vexpr_tree test) (v_width (widths_of m) (vexpr_tree test)) code
    → before ≡ [] → after ≡ [] → MeansActs m before these.items (action_trees xs) → MeansActs m after others.items (action_trees ys)
    → MeansAct m (action_then a) (codes.If code these others)
if_means m a test v w xs ys code before after these others is is_xs is_ys is_test none empty this other values cells within more =
    let env = env_of m values cells in
    let b : Bool = is_true (self_value env (vexpr_tree test)) in
    let same : is_true (code_value values cells code) ≡ b = ap is_true (is_test values cells within) in
    let us = map (placed m) (updates env (action_trees v.items)) in
    let vs = map (placed m) (updates env (action_trees w.items)) in
    let one : acts_updates values cells these.items ≡ us = this values cells within ∙ ap (λ (os : List Act). acts_updates values cells os ++ map (placed m) (updates env (action_trees xs))) none ∙ ap (λ (zs : List Action). map (placed m) (updates env (action_trees zs))) is_xs in
    let two : acts_updates values cells others.items ≡ vs = other values cells within ∙ ap (λ (os : List Act). acts_updates values cells os ++ map (placed m) (updates env (action_trees ys))) empty ∙ ap (λ (zs : List Action). map (placed m) (updates env (action_trees zs))) is_ys in
    let here : act_updates values cells (codes.If code these others) ≡ map (placed m) (if b then updates env (action_trees v.items) else updates env (action_trees w.items)) =
    act_updates-If values cells code these others
    ∙ ap (λ (c : Bool). if c then acts_updates values cells these.items else acts_updates values cells others.items) same
    ∙ either b _ _ us vs one two ∙ sym (picked (placed m) b (updates env (action_trees v.items)) (updates env (action_trees w.items))) in
    ap (λ (zs : List Update). zs ++ map (placed m) (updates env more)) here
    ∙ sym (map-append (placed m) (if b then updates env (action_trees v.items) else updates env (action_trees w.items)) (updates env more))
    ∙ sym (ap (λ (t : ActionTrees). map (placed m) (updates env t)) (ap (λ (x : Action). action_then x more) is ∙ action_then-If test v w more))

-- an action that stands for another function of what follows
pub act_as : (m : ModuleTree) (before after : ActionTrees → ActionTrees) (act : Act) → ((more : ActionTrees) → before more ≡ after more) → MeansAct m before act → MeansAct m after act
act_as m before after act same means values cells within more =
    means values cells within more ∙ ap (λ (t : ActionTrees). map (placed m) (updates (env_of m values cells) t)) (same more)

acts_updates-push : (values : List ℕ) (cells : List (List ℕ)) (xs : List Act) (act : Act) → acts_updates values cells (xs ++ (act ∷ [])) ≡ acts_updates values cells xs ++ act_updates values cells act
acts_updates-push values cells [] act = append-nil (act_updates values cells act)
acts_updates-push values cells (x ∷ xs) act =
    ap (λ (us : List Update). act_updates values cells x ++ us) (acts_updates-push values cells xs act)
    ∙ sym (append_assoc (act_updates values cells x) (acts_updates values cells xs) (act_updates values cells act))

-- what is left of actions, of which some are compiled
pub act_more : (m : ModuleTree) (values : List ℕ) (cells : List (List ℕ)) (before after : List Act) (act : Act) (actions : List Action) (i : ℕ) (a : Action) (whole : List Update)
    → AreWithin m values cells → i < length actions → a ≡ get_or actions i a → MeansAct m (action_then a) act → after ≡ before ++ (act ∷ [])
    → acts_updates values cells before ++ map (placed m) (updates (env_of m values cells) (action_trees (drop i actions))) ≡ whole
    → acts_updates values cells after ++ map (placed m) (updates (env_of m values cells) (action_trees (drop (i + 1) actions))) ≡ whole
act_more m values cells before after act actions i a whole within less is means is_after left =
    let env = env_of m values cells in
    let rest = drop (i + 1) actions in
    let next : drop i actions ≡ a ∷ rest = drop-cons actions i a less ∙ ap₂ (λ (x : Action) (n : ℕ). x ∷ drop n actions) (sym is) (sym (add-one i)) in
    let behind = map (placed m) (updates env (action_trees rest)) in
    ap (λ (xs : List Act). acts_updates values cells xs ++ behind) is_after
    ∙ ap (λ (us : List Update). us ++ behind) (acts_updates-push values cells before act)
    ∙ append_assoc (acts_updates values cells before) (act_updates values cells act) behind
    ∙ ap (λ (us : List Update). acts_updates values cells before ++ us) (means values cells within (action_trees rest))
    ∙ sym (ap (λ (xs : List Action). acts_updates values cells before ++ map (placed m) (updates env (action_trees xs))) next)
    ∙ left

narrow_then : (w : Widths) (a : Action) (more : ActionTrees) → AreNarrowActions w (action_then a more) → AreNarrowActions w (action_then a trees.Done) × AreNarrowActions w more
narrow_then w (acts.Set name None value) more n = ((n.0, tt), n.1)
narrow_then w (acts.Set name (Some index) value) more n = ((n.0, n.1, tt), n.2)
narrow_then w (If' test p this q other) more n = ((n.0, n.1, n.2, tt), n.3)

pub narrow_next : (w : Widths) (actions : List Action) (i : ℕ) (a : Action) → i < length actions → a ≡ get_or actions i a → AreNarrowActions w (action_trees (drop i actions))
    → AreNarrowActions w (action_then a trees.Done) × AreNarrowActions w (action_trees (drop (i + 1) actions))
narrow_next w actions i a less is narrow =
    let next : drop i actions ≡ a ∷ drop (i + 1) actions = drop-cons actions i a less ∙ ap₂ (λ (x : Action) (n : ℕ). x ∷ drop n actions) (sym is) (sym (add-one i)) in
    narrow_then w a (action_trees (drop (i + 1) actions)) (subst (λ (xs : List Action). AreNarrowActions w (action_trees xs)) next narrow)

pub narrow_if : (w : Widths) (a : Action) (test : VExpr) (v u : Vec Action) → a ≡ acts.If test v u → AreNarrowActions w (action_then a trees.Done) → AreNarrowActions w (trees.If (vexpr_tree test) (action_trees v.items) (action_trees u.items) trees.Done)
narrow_if w a test v u is narrow = subst (AreNarrowActions w) (ap (λ (x : Action). action_then x trees.Done) is ∙ action_then-If test v u trees.Done) narrow

drop_past : {X : Type 0} (xs : List X) (i : ℕ) → length xs ≤ i → drop i xs ≡ []
drop_past [] zero past = refl
drop_past [] (suc i) past = refl
drop_past (x ∷ xs) zero past = absurd (omega arith)
drop_past (x ∷ xs) (suc i) past = drop_past xs i (omega arith)

pub nets_done : (m : ModuleTree) (members : List Member) (i : ℕ) (all : List Net) (whole : List modules.Net) → length members ≤ i
    → ((rest : List Net) → AreNets m rest (modules.nets (map (member_tree m.clock) (drop i members))) → AreNets m (all ++ rest) whole) → AreNets m all whole
nets_done m members i all whole past gives =
    subst (λ (xs : List Net). AreNets m xs whole) (append-nil all)
    (gives [] (subst (λ (xs : List Member). AreNets m [] (modules.nets (map (member_tree m.clock) xs))) (sym (drop_past members i past)) tt))
