-- A statement of a list, and those behind it.
use Rattle.std.proofs.Common.{◌≡◌, ℕ, suc, ◌+◌, ◌<◌, ◌≤◌, List, ◌∷◌, length, get_or, drop, ap, sym, ◌∙◌, arith, drop-cons}
use Rattle.lisa_tree.specs.declared.statements.Stmt.{Stmt}
use Rattle.lisa_tree.specs.Statements.{stmt_tree, stmt_trees}
use Rattle.lisa_tree.specs.Descriptions.{DescriptionTree}
use Rattle.typed_values.specs.Effects.{Doing, effect, effects}
use Rattle.moment_stores.specs.declared.store.Store.{Store}
use Rattle.moment_stores.specs.Stores.{local_count, Keeps}
use Rattle.behavior_runs.specs.Rooms.{all_locals, locals_in}
use Rattle.behavior_runs.specs.Running.{HasRoom}
use Rattle.behavior_runs.proofs.Room.{left_room}

module _ (all : List Stmt) (i : ℕ) (s : Stmt) (within : i < length all) (is : s ≡ get_or all i s) where
  pub here : drop i all ≡ s ∷ drop (i + 1) all
  here =
      let next : suc i ≡ i + 1 = omega arith in
      drop-cons all i s within ∙ ap (λ (x : Stmt). x ∷ drop (suc i) all) (sym is) ∙ ap (λ (n : ℕ). s ∷ drop n all) next

  pub locals_here : all_locals (stmt_trees (drop i all)) ≡ locals_in (stmt_tree s) + all_locals (stmt_trees (drop (i + 1) all))
  locals_here = ap (λ (xs : List Stmt). all_locals (stmt_trees xs)) here

  pub effects_here : {M : Type 0} (doing : Doing M) (m : M) → effects doing (stmt_trees (drop i all)) m ≡ effects doing (stmt_trees (drop (i + 1) all)) (effect doing (stmt_tree s) m)
  effects_here doing m = ap (λ (xs : List Stmt). effects doing (stmt_trees xs) m) here

  pub effects_past : {M : Type 0} (doing : Doing M) (m next end : M) → effects doing (stmt_trees (drop i all)) m ≡ end → next ≡ effect doing (stmt_tree s) m → effects doing (stmt_trees (drop (i + 1) all)) next ≡ end
  effects_past doing m next end so run = ap (effects doing (stmt_trees (drop (i + 1) all))) run ∙ sym (effects_here doing m) ∙ so

  -- what is counted so far leaves room for it
  pub room_here : (d : DescriptionTree) (levels : ℕ) (old now : Store) → HasRoom d levels (all_locals (stmt_trees all)) old → Keeps old now
      → local_count now + all_locals (stmt_trees (drop i all)) ≤ local_count old + all_locals (stmt_trees all) → HasRoom d levels (locals_in (stmt_tree s)) now
  room_here d levels old now has keeps count =
      left_room d levels (all_locals (stmt_trees all)) (locals_in (stmt_tree s)) old now has keeps (let l = locals_here in omega (arith, count, l))
