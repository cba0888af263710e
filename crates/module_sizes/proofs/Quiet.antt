-- An occurrence runs in one of the stages or in none, and not before its activator; in the level of that one it waits for no bit.
use Rattle.std.proofs.Common.{◌≡◌, ◌+◌, ◌||◌, ℕ, suc, Bool, Option, None, Some, refl, arith}
use Rattle.pipeline_time.specs.Acts.{Acts, Done, Act, When, size}
use Rattle.pipeline_time.specs.Cores.{Core, above_of}
use Rattle.pipeline_time.specs.Sound.{IsSound}
use Rattle.pipeline_time.proofs.Tree.{IsGoodTree, tree_of}
use Rattle.step_program.specs.Programs.{Program}
use Rattle.lowered_time.specs.Building.{Layout}
use Rattle.lowered_time.specs.Lowering.{IsLaidOut}
use Rattle.module_sizes.specs.Activating.{IsQuiet}

module _ {R M : Type 0} (core : Core R M) (layout : Layout) (p : Program) (laid : IsLaidOut core layout p) where
  no_bit : (number level above : ℕ) → above_of core number ≡ above → level ≡ above → (r : Option ℕ) → layout.bit level number ≡ r → layout.bit level number ≡ None
  no_bit number level above is same None e = e
  no_bit number level above is same (Some place) e = let between = (laid.bit_between level number place e).2 in absurd (omega (arith, between, is, same))

  quiet_tree : (root above : ℕ) (inside : Bool) (from : ℕ) (acts : Acts) → IsGoodTree core root above inside from acts → IsQuiet layout core.stages above acts
  quiet_tree root above inside from Done tree = tt
  quiet_tree root above inside from (Act number level past own rest) tree = (
    tree.1.ordered,
    tree.1.within,
    λ same. no_bit number level above tree.1.above_is same (layout.bit level number) refl,
    quiet_tree root level (past || core.is_root number) (suc from) own tree.4,
    quiet_tree root above inside (suc (from + size own)) rest tree.5,
  )
  quiet_tree root above inside from (When number test taken other rest) tree = (
    quiet_tree root above inside from taken tree.0,
    quiet_tree root above inside (from + size taken) other tree.1,
    quiet_tree root above inside (from + (size taken + size other)) rest tree.2,
  )

  pub is_quiet : IsSound core → IsQuiet layout core.stages 0 core.acts
  is_quiet sound = quiet_tree sound.root 0 _ 1 core.acts (tree_of core sound).4
