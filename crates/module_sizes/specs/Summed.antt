-- What activations are worth, by occurrences.
use Rattle.std.specs.Prelude.{ℕ, zero, suc, ◌+◌, ◌*◌, length, cond, sum_by}
use Rattle.lisa_tree.specs.Descriptions.{DescriptionTree}
use Rattle.activation_trees.specs.Unfolding.{occurrences}
use Rattle.pipeline_time.specs.Acts.{Acts, Done, Act, When}
use Rattle.pipeline_time.specs.Cores.{Core, all_nodes}
use Rattle.touch_promises.specs.lisa_meaning.Cores.{core_of}
use Rattle.module_sizes.specs.Costs.{Rates}
use Rattle.module_sizes.specs.Unfolded.{worth_of}
use Rattle.module_sizes.specs.Activating.{Activating, items_worth, Prices, root_worth, each_worth, activating}
use Rattle.module_sizes.specs.Priced.{prices_of}

-- of the conditions in activations
abbrev pub tests_worth : Activating → Acts → ℕ
tests_worth w Done = 0
tests_worth w (Act number level past own rest) = tests_worth w own + tests_worth w rest
tests_worth w (When number test taken other rest) = (648 + w.test number test) + (tests_worth w taken + (tests_worth w other + tests_worth w rest))

-- of the roots' words, among so many occurrences from a number on
abbrev pub roots_worth : {R M : Type 0} → Core R M → Prices → (k count : ℕ) → ℕ
roots_worth core prices k zero = 0
roots_worth core prices k (suc count) = cond (core.is_root k) (root_worth prices) 0 + roots_worth core prices (suc k) count

-- of the guards of occurrences, which their items pay for
abbrev pub guards_worth : {R M : Type 0} → Core R M → ℕ
guards_worth core = sum_by (λ node. items_worth node.own) (all_nodes core)

-- the stages, each occurrence with its behaviour, the guards, the conditions and the roots' words
abbrev pub occurrences_worth : DescriptionTree → Rates → (stages : ℕ) → ℕ
occurrences_worth d rates stages =
    stages * (1768 + (prices_of d rates).load)
    + (sum_by (λ x. each_worth stages + (worth_of d rates x.operation).run) (occurrences d)
    + (guards_worth (core_of d) + (tests_worth (activating (core_of d) (prices_of d rates)) (core_of d).acts + roots_worth (core_of d) (prices_of d rates) 0 (length (occurrences d)))))
