use Rattle.std.proofs.Common.{◌≡◌, ◌<◌, ℕ, length, get_or}
use Rattle.description_types.specs.Uses.{no_traits, choice_traits}
use Rattle.description_types.proofs.uses.traits_of_choices.Given as goal

abbrev pub invariant-loop-choice : goal.invariant-loop-choice
invariant-loop-choice g l = record {
  len : length l.table.items ≡ l.choice;
  each : (c : ℕ) → c < l.choice → get_or l.table.items c no_traits ≡ choice_traits (g.N.Names.tree l.names) c;
}
