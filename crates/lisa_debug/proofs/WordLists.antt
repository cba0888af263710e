-- Lists of words.
use Rattle.std.proofs.Common.{◌≡◌, ℕ, ◌<◌, List, [], ◌∷◌, length, map, refl, arith, Bool, Result, Err}
use Rattle.std.specs.List.{list_any}
use Rattle.std.specs.Borrow.{Bor}
use Rattle.lisa_engine.specs.declared.parts.Item.{Item}
use Rattle.lisa_engine.specs.declared.parts.ArrayItem.{ArrayItem}
use Rattle.lisa_debug.specs.Commands.{command_of_words}
use Rattle.lisa_debug.specs.declared.command.Command.{Command}
use Rattle.lisa_debug.specs.declared.command.Refusal.{Refusal}
use Rattle.lisa_debug.specs.declared.command.Refusal.TheVariants.{BadCommand}

pub any_map : {X Y : Type 0} (p : Y → Bool) (f : X → Y) (xs : List X) → list_any (λ x. p (f x)) xs ≡ list_any p (map f xs)
any_map p f [] = refl
any_map p f (x ∷ xs) = rw (any_map p f xs) refl

-- more than four words are no command
pub too_many : (items : List Item) (arrays : List ArrayItem) (edge : ℕ) (words : List (Bor (List ℕ))) → 4 < length words
    → ◌≡◌ {A = Result Command Refusal} (Err BadCommand) (command_of_words items arrays edge (map (λ w. w.now) words))
too_many items arrays edge [] more = absurd (omega arith)
too_many items arrays edge (a ∷ []) more = absurd (omega arith)
too_many items arrays edge (a ∷ b ∷ []) more = absurd (omega arith)
too_many items arrays edge (a ∷ b ∷ c ∷ []) more = absurd (omega arith)
too_many items arrays edge (a ∷ b ∷ c ∷ d ∷ []) more = absurd (omega arith)
too_many items arrays edge (a ∷ b ∷ c ∷ d ∷ e ∷ rest) more = refl
