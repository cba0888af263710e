-- Names that are prepared, one after the other, and what is computed behind them.
use Rattle.std.proofs.Common.{◌≡◌, ◌∙◌, ℕ, suc, Bool, true, false, cond, List, ◌∷◌, Option, None, Some, refl, sym, ap}
use Rattle.std.specs.Option.{option_map, option_or}
use Rattle.std.specs.Map.{lookup}
use Rattle.lisa_tree.specs.Expressions.{ExprTree}
use Rattle.lisa_tree.specs.Same.{same_name}
use Rattle.step_pieces.specs.Pieces.{Piece, behind, top}
use Rattle.lowered_values.specs.declared.operands.Source.{Source}
use Rattle.lowered_values.specs.Operands.{Operand}
use Rattle.lowered_values.specs.Sources.{Sources}
use Rattle.lowered_values.specs.Computed.{Computed, computed}
use Rattle.lowered_values.specs.Code.{plain}
use Rattle.lowered_statements.specs.Scopes.{Scope}
use Rattle.lowered_statements.proofs.Drafted.{then_adds, then_top}
use Rattle.lowered_resources.specs.Reading.{Known, sources}
use Rattle.lowered_behaviors.specs.Standpoints.{Standpoint, running}
use Rattle.lowered_behaviors.specs.Values.{Ground, Prepared, decoded_in, known_of, names_in, operand_or, prepared, value_within}
use Rattle.lowered_behaviors.specs.Code.{prepared_within}

-- ---- one name more

-- what is left of the names puts the same behind
pub prepared_more : (one : ℕ → List ℕ → Computed) (now new whole : Piece) (n : List ℕ) (rest : List (List ℕ))
    → behind now (prepared one (top 0 now) (n ∷ rest)).piece ≡ whole → new ≡ behind now (one (top 0 now) n).piece → behind new (prepared one (top 0 new) rest).piece ≡ whole
prepared_more one now new whole n rest is done =
    then_adds now new (behind new (prepared one (top 0 new) rest).piece) (one (top 0 now) n).piece (λ t. (prepared one t rest).piece) done refl ∙ is

-- what was found goes before what is left
abbrev pub found_before : Option Source → Option Operand → Option Operand
found_before found left = option_or (option_map plain found) left

enter_one : (found : Option Source) (b : Bool) (x : Source) (out : Operand) (left : Option Operand) → plain x ≡ out
    → found_before (option_or found (cond b (Some x) None)) left ≡ found_before found (cond b (Some out) left)
enter_one (Some y) b x out left is = refl
enter_one None true x out left is = ap (λ (z : Operand). Some z) is
enter_one None false x out left is = refl

pub known_more : (one : ℕ → List ℕ → Computed) (now new : Piece) (n m : List ℕ) (rest : List (List ℕ)) (old_found new_found : Option Source) (x : Source) (whole : Option Operand)
    → found_before old_found (lookup (same_name n) (prepared one (top 0 now) (m ∷ rest)).known) ≡ whole
    → new_found ≡ option_or old_found (cond (same_name n m) (Some x) None) → plain x ≡ (one (top 0 now) m).out → new ≡ behind now (one (top 0 now) m).piece
    → found_before new_found (lookup (same_name n) (prepared one (top 0 new) rest).known) ≡ whole
known_more one now new n m rest old_found new_found x whole is entered out done =
    let y = one (top 0 now) m in
    ap (λ (t : ℕ). found_before new_found (lookup (same_name n) (prepared one t rest).known)) (then_top now new y.piece done)
    ∙ ap (λ (found : Option Source). found_before found (lookup (same_name n) (prepared one (top (top 0 now) y.piece) rest).known)) entered
    ∙ enter_one old_found (same_name n m) x y.out (lookup (same_name n) (prepared one (top (top 0 now) y.piece) rest).known) out
    ∙ is

found_all : (found : Option Source) → found_before found None ≡ option_map plain found
found_all None = refl
found_all (Some x) = refl

-- once none is left, the names stand for what was prepared
pub all_known : (g : Ground) (made : Prepared) (found : List ℕ → Option Source) (decoded : Source) → ((n : List ℕ) → found_before (found n) None ≡ lookup (same_name n) made.known) → plain decoded ≡ decoded_in g.row
    → ◌≡◌ {A = Known} (record { named = λ n. operand_or (option_map plain (found n)); decoded = plain decoded }) (known_of g made)
all_known g made found decoded is decodes = λ i. record { named = λ n. operand_or ((sym (found_all (found n)) ∙ is n) i); decoded = decodes i }

-- ---- what is computed behind them

module _ (g : Ground) (more : ℕ) (standpoint : Standpoint) (scope : Scope) (e : ExprTree) (old now new : Piece) (s : Sources) where
  abbrev pub made : Prepared
  made = prepared_within more g standpoint scope (top 0 old) (names_in e)

  pub value_adds : now ≡ behind old made.piece → s ≡ sources g.description g.places (known_of g made) (running standpoint) scope → new ≡ behind now (computed s (top 0 now) e).piece
      → new ≡ behind old (value_within (suc more) g standpoint scope (top 0 old) e).piece
  value_adds first are second =
      let own = sources g.description g.places (known_of g made) (running standpoint) scope in
      then_adds old now new made.piece (λ t. (computed own t e).piece) first (second ∙ ap (λ (z : Sources). behind now (computed z (top 0 now) e).piece) are)

  pub value_out : (x : Operand) → now ≡ behind old made.piece → s ≡ sources g.description g.places (known_of g made) (running standpoint) scope → x ≡ (computed s (top 0 now) e).out
      → x ≡ (value_within (suc more) g standpoint scope (top 0 old) e).out
  value_out x first are is =
      let own = sources g.description g.places (known_of g made) (running standpoint) scope in
      is ∙ ap (λ (z : Sources). (computed z (top 0 now) e).out) are ∙ ap (λ (t : ℕ). (computed own t e).out) (then_top old now made.piece first)
