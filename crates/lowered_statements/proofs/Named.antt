-- Locals by their names.
use Rattle.std.proofs.Common.{◌≡◌, ◌<◌, ◌+◌, ◌∙◌, ℕ, suc, Bool, true, false, cond, List, ◌∷◌, Option, None, Some, length, map, get_or, drop, drop-cons, add-one, sym, ap}
use Rattle.std.specs.Map.{lookup}
use Rattle.lisa_tree.specs.Same.{same_name}
use Rattle.lowered_statements.specs.declared.scopes.Entry.{Entry}
use Rattle.lowered_statements.specs.Scopes.{Local}
use Rattle.lowered_statements.specs.Code.{entry_of, local_of}

module _ (n : List ℕ) (all : List Entry) (i : ℕ) (x : Entry) (within : i < length all) (is : x ≡ get_or all i x) where
  next : lookup (same_name n) (map entry_of (drop i all)) ≡ cond (same_name n x.name) (Some (local_of x.local)) (lookup (same_name n) (map entry_of (drop (i + 1) all)))
  next =
      ap (λ (es : List Entry). lookup (same_name n) (map entry_of es)) (drop-cons all i x within)
      ∙ ap (λ (y : Entry). lookup (same_name n) (map entry_of (y ∷ drop (suc i) all))) (sym is)
      ∙ ap (λ (k : ℕ). lookup (same_name n) (map entry_of (x ∷ drop k all))) (sym (add-one i))

  pub local_found : same_name n x.name ≡ true → lookup (same_name n) (map entry_of (drop i all)) ≡ Some (local_of x.local)
  local_found same = next ∙ ap (λ (b : Bool). cond b (Some (local_of x.local)) (lookup (same_name n) (map entry_of (drop (i + 1) all)))) same

  pub local_past : same_name n x.name ≡ false → lookup (same_name n) (map entry_of (drop i all)) ≡ lookup (same_name n) (map entry_of (drop (i + 1) all))
  local_past other = next ∙ ap (λ (b : Bool). cond b (Some (local_of x.local)) (lookup (same_name n) (map entry_of (drop (i + 1) all)))) other
