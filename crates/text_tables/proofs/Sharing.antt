-- The first two forms that share a text.
use Rattle.std.proofs.Common.{◌≡◌, ℕ, ◌+◌, ◌<◌, ◌≤◌, List, [], length, map, get_or, Vec, Global, refl, sym, ap, ◌∙◌, subst, arith, inl, inr}
use Rattle.std.specs.List.{All}
use Rattle.std.proofs.lemmas.Bool.{cases_lt, cases_eq}
use Rattle.std.proofs.lemmas.List.{get_or-map, length-map}
use Rattle.instruction_texts.specs.declared.shapes.Shape.{Shape}
use Rattle.instruction_texts.specs.declared.shapes.Token.{Token}
use Rattle.instruction_texts.specs.Shapes.{IsSized, IsText}
use Rattle.instruction_texts.specs.Written.{text_bytes}
use Rattle.text_tables.specs.Shared.{shapes_at, IsShared, IsSharedWith, IsFirstShared}
use Rattle.text_tables.specs.declared.shared.Shared.{Shared}

module _ {A : Type 0} (view : A → List Shape) (texts : List A) where
  -- ---- the pieces of a form

  abbrev all : List (List Shape)
  all = map view texts

  shapes_are : (k : ℕ) (x : A) → k < length texts → x ≡ get_or texts k x → view x ≡ shapes_at all k
  shapes_are k x inside is = ap view is ∙ sym (get_or-map view texts k x [] inside)

  pub sized_at : (k : ℕ) (x : A) → All (All IsSized) all → k < length texts → x ≡ get_or texts k x → All IsSized (view x)
  sized_at k x sized inside is = subst (All IsSized) (sym (shapes_are k x inside is)) (sized k [] (subst (λ (n : ℕ). k < n) (sym (length-map texts view)) inside))

  -- ---- two forms

  module _ (i j : ℕ) (x y : A) (order : i < j) (inside : j < length texts) (first : x ≡ get_or texts i x) (second : y ≡ get_or texts j y) where
    abbrev NoneBefore : Type 0
    NoneBefore = (k : ℕ) (ts : List Token) → k < j → IsShared all i k ts → ⊥

    one : view x ≡ shapes_at all i
    one = shapes_are i x (omega arith) first

    other : view y ≡ shapes_at all j
    other = shapes_are j y inside second

    share : (ts : List Token) → IsText (view x) ts → IsText (view y) ts → IsShared all i j ts
    share ts t u = record {
      order = order;
      within = subst (λ (n : ℕ). j < n) (sym (length-map texts view)) inside;
      first = subst (λ (ss : List Shape). IsText ss ts) one t;
      second = subst (λ (ss : List Shape). IsText ss ts) other u;
    }

    apart : (ts : List Token) → ((us : List Token) → IsText (view x) us → IsText (view y) us → ⊥) → IsShared all i j ts → ⊥
    apart ts none s = none ts (subst (λ (ss : List Shape). IsText ss ts) (sym one) s.first) (subst (λ (ss : List Shape). IsText ss ts) (sym other) s.second)

    pub first_later : (text : Vec ℕ Global) → NoneBefore → (ts : List Token) × IsText (view x) ts × IsText (view y) ts × (text.items ≡ text_bytes ts)
        → IsSharedWith all i (record { first = i; second = j; text = text })
    first_later text none f = record {
      is = refl;
      tokens = f.0;
      shared = share f.0 f.1 f.2;
      text = f.3;
      second = λ k ts s. elim (cases_lt k j) [ inl less ↦ absurd (none k ts less s) | inr le ↦ le ];
    }

    pub none_up_to : NoneBefore → ((ts : List Token) → IsText (view x) ts → IsText (view y) ts → ⊥) → (k : ℕ) (ts : List Token) → k < j + 1 → IsShared all i k ts → ⊥
    none_up_to none apart_here k ts less s = elim (cases_eq k j) [
      | inl e ↦ apart ts apart_here (subst (λ (n : ℕ). IsShared all i n ts) e s)
      | inr ne ↦ none k ts (omega arith) s
    ]

  pub none_later : (i n : ℕ) → ((k : ℕ) (ts : List Token) → k < n → IsShared all i k ts → ⊥) → length texts ≤ n → (j : ℕ) (ts : List Token) → IsShared all i j ts → ⊥
  none_later i n none le j ts s = let within = s.within in none j ts (omega (arith, length-map texts view)) s

  -- ---- all forms

  pub first_of_all : (i : ℕ) (s : Shared) → ((k j : ℕ) (ts : List Token) → k < i → IsShared all k j ts → ⊥) → IsSharedWith all i s → IsFirstShared all s
  first_of_all i s none f = record {
    tokens = f.tokens;
    shared = subst (λ (k : ℕ). IsShared all k s.second f.tokens) (sym f.is) f.shared;
    text = f.text;
    first = λ k j ts is. elim (cases_lt k i) [ inl less ↦ absurd (none k j ts less is) | inr le ↦ (let e = f.is in omega arith) ];
    second = λ j ts is. f.second j ts (subst (λ (k : ℕ). IsShared all k j ts) f.is is);
  }

  pub none_from : (i : ℕ) → ((k j : ℕ) (ts : List Token) → k < i → IsShared all k j ts → ⊥) → ((j : ℕ) (ts : List Token) → IsShared all i j ts → ⊥)
      → (k j : ℕ) (ts : List Token) → k < i + 1 → IsShared all k j ts → ⊥
  none_from i none alone k j ts less s = elim (cases_eq k i) [
    | inl e ↦ alone j ts (subst (λ (n : ℕ). IsShared all n j ts) e s)
    | inr ne ↦ none k j ts (omega arith) s
  ]

  pub none_at_all : (n : ℕ) → ((k j : ℕ) (ts : List Token) → k < n → IsShared all k j ts → ⊥) → length texts ≤ n → (i j : ℕ) (ts : List Token) → IsShared all i j ts → ⊥
  none_at_all n none le i j ts s = let within = s.within in let order = s.order in none i j ts (omega (arith, length-map texts view)) s
