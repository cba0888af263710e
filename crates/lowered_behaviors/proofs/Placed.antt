-- Places that are no declared names, and those that are.
use Rattle.std.proofs.Common.{◌≡◌, ℕ, List, Option, None, Some, refl, sym, ap}
use Rattle.std.specs.Map.{lookup}
use Rattle.lisa_tree.specs.Expressions as exprs
use Rattle.lisa_tree.specs.Expressions.{ExprTree}
use Rattle.lisa_tree.specs.Descriptions.{DescriptionTree}
use Rattle.lisa_tree.specs.declared.declared.Meaning.{Meaning}
use Rattle.lisa_tree.specs.declared.declared.Meaning.TheVariants as meanings
use Rattle.lisa_tree.specs.Same.{same_name}
use Rattle.lisa_tree.specs.Meanings.{meaning}
use Rattle.step_program.specs.Programs.{Expr}
use Rattle.lowered_statements.specs.Scopes.{Local, Scope}
use Rattle.lowered_resources.specs.Places.{Places}
use Rattle.lowered_resources.specs.Putting.{Given, Reads, Stores, meant_put, name_put, puts}
use Rattle.lowered_behaviors.specs.Code.{declared_place, entry_beside, entry_of, name_at}

module _ (d : DescriptionTree) (places : Places) (reads : Reads) (guard : Expr) (from : ℕ) (x : Given) where
  meant_apart : (s t : Stores) (n : List ℕ) (m : Meaning) → name_at n (entry_of m) ≡ None → meant_put d s n m guard from x ≡ meant_put d t n m guard from x
  meant_apart s t n meanings.Nothing is = refl
  meant_apart s t n (meanings.Resource k) is = refl
  meant_apart s t n (meanings.Declared i) is = absurd (cc is)

  named_apart : (s t : Stores) (l : Option Local) (n : List ℕ) (m : Meaning) → name_at n (entry_beside l m) ≡ None
      → name_put l guard x (meant_put d s n m guard from x) ≡ name_put l guard x (meant_put d t n m guard from x)
  named_apart s t None n m is = meant_apart s t n m is
  named_apart s t (Some l) n m is = refl

  -- what is no declared name is assigned whatever stores do
  pub puts_apart : (s t : Stores) (o : ℕ) (scope : Scope) (e : ExprTree) → declared_place d o scope e ≡ None → puts d places reads s o scope guard from e x ≡ puts d places reads t o scope guard from e x
  puts_apart s t o scope (exprs.Number v base) is = refl
  puts_apart s t o scope (exprs.Named n) is = named_apart s t (lookup (same_name n) scope) n (meaning d o n) is
  puts_apart s t o scope (exprs.Element n index) is = refl
  puts_apart s t o scope (exprs.Input field) is = refl
  puts_apart s t o scope (exprs.Output field) is = refl
  puts_apart s t o scope (exprs.Boundary pipe before after field) is = refl
  puts_apart s t o scope exprs.Decoded is = refl
  puts_apart s t o scope (exprs.Cast shape a) is = refl
  puts_apart s t o scope (exprs.Complement a) is = refl
  puts_apart s t o scope (exprs.Negate a) is = refl
  puts_apart s t o scope (exprs.Two operator a b) is = refl
  puts_apart s t o scope (exprs.Choose c a b) is = refl

  meant_stored : (s : Stores) (n found : List ℕ) (m : Meaning) → name_at n (entry_of m) ≡ Some found → s found guard from x ≡ meant_put d s n m guard from x
  meant_stored s n found meanings.Nothing is = absurd (cc is)
  meant_stored s n found (meanings.Resource k) is = absurd (cc is)
  meant_stored s n found (meanings.Declared i) is = let e : n ≡ found = cc is in ap (λ (k : List ℕ). s k guard from x) (sym e)

  named_stored : (s : Stores) (l : Option Local) (n found : List ℕ) (m : Meaning) → name_at n (entry_beside l m) ≡ Some found → s found guard from x ≡ name_put l guard x (meant_put d s n m guard from x)
  named_stored s None n found m is = meant_stored s n found m is
  named_stored s (Some l) n found m is = absurd (cc is)

  -- a declared name is what stores do with it
  pub puts_stored : (s : Stores) (o : ℕ) (scope : Scope) (e : ExprTree) (found : List ℕ) → declared_place d o scope e ≡ Some found → s found guard from x ≡ puts d places reads s o scope guard from e x
  puts_stored s o scope (exprs.Number v base) found is = absurd (cc is)
  puts_stored s o scope (exprs.Named n) found is = named_stored s (lookup (same_name n) scope) n found (meaning d o n) is
  puts_stored s o scope (exprs.Element n index) found is = absurd (cc is)
  puts_stored s o scope (exprs.Input field) found is = absurd (cc is)
  puts_stored s o scope (exprs.Output field) found is = absurd (cc is)
  puts_stored s o scope (exprs.Boundary pipe before after field) found is = absurd (cc is)
  puts_stored s o scope exprs.Decoded found is = absurd (cc is)
  puts_stored s o scope (exprs.Cast shape a) found is = absurd (cc is)
  puts_stored s o scope (exprs.Complement a) found is = absurd (cc is)
  puts_stored s o scope (exprs.Negate a) found is = absurd (cc is)
  puts_stored s o scope (exprs.Two operator a b) found is = absurd (cc is)
  puts_stored s o scope (exprs.Choose c a b) found is = absurd (cc is)
