-- What a ledger is worth once something is noted in it.
use Rattle.std.proofs.Common.{◌≡◌, ◌<◌, ◌+◌, ◌*◌, ℕ, List, [], ◌∷◌, Option, None, Some, Bool, length, refl, ap, sym, ◌∙◌, arith}
use Rattle.std.specs.Prelude.{IfSome, position}
use Rattle.std.proofs.lemmas.List.Quantifiers.{position-Some}
use Rattle.lisa_tree.specs.Descriptions.{DescriptionTree}
use Rattle.lisa_tree.specs.Resources.{is_named, resource_at}
use Rattle.lisa_tree.specs.Declarations.{Entry, entries, declared_at}
use Rattle.access_counts.specs.declared.ledger.Ledger.{Ledger}
use Rattle.access_counts.specs.Accesses.{Access, Naming}
use Rattle.access_counts.specs.Ledgers.{Prices, capped, ledger_worth, access_by, naming_by, HasRoom, IsAdded, IsGoing}
use Rattle.access_counts.proofs.Worth.{gains_nothing, gains_never, gains_both, gains_turns, goes_on, ends}

pub position_below : {X : Type 0} (p : X → Bool) (xs : List X) (i : ℕ) → position p xs ≡ Some i → i < length xs
position_below p [] i e = absurd (cc e)
position_below p (x ∷ xs) i e = (position-Some p (x ∷ xs) i x e).0

pub if_below : (place : Option ℕ) (n m : ℕ) → ((k : ℕ) → place ≡ Some k → k < n) → m ≡ n → IfSome place (λ k. k < m)
if_below None n m f e = tt
if_below (Some k) n m f e = (let h = f k refl in omega (arith, h, e))

module _ (d : DescriptionTree) (o : ℕ) where
  pub nothing_noted : (l : Ledger) (times : ℕ) → HasRoom d l → IsAdded d o l l times (λ a names. 0)
  nothing_noted l times room = record { room = room; more = λ p. gains_nothing _ times }

  pub never_noted : (l : Ledger) (times : ℕ) (x : Access → Naming → ℕ) → HasRoom d l → times ≡ 0 → IsAdded d o l l times x
  never_noted l times x room none = rw none (record { room = room; more = λ p. gains_never _ _ })

  pub both_noted : (a b c : Ledger) (times : ℕ) (x y : Access → Naming → ℕ) → IsAdded d o a b times x → IsAdded d o b c times y → IsAdded d o a c times (λ e names. x e names + y e names)
  both_noted a b c times x y f g = record { room = g.room; more = λ p. gains_both _ _ _ times _ _ (f.more p) (g.more p) }

  pub turns_noted : (a b : Ledger) (times turns m : ℕ) (x : Access → Naming → ℕ) → m ≡ capped (times * turns) → IsAdded d o a b m x → IsAdded d o a b times (λ e names. turns * x e names)
  turns_noted a b times turns m x is f = record { room = f.room; more = λ p. gains_turns _ _ times turns _ m is (f.more p) }

  -- ---- over a list

  pub going_begins : (l : Ledger) (times : ℕ) (all : Access → Naming → ℕ) → HasRoom d l → IsGoing d o l l times all all
  going_begins l times all room = record { room = room; rest = λ p. refl }

  pub going_on : (s a b : Ledger) (times : ℕ) (left here left' all : Access → Naming → ℕ) → IsGoing d o s a times left all → IsAdded d o a b times here
      → ((x : Access) (names : Naming) → left x names ≡ here x names + left' x names) → IsGoing d o s b times left' all
  going_on s a b times left here left' all g f e = record {
    room = f.room;
    rest = λ p. goes_on _ _ _ times _ _ (f.more p) (ap (λ (n : ℕ). capped (ledger_worth p a + times * n)) (sym (e (access_by d p) (naming_by d o p))) ∙ g.rest p);
  }

  pub going_ends : (s a : Ledger) (times : ℕ) (left all : Access → Naming → ℕ) → IsGoing d o s a times left all → ((x : Access) (names : Naming) → left x names ≡ 0) → IsAdded d o s a times all
  going_ends s a times left all g e = record {
    room = g.room;
    more = λ p. record { same = ends _ _ times (ap (λ (n : ℕ). capped (ledger_worth p a + times * n)) (sym (e (access_by d p) (naming_by d o p))) ∙ g.rest p) };
  }
