-- What is first in a list is one element.
use Rattle.std.proofs.Common.{◌≡◌, suc, List, [], ◌∷◌, ◌++◌, sym, subst, ◌∙◌, arith}
use Rattle.std.specs.Prelude.{All}
use Rattle.verilog_text.specs.Conditions.{IsFirst}

module _ {A : Type 0} (P : A → Type 0) where
  one_front : (f g rest others : List A) (x y : A) → f ++ x ∷ rest ≡ g ++ y ∷ others → P x → P y → All (λ z. ¬ P z) f → All (λ z. ¬ P z) g → x ≡ y
  one_front [] [] rest others x y e here there before earlier = cc
  one_front [] (b ∷ g) rest others x y e here there before earlier =
      let same : x ≡ b = cc in
      absurd (earlier 0 b (omega arith) (subst P same here))
  one_front (a ∷ f) [] rest others x y e here there before earlier =
      let same : y ≡ a = cc in
      absurd (before 0 a (omega arith) (subst P same there))
  one_front (a ∷ f) (b ∷ g) rest others x y e here there before earlier =
      let tails : f ++ x ∷ rest ≡ g ++ y ∷ others = cc in
      one_front f g rest others x y tails here there (λ k d within. before (suc k) d (omega arith)) (λ k d within. earlier (suc k) d (omega arith))

  pub one_first : (all : List A) (x y : A) → IsFirst P all x → IsFirst P all y → x ≡ y
  one_first all x y first other = one_front first.front other.front first.rest other.rest x y (sym first.parts ∙ other.parts) first.here other.here first.before other.before
