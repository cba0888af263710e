-- The forms of items in their order: alternatives as they are listed, the first child slowest.
use Rattle.std.specs.Prelude.{◌<◌, ℕ, zero, suc, max, List, [], ◌∷◌, map}
use Rattle.std.specs.List.{flat_map}
use Rattle.instruction_trees.specs.Trees.{Item, Fixed, Free, Field, Child, Table, coding, Tree, Done, Pass, Value, Choose, Form, In}

-- where `below` lists the forms of a child's coding
abbrev pub listed : (List Item → List Form) → Table → List Item → List Form
listed below table [] = Done ∷ []
listed below table (Fixed b ∷ items) = map Pass (listed below table items)
listed below table (Free ∷ items) = map Pass (listed below table items)
listed below table (Field n ∷ items) = map (Value tt) (listed below table items)
listed below table (Child ks ∷ items) = flat_map (λ k. flat_map (λ own. map (Choose k own) (listed below table items)) (below (coding table k))) ks

-- those whose children lie at most this deep
abbrev pub forms : ℕ → Table → List Item → List Form
forms zero table items = listed (λ _. []) table items
forms (suc depth) table items = listed (forms depth table) table items

abbrev pub height : {V : Type 0} → Tree V → ℕ
height Done = 0
height (Pass t) = height t
height (Value v t) = height t
height (Choose k own t) = max (suc (height own)) (height t)

pub data Distinct {A : Type 0} : List A → Type 0 where
  none : Distinct []
  more : {x : A} {xs : List A} → (In x xs → ⊥) → Distinct xs → Distinct (x ∷ xs)

-- no group lists an alternative twice
abbrev pub IsOnce : List Item → Type 0
IsOnce [] = Unit {0}
IsOnce (Child ks ∷ items) = Distinct ks × IsOnce items
IsOnce (Fixed b ∷ items) = IsOnce items
IsOnce (Free ∷ items) = IsOnce items
IsOnce (Field n ∷ items) = IsOnce items

-- each alternative of these items has a rank below the bound
abbrev pub AreRankedBelow : (ℕ → ℕ) → ℕ → List Item → Type 0
AreRankedBelow rank bound items = (c : ℕ) (ks : List ℕ) → In (Child ks) items → In c ks → rank c < bound

-- ranks fall from an operation to its children's alternatives
abbrev pub IsRanked : Table → (ℕ → ℕ) → Type 0
IsRanked table rank = (k : ℕ) → AreRankedBelow rank (rank k) (coding table k)
