-- What follows from a table follows from a larger one, and past the last node nothing follows.
use Rattle.std.proofs.Common.{◌≡◌, ◌||◌, ℕ, Bool, false, List, [], ◌∷◌, Option, None, Some, refl, ap, ap₂, sym, ◌∙◌}
use Rattle.std.specs.Prelude.{option_map}
use Rattle.std.specs.Option.{is_none}
use Rattle.std.specs.List.{list_any}
use Rattle.std.proofs.lemmas.Bool.{or_parts}
use Rattle.lisa_tree.specs.Descriptions.{DescriptionTree}
use Rattle.lisa_tree.specs.declared.declared.What.{What}
use Rattle.lisa_tree.specs.declared.declared.What.TheVariants as whats
use Rattle.lisa_tree.specs.Declarations.{declared_at, what_at, above}
use Rattle.lisa_tree.specs.Paths.{Node, Operation, Choosing, Declaring, node_at, choice_node, entry_node}
use Rattle.least_fixed_points.specs.Settles.{IsWithin, IsMonotone}
use Rattle.description_types.specs.Facts.{Fact, together, merged_from, merged, added, known_together, any_open, at_entry, declared_value, reference_value, entry_value, node_value, follows, IsSteady}

-- one has all that another has
pub record Less {T : Type 0} (x y : Option T) : Type 0 where
  pub keeps : (t : T) → x ≡ Some t → y ≡ Some t

module _ {T : Type 0} where
  pub none_less : (y : Option T) → Less None y
  none_less y = record { keeps = λ t e. absurd (cc e) }

  pub same_less : (x : Option T) → Less x x
  same_less x = record { keeps = λ t e. e }

  pub less_then : {x y z : Option T} → Less x y → Less y z → Less x z
  less_then l m = record { keeps = λ t e. m.keeps t (l.keeps t e) }

  pub within_less : (known table : ℕ → Option T) → IsWithin known table → (a : ℕ) → Less (known a) (table a)
  within_less known table w a = record { keeps = w a }

  -- a function of an option that gives nothing for none
  pub strict_less : {U : Type 0} (f : Option T → Option U) → f None ≡ None → (x y : Option T) → Less x y → Less (f x) (f y)
  strict_less f none None y l = record { keeps = λ t e. absurd (cc (sym none ∙ e)) }
  strict_less f none (Some x) y l = record { keeps = λ t e. ap f (l.keeps x refl) ∙ e }

  pub together_less : (f : T → T → T) (x y x' y' : Option T) → Less x x' → Less y y' → Less (together f x y) (together f x' y')
  together_less f None y x' y' l m = none_less _
  together_less f (Some x) None x' y' l m = none_less _
  together_less f (Some x) (Some y) x' y' l m = record { keeps = λ t e. ap₂ (together f) (l.keeps x refl) (m.keeps y refl) ∙ e }

  pub merged_from_less : (f : T → T → T) (value more : ℕ → Option T) → ((a : ℕ) → Less (value a) (more a)) → (all : List ℕ) (x y : Option T) → Less x y → Less (merged_from f value x all) (merged_from f more y all)
  merged_from_less f value more w [] x y l = l
  merged_from_less f value more w (a ∷ rest) x y l = merged_from_less f value more w rest (together f x (value a)) (together f y (more a)) (together_less f x (value a) y (more a) l (w a))

  pub merged_less : (f : T → T → T) (value more : ℕ → Option T) → ((a : ℕ) → Less (value a) (more a)) → (all : List ℕ) → Less (merged f value all) (merged f more all)
  merged_less f value more w [] = same_less _
  merged_less f value more w (a ∷ rest) = merged_from_less f value more w rest (value a) (more a) (w a)

  -- ---- alternatives of which none is open

  pub same_known : (x y : Option T) → Less x y → is_none x ≡ false → x ≡ y
  same_known None y l e = absurd (cc e)
  same_known (Some t) y l e = sym (l.keeps t refl)

  module _ (value more : ℕ → Option T) (less : (a : ℕ) → Less (value a) (more a)) where
    pub none_open : (all : List ℕ) → any_open value all ≡ false → any_open more all ≡ false
    none_open [] e = refl
    none_open (a ∷ rest) e =
        let parts = or_parts (is_none (value a)) (any_open value rest) e in
        ap₂ (λ (x y : Bool). x || y) (sym (ap is_none (same_known (value a) (more a) (less a) parts.0)) ∙ parts.0) (none_open rest parts.1)

    pub same_any : (test : Option T → Bool) (all : List ℕ) → any_open value all ≡ false → list_any (λ a. test (value a)) all ≡ list_any (λ a. test (more a)) all
    same_any test [] e = refl
    same_any test (a ∷ rest) e =
        let parts = or_parts (is_none (value a)) (any_open value rest) e in
        ap₂ (λ (x y : Bool). x || y) (ap test (same_known (value a) (more a) (less a) parts.0)) (same_any test rest parts.1)

    pub same_together : (f : T → T → T) (g : Option T → Option T) (all : List ℕ) → any_open value all ≡ false → known_together f (λ a. g (value a)) all ≡ known_together f (λ a. g (more a)) all
    same_together f g [] e = refl
    same_together f g (a ∷ rest) e =
        let parts = or_parts (is_none (value a)) (any_open value rest) e in
        ap₂ (added f) (ap g (same_known (value a) (more a) (less a) parts.0)) (same_together f g rest parts.1)

  -- ---- nodes

  module _ (d : DescriptionTree) (known table : ℕ → Option T) (within : IsWithin known table) where
    at_entry_less : (i : Option ℕ) → Less (at_entry d known i) (at_entry d table i)
    at_entry_less None = same_less _
    at_entry_less (Some i) = within_less known table within (entry_node d i)

    reference_less : (f : T → T → T) (o : ℕ) (n : Option (List ℕ)) → Less (reference_value d f known o n) (reference_value d f table o n)
    reference_less f o None = same_less _
    reference_less f o (Some n) = merged_less f (declared_value d known n) (declared_value d table n) (λ p. at_entry_less (declared_at d p n)) (above d o)

    child_less : (f : T → T) (c : ℕ) → Less (option_map f (known (choice_node d c))) (option_map f (table (choice_node d c)))
    child_less f c = strict_less (option_map f) refl _ _ (within_less known table within (choice_node d c))

    pub entry_less : (fact : Fact T) (i : ℕ) (what : Option What) → Less (entry_value d fact known i what) (entry_value d fact table i what)
    entry_less fact i None = same_less _
    entry_less fact i (Some (whats.Group c)) = child_less (fact.of_child i) c
    entry_less fact i (Some (whats.Instance c)) = child_less (fact.of_child i) c
    entry_less fact i (Some whats.Label) = same_less _
    entry_less fact i (Some whats.Reference) = reference_less fact.either _ _

    node_less : (fact : Fact T) → IsSteady fact → (node : Node) → Less (node_value d fact known node) (node_value d fact table node)
    node_less fact steady (Operation o) = record { keeps = λ t e. steady.operations known table within o t e }
    node_less fact steady (Choosing c) = record { keeps = λ t e. steady.choices known table within c t e }
    node_less fact steady (Declaring i) = entry_less fact i (what_at d i)

  pub follows_monotone : (d : DescriptionTree) (fact : Fact T) → IsSteady fact → IsMonotone (follows d fact)
  follows_monotone d fact steady known table within a t e = (node_less d known table within fact steady (node_at d a)).keeps t e
