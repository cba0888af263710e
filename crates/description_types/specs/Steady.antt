-- The rules of types and of what may be assigned give more from a larger table.
use Rattle.std.proofs.Common.{◌≡◌, ◌&&◌, ◌||◌, ℕ, Bool, true, false, List, [], Option, None, Some, cond, not, nat_eq, refl, ap, ap₂, sym, ◌∙◌}
use Rattle.std.specs.Option.{is_none}
use Rattle.std.proofs.lemmas.Bool.{and_parts, or_parts, eqb-true}
use Rattle.lisa_words.specs.declared.words.Kind.{Kind}
use Rattle.lisa_words.specs.declared.words.Kind.TheVariants as kinds
use Rattle.lisa_tree.specs.declared.tokens.Shape.{Shape}
use Rattle.lisa_words.specs.declared.binary.Operator.{Operator}
use Rattle.lisa_words.specs.declared.binary.Operator.TheVariants as operators
use Rattle.lisa_tree.specs.Expressions as exprs
use Rattle.lisa_tree.specs.Expressions.{ExprTree}
use Rattle.lisa_tree.specs.Descriptions.{DescriptionTree}
use Rattle.description_places.specs.Literals.{literal}
use Rattle.lisa_tree.specs.declared.declared.Meaning.{Meaning}
use Rattle.lisa_tree.specs.declared.declared.Meaning.TheVariants as meanings
use Rattle.lisa_tree.specs.Operations.{expression_in, sections_at}
use Rattle.lisa_tree.specs.Declarations.{plain_at}
use Rattle.lisa_tree.specs.Meanings.{meaning}
use Rattle.lisa_tree.specs.Paths.{entry_node}
use Rattle.least_fixed_points.specs.Settles.{IsWithin}
use Rattle.description_types.specs.declared.values.TypeOf.{TypeOf}
use Rattle.description_types.specs.declared.values.TypeOf.TheVariants as types
use Rattle.description_types.specs.declared.values.Assignable.{Assignable}
use Rattle.description_types.specs.declared.values.Assignable.TheVariants as assigns
use Rattle.description_types.specs.Shapes.{shape_of, same_kind, same_shape, paired}
use Rattle.description_types.specs.Types.{Types, typed, meant_type, two_type, type_of}
use Rattle.description_types.specs.Refused.{meant_refused, is_refused, meant_open, is_open, two_rest, rests_on, rests_on_refused, rests_on_open}
use Rattle.description_types.specs.Facts.{any_open, IsSteady}
use Rattle.description_types.specs.Kinds.{as_type, expression_type, both_types, lacks_expression, is_refused_type, any_refused, unrefused, choice_type, type_fact, settled_assignable, meant_assignable, value_assignable, expression_assignable, both_assignable, choice_assignable, assignable_fact}
use Rattle.description_types.specs.Larger.{Less, none_less, same_less, strict_less, within_less, same_known, none_open, same_any, same_together}

-- what is refused where a use is
unless_refused : {T : Type 0} (refused : Bool) (own x y : Option T) → Less x y → Less (cond refused own x) (cond refused own y)
unless_refused true own x y l = same_less _
unless_refused false own x y l = l

-- what is there once nothing is open
once_closed : {T : Type 0} (some_open still : Bool) (x y : Option T) → (some_open ≡ false → still ≡ false) → Less x y → Less (cond some_open None x) (cond still None y)
once_closed true still x y off l = none_less _
once_closed false still x y off l = record { keeps = λ t e. ap (λ (b : Bool). cond b None y) (off refl) ∙ l.keeps t e }

-- ---- where nothing is open

both_off : (a b a' b' : Bool) → (a ≡ false → a' ≡ false) → (b ≡ false → b' ≡ false) → (a || b) ≡ false → (a' || b') ≡ false
both_off a b a' b' f g e = let parts = or_parts a b e in ap₂ (λ (x y : Bool). x || y) (f parts.0) (g parts.1)

pair_same : (a b : Option ℕ) (x y x' y' : Option Shape) (p q p' q' : Bool) → (p ≡ false → p' ≡ false → x ≡ x') → (q ≡ false → q' ≡ false → y ≡ y') → (p || q) ≡ false → (p' || q') ≡ false → paired a b x y ≡ paired a b x' y'
pair_same a b x y x' y' p q p' q' f g e h =
    let open_parts = or_parts p q e in
    let refused_parts = or_parts p' q' h in
    ap₂ (paired a b) (f open_parts.0 refused_parts.0) (g open_parts.1 refused_parts.1)

two_parts : (operator : Operator) (a b a' b' : Bool) → (a ≡ false → a' ≡ false) → (b ≡ false → b' ≡ false) → two_rest operator a b ≡ false → two_rest operator a' b' ≡ false
two_parts operators.Left a b a' b' f g e = f e
two_parts operators.Right a b a' b' f g e = f e
two_parts operators.Add a b a' b' f g e = both_off a b a' b' f g e
two_parts operators.Sub a b a' b' f g e = both_off a b a' b' f g e
two_parts operators.Mul a b a' b' f g e = both_off a b a' b' f g e
two_parts operators.And a b a' b' f g e = both_off a b a' b' f g e
two_parts operators.Or a b a' b' f g e = both_off a b a' b' f g e
two_parts operators.Xor a b a' b' f g e = both_off a b a' b' f g e
two_parts _ a b a' b' f g e = refl

-- what holds of fewer parts is rested on less
rests_less : (holds more : ExprTree → Bool) → ((e : ExprTree) → holds e ≡ false → more e ≡ false) → (e : ExprTree) → rests_on holds e ≡ false → rests_on more e ≡ false
rests_less holds more less (exprs.Complement a) e = rests_less holds more less a e
rests_less holds more less (exprs.Two operator a b) e = two_parts operator _ _ _ _ (rests_less holds more less a) (rests_less holds more less b) e
rests_less holds more less (exprs.Choose c a b) e = both_off (rests_on holds a) (rests_on holds b) _ _ (rests_less holds more less a) (rests_less holds more less b) e
rests_less holds more less (exprs.Number v base) e = less _ e
rests_less holds more less (exprs.Named n) e = less _ e
rests_less holds more less (exprs.Element n index) e = less _ e
rests_less holds more less (exprs.Input field) e = less _ e
rests_less holds more less (exprs.Output field) e = less _ e
rests_less holds more less (exprs.Boundary pipe before after field) e = less _ e
rests_less holds more less exprs.Decoded e = less _ e
rests_less holds more less (exprs.Cast shape a) e = less _ e
rests_less holds more less (exprs.Negate a) e = less _ e

-- operands that are rested on have the same type
two_same : (operator : Operator) (a b : Option ℕ) (x y x' y' : Option Shape) (p q p' q' : Bool) → (p ≡ false → p' ≡ false → x ≡ x') → (q ≡ false → q' ≡ false → y ≡ y') → two_rest operator p q ≡ false → two_rest operator p' q' ≡ false
    → two_type operator a b x y ≡ two_type operator a b x' y'
two_same operators.Left a b x y x' y' p q p' q' f g e h = f e h
two_same operators.Right a b x y x' y' p q p' q' f g e h = f e h
two_same operators.Add a b x y x' y' p q p' q' f g e h = pair_same a b x y x' y' p q p' q' f g e h
two_same operators.Sub a b x y x' y' p q p' q' f g e h = pair_same a b x y x' y' p q p' q' f g e h
two_same operators.Mul a b x y x' y' p q p' q' f g e h = pair_same a b x y x' y' p q p' q' f g e h
two_same operators.And a b x y x' y' p q p' q' f g e h = pair_same a b x y x' y' p q p' q' f g e h
two_same operators.Or a b x y x' y' p q p' q' f g e h = pair_same a b x y x' y' p q p' q' f g e h
two_same operators.Xor a b x y x' y' p q p' q' f g e h = pair_same a b x y x' y' p q p' q' f g e h
two_same _ a b x y x' y' p q p' q' f g e h = refl

-- what is closed stays so
module _ {T : Type 0} (d : DescriptionTree) (known table : ℕ → Option T) (within : IsWithin known table) where
  meant_closes : (unfit : ℕ → Bool) (m : Meaning) → meant_open unfit known d m ≡ false → meant_open unfit table d m ≡ false
  meant_closes unfit meanings.Nothing e = refl
  meant_closes unfit (meanings.Resource k) e = refl
  meant_closes unfit (meanings.Declared i) e = one_closes (unfit i) (known (entry_node d i)) (table (entry_node d i)) (within_less known table within (entry_node d i)) e
    where
      one_closes : (apart : Bool) (x y : Option T) → Less x y → (not apart && is_none x) ≡ false → (not apart && is_none y) ≡ false
      one_closes true x y l e = refl
      one_closes false x y l e = sym (ap is_none (same_known x y l e)) ∙ e

  closes : (unfit : ℕ → Bool) (o : ℕ) (e : ExprTree) → is_open unfit known d o e ≡ false → is_open unfit table d o e ≡ false
  closes unfit o (exprs.Named n) e = meant_closes unfit (meaning d o n) e
  closes unfit o _ e = refl

module _ (d : DescriptionTree) (known table : Types) (within : IsWithin known table) where
  -- where nothing that it rests on is open, or refused, an expression has the same type in both tables
  meant_same : (unfit : ℕ → Bool) (m : Meaning) → meant_open unfit known d m ≡ false → meant_refused unfit m ≡ false → meant_type known d m ≡ meant_type table d m
  meant_same unfit meanings.Nothing e h = refl
  meant_same unfit (meanings.Resource k) e h = refl
  meant_same unfit (meanings.Declared i) e h =
      let closed : is_none (known (entry_node d i)) ≡ false = ap (λ (b : Bool). not b && is_none (known (entry_node d i))) (sym h) ∙ e in
      ap typed (same_known (known (entry_node d i)) (table (entry_node d i)) (within_less known table within (entry_node d i)) closed)

  type_same : (unfit : ℕ → Bool) (o : ℕ) (e : ExprTree) → rests_on_open unfit known d o e ≡ false → rests_on_refused unfit d o e ≡ false → type_of known d o [] e ≡ type_of table d o [] e
  type_same unfit o (exprs.Named n) e h = meant_same unfit (meaning d o n) e h
  type_same unfit o (exprs.Complement a) e h = type_same unfit o a e h
  type_same unfit o (exprs.Two operator a b) e h =
      two_same operator (literal a) (literal b) _ _ _ _ (rests_on_open unfit known d o a) (rests_on_open unfit known d o b) (rests_on_refused unfit d o a) (rests_on_refused unfit d o b) (type_same unfit o a) (type_same unfit o b) e h
  type_same unfit o (exprs.Choose c a b) e h =
      pair_same (literal a) (literal b) _ _ _ _ (rests_on_open unfit known d o a) (rests_on_open unfit known d o b) (rests_on_refused unfit d o a) (rests_on_refused unfit d o b) (type_same unfit o a) (type_same unfit o b) e h
  type_same unfit o (exprs.Number v base) e h = refl
  type_same unfit o (exprs.Element n index) e h = refl
  type_same unfit o (exprs.Input field) e h = refl
  type_same unfit o (exprs.Output field) e h = refl
  type_same unfit o (exprs.Boundary pipe before after field) e h = refl
  type_same unfit o exprs.Decoded e h = refl
  type_same unfit o (exprs.Cast shape a) e h = refl
  type_same unfit o (exprs.Negate a) e h = refl

  settled_same : (refused : Bool) (x y : TypeOf) → (refused ≡ false → x ≡ y) → Some (cond refused types.Refused x) ≡ Some (cond refused types.Refused y)
  settled_same true x y e = refl
  settled_same false x y e = ap (λ (t : TypeOf). Some t) (e refl)

  unless_open : (some_open still : Bool) (x y : Option TypeOf) → (some_open ≡ false → still ≡ false) → (some_open ≡ false → x ≡ y) → Less (cond some_open None x) (cond still None y)
  unless_open true still x y off same = none_less _
  unless_open false still x y off same = record { keeps = λ t e. ap (λ (b : Bool). cond b None y) (off refl) ∙ sym (same refl) ∙ e }

  expression_less : (unfit : ℕ → Bool) (o : ℕ) (e : Option ExprTree) → Less (expression_type unfit known d o e) (expression_type unfit table d o e)
  expression_less unfit o None = same_less _
  expression_less unfit o (Some e) =
      unless_open (rests_on_open unfit known d o e) (rests_on_open unfit table d o e) _ _
      (rests_less (is_open unfit known d o) (is_open unfit table d o) (closes d known table within unfit o) e)
      (λ closed. settled_same (rests_on_refused unfit d o e) _ _ (λ fit. ap as_type (type_same unfit o e closed fit)))

-- ---- alternatives of a type

kinds_same : (k l : Kind) → same_kind k l ≡ true → k ≡ l
kinds_same kinds.Unsigned kinds.Unsigned e = refl
kinds_same kinds.Unsigned kinds.Signed e = absurd (cc e)
kinds_same kinds.Signed kinds.Unsigned e = absurd (cc e)
kinds_same kinds.Signed kinds.Signed e = refl

pub shapes_same : (s t : Shape) → same_shape s t ≡ true → s ≡ t
shapes_same s t e =
    let parts = and_parts (same_kind s.kind t.kind) (nat_eq s.width t.width) e in
    ap₂ shape_of (kinds_same s.kind t.kind parts.0) (eqb-true s.width t.width parts.1)

choice_type_less : (lacks some_open still refused more : Bool) (k m : Option TypeOf) → (some_open ≡ false → still ≡ false) → (some_open ≡ false → refused ≡ more) → (some_open ≡ false → k ≡ m)
    → Less (choice_type lacks some_open refused k) (choice_type lacks still more m)
choice_type_less true some_open still refused more k m off same alike = same_less _
choice_type_less false true still refused more k m off same alike = none_less _
choice_type_less false false still refused more k m off same alike = record {
  keeps = λ t e.
      ap (λ (b : Bool). choice_type false b more m) (off refl) ∙ ap₂ (choice_type false false) (sym (same refl)) (sym (alike refl)) ∙ e;
}

pub types_steady : (d : DescriptionTree) (unfit : ℕ → Bool) → IsSteady (type_fact d unfit)
types_steady d unfit = record {
  operations = λ known table within o t e. (expression_less d known table within unfit o (expression_in (sections_at d o))).keeps t e;
  choices = λ known table within c t e.
      (choice_type_less (lacks_expression d (plain_at d c)) (any_open known (plain_at d c)) (any_open table (plain_at d c)) (any_refused known (plain_at d c)) (any_refused table (plain_at d c)) _ _
      (none_open known table (within_less known table within) (plain_at d c))
      (same_any known table (within_less known table within) is_refused_type (plain_at d c))
      (same_together known table (within_less known table within) both_types unrefused (plain_at d c))).keeps t e;
}

module _ (d : DescriptionTree) (known table : ℕ → Option Assignable) (within : IsWithin known table) where
  place_less : (m : Meaning) → Less (meant_assignable known d m) (meant_assignable table d m)
  place_less meanings.Nothing = same_less _
  place_less (meanings.Resource k) = same_less _
  place_less (meanings.Declared i) = strict_less settled_assignable refl _ _ (within_less known table within (entry_node d i))

  value_less : (o : ℕ) (e : ExprTree) → Less (value_assignable known d o e) (value_assignable table d o e)
  value_less o (exprs.Named n) = place_less (meaning d o n)
  value_less o (exprs.Element n index) = same_less _
  value_less o _ = same_less _

  assigned_less : (apart unfit : ℕ → Bool) (o : ℕ) (e : Option ExprTree) → Less (expression_assignable apart unfit known d o e) (expression_assignable apart unfit table d o e)
  assigned_less apart unfit o None = same_less _
  assigned_less apart unfit o (Some e) =
      once_closed (is_open apart known d o e) (is_open apart table d o e) _ _ (closes d known table within apart o e) (unless_refused (is_refused unfit d o e) _ _ _ (value_less o e))

-- ---- alternatives that may be assigned

choice_assignable_less : (lacks some_open still : Bool) (k m : Option Assignable) → (some_open ≡ false → still ≡ false) → (some_open ≡ false → k ≡ m) → Less (choice_assignable lacks some_open k) (choice_assignable lacks still m)
choice_assignable_less true some_open still k m off alike = same_less _
choice_assignable_less false true still k m off alike = none_less _
choice_assignable_less false false still k m off alike = record { keeps = λ t e. ap₂ (choice_assignable false) (off refl) (sym (alike refl)) ∙ e }

pub assignables_steady : (d : DescriptionTree) (apart unfit : ℕ → Bool) → IsSteady (assignable_fact d apart unfit)
assignables_steady d apart unfit = record {
  operations = λ known table within o t e. (assigned_less d known table within apart unfit o (expression_in (sections_at d o))).keeps t e;
  choices = λ known table within c t e.
      (choice_assignable_less (lacks_expression d (plain_at d c)) (any_open known (plain_at d c)) (any_open table (plain_at d c)) _ _
      (none_open known table (within_less known table within) (plain_at d c))
      (same_together known table (within_less known table within) both_assignable (λ (x : Option Assignable). x) (plain_at d c))).keeps t e;
}
