-- The arrays, pins and registers that a machine shows.
use Rattle.std.proofs.Common.{◌≡◌, ◌≢◌, ◌⊎◌, ◌+◌, ◌-◌, ◌^◌, ℕ, suc, List, [], ◌∷◌, ◌++◌, Option, None, Some, map, min, filter_map, refl, sym, ap, ◌∙◌, arith, subst, inl, inr, ⊎_elim}
use Rattle.std.specs.Prelude.{slice_get, option_map}
use Rattle.std.specs.List.{AllByRecursion}
use Rattle.std.proofs.lemmas.List.Elements.{All-append, All-from_recursion}
use Rattle.std.proofs.lemmas.List.Kept.{AllPairs-cons}
use Rattle.lisa_tree.specs.Descriptions as trees
use Rattle.lisa_tree.specs.Descriptions.{ResourceTree, DescriptionTree}
use Rattle.lisa_machine.specs.lisa_engine.declared.parts.Item.{Item}
use Rattle.lisa_machine.specs.lisa_engine.declared.parts.ArrayItem.{ArrayItem}
use Rattle.lisa_tree.specs.Resources.{resource_at}
use Rattle.lisa_machine.specs.machine_parts.Parts.{array_in, arrays_of, pin_in, pins_of, register_in, registers_of}
use Rattle.lisa_machine.specs.name_checks.Doubled.{duplicate}
use Rattle.lisa_machine.specs.shape_checks.Shapes.{bad_width, bad_depth}
use Rattle.lisa_machine.specs.Freedom.{IsFree}
use Rattle.lisa_machine.specs.Distinctness.{AreDistinct, name_of}
use Rattle.lisa_machine.specs.Resolving.{IsDepth, FitsResource}
use Rattle.lisa_machine.proofs.Distinct.{distinct_found, resource_found}
use Rattle.lisa_machine.proofs.Resolved.{resource_fits}
use Rattle.use_promises.specs.Showing.{FitsArray, FitsItem, FitsShown}

all_of : {X : Type 0} (P : X → Type 0) (xs : List X) → ((k : ℕ) (x : X) → slice_get xs k ≡ Some x → P x) → AllByRecursion P xs
all_of P [] f = tt
all_of P (x ∷ xs) f = (f 0 x refl, all_of P xs (λ k y e. f (suc k) y e))

-- ---- lists of what is kept

module _ {Y : Type 0} (keep : ResourceTree → Option Y) where
  all_kept : (P : Y → Type 0) → ((r : ResourceTree) (y : Y) → keep r ≡ Some y → FitsResource r → P y) → (xs : List ResourceTree) → AllByRecursion FitsResource xs → AllByRecursion P (filter_map keep xs)
  all_kept P f [] h = tt
  all_kept P f (r ∷ rest) h = by (all_kept P f rest h.1) (keep r) refl
    where
      by : AllByRecursion P (filter_map keep rest) → (k : Option Y) → keep r ≡ k → AllByRecursion P (filter_map keep (r ∷ rest))
      by more None is = let same : filter_map keep (r ∷ rest) ≡ filter_map keep rest = cc is in subst (AllByRecursion P) (sym same) more
      by more (Some y) is = let same : filter_map keep (r ∷ rest) ≡ y ∷ filter_map keep rest = cc is in subst (AllByRecursion P) (sym same) (f r y is h.0, more)

  module _ (name : Y → List ℕ) where
    abbrev key : ResourceTree → Option (List ℕ)
    key r = option_map name (keep r)

    names_kept : (xs : List ResourceTree) → filter_map key xs ≡ map name (filter_map keep xs)
    names_kept [] = refl
    names_kept (r ∷ rest) = by (names_kept rest) (keep r) refl
      where
        by : filter_map key rest ≡ map name (filter_map keep rest) → (k : Option Y) → keep r ≡ k → filter_map key (r ∷ rest) ≡ map name (filter_map keep (r ∷ rest))
        by more None is =
            let left : filter_map key (r ∷ rest) ≡ filter_map key rest = cc is in
            let right : filter_map keep (r ∷ rest) ≡ filter_map keep rest = cc is in
            left ∙ more ∙ sym (ap (map name) right)
        by more (Some y) is =
            let left : filter_map key (r ∷ rest) ≡ name y ∷ filter_map key rest = cc is in
            let right : filter_map keep (r ∷ rest) ≡ y ∷ filter_map keep rest = cc is in
            left ∙ ap (λ (ns : List (List ℕ)). name y ∷ ns) more ∙ sym (ap (map name) right)

    kept_distinct : (d : DescriptionTree) → IsFree (duplicate d) d → ((r : ResourceTree) (y : Y) → keep r ≡ Some y → name_of r ≡ Some (name y)) → AreDistinct (map name (filter_map keep d.resources))
    kept_distinct d free named = subst AreDistinct (names_kept d.resources) (distinct_found key (resource_at d) 0 d.resources found)
      where
        of_key : (r : ResourceTree) (n : List ℕ) (k : Option Y) → keep r ≡ k → option_map name k ≡ Some n → name_of r ≡ Some n
        of_key r n None is e = absurd (cc e)
        of_key r n (Some y) is e = named r y is ∙ e

        found : (i : ℕ) (r : ResourceTree) (n : List ℕ) → slice_get d.resources i ≡ Some r → key r ≡ Some n → resource_at d n ≡ Some (0 + i)
        found i r n at is = resource_found d free i r n at (of_key r n (keep r) refl is) ∙ ap (λ (k : ℕ). Some k) (let number : i ≡ 0 + i = omega arith in number)

-- ---- two lists of names

abbrev IsAmongNames : List ℕ → List (List ℕ) → Type 0
IsAmongNames n [] = ⊥
IsAmongNames n (m ∷ rest) = (n ≡ m) ⊎ IsAmongNames n rest

either_names : (n : List ℕ) (xs ys : List (List ℕ)) → IsAmongNames n (xs ++ ys) → IsAmongNames n xs ⊎ IsAmongNames n ys
either_names n [] ys h = inr h
either_names n (x ∷ xs) ys (inl e) = inl (inl e)
either_names n (x ∷ xs) ys (inr h) = ⊎_elim (λ l. inl (inr l)) (λ r. inr r) (either_names n xs ys h)

none_among : (n : List ℕ) (ys : List (List ℕ)) → (IsAmongNames n ys → ⊥) → AllByRecursion (λ m. n ≢ m) ys
none_among n [] f = tt
none_among n (y ∷ ys) f = ((λ e. f (inl e)), none_among n ys (λ h. f (inr h)))

both_distinct : (xs ys : List (List ℕ)) → AreDistinct xs → AreDistinct ys → ((n : List ℕ) → IsAmongNames n xs → IsAmongNames n ys → ⊥) → AreDistinct (xs ++ ys)
both_distinct [] ys h k f = k
both_distinct (x ∷ xs) ys h k f =
    AllPairs-cons (λ n m. n ≢ m) x (xs ++ ys)
    (All-append (λ m. x ≢ m) xs ys (λ i v l. h 0 (suc i) v (omega arith) (omega (arith, l))) (All-from_recursion (λ m. x ≢ m) ys (none_among x ys (λ b. f x (inl refl) b))))
    (both_distinct xs ys (λ i j v l m. h (suc i) (suc j) v (omega (arith, l)) (omega (arith, m))) k (λ n a b. f n (inr a) b))

-- the resource that a name is from
record From {Y : Type 0} (keep : ResourceTree → Option Y) (name : Y → List ℕ) (xs : List ResourceTree) (n : List ℕ) : Type 0 where
  pub number : ℕ
  pub resource : ResourceTree
  pub at : slice_get xs number ≡ Some resource
  pub kept : Y
  pub is : keep resource ≡ Some kept
  pub named : n ≡ name kept

module _ {Y : Type 0} (keep : ResourceTree → Option Y) (name : Y → List ℕ) where
  from : (n : List ℕ) (xs : List ResourceTree) → IsAmongNames n (map name (filter_map keep xs)) → From keep name xs n
  from n [] h = absurd h
  from n (r ∷ rest) h = by (λ g. onward (from n rest g)) (keep r) refl
    where
      onward : From keep name rest n → From keep name (r ∷ rest) n
      onward f = record { number = suc f.number; resource = f.resource; at = f.at; kept = f.kept; is = f.is; named = f.named }

      by : (IsAmongNames n (map name (filter_map keep rest)) → From keep name (r ∷ rest) n) → (k : Option Y) → keep r ≡ k → From keep name (r ∷ rest) n
      by more None is = let same : filter_map keep (r ∷ rest) ≡ filter_map keep rest = cc is in more (subst (λ (ys : List Y). IsAmongNames n (map name ys)) same h)
      by more (Some y) is =
          let same : filter_map keep (r ∷ rest) ≡ y ∷ filter_map keep rest = cc is in
          ⊎_elim (λ e. record { number = 0; resource = r; at = refl; kept = y; is = is; named = e }) more (subst (λ (ys : List Y). IsAmongNames n (map name ys)) same h)

-- what two lists keep of different resources has different names
apart : (d : DescriptionTree) → IsFree (duplicate d) d → {Y Z : Type 0} (keep : ResourceTree → Option Y) (name : Y → List ℕ) → ((r : ResourceTree) (y : Y) → keep r ≡ Some y → name_of r ≡ Some (name y))
    → (other : ResourceTree → Option Z) (title : Z → List ℕ) → ((r : ResourceTree) (z : Z) → other r ≡ Some z → name_of r ≡ Some (title z))
    → ((r : ResourceTree) (y : Y) (z : Z) → keep r ≡ Some y → other r ≡ Some z → ⊥)
    → (n : List ℕ) → IsAmongNames n (map name (filter_map keep d.resources)) → IsAmongNames n (map title (filter_map other d.resources)) → ⊥
apart d free {Y = Y} {Z = Z} keep name named other title titled never n a b =
    let f = from keep name n d.resources a in
    let g = from other title n d.resources b in
    let first : resource_at d n ≡ Some f.number = resource_found d free f.number f.resource n f.at (named f.resource f.kept f.is ∙ ap (λ (m : List ℕ). Some m) (sym f.named)) in
    let second : resource_at d n ≡ Some g.number = resource_found d free g.number g.resource n g.at (titled g.resource g.kept g.is ∙ ap (λ (m : List ℕ). Some m) (sym g.named)) in
    let same : f.resource ≡ g.resource = one f.resource g.resource (sym f.at ∙ ap (slice_get d.resources) (number f.number g.number (sym first ∙ second)) ∙ g.at) in
    never f.resource f.kept g.kept f.is (ap other same ∙ g.is)
  where
    number : (x y : ℕ) → Some x ≡ Some y → x ≡ y
    number x y e = cc e

    one : (x y : ResourceTree) → Some x ≡ Some y → x ≡ y
    one x y e = cc e

-- ---- arrays

array_named : (r : ResourceTree) (a : ArrayItem) → array_in r ≡ Some a → name_of r ≡ Some a.name
array_named (trees.Register word shape n (Some depth)) a e = cc e
array_named (trees.Memory word shape n depth) a e = cc e
array_named (trees.Register word shape n None) a e = absurd (cc e)
array_named (trees.Clocked word shape n) a e = absurd (cc e)
array_named (trees.Pin shape n) a e = absurd (cc e)
array_named (trees.Pipeline n stages) a e = absurd (cc e)
array_named (trees.Fields pipe fields) a e = absurd (cc e)

whole_depth : (depth : ℕ) → IsDepth depth → IsDepth (min depth (2 ^ 32 - 1))
whole_depth depth h = let most = h.2 in let same : min depth (2 ^ 32 - 1) ≡ depth = omega (arith, most) in subst IsDepth (sym same) h

array_fits : (r : ResourceTree) (a : ArrayItem) → array_in r ≡ Some a → FitsResource r → FitsArray a
array_fits (trees.Register word shape n (Some depth)) a e h = let same : record { name = n; width = shape.width; depth = min depth (2 ^ 32 - 1) } ≡ a = cc e in subst FitsArray same (h.0, whole_depth depth h.1)
array_fits (trees.Memory word shape n depth) a e h = let same : record { name = n; width = shape.width; depth = min depth (2 ^ 32 - 1) } ≡ a = cc e in subst FitsArray same (h.0, whole_depth depth h.1)
array_fits (trees.Register word shape n None) a e h = absurd (cc e)
array_fits (trees.Clocked word shape n) a e h = absurd (cc e)
array_fits (trees.Pin shape n) a e h = absurd (cc e)
array_fits (trees.Pipeline n stages) a e h = absurd (cc e)
array_fits (trees.Fields pipe fields) a e h = absurd (cc e)

-- ---- pins and registers

pin_named : (r : ResourceTree) (i : Item) → pin_in r ≡ Some i → name_of r ≡ Some i.name
pin_named (trees.Pin shape n) i e = cc e
pin_named (trees.Register word shape n depth) i e = absurd (cc e)
pin_named (trees.Clocked word shape n) i e = absurd (cc e)
pin_named (trees.Memory word shape n depth) i e = absurd (cc e)
pin_named (trees.Pipeline n stages) i e = absurd (cc e)
pin_named (trees.Fields pipe fields) i e = absurd (cc e)

pin_fits : (r : ResourceTree) (i : Item) → pin_in r ≡ Some i → FitsResource r → FitsItem i
pin_fits (trees.Pin shape n) i e h = let same : record { name = n; width = shape.width } ≡ i = cc e in subst FitsItem same h
pin_fits (trees.Register word shape n depth) i e h = absurd (cc e)
pin_fits (trees.Clocked word shape n) i e h = absurd (cc e)
pin_fits (trees.Memory word shape n depth) i e h = absurd (cc e)
pin_fits (trees.Pipeline n stages) i e h = absurd (cc e)
pin_fits (trees.Fields pipe fields) i e h = absurd (cc e)

register_named : (r : ResourceTree) (i : Item) → register_in r ≡ Some i → name_of r ≡ Some i.name
register_named (trees.Register word shape n None) i e = cc e
register_named (trees.Clocked word shape n) i e = cc e
register_named (trees.Register word shape n (Some depth)) i e = absurd (cc e)
register_named (trees.Memory word shape n depth) i e = absurd (cc e)
register_named (trees.Pin shape n) i e = absurd (cc e)
register_named (trees.Pipeline n stages) i e = absurd (cc e)
register_named (trees.Fields pipe fields) i e = absurd (cc e)

register_fits : (r : ResourceTree) (i : Item) → register_in r ≡ Some i → FitsResource r → FitsItem i
register_fits (trees.Register word shape n None) i e h = let same : record { name = n; width = shape.width } ≡ i = cc e in subst FitsItem same h.0
register_fits (trees.Clocked word shape n) i e h = let same : record { name = n; width = shape.width } ≡ i = cc e in subst FitsItem same h
register_fits (trees.Register word shape n (Some depth)) i e h = absurd (cc e)
register_fits (trees.Memory word shape n depth) i e h = absurd (cc e)
register_fits (trees.Pin shape n) i e h = absurd (cc e)
register_fits (trees.Pipeline n stages) i e h = absurd (cc e)
register_fits (trees.Fields pipe fields) i e h = absurd (cc e)

-- ---- no resource is shown in two lists

array_no_pin : (r : ResourceTree) (y : ArrayItem) (z : Item) → array_in r ≡ Some y → pin_in r ≡ Some z → ⊥
array_no_pin (trees.Register word shape n None) y z e f = absurd (cc e)
array_no_pin (trees.Register word shape n (Some depth)) y z e f = absurd (cc f)
array_no_pin (trees.Clocked word shape n) y z e f = absurd (cc e)
array_no_pin (trees.Memory word shape n depth) y z e f = absurd (cc f)
array_no_pin (trees.Pin shape n) y z e f = absurd (cc e)
array_no_pin (trees.Pipeline n stages) y z e f = absurd (cc e)
array_no_pin (trees.Fields pipe fields) y z e f = absurd (cc e)

array_no_register : (r : ResourceTree) (y : ArrayItem) (z : Item) → array_in r ≡ Some y → register_in r ≡ Some z → ⊥
array_no_register (trees.Register word shape n None) y z e f = absurd (cc e)
array_no_register (trees.Register word shape n (Some depth)) y z e f = absurd (cc f)
array_no_register (trees.Clocked word shape n) y z e f = absurd (cc e)
array_no_register (trees.Memory word shape n depth) y z e f = absurd (cc f)
array_no_register (trees.Pin shape n) y z e f = absurd (cc e)
array_no_register (trees.Pipeline n stages) y z e f = absurd (cc e)
array_no_register (trees.Fields pipe fields) y z e f = absurd (cc e)

pin_no_register : (r : ResourceTree) (y : Item) (z : Item) → pin_in r ≡ Some y → register_in r ≡ Some z → ⊥
pin_no_register (trees.Register word shape n None) y z e f = absurd (cc e)
pin_no_register (trees.Register word shape n (Some depth)) y z e f = absurd (cc e)
pin_no_register (trees.Clocked word shape n) y z e f = absurd (cc e)
pin_no_register (trees.Memory word shape n depth) y z e f = absurd (cc e)
pin_no_register (trees.Pin shape n) y z e f = absurd (cc f)
pin_no_register (trees.Pipeline n stages) y z e f = absurd (cc e)
pin_no_register (trees.Fields pipe fields) y z e f = absurd (cc e)

abbrev array_names : DescriptionTree → List (List ℕ)
array_names d = map (λ (a : ArrayItem). a.name) (arrays_of d)

abbrev pin_names : DescriptionTree → List (List ℕ)
pin_names d = map (λ (i : Item). i.name) (pins_of d)

abbrev register_names : DescriptionTree → List (List ℕ)
register_names d = map (λ (i : Item). i.name) (registers_of d)

module _ (d : DescriptionTree) (free : IsFree (duplicate d) d) where
  pins_apart : (n : List ℕ) → IsAmongNames n (pin_names d) → IsAmongNames n (register_names d) → ⊥
  pins_apart n a b = apart d free pin_in (λ (i : Item). i.name) pin_named register_in (λ (i : Item). i.name) register_named pin_no_register n a b

  arrays_apart : (n : List ℕ) → IsAmongNames n (array_names d) → IsAmongNames n (pin_names d ++ register_names d) → ⊥
  arrays_apart n a b = ⊎_elim
      (λ h. apart d free array_in (λ (x : ArrayItem). x.name) array_named pin_in (λ (i : Item). i.name) pin_named array_no_pin n a h)
      (λ h. apart d free array_in (λ (x : ArrayItem). x.name) array_named register_in (λ (i : Item). i.name) register_named array_no_register n a h)
      (either_names n (pin_names d) (register_names d) b)

  all_distinct : AreDistinct (array_names d ++ (pin_names d ++ register_names d))
  all_distinct =
      both_distinct (array_names d) (pin_names d ++ register_names d) (kept_distinct array_in (λ (a : ArrayItem). a.name) d free array_named)
      (both_distinct (pin_names d) (register_names d) (kept_distinct pin_in (λ (i : Item). i.name) d free pin_named) (kept_distinct register_in (λ (i : Item). i.name) d free register_named) pins_apart)
      arrays_apart

  pub shown_fits : IsFree bad_width d → IsFree bad_depth d → FitsShown d
  shown_fits widths depths = fits (all_of FitsResource d.resources (λ k r is. resource_fits d widths depths k r is))
    where
      fits : AllByRecursion FitsResource d.resources → FitsShown d
      fits all = record {
        arrays = all_kept array_in FitsArray array_fits d.resources all;
        pins = all_kept pin_in FitsItem pin_fits d.resources all;
        registers = all_kept register_in FitsItem register_fits d.resources all;
        names = all_distinct;
      }
