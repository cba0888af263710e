-- Where ranks fall from each operation to what it activates, further levels unfold to nothing more.
use Rattle.std.proofs.Common.{◌≡◌, ◌<◌, ◌≤◌, ◌+◌, ◌++◌, ℕ, zero, suc, List, [], ◌∷◌, Bool, length, map, refl, sym, ap, ◌∙◌, arith, append_assoc}
use Rattle.std.specs.List.{AllByRecursion}
use Rattle.std.specs.Prelude.{reverse}
use Rattle.std.proofs.lemmas.List.{length-append, reverse-append, append-nil}
use Rattle.lisa_tree.specs.Descriptions.{DescriptionTree}
use Rattle.lisa_tree.specs.Declarations.{choices, plain_at}
use Rattle.lisa_tree.specs.Paths.{node_count}
use Rattle.activation_trees.specs.declared.parts.Occurrence.{Occurrence}
use Rattle.activation_trees.specs.declared.parts.Start.{Start}
use Rattle.activation_trees.specs.Starting.{Activated, activation, alternatives, activated_by, activated, starts}
use Rattle.activation_trees.specs.Unfolding.{child, children, in_turn, unfolded, whole, occurrences, IsUnfolding}

-- ---- lists of which all elements have something

pub all_append : {X : Type 0} (P : X → Type 0) (xs ys : List X) → AllByRecursion P xs → AllByRecursion P ys → AllByRecursion P (xs ++ ys)
all_append P [] ys h i = i
all_append P (x ∷ xs) ys h i = (h.0, all_append P xs ys h.1 i)

pub all_map : {X : Type 0} (P Q : X → Type 0) → ((x : X) → P x → Q x) → (xs : List X) → AllByRecursion P xs → AllByRecursion Q xs
all_map P Q f [] h = tt
all_map P Q f (x ∷ xs) h = (f x h.0, all_map P Q f xs h.1)

pub all_of_map : {X Y : Type 0} (P : Y → Type 0) (g : X → Y) (xs : List X) → AllByRecursion (λ x. P (g x)) xs → AllByRecursion P (map g xs)
all_of_map P g [] h = tt
all_of_map P g (x ∷ xs) h = (h.0, all_of_map P g xs h.1)

-- ---- trees in turn

in_turn_same : (tree other : ℕ → Occurrence → List Occurrence) (xs : List Occurrence) → AllByRecursion (λ x. (n : ℕ) → tree n x ≡ other n x) xs
    → (next : ℕ) → in_turn tree next xs ≡ in_turn other next xs
in_turn_same tree other [] h next = refl
in_turn_same tree other (x ∷ xs) h next =
    ap (λ (l : List Occurrence). l ++ in_turn tree (next + length l) xs) (h.0 next)
    ∙ ap (λ (l : List Occurrence). other next x ++ l) (in_turn_same tree other xs h.1 (next + length (other next x)))

pub in_turn_append : (tree : ℕ → Occurrence → List Occurrence) (xs ys : List Occurrence) (next : ℕ)
    → in_turn tree next (xs ++ ys) ≡ in_turn tree next xs ++ in_turn tree (next + length (in_turn tree next xs)) ys
in_turn_append tree [] ys next = ap (λ (n : ℕ). in_turn tree n ys) (let e : next ≡ next + 0 = omega arith in e)
in_turn_append tree (x ∷ xs) ys next =
    let here = tree next x in
    let behind = in_turn tree (next + length here) xs in
    let e : next + length here + length behind ≡ next + length (here ++ behind) = (let l = length-append here behind in omega (arith, l)) in
    ap (λ (l : List Occurrence). here ++ l) (in_turn_append tree xs ys (next + length here))
    ∙ sym (append_assoc here behind (in_turn tree (next + length here + length behind) ys))
    ∙ ap (λ (n : ℕ). (here ++ behind) ++ in_turn tree n ys) e

-- ---- ranks

-- what an item names chooses among operations of a lower rank
abbrev pub FallsBelow : DescriptionTree → (ℕ → ℕ) → ℕ → Start → Type 0
FallsBelow d rank p s = (s.choice < length (choices d)) × AllByRecursion (λ b. (b < length d.operations) × (rank b < rank p)) (plain_at d s.choice)

pub record Falling (d : DescriptionTree) : Type 0 where
  pub rank : ℕ → ℕ
  pub low : (o : ℕ) → rank o ≤ node_count d
  pub falls : (o : ℕ) → AllByRecursion (FallsBelow d rank o) (starts d o)

module _ (d : DescriptionTree) (f : Falling d) where
  abbrev pub IsLower : ℕ → Activated → Type 0
  IsLower o a = f.rank a.operation < f.rank o

  alternatives_fall : (o : ℕ) (by_root : Bool) (xs : List ℕ) → AllByRecursion (λ b. (b < length d.operations) × (f.rank b < f.rank o)) xs → AllByRecursion (IsLower o) (map (activation by_root) xs)
  alternatives_fall o by_root [] h = tt
  alternatives_fall o by_root (x ∷ xs) h = (h.0.1, alternatives_fall o by_root xs h.1)

  all_fall : (o : ℕ) (all : List Start) → AllByRecursion (FallsBelow d f.rank o) all → AllByRecursion (IsLower o) (activated_by d all)
  all_fall o [] h = tt
  all_fall o (s ∷ rest) h = all_append (IsLower o) (alternatives d s) (activated_by d rest) (alternatives_fall o s.by_root (plain_at d s.choice) h.0.1) (all_fall o rest h.1)

  pub activated_fall : (o : ℕ) → AllByRecursion (IsLower o) (activated d o)
  activated_fall o = all_fall o (starts d o) (f.falls o)

  pub levels_same : (k m : ℕ) (x : Occurrence) → f.rank x.operation < k → f.rank x.operation < m → (next : ℕ) → unfolded k d next x ≡ unfolded m d next x
  levels_same zero m x h i next = absurd (omega arith)
  levels_same (suc k) zero x h i next = absurd (omega arith)
  levels_same (suc k) (suc m) x h i next =
      ap (λ (l : List Occurrence). x ∷ l) (in_turn_same (unfolded k d) (unfolded m d) (children d next x)
      (all_of_map (λ (y : Occurrence). (n : ℕ) → unfolded k d n y ≡ unfolded m d n y) (child d next x) (activated d x.operation)
      (all_map (IsLower x.operation) (λ (a : Activated). (n : ℕ) → unfolded k d n (child d next x a) ≡ unfolded m d n (child d next x a))
      (λ a less n. levels_same k m (child d next x a) (omega (arith, less, h)) (omega (arith, less, i)) n)
      (activated d x.operation) (activated_fall x.operation)))
      (suc next))

  -- the tree below an occurrence, by those below its children
  pub whole_is : (next : ℕ) (x : Occurrence) → whole d next x ≡ x ∷ in_turn (whole d) (suc next) (children d next x)
  whole_is next x =
      let top = f.low x.operation in
      ap (λ (l : List Occurrence). x ∷ l) (in_turn_same (unfolded (node_count d) d) (whole d) (children d next x)
      (all_of_map (λ (y : Occurrence). (n : ℕ) → unfolded (node_count d) d n y ≡ whole d n y) (child d next x) (activated d x.operation)
      (all_map (IsLower x.operation) (λ (a : Activated). (n : ℕ) → unfolded (node_count d) d n (child d next x a) ≡ whole d n (child d next x a))
      (λ a less n. levels_same (node_count d) (suc (node_count d)) (child d next x a) (omega (arith, less, top)) (omega (arith, less, top)) n)
      (activated d x.operation) (activated_fall x.operation)))
      (suc next))

  -- further levels change nothing
  pub no_more : (levels : ℕ) (x : Occurrence) (next : ℕ) → node_count d < levels → unfolded levels d next x ≡ whole d next x
  no_more levels x next h = let top = f.low x.operation in levels_same levels (suc (node_count d)) x (omega (arith, top, h)) (omega (arith, top)) next

  -- ---- what is found, and what is left

  opened : (work : List Occurrence) (x : Occurrence) → reverse (work ++ x ∷ []) ≡ x ∷ reverse work
  opened work x = reverse-append work (x ∷ [])

  -- the first of what is left, its children, and the rest
  pub next_unfolded : (found work : List Occurrence) (x : Occurrence) (left : List Occurrence) → IsUnfolding d found (work ++ x ∷ []) → reverse left ≡ children d (length found) x ++ reverse work
      → IsUnfolding d (found ++ x ∷ []) left
  next_unfolded found work x left all is =
      let n = length found in
      let below = in_turn (whole d) (suc n) (children d n x) in
      let count : length (found ++ x ∷ []) ≡ suc n = (let l = length-append found (x ∷ []) in omega (arith, l)) in
      let behind : n + length (x ∷ below) ≡ suc n + length below = omega arith in
      ap (λ (l : List Occurrence). (found ++ x ∷ []) ++ in_turn (whole d) (length (found ++ x ∷ [])) l) is
      ∙ ap (λ (m : ℕ). (found ++ x ∷ []) ++ in_turn (whole d) m (children d n x ++ reverse work)) count
      ∙ ap (λ (l : List Occurrence). (found ++ x ∷ []) ++ l) (in_turn_append (whole d) (children d n x) (reverse work) (suc n))
      ∙ append_assoc found (x ∷ []) (below ++ in_turn (whole d) (suc n + length below) (reverse work))
      ∙ ap (λ (m : ℕ). found ++ (x ∷ (below ++ in_turn (whole d) m (reverse work)))) (sym behind)
      ∙ ap (λ (l : List Occurrence). found ++ (l ++ in_turn (whole d) (n + length l) (reverse work))) (sym (whole_is n x))
      ∙ ap (λ (l : List Occurrence). found ++ in_turn (whole d) n l) (sym (opened work x))
      ∙ all

  pub more_left : (found work : List Occurrence) (x : Occurrence) → IsUnfolding d found (work ++ x ∷ []) → length found < length (occurrences d)
  more_left found work x all =
      let n = length found in
      let behind = in_turn (whole d) n (x ∷ reverse work) in
      let e : length (found ++ behind) ≡ length (occurrences d) = ap length (ap (λ (l : List Occurrence). found ++ in_turn (whole d) n l) (sym (opened work x)) ∙ all) in
      let l = length-append found behind in
      let some : 0 < length behind = (
      let w = ap length (ap (λ (l : List Occurrence). l ++ in_turn (whole d) (n + length (whole d n x)) (reverse work)) (whole_is n x)) in
      omega (arith, w)) in
      omega (arith, e, l, some)
