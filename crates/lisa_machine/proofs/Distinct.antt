-- Names that are found where they stand are different.
use Rattle.std.proofs.Common.{◌≡◌, ◌≢◌, ◌⊎◌, ◌<◌, ◌≤◌, ◌+◌, ◌||◌, ◌++◌, ℕ, zero, suc, List, [], ◌∷◌, Option, None, Some, Bool, true, false, cond, nat_eq, map, take, filter_map, refl, sym, ap, ◌∙◌, arith, subst, inl, inr, ⊎_elim}
use Rattle.std.specs.Prelude.{slice_get}
use Rattle.std.specs.Option.{is_some, option_map}
use Rattle.std.specs.List.{AllByRecursion, list_any}
use Rattle.std.specs.Cmp.Lexicographic.{nat_list_eq_equiv}
use Rattle.std.proofs.lemmas.Bool.{cases_lt, eqb-true}
use Rattle.std.proofs.lemmas.List.Elements.{All-from_recursion}
use Rattle.std.proofs.lemmas.List.Kept.{AllPairs-cons}
use Rattle.std.proofs.lemmas.List.Folds.{list_any-append}
use Rattle.lisa_tree.specs.declared.tokens.Shape.{Shape}
use Rattle.lisa_tree.specs.declared.faults.DescFault.TheVariants as faults
use Rattle.lisa_tree.specs.Statements.{HeadTree}
use Rattle.lisa_tree.specs.Expressions.{ExprTree}
use Rattle.lisa_tree.specs.Descriptions as trees
use Rattle.lisa_tree.specs.Descriptions.{ResourceTree, SectionTree, OperationTree, DescriptionTree}
use Rattle.description_places.specs.declared.sites.Region.{Region}
use Rattle.description_places.specs.Scopes.{Scope, local_named}
use Rattle.description_places.specs.Places as places
use Rattle.description_places.specs.Places.{at, region_of}
use Rattle.lisa_tree.specs.Same.{same_name}
use Rattle.lisa_tree.specs.Resources as resources
use Rattle.lisa_tree.specs.Resources.{is_named, resource_at, stages_in, fields_in, is_pipe}
use Rattle.lisa_tree.specs.Operations.{number_of, operation_at, sections_at, name_at}
use Rattle.lisa_tree.specs.Declarations.{Entry, Choice, entries, choices, declared_at}
use Rattle.name_checks.specs.Doubled as doubled
use Rattle.name_checks.specs.Doubled.{duplicate, duplicate_fault, earlier, again_in, list_fault, is_fields, resource_fault, is_of, section_fault, is_taken, local_fault, counter_fault}
use Rattle.lisa_machine.specs.Freedom.{IsFree, Stands}
use Rattle.lisa_machine.specs.Distinctness.{AreDistinct, name_of, resource_names, operation_names, own_name, declared_names, field_names, IsFresh}
use Rattle.lisa_machine.proofs.Among.{free_place}
use Rattle.lisa_machine.proofs.Standing.{resource_stands, operation_stands, section_stands}
use Rattle.lisa_machine.proofs.Entries.{Listed, together, alone, choice_listed}
use Rattle.lisa_machine.proofs.Decoding.{off_left, off_right, or_left, or_right, none_of, not_doubled, position_is}
use Rattle.lisa_machine.proofs.Named.{entry_found}

-- ---- from look-ups to lists

-- what a look-up finds behind a number
abbrev Behind : (List ℕ → Option ℕ) → ℕ → List ℕ → Type 0
Behind look b m = (j : ℕ) × (b ≤ j) × (look m ≡ Some j)

module _ {X : Type 0} (key : X → Option (List ℕ)) (look : List ℕ → Option ℕ) where
  abbrev Looks : ℕ → List X → Type 0
  Looks b xs = (i : ℕ) (x : X) (n : List ℕ) → slice_get xs i ≡ Some x → key x ≡ Some n → look n ≡ Some (b + i)

  looks_on : (b : ℕ) (x : X) (xs : List X) → Looks b (x ∷ xs) → Looks (b + 1) xs
  looks_on b x xs f i y n at is = let number : b + suc i ≡ b + 1 + i = omega arith in f (suc i) y n at is ∙ ap (λ (k : ℕ). Some k) number

  none_kept : (x : X) (xs : List X) → key x ≡ None → filter_map key (x ∷ xs) ≡ filter_map key xs
  none_kept x xs e = cc e

  one_kept : (x : X) (xs : List X) (n : List ℕ) → key x ≡ Some n → filter_map key (x ∷ xs) ≡ n ∷ filter_map key xs
  one_kept x xs n e = cc e

  lower : (b : ℕ) (xs : List (List ℕ)) → AllByRecursion (Behind look (b + 1)) xs → AllByRecursion (Behind look b) xs
  lower b [] all = tt
  lower b (x ∷ xs) all = ((all.0.0, (let h = all.0.1 in omega (arith, h)), all.0.2), lower b xs all.1)

  all_behind : (b : ℕ) (xs : List X) → Looks b xs → AllByRecursion (Behind look b) (filter_map key xs)
  all_behind b [] f = tt
  all_behind b (x ∷ xs) f = by (key x) refl (lower b (filter_map key xs) (all_behind (b + 1) xs (looks_on b x xs f)))
    where
      by : (r : Option (List ℕ)) → key x ≡ r → AllByRecursion (Behind look b) (filter_map key xs) → AllByRecursion (Behind look b) (filter_map key (x ∷ xs))
      by None is rest = subst (AllByRecursion (Behind look b)) (sym (none_kept x xs is)) rest
      by (Some n) is rest = subst (AllByRecursion (Behind look b)) (sym (one_kept x xs n is)) ((b + 0, omega arith, f 0 x n refl is), rest)

  unlike : (b : ℕ) (n : List ℕ) → look n ≡ Some (b + 0) → (xs : List (List ℕ)) → AllByRecursion (Behind look (b + 1)) xs → AllByRecursion (λ m. n ≢ m) xs
  unlike b n is [] all = tt
  unlike b n is (m ∷ xs) all = ((λ same. no_more all.0.0 all.0.1 (some_same (b + 0) all.0.0 (sym is ∙ ap look same ∙ all.0.2))), unlike b n is xs all.1)
    where
      some_same : (x y : ℕ) → Some x ≡ Some y → x ≡ y
      some_same x y e = cc e

      no_more : (j : ℕ) → b + 1 ≤ j → b + 0 ≡ j → ⊥
      no_more j l e = absurd (omega (arith, l, e))

  pub distinct_found : (b : ℕ) (xs : List X) → Looks b xs → AreDistinct (filter_map key xs)
  distinct_found b [] f = λ i j d l h. absurd (omega (arith, l, h))
  distinct_found b (x ∷ xs) f = by (key x) refl (distinct_found (b + 1) xs (looks_on b x xs f))
    where
      by : (r : Option (List ℕ)) → key x ≡ r → AreDistinct (filter_map key xs) → AreDistinct (filter_map key (x ∷ xs))
      by None is rest = subst AreDistinct (sym (none_kept x xs is)) rest
      by (Some n) is rest =
          subst AreDistinct (sym (one_kept x xs n is))
          (AllPairs-cons (λ (m k : List ℕ). m ≢ k) n (filter_map key xs)
          (All-from_recursion (λ (m : List ℕ). n ≢ m) (filter_map key xs) (unlike b n (f 0 x n refl is) (filter_map key xs) (all_behind (b + 1) xs (looks_on b x xs f)))) rest)

  all_kept : (xs : List X) (f : X → List ℕ) → ((x : X) → key x ≡ Some (f x)) → filter_map key xs ≡ map f xs
  all_kept [] f is = refl
  all_kept (x ∷ xs) f is = one_kept x xs (f x) (is x) ∙ ap (λ (ns : List (List ℕ)). f x ∷ ns) (all_kept xs f is)

-- ---- names in one list

not_same : (n m : List ℕ) → same_name n m ≡ false → n ≢ m
not_same n m e = λ same. absurd (cc (sym (ap (same_name n) (sym same)) ∙ e, nat_list_eq_equiv.refl n))

again_step : (before : List (List ℕ)) (n : List ℕ) (rest : List (List ℕ)) → again_in before (n ∷ rest) ≡ None → (list_any (same_name n) before ≡ false) × (again_in (before ++ n ∷ []) rest ≡ None)
again_step before n rest e = by (list_any (same_name n) before) refl e
  where
    by : (b : Bool) → list_any (same_name n) before ≡ b → cond b (Some n) (again_in (before ++ n ∷ []) rest) ≡ None → (list_any (same_name n) before ≡ false) × (again_in (before ++ n ∷ []) rest ≡ None)
    by false is f = (is, f)
    by true is f = absurd (cc f)

or_on : (a b : Bool) → a ≡ true → (a || b) ≡ true
or_on a b e = grind arith

or_on_right : (a b : Bool) → b ≡ true → (a || b) ≡ true
or_on_right a b e = grind arith

none_again : (before names : List (List ℕ)) (m : List ℕ) → again_in before names ≡ None → list_any (same_name m) before ≡ true → AllByRecursion (λ x. m ≢ x) names
none_again before [] m e h = tt
none_again before (n ∷ rest) m e h =
    let s = again_step before n rest e in (
      (λ same. absurd (cc (sym s.0 ∙ ap (λ (z : List ℕ). list_any (same_name z) before) (sym same) ∙ h))),
      none_again (before ++ n ∷ []) rest m s.1 (list_any-append (same_name m) before (n ∷ []) ∙ or_on (list_any (same_name m) before) (list_any (same_name m) (n ∷ [])) h),
    )

distinct_again : (before names : List (List ℕ)) → again_in before names ≡ None → AreDistinct names
distinct_again before [] e = λ i j d l h. absurd (omega (arith, l, h))
distinct_again before (n ∷ rest) e =
    let s = again_step before n rest e in
    let here : list_any (same_name n) (n ∷ []) ≡ true = or_on (same_name n n) false (nat_list_eq_equiv.refl n) in
    let now : list_any (same_name n) (before ++ n ∷ []) ≡ true = list_any-append (same_name n) before (n ∷ []) ∙ or_on_right (list_any (same_name n) before) (list_any (same_name n) (n ∷ [])) here in
    AllPairs-cons (λ (m k : List ℕ). m ≢ k) n rest (All-from_recursion (λ (m : List ℕ). n ≢ m) rest (none_again (before ++ n ∷ []) rest n s.1 now)) (distinct_again (before ++ n ∷ []) rest s.1)

list_distinct : (names : List (List ℕ)) → list_fault names ≡ None → AreDistinct names
list_distinct names e = distinct_again [] names (unfaulted (again_in [] names) e)
  where
    unfaulted : (r : Option (List ℕ)) → option_map faults.Duplicate r ≡ None → r ≡ None
    unfaulted None f = refl
    unfaulted (Some n) f = absurd (cc f)

-- ---- things of one kind

none_taken : {X : Type 0} (p : X → Bool) (xs : List X) (j k : ℕ) (x : X) → slice_get xs j ≡ Some x → j < k → list_any p (take k xs) ≡ false → p x ≡ false
none_taken p [] j k x at l e = absurd (cc at)
none_taken p (y ∷ xs) j zero x at l e = absurd (omega (arith, l))
none_taken p (y ∷ xs) zero (suc k) x at l e = let same : y ≡ x = cc at in ap p (sym same) ∙ off_left (p y) (list_any p (take k xs)) e
none_taken p (y ∷ xs) (suc j) (suc k) x at l e = none_taken p xs j k x at (omega (arith, l)) (off_right (p y) (list_any p (take k xs)) e)

module _ (d : DescriptionTree) (free : IsFree (duplicate d) d) where
  -- ---- resources

  unnamed : (k : ℕ) (r : ResourceTree) (n : List ℕ) → resource_fault d k r ≡ None → name_of r ≡ Some n → earlier (resource_at d n) k ≡ false
  unnamed k (trees.Register word shape m depth) n e is = let same : m ≡ n = cc is in ap (λ (z : List ℕ). earlier (resource_at d z) k) (sym same) ∙ not_doubled _ m e
  unnamed k (trees.Clocked word shape m) n e is = let same : m ≡ n = cc is in ap (λ (z : List ℕ). earlier (resource_at d z) k) (sym same) ∙ not_doubled _ m e
  unnamed k (trees.Memory word shape m depth) n e is = let same : m ≡ n = cc is in ap (λ (z : List ℕ). earlier (resource_at d z) k) (sym same) ∙ not_doubled _ m e
  unnamed k (trees.Pin shape m) n e is = let same : m ≡ n = cc is in ap (λ (z : List ℕ). earlier (resource_at d z) k) (sym same) ∙ not_doubled _ m e
  unnamed k (trees.Pipeline m stages) n e is =
      let same : m ≡ n = cc is in
      ap (λ (z : List ℕ). earlier (resource_at d z) k) (sym same)
      ∙ off_left (earlier (resource_at d m) k) (list_any is_pipe (take k d.resources)) (not_doubled _ m (or_left (duplicate_fault (earlier (resource_at d m) k || list_any is_pipe (take k d.resources)) m) (list_fault stages) e))
  unnamed k (trees.Fields pipe fields) n e is = absurd (cc is)

  own : (r : ResourceTree) (n : List ℕ) → name_of r ≡ Some n → is_named n r ≡ true
  own (trees.Register word shape m depth) n is = let same : n ≡ m = cc is in ap (same_name n) (sym same) ∙ nat_list_eq_equiv.refl n
  own (trees.Clocked word shape m) n is = let same : n ≡ m = cc is in ap (same_name n) (sym same) ∙ nat_list_eq_equiv.refl n
  own (trees.Memory word shape m depth) n is = let same : n ≡ m = cc is in ap (same_name n) (sym same) ∙ nat_list_eq_equiv.refl n
  own (trees.Pin shape m) n is = let same : n ≡ m = cc is in ap (same_name n) (sym same) ∙ nat_list_eq_equiv.refl n
  own (trees.Pipeline m stages) n is = let same : n ≡ m = cc is in ap (same_name n) (sym same) ∙ nat_list_eq_equiv.refl n
  own (trees.Fields pipe fields) n is = absurd (cc is)

  fault_at : (k : ℕ) (r : ResourceTree) → slice_get d.resources k ≡ Some r → resource_fault d k r ≡ None
  fault_at k r at = free_place (duplicate d) d free _ (resource_stands d k r at)

  pub resource_found : (k : ℕ) (r : ResourceTree) (n : List ℕ) → slice_get d.resources k ≡ Some r → name_of r ≡ Some n → resource_at d n ≡ Some k
  resource_found k r n at is = position_is (is_named n) d.resources k r at (own r n is) (unnamed k r n (fault_at k r at) is)

  pub resources_distinct : AreDistinct (resource_names d)
  resources_distinct = distinct_found name_of (resource_at d) 0 d.resources (λ i r n at is. resource_found i r n at is ∙ ap (λ (k : ℕ). Some k) (let number : i ≡ 0 + i = omega arith in number))

  -- ---- operations

  head_at : (o : ℕ) (operation : OperationTree) → operation_at d o ≡ Some operation → (is_some (resource_at d operation.name) || earlier (number_of d operation.name) o) ≡ false
  head_at o operation at = not_doubled _ operation.name (free_place (duplicate d) d free _ (operation_stands d o operation at _ (inl refl)))

  pub operation_found : (o : ℕ) (operation : OperationTree) → operation_at d o ≡ Some operation → number_of d operation.name ≡ Some o
  operation_found o operation at =
      position_is (λ (x : OperationTree). same_name operation.name x.name) d.operations o operation at (nat_list_eq_equiv.refl operation.name) (off_right (is_some (resource_at d operation.name)) (earlier (number_of d operation.name) o) (head_at o operation at))

  pub operation_apart : (o : ℕ) (operation : OperationTree) → operation_at d o ≡ Some operation → resource_at d operation.name ≡ None
  operation_apart o operation at = none_of (resource_at d operation.name) (off_left (is_some (resource_at d operation.name)) (earlier (number_of d operation.name) o) (head_at o operation at))

  pub operations_distinct : AreDistinct (operation_names d)
  operations_distinct =
      subst AreDistinct (all_kept (λ (x : OperationTree). Some x.name) (number_of d) d.operations (λ (x : OperationTree). x.name) (λ x. refl))
      (distinct_found (λ (x : OperationTree). Some x.name) (number_of d) 0 d.operations (λ i x n at is. found i x n at is))
    where
      found : (i : ℕ) (x : OperationTree) (n : List ℕ) → slice_get d.operations i ≡ Some x → Some x.name ≡ Some n → number_of d n ≡ Some (0 + i)
      found i x n at is = let same : x.name ≡ n = cc is in let number : i ≡ 0 + i = omega arith in ap (number_of d) (sym same) ∙ operation_found i x at ∙ ap (λ (k : ℕ). Some k) number

  -- ---- declared names

  pub declared_distinct : (o : ℕ) → AreDistinct (declared_names d o)
  declared_distinct o = distinct_found (own_name o) (declared_at d o) 0 (entries d) found_by
    where
      found_by : (i : ℕ) (e : Entry) (n : List ℕ) → slice_get (entries d) i ≡ Some e → own_name o e ≡ Some n → declared_at d o n ≡ Some (0 + i)
      found_by i e n at is = by (nat_eq e.operation o) refl
        where
          by : (b : Bool) → nat_eq e.operation o ≡ b → declared_at d o n ≡ Some (0 + i)
          by true own =
              let owner : e.operation ≡ o = eqb-true e.operation o own in
              let name : e.name ≡ n = cc (own, is) in
              let number : i ≡ 0 + i = omega arith in
              ap (λ (z : ℕ). declared_at d z n) (sym owner) ∙ ap (declared_at d e.operation) (sym name) ∙ (entry_found d free i e at).declared ∙ ap (λ (k : ℕ). Some k) number
          by false own = absurd (cc (own, is))

  -- ---- stages, fields and alternatives

  stages_there : (all : List ResourceTree) → (stages_in all ≡ []) ⊎ ((k : ℕ) × (n : List ℕ) × (slice_get all k ≡ Some (trees.Pipeline n (stages_in all))))
  stages_there [] = inl refl
  stages_there (trees.Pipeline n stages ∷ rest) = inr (0, n, refl)
  stages_there (trees.Register word shape n depth ∷ rest) = ⊎_elim (λ e. inl e) (λ r. inr (suc r.0, r.1, r.2)) (stages_there rest)
  stages_there (trees.Clocked word shape n ∷ rest) = ⊎_elim (λ e. inl e) (λ r. inr (suc r.0, r.1, r.2)) (stages_there rest)
  stages_there (trees.Memory word shape n depth ∷ rest) = ⊎_elim (λ e. inl e) (λ r. inr (suc r.0, r.1, r.2)) (stages_there rest)
  stages_there (trees.Pin shape n ∷ rest) = ⊎_elim (λ e. inl e) (λ r. inr (suc r.0, r.1, r.2)) (stages_there rest)
  stages_there (trees.Fields pipe fields ∷ rest) = ⊎_elim (λ e. inl e) (λ r. inr (suc r.0, r.1, r.2)) (stages_there rest)

  nothing_distinct : AreDistinct []
  nothing_distinct = λ i j n l h. absurd (omega (arith, l, h))

  pub stages_distinct : AreDistinct (resources.stages d)
  stages_distinct = ⊎_elim
      (λ none. subst AreDistinct (sym none) nothing_distinct)
      (λ r. list_distinct (resources.stages d) (or_right (duplicate_fault (earlier (resource_at d r.1) r.0 || list_any is_pipe (take r.0 d.resources)) r.1) (list_fault (resources.stages d)) (fault_at r.0 (trees.Pipeline r.1 (resources.stages d)) r.2)))
      (stages_there d.resources)

  fields_there : (all : List ResourceTree) → (fields_in all ≡ []) ⊎ ((k : ℕ) × (n : List ℕ) × (slice_get all k ≡ Some (trees.Fields n (fields_in all))))
  fields_there [] = inl refl
  fields_there (trees.Fields pipe fields ∷ rest) = inr (0, pipe, refl)
  fields_there (trees.Register word shape n depth ∷ rest) = ⊎_elim (λ e. inl e) (λ r. inr (suc r.0, r.1, r.2)) (fields_there rest)
  fields_there (trees.Clocked word shape n ∷ rest) = ⊎_elim (λ e. inl e) (λ r. inr (suc r.0, r.1, r.2)) (fields_there rest)
  fields_there (trees.Memory word shape n depth ∷ rest) = ⊎_elim (λ e. inl e) (λ r. inr (suc r.0, r.1, r.2)) (fields_there rest)
  fields_there (trees.Pin shape n ∷ rest) = ⊎_elim (λ e. inl e) (λ r. inr (suc r.0, r.1, r.2)) (fields_there rest)
  fields_there (trees.Pipeline n stages ∷ rest) = ⊎_elim (λ e. inl e) (λ r. inr (suc r.0, r.1, r.2)) (fields_there rest)

  pub fields_distinct : AreDistinct (field_names d)
  fields_distinct = ⊎_elim
      (λ none. subst (λ (fs : List (Shape × List ℕ)). AreDistinct (map (λ f. f.1) fs)) (sym none) nothing_distinct)
      (λ r. list_distinct (field_names d) (or_right (duplicate_fault (list_any is_fields (take r.0 d.resources)) r.1) (list_fault (field_names d)) (fault_at r.0 (trees.Fields r.1 (resources.fields d)) r.2)))
      (fields_there d.resources)

  pub alternatives_distinct : (c : ℕ) (x : Choice) → slice_get (choices d) c ≡ Some x → AreDistinct x.alternatives
  alternatives_distinct c x is = by (choice_listed d c x is)
    where
      by : Listed d x → AreDistinct x.alternatives
      by (together s) = list_distinct x.alternatives (free_place (duplicate d) d free _ s)
      by (alone n only s) = subst AreDistinct (sym only) (λ i j e l h. absurd (omega (arith, l, h)))

  -- ---- at most one

  one_of_two : (j k : ℕ) → (j < k → ⊥) → (k < j → ⊥) → j ≡ k
  one_of_two j k f g = ⊎_elim (λ l. absurd (f l)) (λ m. ⊎_elim (λ l. absurd (g l)) (λ n. let same : j ≡ k = omega (arith, m, n) in same) (cases_lt k j)) (cases_lt j k)

  no_later_pipe : (j k : ℕ) (n m : List ℕ) (xs ys : List (List ℕ)) → slice_get d.resources j ≡ Some (trees.Pipeline n xs) → slice_get d.resources k ≡ Some (trees.Pipeline m ys) → j < k → ⊥
  no_later_pipe j k n m xs ys a b l =
      let e = not_doubled (earlier (resource_at d m) k || list_any is_pipe (take k d.resources)) m (or_left (duplicate_fault (earlier (resource_at d m) k || list_any is_pipe (take k d.resources)) m) (list_fault ys) (fault_at k (trees.Pipeline m ys) b)) in
      absurd (cc (none_taken is_pipe d.resources j k (trees.Pipeline n xs) a l (off_right (earlier (resource_at d m) k) (list_any is_pipe (take k d.resources)) e)))

  pub one_pipe : (j k : ℕ) (n m : List ℕ) (xs ys : List (List ℕ)) → slice_get d.resources j ≡ Some (trees.Pipeline n xs) → slice_get d.resources k ≡ Some (trees.Pipeline m ys) → j ≡ k
  one_pipe j k n m xs ys a b = one_of_two j k (no_later_pipe j k n m xs ys a b) (no_later_pipe k j m n ys xs b a)

  no_later_fields : (j k : ℕ) (n m : List ℕ) (xs ys : List (Shape × List ℕ)) → slice_get d.resources j ≡ Some (trees.Fields n xs) → slice_get d.resources k ≡ Some (trees.Fields m ys) → j < k → ⊥
  no_later_fields j k n m xs ys a b l =
      let e = not_doubled (list_any is_fields (take k d.resources)) m (or_left (duplicate_fault (list_any is_fields (take k d.resources)) m) (list_fault (doubled.field_names ys)) (fault_at k (trees.Fields m ys) b)) in
      absurd (cc (none_taken is_fields d.resources j k (trees.Fields n xs) a l e))

  pub one_fields : (j k : ℕ) (n m : List ℕ) (xs ys : List (Shape × List ℕ)) → slice_get d.resources j ≡ Some (trees.Fields n xs) → slice_get d.resources k ≡ Some (trees.Fields m ys) → j ≡ k
  one_fields j k n m xs ys a b = one_of_two j k (no_later_fields j k n m xs ys a b) (no_later_fields k j m n ys xs b a)

  of_own : (s : SectionTree) → is_of (region_of s) s ≡ true
  of_own (trees.Declares x) = refl
  of_own (trees.Coding x) = refl
  of_own (trees.Syntax x) = refl
  of_own (trees.Behavior x) = refl
  of_own (trees.Expression x) = refl
  of_own (trees.Activation x) = refl

  no_later_section : (o j k : ℕ) (s t : SectionTree) → slice_get (sections_at d o) j ≡ Some s → slice_get (sections_at d o) k ≡ Some t → region_of s ≡ region_of t → j < k → ⊥
  no_later_section o j k s t a b same l =
      let e = not_doubled _ (name_at d o) (free_place (duplicate d) d free _ (section_stands d o k t b)) in
      let f = none_taken (is_of (region_of t)) (sections_at d o) j k s a l e in
      absurd (cc (sym f ∙ ap (λ (r : Region). is_of r s) (sym same) ∙ of_own s))

  pub one_section : (o j k : ℕ) (s t : SectionTree) → slice_get (sections_at d o) j ≡ Some s → slice_get (sections_at d o) k ≡ Some t → region_of s ≡ region_of t → j ≡ k
  one_section o j k s t a b same = one_of_two j k (no_later_section o j k s t a b same) (no_later_section o k j t s b a (sym same))

  -- ---- locals

  fresh : (o : ℕ) (scope : Scope) (n : List ℕ) → is_taken d o scope n ≡ false → IsFresh d o scope n
  fresh o scope n e = record {
    no_local = none_of (local_named n scope) (one (is_some (local_named n scope)) (is_some (declared_at d o n)) (is_some (resource_at d n)) e);
    no_declared = none_of (declared_at d o n) (two (is_some (local_named n scope)) (is_some (declared_at d o n)) (is_some (resource_at d n)) e);
    no_resource = none_of (resource_at d n) (three (is_some (local_named n scope)) (is_some (declared_at d o n)) (is_some (resource_at d n)) e);
  }
    where
      one : (a b c : Bool) → (a || b || c) ≡ false → a ≡ false
      one a b c h = grind arith

      two : (a b c : Bool) → (a || b || c) ≡ false → b ≡ false
      two a b c h = grind arith

      three : (a b c : Bool) → (a || b || c) ≡ false → c ≡ false
      three a b c h = grind arith

  pub local_fresh : (o : ℕ) (region : Region) (scope : Scope) (shape : Shape) (n : List ℕ) (value : Option ExprTree) → Stands d (at o region scope (places.Local shape n value)) → IsFresh d o scope n
  local_fresh o region scope shape n value s = fresh o scope n (not_doubled (is_taken d o scope n) n (free_place (duplicate d) d free _ s))

  pub counter_fresh : (o : ℕ) (region : Region) (scope : Scope) (head : HeadTree) (shape : Shape) → head.shape ≡ Some shape → Stands d (at o region scope (places.Counts head)) → IsFresh d o scope head.name
  counter_fresh o region scope head shape typed s =
      let e : counter_fault d o scope (Some shape) head.name ≡ None = ap (λ (r : Option Shape). counter_fault d o scope r head.name) (sym typed) ∙ free_place (duplicate d) d free _ s in
      fresh o scope head.name (not_doubled (is_taken d o scope head.name) head.name e)
