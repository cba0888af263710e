-- One more declared name, declaration or operation.
use Rattle.std.proofs.Common.{◌≡◌, ◌<◌, ◌+◌, ℕ, zero, suc, List, [], ◌∷◌, ◌++◌, length, get_or, drop, take, map, refl, sym, ap, ap₂, ◌∙◌, append_assoc, append-nil, arith, ⊎_elim}
use Rattle.std.specs.Prelude.{slice_index}
use Rattle.std.proofs.lemmas.Bool.{cases_eq}
use Rattle.std.proofs.lemmas.Grind.{take_at_read}
use Rattle.description_tables.proofs.Positions.{length_take}
use Rattle.std.proofs.lemmas.List.{map-append, length-map, length-append}
use Rattle.lisa_tree.specs.Descriptions.{DescriptionTree, OperationTree, declare_tree, operation_tree}
use Rattle.lisa_tree.specs.declared.descriptions.Declare.{Declare}
use Rattle.lisa_tree.specs.declared.descriptions.Operation.{Operation}
use Rattle.lisa_tree.specs.declared.declared.What.{What}
use Rattle.lisa_tree.specs.declared.declared.What.TheVariants as whats
use Rattle.lisa_tree.specs.Operations.{declares_in}
use Rattle.lisa_tree.specs.Declarations.{Entry, Choice, entry, choice, instances, choices_of, choices_in, choices_from, entries_of, entries_in, entries_from}
use Rattle.description_tables.specs.Laws.{Chosen, chosen}
use Rattle.description_tables.proofs.Lists.{one_more, regroup}

get_or_at_end : (xs : List ℕ) (x : ℕ) → get_or (xs ++ (x ∷ [])) (length xs) 0 ≡ x
get_or_at_end [] x = refl
get_or_at_end (y ∷ xs) x = get_or_at_end xs x

get_or_before : (xs : List ℕ) (x i : ℕ) → i < length xs → get_or (xs ++ (x ∷ [])) i 0 ≡ get_or xs i 0
get_or_before [] x i h = absurd (omega arith)
get_or_before (y ∷ xs) x zero h = refl
get_or_before (y ∷ xs) x (suc i) h = get_or_before xs x i (omega arith)

pub names_step : (o : ℕ) (what : What) (names : List (List ℕ)) (i : ℕ) (n : List ℕ) → i < length names → n ≡ get_or names i n
    → map (entry o what) (drop i names) ≡ (entry o what n ∷ []) ++ map (entry o what) (drop (i + 1) names)
names_step o what names i n h is = ap (map (entry o what)) (one_more names i n h is)

longer : {X Y : Type 0} (f : X → Y) (old new : List Y) (more : List X) → new ≡ old ++ map f more → length new ≡ length old + length more
longer f old new more e = ap length e ∙ length-append old (map f more) ∙ ap (λ (n : ℕ). length old + n) (length-map more f)

pub instances_step : (o : ℕ) (pairs : List (List ℕ × List ℕ)) (i : ℕ) (pair : List ℕ × List ℕ) (es es' : List Entry) (c c' : ℕ) (whole : List Entry) → i < length pairs → pair ≡ get_or pairs i pair
    → es' ≡ es ++ (entry o (whats.Instance c) pair.0 ∷ []) → c' ≡ c + 1
    → es ++ instances o c (drop i pairs) ≡ whole → es' ++ instances o c' (drop (i + 1) pairs) ≡ whole
instances_step o pairs i pair es es' c c' whole h is added count was =
    ap (λ (n : ℕ). es' ++ instances o n (drop (i + 1) pairs)) count
    ∙ regroup es (entry o (whats.Instance c) pair.0 ∷ []) es' (instances o (c + 1) (drop (i + 1) pairs)) whole (instances o c (drop i pairs)) added was (ap (instances o c) (one_more pairs i pair h is))

abbrev pub one_of : ℕ → List ℕ × List ℕ → Choice
one_of o pair = choice o (pair.1 ∷ [])

pub choices_step : (d : DescriptionTree) (o : ℕ) (pairs : List (List ℕ × List ℕ)) (i : ℕ) (pair : List ℕ × List ℕ) (cs cs' whole : List Chosen) → i < length pairs → pair ≡ get_or pairs i pair
    → cs' ≡ cs ++ (chosen d (one_of o pair) ∷ []) → cs ++ map (chosen d) (map (one_of o) (drop i pairs)) ≡ whole
    → cs' ++ map (chosen d) (map (one_of o) (drop (i + 1) pairs)) ≡ whole
choices_step d o pairs i pair cs cs' whole h is added was =
    regroup cs (chosen d (one_of o pair) ∷ []) cs' _ whole (map (chosen d) (map (one_of o) (drop i pairs))) added was (ap (λ (ps : List (List ℕ × List ℕ)). map (chosen d) (map (one_of o) ps)) (one_more pairs i pair h is))

pub one_longer : {X : Type 0} (old new : List X) (x : X) → new ≡ old ++ (x ∷ []) → length new ≡ length old + 1
one_longer old new x e = ap length e ∙ length-append old (x ∷ [])

-- ---- declarations

pub declares_step : (d : DescriptionTree) (o : ℕ) (all : List Declare) (i : ℕ) (x : Declare) (es es' whole : List Entry) (cs cs' : List Chosen) → i < length all → x ≡ get_or all i x
    → es' ≡ es ++ entries_of o (length cs) (declare_tree x) → cs' ≡ cs ++ map (chosen d) (choices_of o (declare_tree x))
    → es ++ entries_in o (length cs) (map declare_tree (drop i all)) ≡ whole → es' ++ entries_in o (length cs') (map declare_tree (drop (i + 1) all)) ≡ whole
declares_step d o all i x es es' whole cs cs' h is added more was =
    let rest = map declare_tree (drop (i + 1) all) in
    ap (λ (n : ℕ). es' ++ entries_in o n rest) (longer (chosen d) cs cs' (choices_of o (declare_tree x)) more)
    ∙ regroup es (entries_of o (length cs) (declare_tree x)) es' _ whole (entries_in o (length cs) (map declare_tree (drop i all))) added was (ap (λ (ds : List Declare). entries_in o (length cs) (map declare_tree ds)) (one_more all i x h is))

pub declares_choices_step : (d : DescriptionTree) (o : ℕ) (all : List Declare) (i : ℕ) (x : Declare) (cs cs' whole : List Chosen) → i < length all → x ≡ get_or all i x
    → cs' ≡ cs ++ map (chosen d) (choices_of o (declare_tree x))
    → cs ++ map (chosen d) (choices_in o (map declare_tree (drop i all))) ≡ whole → cs' ++ map (chosen d) (choices_in o (map declare_tree (drop (i + 1) all))) ≡ whole
declares_choices_step d o all i x cs cs' whole h is added was =
    regroup cs (map (chosen d) (choices_of o (declare_tree x))) cs' _ whole (map (chosen d) (choices_in o (map declare_tree (drop i all)))) added was
    (ap (λ (ds : List Declare). map (chosen d) (choices_in o (map declare_tree ds))) (one_more all i x h is) ∙ map-append (chosen d) (choices_of o (declare_tree x)) (choices_in o (map declare_tree (drop (i + 1) all))))

-- ---- operations

pub entries-append : (o c : ℕ) (xs ys : List OperationTree) → entries_from o c (xs ++ ys) ≡ entries_from o c xs ++ entries_from (o + length xs) (c + length (choices_from o xs)) ys
entries-append o c [] ys =
    let p : o ≡ o + 0 = omega arith in
    let q : c ≡ c + 0 = omega arith in
    ap₂ (λ (p b : ℕ). entries_from p b ys) p q
entries-append o c (x ∷ xs) ys =
    let here = declares_in x.sections in
    let c' = c + length (choices_in o here) in
    let l = length-append (choices_in o here) (choices_from (o + 1) xs) in
    let p : o + 1 + length xs ≡ o + suc (length xs) = omega arith in
    let q : c' + length (choices_from (o + 1) xs) ≡ c + length (choices_in o here ++ choices_from (o + 1) xs) = omega (arith, l) in
    ap (λ (es : List Entry). entries_in o c here ++ es) (entries-append (o + 1) c' xs ys)
    ∙ sym (append_assoc (entries_in o c here) (entries_from (o + 1) c' xs) (entries_from (o + 1 + length xs) (c' + length (choices_from (o + 1) xs)) ys))
    ∙ ap₂ (λ (p b : ℕ). (entries_in o c here ++ entries_from (o + 1) c' xs) ++ entries_from p b ys) p q

pub choices-append : (o : ℕ) (xs ys : List OperationTree) → choices_from o (xs ++ ys) ≡ choices_from o xs ++ choices_from (o + length xs) ys
choices-append o [] ys = let p : o ≡ o + 0 = omega arith in ap (λ (p : ℕ). choices_from p ys) p
choices-append o (x ∷ xs) ys =
    let here = declares_in x.sections in
    let p : o + 1 + length xs ≡ o + suc (length xs) = omega arith in
    ap (λ (cs : List Choice). choices_in o here ++ cs) (choices-append (o + 1) xs ys)
    ∙ sym (append_assoc (choices_in o here) (choices_from (o + 1) xs) (choices_from (o + 1 + length xs) ys))
    ∙ ap (λ (p : ℕ). (choices_in o here ++ choices_from (o + 1) xs) ++ choices_from p ys) p

trees_taken : (all : List Operation) (i : ℕ) (x : Operation) → i < length all → x ≡ get_or all i x → map operation_tree (take (i + 1) all) ≡ map operation_tree (take i all) ++ (operation_tree x ∷ [])
trees_taken all i x h is =
    ap (map operation_tree) ((take_at_read all i x h).1 ∙ ap (λ (y : Operation). take i all ++ (y ∷ [])) (sym is))
    ∙ map-append operation_tree (take i all) (x ∷ [])

so_many : (all : List Operation) (i : ℕ) → i < length all → length (map operation_tree (take i all)) ≡ i
so_many all i h = length-map (take i all) operation_tree ∙ length_take all i h

pub operations_step : (d : DescriptionTree) (all : List Operation) (i : ℕ) (x : Operation) (es es' : List Entry) (cs : List Chosen) → i < length all → x ≡ get_or all i x
    → es ≡ entries_from 0 0 (map operation_tree (take i all)) → cs ≡ map (chosen d) (choices_from 0 (map operation_tree (take i all)))
    → es' ≡ es ++ entries_in i (length cs) (declares_in (operation_tree x).sections) → es' ≡ entries_from 0 0 (map operation_tree (take (i + 1) all))
operations_step d all i x es es' cs h is was chosen_were added =
    let front = map operation_tree (take i all) in
    let here = declares_in (operation_tree x).sections in
    let count : length cs ≡ 0 + length (choices_from 0 front) = (let e = ap length chosen_were ∙ length-map (choices_from 0 front) (chosen d) in omega (arith, e)) in
    let place : i ≡ 0 + length front = (let e = so_many all i h in omega (arith, e)) in
    added
    ∙ ap₂ (λ (zs : List Entry) (n : ℕ). zs ++ entries_in i n here) was count
    ∙ ap (λ (p : ℕ). entries_from 0 0 front ++ entries_in p (0 + length (choices_from 0 front)) here) place
    ∙ ap (λ (zs : List Entry). entries_from 0 0 front ++ zs) (sym (append-nil (entries_in (0 + length front) (0 + length (choices_from 0 front)) here)))
    ∙ sym (entries-append 0 0 front (operation_tree x ∷ []))
    ∙ ap (entries_from 0 0) (sym (trees_taken all i x h is))

pub operations_choices_step : (d : DescriptionTree) (all : List Operation) (i : ℕ) (x : Operation) (cs cs' : List Chosen) → i < length all → x ≡ get_or all i x
    → cs ≡ map (chosen d) (choices_from 0 (map operation_tree (take i all)))
    → cs' ≡ cs ++ map (chosen d) (choices_in i (declares_in (operation_tree x).sections)) → cs' ≡ map (chosen d) (choices_from 0 (map operation_tree (take (i + 1) all)))
operations_choices_step d all i x cs cs' h is was added =
    let front = map operation_tree (take i all) in
    let here = declares_in (operation_tree x).sections in
    let place : i ≡ 0 + length front = (let e = so_many all i h in omega (arith, e)) in
    added
    ∙ ap₂ (λ (zs : List Chosen) (p : ℕ). zs ++ map (chosen d) (choices_in p here)) was place
    ∙ sym (map-append (chosen d) (choices_from 0 front) (choices_in (0 + length front) here))
    ∙ ap (λ (zs : List Choice). map (chosen d) (choices_from 0 front ++ zs)) (sym (append-nil (choices_in (0 + length front) here)))
    ∙ ap (map (chosen d)) (sym (choices-append 0 front (operation_tree x ∷ [])))
    ∙ ap (λ (ts : List OperationTree). map (chosen d) (choices_from 0 ts)) (sym (trees_taken all i x h is))

pub before_step : (all : List Operation) (i : ℕ) (before before' : List ℕ) (es : List Entry) → length before ≡ i → es ≡ entries_from 0 0 (map operation_tree (take i all)) → before' ≡ before ++ (length es ∷ [])
    → ((o : ℕ) → o < i → slice_index before o ≡ length (entries_from 0 0 (map operation_tree (take o all)))) → (o : ℕ) → o < i + 1 → slice_index before' o ≡ length (entries_from 0 0 (map operation_tree (take o all)))
before_step all i before before' es count is added below o h =
    ap (λ (b : List ℕ). slice_index b o) added ∙ ⊎_elim (λ e. last e) (λ ne. earlier ne) (cases_eq o i)
  where
    last : o ≡ i → slice_index (before ++ (length es ∷ [])) o ≡ length (entries_from 0 0 (map operation_tree (take o all)))
    last e = let at : o ≡ length before = e ∙ sym count in
        ap (slice_index (before ++ (length es ∷ []))) at ∙ get_or_at_end before (length es) ∙ ap length is ∙ ap (λ (n : ℕ). length (entries_from 0 0 (map operation_tree (take n all)))) (sym e)

    earlier : (o ≡ i → ⊥) → slice_index (before ++ (length es ∷ [])) o ≡ length (entries_from 0 0 (map operation_tree (take o all)))
    earlier ne = let l : o < i = omega arith in let k : o < length before = omega arith in get_or_before before (length es) o k ∙ below o l
