-- Rows of the graph of activations.
use Rattle.std.proofs.Common.{◌≡◌, ℕ, zero, suc, ◌+◌, ◌<◌, ◌≤◌, ◌≢◌, ⊎_elim, List, [], ◌∷◌, ◌++◌, Option, None, Some, Bool, true, false, cond, ◌||◌, ◌&&◌, nat_eq, nat_lt, length, get_or, drop, drop-cons, refl, ap, sym, ◌∙◌, arith, add-one, append_assoc}
use Rattle.std.specs.Global.{Vec}
use Rattle.std.proofs.Math.Dec.{eqb-suc-suc, eqb-suc-zero}
use Rattle.std.proofs.lemmas.Bool.{cases_eq, eq-eqb, ne_eqb, lt-ltb}
use Rattle.std.proofs.lemmas.Bool.Decides.{nat_tests}
use Rattle.lisa_tree.specs.declared.expressions.Expr.{Expr}
use Rattle.lisa_tree.specs.declared.descriptions.Act.{Act}
use Rattle.lisa_tree.specs.declared.descriptions.Act.TheVariants as acts
use Rattle.lisa_tree.proofs.Views.{act_tree-Choose, act_tree-ChooseElse}
use Rattle.lisa_tree.specs.Activations.{Then, act_tree, act_trees}
use Rattle.lisa_tree.specs.Descriptions.{DescriptionTree}
use Rattle.lisa_tree.specs.Declarations.{choices}
use Rattle.graph_paths.specs.Paths.{targets, is_in, saw}
use Rattle.graph_paths.proofs.Long.{within}
use Rattle.graph_paths.proofs.Search.{saw_below}
use Rattle.std.specs.Borrow.{Bor}
use Rattle.std.specs.Option.{option_to_list}
use Rattle.stage_checks.specs.Running.{started, choices_named, act_names, acts_names}
use Rattle.stage_checks.specs.Graphs.{nodes_of, names_in, is_stage}

pub nodes_append : (d : DescriptionTree) (xs ys : List ℕ) → nodes_of d (xs ++ ys) ≡ nodes_of d xs ++ nodes_of d ys
nodes_append d [] ys = refl
nodes_append d (c ∷ xs) ys = at (nat_lt c (length (choices d))) (nodes_append d xs ys)
  where
    at : (b : Bool) → nodes_of d (xs ++ ys) ≡ nodes_of d xs ++ nodes_of d ys → cond b ((length d.operations + c) ∷ nodes_of d (xs ++ ys)) (nodes_of d (xs ++ ys)) ≡ cond b ((length d.operations + c) ∷ nodes_of d xs) (nodes_of d xs) ++ nodes_of d ys
    at true e = ap (λ (l : List ℕ). (length d.operations + c) ∷ l) e
    at false e = e

pub one_choice : (d : DescriptionTree) (all : List ℕ) (i : ℕ) → i < length all → nodes_of d (drop i all) ≡ nodes_of d (get_or all i 0 ∷ []) ++ nodes_of d (drop (i + 1) all)
one_choice d all i h =
    ap (nodes_of d) (drop-cons all i 0 h)
    ∙ nodes_append d (get_or all i 0 ∷ []) (drop (suc i) all)
    ∙ ap (λ (m : ℕ). nodes_of d (get_or all i 0 ∷ []) ++ nodes_of d (drop m all)) (sym (add-one i))

pub one_name : (d : DescriptionTree) (o : ℕ) (all : List (Bor (List ℕ))) (i : ℕ) (x : Bor (List ℕ)) → i < length all → x ≡ get_or all i x
    → choices_named d o (names_in (drop i all)) ≡ option_to_list (started d o x.now) ++ choices_named d o (names_in (drop (i + 1) all))
one_name d o all i x h e =
    ap (λ (l : List (Bor (List ℕ))). choices_named d o (names_in l)) (drop-cons all i x h)
    ∙ ap (λ (y : Bor (List ℕ)). option_to_list (started d o y.now) ++ choices_named d o (names_in (drop (suc i) all))) (sym e)
    ∙ ap (λ (m : ℕ). option_to_list (started d o x.now) ++ choices_named d o (names_in (drop m all))) (sym (add-one i))

pub names_push : (xs : List (Bor (List ℕ))) (x : Bor (List ℕ)) → names_in (xs ++ x ∷ []) ≡ names_in xs ++ x.now ∷ []
names_push [] x = refl
names_push (y ∷ xs) x = ap (λ (l : List (List ℕ)). y.now ∷ l) (names_push xs x)

pub one_act : (all : List Act) (i : ℕ) (a : Act) → i < length all → a ≡ get_or all i a → act_trees (drop i all) ≡ Then (act_tree a) (act_trees (drop (i + 1) all))
one_act all i a h e =
    ap act_trees (drop-cons all i a h)
    ∙ ap (λ (x : Act). Then (act_tree x) (act_trees (drop (suc i) all))) (sym e)
    ∙ ap (λ (m : ℕ). Then (act_tree a) (act_trees (drop m all))) (sym (add-one i))

pub targets_push : (next : List (Vec ℕ)) (v : Vec ℕ) (a : ℕ) → targets (next ++ v ∷ []) a ≡ cond (nat_eq a (length next)) v.items (targets next a)
targets_push [] v zero = refl
targets_push [] v (suc a) = grind (arith, eqb-suc-zero)
targets_push (w ∷ next) v zero = grind (arith, eqb-suc-zero)
targets_push (w ∷ next) v (suc a) = targets_push next v a ∙ ap (λ (b : Bool). cond b v.items (targets next a)) (sym (eqb-suc-suc a (length next)))

-- what was added, and what is left
pub regroup : {A : Type 0} (row more row' rest front all : List A) → row' ≡ row ++ more → row ++ all ≡ front → all ≡ more ++ rest → row' ++ rest ≡ front
regroup {A = A} row more row' rest front all e f g = ap (λ (z : List A). z ++ rest) e ∙ append_assoc row more rest ∙ ap (λ (z : List A). row ++ z) (sym g) ∙ f

pub act_names-Choose : (a : Act) (e : Expr) (v : Vec Act) (other : Option (Vec Act)) (xs : List Act) → a ≡ acts.Choose e v other → other ≡ None → xs ≡ v.items
    → act_names (act_tree a) ≡ acts_names (act_trees xs)
act_names-Choose a e v other xs h o k =
    ap (λ (a : Act). act_names (act_tree a)) (h ∙ ap (acts.Choose e v) o) ∙ ap act_names (act_tree-Choose e v) ∙ sym (ap (λ (xs : List Act). acts_names (act_trees xs)) k)

pub act_names-ChooseElse : (a : Act) (e : Expr) (v w : Vec Act) (other : Option (Vec Act)) (xs ys : List Act)
    → a ≡ acts.Choose e v other → other ≡ Some w → xs ≡ v.items → ys ≡ w.items
    → act_names (act_tree a) ≡ acts_names (act_trees xs) ++ acts_names (act_trees ys)
act_names-ChooseElse a e v w other xs ys h o k l =
    ap (λ (a : Act). act_names (act_tree a)) (h ∙ ap (acts.Choose e v) o)
    ∙ ap act_names (act_tree-ChooseElse e v w)
    ∙ sym (ap (λ (xs : List Act). acts_names (act_trees xs) ++ acts_names (act_trees w.items)) k)
    ∙ sym (ap (λ (ys : List Act). acts_names (act_trees xs) ++ acts_names (act_trees ys)) l)

-- one more row of what the rows are to be
pub row_pushed : (next : List (Vec ℕ)) (v : Vec ℕ) (f : ℕ → List ℕ) (n : ℕ) → length next ≡ n → ((a : ℕ) → targets next a ≡ cond (nat_lt a n) (f a) []) → v.items ≡ f n
    → (a : ℕ) → targets (next ++ v ∷ []) a ≡ cond (nat_lt a (n + 1)) (f a) []
row_pushed next v f n len so_far here a = targets_push next v a ∙ ap (λ (k : ℕ). cond (nat_eq a k) v.items (targets next a)) len ∙ ⊎_elim same other (cases_eq a n)
  where
    same : a ≡ n → cond (nat_eq a n) v.items (targets next a) ≡ cond (nat_lt a (n + 1)) (f a) []
    same e =
        ap (λ (b : Bool). cond b v.items (targets next a)) (eq-eqb a n e) ∙ here ∙ ap f (sym e)
        ∙ ap (λ (b : Bool). cond b (f a) []) (sym (lt-ltb a (n + 1) (omega arith)))

    other : a ≢ n → cond (nat_eq a n) v.items (targets next a) ≡ cond (nat_lt a (n + 1)) (f a) []
    other ne =
        ap (λ (b : Bool). cond b v.items (targets next a)) (ne_eqb a n ne) ∙ so_far a
        ∙ ap (λ (b : Bool). cond b (f a) []) (let e : nat_lt a n ≡ nat_lt a (n + 1) = grind (arith, nat_tests) in e)

pub in_row_pushed : (next : List (Vec ℕ)) (v : Vec ℕ) (f : ℕ → Bool) (n b : ℕ) → length next ≡ n → ((a : ℕ) → is_in b (targets next a) ≡ (nat_lt a n && f a)) → is_in b v.items ≡ f n
    → (a : ℕ) → is_in b (targets (next ++ v ∷ []) a) ≡ (nat_lt a (n + 1) && f a)
in_row_pushed next v f n b len so_far here a = ap (is_in b) (targets_push next v a ∙ ap (λ (k : ℕ). cond (nat_eq a k) v.items (targets next a)) len) ∙ ⊎_elim same other (cases_eq a n)
  where
    same : a ≡ n → is_in b (cond (nat_eq a n) v.items (targets next a)) ≡ (nat_lt a (n + 1) && f a)
    same e =
        ap (λ (c : Bool). is_in b (cond c v.items (targets next a))) (eq-eqb a n e) ∙ here ∙ ap f (sym e)
        ∙ ap (λ (c : Bool). c && f a) (sym (lt-ltb a (n + 1) (omega arith)))

    other : a ≢ n → is_in b (cond (nat_eq a n) v.items (targets next a)) ≡ (nat_lt a (n + 1) && f a)
    other ne =
        ap (λ (c : Bool). is_in b (cond c v.items (targets next a))) (ne_eqb a n ne) ∙ so_far a
        ∙ ap (λ (c : Bool). c && f a) (let e : nat_lt a n ≡ nat_lt a (n + 1) = grind (arith, nat_tests) in e)

-- a test that is true for all that counts
pub no_test : (t x y : Bool) → (x ≡ true → t ≡ true) → (t && (x && y)) ≡ (x && y)
no_test t true y h = ap (λ (b : Bool). b && y) (h refl)
no_test true false y h = refl
no_test false false y h = refl

pub rows_within : (next : List (Vec ℕ)) (n a b : ℕ) → length next ≤ n → is_in b (targets next a) ≡ true → nat_lt a n ≡ true
rows_within next n a b h e = let l = within next a b e in lt-ltb a n (omega (arith, l))

pub seen_within : (seen : List Bool) (n b : ℕ) → length seen ≤ n → saw seen b ≡ true → nat_lt b n ≡ true
seen_within seen n b h e = let l = saw_below seen b e in lt-ltb b n (omega (arith, l))

-- a node that is not reached adds nothing, and one that is reached adds itself
pub not_reached : (own : ℕ → Option ℕ) (reached : List Bool) (node t b : ℕ) (x : Bool) → saw reached node ≡ false → x ≡ (x || (nat_eq b node && (saw reached b && is_stage t (own b))))
not_reached own reached node t b x h = ⊎_elim
    (λ (e : b ≡ node). let off : saw reached b ≡ false = ap (saw reached) e ∙ h in grind arith)
    (λ ne. let off : nat_eq b node ≡ false = ne_eqb b node ne in grind arith) (cases_eq b node)

pub is_added : (own : ℕ → Option ℕ) (reached : List Bool) (node stage t b : ℕ) (x : Bool) → saw reached node ≡ true → own node ≡ Some stage
    → (x || (nat_eq t stage && nat_eq b node)) ≡ (x || (nat_eq b node && (saw reached b && is_stage t (own b))))
is_added own reached node stage t b x on is = ⊎_elim
    (λ (e : b ≡ node). let here : saw reached b ≡ true = ap (saw reached) e ∙ on in let at : is_stage t (own b) ≡ nat_eq t stage = ap (is_stage t) (ap own e ∙ is) in grind (arith, here, at))
    (λ ne. let off : nat_eq b node ≡ false = ne_eqb b node ne in grind arith) (cases_eq b node)
