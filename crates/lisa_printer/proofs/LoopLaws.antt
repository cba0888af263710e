-- Loops that write what each item of a list gives, and what holds a vector.
use Rattle.std.proofs.Common.{◌≡◌, ℕ, suc, ◌+◌, ◌-◌, ◌<◌, List, [], ◌∷◌, ◌++◌, length, take, drop, get_or, Bool, true, false, Option, Some, None, refl, sym, ap, ◌∙◌, arith, append_assoc}
use Rattle.std.specs.Global.{Vec}
use Rattle.std.proofs.Math.Seq.{drop-cons}
use Rattle.std.proofs.lemmas.List.{append-nil, take_rest}
use Rattle.lisa_tree.specs.declared.tokens.Sign.{Sign}
use Rattle.lisa_tree.specs.declared.tokens.Sign.TheVariants as signs
use Rattle.lisa_tree.specs.declared.tokens.TokenPart.TheVariants as parts
use Rattle.lisa_tree.specs.declared.tokens.Keyword.TheVariants as keywords
use Rattle.lisa_tree.specs.DescriptionGrammar.{word, names_by}
use Rattle.lisa_tree.specs.declared.expressions.Expr.{Expr}
use Rattle.lisa_tree.specs.declared.statements.Stmt.{Stmt}
use Rattle.lisa_tree.specs.declared.statements.Stmt.TheVariants as stmts
use Rattle.lisa_tree.specs.declared.descriptions.Act.{Act}
use Rattle.lisa_tree.specs.declared.descriptions.Act.TheVariants as acts
use Rattle.lisa_tree.specs.Grammar.{Toks, mark}
use Rattle.lisa_tree.specs.Expressions.{ExprTree, expr_tree}
use Rattle.lisa_tree.specs.Statements.{stmt_tree, stmt_trees}
use Rattle.lisa_tree.specs.Activations.{ActTree, ActTrees, act_tree, act_trees}
use Rattle.lisa_tree.specs.Activations as activations
use Rattle.lisa_tree.proofs.Views.{stmt_tree-Block, act_tree-Choose, act_tree-ChooseElse}
use Rattle.lisa_printer.specs.CanonicalTokens.{expr_tokens, stmt_tokens, stmts_tokens, act_tokens, acts_tokens, more_acts_tokens, comma_unless, instance_tokens, instances_tokens, more_names, more_instances}
use Rattle.lisa_printer.specs.Sheets.{Sheet, write, write_all}
use Rattle.lisa_printer.proofs.SheetLaws.{write_all-append}

-- where what is written and what is left made the whole, they do so after one more item
pub one_more_of : {A : Type 0} (f h : List A → Toks) (x : A) (g : Toks) → ((xs : List A) → f (x ∷ xs) ≡ g ++ h xs)
    → (all : List A) (i : ℕ) (before after whole : Sheet) → i < length all → x ≡ get_or all i x
    → write_all before (f (drop i all)) ≡ whole → after ≡ write_all before g → write_all after (h (drop (i + 1) all)) ≡ whole
one_more_of {A = A} f h x g unrolled all i before after whole lt is inv wrote =
    let e : suc i ≡ i + 1 = omega arith in
    let next : f (drop i all) ≡ g ++ h (drop (i + 1) all) =
    ap f (drop-cons all i x lt ∙ ap (λ (y : A). y ∷ drop (suc i) all) (sym is) ∙ ap (λ (n : ℕ). x ∷ drop n all) e) ∙ unrolled (drop (i + 1) all) in
    ap (λ (s : Sheet). write_all s (h (drop (i + 1) all))) wrote ∙ sym (write_all-append before g (h (drop (i + 1) all))) ∙ sym (ap (write_all before) next) ∙ inv

pub one_more : {A : Type 0} (f : List A → Toks) (g : A → Toks) → ((x : A) (xs : List A) → f (x ∷ xs) ≡ g x ++ f xs)
    → (all : List A) (i : ℕ) (x : A) (before after whole : Sheet) → i < length all → x ≡ get_or all i x
    → write_all before (f (drop i all)) ≡ whole → after ≡ write_all before (g x) → write_all after (f (drop (i + 1) all)) ≡ whole
one_more f g unrolled all i x before after whole lt is inv wrote = one_more_of f f x (g x) (unrolled x) all i before after whole lt is inv wrote

-- the first item, and then the others
pub first_then : {A : Type 0} (f more : List A → Toks) (x : A) (g : Toks) → ((xs : List A) → f (x ∷ xs) ≡ g ++ more xs)
    → (all : List A) (before middle after : Sheet) → 0 < length all → x ≡ get_or all 0 x
    → middle ≡ write_all before g → after ≡ write_all middle (more (take (length all - 1) (drop 1 all))) → after ≡ write_all before (f all)
first_then {A = A} f more x g unrolled all before middle after lt is wrote rest =
    rest ∙ ap (λ (xs : List A). write_all middle (more xs)) (take_rest all 1) ∙ one_more_of f more x g unrolled all 0 before middle (write_all before (f all)) lt is refl wrote

pub stmt_tokens-Block : (s : Stmt) (v : Vec Stmt) (xs : List Stmt) → s ≡ stmts.Block v → xs ≡ v.items
    → stmt_tokens (stmt_tree s) ≡ mark signs.OpenBrace ∷ (stmts_tokens (stmt_trees xs) ++ mark signs.CloseBrace ∷ [])
stmt_tokens-Block s v xs h k =
    ap (λ (s : Stmt). stmt_tokens (stmt_tree s)) h ∙ ap stmt_tokens (stmt_tree-Block v)
    ∙ sym (ap (λ (xs : List Stmt). mark signs.OpenBrace ∷ (stmts_tokens (stmt_trees xs) ++ mark signs.CloseBrace ∷ [])) k)

pub act_tokens-Choose : (a : Act) (e : Expr) (v : Vec Act) (other : Option (Vec Act)) (xs : List Act) → a ≡ acts.Choose e v other → other ≡ None → xs ≡ v.items
    → act_tokens (act_tree a) ≡ act_tokens (activations.Choose (expr_tree e) (act_trees xs))
act_tokens-Choose a e v other xs h o k =
    ap (λ (a : Act). act_tokens (act_tree a)) (h ∙ ap (acts.Choose e v) o) ∙ ap act_tokens (act_tree-Choose e v)
    ∙ sym (ap (λ (xs : List Act). act_tokens (activations.Choose (expr_tree e) (act_trees xs))) k)

pub act_tokens-ChooseElse : (a : Act) (e : Expr) (v w : Vec Act) (other : Option (Vec Act)) (xs ys : List Act)
    → a ≡ acts.Choose e v other → other ≡ Some w → xs ≡ v.items → ys ≡ w.items
    → act_tokens (act_tree a) ≡ act_tokens (activations.ChooseElse (expr_tree e) (act_trees xs) (act_trees ys))
act_tokens-ChooseElse a e v w other xs ys h o k l =
    ap (λ (a : Act). act_tokens (act_tree a)) (h ∙ ap (acts.Choose e v) o) ∙ ap act_tokens (act_tree-ChooseElse e v w)
    ∙ sym (ap (λ (xs : List Act). act_tokens (activations.ChooseElse (expr_tree e) (act_trees xs) (act_trees w.items))) k)
    ∙ sym (ap (λ (ys : List Act). act_tokens (activations.ChooseElse (expr_tree e) (act_trees xs) (act_trees ys))) l)

pub names_by-cons : (sign : Sign) (name : List ℕ) (rest : List (List ℕ)) → names_by sign (name ∷ rest) ≡ parts.Named name ∷ more_names sign rest
names_by-cons sign name [] = refl
names_by-cons sign name (next ∷ rest) = ap (λ (ts : Toks). parts.Named name ∷ mark sign ∷ ts) (names_by-cons sign next rest)

pub instances_tokens-cons : (a : List ℕ × List ℕ) (rest : List (List ℕ × List ℕ)) → instances_tokens (a ∷ rest) ≡ instance_tokens a ++ more_instances rest
instances_tokens-cons a [] = sym (append-nil (instance_tokens a))
instances_tokens-cons a (b ∷ rest) = ap (λ (ts : Toks). instance_tokens a ++ (mark signs.Comma ∷ ts)) (instances_tokens-cons b rest)

-- ---- a choice

abbrev choice_front : ExprTree → Toks
choice_front e = word keywords.If ∷ mark signs.OpenRound ∷ (expr_tokens 0 e ++ mark signs.CloseRound ∷ [])

abbrev braced_acts : ActTrees → Toks
braced_acts xs = mark signs.OpenBrace ∷ (acts_tokens xs ++ mark signs.CloseBrace ∷ [])

pub choice_written : (e : ExprTree) (xs : ActTrees) (first then last : Sheet)
    → then ≡ write_all first (choice_front e) → last ≡ write_all then (braced_acts xs) → last ≡ write_all first (act_tokens (activations.Choose e xs))
choice_written e xs first then last h k =
    k ∙ ap (λ (s : Sheet). write_all s (braced_acts xs)) h ∙ sym (write_all-append first (choice_front e) (braced_acts xs))
    ∙ ap (λ (ts : Toks). write_all first (word keywords.If ∷ mark signs.OpenRound ∷ ts)) (append_assoc (expr_tokens 0 e) (mark signs.CloseRound ∷ []) (braced_acts xs))

pub choice_else_written : (e : ExprTree) (xs ys : ActTrees) (first then chosen worded last : Sheet)
    → then ≡ write_all first (choice_front e) → chosen ≡ write_all then (braced_acts xs) → worded ≡ write chosen (word keywords.Else) → last ≡ write_all worded (braced_acts ys)
    → last ≡ write_all first (act_tokens (activations.ChooseElse e xs ys))
choice_else_written e xs ys first then chosen worded last h k l m =
    let other : Toks = word keywords.Else ∷ braced_acts ys in
    let joined : braced_acts xs ++ other ≡ mark signs.OpenBrace ∷ (acts_tokens xs ++ (mark signs.CloseBrace ∷ other)) =
    ap (λ (ts : Toks). mark signs.OpenBrace ∷ ts) (append_assoc (acts_tokens xs) (mark signs.CloseBrace ∷ []) other) in
    m ∙ ap (λ (s : Sheet). write_all s (braced_acts ys)) l ∙ ap (λ (s : Sheet). write_all s other) k ∙ sym (write_all-append then (braced_acts xs) other)
    ∙ ap (λ (s : Sheet). write_all s (braced_acts xs ++ other)) h ∙ sym (write_all-append first (choice_front e) (braced_acts xs ++ other))
    ∙ ap (λ (ts : Toks). write_all first (word keywords.If ∷ mark signs.OpenRound ∷ ts)) (append_assoc (expr_tokens 0 e) (mark signs.CloseRound ∷ []) (braced_acts xs ++ other))
    ∙ ap (λ (ts : Toks). write_all first (word keywords.If ∷ mark signs.OpenRound ∷ (expr_tokens 0 e ++ (mark signs.CloseRound ∷ ts)))) joined

-- the items, where the first of them has a comma before it or hasn't
abbrev pub acts_after : Bool → ActTrees → Toks
acts_after true xs = acts_tokens xs
acts_after false xs = more_acts_tokens xs

pub acts_after-Then : (first : Bool) (a : ActTree) (rest : ActTrees) → acts_after first (activations.Then a rest) ≡ (comma_unless first ++ act_tokens a) ++ more_acts_tokens rest
acts_after-Then true a rest = refl
acts_after-Then false a rest = refl
