-- Compiled replications and concatenations mean what they stand for.
use Rattle.std.proofs.Common.{◌≡◌, ℕ, zero, suc, ◌+◌, ◌*◌, ◌%◌, ◌^◌, ◌<◌, ◌≤◌, List, [], ◌∷◌, length, get_or, drop, take, ◌-◌, refl, sym, ap, ap₂, ◌∙◌, subst, arith}
use Rattle.std.specs.Prelude.{Result, Ok, Err, IfOk}
use Rattle.std.specs.Global.{Vec}
use Rattle.std.proofs.lemmas.Nat.{pow_pos}
use Rattle.std.proofs.Math.Nat.{mod-eq_of_lt}
use Rattle.std.proofs.Math.Pow.{pow_mono}
use Rattle.lisa_words.specs.declared.binary.Operator.{Operator}
use Rattle.lisa_words.specs.declared.binary.Operator.TheVariants as operators
use Rattle.verilog_text.specs.declared.expressions.VExpr.{VExpr}
use Rattle.verilog_text.specs.declared.expressions.VExpr.TheVariants as exprs
use Rattle.verilog_text.specs.Trees as trees
use Rattle.verilog_text.specs.Trees.{VTree, VTrees, vexpr_tree, vexpr_trees, ModuleTree}
use Rattle.verilog_text.specs.Values.{Env, v_width, v_value, parts_width, parts_value, repeated, operate}
use Rattle.verilog_text.specs.Clocked.{env_of, widths_of}
use Rattle.verilog_clock.specs.declared.code.Code.{Code}
use Rattle.verilog_clock.specs.declared.code.Code.TheVariants as codes
use Rattle.verilog_clock.specs.Compiled.{code_value}
use Rattle.verilog_clock.specs.Named.{AreWithin, Means}
use Rattle.verilog_clock.proofs.Trees.{vexpr_tree-Join}
use Rattle.verilog_clock.proofs.Bounds.{AreBound, are_bound, value_below, front_below, repeated_below}

pub if_ok_so : {T E : Type 0} (r : Result T E) (P Q : T → Type 0) → IfOk r P → ((x : T) → P x → Q x) → IfOk r Q
if_ok_so (Ok x) P Q h f = f x h
if_ok_so (Err e) P Q h f = h

-- a product that doesn't reach past a length
repeated_scaled : (times width v : ℕ) → repeated times width v ≡ v * repeated times width 1
repeated_scaled zero width v = omega arith
repeated_scaled (suc times) width v = omega (arith, repeated_scaled times width v)

pub repeated_none : (times width v : ℕ) → width ≡ 0 → v < 2 ^ width → 0 ≡ repeated times width v
repeated_none times width v is below =
    let one : v < 2 ^ 0 = subst (λ (n : ℕ). v < 2 ^ n) is below in
    let none : v ≡ 0 = omega arith in
    omega (arith, repeated_scaled times width v, ap (λ (n : ℕ). n * repeated times width 1) none)

pub repeat_is : (times width v : ℕ) → v < 2 ^ width → v * repeated times width 1 % 2 ^ (times * width) ≡ repeated times width v
repeat_is times width v below =
    ap (λ (n : ℕ). n % 2 ^ (times * width)) (sym (repeated_scaled times width v)) ∙ mod-eq_of_lt (repeated_below times width v below)

pub marks_fit : (place width times : ℕ) → 1 ≤ width → place < times → times * width ≤ 64
    → repeated place width 1 + 1 * 2 ^ (place * width) % 18446744073709551616 < 18446744073709551616
marks_fit place width times some less small =
    let near : suc place * width ≤ times * width = grind arith in
    let more : 2 ^ (suc place * width) ≤ 2 ^ 64 = pow_mono {i = suc place * width} {j = 64} (omega arith) in
    let up : 2 ^ 1 ≤ 2 ^ width = pow_mono some in
    let one : 1 < 2 ^ width = omega arith in
    omega (arith, repeated_below (suc place) width 1 one)

pub beside_is : (length h low r : ℕ) → h * 2 ^ low + r < 2 ^ length → (h * 2 ^ low % 2 ^ length + r) % 2 ^ length ≡ h * 2 ^ low + r
beside_is length h low r below =
    let front : h * 2 ^ low % 2 ^ length ≡ h * 2 ^ low = mod-eq_of_lt (omega arith) in
    ap (λ (n : ℕ). (n + r) % 2 ^ length) front ∙ mod-eq_of_lt below

pub join_is : (e : VExpr) (v : Vec VExpr) (xs : List VExpr) → e ≡ exprs.Join v → xs ≡ v.items → vexpr_tree e ≡ trees.Join (vexpr_trees xs)
join_is e v xs is all = ap vexpr_tree is ∙ vexpr_tree-Join v ∙ ap (λ (es : List VExpr). trees.Join (vexpr_trees es)) (sym all)

parts_below : (env : Env) (xs : List VExpr) → AreBound env → parts_value env (vexpr_trees xs) < 2 ^ parts_width env.widths (vexpr_trees xs)
parts_below env [] bound = pow_pos 0
parts_below env (x ∷ xs) bound =
    front_below _ _ (v_width env.widths (vexpr_tree x)) (parts_width env.widths (vexpr_trees xs))
    (value_below env x (v_width env.widths (vexpr_tree x)) bound (omega arith)) (parts_below env xs bound)

pub parts_mean : (m : ModuleTree) (e : VExpr) (xs : List VExpr) (code : Code) (length : ℕ) → vexpr_tree e ≡ trees.Join (vexpr_trees xs)
    → ((values : List ℕ) (cells : List (List ℕ)) → AreWithin m values cells → code_value values cells code ≡ parts_value (env_of m values cells) (vexpr_trees xs)) → Means m (vexpr_tree e) length code
parts_mean m e xs code length tree is values cells within = is values cells within ∙ sym (ap (λ (t : VTree). v_value (env_of m values cells) t length) tree)

-- what a compiled part many times means
abbrev pub MeansRepeat : ModuleTree → ℕ → VExpr → Code → Type 0
MeansRepeat m times a code = (values : List ℕ) (cells : List (List ℕ)) → AreWithin m values cells
    → code_value values cells code ≡ repeated times (v_width (widths_of m) (vexpr_tree a)) (v_value (env_of m values cells) (vexpr_tree a) (v_width (widths_of m) (vexpr_tree a)))

pub repeat_means : (m : ModuleTree) (a : VExpr) (times width : ℕ) (inner code : Code) → width ≡ v_width (widths_of m) (vexpr_tree a) → Means m (vexpr_tree a) width inner
    → ((values : List ℕ) (cells : List (List ℕ)) → code_value values cells inner < 2 ^ width → code_value values cells code ≡ repeated times width (code_value values cells inner))
    → MeansRepeat m times a code
repeat_means m a times width inner code own means gives values cells within =
    let env = env_of m values cells in
    let value : code_value values cells inner ≡ v_value env (vexpr_tree a) width = means values cells within in
    let same : code_value values cells inner ≡ v_value env (vexpr_tree a) (v_width (widths_of m) (vexpr_tree a)) = value ∙ ap (v_value env (vexpr_tree a)) own in
    let below : code_value values cells inner < 2 ^ width = subst (λ (n : ℕ). n < 2 ^ width) (sym value)
    (value_below env a width (are_bound m values cells within) (omega (arith, own))) in
    gives values cells below ∙ ap₂ (λ (w v : ℕ). repeated times w v) own same

pub repeats_mean : (m : ModuleTree) (e a b : VExpr) (times : ℕ) (code : Code) (length : ℕ) → vexpr_tree e ≡ trees.Repeat times (vexpr_tree a) → b ≡ a → MeansRepeat m times b code → Means m (vexpr_tree e) length code
repeats_mean m e a b times code length tree same is values cells within =
    subst (λ (x : VExpr). MeansRepeat m times x code) same is values cells within ∙ sym (ap (λ (t : VTree). v_value (env_of m values cells) t length) tree)

abbrev pub IsTwo : Operator → ℕ → Code → Code → Code → Type 0
IsTwo op length a b code = (values : List ℕ) (cells : List (List ℕ)) → code_value values cells code ≡ operate op length (code_value values cells a) (code_value values cells b)

pub beside_means : (length low amount : ℕ) (high front rest code : Code) → amount ≡ low → IsTwo operators.Left length high (codes.Number amount) front → IsTwo operators.Add length front rest code
    → (values : List ℕ) (cells : List (List ℕ)) → code_value values cells high * 2 ^ low + code_value values cells rest < 2 ^ length
    → code_value values cells code ≡ code_value values cells high * 2 ^ low + code_value values cells rest
beside_means length low amount high front rest code is_low is_front is values cells below =
    is values cells ∙ ap (λ (x : ℕ). operate operators.Add length x (code_value values cells rest)) (is_front values cells ∙ ap (operate operators.Left length (code_value values cells high)) is_low)
    ∙ beside_is length (code_value values cells high) low (code_value values cells rest) below

pub product_means : (times width length marks : ℕ) (a code : Code) → length ≡ times * width → marks ≡ repeated times width 1 → IsTwo operators.Mul length a (codes.Number marks) code
    → (values : List ℕ) (cells : List (List ℕ)) → code_value values cells a < 2 ^ width → code_value values cells code ≡ repeated times width (code_value values cells a)
product_means times width length marks a code is_length is_marks is values cells below =
    is values cells ∙ ap₂ (λ (n x : ℕ). operate operators.Mul n (code_value values cells a) x) is_length is_marks ∙ repeat_is times width (code_value values cells a) below

-- what compiled parts mean
abbrev pub MeansParts : ModuleTree → List VExpr → Code → Type 0
MeansParts m xs code = (values : List ℕ) (cells : List (List ℕ)) → AreWithin m values cells → code_value values cells code ≡ parts_value (env_of m values cells) (vexpr_trees xs)

take_whole : {X : Type 0} (n : ℕ) (xs : List X) → length xs ≤ n → take n xs ≡ xs
take_whole zero [] le = refl
take_whole (suc n) [] le = refl
take_whole zero (x ∷ xs) le = absurd (omega arith)
take_whole (suc n) (x ∷ xs) le = ap (λ ys. x ∷ ys) (take_whole n xs (omega arith))

pub split_list : {X : Type 0} (xs : List X) (x : X) → 1 ≤ length xs → x ≡ get_or xs 0 x → xs ≡ x ∷ take (length xs - 1) (drop 1 xs)
split_list [] x some is = absurd (omega arith)
split_list (y ∷ ys) x some is = ap₂ (λ z zs. z ∷ zs) (sym is) (sym (take_whole (length (y ∷ ys) - 1) ys (omega arith)))

pub join_means : (m : ModuleTree) (parts : List VExpr) (first : VExpr) (rest : List VExpr) (width low length : ℕ) (high behind code : Code)
    → parts ≡ first ∷ rest → width ≡ v_width (widths_of m) (vexpr_tree first) → low ≡ parts_width (widths_of m) (vexpr_trees rest) → length ≡ width + low
    → Means m (vexpr_tree first) width high → MeansParts m rest behind
    → ((values : List ℕ) (cells : List (List ℕ)) → code_value values cells high * 2 ^ low + code_value values cells behind < 2 ^ length
    → code_value values cells code ≡ code_value values cells high * 2 ^ low + code_value values cells behind)
    → MeansParts m parts code
join_means m parts first rest width low length high behind code split wide under is_length means others gives values cells within =
    let env = env_of m values cells in
    let h : code_value values cells high ≡ v_value env (vexpr_tree first) (v_width (widths_of m) (vexpr_tree first)) = means values cells within ∙ ap (v_value env (vexpr_tree first)) wide in
    let r : code_value values cells behind ≡ parts_value env (vexpr_trees rest) = others values cells within in
    let bound = are_bound m values cells within in
    let h_below : code_value values cells high < 2 ^ width = subst (λ (n : ℕ). n < 2 ^ width) (sym (means values cells within)) (value_below env first width bound (omega (arith, wide))) in
    let r_below : code_value values cells behind < 2 ^ low = subst (λ (n : ℕ). code_value values cells behind < 2 ^ n) (sym under) (subst (λ (n : ℕ). n < 2 ^ parts_width (widths_of m) (vexpr_trees rest)) (sym r) (parts_below env rest bound)) in
    let below = front_below _ _ width low h_below r_below in
    gives values cells (subst (λ (n : ℕ). code_value values cells high * 2 ^ low + code_value values cells behind < 2 ^ n) (sym is_length) below)
    ∙ ap₂ (λ (x y : ℕ). x * 2 ^ low + y) h r
    ∙ ap (λ (n : ℕ). v_value env (vexpr_tree first) (v_width (widths_of m) (vexpr_tree first)) * 2 ^ n + parts_value env (vexpr_trees rest)) under
    ∙ sym (ap (λ (es : List VExpr). parts_value env (vexpr_trees es)) split)
