-- Widths that differ, found one after the other.
use Rattle.std.proofs.Common.{◌≡◌, ◌<◌, ◌+◌, ℕ, Bool, true, false, List, ◌++◌, Option, None, Some, ◌||◌, not, nat_eq, length, get_or, drop, drop-cons, refl, ap, sym, ◌∙◌, add-one}
use Rattle.std.specs.Option.{option_or, option_to_list}
use Rattle.std.specs.List.{list_any}
use Rattle.coding_checks.specs.Uneven.{known_widths, differ, are_apart}

-- some of these widths differ from each other or from one before them
abbrev pub differ_from : Option ℕ → List ℕ → Bool
differ_from None ws = differ ws
differ_from (Some w) ws = list_any (λ v. not (nat_eq v w)) ws

one_operation : (widths : ℕ → Option ℕ) (ks : List ℕ) (i : ℕ) → i < length ks → known_widths widths (drop i ks) ≡ option_to_list (widths (get_or ks i 0)) ++ known_widths widths (drop (i + 1) ks)
one_operation widths ks i h =
    ap (known_widths widths) (drop-cons ks i 0 h)
    ∙ ap (λ (m : ℕ). option_to_list (widths (get_or ks i 0)) ++ known_widths widths (drop m ks)) (sym (add-one i))

found : (x first : Option ℕ) (rest : List ℕ) → are_apart x first ≡ true → differ_from first (option_to_list x ++ rest) ≡ true
found None first rest e = absurd (cc e)
found (Some v) None rest e = absurd (cc e)
found (Some v) (Some w) rest e = ap (λ (b : Bool). b || list_any (λ v. not (nat_eq v w)) rest) e

passed : (x first : Option ℕ) (rest : List ℕ) → are_apart x first ≡ false → differ_from first (option_to_list x ++ rest) ≡ differ_from (option_or first x) rest
passed None None rest e = refl
passed None (Some w) rest e = refl
passed (Some v) None rest e = refl
passed (Some v) (Some w) rest e = ap (λ (b : Bool). b || list_any (λ v. not (nat_eq v w)) rest) e

pub apart_now : (widths : ℕ → Option ℕ) (ks : List ℕ) (i : ℕ) (x first : Option ℕ) → i < length ks → x ≡ widths (get_or ks i 0) → are_apart x first ≡ true → differ_from first (known_widths widths (drop i ks)) ≡ true
apart_now widths ks i x first h e apart =
    ap (differ_from first) (one_operation widths ks i h)
    ∙ ap (λ (y : Option ℕ). differ_from first (option_to_list y ++ known_widths widths (drop (i + 1) ks))) (sym e)
    ∙ found x first (known_widths widths (drop (i + 1) ks)) apart

pub apart_later : (widths : ℕ → Option ℕ) (ks : List ℕ) (i : ℕ) (x first next : Option ℕ) → i < length ks → x ≡ widths (get_or ks i 0) → are_apart x first ≡ false → next ≡ option_or first x
    → differ_from first (known_widths widths (drop i ks)) ≡ differ_from next (known_widths widths (drop (i + 1) ks))
apart_later widths ks i x first next h e apart is =
    ap (differ_from first) (one_operation widths ks i h)
    ∙ ap (λ (y : Option ℕ). differ_from first (option_to_list y ++ known_widths widths (drop (i + 1) ks))) (sym e)
    ∙ passed x first (known_widths widths (drop (i + 1) ks)) apart
    ∙ ap (λ (y : Option ℕ). differ_from y (known_widths widths (drop (i + 1) ks))) (sym is)
