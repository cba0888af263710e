-- What is stored write by write is what the map holds.
use Rattle.std.proofs.Common.{◌≡◌, ◌≢◌, ℕ, ◌+◌, ◌-◌, ◌<◌, ◌≤◌, max, Bool, true, false, cond, List, [], ◌∷◌, ◌++◌, length, map, get_or, set, replicate, Option, Some, None, unwrap_or, refl, sym, ap, ◌∙◌, arith, ⊎_elim, append_assoc, length-append, eq-eqb, ne_eqb, get_or-set_same, get_or-set_other}
use Rattle.std.specs.Prelude.{◌==◌}
use Rattle.std.specs.List.{range_with_len, fold}
use Rattle.std.proofs.Math.ListN.{get_or-append}
use Rattle.std.proofs.lemmas.Bool.{cases_lt, lt-ltb, le-ltb}
use Rattle.std.proofs.lemmas.List.{append-nil, length-set, length-replicate, get_or_past, get_or-append_right, get_or-replicate}
use Rattle.std.proofs.lemmas.List.FromFn.{get_or-map-range_with_len, length-map-range_with_len}
use Rattle.std.proofs.lemmas.Grind.{elements}
use Rattle.hex_files.specs.Maps.{Write, or_else, held_at, reach, values_of, laid, stored}

abbrev zeros : ℕ → List ℕ
zeros n = replicate n 0

-- the list that a write lengthens
longer : List ℕ → Write → List ℕ
longer xs w = xs ++ (replicate (w.0 - length xs) 0 ++ w.1 ∷ [])

length-longer : (xs : List ℕ) (w : Write) → length xs ≤ w.0 → length (longer xs w) ≡ w.0 + 1
unfolding longer
length-longer xs w le = omega (arith, length-append xs (replicate (w.0 - length xs) 0 ++ w.1 ∷ []), length-append (zeros (w.0 - length xs)) (w.1 ∷ []), length-replicate {A = ℕ} (w.0 - length xs) 0)

pub length-stored : (xs : List ℕ) (w : Write) → length (stored xs w) ≡ max (length xs) (w.0 + 1)
unfolding longer
length-stored xs w = ⊎_elim
    (λ lt. ap (λ b. length (cond b (set xs w.0 w.1) (longer xs w))) (lt-ltb w.0 (length xs) lt) ∙ length-set xs w.0 w.1 ∙ omega arith)
    (λ le. ap (λ b. length (cond b (set xs w.0 w.1) (longer xs w))) (le-ltb w.0 (length xs) le) ∙ length-longer xs w le ∙ omega arith)
    (cases_lt w.0 (length xs))

-- what a list has at a place after a write
abbrev after_write : List ℕ → Write → ℕ → ℕ
after_write xs w place = cond (w.0 == place) w.1 (get_or xs place 0)

here : (xs : List ℕ) (w : Write) (place : ℕ) → w.0 ≡ place → after_write xs w place ≡ w.1
here xs w place e = ap (λ b. cond b w.1 (get_or xs place 0)) (eq-eqb w.0 place e)

elsewhere : (xs : List ℕ) (w : Write) (place : ℕ) → w.0 ≢ place → after_write xs w place ≡ get_or xs place 0
elsewhere xs w place n = ap (λ b. cond b w.1 (get_or xs place 0)) (ne_eqb w.0 place n)

set_at : (xs : List ℕ) (w : Write) (place : ℕ) → w.0 < length xs → get_or (set xs w.0 w.1) place 0 ≡ after_write xs w place
set_at xs w place lt = ⊎_elim
    (λ below. let ne : place ≢ w.0 = omega arith in get_or-set_other xs w.0 place w.1 0 ne ∙ sym (elsewhere xs w place (omega arith)))
    (λ le. ⊎_elim
    (λ above. let ne : place ≢ w.0 = omega arith in get_or-set_other xs w.0 place w.1 0 ne ∙ sym (elsewhere xs w place (omega arith)))
    (λ ge. let e : w.0 ≡ place = omega arith in ap (λ k. get_or (set xs w.0 w.1) k 0) (sym e) ∙ get_or-set_same xs w.0 w.1 0 lt ∙ sym (here xs w place e))
    (cases_lt w.0 place))
    (cases_lt place w.0)

longer_at : (xs : List ℕ) (w : Write) (place : ℕ) → length xs ≤ w.0 → get_or (longer xs w) place 0 ≡ after_write xs w place
unfolding longer
longer_at xs w place le = ⊎_elim
    (λ inside. get_or-append xs (replicate (w.0 - length xs) 0 ++ w.1 ∷ []) 0 place inside ∙ sym (elsewhere xs w place (omega arith)))
    (λ past. get_or-append_right xs (replicate (w.0 - length xs) 0 ++ w.1 ∷ []) (length xs) place 0 refl past ∙ tail_at past)
    (cases_lt place (length xs))
  where
    tail_at : length xs ≤ place → get_or (replicate (w.0 - length xs) 0 ++ w.1 ∷ []) (place - length xs) 0 ≡ after_write xs w place
    tail_at past = ⊎_elim
        (λ lt.
        get_or-append (zeros (w.0 - length xs)) (w.1 ∷ []) 0 (place - length xs) (omega (arith, length-replicate {A = ℕ} (w.0 - length xs) 0))
        ∙ get_or-replicate {A = ℕ} (w.0 - length xs) (place - length xs) 0 0 (omega arith) ∙ sym (elsewhere xs w place (omega arith) ∙ get_or_past xs place 0 past))
        (λ ge.
        get_or-append_right (zeros (w.0 - length xs)) (w.1 ∷ []) (w.0 - length xs) (place - length xs) 0 (length-replicate {A = ℕ} (w.0 - length xs) 0) (omega arith)
        ∙ ⊎_elim
        (λ above. get_or_past (w.1 ∷ []) (place - length xs - (w.0 - length xs)) 0 (omega arith) ∙ sym (elsewhere xs w place (omega arith) ∙ get_or_past xs place 0 past))
        (λ at. let e : w.0 ≡ place = omega arith in let z : place - length xs - (w.0 - length xs) ≡ 0 = omega arith in ap (λ k. get_or (w.1 ∷ []) k 0) z ∙ sym (here xs w place e))
        (cases_lt w.0 place))
        (cases_lt place w.0)

pub stored_at : (xs : List ℕ) (w : Write) (place : ℕ) → get_or (stored xs w) place 0 ≡ after_write xs w place
unfolding longer
stored_at xs w place = ⊎_elim
    (λ lt. ap (λ b. get_or (cond b (set xs w.0 w.1) (longer xs w)) place 0) (lt-ltb w.0 (length xs) lt) ∙ set_at xs w place lt)
    (λ le. ap (λ b. get_or (cond b (set xs w.0 w.1) (longer xs w)) place 0) (le-ltb w.0 (length xs) le) ∙ longer_at xs w place le)
    (cases_lt w.0 (length xs))

length-stored_all : (xs : List ℕ) (ws : List Write) → length (fold stored xs ws) ≡ max (length xs) (reach ws)
unfolding reach
length-stored_all xs [] = omega arith
length-stored_all xs (w ∷ ws) = omega (arith, length-stored_all (stored xs w) ws, length-stored xs w)

over : (later : Option ℕ) (b : Bool) (value old : ℕ) → unwrap_or later (cond b value old) ≡ unwrap_or (or_else later (cond b (Some value) None)) old
over None true value old = refl
over None false value old = refl
over (Some v) b value old = refl

stored_all_at : (xs : List ℕ) (ws : List Write) (place : ℕ) → get_or (fold stored xs ws) place 0 ≡ unwrap_or (held_at ws place) (get_or xs place 0)
unfolding held_at
stored_all_at xs [] place = refl
stored_all_at xs (w ∷ ws) place =
    stored_all_at (stored xs w) ws place ∙ ap (λ (old : ℕ). unwrap_or (held_at ws place) old) (stored_at xs w place)
    ∙ over (held_at ws place) (w.0 == place) w.1 (get_or xs place 0)

same_values : (xs ys : List ℕ) → length xs ≡ length ys → ((i : ℕ) → i < length xs → get_or xs i 0 ≡ get_or ys i 0) → xs ≡ ys
same_values xs ys h k = grind (arith, elements)

pub all_stored : (ws : List Write) → fold stored [] ws ≡ values_of ws
unfolding values_of
all_stored ws =
    same_values (fold stored [] ws) (map (λ place. unwrap_or (held_at ws place) 0) (range_with_len 0 (reach ws)))
    (omega (arith, length-stored_all [] ws, length-map-range_with_len (λ place. unwrap_or (held_at ws place) 0) 0 (reach ws)))
    (λ i lt. stored_all_at [] ws i ∙ sym (get_or-map-range_with_len (λ place. unwrap_or (held_at ws place) 0) 0 (reach ws) i i 0 (omega (arith, length-stored_all [] ws)) (omega arith)))

-- values one behind the other
laid_on : (front values : List ℕ) → fold stored front (laid (length front) values) ≡ front ++ values
unfolding laid
laid_on front [] = sym (append-nil front)
laid_on front (v ∷ vs) =
    ap (λ (l : List ℕ). fold stored l (laid (length front + 1) vs)) (pushed front v)
    ∙ ap (λ (n : ℕ). fold stored (front ++ v ∷ []) (laid n vs)) (sym (length-append front (v ∷ []))) ∙ laid_on (front ++ v ∷ []) vs ∙ append_assoc front (v ∷ []) vs
  where
    pushed : (xs : List ℕ) (x : ℕ) → stored xs (length xs, x) ≡ xs ++ x ∷ []
    pushed xs x =
        ap (λ b. cond b (set xs (length xs) x) (xs ++ (replicate (length xs - length xs) 0 ++ x ∷ []))) (le-ltb (length xs) (length xs) (omega arith))
        ∙ (let e : length xs - length xs ≡ 0 = omega arith in ap (λ (n : ℕ). xs ++ (replicate n 0 ++ x ∷ [])) e)

pub values_laid : (values : List ℕ) → values_of (laid 0 values) ≡ values
values_laid values = sym (all_stored (laid 0 values)) ∙ laid_on [] values
