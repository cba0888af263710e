-- Lines of an input that grows, and their answers.
use Rattle.std.proofs.Common.{◌≡◌, ℕ, zero, suc, ◌-◌, ◌<◌, List, [], ◌∷◌, ◌++◌, length, take, get_or, Bool, true, false, cond, refl, sym, ap, subst, ◌∙◌, arith, append_assoc, length-append}
use Rattle.std.specs.Prelude.{◌==◌, fold}
use Rattle.std.specs.List.{onto_first}
use Rattle.std.proofs.lemmas.Grind.{fold-append}
use Rattle.std.proofs.lemmas.Bool.{eqb-true}
use Rattle.std.proofs.lemmas.List.{append-nil, take_all, take-append-le, get_or_push}
use Rattle.lisa_engine.specs.Machines.{Course}
use Rattle.lisa_debug.specs.Answers.{Answer, answer}
use Rattle.lisa_debug.specs.Sessions.{first_answer, next_answer, answered, answers, parts, whole_lines, rest_of, last_line, lines_of}
use Rattle.lisa_debug.specs.declared.command.Go.{Go}
use Rattle.lisa_debug.specs.declared.command.Go.TheVariants.{On, Quit}

is_feed : ℕ → Bool
is_feed = λ byte. byte == 10

-- there is always a part
some_part : (xs : List ℕ) → 0 < length (parts xs)
some_part [] = omega arith
some_part (x ∷ xs) = elim (x == 10) as (λ b. 0 < length (cond b ([] ∷ parts xs) (onto_first x (parts xs)))) [ true ↦ omega arith | false ↦ onto_some x (parts xs) (some_part xs) ]
  where
    onto_some : (y : ℕ) (ps : List (List ℕ)) → 0 < length ps → 0 < length (onto_first y ps)
    onto_some y [] some = absurd (omega arith)
    onto_some y (p ∷ ps) some = omega arith

onto_more : (x : ℕ) (ps qs : List (List ℕ)) → 0 < length ps → onto_first x (ps ++ qs) ≡ onto_first x ps ++ qs
onto_more x [] qs some = absurd (omega arith)
onto_more x (p ∷ ps) qs some = refl

-- a line feed begins another part
parts_feed : (xs : List ℕ) → parts (xs ++ 10 ∷ []) ≡ parts xs ++ [] ∷ []
parts_feed [] = refl
parts_feed (x ∷ xs) = elim (x == 10) as (λ b. cond b ([] ∷ parts (xs ++ 10 ∷ [])) (onto_first x (parts (xs ++ 10 ∷ []))) ≡ cond b ([] ∷ parts xs) (onto_first x (parts xs)) ++ [] ∷ [])
    [ true ↦ ap (λ ps. [] ∷ ps) (parts_feed xs) | false ↦ ap (onto_first x) (parts_feed xs) ∙ onto_more x (parts xs) ([] ∷ []) (some_part xs) ]

-- one more byte in the last part
abbrev grown : ℕ → List (List ℕ) → List (List ℕ)
grown b [] = []
grown b (p ∷ []) = (p ++ b ∷ []) ∷ []
grown b (p ∷ q ∷ more) = p ∷ grown b (q ∷ more)

grown_behind : (b : ℕ) (p : List ℕ) (ps : List (List ℕ)) → 0 < length ps → grown b (p ∷ ps) ≡ p ∷ grown b ps
grown_behind b p [] some = absurd (omega arith)
grown_behind b p (q ∷ qs) some = refl

grown_onto : (b x : ℕ) (ps : List (List ℕ)) → 0 < length ps → onto_first x (grown b ps) ≡ grown b (onto_first x ps)
grown_onto b x [] some = absurd (omega arith)
grown_onto b x (p ∷ []) some = refl
grown_onto b x (p ∷ q ∷ more) some = refl

grown_last : (b : ℕ) (ws : List (List ℕ)) (r : List ℕ) → grown b (ws ++ r ∷ []) ≡ ws ++ (r ++ b ∷ []) ∷ []
grown_last b [] r = refl
grown_last b (w ∷ ws) r = grown_behind b w (ws ++ r ∷ []) (omega (arith, length-append ws (r ∷ []))) ∙ ap (λ ps. w ∷ ps) (grown_last b ws r)

parts_other : (b : ℕ) → (b == 10) ≡ false → (xs : List ℕ) → parts (xs ++ b ∷ []) ≡ grown b (parts xs)
parts_other b other [] = ap (λ t. cond t ([] ∷ [] ∷ []) ((b ∷ []) ∷ [])) other
parts_other b other (x ∷ xs) = elim (x == 10) as (λ t. cond t ([] ∷ parts (xs ++ b ∷ [])) (onto_first x (parts (xs ++ b ∷ []))) ≡ grown b (cond t ([] ∷ parts xs) (onto_first x (parts xs)))) [
  | true ↦ ap (λ ps. [] ∷ ps) (parts_other b other xs) ∙ sym (grown_behind b [] (parts xs) (some_part xs))
  | false ↦ ap (onto_first x) (parts_other b other xs) ∙ grown_onto b x (parts xs) (some_part xs)
]

-- a list is all but its last element, and that one
rebuilt_at : {X : Type 0} (n : ℕ) (ps : List X) (d : X) → length ps ≡ suc n → ps ≡ take n ps ++ get_or ps n d ∷ []
rebuilt_at zero [] d long = absurd (omega arith)
rebuilt_at (suc n) [] d long = absurd (omega arith)
rebuilt_at zero (p ∷ []) d long = refl
rebuilt_at zero (p ∷ q ∷ more) d long = absurd (omega arith)
rebuilt_at (suc n) (p ∷ ps) d long = ap (λ t. p ∷ t) (rebuilt_at n ps d (omega arith))

rebuilt : {X : Type 0} (ps : List X) (d : X) → 0 < length ps → ps ≡ take (length ps - 1) ps ++ get_or ps (length ps - 1) d ∷ []
rebuilt ps d some = rebuilt_at (length ps - 1) ps d (omega arith)

front_is : {X : Type 0} (ps ws : List X) (r : X) → ps ≡ ws ++ r ∷ [] → take (length ps - 1) ps ≡ ws
front_is ps ws r is =
    let long : length ws ≡ length ps - 1 = omega (arith, ap length is, length-append ws (r ∷ [])) in
    ap (take (length ps - 1)) is ∙ take-append-le (length ps - 1) ws (r ∷ []) (omega arith) ∙ take_all (length ps - 1) ws (omega arith)

last_is : {X : Type 0} (ps ws : List X) (r d : X) → ps ≡ ws ++ r ∷ [] → get_or ps (length ps - 1) d ≡ r
last_is ps ws r d is =
    let long : length ws ≡ length ps - 1 = omega (arith, ap length is, length-append ws (r ∷ [])) in
    ap (λ l. get_or l (length ps - 1) d) is ∙ get_or_push ws r d (length ps - 1) long

pub whole_feed : (xs : List ℕ) → whole_lines (xs ++ 10 ∷ []) ≡ whole_lines xs ++ rest_of xs ∷ []
whole_feed xs = front_is (parts (xs ++ 10 ∷ [])) (parts xs) [] (parts_feed xs) ∙ rebuilt (parts xs) [] (some_part xs)

pub rest_feed : (xs : List ℕ) → rest_of (xs ++ 10 ∷ []) ≡ []
rest_feed xs = last_is (parts (xs ++ 10 ∷ [])) (parts xs) [] [] (parts_feed xs)

other_parts : (b : ℕ) → (b == 10) ≡ false → (xs : List ℕ) → parts (xs ++ b ∷ []) ≡ whole_lines xs ++ (rest_of xs ++ b ∷ []) ∷ []
other_parts b other xs = parts_other b other xs ∙ ap (grown b) (rebuilt (parts xs) [] (some_part xs)) ∙ grown_last b (whole_lines xs) (rest_of xs)

pub whole_other : (b : ℕ) → (b == 10) ≡ false → (xs : List ℕ) → whole_lines (xs ++ b ∷ []) ≡ whole_lines xs
whole_other b other xs = front_is (parts (xs ++ b ∷ [])) (whole_lines xs) (rest_of xs ++ b ∷ []) (other_parts b other xs)

pub rest_other : (b : ℕ) → (b == 10) ≡ false → (xs : List ℕ) → rest_of (xs ++ b ∷ []) ≡ rest_of xs ++ b ∷ []
rest_other b other xs = last_is (parts (xs ++ b ∷ [])) (whole_lines xs) (rest_of xs ++ b ∷ []) [] (other_parts b other xs)

-- the lines of the bytes so far stay the first ones
pub record Begins {X : Type 0} (front whole : List X) : Type 0 where
  pub behind : List X
  pub is : whole ≡ front ++ behind

begins_through : {X : Type 0} (a b c : List X) → Begins a b → Begins b c → Begins a c
begins_through a b c p q = record { behind = p.behind ++ q.behind; is = q.is ∙ ap (λ t. t ++ q.behind) p.is ∙ append_assoc a p.behind q.behind }

one_byte : (xs : List ℕ) (b : ℕ) → Begins (whole_lines xs) (whole_lines (xs ++ b ∷ []))
one_byte xs b = decide (b == 10) refl
  where
    decide : (t : Bool) → (b == 10) ≡ t → Begins (whole_lines xs) (whole_lines (xs ++ b ∷ []))
    decide true is = record { behind = rest_of xs ∷ []; is = ap (λ y. whole_lines (xs ++ y ∷ [])) (eqb-true b 10 is) ∙ whole_feed xs }
    decide false is = record { behind = []; is = whole_other b is xs ∙ sym (append-nil (whole_lines xs)) }

pub whole_begins : (xs ys : List ℕ) → Begins (whole_lines xs) (whole_lines (xs ++ ys))
whole_begins xs [] = record { behind = []; is = ap whole_lines (append-nil xs) ∙ sym (append-nil (whole_lines xs)) }
whole_begins xs (y ∷ ys) = begins_through (whole_lines xs) (whole_lines (xs ++ y ∷ [])) (whole_lines (xs ++ y ∷ ys)) (one_byte xs y)
    (subst (λ t. Begins (whole_lines (xs ++ y ∷ [])) (whole_lines t)) (append_assoc xs (y ∷ []) ys) (whole_begins (xs ++ y ∷ []) ys))

pub lines_begin : (xs ys : List ℕ) → Begins (whole_lines xs) (lines_of (xs ++ ys))
lines_begin xs ys = begins_through (whole_lines xs) (whole_lines (xs ++ ys)) (lines_of (xs ++ ys)) (whole_begins xs ys) (record { behind = last_line (rest_of (xs ++ ys)); is = refl })

-- the answers to one more line
pub answers_more : (course : Course) (lines : List (List ℕ)) (line : List ℕ) → answers course (lines ++ line ∷ []) ≡ answered course (answers course lines) line
answers_more course lines line = fold-append (answered course) first_answer lines (line ∷ [])

-- behind `quit` nothing is answered
stays : (course : Course) (before : Answer) (lines : List (List ℕ)) → before.go ≡ Quit → fold (answered course) before lines ≡ before
stays course before [] ended = refl
stays course before (line ∷ lines) ended =
    let same : answered course before line ≡ before = ap (λ go. next_answer course before go line) ended in
    ap (λ a. fold (answered course) a lines) same ∙ stays course before lines ended

pub answers_ended : (course : Course) (front whole : List (List ℕ)) → Begins front whole → (answers course front).go ≡ Quit → answers course whole ≡ answers course front
answers_ended course front whole begins ended =
    ap (answers course) begins.is ∙ fold-append (answered course) first_answer front begins.behind ∙ stays course (answers course front) begins.behind ended

next_begins : (course : Course) (before : Answer) (line : List ℕ) (lines : List (List ℕ)) (go : Go) → before.go ≡ go
    → ((a : Answer) → Begins a.text (fold (answered course) a lines).text) → Begins before.text (fold (answered course) (answered course before line) lines).text
next_begins course before line lines On is begins =
    let next = next_answer course before On line in
    let same : answered course before line ≡ next = ap (λ go. next_answer course before go line) is in
    subst (λ a. Begins before.text (fold (answered course) a lines).text) (sym same)
    (begins_through before.text next.text (fold (answered course) next lines).text (record { behind = (answer course before.position line).text; is = refl }) (begins next))
next_begins course before line lines Quit is begins =
    let same : answered course before line ≡ before = ap (λ go. next_answer course before go line) is in
    subst (λ a. Begins before.text (fold (answered course) a lines).text) (sym same) (begins before)

-- the texts of the answers so far stay the first ones
text_begins : (course : Course) (before : Answer) (lines : List (List ℕ)) → Begins before.text (fold (answered course) before lines).text
text_begins course before [] = record { behind = []; is = sym (append-nil before.text) }
text_begins course before (line ∷ lines) = next_begins course before line lines before.go refl (λ a. text_begins course a lines)

pub answers_begin : (course : Course) (front whole : List (List ℕ)) → Begins front whole → Begins (answers course front).text (answers course whole).text
answers_begin course front whole begins =
    subst (λ a. Begins (answers course front).text a.text) (sym (ap (answers course) begins.is ∙ fold-append (answered course) first_answer front begins.behind))
    (text_begins course (answers course front) begins.behind)
