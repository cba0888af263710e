-- Runs of bytes at the front of a text, and what steps of reading give.
use Rattle.std.proofs.Common.{◌≡◌, ℕ, suc, ◌+◌, ◌<◌, ◌⊎◌, inl, inr, Bool, true, false, cond, List, [], ◌∷◌, ◌++◌, length, take, drop, Result, Ok, Err, refl, sym, ap, ◌∙◌, take-append-drop, arith}
use Rattle.std.specs.Prelude.{◌&&◌}
use Rattle.std.specs.List.{list_all, prefix_len}
use Rattle.std.proofs.lemmas.Bool.{and_parts, and_from}
use Rattle.std.proofs.lemmas.Bool.Decides.{nat_tests}
use Rattle.asm_source.specs.Bytes.{is_blank, is_letter, is_name_byte, is_word, is_name, front_is, skip_blanks, front_word, behind_word}
use Rattle.asm_source.specs.Sums.{◌>>=◌}
use Rattle.source_grammar.specs.Grammar.{AreBlanks, EndsWord}

-- ---- steps

abbrev err_of : (A : Type 0) {E : Type 0} → E → Result A E
err_of A e = Err e

pub bind_ok : {A B E : Type 0} (r : Result A E) (f : A → Result B E) (y : B) → (r >>= f) ≡ Ok y → (x : A) × (r ≡ Ok x) × (f x ≡ Ok y)
bind_ok (Ok x) f y e = (x, refl, e)
bind_ok (Err x) f y e = absurd (cc e)

pub bind_err : {A B E : Type 0} (r : Result A E) (f : A → Result B E) (e : E) → (r >>= f) ≡ Err e → (r ≡ Err e) ⊎ ((x : A) × (r ≡ Ok x) × (f x ≡ Err e))
bind_err (Ok x) f e h = inr (x, refl, h)
bind_err {A} {E = E} (Err y) f e h = let same : y ≡ e = cc in inl (ap (λ (z : E). err_of A z) same)

pub other_flaw : {A E : Type 0} (f e : E) → ◌≡◌ {A = Result A E} (Err f) (Err e) → e ≡ f
other_flaw f e h = cc

pub not_ok : {A E : Type 0} (x : A) (e : E) → ◌≡◌ {A = Result A E} (Ok x) (Err e) → ⊥
not_ok x e h = cc

pub by_test : {R : Type 0} (b : Bool) (x y z : R) → cond b x y ≡ z → ((b ≡ true) × (x ≡ z)) ⊎ ((b ≡ false) × (y ≡ z))
by_test true x y z e = inl (refl, e)
by_test false x y z e = inr (refl, e)

-- ---- lists

pub all_weaker : (p q : ℕ → Bool) → ((c : ℕ) → p c ≡ true → q c ≡ true) → (w : List ℕ) → list_all p w ≡ true → list_all q w ≡ true
all_weaker p q of [] h = refl
all_weaker p q of (c ∷ w) h =
    let both = and_parts (p c) (list_all p w) h in
    and_from (q c) (list_all q w) (of c both.0) (all_weaker p q of w both.1)

pub all_both : (p : ℕ → Bool) (v w : List ℕ) → list_all p v ≡ true → list_all p w ≡ true → list_all p (v ++ w) ≡ true
all_both p [] w h g = g
all_both p (c ∷ v) w h g =
    let both = and_parts (p c) (list_all p v) h in
    and_from (p c) (list_all p (v ++ w)) both.0 (all_both p v w both.1 g)

pub all_front : (p : ℕ → Bool) (v w : List ℕ) → list_all p (v ++ w) ≡ true → list_all p v ≡ true
all_front p [] w h = refl
all_front p (c ∷ v) w h =
    let both = and_parts (p c) (list_all p (v ++ w)) h in
    and_from (p c) (list_all p v) both.0 (all_front p v w both.1)

take_one : (n c : ℕ) (l : List ℕ) → take (1 + n) (c ∷ l) ≡ c ∷ take n l
take_one n c l = ap (λ (k : ℕ). take k (c ∷ l)) (let e : 1 + n ≡ suc n = omega arith in e)

drop_one : (n c : ℕ) (l : List ℕ) → drop (1 + n) (c ∷ l) ≡ drop n l
drop_one n c l = ap (λ (k : ℕ). drop k (c ∷ l)) (let e : 1 + n ≡ suc n = omega arith in e)

-- ---- the longest run of a kind of bytes at the front

pub run_all : (p : ℕ → Bool) (text : List ℕ) → list_all p (take (prefix_len p text) text) ≡ true
run_all p [] = refl
run_all p (c ∷ text) = go (p c) refl (run_all p text)
  where
    go : (b : Bool) → p c ≡ b → list_all p (take (prefix_len p text) text) ≡ true → list_all p (take (cond b (1 + prefix_len p text) 0) (c ∷ text)) ≡ true
    go true e more = ap (list_all p) (take_one (prefix_len p text) c text) ∙ and_from (p c) _ e more
    go false e more = refl

pub run_stops : (p : ℕ → Bool) (text : List ℕ) → front_is p (drop (prefix_len p text) text) ≡ false
run_stops p [] = refl
run_stops p (c ∷ text) = go (p c) refl (run_stops p text)
  where
    go : (b : Bool) → p c ≡ b → front_is p (drop (prefix_len p text) text) ≡ false → front_is p (drop (cond b (1 + prefix_len p text) 0) (c ∷ text)) ≡ false
    go true e more = ap (front_is p) (drop_one (prefix_len p text) c text) ∙ more
    go false e more = e

pub run_is : (p : ℕ → Bool) (text : List ℕ) → text ≡ take (prefix_len p text) text ++ drop (prefix_len p text) text
run_is p text = sym (take-append-drop (prefix_len p text) text)

pub take_run : (p : ℕ → Bool) (w rest : List ℕ) → list_all p w ≡ true → front_is p rest ≡ false → take (prefix_len p (w ++ rest)) (w ++ rest) ≡ w
take_run p [] [] all stop = refl
take_run p [] (c ∷ rest) all stop = rw stop refl
take_run p (c ∷ w) rest all stop =
    let both = and_parts (p c) (list_all p w) all in
    ap (λ (b : Bool). take (cond b (1 + prefix_len p (w ++ rest)) 0) (c ∷ (w ++ rest))) both.0
    ∙ take_one (prefix_len p (w ++ rest)) c (w ++ rest)
    ∙ ap (λ (l : List ℕ). c ∷ l) (take_run p w rest both.1 stop)

pub drop_run : (p : ℕ → Bool) (w rest : List ℕ) → list_all p w ≡ true → front_is p rest ≡ false → drop (prefix_len p (w ++ rest)) (w ++ rest) ≡ rest
drop_run p [] [] all stop = refl
drop_run p [] (c ∷ rest) all stop = rw stop refl
drop_run p (c ∷ w) rest all stop =
    let both = and_parts (p c) (list_all p w) all in
    ap (λ (b : Bool). drop (cond b (1 + prefix_len p (w ++ rest)) 0) (c ∷ (w ++ rest))) both.0
    ∙ drop_one (prefix_len p (w ++ rest)) c (w ++ rest)
    ∙ drop_run p w rest both.1 stop

pub word_is : (text : List ℕ) → text ≡ front_word text ++ behind_word text
word_is text = run_is is_word text

pub word_all : (text : List ℕ) → list_all is_word (front_word text) ≡ true
word_all text = run_all is_word text

pub word_ends : (text : List ℕ) → EndsWord (behind_word text)
word_ends text = run_stops is_word text

pub blanks_of : (text : List ℕ) → (blanks : List ℕ) × (text ≡ blanks ++ skip_blanks text) × AreBlanks blanks
blanks_of text = (take (prefix_len is_blank text) text, run_is is_blank text, run_all is_blank text)

pub skipped_all : (text : List ℕ) → front_is is_blank (skip_blanks text) ≡ false
skipped_all text = run_stops is_blank text

pub front_word_is : (w rest : List ℕ) → list_all is_word w ≡ true → EndsWord rest → front_word (w ++ rest) ≡ w
front_word_is w rest all ends = take_run is_word w rest all ends

pub behind_word_is : (w rest : List ℕ) → list_all is_word w ≡ true → EndsWord rest → behind_word (w ++ rest) ≡ rest
behind_word_is w rest all ends = drop_run is_word w rest all ends

pub skip_is : (blanks rest : List ℕ) → AreBlanks blanks → front_is is_blank rest ≡ false → skip_blanks (blanks ++ rest) ≡ rest
skip_is blanks rest all stops = drop_run is_blank blanks rest all stops

-- ---- bytes

pub word_blank : (c : ℕ) → is_word c ≡ true → is_blank c ≡ false
word_blank c h = grind (arith, nat_tests)

pub blank_word : (c : ℕ) → is_blank c ≡ true → is_word c ≡ false
blank_word c h = grind (arith, nat_tests)

pub letter_word : (c : ℕ) → is_letter c ≡ true → is_word c ≡ true
letter_word c h = grind (arith, nat_tests)

pub name_word : (c : ℕ) → is_name_byte c ≡ true → is_word c ≡ true
name_word c h = grind (arith, nat_tests)

-- behind a word blanks, or nothing
pub blanks_end : (rest : List ℕ) → AreBlanks rest → EndsWord rest
blanks_end [] h = refl
blanks_end (c ∷ rest) h = blank_word c (and_parts (is_blank c) (list_all is_blank rest) h).0

-- the front of a text that begins with a word
pub front_kept : (p : ℕ → Bool) (w rest : List ℕ) → front_is p w ≡ true → front_is p (w ++ rest) ≡ true
front_kept p [] rest h = absurd (cc h)
front_kept p (c ∷ w) rest h = h

pub front_weaker : (p q : ℕ → Bool) → ((c : ℕ) → p c ≡ true → q c ≡ false) → (w : List ℕ) → front_is p w ≡ true → front_is q w ≡ false
front_weaker p q of [] h = absurd (cc h)
front_weaker p q of (c ∷ w) h = of c h

-- a name is a word, and begins with a letter
pub name_all : (name : List ℕ) → is_name name ≡ true → list_all is_word name ≡ true
name_all [] h = absurd (cc h)
name_all (b ∷ bs) h =
    let front = (and_parts (is_letter b && list_all is_name_byte bs) _ h).0 in
    let both = and_parts (is_letter b) (list_all is_name_byte bs) front in
    and_from (is_word b) (list_all is_word bs) (letter_word b both.0) (all_weaker is_name_byte is_word name_word bs both.1)

pub name_front : (name : List ℕ) → is_name name ≡ true → front_is is_letter name ≡ true
name_front [] h = absurd (cc h)
name_front (b ∷ bs) h = (and_parts (is_letter b) (list_all is_name_byte bs) (and_parts (is_letter b && list_all is_name_byte bs) _ h).0).0

pub front_some : (p : ℕ → Bool) (w : List ℕ) → front_is p w ≡ true → 0 < length w
front_some p [] h = absurd (cc h)
front_some p (c ∷ w) h = omega arith
