-- The digits of a number, one at a time from the front.
use Rattle.std.proofs.Common.{◌≡◌, ◌≢◌, ℕ, suc, ◌+◌, ◌*◌, ◌^◌, ◌<◌, ◌≤◌, Bool, true, false, cond, List, [], ◌∷◌, length, get_or, drop, drop-cons, Option, Some, None, refl, sym, ap, ◌∙◌, arith, ⊎_elim, eq-eqb, ne_eqb}
use Rattle.std.specs.Prelude.{◌==◌, nat_lt, not, filter, ◌&&◌, ◌||◌}
use Rattle.std.specs.List.{list_all}
use Rattle.std.specs.Char.{digit_value, is_digit}
use Rattle.std.specs.Str.Parse.{digits_value, digits_value_after}
use Rattle.std.proofs.lemmas.Bool.{cases_lt, lt-ltb, le-ltb, and_parts, false≢true}
use Rattle.std.proofs.Math.ListN.{drop_of_length-le}
use Rattle.hex_files.specs.MemhReading.{number_of, is_number}

abbrev is_any : ℕ → Bool
is_any c = c == 95 || is_digit c 16

abbrev digits_of : List ℕ → List ℕ
digits_of text = filter (λ b. not (b == 95)) text

-- the number of the digits that follow, below 2 ^ 64
abbrev pub number_after : ℕ → List ℕ → Option ℕ
number_after n [] = Some n
number_after n (b ∷ bs) = cond (b == 95) (number_after n bs) (cond (is_digit b 16 && nat_lt (n * 16 + digit_value b) (2 ^ 64)) (number_after (n * 16 + digit_value b) bs) None)

-- ---- what the steps come to

abbrev below : ℕ → Option ℕ
below v = cond (nat_lt v (2 ^ 64)) (Some v) None

abbrev whole : ℕ → List ℕ → Option ℕ
whole n text = cond (list_all is_any text) (below (digits_value_after 16 n (digits_of text))) None

grows : (n : ℕ) (ds : List ℕ) → n ≤ digits_value_after 16 n ds
grows n [] = omega arith
grows n (c ∷ cs) = omega (arith, grows (n * 16 + digit_value c) cs)

none : (b : Bool) (o : Option ℕ) → o ≡ None → None ≡ cond b o None
none true o e = sym e
none false o e = refl

too_large : (v : ℕ) → 2 ^ 64 ≤ v → below v ≡ None
too_large v le = ap (λ (b : Bool). cond b (Some v) None) (le-ltb v (2 ^ 64) le)

after_is : (n : ℕ) (text : List ℕ) → n < 2 ^ 64 → number_after n text ≡ whole n text
after_is n [] small = sym (ap (λ (b : Bool). cond b (Some n) None) (lt-ltb n (2 ^ 64) small))
after_is n (b ∷ bs) small = by_sign (λ m less. after_is m bs less) (b == 95)
  where
    value_of : Bool → ℕ
    value_of s = digits_value_after 16 n (cond (not s) (b ∷ digits_of bs) (digits_of bs))

    by_size : ((m : ℕ) → m < 2 ^ 64 → number_after m bs ≡ whole m bs) → (digit : Bool) (small_next : Bool) → (n * 16 + digit_value b < 2 ^ 64 → small_next ≡ true) → (small_next ≡ true → n * 16 + digit_value b < 2 ^ 64) →
        cond (digit && small_next) (number_after (n * 16 + digit_value b) bs) None ≡ cond (digit && list_all is_any bs) (below (digits_value_after 16 (n * 16 + digit_value b) (digits_of bs))) None
    by_size rec false s to from = refl
    by_size rec true true to from = rec (n * 16 + digit_value b) (from refl)
    by_size rec true false to from = none (list_all is_any bs) _ (too_large _ (⊎_elim
        (λ lt. absurd (false≢true (to lt)))
        (λ le. omega (arith, le, grows (n * 16 + digit_value b) (digits_of bs)))
        (cases_lt (n * 16 + digit_value b) (2 ^ 64))))

    by_sign : ((m : ℕ) → m < 2 ^ 64 → number_after m bs ≡ whole m bs) → (s : Bool) →
        cond s (number_after n bs) (cond (is_digit b 16 && nat_lt (n * 16 + digit_value b) (2 ^ 64)) (number_after (n * 16 + digit_value b) bs) None)
        ≡ cond ((s || is_digit b 16) && list_all is_any bs) (below (value_of s)) None
    by_sign rec true = rec n small
    by_sign rec false = by_size rec (is_digit b 16) (nat_lt (n * 16 + digit_value b) (2 ^ 64)) (λ lt. lt-ltb _ _ lt) (λ e. ⊎_elim (λ lt. lt) (λ le. absurd (false≢true (sym (le-ltb _ _ le) ∙ e))) (cases_lt (n * 16 + digit_value b) (2 ^ 64)))

both : (a b : Bool) (v : ℕ) → cond a (cond b (Some v) None) None ≡ cond (a && b) (Some v) None
both true b v = refl
both false b v = refl

number_behind : (b : ℕ) (bs : List ℕ) → b ≢ 95 → number_after 0 (b ∷ bs) ≡ number_of (b ∷ bs)
unfolding number_of
number_behind b bs other =
    after_is 0 (b ∷ bs) (omega arith)
    ∙ ap (λ (s : Bool). cond ((s || is_digit b 16) && list_all is_any bs) (below (digits_value_after 16 0 (digits_of (b ∷ bs)))) None) (ne_eqb b 95 other)
    ∙ both (is_digit b 16 && list_all is_any bs) (nat_lt (digits_value_after 16 0 (digits_of (b ∷ bs))) (2 ^ 64)) (digits_value_after 16 0 (digits_of (b ∷ bs)))

-- a text of digits
pub number_is : (text : List ℕ) → is_number text ≡ true → number_after 0 text ≡ number_of text
number_is [] e = absurd (false≢true e)
number_is (b ∷ bs) e = number_behind b bs (λ is. false≢true (sym (ap (λ (c : ℕ). is_digit c 16) is) ∙ (and_parts (is_digit b 16) (list_all is_any bs) e).0))

pub no_number : (text : List ℕ) → is_number text ≡ false → number_of text ≡ None
unfolding number_of
no_number text e = ap (λ (b : Bool). cond (b && nat_lt (digits_value 16 (digits_of text)) (2 ^ 64)) (Some (digits_value 16 (digits_of text))) None) e

-- ---- one byte

module _ (n : ℕ) (text : List ℕ) (at : ℕ) (inside : at < length text) where
  byte : ℕ
  byte = get_or text at 0

  opened : number_after n (drop at text) ≡ number_after n (byte ∷ drop (at + 1) text)
  unfolding byte
  opened = let e : suc at ≡ at + 1 = omega arith in ap (number_after n) (drop-cons text at 0 inside ∙ ap (λ (k : ℕ). get_or text at 0 ∷ drop k text) e)

  pub skips : get_or text at 0 ≡ 95 → number_after n (drop at text) ≡ number_after n (drop (at + 1) text)
  unfolding byte
  skips e = opened ∙ ap (λ (s : Bool). cond s (number_after n (drop (at + 1) text)) (cond (is_digit byte 16 && nat_lt (n * 16 + digit_value byte) (2 ^ 64)) (number_after (n * 16 + digit_value byte) (drop (at + 1) text)) None)) (eq-eqb byte 95 e)

  digit : get_or text at 0 ≢ 95 → number_after n (drop at text) ≡ cond (is_digit byte 16 && nat_lt (n * 16 + digit_value byte) (2 ^ 64)) (number_after (n * 16 + digit_value byte) (drop (at + 1) text)) None
  unfolding byte
  digit other = opened ∙ ap (λ (s : Bool). cond s (number_after n (drop (at + 1) text)) (cond (is_digit byte 16 && nat_lt (n * 16 + digit_value byte) (2 ^ 64)) (number_after (n * 16 + digit_value byte) (drop (at + 1) text)) None)) (ne_eqb byte 95 other)

  pub takes : get_or text at 0 ≢ 95 → digit_value (get_or text at 0) < 16 → n * 16 + digit_value (get_or text at 0) < 2 ^ 64 → number_after n (drop at text) ≡ number_after (n * 16 + digit_value (get_or text at 0)) (drop (at + 1) text)
  unfolding byte
  takes other is small = digit other ∙ rw (lt-ltb (digit_value (get_or text at 0)) 16 is, lt-ltb (n * 16 + digit_value (get_or text at 0)) (2 ^ 64) small) refl

  pub refuses : get_or text at 0 ≢ 95 → ((digit_value (get_or text at 0) < 16) × (n * 16 + digit_value (get_or text at 0) < 2 ^ 64) → ⊥) → number_after n (drop at text) ≡ None
  unfolding byte
  refuses other never = digit other ∙ ⊎_elim
      (λ lt. ⊎_elim
      (λ less. absurd (never (lt, less)))
      (λ le. rw (lt-ltb (digit_value (get_or text at 0)) 16 lt, le-ltb (n * 16 + digit_value (get_or text at 0)) (2 ^ 64) le) refl)
      (cases_lt (n * 16 + digit_value (get_or text at 0)) (2 ^ 64)))
      (λ le. rw (le-ltb (digit_value (get_or text at 0)) 16 le) refl)
      (cases_lt (digit_value (get_or text at 0)) 16)

pub all_taken : (n : ℕ) (text : List ℕ) (at : ℕ) → length text ≤ at → number_after n (drop at text) ≡ Some n
all_taken n text at h = ap (number_after n) (drop_of_length-le text h)
