-- The longest token at the front, for each kind of first byte.
use Rattle.std.proofs.Common.{◌≡◌, ℕ, zero, suc, ◌+◌, ◌<◌, ◌≤◌, Bool, true, false, cond, eqb, List, [], ◌∷◌, ◌++◌, length, take, drop, Option, Some, None, refl, sym, ap, subst, ◌∙◌, arith, append_assoc, inl, inr, ◌⊎◌, ◌&&◌, not, one-add}
use Rattle.std.specs.Prelude.{fold}
use Rattle.std.specs.List.{list_all, prefix_len}
use Rattle.std.proofs.lemmas.Bool.{both_ways, cases_Bool, and_parts, and_from, eqb-true, eqb-false}
use Rattle.std.proofs.lemmas.List.{take-append-drop, take_at, drop_at, length-append}
use Rattle.std.proofs.lemmas.List.Folds.{length-prefix_len}
use Rattle.lisa_words.specs.Bytes.{is_digit, is_letter, front_is}
use Rattle.lisa_words.proofs.Runs.{same_head, same_tail, taken_pass, run_ends, run_longest, run_is}
use Rattle.verilog_text.specs.declared.tokens.VSign.{VSign}
use Rattle.verilog_text.specs.Tokens.{VTok, Named, Reserved, Sized, Plain, Mark}
use Rattle.verilog_text.specs.Lexing as lexing
use Rattle.verilog_text.specs.Lexing.{one_byte, two_bytes, is_name_byte, is_graphic, base_of, is_base_digit, is_more_digit, digits_number, IsVToken, Begins}
use Rattle.verilog_lexer.specs.Reading.{word_tok, Found, word_at, escaped_at, plain_at, based_at, is_zero, digit_base, base_behind, sized_at, number_at, one_of, two_of, sign_at, is_backslash, longest_at}
use Rattle.verilog_lexer.proofs.TokenForms.{word_token, kind_of, kind_some, word_only, escaped_only, number_only, sign_only, SignText, of_one, of_two, SizedText, PlainText, front_clash, false_front, not_letter_digit, not_letter_backslash, not_digit_backslash, letter_name}

pub record Longest (bytes text rest : List ℕ) (tok : VTok) : Type 0 where
  pub parts : bytes ≡ text ++ rest
  pub is : IsVToken text tok
  pub bound : (more after : List ℕ) (u : VTok) → bytes ≡ more ++ after → IsVToken more u → length more ≤ length text
  pub only : (more after : List ℕ) (u : VTok) → bytes ≡ more ++ after → IsVToken more u → length more ≡ length text → u ≡ tok

pub begins_from : (bytes text rest : List ℕ) (tok : VTok) → Longest bytes text rest tok → Begins bytes text rest tok
begins_from bytes text rest tok h = record { parts = h.parts; is = h.is; longest = λ more after u e is. h.bound more after u e is }

pub record Same (a b x y : List ℕ) (t u : VTok) : Type 0 where
  pub text : a ≡ b
  pub rest : x ≡ y
  pub tok : t ≡ u

front_same : (a b x y : List ℕ) → a ++ x ≡ b ++ y → length a ≡ length b → a ≡ b
front_same a b x y e len = sym (take_at a x (length a) refl) ∙ ap (take (length a)) e ∙ take_at b y (length a) (sym len)

rest_same : (a b x y : List ℕ) → a ++ x ≡ b ++ y → length a ≡ length b → x ≡ y
rest_same a b x y e len = sym (drop_at a x (length a) refl) ∙ ap (drop (length a)) e ∙ drop_at b y (length a) (sym len)

pub begins_only : (bytes text rest text' rest' : List ℕ) (tok u : VTok) → Longest bytes text rest tok → Begins bytes text' rest' u → Same text' text rest' rest u tok
begins_only bytes text rest text' rest' tok u h b =
    let len : length text' ≡ length text = omega (arith, h.bound text' rest' u b.parts b.is, b.longest text rest tok h.parts h.is) in
    let cut : text' ++ rest' ≡ text ++ rest = sym b.parts ∙ h.parts in
    record { text = front_same text' text rest' rest cut len; rest = rest_same text' text rest' rest cut len; tok = h.only text' rest' u b.parts b.is len }

-- the front of a text is that of the bytes that it begins
pub front_more : (p : ℕ → Bool) (bytes more after : List ℕ) → bytes ≡ more ++ after → 0 < length more → front_is p more ≡ front_is p bytes
front_more p bytes [] after e lt = absurd (omega arith)
front_more p bytes (b ∷ more) after e lt = ap (front_is p) (sym e)

front_take : (p : ℕ → Bool) (n : ℕ) (xs : List ℕ) → 0 < n → front_is p (take n xs) ≡ front_is p xs
front_take p zero xs lt = absurd (omega arith)
front_take p (suc n) [] lt = refl
front_take p (suc n) (b ∷ xs) lt = refl

front_run : (p : ℕ → Bool) (xs : List ℕ) → front_is p xs ≡ true → 0 < prefix_len p xs
front_run p [] e = absurd cc
front_run p (b ∷ xs) e = rw e (omega arith)

front_weaker : (p q : ℕ → Bool) → ((b : ℕ) → p b ≡ true → q b ≡ true) → (xs : List ℕ) → front_is p xs ≡ true → front_is q xs ≡ true
front_weaker p q h [] e = absurd cc
front_weaker p q h (b ∷ xs) e = h b e

front_of : (p : ℕ → Bool) (v : Bool) (bytes more after : List ℕ) (u : VTok) → front_is p bytes ≡ v → bytes ≡ more ++ after → IsVToken more u → front_is p more ≡ v
front_of p v bytes more after u f e is = front_more p bytes more after e (kind_some (kind_of is)) ∙ f

-- the longest token is known, and longest_at answers it
pub record Known (bytes : List ℕ) : Type 0 where
  pub text : List ℕ
  pub rest : List ℕ
  pub tok : VTok
  pub longest : Longest bytes text rest tok
  pub answer : longest_at bytes ≡ Some (length text, tok)

-- no token begins, and longest_at answers none
pub record Nothing (bytes : List ℕ) : Type 0 where
  pub nothing : (more after : List ℕ) (u : VTok) → bytes ≡ more ++ after → IsVToken more u → ⊥
  pub answer : longest_at bytes ≡ None

-- ---- words

at_letter : (bytes : List ℕ) → front_is is_letter bytes ≡ true → longest_at bytes ≡ word_at bytes
unfolding longest_at
at_letter bytes l = rw l refl

known_word : (bytes : List ℕ) → front_is is_letter bytes ≡ true → Known bytes
known_word bytes l =
    let n : ℕ = prefix_len is_name_byte bytes in
    let some : 0 < prefix_len is_name_byte bytes = front_run is_name_byte bytes (front_weaker is_letter is_name_byte letter_name bytes l) in
    let len : length (take (prefix_len is_name_byte bytes) bytes) ≡ prefix_len is_name_byte bytes = length-prefix_len is_name_byte bytes in
    let whole : bytes ≡ take (prefix_len is_name_byte bytes) bytes ++ drop (prefix_len is_name_byte bytes) bytes = sym (take-append-drop (prefix_len is_name_byte bytes) bytes) in
    record {
      text = take (prefix_len is_name_byte bytes) bytes;
      rest = drop (prefix_len is_name_byte bytes) bytes;
      tok = word_tok (take (prefix_len is_name_byte bytes) bytes);
      longest = record {
        parts = whole;
        is = word_token (take (prefix_len is_name_byte bytes) bytes) (front_take is_letter (prefix_len is_name_byte bytes) bytes some ∙ l) (taken_pass is_name_byte bytes);
        bound = λ more after u e is. let run = run_longest is_name_byte bytes more after e (word_only (kind_of is) (front_of is_letter true bytes more after u l e is)).all in omega (arith, run, len);
        only = λ more after u e is same. (word_only (kind_of is) (front_of is_letter true bytes more after u l e is)).is
            ∙ ap word_tok (front_same more (take (prefix_len is_name_byte bytes) bytes) after (drop (prefix_len is_name_byte bytes) bytes) (sym e ∙ whole) same);
      };
      answer = at_letter bytes l ∙ ap (λ (m : ℕ). Some (m, word_tok (take (prefix_len is_name_byte bytes) bytes))) (sym len);
    }

-- ---- escaped names

at_backslash : (body : List ℕ) → longest_at (92 ∷ body) ≡ escaped_at body
unfolding longest_at
at_backslash body = refl

escaped_token : (name : List ℕ) → front_is is_graphic name ≡ true → list_all is_graphic name ≡ true → IsVToken (92 ∷ name) (Named name)
escaped_token [] f all = absurd cc
escaped_token (b ∷ bs) f all = lexing.escaped all

-- what is left of an escaped token behind its backslash
behind : (body name more after : List ℕ) → 92 ∷ body ≡ more ++ after → more ≡ 92 ∷ name → body ≡ name ++ after
behind body name more after e is = same_tail 92 92 body (name ++ after) (e ∙ ap (λ (l : List ℕ). l ++ after) is)

known_escaped : (body : List ℕ) → front_is is_graphic body ≡ true → Known (92 ∷ body)
known_escaped body g =
    let some : 0 < prefix_len is_graphic body = front_run is_graphic body g in
    let len : length (take (prefix_len is_graphic body) body) ≡ prefix_len is_graphic body = length-prefix_len is_graphic body in
    let whole : 92 ∷ body ≡ (92 ∷ take (prefix_len is_graphic body) body) ++ drop (prefix_len is_graphic body) body = ap (λ (l : List ℕ). 92 ∷ l) (sym (take-append-drop (prefix_len is_graphic body) body)) in
    record {
      text = 92 ∷ take (prefix_len is_graphic body) body;
      rest = drop (prefix_len is_graphic body) body;
      tok = Named (take (prefix_len is_graphic body) body);
      longest = record {
        parts = whole;
        is = escaped_token (take (prefix_len is_graphic body) body) (front_take is_graphic (prefix_len is_graphic body) body some ∙ g) (taken_pass is_graphic body);
        bound = λ more after u e is.
            let x = escaped_only (kind_of is) (front_of is_backslash true (92 ∷ body) more after u refl e is) in
            let run = run_longest is_graphic body x.name after (behind body x.name more after e x.parts) x.all in
            omega (arith, run, len, ap length x.parts);
        only = λ more after u e is same.
            let x = escaped_only (kind_of is) (front_of is_backslash true (92 ∷ body) more after u refl e is) in
            x.is ∙ ap Named (same_tail 92 92 x.name (take (prefix_len is_graphic body) body) (sym x.parts ∙ front_same more (92 ∷ take (prefix_len is_graphic body) body) after (drop (prefix_len is_graphic body) body) (sym e ∙ whole) same));
      };
      answer = at_backslash body ∙ rw g (ap (λ (m : ℕ). Some (m, Named (take (prefix_len is_graphic body) body))) (omega (arith, len)));
    }

no_escaped : (body : List ℕ) → front_is is_graphic body ≡ false → Nothing (92 ∷ body)
no_escaped body g = record {
  nothing = λ more after u e is.
      let x = escaped_only (kind_of is) (front_of is_backslash true (92 ∷ body) more after u refl e is) in
      both_ways (front_is is_graphic body) g (ap (front_is is_graphic) (behind body x.name more after e x.parts) ∙ front_app x.name after x.front);
  answer = at_backslash body ∙ rw g refl;
}
  where
    front_app : (xs ys : List ℕ) → front_is is_graphic xs ≡ true → front_is is_graphic (xs ++ ys) ≡ true
    front_app [] ys f = absurd cc
    front_app (x ∷ xs) ys f = f

-- ---- numbers

pub record Based (zs rest : List ℕ) (base : ℕ) : Type 0 where
  pub letter : ℕ
  pub b : ℕ
  pub bs : List ℕ
  pub parts : rest ≡ 39 ∷ letter ∷ b ∷ bs
  pub lead : front_is is_zero zs ≡ false
  pub is_base : base_of letter ≡ Some base
  pub first : is_base_digit base b ≡ true

not_true : (c : Bool) → not c ≡ true → c ≡ false
not_true true e = absurd cc
not_true false e = refl

pub based_is : (zs rest : List ℕ) (base : ℕ) → base_behind zs rest ≡ Some base → Based zs rest base
based_is zs [] base e = absurd cc
based_is zs (q ∷ []) base e = absurd cc
based_is zs (q ∷ letter ∷ []) base e = absurd cc
based_is zs (q ∷ letter ∷ b ∷ bs) base e = go (eqb q 39 && not (front_is is_zero zs)) refl e
  where
    digit : (base' : ℕ) (d : Bool) → (eqb q 39 && not (front_is is_zero zs)) ≡ true → base_of letter ≡ Some base' → is_base_digit base' b ≡ d → cond d (Some base') None ≡ Some base → Based zs (q ∷ letter ∷ b ∷ bs) base
    digit base' true h is f g =
        let parts = and_parts (eqb q 39) (not (front_is is_zero zs)) h in
        let same : base' ≡ base = cc in
        record {
          letter = letter;
          b = b;
          bs = bs;
          parts = ap (λ (x : ℕ). x ∷ letter ∷ b ∷ bs) (eqb-true q 39 parts.0);
          lead = not_true (front_is is_zero zs) parts.1;
          is_base = is ∙ ap (λ (x : ℕ). Some x) same;
          first = subst (λ (x : ℕ). is_base_digit x b ≡ true) same f;
        }
    digit base' false h is f g = absurd cc

    letters : (o : Option ℕ) → (eqb q 39 && not (front_is is_zero zs)) ≡ true → base_of letter ≡ o → digit_base o b ≡ Some base → Based zs (q ∷ letter ∷ b ∷ bs) base
    letters None h is f = absurd cc
    letters (Some base') h is f = digit base' (is_base_digit base' b) h is refl f

    go : (c : Bool) → (eqb q 39 && not (front_is is_zero zs)) ≡ c → cond c (digit_base (base_of letter) b) None ≡ Some base → Based zs (q ∷ letter ∷ b ∷ bs) base
    go true h f = letters (base_of letter) h refl f
    go false h f = absurd cc

pub base_behind_of : (zs bs : List ℕ) (base letter b : ℕ) → front_is is_zero zs ≡ false → base_of letter ≡ Some base → is_base_digit base b ≡ true → base_behind zs (39 ∷ letter ∷ b ∷ bs) ≡ Some base
base_behind_of zs bs base letter b lead is first = rw (lead, is, first) refl

abbrev more_len : ℕ → List ℕ → ℕ
more_len base bs = prefix_len (is_more_digit base) bs

pub sized_some : (zs rest : List ℕ) (base : ℕ) (x : Based zs rest base)
    → sized_at zs rest ≡ Some (length zs + (3 + prefix_len (is_more_digit base) x.bs), Sized (digits_number 10 zs) (digits_number base (x.b ∷ take (prefix_len (is_more_digit base) x.bs) x.bs)))
sized_some zs rest base x = ap (sized_at zs) x.parts ∙ rw (x.lead, x.is_base, x.first) refl

pub sized_none : (zs rest : List ℕ) → base_behind zs rest ≡ None → sized_at zs rest ≡ plain_at zs
sized_none zs [] e = refl
sized_none zs (q ∷ []) e = refl
sized_none zs (q ∷ letter ∷ []) e = refl
sized_none zs (q ∷ letter ∷ b ∷ bs) e = go (eqb q 39 && not (front_is is_zero zs)) e
  where
    digit : (base : ℕ) (d : Bool) → is_base_digit base b ≡ d → cond d (Some base) None ≡ None → based_at zs (Some base) b bs ≡ plain_at zs
    digit base true f g = absurd cc
    digit base false f g = rw f refl

    letters : (o : Option ℕ) → digit_base o b ≡ None → based_at zs o b bs ≡ plain_at zs
    letters None f = refl
    letters (Some base) f = digit base (is_base_digit base b) refl f

    go : (c : Bool) → cond c (digit_base (base_of letter) b) None ≡ None → cond c (based_at zs (base_of letter) b bs) (plain_at zs) ≡ plain_at zs
    go true f = letters (base_of letter) f
    go false f = refl

sized_token : (zs bs : List ℕ) (base letter b : ℕ) → 0 < length zs → list_all is_digit zs ≡ true → front_is is_zero zs ≡ false → base_of letter ≡ Some base → is_base_digit base b ≡ true → list_all (is_more_digit base) bs ≡ true
    → IsVToken (zs ++ (39 ∷ letter ∷ b ∷ bs)) (Sized (digits_number 10 zs) (digits_number base (b ∷ bs)))
sized_token [] bs base letter b some all lead is first more = absurd (omega arith)
sized_token (z ∷ zs) bs base letter b some all lead is first more = lexing.sized base letter z b zs bs all (λ h. eqb-false z 48 lead h) is first more refl

plain_token : (zs : List ℕ) → 0 < length zs → list_all is_digit zs ≡ true → IsVToken zs (Plain (digits_number 10 zs) (length zs))
plain_token [] some all = absurd (omega arith)
plain_token (z ∷ zs) some all = lexing.plain all

some_same : {A : Type 0} (x y : A) → ◌≡◌ {A = Option A} (Some x) (Some y) → x ≡ y
some_same x y e = cc

at_digit : (bytes : List ℕ) → front_is is_digit bytes ≡ true → longest_at bytes ≡ number_at bytes
unfolding longest_at
at_digit bytes d =
    rw (false_front is_letter bytes (λ l. front_clash is_letter is_digit not_letter_digit bytes l d), false_front is_backslash bytes (λ l. front_clash is_digit is_backslash not_digit_backslash bytes d l), d) refl

-- the digits at the front, and what stands behind them
record Cut (bytes zs rest : List ℕ) : Type 0 where
  whole : bytes ≡ zs ++ rest
  all : list_all is_digit zs ≡ true
  some : 0 < length zs
  ends : front_is is_digit rest ≡ false

-- a number with its size cuts the bytes in the same way
record SameCut (bytes zs rest more after : List ℕ) (u : VTok) (s : SizedText more u) : Type 0 where
  size : s.zs ≡ zs
  back : rest ≡ 39 ∷ s.letter ∷ s.b ∷ (s.bs ++ after)

same_cut : (bytes zs rest more after : List ℕ) (u : VTok) (s : SizedText more u) → Cut bytes zs rest → bytes ≡ more ++ after → SameCut bytes zs rest more after u s
same_cut bytes zs rest more after u s c e =
    let here : bytes ≡ s.zs ++ (39 ∷ s.letter ∷ s.b ∷ (s.bs ++ after)) = e ∙ ap (λ (l : List ℕ). l ++ after) s.parts ∙ append_assoc s.zs (39 ∷ s.letter ∷ s.b ∷ s.bs) after in
    let both : s.zs ++ (39 ∷ s.letter ∷ s.b ∷ (s.bs ++ after)) ≡ zs ++ rest = sym here ∙ c.whole in
    let len : length s.zs ≡ length zs =
    sym (run_is is_digit s.zs (39 ∷ s.letter ∷ s.b ∷ (s.bs ++ after)) s.all refl) ∙ ap (prefix_len is_digit) both ∙ run_is is_digit zs rest c.all c.ends in
    record { size = front_same s.zs zs _ rest both len; back = sym (rest_same s.zs zs _ rest both len) }

-- and is the one that is known there
record SameNumber (zs rest more after : List ℕ) (base : ℕ) (x : Based zs rest base) (u : VTok) (s : SizedText more u) : Type 0 where
  size : s.zs ≡ zs
  is_base : s.base ≡ base
  digit : s.b ≡ x.b
  digits : x.bs ≡ s.bs ++ after

same_number : (bytes zs rest more after : List ℕ) (base : ℕ) (x : Based zs rest base) (u : VTok) (s : SizedText more u) → Cut bytes zs rest → bytes ≡ more ++ after → SameNumber zs rest more after base x u s
same_number bytes zs rest more after base x u s c e =
    let cut = same_cut bytes zs rest more after u s c e in
    let both : 39 ∷ x.letter ∷ x.b ∷ x.bs ≡ 39 ∷ s.letter ∷ s.b ∷ (s.bs ++ after) = sym x.parts ∙ cut.back in
    let one = same_tail 39 39 (x.letter ∷ x.b ∷ x.bs) (s.letter ∷ s.b ∷ (s.bs ++ after)) both in
    let two = same_tail x.letter s.letter (x.b ∷ x.bs) (s.b ∷ (s.bs ++ after)) one in
    let letter : s.letter ≡ x.letter = sym (same_head x.letter s.letter (x.b ∷ x.bs) (s.b ∷ (s.bs ++ after)) one) in
    record {
      size = cut.size;
      is_base = some_same s.base base (sym s.is_base ∙ ap base_of letter ∙ x.is_base);
      digit = sym (same_head x.b s.b x.bs (s.bs ++ after) two);
      digits = same_tail x.b s.b x.bs (s.bs ++ after) two;
    }

known_sized : (bytes zs rest : List ℕ) (base : ℕ) → front_is is_digit bytes ≡ true → Cut bytes zs rest → longest_at bytes ≡ sized_at zs rest → (x : Based zs rest base) → Known bytes
known_sized bytes zs rest base d c answer x =
    let m : ℕ = prefix_len (is_more_digit base) x.bs in
    let len : length (take (prefix_len (is_more_digit base) x.bs) x.bs) ≡ prefix_len (is_more_digit base) x.bs = length-prefix_len (is_more_digit base) x.bs in
    let long : length (zs ++ (39 ∷ x.letter ∷ x.b ∷ take (prefix_len (is_more_digit base) x.bs) x.bs)) ≡ length zs + (3 + prefix_len (is_more_digit base) x.bs) =
    omega (arith, length-append zs (39 ∷ x.letter ∷ x.b ∷ take (prefix_len (is_more_digit base) x.bs) x.bs), len) in
    let whole : bytes ≡ (zs ++ (39 ∷ x.letter ∷ x.b ∷ take (prefix_len (is_more_digit base) x.bs) x.bs)) ++ drop (prefix_len (is_more_digit base) x.bs) x.bs =
    c.whole ∙ ap (λ (l : List ℕ). zs ++ l) (x.parts ∙ ap (λ (l : List ℕ). 39 ∷ x.letter ∷ x.b ∷ l) (sym (take-append-drop (prefix_len (is_more_digit base) x.bs) x.bs)))
    ∙ sym (append_assoc zs (39 ∷ x.letter ∷ x.b ∷ take (prefix_len (is_more_digit base) x.bs) x.bs) (drop (prefix_len (is_more_digit base) x.bs) x.bs)) in
    let plain_short : (more after : List ℕ) → bytes ≡ more ++ after → list_all is_digit more ≡ true → length more ≤ length zs =
    λ more after e all. let run = run_longest is_digit bytes more after e all in
    let n : prefix_len is_digit bytes ≡ length zs = ap (prefix_len is_digit) c.whole ∙ run_is is_digit zs rest c.all c.ends in omega (arith, run, n) in
    record {
      text = zs ++ (39 ∷ x.letter ∷ x.b ∷ take (prefix_len (is_more_digit base) x.bs) x.bs);
      rest = drop (prefix_len (is_more_digit base) x.bs) x.bs;
      tok = Sized (digits_number 10 zs) (digits_number base (x.b ∷ take (prefix_len (is_more_digit base) x.bs) x.bs));
      longest = record {
        parts = whole;
        is = sized_token zs (take (prefix_len (is_more_digit base) x.bs) x.bs) base x.letter x.b c.some c.all x.lead x.is_base x.first (taken_pass (is_more_digit base) x.bs);
        bound = λ more after u e is. elim (number_only (kind_of is) (front_of is_digit true bytes more after u d e is)) [
          | inl p ↦ omega (arith, plain_short more after e p.all, long)
          | inr s ↦ (let same = same_number bytes zs rest more after base x u s c e in
              let run = run_longest (is_more_digit base) x.bs s.bs after same.digits (subst (λ (k : ℕ). list_all (is_more_digit k) s.bs ≡ true) same.is_base s.more) in
              omega (arith, run, long, ap length s.parts, length-append s.zs (39 ∷ s.letter ∷ s.b ∷ s.bs), ap length same.size))
        ];
        only = λ more after u e is same_len. elim (number_only (kind_of is) (front_of is_digit true bytes more after u d e is)) [
          | inl p ↦ absurd (omega (arith, plain_short more after e p.all, long, same_len))
          | inr s ↦ (let same = same_number bytes zs rest more after base x u s c e in
              let n : length s.bs ≡ prefix_len (is_more_digit base) x.bs = omega (arith, same_len, long, ap length s.parts, length-append s.zs (39 ∷ s.letter ∷ s.b ∷ s.bs), ap length same.size) in
              let digits : s.bs ≡ take (prefix_len (is_more_digit base) x.bs) x.bs = sym (take_at s.bs after (prefix_len (is_more_digit base) x.bs) n) ∙ ap (take (prefix_len (is_more_digit base) x.bs)) (sym same.digits) in
              s.is ∙ ap (λ (l : List ℕ). Sized (digits_number 10 l) (digits_number s.base (s.b ∷ s.bs))) same.size
              ∙ ap (λ (k : ℕ). Sized (digits_number 10 zs) (digits_number k (s.b ∷ s.bs))) same.is_base
              ∙ ap (λ (k : ℕ). Sized (digits_number 10 zs) (digits_number base (k ∷ s.bs))) same.digit
              ∙ ap (λ (l : List ℕ). Sized (digits_number 10 zs) (digits_number base (x.b ∷ l))) digits)
        ];
      };
      answer = answer ∙ sized_some zs rest base x ∙ ap (λ (k : ℕ). Some (k, Sized (digits_number 10 zs) (digits_number base (x.b ∷ take (prefix_len (is_more_digit base) x.bs) x.bs)))) (sym long);
    }

known_plain : (bytes zs rest : List ℕ) → front_is is_digit bytes ≡ true → Cut bytes zs rest → longest_at bytes ≡ sized_at zs rest → base_behind zs rest ≡ None → Known bytes
known_plain bytes zs rest d c answer none =
    let plain_short : (more after : List ℕ) → bytes ≡ more ++ after → list_all is_digit more ≡ true → length more ≤ length zs =
    λ more after e all. let run = run_longest is_digit bytes more after e all in
    let n : prefix_len is_digit bytes ≡ length zs = ap (prefix_len is_digit) c.whole ∙ run_is is_digit zs rest c.all c.ends in omega (arith, run, n) in
    let no_size : (more after : List ℕ) (u : VTok) (s : SizedText more u) → bytes ≡ more ++ after → ⊥ =
    λ more after u s e. let cut = same_cut bytes zs rest more after u s c e in
    let found : base_behind zs rest ≡ Some s.base = ap (base_behind zs) cut.back ∙ base_behind_of zs (s.bs ++ after) s.base s.letter s.b (ap (front_is is_zero) (sym cut.size) ∙ s.lead) s.is_base s.first in
    none_some s.base (sym none ∙ found) in
    record {
      text = zs;
      rest = rest;
      tok = Plain (digits_number 10 zs) (length zs);
      longest = record {
        parts = c.whole;
        is = plain_token zs c.some c.all;
        bound = λ more after u e is. elim (number_only (kind_of is) (front_of is_digit true bytes more after u d e is)) [
          | inl p ↦ plain_short more after e p.all
          | inr s ↦ absurd (no_size more after u s e)
        ];
        only = λ more after u e is same. elim (number_only (kind_of is) (front_of is_digit true bytes more after u d e is)) [
          | inl p ↦ p.is ∙ ap (λ (l : List ℕ). Plain (digits_number 10 l) (length l)) (front_same more zs after rest (sym e ∙ c.whole) same)
          | inr s ↦ absurd (no_size more after u s e)
        ];
      };
      answer = answer ∙ sized_none zs rest none;
    }
  where
    none_some : (base : ℕ) → ◌≡◌ {A = Option ℕ} None (Some base) → ⊥
    none_some base h = absurd cc

known_number : (bytes : List ℕ) → front_is is_digit bytes ≡ true → Known bytes
known_number bytes d = go (base_behind (take (prefix_len is_digit bytes) bytes) (drop (prefix_len is_digit bytes) bytes)) refl
  where
    cut : Cut bytes (take (prefix_len is_digit bytes) bytes) (drop (prefix_len is_digit bytes) bytes)
    cut = record { whole = sym (take-append-drop (prefix_len is_digit bytes) bytes); all = taken_pass is_digit bytes; some = omega (arith, length-prefix_len is_digit bytes, front_run is_digit bytes d); ends = run_ends is_digit bytes }

    go : (o : Option ℕ) → base_behind (take (prefix_len is_digit bytes) bytes) (drop (prefix_len is_digit bytes) bytes) ≡ o → Known bytes
    go None e = known_plain bytes _ _ d cut (at_digit bytes d) e
    go (Some base) e = known_sized bytes _ _ base d cut (at_digit bytes d) (based_is _ _ base e)

-- ---- signs

-- none of the other kinds begins
abbrev NoOther : List ℕ → Type 0
NoOther bytes = (front_is is_letter bytes ≡ false) × (front_is is_backslash bytes ≡ false) × (front_is is_digit bytes ≡ false)

at_sign : (bytes : List ℕ) → NoOther bytes → longest_at bytes ≡ sign_at bytes
unfolding longest_at
at_sign bytes n = rw (n.0, n.1, n.2) refl

sign_text : (bytes more after : List ℕ) (u : VTok) → NoOther bytes → bytes ≡ more ++ after → IsVToken more u → SignText more u
sign_text bytes more after u n e is = sign_only (kind_of is) (front_of is_letter false bytes more after u n.0 e is) (front_of is_backslash false bytes more after u n.1 e is) (front_of is_digit false bytes more after u n.2 e is)

mark_same : (s t : VSign) → ◌≡◌ {A = Option VSign} (Some s) (Some t) → Mark s ≡ Mark t
mark_same s t e = ap Mark (some_same s t e)

-- a sign of two bytes
known_two : (b c : ℕ) (bs : List ℕ) (s : VSign) → NoOther (b ∷ c ∷ bs) → two_bytes b c ≡ Some s → longest_at (b ∷ c ∷ bs) ≡ Some (2, Mark s) → Known (b ∷ c ∷ bs)
known_two b c bs s n two answer = record {
  text = b ∷ c ∷ [];
  rest = bs;
  tok = Mark s;
  longest = record {
    parts = refl;
    is = lexing.two two;
    bound = λ more after u e is. short more u (sign_text (b ∷ c ∷ bs) more after u n e is);
    only = λ more after u e is same. same_sign more after u (sign_text (b ∷ c ∷ bs) more after u n e is) e same;
  };
  answer = answer;
}
  where
    short : (more : List ℕ) (u : VTok) → SignText more u → length more ≤ 2
    short more u (of_one e) = omega arith
    short more u (of_two e) = omega arith

    same_sign : (more after : List ℕ) (u : VTok) → SignText more u → b ∷ c ∷ bs ≡ more ++ after → length more ≡ 2 → u ≡ Mark s
    same_sign more after u (of_one f) e same = absurd (omega arith)
    same_sign more after u (of_two {b = x} {c = y} {s = t} f) e same =
        let first : b ≡ x = same_head b x (c ∷ bs) (y ∷ after) e in
        let second : c ≡ y = same_head c y bs after (same_tail b x (c ∷ bs) (y ∷ after) e) in
        mark_same t s (sym f ∙ ap (λ (k : ℕ). two_bytes k y) (sym first) ∙ ap (two_bytes b) (sym second) ∙ two)

-- no sign of two bytes begins
abbrev NoTwo : ℕ → List ℕ → Type 0
NoTwo b bs = (c : ℕ) (cs : List ℕ) → bs ≡ c ∷ cs → two_bytes b c ≡ None

no_two : (b : ℕ) (bs more after : List ℕ) (u : VTok) → NoTwo b bs → SignText more u → b ∷ bs ≡ more ++ after → (t : VSign) × (one_byte b ≡ Some t) × (more ≡ b ∷ []) × (u ≡ Mark t)
no_two b bs more after u none (of_one {b = x} {s = t} f) e =
    let first : x ≡ b = sym (same_head b x bs after e) in (t, ap one_byte (sym first) ∙ f, ap (λ (k : ℕ). k ∷ []) first, refl)
no_two b bs more after u none (of_two {b = x} {c = y} {s = t} f) e =
    let first : b ≡ x = same_head b x bs (y ∷ after) e in
    let gone : two_bytes b y ≡ None = none y after (same_tail b x bs (y ∷ after) e) in
    absurd (clash (sym gone ∙ ap (λ (k : ℕ). two_bytes k y) first ∙ f))
  where
    clash : {t : VSign} → ◌≡◌ {A = Option VSign} None (Some t) → ⊥
    clash h = absurd cc

known_or_none : (b : ℕ) (bs : List ℕ) → NoOther (b ∷ bs) → NoTwo b bs → longest_at (b ∷ bs) ≡ one_of (one_byte b) → Known (b ∷ bs) ⊎ Nothing (b ∷ bs)
known_or_none b bs n none answer = go (one_byte b) refl answer
  where
    go : (o : Option VSign) → one_byte b ≡ o → longest_at (b ∷ bs) ≡ one_of o → Known (b ∷ bs) ⊎ Nothing (b ∷ bs)
    go None f a = inr (record { nothing = λ more after u e is. let x = no_two b bs more after u none (sign_text (b ∷ bs) more after u n e is) e in clash (sym f ∙ x.1); answer = a })
      where
        clash : {t : VSign} → ◌≡◌ {A = Option VSign} None (Some t) → ⊥
        clash h = absurd cc
    go (Some s) f a = inl (record {
      text = b ∷ [];
      rest = bs;
      tok = Mark s;
      longest = record {
        parts = refl;
        is = lexing.one f;
        bound = λ more after u e is. let x = no_two b bs more after u none (sign_text (b ∷ bs) more after u n e is) e in omega (arith, ap length x.2);
        only = λ more after u e is same. let x = no_two b bs more after u none (sign_text (b ∷ bs) more after u n e is) e in x.3 ∙ mark_same x.0 s (sym x.1 ∙ f);
      };
      answer = a;
    })

known_sign : (b : ℕ) (bs : List ℕ) → NoOther (b ∷ bs) → Known (b ∷ bs) ⊎ Nothing (b ∷ bs)
known_sign b [] n = known_or_none b [] n (λ c cs e. absurd cc) (at_sign (b ∷ []) n)
known_sign b (c ∷ bs) n = go (two_bytes b c) refl (at_sign (b ∷ c ∷ bs) n)
  where
    go : (o : Option VSign) → two_bytes b c ≡ o → longest_at (b ∷ c ∷ bs) ≡ two_of o (one_byte b) → Known (b ∷ c ∷ bs) ⊎ Nothing (b ∷ c ∷ bs)
    go None f a = known_or_none b (c ∷ bs) n (λ d ds e. ap (two_bytes b) (sym (same_head c d bs ds e)) ∙ f) a
    go (Some s) f a = inl (known_two b c bs s n f a)

-- ---- whatever stands at the front

pub longest_is : (b : ℕ) (bs : List ℕ) → Known (b ∷ bs) ⊎ Nothing (b ∷ bs)
longest_is b bs = go (is_letter b) (is_backslash b) (is_digit b) refl refl refl
  where
    escaped : (c : Bool) → front_is is_graphic bs ≡ c → Known (92 ∷ bs) ⊎ Nothing (92 ∷ bs)
    escaped true e = inl (known_escaped bs e)
    escaped false e = inr (no_escaped bs e)

    go : (l s d : Bool) → is_letter b ≡ l → is_backslash b ≡ s → is_digit b ≡ d → Known (b ∷ bs) ⊎ Nothing (b ∷ bs)
    go true s d e f g = inl (known_word (b ∷ bs) e)
    go false true d e f g = subst (λ (k : ℕ). Known (k ∷ bs) ⊎ Nothing (k ∷ bs)) (sym (eqb-true b 92 f)) (escaped (front_is is_graphic bs) refl)
    go false false true e f g = inl (known_number (b ∷ bs) g)
    go false false false e f g = known_sign b bs (e, f, g)
