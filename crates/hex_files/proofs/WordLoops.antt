-- Words and what stands between them, one behind the other.
use Rattle.std.proofs.Common.{◌≡◌, ℕ, suc, ◌+◌, ◌<◌, ◌≤◌, Bool, true, false, cond, List, [], ◌∷◌, length, get_or, take, drop, drop-cons, length-drop, refl, sym, ap, subst, ◌∙◌, arith}
use Rattle.std.specs.Prelude.{◌==◌, ◌||◌}
use Rattle.std.proofs.lemmas.Bool.{lt-ltb, false≢true}
use Rattle.std.proofs.Math.ListN.{drop_of_length-le}
use Rattle.std.proofs.lemmas.List.{length-take, drop-drop}
use Rattle.lisa_words.specs.Bytes.{is_blank}
use Rattle.lisa_words.specs.Fix.{guarded, fix}
use Rattle.lisa_words.specs.Gaps.{GapIs, starts_comment, gap_at}
use Rattle.lisa_words.specs.declared.gaps.Gap.{Gap}
use Rattle.lisa_words.specs.declared.gaps.Gap.TheVariants.{Absent, Whole, Broken}
use Rattle.lisa_words.proofs.Fixed.{fix_is}
use Rattle.lisa_words.proofs.GapLaws.{gap_is}
use Rattle.hex_files.specs.MemhReading.{Placed, ends_word, word_len, words_behind, words_step, words_from}

-- ---- where a word ends

len_on : (b : ℕ) (bs : List ℕ) → ends_word (b ∷ bs) ≡ false → word_len (b ∷ bs) ≡ suc (word_len bs)
unfolding word_len
len_on b bs e = ap (λ (t : Bool). cond t 0 (suc (word_len bs))) e

len_stop : (b : ℕ) (bs : List ℕ) → ends_word (b ∷ bs) ≡ true → word_len (b ∷ bs) ≡ 0
unfolding word_len
len_stop b bs e = ap (λ (t : Bool). cond t 0 (suc (word_len bs))) e

len_none : word_len [] ≡ 0
unfolding word_len
len_none = refl

pub len_further : (b : ℕ) (bs : List ℕ) → is_blank b ≡ false → starts_comment (b ∷ bs) ≡ false → word_len (b ∷ bs) ≡ suc (word_len bs)
len_further b bs e f = len_on b bs (ap (λ (t : Bool). t || starts_comment (b ∷ bs)) e ∙ f)

pub len_blank : (b : ℕ) (bs : List ℕ) → is_blank b ≡ true → word_len (b ∷ bs) ≡ 0
len_blank b bs e = len_stop b bs (ap (λ (t : Bool). t || starts_comment (b ∷ bs)) e)

module _ (text rest : List ℕ) (at : ℕ) (is : rest ≡ drop at text) where
  opened : at < length text → rest ≡ get_or text at 0 ∷ drop (at + 1) text
  opened inside = let e : suc at ≡ at + 1 = omega arith in is ∙ drop-cons text at 0 inside ∙ ap (λ (k : ℕ). get_or text at 0 ∷ drop k text) e

  pub goes_on : at < length text → ends_word rest ≡ false → at + word_len (drop at text) ≡ word_len text → at + 1 + word_len (drop (at + 1) text) ≡ word_len text
  goes_on inside e same =
      let one : word_len (drop at text) ≡ suc (word_len (drop (at + 1) text)) = ap word_len (sym is ∙ opened inside) ∙ len_on (get_or text at 0) (drop (at + 1) text) (ap ends_word (sym (opened inside)) ∙ e) in
      omega (arith, one, same)

  pub ends_here : at < length text → ends_word rest ≡ true → at + word_len (drop at text) ≡ word_len text → at ≡ word_len text
  ends_here inside e same =
      let none : word_len (drop at text) ≡ 0 = ap word_len (sym is ∙ opened inside) ∙ len_stop (get_or text at 0) (drop (at + 1) text) (ap ends_word (sym (opened inside)) ∙ e) in
      omega (arith, none, same)

pub ends_all : (text : List ℕ) (at : ℕ) → length text ≤ at → at ≤ length text → at + word_len (drop at text) ≡ word_len text → length text ≡ word_len text
ends_all text at past within same = let none : word_len (drop at text) ≡ 0 = ap word_len (drop_of_length-le text past) ∙ len_none in omega (arith, none, same, past, within)

pub is_some : (bytes : List ℕ) → (length bytes == 0) ≡ false → 0 < length bytes
is_some [] e = absurd (false≢true (sym e))
is_some (b ∷ bs) e = omega arith

-- a word that begins has a byte
pub len_some : (bytes : List ℕ) → 0 < length bytes → gap_at bytes ≡ Absent → 0 < word_len bytes
len_some [] some e = absurd (omega arith)
len_some (b ∷ bs) some e = let g : GapIs (b ∷ bs) Absent = subst (GapIs (b ∷ bs)) e (gap_is (b ∷ bs)) in omega (arith, len_further b bs g.0 g.1)

-- ---- what stands at the front

abbrev more : ℕ × List ℕ → List Placed
more x = fix (λ (y : ℕ × List ℕ). length y.1) [] words_step x

behind : (at : ℕ) (b : ℕ) (bs : List ℕ) (g : Gap) → gap_at (b ∷ bs) ≡ g → words_from at (b ∷ bs) ≡ words_behind (guarded (λ (y : ℕ × List ℕ). length y.1) [] more (at, b ∷ bs)) at (b ∷ bs) g
unfolding words_from
behind at b bs g e = fix_is (λ (y : ℕ × List ℕ). length y.1) [] words_step (at, b ∷ bs) ∙ ap (words_behind (guarded (λ (y : ℕ × List ℕ). length y.1) [] more (at, b ∷ bs)) at (b ∷ bs)) e

smaller : (w : ℕ × List ℕ) (at : ℕ) (rest : List ℕ) → length rest < length w.1 → guarded (λ (y : ℕ × List ℕ). length y.1) [] more w (at, rest) ≡ words_from at rest
unfolding words_from
smaller w at rest lt = rw (lt-ltb (length rest) (length w.1) lt) refl

pub no_words : (at : ℕ) → words_from at [] ≡ []
unfolding words_from
no_words at = fix_is (λ (y : ℕ × List ℕ). length y.1) [] words_step (at, [])

pub behind_gap : (at n : ℕ) (bytes : List ℕ) → gap_at bytes ≡ Whole n → words_from at bytes ≡ words_from (at + n) (drop n bytes)
behind_gap at n [] e = let g : GapIs [] (Whole n) = subst (GapIs []) e (gap_is []) in absurd (omega (arith, g.0, g.1, length-take {A = ℕ} n []))
behind_gap at n (b ∷ bs) e =
    let g : GapIs (b ∷ bs) (Whole n) = subst (GapIs (b ∷ bs)) e (gap_is (b ∷ bs)) in
    behind at b bs (Whole n) e ∙ smaller (at, b ∷ bs) (at + n) (drop n (b ∷ bs)) (omega (arith, g.1, length-drop n (b ∷ bs)))

pub next_is : (at : ℕ) (bytes : List ℕ) → 0 < length bytes → gap_at bytes ≡ Absent → words_from at bytes ≡ (at, take (word_len bytes) bytes) ∷ words_from (at + word_len bytes) (drop (word_len bytes) bytes)
next_is at [] some e = absurd (omega arith)
next_is at (b ∷ bs) some e =
    behind at b bs Absent e
    ∙ ap (λ (ws : List Placed). (at, take (word_len (b ∷ bs)) (b ∷ bs)) ∷ ws) (smaller (at, b ∷ bs) (at + word_len (b ∷ bs)) (drop (word_len (b ∷ bs)) (b ∷ bs)) (omega (arith, len_some (b ∷ bs) some e, length-drop (word_len (b ∷ bs)) (b ∷ bs))))

pub broken_is : (at n : ℕ) (bytes : List ℕ) → 0 < length bytes → gap_at bytes ≡ Broken n → words_from at bytes ≡ (at + n, []) ∷ []
broken_is at n [] some e = absurd (omega arith)
broken_is at n (b ∷ bs) some e = behind at b bs (Broken n) e

-- ---- from gap to gap

module _ (text rest : List ℕ) (skipped : ℕ) (same : (at : ℕ) → words_from (at + skipped) (drop skipped text) ≡ words_from at text) (is : rest ≡ drop skipped text) where
  here : (at : ℕ) → words_from at text ≡ words_from (at + skipped) rest
  here at = sym (same at) ∙ ap (words_from (at + skipped)) (sym is)

  pub none_found : length rest ≡ 0 → (at : ℕ) → words_from at text ≡ []
  none_found e at = here at ∙ ap (words_from (at + skipped)) (empty rest e) ∙ no_words (at + skipped)
    where
      empty : (l : List ℕ) → length l ≡ 0 → l ≡ []
      empty [] e = refl
      empty (x ∷ l) e = absurd (omega (arith, e))

  pub gap_passed : (n : ℕ) → gap_at rest ≡ Whole n → (at : ℕ) → words_from (at + (skipped + n)) (drop (skipped + n) text) ≡ words_from at text
  gap_passed n e at =
      (let f : at + (skipped + n) ≡ at + skipped + n = omega arith in ap (λ (k : ℕ). words_from k (drop (skipped + n) text)) f)
      ∙ ap (words_from (at + skipped + n)) (sym (drop-drop n skipped text)) ∙ ap (λ (l : List ℕ). words_from (at + skipped + n) (drop n l)) (sym is)
      ∙ sym (behind_gap (at + skipped) n rest e) ∙ sym (here at)

  pub word_found : (len : ℕ) (word behind : List ℕ) → 0 < length rest → gap_at rest ≡ Absent → len ≡ word_len rest → word ≡ take len rest → behind ≡ drop len rest → length word ≡ len
      → (at : ℕ) → words_from at text ≡ (at + skipped, word) ∷ words_from (at + skipped + length word) behind
  word_found len word behind some e l w b long at =
      here at ∙ next_is (at + skipped) rest some e
      ∙ ap (λ (k : ℕ). (at + skipped, take k rest) ∷ words_from (at + skipped + k) (drop k rest)) (sym l)
      ∙ ap (λ (t : List ℕ). (at + skipped, t) ∷ words_from (at + skipped + len) (drop len rest)) (sym w)
      ∙ ap (λ (t : List ℕ). (at + skipped, word) ∷ words_from (at + skipped + len) t) (sym b)
      ∙ ap (λ (k : ℕ). (at + skipped, word) ∷ words_from (at + skipped + k) behind) (sym long)

  pub broken_found : (n : ℕ) (nothing : List ℕ) → 0 < length rest → gap_at rest ≡ Broken n → length nothing ≡ 0 → (at : ℕ) → words_from at text ≡ (at + (skipped + n), nothing) ∷ words_from (at + (skipped + n) + length nothing) nothing
  broken_found n nothing some e z at = here at ∙ broken_is (at + skipped) n rest some e ∙ (let f : at + skipped + n ≡ at + (skipped + n) = omega arith in ap (λ (k : ℕ). (k, []) ∷ []) f) ∙ emptied nothing z
    where
      emptied : (l : List ℕ) → length l ≡ 0 → (at + (skipped + n), []) ∷ [] ≡ (at + (skipped + n), l) ∷ words_from (at + (skipped + n) + length l) l
      emptied [] e = ap (λ (ws : List Placed). (at + (skipped + n), []) ∷ ws) (sym (no_words (at + (skipped + n) + 0)))
      emptied (x ∷ l) e = absurd (omega (arith, e))
