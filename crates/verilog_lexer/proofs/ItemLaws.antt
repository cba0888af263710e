-- What stands at the front, and that item_at says it.
use Rattle.std.proofs.Common.{◌≡◌, ℕ, suc, ◌+◌, ◌<◌, ◌≤◌, Bool, true, false, cond, eqb, leb, List, [], ◌∷◌, ◌++◌, length, take, drop, Option, Some, None, Ok, Err, refl, sym, ap, subst, ◌∙◌, arith, inl, inr, ◌⊎◌}
use Rattle.std.specs.List.{list_all}
use Rattle.std.proofs.lemmas.Bool.{both_ways, cases_Bool, leb-true, and_parts}
use Rattle.std.proofs.lemmas.Bool.Decides.{nat_tests}
use Rattle.std.proofs.lemmas.List.{take-append-drop, take_at, drop_at, length-append}
use Rattle.lisa_words.specs.declared.gaps.Gap.{Gap}
use Rattle.lisa_words.specs.declared.gaps.Gap.TheVariants as gaps
use Rattle.lisa_words.specs.Bytes.{is_blank, front_is}
use Rattle.lisa_words.specs.Gaps.{IsGap, BrokenGap, in_line, in_block, no_end, starts_comment, GapIs, gap_at}
use Rattle.lisa_words.proofs.GapLaws.{gap_is, gap_whole, gap_broken, gap_absent}
use Rattle.verilog_text.specs.Tokens.{VTok}
use Rattle.verilog_text.specs.Lexing.{IsVToken, Begins, is_accepted, is_glued, Stuck, comment, nothing, refused, glued}
use Rattle.verilog_text.proofs.WrittenTexts.{token_high}
use Rattle.verilog_lexer.specs.Reading.{Found, Front, Item, Skip, Take, longest_at, verdict, judged, past_gap, item_at}
use Rattle.verilog_lexer.proofs.TokenForms.{kind_of, kind_some, no_stroke}
use Rattle.verilog_lexer.proofs.LongestTokens.{Longest, begins_from, Same, begins_only, front_more, Known, Nothing, longest_is}

-- a token of n bytes stands at the front
pub record Takes (bytes : List ℕ) (n : ℕ) (tok : VTok) : Type 0 where
  pub text : List ℕ
  pub rest : List ℕ
  pub begins : Begins bytes text rest tok
  pub len : length text ≡ n
  pub accepted : is_accepted text tok rest ≡ true
  pub free : is_glued text tok rest ≡ false

-- a gap of n bytes stands at the front
pub record Skips (bytes : List ℕ) (n : ℕ) : Type 0 where
  pub text : List ℕ
  pub rest : List ℕ
  pub parts : bytes ≡ text ++ rest
  pub is : IsGap text rest
  pub len : length text ≡ n
  pub some : 0 < n

abbrev pub ItemIs : ℕ → List ℕ → Front → Type 0
ItemIs at bytes (Ok (Skip n)) = Skips bytes n
ItemIs at bytes (Ok (Take n tok)) = Takes bytes n tok
ItemIs at bytes (Err place) = Stuck at bytes place

verdict_is : (at : ℕ) (bytes text rest : List ℕ) (tok : VTok) → Begins bytes text rest tok → ItemIs at bytes (verdict at (length text) text tok rest)
verdict_is at bytes text rest tok h = go (is_accepted text tok rest) (is_glued text tok rest) refl refl
  where
    go : (a g : Bool) → is_accepted text tok rest ≡ a → is_glued text tok rest ≡ g → ItemIs at bytes (cond a (cond g (Err (at + length text)) (Ok (Take (length text) tok))) (Err at))
    go true true e f = glued h e f
    go true false e f = record { text = text; rest = rest; begins = h; len = refl; accepted = e; free = f }
    go false g e f = refused h e

pub verdict_good : (at n : ℕ) (text rest : List ℕ) (tok : VTok) → is_accepted text tok rest ≡ true → is_glued text tok rest ≡ false → verdict at n text tok rest ≡ Ok (Take n tok)
verdict_good at n text rest tok a g = rw (a, g) refl

verdict_glued : (at n : ℕ) (text rest : List ℕ) (tok : VTok) → is_accepted text tok rest ≡ true → is_glued text tok rest ≡ true → verdict at n text tok rest ≡ Err (at + n)
verdict_glued at n text rest tok a g = rw (a, g) refl

verdict_refused : (at n : ℕ) (text rest : List ℕ) (tok : VTok) → is_accepted text tok rest ≡ false → verdict at n text tok rest ≡ Err at
verdict_refused at n text rest tok a = rw a refl

-- what is answered of a token that is cut from the bytes
pub judged_parts : (at : ℕ) (bytes text rest : List ℕ) (tok : VTok) → bytes ≡ text ++ rest → judged at bytes (Some (length text, tok)) ≡ verdict at (length text) text tok rest
judged_parts at bytes text rest tok e =
    ap (λ (l : List ℕ). verdict at (length text) (take (length text) l) tok (drop (length text) l)) e
    ∙ ap (λ (l : List ℕ). verdict at (length text) l tok (drop (length text) (text ++ rest))) (take_at text rest (length text) refl)
    ∙ ap (λ (l : List ℕ). verdict at (length text) text tok l) (drop_at text rest (length text) refl)

known_judged : (at : ℕ) (bytes : List ℕ) (k : Known bytes) → judged at bytes (longest_at bytes) ≡ verdict at (length k.text) k.text k.tok k.rest
known_judged at bytes k = ap (judged at bytes) k.answer ∙ judged_parts at bytes k.text k.rest k.tok k.longest.parts

known_begins : (at : ℕ) (bytes : List ℕ) → Known bytes → (text rest : List ℕ) (tok : VTok) → Begins bytes text rest tok → judged at bytes (longest_at bytes) ≡ verdict at (length text) text tok rest
known_begins at bytes k text rest tok h =
    let same = begins_only bytes k.text k.rest text rest k.tok tok k.longest h in
    known_judged at bytes k ∙ ap (λ (l : List ℕ). verdict at (length l) l k.tok k.rest) (sym same.text) ∙ ap (λ (l : List ℕ). verdict at (length text) text k.tok l) (sym same.rest)
    ∙ ap (λ (u : VTok). verdict at (length text) text u rest) (sym same.tok)

-- ---- by what gap_at says

item_of_gap : (at : ℕ) (bytes : List ℕ) (g : Gap) → gap_at bytes ≡ g → item_at at bytes ≡ past_gap at bytes g
unfolding item_at
item_of_gap at bytes g e = ap (past_gap at bytes) e

pub item_gap : (at : ℕ) {text rest : List ℕ} → IsGap text rest → item_at at (text ++ rest) ≡ Ok (Skip (length text))
item_gap at {text} {rest} g = item_of_gap at (text ++ rest) (gaps.Whole (length text)) (gap_whole g)

item_broken : (at : ℕ) {bytes : List ℕ} {n : ℕ} → BrokenGap bytes n → item_at at bytes ≡ Err (at + n)
item_broken at {bytes} {n} g = item_of_gap at bytes (gaps.Broken n) (gap_broken g)

no_stroke_no_comment : (xs : List ℕ) → front_is (λ b. eqb b 47) xs ≡ false → starts_comment xs ≡ false
no_stroke_no_comment [] e = refl
no_stroke_no_comment (b ∷ []) e = refl
no_stroke_no_comment (b ∷ c ∷ xs) e = rw e refl

high_no_blank : (xs : List ℕ) → list_all (λ b. leb 33 b) xs ≡ true → front_is is_blank xs ≡ false
high_no_blank [] all = refl
high_no_blank (b ∷ xs) all = let high = leb-true 33 b (and_parts (leb 33 b) (list_all (λ b. leb 33 b) xs) all).0 in grind (arith, nat_tests)

-- where a token begins no gap does
begins_absent : (bytes text rest : List ℕ) (tok : VTok) → Begins bytes text rest tok → gap_at bytes ≡ gaps.Absent
begins_absent bytes text rest tok h =
    let some = kind_some (kind_of h.is) in
    gap_absent bytes (sym (front_more is_blank bytes text rest h.parts some) ∙ high_no_blank text (token_high h.is))
    (no_stroke_no_comment bytes (sym (front_more (λ b. eqb b 47) bytes text rest h.parts some) ∙ no_stroke (kind_of h.is)))

pub item_begins : (at : ℕ) (bytes text rest : List ℕ) (tok : VTok) → Begins bytes text rest tok → item_at at bytes ≡ verdict at (length text) text tok rest
item_begins at [] text rest tok h = absurd (omega (arith, kind_some (kind_of h.is), length-append text rest, ap length h.parts))
item_begins at (b ∷ bs) text rest tok h =
    item_of_gap at (b ∷ bs) gaps.Absent (begins_absent (b ∷ bs) text rest tok h) ∙ elim (longest_is b bs) [
      | inl k ↦ known_begins at (b ∷ bs) k text rest tok h
      | inr n ↦ absurd (n.nothing text rest tok h.parts h.is)
    ]

item_bad : (at b : ℕ) (bs : List ℕ) → is_blank b ≡ false → starts_comment (b ∷ bs) ≡ false → ((text rest : List ℕ) (tok : VTok) → Begins (b ∷ bs) text rest tok → ⊥) → item_at at (b ∷ bs) ≡ Err at
item_bad at b bs e c none =
    item_of_gap at (b ∷ bs) gaps.Absent (gap_absent (b ∷ bs) e c) ∙ elim (longest_is b bs) [
      | inl k ↦ absurd (none k.text k.rest k.tok (begins_from (b ∷ bs) k.text k.rest k.tok k.longest))
      | inr n ↦ ap (judged at (b ∷ bs)) n.answer
    ]

pub item_is : (at b : ℕ) (bs : List ℕ) → ItemIs at (b ∷ bs) (item_at at (b ∷ bs))
item_is at b bs = go (gap_at (b ∷ bs)) refl (gap_is (b ∷ bs))
  where
    go : (g : Gap) → gap_at (b ∷ bs) ≡ g → GapIs (b ∷ bs) g → ItemIs at (b ∷ bs) (item_at at (b ∷ bs))
    go gaps.Absent e h = subst (ItemIs at (b ∷ bs)) (sym (item_of_gap at (b ∷ bs) gaps.Absent e)) (elim (longest_is b bs) [
      | inl k ↦ subst (ItemIs at (b ∷ bs)) (sym (known_judged at (b ∷ bs) k)) (verdict_is at (b ∷ bs) k.text k.rest k.tok (begins_from (b ∷ bs) k.text k.rest k.tok k.longest))
      | inr n ↦ subst (ItemIs at (b ∷ bs)) (sym (ap (judged at (b ∷ bs)) n.answer)) (nothing h.0 h.1 (λ text rest tok s. n.nothing text rest tok s.parts s.is))
    ])
    go (gaps.Whole n) e h = subst (ItemIs at (b ∷ bs)) (sym (item_of_gap at (b ∷ bs) (gaps.Whole n) e))
        (record { text = take n (b ∷ bs); rest = drop n (b ∷ bs); parts = sym (take-append-drop n (b ∷ bs)); is = h.2; len = h.0; some = h.1 })
    go (gaps.Broken n) e h = subst (ItemIs at (b ∷ bs)) (sym (item_of_gap at (b ∷ bs) (gaps.Broken n) e)) (comment h)

broken_some : {bytes : List ℕ} {n : ℕ} → BrokenGap bytes n → 0 < length bytes
broken_some (in_line body rest b all e) = omega arith
broken_some (in_block body rest b n all e f lt) = omega arith
broken_some (no_end e) = omega arith

pub stuck_item : {at : ℕ} {bytes : List ℕ} {place : ℕ} → Stuck at bytes place → (0 < length bytes) × (item_at at bytes ≡ Err place)
stuck_item (comment {at = at} {bytes = bytes} g) = (broken_some g, item_broken at g)
stuck_item (nothing {at = at} {b = b} {bs = bs} e c none) = (omega arith, item_bad at b bs e c none)
stuck_item (refused {at = at} {bytes = bytes} {text = text} {rest = rest} {tok = tok} h a) =
    (omega (arith, kind_some (kind_of h.is), length-append text rest, ap length h.parts), item_begins at bytes text rest tok h ∙ verdict_refused at (length text) text rest tok a)
stuck_item (glued {at = at} {bytes = bytes} {text = text} {rest = rest} {tok = tok} h a g) =
    (omega (arith, kind_some (kind_of h.is), length-append text rest, ap length h.parts), item_begins at bytes text rest tok h ∙ verdict_glued at (length text) text rest tok a g)
