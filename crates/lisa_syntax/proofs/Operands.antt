-- A line matches pieces exactly where it is a text of theirs in which operands stand for numbers.
use Rattle.std.proofs.Common.{◌≡◌, ℕ, zero, suc, ◌-◌, ◌^◌, ◌<◌, Bool, false, List, [], ◌∷◌, ◌++◌, map, refl, sym, ap, ap₂, ◌∙◌, subst, arith}
use Rattle.std.specs.Prelude.{◌↔◌}
use Rattle.std.specs.List.{All}
use Rattle.std.proofs.lemmas.Bool.{lt-ltb}
use Rattle.std.proofs.lemmas.List.{append-nil}
use Rattle.asm_source.specs.Plain.{PlainToken, Run, Sign, Operand}
use Rattle.instruction_texts.specs.declared.shapes.Shape.{Shape}
use Rattle.instruction_texts.specs.declared.shapes.Shape.TheVariants.{Other, Literal, Unsigned, Signed}
use Rattle.instruction_texts.specs.declared.shapes.Token.{Token}
use Rattle.instruction_texts.specs.declared.shapes.Token.TheVariants as words
use Rattle.instruction_texts.specs.Shapes as shapes
use Rattle.instruction_texts.specs.Shapes.{lead, before_sign, Spells, IsSized, IsWide}
use Rattle.instruction_texts.specs.Lines as lines
use Rattle.instruction_texts.specs.Lines.{Plain, Value, Added, Matches, sign_behind, plain_token}
use Rattle.instruction_texts.specs.Written.{base_numeral, signed_text, said, Holds}
use Rattle.instruction_texts.proofs.CommonRuns.{power_some}
use Rattle.instruction_texts.proofs.NumeralValues.{numeral_is}
use Rattle.instruction_texts.proofs.OneText.{text_is_one}
use Rattle.instruction_texts.proofs.SpelledTexts.{whole_ends, first_sized, others_sized, spelled_spells}
use Rattle.instruction_texts.proofs.TextLaws.{spelled_held}
use Rattle.lisa_syntax.specs.Operands.{spelled_with, IsOneRun, AreGiven, IsTextWith}

-- ---- a number by itself

wide_one : (s : Shape) → IsSized s → IsWide (s ∷ [])
wide_one (Other c) h = tt
wide_one (Literal p) h = tt
wide_one (Unsigned hex p n) h = tt
wide_one (Signed p n) h = (h.0, tt)

one_sized : (s : Shape) → IsSized s → All IsSized (s ∷ [])
one_sized s h zero d inside = h
one_sized s h (suc k) d inside = absurd (omega arith)

-- it has one text with its value, so that is its own
own_text : (s : Shape) (v : ℕ) (ts : List Token) → IsSized s → Spells (s ∷ []) (v ∷ []) ts
    → Holds (s ∷ []) (v ∷ []) × (ts ≡ said s (v ∷ []))
own_text s v ts h t =
    let sized : All IsSized (s ∷ []) = one_sized s h in
    let held : Holds (s ∷ []) (v ∷ []) = spelled_held (s ∷ []) (v ∷ []) ts sized t in
    (held, text_is_one (wide_one s h) t (spelled_spells (s ∷ []) (v ∷ []) sized held) refl ∙ append-nil (said s (v ∷ [])))

minus_line : (p cs : List ℕ) (line : List PlainToken)
    → sign_behind p (Sign 45 ∷ Run cs ∷ line) ≡ map plain_token (before_sign p (words.Sign 45 ∷ words.Word cs ∷ [])) ++ line
minus_line [] cs line = refl
minus_line (c ∷ p) cs line = refl

-- an operand may always stand for 0
zero_held : (n : ℕ) → 0 < 2 ^ n
zero_held n = power_some 2 n (omega arith)

zero_unsigned : (hex : Bool) (p : List ℕ) (n : ℕ) → IsOneRun (Unsigned hex p n) 0
zero_unsigned hex p n = (lead hex p ++ base_numeral hex 0, refl)

zero_signed : (p : List ℕ) (n : ℕ) → IsOneRun (Signed p n) 0
zero_signed p n = (p ++ base_numeral false 0, ap (λ (b : Bool). signed_text b p n 0) (lt-ltb 0 (2 ^ (n - 1)) (zero_held (n - 1))))

joined : {ts us : List Token} {line more : List PlainToken} → ts ≡ us → line ≡ more
    → map plain_token ts ++ line ≡ map plain_token us ++ more
joined e f = ap₂ (λ (a : List Token) (b : List PlainToken). map plain_token a ++ b) e f

-- ---- from a line that matches to a text

pub is_text : {ss : List Shape} {gs : List Plain} {line : List PlainToken} → Matches ss gs line → All IsSized ss
    → (vs : List ℕ) × IsTextWith ss vs gs line
is_text lines.end sized = ([], record { held = tt; given = tt; is = refl })
is_text (lines.other {c = c} {ss = ss} m) sized =
    let t = is_text m (others_sized (Other c) ss sized) in
    (t.0, record { held = t.1.held; given = t.1.given; is = ap (λ (l : List PlainToken). Sign c ∷ l) t.1.is })
is_text (lines.literal {p = p} {ss = ss} m) sized =
    let t = is_text m (others_sized (Literal p) ss sized) in
    (t.0, record { held = t.1.held; given = t.1.given; is = ap (λ (l : List PlainToken). Run p ∷ l) t.1.is })
is_text (lines.unsigned {hex = hex} {p = p} cs {n = n} {v = v} {ss = ss} h x m e) sized =
    let s = Unsigned hex p n in
    let t = is_text m (others_sized s ss sized) in
    let own = own_text s v (words.Word (lead hex p ++ cs) ∷ []) (first_sized s ss sized) (shapes.unsigned cs h x shapes.end refl) in
    (v ∷ t.0, record { held = (own.0.0, t.1.held); given = (refl, t.1.given); is = e ∙ joined own.1 t.1.is })
is_text (lines.positive {p = p} cs {n = n} {v = v} {ss = ss} h x m e) sized =
    let s = Signed p n in
    let t = is_text m (others_sized s ss sized) in
    let own = own_text s v (words.Word (p ++ cs) ∷ []) (first_sized s ss sized) (shapes.positive cs h x shapes.end refl) in
    (v ∷ t.0, record { held = (own.0.0, t.1.held); given = (refl, t.1.given); is = e ∙ joined own.1 t.1.is })
is_text (lines.negative {p = p} cs {n = n} {v = v} {ss = ss} {ts = line} h x m e) sized =
    let s = Signed p n in
    let t = is_text m (others_sized s ss sized) in
    let own = own_text s v (before_sign p (words.Sign 45 ∷ words.Word cs ∷ [])) (first_sized s ss sized) (shapes.negative cs h x shapes.end refl) in (
      v ∷ t.0,
      record {
        held = (own.0.0, t.1.held);
        given = (refl, t.1.given);
        is = e ∙ minus_line p cs line ∙ joined own.1 t.1.is;
      },
    )
is_text (lines.operand {hex = hex} {p = p} {n = n} {s = sum} {ss = ss} m) sized =
    let t = is_text m (others_sized (Unsigned hex p n) ss sized) in (
      0 ∷ t.0,
      record {
        held = (zero_held n, t.1.held);
        given = (zero_unsigned hex p n, t.1.given);
        is = ap (λ (l : List PlainToken). Operand p sum ∷ l) t.1.is;
      },
    )
is_text (lines.signed_operand {p = p} {n = n} {s = sum} {ss = ss} m) sized =
    let t = is_text m (others_sized (Signed p n) ss sized) in (
      0 ∷ t.0,
      record {
        held = (zero_held n, t.1.held);
        given = (zero_signed p n, t.1.given);
        is = ap (λ (l : List PlainToken). Operand p sum ∷ l) t.1.is;
      },
    )

-- ---- from a text to a line that matches

nothing_said : {vs : List ℕ} {ts : List Token} → Spells [] vs ts → ts ≡ []
nothing_said shapes.end = refl

signed_matches : {p : List ℕ} {n v w : ℕ} {ts : List Token} {ss : List Shape} {gs : List Plain} {line : List PlainToken}
    → Spells (Signed p n ∷ []) (v ∷ []) ts → w ≡ v → Matches ss gs line
    → Matches (Signed p n ∷ ss) (Value w ∷ gs) (map plain_token ts ++ line)
signed_matches (shapes.positive {p = p} cs h x r e) is m =
    lines.positive cs h (is ∙ x) m (joined (e ∙ ap (λ (l : List Token). words.Word (p ++ cs) ∷ l) (nothing_said r)) refl)
signed_matches {line = line} (shapes.negative {p = p} cs h x r e) is m =
    let last = ap (λ (l : List Token). before_sign p (words.Sign 45 ∷ words.Word cs ∷ l)) (nothing_said r) in
    lines.negative cs h (is ∙ x) m (joined (e ∙ last) refl ∙ sym (minus_line p cs line))

signed_spelled : (p : List ℕ) (n v : ℕ) → IsSized (Signed p n) → v < 2 ^ n
    → Spells (Signed p n ∷ []) (v ∷ []) (said (Signed p n) (v ∷ []))
signed_spelled p n v h below =
    let s = Signed p n in
    let spells = spelled_spells (s ∷ []) (v ∷ []) (one_sized s h) (below, tt) in
    subst (λ (l : List Token). Spells (s ∷ []) (v ∷ []) l) (append-nil (said s (v ∷ []))) spells

pub text_matches : (ss : List Shape) (vs : List ℕ) (gs : List Plain) → All IsSized ss → Holds ss vs → AreGiven ss vs gs
    → Matches ss gs (spelled_with ss vs gs)
text_matches [] [] [] sized h g = lines.end
text_matches [] [] (x ∷ gs) sized h g = absurd g
text_matches [] (v ∷ vs) gs sized h g = absurd h
text_matches (Other c ∷ ss) vs gs sized h g = lines.other (text_matches ss vs gs (others_sized (Other c) ss sized) h g)
text_matches (Literal p ∷ ss) vs gs sized h g = lines.literal (text_matches ss vs gs (others_sized (Literal p) ss sized) h g)
text_matches (Unsigned hex p n ∷ ss) [] gs sized h g = absurd h
text_matches (Unsigned hex p n ∷ ss) (v ∷ vs) [] sized h g = absurd g
text_matches (Unsigned hex p n ∷ ss) (v ∷ vs) (Value w ∷ gs) sized h g =
    let m = text_matches ss vs gs (others_sized (Unsigned hex p n) ss sized) h.1 g.1 in
    lines.unsigned (base_numeral hex v) (whole_ends hex n v h.0) (g.0 ∙ sym (numeral_is hex v).is) m refl
text_matches (Unsigned hex p n ∷ ss) (v ∷ vs) (Added s ∷ gs) sized h g =
    lines.operand (text_matches ss vs gs (others_sized (Unsigned hex p n) ss sized) h.1 g.1)
text_matches (Signed p n ∷ ss) [] gs sized h g = absurd h
text_matches (Signed p n ∷ ss) (v ∷ vs) [] sized h g = absurd g
text_matches (Signed p n ∷ ss) (v ∷ vs) (Value w ∷ gs) sized h g =
    let m = text_matches ss vs gs (others_sized (Signed p n) ss sized) h.1 g.1 in
    signed_matches (signed_spelled p n v (first_sized (Signed p n) ss sized) h.0) g.0 m
text_matches (Signed p n ∷ ss) (v ∷ vs) (Added s ∷ gs) sized h g =
    lines.signed_operand (text_matches ss vs gs (others_sized (Signed p n) ss sized) h.1 g.1)

-- ---- the law

pub lines_are_texts : (ss : List Shape) (gs : List Plain) (line : List PlainToken) → All IsSized ss
    → Matches ss gs line ↔ ((vs : List ℕ) × IsTextWith ss vs gs line)
lines_are_texts ss gs line sized = (
  (λ m. is_text m sized),
  (λ t. subst (λ (l : List PlainToken). Matches ss gs l) (sym t.1.is) (text_matches ss t.0 gs sized t.1.held t.1.given)),
)
