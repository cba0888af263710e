-- The laws on trees and their texts.
use Rattle.std.proofs.Common.{◌≡◌, ℕ, List, [], ◌∷◌, ◌++◌, map, refl, sym, ap, ◌∙◌, subst}
use Rattle.std.specs.Prelude.{◌↔◌}
use Rattle.std.specs.List.{All}
use Rattle.asm_source.specs.Plain.{PlainSum, PlainToken, Run, Sign, Operand}
use Rattle.instruction_trees.specs.Trees.{Table, Form}
use Rattle.instruction_trees.specs.Values.{filled}
use Rattle.instruction_texts.specs.declared.shapes.Shape.{Shape}
use Rattle.instruction_texts.specs.declared.shapes.Shape.TheVariants.{Other, Literal, Unsigned, Signed}
use Rattle.instruction_texts.specs.declared.shapes.Token.{Token}
use Rattle.instruction_texts.specs.declared.shapes.Token.TheVariants as words
use Rattle.instruction_texts.specs.Shapes as shapes
use Rattle.instruction_texts.specs.Shapes.{lead, before_sign, Spells, IsText, IsSized, lower}
use Rattle.instruction_texts.specs.Lines as lines
use Rattle.instruction_texts.specs.Lines.{Plain, Value, Added, Matches, sign_behind, plain_token}
use Rattle.instruction_texts.specs.Written.{Holds, spelled}
use Rattle.instruction_texts.specs.Symbols.{Element, symbols}
use Rattle.instruction_texts.specs.Texts.{text, InRange, order, IsReadable, form_shape, Writes, Ambiguous}
use Rattle.instruction_texts.proofs.Relabelled.{spelled_by}
use Rattle.instruction_texts.proofs.Valued.{tree_of_text, past_unsigned, past_signed}
use Rattle.instruction_texts.proofs.SpelledTexts.{first_sized, others_sized, spelled_spells}

pub writes_are_texts : (table : Table) (syntax : List (List Element)) (k : ℕ) (t : Form) (ts : List Token) → IsReadable table syntax k t → Writes table syntax k t ts ↔ IsText (form_shape table syntax k t) ts
writes_are_texts table syntax k t ts p = (
  (λ w. (map w.0 (order table syntax k t), subst (λ (us : List Token). Spells (form_shape table syntax k t) (map w.0 (order table syntax k t)) us) w.2 (spelled_by table syntax k t w.0 p.clean w.1))),
  (λ s. tree_of_text table syntax k t s.0 ts p.clean p.wide p.once s.1),
)

pub ambiguous_shapes : (table : Table) (syntax : List (List Element)) (j k : ℕ) (t u : Form) → IsReadable table syntax j t → IsReadable table syntax k u
    → Ambiguous table syntax j t k u ↔ ((ts : List Token) × IsText (form_shape table syntax j t) ts × IsText (form_shape table syntax k u) ts)
ambiguous_shapes table syntax j k t u p q = (
  (λ a. (a.0, (writes_are_texts table syntax j t a.0 p).0 a.1, (writes_are_texts table syntax k u a.0 q).0 a.2)),
  (λ a. (a.0, (writes_are_texts table syntax j t a.0 p).1 a.1, (writes_are_texts table syntax k u a.0 q).1 a.2)),
)

pub some_text : (ss : List Shape) (vs : List ℕ) → All IsSized ss → Holds ss vs → (ts : List Token) × Spells ss vs ts
some_text ss vs sized holds = (spelled ss vs, spelled_spells ss vs sized holds)

held_nil : {vs : List ℕ} {ts : List Token} → Spells [] vs ts → Holds [] vs
held_nil shapes.end = tt

past_other : {c : ℕ} {ss : List Shape} {vs : List ℕ} {ts : List Token} → Spells (Other c ∷ ss) vs ts → (us : List Token) × Spells ss vs us
past_other (shapes.other {ts = us} s) = (us, s)

past_literal : {p : List ℕ} {ss : List Shape} {vs : List ℕ} {ts : List Token} → Spells (Literal p ∷ ss) vs ts → (us : List Token) × Spells ss vs us
past_literal (shapes.literal {ts = us} s) = (us, s)

pub spelled_held : (ss : List Shape) (vs : List ℕ) (ts : List Token) → All IsSized ss → Spells ss vs ts → Holds ss vs
spelled_held [] vs ts sized s = held_nil s
spelled_held (Other c ∷ ss) vs ts sized s = let t = past_other s in spelled_held ss vs t.0 (others_sized (Other c) ss sized) t.1
spelled_held (Literal p ∷ ss) vs ts sized s = let t = past_literal s in spelled_held ss vs t.0 (others_sized (Literal p) ss sized) t.1
spelled_held (Unsigned hex p n ∷ ss) vs ts sized s = let t = past_unsigned s in subst (λ (l : List ℕ). Holds (Unsigned hex p n ∷ ss) l) (sym t.is) (t.below, spelled_held ss t.rest t.after (others_sized (Unsigned hex p n) ss sized) t.spells)
spelled_held (Signed p n ∷ ss) vs ts sized s = let t = past_signed (first_sized (Signed p n) ss sized).0 s in subst (λ (l : List ℕ). Holds (Signed p n ∷ ss) l) (sym t.is) (t.below, spelled_held ss t.rest t.after (others_sized (Signed p n) ss sized) t.spells)

-- ---- lines without operands

signs_match : (p : List ℕ) (ts : List Token) → map plain_token (before_sign p ts) ≡ sign_behind p (map plain_token ts)
signs_match [] ts = refl
signs_match (c ∷ p) ts = refl

pub texts_match : {ss : List Shape} {vs : List ℕ} {ts : List Token} → Spells ss vs ts → Matches ss (map Value vs) (map plain_token ts)
texts_match shapes.end = lines.end
texts_match (shapes.other s) = lines.other (texts_match s)
texts_match (shapes.literal s) = lines.literal (texts_match s)
texts_match (shapes.unsigned cs h v s e) = lines.unsigned cs h v (texts_match s) (ap (map plain_token) e)
texts_match (shapes.positive cs h v s e) = lines.positive cs h v (texts_match s) (ap (map plain_token) e)
texts_match (shapes.negative {p = p} cs {ts = ts} h v s e) = lines.negative cs h v (texts_match s) (ap (map plain_token) e ∙ signs_match p (words.Sign 45 ∷ words.Word cs ∷ ts))

nothing_plain : (ts : List Token) → [] ≡ map plain_token ts → ts ≡ []
nothing_plain [] e = refl
nothing_plain (t ∷ ts) e = absurd cc

run_plain : (w : List ℕ) (line : List PlainToken) (ts : List Token) → Run w ∷ line ≡ map plain_token ts → (us : List Token) × (ts ≡ words.Word w ∷ us) × (line ≡ map plain_token us)
run_plain w line [] e = absurd cc
run_plain w line (words.Word x ∷ ts) e = let h : w ≡ x = cc in (ts, ap (λ (l : List ℕ). words.Word l ∷ ts) (sym h), (cc))
run_plain w line (words.Sign c ∷ ts) e = absurd cc

sign_plain : (c : ℕ) (line : List PlainToken) (ts : List Token) → Sign c ∷ line ≡ map plain_token ts → (us : List Token) × (ts ≡ words.Sign c ∷ us) × (line ≡ map plain_token us)
sign_plain c line [] e = absurd cc
sign_plain c line (words.Word x ∷ ts) e = absurd cc
sign_plain c line (words.Sign d ∷ ts) e = let h : c ≡ d = cc in (ts, ap (λ (x : ℕ). words.Sign x ∷ ts) (sym h), (cc))

behind_plain : (p : List ℕ) (line : List PlainToken) (ts : List Token) → sign_behind p line ≡ map plain_token ts → (us : List Token) × (ts ≡ before_sign p us) × (line ≡ map plain_token us)
behind_plain [] line ts e = (ts, refl, e)
behind_plain (c ∷ p) line ts e = run_plain (c ∷ p) line ts e

no_operand : (q : List ℕ) (s : PlainSum) (line : List PlainToken) (ts : List Token) → Operand q s ∷ line ≡ map plain_token ts → ⊥
no_operand q s line [] e = cc
no_operand q s line (words.Word x ∷ ts) e = cc
no_operand q s line (words.Sign d ∷ ts) e = cc

pub record IsPlainText (ss : List Shape) (gs : List Plain) (ts : List Token) : Type 0 where
  pub values : List ℕ
  pub is : gs ≡ map Value values
  pub spells : Spells ss values ts

pub matched_text : {ss : List Shape} {gs : List Plain} {line : List PlainToken} → Matches ss gs line → (ts : List Token) → line ≡ map plain_token ts → IsPlainText ss gs ts
matched_text lines.end ts e = record { values = []; is = refl; spells = subst (λ (l : List Token). Spells [] [] l) (sym (nothing_plain ts e)) shapes.end }
matched_text (lines.other {c = c} {ss = ss} {ts = line} m) ts e =
    let a = sign_plain c line ts e in
    let t = matched_text m a.0 a.2 in
    record { values = t.values; is = t.is; spells = subst (λ (l : List Token). Spells (Other c ∷ ss) t.values l) (sym a.1) (shapes.other t.spells) }
matched_text (lines.literal {p = p} {ss = ss} {ts = line} m) ts e =
    let a = run_plain p line ts e in
    let t = matched_text m a.0 a.2 in
    record { values = t.values; is = t.is; spells = subst (λ (l : List Token). Spells (Literal p ∷ ss) t.values l) (sym a.1) (shapes.literal t.spells) }
matched_text (lines.unsigned {hex = hex} {p = p} cs {v = v} {ts = line} h x m g) ts e =
    let a = run_plain (lead hex p ++ cs) line ts (sym g ∙ e) in
    let t = matched_text m a.0 a.2 in
    record { values = v ∷ t.values; is = ap (λ (l : List Plain). Value v ∷ l) t.is; spells = shapes.unsigned cs h x t.spells a.1 }
matched_text (lines.positive {p = p} cs {v = v} {ts = line} h x m g) ts e =
    let a = run_plain (p ++ cs) line ts (sym g ∙ e) in
    let t = matched_text m a.0 a.2 in
    record { values = v ∷ t.values; is = ap (λ (l : List Plain). Value v ∷ l) t.is; spells = shapes.positive cs h x t.spells a.1 }
matched_text (lines.negative {p = p} cs {v = v} {ts = line} h x m g) ts e =
    let a = behind_plain p (Sign 45 ∷ Run cs ∷ line) ts (sym g ∙ e) in
    let b = sign_plain 45 (Run cs ∷ line) a.0 a.2 in
    let c = run_plain cs line b.0 b.2 in
    let t = matched_text m c.0 c.2 in
    record { values = v ∷ t.values; is = ap (λ (l : List Plain). Value v ∷ l) t.is; spells = shapes.negative cs h x t.spells (a.1 ∙ ap (before_sign p) (b.1 ∙ ap (λ (l : List Token). words.Sign 45 ∷ l) c.1)) }
matched_text (lines.operand {p = p} {s = s} {ts = line} m) ts e = absurd (no_operand p s line ts e)
matched_text (lines.signed_operand {p = p} {s = s} {ts = line} m) ts e = absurd (no_operand p s line ts e)

pub matched_plain : (ss : List Shape) (gs : List Plain) (ts : List Token) → Matches ss gs (map plain_token ts) → (vs : List ℕ) × (gs ≡ map Value vs) × Spells ss vs ts
matched_plain ss gs ts m = let t = matched_text m ts refl in (t.values, t.is, t.spells)

pub read_again : (table : Table) (syntax : List (List Element)) (k : ℕ) (t : Form) (f : ℕ → ℕ) → IsReadable table syntax k t → InRange (symbols table syntax k (filled f t))
    → Matches (form_shape table syntax k t) (map Value (map f (order table syntax k t))) (map plain_token (text table syntax k (filled f t)))
read_again table syntax k t f p in_range = texts_match (spelled_by table syntax k t f p.clean in_range)
