-- Reserved words, type words and names.
use Rattle.std.proofs.Common.{◌≡◌, ℕ, ◌+◌, ◌-◌, ◌*◌, ◌/◌, ◌%◌, ◌^◌, ◌<◌, ◌≤◌, Bool, true, false, cond, eqb, leb, List, [], ◌∷◌, ◌++◌, length, drop, Option, Some, None, refl, sym, ap, subst, ◌∙◌, inl, inr, arith, lit<}
use Rattle.std.specs.Prelude.{◌&&◌, codes, option_map}
use Rattle.std.specs.List.{list_all}
use Rattle.std.specs.Str.{bytes_eq}
use Rattle.std.specs.Fmt.{decimal}
use Rattle.std.proofs.lemmas.Bool.{and_parts, and_from, eqb-true, leb-true, le-leb, cases_lt, or_right}
use Rattle.std.proofs.lemmas.Fmt.{decimal_by_steps}
use Rattle.std.proofs.lemmas.Slice.Eq.{bytes_eq-Decides}
use Rattle.lisa_words.specs.declared.words.Kind.{Kind}
use Rattle.lisa_words.specs.declared.words.Kind.TheVariants as kinds
use Rattle.lisa_tree.specs.declared.tokens.Keyword.{Keyword}
use Rattle.lisa_tree.specs.declared.tokens.Keyword.TheVariants as keywords
use Rattle.lisa_tree.specs.declared.tokens.Shape.{Shape}
use Rattle.lisa_tree.specs.declared.tokens.TokenPart.TheVariants as parts
use Rattle.lisa_tree.specs.Spellings.{keyword_text, kind_text, shape_text}
use Rattle.lisa_tree.specs.Tokens.{IsTypeWidth, IsTypeWord, IsToken, named, reserved, type_word, is_glued, Fits}
use Rattle.lisa_words.specs.Bytes.{is_digit, is_letter, is_word, front_is}
use Rattle.lisa_lexer.specs.Reserved.{words_a_to_d, words_e_to_o, words_p_to_s, small_words, begins_between, keyword_of, width_of, shape_with, starts_uint, starts_int, shape_of, part_by, word_part}

abbrev some : {A : Type 0} → A → Option A
some x = Some x

-- one word of a list
one_word : (w text : List ℕ) (k : Keyword) (o : Option Keyword) (j : Keyword) → text ≡ keyword_text k → cond (bytes_eq w text) (Some k) o ≡ Some j → (o ≡ Some j → w ≡ keyword_text j) → w ≡ keyword_text j
one_word w text k o j is e rest = go (bytes_eq w text) refl e
  where
    go : (b : Bool) → bytes_eq w text ≡ b → cond b (Some k) o ≡ Some j → w ≡ keyword_text j
    go true f e = let same : k ≡ j = cc in (bytes_eq-Decides w text).0 f ∙ is ∙ ap keyword_text same
    go false f e = rest e

words_a_to_d_is : (w : List ℕ) (k : Keyword) → words_a_to_d w ≡ Some k → w ≡ keyword_text k
words_a_to_d_is w k e =
    one_word w (codes "CONTROL_REGISTER") keywords.ControlRegister _ k refl e (λ h. one_word w (codes "CLOCKED") keywords.Clocked _ k refl h (λ h. one_word w (codes "DATA_MEMORY") keywords.DataMemory _ k refl h (λ h. one_word w (codes "ALIAS") keywords.Alias _ k refl h (λ h. one_word w (codes "DECLARE") keywords.Declare _ k refl h (λ h. one_word w (codes "CODING") keywords.Coding _ k refl h (λ h. one_word w (codes "BEHAVIOR") keywords.Behavior _ k refl h (λ h. one_word w (codes "ACTIVATION") keywords.Activation _ k refl h (λ h. absurd cc))))))))

words_e_to_o_is : (w : List ℕ) (k : Keyword) → words_e_to_o w ≡ Some k → w ≡ keyword_text k
words_e_to_o_is w k e =
    one_word w (codes "MEMORY") keywords.Memory _ k refl e (λ h. one_word w (codes "IN") keywords.In _ k refl h (λ h. one_word w (codes "OUT") keywords.Out _ k refl h (λ h. one_word w (codes "OPERATION") keywords.Operation _ k refl h (λ h. one_word w (codes "GROUP") keywords.Group _ k refl h (λ h. one_word w (codes "INSTANCE") keywords.Instance _ k refl h (λ h. one_word w (codes "LABEL") keywords.Label _ k refl h (λ h. one_word w (codes "EXPRESSION") keywords.Expression _ k refl h (λ h. absurd cc))))))))

words_p_to_s_is : (w : List ℕ) (k : Keyword) → words_p_to_s w ≡ Some k → w ≡ keyword_text k
words_p_to_s_is w k e =
    one_word w (codes "RESOURCE") keywords.Resource _ k refl e (λ h. one_word w (codes "REGISTER") keywords.Register _ k refl h (λ h. one_word w (codes "PROGRAM_COUNTER") keywords.ProgramCounter _ k refl h (λ h. one_word w (codes "PROGRAM_MEMORY") keywords.ProgramMemory _ k refl h (λ h. one_word w (codes "PIN") keywords.Pin _ k refl h (λ h. one_word w (codes "PIPELINE") keywords.Pipeline _ k refl h (λ h. one_word w (codes "PIPELINE_REGISTER") keywords.PipelineRegister _ k refl h (λ h. one_word w (codes "REFERENCE") keywords.Reference _ k refl h (λ h. one_word w (codes "SYNTAX") keywords.Syntax _ k refl h (λ h. one_word w (codes "SEMANTICS") keywords.Semantics _ k refl h (λ h. absurd cc))))))))))

small_words_is : (w : List ℕ) (k : Keyword) → small_words w ≡ Some k → w ≡ keyword_text k
small_words_is w k e =
    one_word w (codes "if") keywords.If _ k refl e (λ h. one_word w (codes "else") keywords.Else _ k refl h (λ h. one_word w (codes "while") keywords.While _ k refl h (λ h. one_word w (codes "for") keywords.For _ k refl h (λ h. one_word w (codes "decoded") keywords.Decoded _ k refl h (λ h. absurd cc)))))

keyword_is : (w : List ℕ) (k : Keyword) → keyword_of w ≡ Some k → w ≡ keyword_text k
unfolding keyword_of
keyword_is w k e = go (begins_between 65 68 w) (begins_between 69 79 w) (begins_between 80 83 w) (begins_between 100 119 w) e
  where
    go : (p q r s : Bool) → cond p (words_a_to_d w) (cond q (words_e_to_o w) (cond r (words_p_to_s w) (cond s (small_words w) None))) ≡ Some k → w ≡ keyword_text k
    go true q r s e = words_a_to_d_is w k e
    go false true r s e = words_e_to_o_is w k e
    go false false true s e = words_p_to_s_is w k e
    go false false false true e = small_words_is w k e
    go false false false false e = absurd cc

keyword_back : (k : Keyword) → keyword_of (keyword_text k) ≡ Some k
unfolding keyword_of
keyword_back keywords.Resource = refl
keyword_back _ = refl

keyword_none : (w : List ℕ) → keyword_of w ≡ None → (k : Keyword) → w ≡ keyword_text k → ⊥
keyword_none w none k e = let found : keyword_of w ≡ Some k = ap keyword_of e ∙ keyword_back k in absurd cc

pub keyword_front : (k : Keyword) → front_is is_letter (keyword_text k) ≡ true
keyword_front keywords.Resource = refl
keyword_front _ = refl

keyword_all : (k : Keyword) → list_all is_word (keyword_text k) ≡ true
keyword_all keywords.Resource = refl
keyword_all _ = refl

keyword_short : (k : Keyword) → leb (length (keyword_text k)) 64 ≡ true
keyword_short keywords.Resource = refl
keyword_short _ = refl

-- ---- widths

-- a number of one or two digits
abbrev HasDigits : ℕ → List ℕ → Type 0
HasDigits n ds = (n < 10 → ds ≡ (48 + n) ∷ []) × (10 ≤ n → n < 100 → ds ≡ (48 + n / 10) ∷ (48 + n % 10) ∷ [])

one_digit : (n : ℕ) → n < 10 → HasDigits n ((48 + n) ∷ [])
one_digit n lt = (λ _. refl, λ le _. absurd (omega arith))

more_digits : (n : ℕ) (ds : List ℕ) → 10 ≤ n → HasDigits (n / 10) ds → HasDigits n (ds ++ ((48 + n % 10) ∷ []))
more_digits n ds le h = (λ lt. absurd (omega arith), λ _ lt. ap (λ (l : List ℕ). l ++ ((48 + n % 10) ∷ [])) (h.0 (omega arith)))

digits_of_width : (n : ℕ) → n ≤ 99 → HasDigits n (decimal n)
digits_of_width n le = decimal_by_steps HasDigits one_digit more_digits n (let small : 99 < 2 ^ 64 = lit< tt in omega arith)

digit_is : (k : ℕ) → k < 10 → is_digit (48 + k) ≡ true
digit_is k lt = and_from _ _ (le-leb 48 (48 + k) (omega arith)) (le-leb (48 + k) 57 (omega arith))

first_is : (k : ℕ) → 1 ≤ k → k < 10 → (leb 49 (48 + k) && leb (48 + k) 57) ≡ true
first_is k le lt = and_from _ _ (le-leb 49 (48 + k) (omega arith)) (le-leb (48 + k) 57 (omega arith))

width_back : (n : ℕ) → IsTypeWidth n → width_of (decimal n) ≡ Some n
width_back n h = elim (cases_lt n 10) [
  | inl lt ↦
      ap width_of ((digits_of_width n h.1).0 lt)
      ∙ ap (λ (c : Bool). cond c (some (48 + n - 48)) None) (first_is n h.0 lt) ∙ ap some (omega arith)
  | inr le ↦
      let d : (leb 49 (48 + n / 10) && leb (48 + n / 10) 57) ≡ true = first_is (n / 10) (omega arith) (omega arith) in
      let e : is_digit (48 + n % 10) ≡ true = digit_is (n % 10) (omega arith) in
      ap width_of ((digits_of_width n h.1).1 le (omega arith))
      ∙ ap (λ (c : Bool). cond c (some (10 * (48 + n / 10 - 48) + (48 + n % 10 - 48))) None) (and_from _ _ d e) ∙ ap some (omega arith)
]

width_is : (l : List ℕ) (n : ℕ) → width_of l ≡ Some n → IsTypeWidth n × (l ≡ decimal n)
width_is [] n e = absurd cc
width_is (d ∷ []) n e = go (leb 49 d && leb d 57) refl e
  where
    go : (c : Bool) → (leb 49 d && leb d 57) ≡ c → cond c (some (d - 48)) None ≡ Some n → IsTypeWidth n × (d ∷ [] ≡ decimal n)
    go true f e =
        let both = and_parts (leb 49 d) (leb d 57) f in
        let least : 49 ≤ d = leb-true 49 d both.0 in
        let most : d ≤ 57 = leb-true d 57 both.1 in
        let is : d - 48 ≡ n = cc in
        let small : n < 10 = omega arith in
        ((omega arith, omega arith), ap (λ (x : ℕ). x ∷ []) (omega arith) ∙ sym ((digits_of_width n (omega arith)).0 small))
    go false f e = absurd cc
width_is (d ∷ c ∷ []) n e = go (leb 49 d && leb d 57 && is_digit c) refl e
  where
    go : (b : Bool) → (leb 49 d && leb d 57 && is_digit c) ≡ b → cond b (some (10 * (d - 48) + (c - 48))) None ≡ Some n → IsTypeWidth n × (d ∷ c ∷ [] ≡ decimal n)
    go true f e =
        let all = and_parts (leb 49 d && leb d 57) (is_digit c) f in
        let both = and_parts (leb 49 d) (leb d 57) all.0 in
        let digit = and_parts (leb 48 c) (leb c 57) all.1 in
        let least : 49 ≤ d = leb-true 49 d both.0 in
        let most : d ≤ 57 = leb-true d 57 both.1 in
        let least' : 48 ≤ c = leb-true 48 c digit.0 in
        let most' : c ≤ 57 = leb-true c 57 digit.1 in
        let is : 10 * (d - 48) + (c - 48) ≡ n = cc in
        let large : 10 ≤ n = omega arith in
        let few : n < 100 = omega arith in
        let tens : d ≡ 48 + n / 10 = omega arith in
        let ones : c ≡ 48 + n % 10 = omega arith in
        ((omega arith, omega arith), ap (λ (x : ℕ). x ∷ c ∷ []) tens ∙ ap (λ (x : ℕ). (48 + n / 10) ∷ x ∷ []) ones ∙ sym ((digits_of_width n (omega arith)).1 large few))
    go false f e = absurd cc
width_is (d ∷ c ∷ x ∷ l) n e = absurd cc

-- ---- type words

uint_split : (w : List ℕ) → starts_uint w ≡ true → w ≡ codes "uint" ++ drop 4 w
uint_split [] e = absurd cc
uint_split (a ∷ []) e = absurd cc
uint_split (a ∷ b ∷ []) e = absurd cc
uint_split (a ∷ b ∷ c ∷ []) e = absurd cc
uint_split (a ∷ b ∷ c ∷ d ∷ w) e =
    let all = and_parts (eqb a 117 && eqb b 105 && eqb c 110) (eqb d 116) e in
    let three = and_parts (eqb a 117 && eqb b 105) (eqb c 110) all.0 in
    let two = and_parts (eqb a 117) (eqb b 105) three.0 in
    ap (λ (x : ℕ). x ∷ b ∷ c ∷ d ∷ w) (eqb-true a 117 two.0) ∙ ap (λ (x : ℕ). 117 ∷ x ∷ c ∷ d ∷ w) (eqb-true b 105 two.1)
    ∙ ap (λ (x : ℕ). 117 ∷ 105 ∷ x ∷ d ∷ w) (eqb-true c 110 three.1) ∙ ap (λ (x : ℕ). 117 ∷ 105 ∷ 110 ∷ x ∷ w) (eqb-true d 116 all.1)

int_split : (w : List ℕ) → starts_int w ≡ true → w ≡ codes "int" ++ drop 3 w
int_split [] e = absurd cc
int_split (a ∷ []) e = absurd cc
int_split (a ∷ b ∷ []) e = absurd cc
int_split (a ∷ b ∷ c ∷ w) e =
    let three = and_parts (eqb a 105 && eqb b 110) (eqb c 116) e in
    let two = and_parts (eqb a 105) (eqb b 110) three.0 in
    ap (λ (x : ℕ). x ∷ b ∷ c ∷ w) (eqb-true a 105 two.0) ∙ ap (λ (x : ℕ). 105 ∷ x ∷ c ∷ w) (eqb-true b 110 two.1) ∙ ap (λ (x : ℕ). 105 ∷ 110 ∷ x ∷ w) (eqb-true c 116 three.1)

with_kind : (kind : Kind) (o : Option ℕ) (s : Shape) → option_map (shape_with kind) o ≡ Some s → (n : ℕ) × (o ≡ Some n) × (shape_with kind n ≡ s)
with_kind kind None s e = absurd cc
with_kind kind (Some n) s e = (n, refl, (cc))

shape_by : (kind : Kind) (w digits : List ℕ) (s : Shape) → w ≡ kind_text kind ++ digits → option_map (shape_with kind) (width_of digits) ≡ Some s → IsTypeWord w s
shape_by kind w digits s is e =
    let found = with_kind kind (width_of digits) s e in
    let width = width_is digits found.0 found.1 in
    subst (λ (t : Shape). IsTypeWord w t) found.2 (width.0, is ∙ ap (λ (l : List ℕ). kind_text kind ++ l) width.1)

shape_is : (w : List ℕ) (s : Shape) → shape_of w ≡ Some s → IsTypeWord w s
unfolding shape_of
shape_is w s e = go (starts_uint w) (starts_int w) refl refl e
  where
    go : (p q : Bool) → starts_uint w ≡ p → starts_int w ≡ q → cond p (option_map (shape_with kinds.Unsigned) (width_of (drop 4 w))) (cond q (option_map (shape_with kinds.Signed) (width_of (drop 3 w))) None) ≡ Some s → IsTypeWord w s
    go true q f g e = shape_by kinds.Unsigned w (drop 4 w) s (uint_split w f) e
    go false true f g e = shape_by kinds.Signed w (drop 3 w) s (int_split w g) e
    go false false f g e = absurd cc

not_uint : (l : List ℕ) → starts_uint (codes "int" ++ l) ≡ false
not_uint [] = refl
not_uint (d ∷ l) = refl

shape_back : (kind : Kind) (n : ℕ) → IsTypeWidth n → shape_of (kind_text kind ++ decimal n) ≡ Some (shape_with kind n)
unfolding shape_of
shape_back kinds.Unsigned n h = ap (option_map (shape_with kinds.Unsigned)) (width_back n h)
shape_back kinds.Signed n h =
    ap (λ (c : Bool). cond c (option_map (shape_with kinds.Unsigned) (width_of (drop 4 (codes "int" ++ decimal n)))) (option_map (shape_with kinds.Signed) (width_of (decimal n)))) (not_uint (decimal n))
    ∙ ap (option_map (shape_with kinds.Signed)) (width_back n h)

shape_none : (w : List ℕ) → shape_of w ≡ None → (s : Shape) → IsTypeWord w s → ⊥
shape_none w none s h = let found : shape_of w ≡ Some s = ap shape_of h.1 ∙ shape_back s.kind s.width h.0 in absurd cc

pub shape_front : (s : Shape) → front_is is_letter (shape_text s) ≡ true
shape_front s = go s.kind
  where
    go : (kind : Kind) → front_is is_letter (kind_text kind ++ decimal s.width) ≡ true
    go kinds.Unsigned = refl
    go kinds.Signed = refl

digits_all : (n : ℕ) → n ≤ 99 → (list_all is_word (decimal n) ≡ true) × (length (decimal n) ≤ 2)
digits_all n le = elim (cases_lt n 10) [
  | inl lt ↦ rw ((digits_of_width n le).0 lt) (and_from _ _ (or_right _ _ (digit_is n lt)) refl, omega arith)
  | inr ge ↦ rw ((digits_of_width n le).1 ge (omega arith)) (and_from _ _ (or_right _ _ (digit_is (n / 10) (omega arith))) (and_from _ _ (or_right _ _ (digit_is (n % 10) (omega arith))) refl), omega arith)
]

-- a type word is a short run that is no reserved word
shape_word : (kind : Kind) (n : ℕ) → IsTypeWidth n → (list_all is_word (kind_text kind ++ decimal n) ≡ true) × (length (kind_text kind ++ decimal n) ≤ 6) × (keyword_of (kind_text kind ++ decimal n) ≡ None)
unfolding keyword_of
shape_word kinds.Unsigned n h = let d = digits_all n h.1 in (d.0, omega (arith, d.1), refl)
shape_word kinds.Signed n h = let d = digits_all n h.1 in (d.0, omega (arith, d.1), refl)

-- ---- runs of letters, digits and _

-- such a run is one token
pub word_token : (w : List ℕ) → front_is is_letter w ≡ true → list_all is_word w ≡ true → IsToken w (word_part w)
unfolding word_part
word_token w l all = go (keyword_of w) (shape_of w) refl refl
  where
    go : (k : Option Keyword) (s : Option Shape) → keyword_of w ≡ k → shape_of w ≡ s → IsToken w (part_by w k s)
    go (Some k) s e f = subst (λ (x : List ℕ). IsToken x (parts.Reserved k)) (sym (keyword_is w k e)) (reserved k)
    go None (Some s) e f = let is = shape_is w s f in subst (λ (x : List ℕ). IsToken x (parts.TypeWord s)) (sym is.1) (type_word s is.0)
    go None None e f = named l all (keyword_none w e) (shape_none w f)

pub named_part : (w : List ℕ) → ((k : Keyword) → w ≡ keyword_text k → ⊥) → ((s : Shape) → IsTypeWord w s → ⊥) → parts.Named w ≡ word_part w
unfolding word_part
named_part w no_k no_s = go (keyword_of w) (shape_of w) refl refl
  where
    go : (k : Option Keyword) (s : Option Shape) → keyword_of w ≡ k → shape_of w ≡ s → parts.Named w ≡ part_by w k s
    go (Some k) s e f = absurd (no_k k (keyword_is w k e))
    go None (Some s) e f = absurd (no_s s (shape_is w s f))
    go None None e f = refl

pub reserved_part : (k : Keyword) → (list_all is_word (keyword_text k) ≡ true) × (parts.Reserved k ≡ word_part (keyword_text k))
unfolding word_part
reserved_part k = (keyword_all k, ap (λ (o : Option Keyword). part_by (keyword_text k) o (shape_of (keyword_text k))) (sym (keyword_back k)))

pub type_part : (s : Shape) → IsTypeWidth s.width → (list_all is_word (shape_text s) ≡ true) × (parts.TypeWord s ≡ word_part (shape_text s))
unfolding word_part
type_part s h =
    let run = shape_word s.kind s.width h in
    (run.0, sym (ap (λ (o : Option Keyword). part_by (shape_text s) o (shape_of (shape_text s))) run.2 ∙ ap (part_by (shape_text s) None) (shape_back s.kind s.width h)))

pub word_fits : (w : List ℕ) → length w ≤ 64 → Fits (word_part w)
unfolding word_part
word_fits w le = go (keyword_of w) (shape_of w)
  where
    go : (k : Option Keyword) (s : Option Shape) → Fits (part_by w k s)
    go (Some k) s = tt
    go None (Some s) = tt
    go None None = le

pub word_free : (w rest : List ℕ) → is_glued (word_part w) rest ≡ false
unfolding word_part
word_free w rest = go (keyword_of w) (shape_of w)
  where
    go : (k : Option Keyword) (s : Option Shape) → is_glued (part_by w k s) rest ≡ false
    go (Some k) s = refl
    go None (Some s) = refl
    go None None = refl

-- a long run is a name
pub word_long : (w : List ℕ) → 64 < length w → word_part w ≡ parts.Named w
unfolding word_part
word_long w far = go (keyword_of w) (shape_of w) refl refl
  where
    go : (k : Option Keyword) (s : Option Shape) → keyword_of w ≡ k → shape_of w ≡ s → part_by w k s ≡ parts.Named w
    go (Some k) s e f = absurd (let le = leb-true _ _ (keyword_short k) in omega (arith, le, ap length (keyword_is w k e)))
    go None (Some s) e f = let is = shape_is w s f in absurd (omega (arith, (shape_word s.kind s.width is.0).1, ap length is.1))
    go None None e f = refl
