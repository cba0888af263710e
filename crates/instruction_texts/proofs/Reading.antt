-- A line is matched exactly as its pieces are taken from its front.
use Rattle.std.proofs.Common.{◌≡◌, ℕ, suc, ◌-◌, ◌^◌, ◌<◌, ◌≤◌, Bool, true, false, cond, List, [], ◌∷◌, ◌++◌, length, map, drop, get_or, Option, Some, None, refl, sym, ap, ap₂, ◌∙◌, subst, arith, nat_eq, inl, inr, ◌⊎◌}
use Rattle.std.specs.Prelude.{option_map}
use Rattle.std.specs.Option.{option_or}
use Rattle.std.specs.Cmp.Lexicographic.{pointwise}
use Rattle.std.specs.Prelude.{◌↔◌}
use Rattle.std.proofs.lemmas.List.{append-nil, drop_all}
use Rattle.std.proofs.Math.Seq.{drop-cons}
use Rattle.asm_source.specs.declared.parts.LineToken.{LineToken}
use Rattle.std.proofs.lemmas.Bool.{eqb-true, eq-eqb, and_parts}
use Rattle.asm_source.specs.Plain.{PlainSum, PlainToken, Run, Sign, Operand, token_tree}
use Rattle.instruction_texts.specs.declared.shapes.Shape.{Shape}
use Rattle.instruction_texts.specs.declared.shapes.Shape.TheVariants.{Other, Literal, Unsigned, Signed}
use Rattle.instruction_texts.specs.declared.shapes.Ending.TheVariants.{Number}
use Rattle.instruction_texts.specs.Runs.{base_of, value, ends, strip}
use Rattle.instruction_texts.specs.Shapes.{lead, lower}
use Rattle.instruction_texts.specs.Leads.{number_of, number_behind}
use Rattle.instruction_texts.specs.Lines.{Plain, Value, Added, Matches, end, other, literal, unsigned, positive, negative, operand, signed_operand, sign_behind}
use Rattle.instruction_texts.specs.Fronts.{Front, of_value, of_sum, past_if, unsigned_front, minus, minus_front, negative_front, front, listed, with_rest, read}
use Rattle.instruction_texts.proofs.CommonRuns.{strip_append, strip_is}

-- ---- words

pub same_words : (p q : List ℕ) → pointwise nat_eq p q ≡ true → p ≡ q
same_words [] [] h = refl
same_words [] (d ∷ q) h = absurd cc
same_words (c ∷ p) [] h = absurd cc
same_words (c ∷ p) (d ∷ q) h = let t = and_parts (nat_eq c d) (pointwise nat_eq p q) h in ap₂ (λ (x : ℕ) (l : List ℕ). x ∷ l) (eqb-true c d t.0) (same_words p q t.1)

pub word_same : (p : List ℕ) → pointwise nat_eq p p ≡ true
word_same [] = refl
word_same (c ∷ p) = rw (eq-eqb c c refl) (word_same p)

-- ---- numbers

pub record IsBehind (hex above : Bool) (high : ℕ) (p w : List ℕ) (v : ℕ) : Type 0 where
  pub digits : List ℕ
  pub ended : ends (Number hex above high) digits ≡ true
  pub valued : v ≡ value (base_of hex) digits
  pub is : w ≡ lead hex p ++ digits

pub number_is : (hex above : Bool) (high : ℕ) (p w : List ℕ) (v : ℕ) → number_behind hex above high p w ≡ Some v → IsBehind hex above high p w v
number_is hex above high p w v e = go (strip (lead hex p) w) refl e where
  go : (o : Option (List ℕ)) → strip (lead hex p) w ≡ o → number_of hex above high o ≡ Some v → IsBehind hex above high p w v
  go None s h = absurd cc
  go (Some cs) s h = at (ends (Number hex above high) cs) refl h where
    at : (b : Bool) → ends (Number hex above high) cs ≡ b → cond b (Some (value (base_of hex) cs)) None ≡ Some v → IsBehind hex above high p w v
    at false k g = absurd cc
    at true k g = record { digits = cs; ended = k; valued = cc; is = strip_is (lead hex p) w cs s }

pub is_number : (hex above : Bool) (high : ℕ) (p cs : List ℕ) → ends (Number hex above high) cs ≡ true → number_behind hex above high p (lead hex p ++ cs) ≡ Some (value (base_of hex) cs)
is_number hex above high p cs h = ap (number_of hex above high) (strip_append (lead hex p) cs) ∙ ap (λ (b : Bool). cond b (Some (value (base_of hex) cs)) None) h

-- no number stands behind the whole text
nothing_behind : (high : ℕ) (p : List ℕ) → number_behind false false high p p ≡ None
nothing_behind high p = ap (number_of false false high) (ap (λ (l : List ℕ). strip p l) (sym (append-nil p)) ∙ strip_append p [])

-- ---- what is taken

past_is : (b : Bool) (ts : List PlainToken) (x : Option Plain × List PlainToken) → past_if b ts ≡ Some x → (b ≡ true) × ((None, ts) ≡ x)
past_is false ts x e = absurd cc
past_is true ts x e = (refl, (cc))

sum_is : (b : Bool) (s : PlainSum) (ts : List PlainToken) (x : Option Plain × List PlainToken) → of_sum b s ts ≡ Some x → (b ≡ true) × ((Some (Added s), ts) ≡ x)
sum_is false s ts x e = absurd cc
sum_is true s ts x e = (refl, (cc))

value_is : (o : Option ℕ) (ts : List PlainToken) (x : Option Plain × List PlainToken) → of_value o ts ≡ Some x → (v : ℕ) × (o ≡ Some v) × ((Some (Value v), ts) ≡ x)
value_is None ts x e = absurd cc
value_is (Some v) ts x e = (v, refl, (cc))

abbrev Grows : List Shape → List Plain → Shape → List PlainToken → Option Plain × List PlainToken → Type 0
Grows ss gs s line x = Matches ss gs x.1 → Matches (s ∷ ss) (listed x.0 ++ gs) line

module _ (ss : List Shape) (gs : List Plain) where
  unsigned_grows : (hex : Bool) (p : List ℕ) (n : ℕ) (line : List PlainToken) (x : Option Plain × List PlainToken) → unsigned_front hex p (2 ^ n - 1) line ≡ Some x → Grows ss gs (Unsigned hex p n) line x
  unsigned_grows hex p n [] x e = absurd cc
  unsigned_grows hex p n (Sign d ∷ ts) x e = absurd cc
  unsigned_grows hex p n (Run w ∷ ts) x e =
      let t = value_is (number_behind hex false (2 ^ n - 1) p w) ts x e in
      let b = number_is hex false (2 ^ n - 1) p w t.0 t.1 in
      subst (λ (y : Option Plain × List PlainToken). Grows ss gs (Unsigned hex p n) (Run w ∷ ts) y) t.2 (λ m. unsigned b.digits b.ended b.valued m (ap (λ (l : List ℕ). Run l ∷ ts) b.is))
  unsigned_grows hex p n (Operand q s ∷ ts) x e =
      let t = sum_is (pointwise nat_eq p q) s ts x e in
      subst (λ (y : Option Plain × List PlainToken). Grows ss gs (Unsigned hex p n) (Operand q s ∷ ts) y) t.1
      (subst (λ (l : List ℕ). Matches ss gs ts → Matches (Unsigned hex p n ∷ ss) (Added s ∷ gs) (Operand l s ∷ ts)) (same_words p q t.0) (λ m. operand m))

  positive_grows : (p : List ℕ) (n : ℕ) (line : List PlainToken) (x : Option Plain × List PlainToken) → unsigned_front false p (2 ^ (n - 1) - 1) line ≡ Some x → Grows ss gs (Signed p n) line x
  positive_grows p n [] x e = absurd cc
  positive_grows p n (Sign d ∷ ts) x e = absurd cc
  positive_grows p n (Run w ∷ ts) x e =
      let t = value_is (number_behind false false (2 ^ (n - 1) - 1) p w) ts x e in
      let b = number_is false false (2 ^ (n - 1) - 1) p w t.0 t.1 in
      subst (λ (y : Option Plain × List PlainToken). Grows ss gs (Signed p n) (Run w ∷ ts) y) t.2 (λ m. positive b.digits b.ended b.valued m (ap (λ (l : List ℕ). Run l ∷ ts) b.is))
  positive_grows p n (Operand q s ∷ ts) x e =
      let t = sum_is (pointwise nat_eq p q) s ts x e in
      subst (λ (y : Option Plain × List PlainToken). Grows ss gs (Signed p n) (Operand q s ∷ ts) y) t.1
      (subst (λ (l : List ℕ). Matches ss gs ts → Matches (Signed p n ∷ ss) (Added s ∷ gs) (Operand l s ∷ ts)) (same_words p q t.0) (λ m. signed_operand m))

record IsMinus (n : ℕ) (line : List PlainToken) (x : Option Plain × List PlainToken) : Type 0 where
  digits : List ℕ
  ended : ends (lower n) digits ≡ true
  found : (Some (Value (2 ^ n - value 10 digits)), x.1) ≡ x
  is : line ≡ Sign 45 ∷ Run digits ∷ x.1

minus_value : (n v : ℕ) (o : Option ℕ) → minus n o ≡ Some v → (u : ℕ) × (o ≡ Some u) × (v ≡ 2 ^ n - u)
minus_value n v None e = absurd cc
minus_value n v (Some u) e = (u, refl, (cc))

minus_is : (n : ℕ) (line : List PlainToken) (x : Option Plain × List PlainToken) → minus_front n line ≡ Some x → IsMinus n line x
minus_is n [] x e = absurd cc
minus_is n (Run w ∷ ts) x e = absurd cc
minus_is n (Operand q s ∷ ts) x e = absurd cc
minus_is n (Sign d ∷ []) x e = absurd cc
minus_is n (Sign d ∷ Sign c ∷ ts) x e = absurd cc
minus_is n (Sign d ∷ Operand q s ∷ ts) x e = absurd cc
minus_is n (Sign d ∷ Run w ∷ ts) x e = go (nat_eq d 45) refl e where
  go : (b : Bool) → nat_eq d 45 ≡ b → cond b (of_value (minus n (number_behind false true (2 ^ (n - 1)) [] w)) ts) None ≡ Some x → IsMinus n (Sign d ∷ Run w ∷ ts) x
  go false h k = absurd cc
  go true h k =
      let t = value_is (minus n (number_behind false true (2 ^ (n - 1)) [] w)) ts x k in
      let u = minus_value n t.0 (number_behind false true (2 ^ (n - 1)) [] w) t.1 in
      let b = number_is false true (2 ^ (n - 1)) [] w u.0 u.1 in
      let rest : ts ≡ x.1 = ap (λ (y : Option Plain × List PlainToken). y.1) t.2 in
      let sized : t.0 ≡ 2 ^ n - value 10 b.digits = u.2 ∙ ap (λ (k : ℕ). 2 ^ n - k) b.valued in
      record {
        digits = b.digits;
        ended = b.ended;
        found = ap₂ (λ (v : ℕ) (l : List PlainToken). (Some (Value v), l)) (sym sized) (sym rest) ∙ t.2;
        is = ap₂ (λ (c : ℕ) (l : List ℕ). Sign c ∷ Run l ∷ ts) (eqb-true d 45 h) b.is ∙ ap (λ (l : List PlainToken). Sign 45 ∷ Run b.digits ∷ l) rest;
      }

or_is : {A : Type 0} (o p : Option A) (x : A) → option_or o p ≡ Some x → (o ≡ Some x) ⊎ (p ≡ Some x)
or_is None p x e = inr e
or_is (Some y) p x e = inl e

module _ (ss : List Shape) (gs : List Plain) where
  negative_from : (p : List ℕ) (n : ℕ) (line under : List PlainToken) (x : Option Plain × List PlainToken) → IsMinus n under x → line ≡ sign_behind p under → Grows ss gs (Signed p n) line x
  negative_from p n line under x m e =
      subst (λ (y : Option Plain × List PlainToken). Matches ss gs x.1 → Matches (Signed p n ∷ ss) (listed y.0 ++ gs) line) m.found
      (λ k. negative m.digits m.ended refl k (e ∙ ap (sign_behind p) m.is))

  negative_grows : (p : List ℕ) (n : ℕ) (line : List PlainToken) (x : Option Plain × List PlainToken) → negative_front p n line ≡ Some x → Grows ss gs (Signed p n) line x
  negative_grows [] n line x e = negative_from [] n line line x (minus_is n line x e) refl
  negative_grows (c ∷ p) n [] x e = absurd cc
  negative_grows (c ∷ p) n (Sign d ∷ ts) x e = absurd cc
  negative_grows (c ∷ p) n (Operand q s ∷ ts) x e = absurd cc
  negative_grows (c ∷ p) n (Run w ∷ ts) x e = go (pointwise nat_eq (c ∷ p) w) refl e where
    go : (b : Bool) → pointwise nat_eq (c ∷ p) w ≡ b → cond b (minus_front n ts) None ≡ Some x → Grows ss gs (Signed (c ∷ p) n) (Run w ∷ ts) x
    go false h k = absurd cc
    go true h k = negative_from (c ∷ p) n (Run w ∷ ts) ts x (minus_is n ts x k) (ap (λ (l : List ℕ). Run l ∷ ts) (sym (same_words (c ∷ p) w h)))

  front_grows : (s : Shape) (line : List PlainToken) (x : Option Plain × List PlainToken) → front s line ≡ Some x → Grows ss gs s line x
  front_grows (Other c) [] x e = absurd cc
  front_grows (Other c) (Run w ∷ ts) x e = absurd cc
  front_grows (Other c) (Operand q s ∷ ts) x e = absurd cc
  front_grows (Other c) (Sign d ∷ ts) x e =
      let t = past_is (nat_eq c d) ts x e in
      subst (λ (y : Option Plain × List PlainToken). Grows ss gs (Other c) (Sign d ∷ ts) y) t.1 (subst (λ (k : ℕ). Matches ss gs ts → Matches (Other c ∷ ss) gs (Sign k ∷ ts)) (eqb-true c d t.0) (λ m. other m))
  front_grows (Literal p) [] x e = absurd cc
  front_grows (Literal p) (Sign d ∷ ts) x e = absurd cc
  front_grows (Literal p) (Operand q s ∷ ts) x e = absurd cc
  front_grows (Literal p) (Run w ∷ ts) x e =
      let t = past_is (pointwise nat_eq p w) ts x e in
      subst (λ (y : Option Plain × List PlainToken). Grows ss gs (Literal p) (Run w ∷ ts) y) t.1 (subst (λ (l : List ℕ). Matches ss gs ts → Matches (Literal p ∷ ss) gs (Run l ∷ ts)) (same_words p w t.0) (λ m. literal m))
  front_grows (Unsigned hex p n) line x e = unsigned_grows ss gs hex p n line x e
  front_grows (Signed p n) line x e = elim (or_is (unsigned_front false p (2 ^ (n - 1) - 1) line) (negative_front p n line) x e) [
    | inl l ↦ positive_grows ss gs p n line x l
    | inr r ↦ negative_grows p n line x r
  ]

map_is : (xs : List Plain) (o : Option (List Plain)) (gs : List Plain) → option_map (λ l. xs ++ l) o ≡ Some gs → (hs : List Plain) × (o ≡ Some hs) × (xs ++ hs ≡ gs)
map_is xs None gs e = absurd cc
map_is xs (Some hs) gs e = (hs, refl, (cc))

pub read_matches : (ss : List Shape) (line : List PlainToken) (gs : List Plain) → read ss line ≡ Some gs → Matches ss gs line
read_matches [] [] gs e = let h : [] ≡ gs = cc in subst (λ (l : List Plain). Matches [] l []) h end
read_matches [] (t ∷ ts) gs e = absurd cc
read_matches (s ∷ ss) line gs e = go (front s line) refl e (λ rest hs k. read_matches ss rest hs k) where
  go : (o : Front) → front s line ≡ o → with_rest o (read ss) ≡ Some gs → ((rest : List PlainToken) (hs : List Plain) → read ss rest ≡ Some hs → Matches ss hs rest) → Matches (s ∷ ss) gs line
  go None f h below = absurd cc
  go (Some x) f h below =
      let t = map_is (listed x.0) (read ss x.1) gs h in
      subst (λ (l : List Plain). Matches (s ∷ ss) l line) t.2 (front_grows ss t.0 s line x f (below x.1 t.0 t.1))

-- ---- and back

reads_on : (o : Front) (g : Option Plain) (ts : List PlainToken) (ss : List Shape) (hs : List Plain) → o ≡ Some (g, ts) → read ss ts ≡ Some hs → with_rest o (read ss) ≡ Some (listed g ++ hs)
reads_on o g ts ss hs e k = ap (λ (f : Front). with_rest f (read ss)) e ∙ ap (λ (r : Option (List Plain)). option_map (λ l. listed g ++ l) r) k

minus_found : (n : ℕ) (cs : List ℕ) (ts : List PlainToken) → ends (lower n) cs ≡ true → minus_front n (Sign 45 ∷ Run cs ∷ ts) ≡ Some (Some (Value (2 ^ n - value 10 cs)), ts)
minus_found n cs ts h = ap (λ (o : Option ℕ). of_value (minus n o) ts) (is_number false true (2 ^ (n - 1)) [] cs h)

negative_found : (p : List ℕ) (n : ℕ) (cs : List ℕ) (ts : List PlainToken) → ends (lower n) cs ≡ true → front (Signed p n) (sign_behind p (Sign 45 ∷ Run cs ∷ ts)) ≡ Some (Some (Value (2 ^ n - value 10 cs)), ts)
negative_found [] n cs ts h = minus_found n cs ts h
negative_found (c ∷ p) n cs ts h =
    ap (λ (o : Option ℕ). option_or (of_value o (Sign 45 ∷ Run cs ∷ ts)) (negative_front (c ∷ p) n (Run (c ∷ p) ∷ Sign 45 ∷ Run cs ∷ ts))) (nothing_behind (2 ^ (n - 1) - 1) (c ∷ p))
    ∙ ap (λ (b : Bool). cond b (minus_front n (Sign 45 ∷ Run cs ∷ ts)) None) (word_same (c ∷ p))
    ∙ minus_found n cs ts h

pub matches_read : {ss : List Shape} {gs : List Plain} {line : List PlainToken} → Matches ss gs line → read ss line ≡ Some gs
matches_read end = refl
matches_read (other {c = c} {ss = ss} {gs = gs} {ts = ts} m) = reads_on (past_if (nat_eq c c) ts) None ts ss gs (ap (λ (b : Bool). past_if b ts) (eq-eqb c c refl)) (matches_read m)
matches_read (literal {p = p} {ss = ss} {gs = gs} {ts = ts} m) = reads_on (past_if (pointwise nat_eq p p) ts) None ts ss gs (ap (λ (b : Bool). past_if b ts) (word_same p)) (matches_read m)
matches_read (operand {hex = hex} {p = p} {n = n} {s = s} {ss = ss} {gs = gs} {ts = ts} m) = reads_on (of_sum (pointwise nat_eq p p) s ts) (Some (Added s)) ts ss gs (ap (λ (b : Bool). of_sum b s ts) (word_same p)) (matches_read m)
matches_read (signed_operand {p = p} {n = n} {s = s} {ss = ss} {gs = gs} {ts = ts} m) =
    reads_on (front (Signed p n) (Operand p s ∷ ts)) (Some (Added s)) ts ss gs (ap (λ (b : Bool). option_or (of_sum b s ts) (negative_front p n (Operand p s ∷ ts))) (word_same p)) (matches_read m)
matches_read (unsigned {hex = hex} {p = p} cs {n = n} {v = v} {ss = ss} {gs = gs} {ts = ts} h x m e) =
    let one : front (Unsigned hex p n) (Run (lead hex p ++ cs) ∷ ts) ≡ Some (Some (Value v), ts) = ap (λ (o : Option ℕ). of_value o ts) (is_number hex false (2 ^ n - 1) p cs h ∙ ap (λ (k : ℕ). Some k) (sym x)) in
    ap (λ (l : List PlainToken). read (Unsigned hex p n ∷ ss) l) e ∙ reads_on (front (Unsigned hex p n) (Run (lead hex p ++ cs) ∷ ts)) (Some (Value v)) ts ss gs one (matches_read m)
matches_read (positive {p = p} cs {n = n} {v = v} {ss = ss} {gs = gs} {ts = ts} h x m e) =
    let line = Run (p ++ cs) ∷ ts in
    let one : front (Signed p n) line ≡ Some (Some (Value v), ts) = ap (λ (o : Option ℕ). option_or (of_value o ts) (negative_front p n line)) (is_number false false (2 ^ (n - 1) - 1) p cs h ∙ ap (λ (k : ℕ). Some k) (sym x)) in
    ap (λ (l : List PlainToken). read (Signed p n ∷ ss) l) e ∙ reads_on (front (Signed p n) line) (Some (Value v)) ts ss gs one (matches_read m)
matches_read (negative {p = p} cs {n = n} {v = v} {ss = ss} {gs = gs} {ts = ts} h x m e) =
    let line = sign_behind p (Sign 45 ∷ Run cs ∷ ts) in
    let one : front (Signed p n) line ≡ Some (Some (Value v), ts) = negative_found p n cs ts h ∙ ap (λ (k : ℕ). Some (Some (Value k), ts)) (sym x) in
    ap (λ (l : List PlainToken). read (Signed p n ∷ ss) l) e ∙ reads_on (front (Signed p n) line) (Some (Value v)) ts ss gs one (matches_read m)

-- ---- the loop over the pieces

pub exact : (ss : List Shape) (line : List PlainToken) (found : Option (List Plain)) → read ss line ≡ found → (gs : List Plain) → (found ≡ Some gs) ↔ Matches ss gs line
exact ss line found e gs = ((λ h. read_matches ss line gs (e ∙ h)), (λ m. sym e ∙ matches_read m))

module _ (ss : List Shape) (line : List PlainToken) (i : ℕ) (gs : List Plain) where
  abbrev pub Going : List PlainToken → Type 0
  Going rest = read ss line ≡ option_map (λ hs. gs ++ hs) (read (drop i ss) rest)

  pub no_front : (d : Shape) (rest : List PlainToken) → i < length ss → d ≡ get_or ss i d → Going rest → None ≡ front d rest → read ss line ≡ None
  no_front d rest inside is going e =
      going ∙ ap (λ (l : List Shape). option_map (λ hs. gs ++ hs) (read l rest)) (drop-cons ss i d inside)
      ∙ ap (λ (f : Front). option_map (λ hs. gs ++ hs) (with_rest f (read (drop (suc i) ss)))) (sym (e ∙ ap (λ (x : Shape). front x rest) is))

  pub all_taken : (rest : List LineToken) → length ss ≤ i → nat_eq (length rest) 0 ≡ true → Going (map token_tree rest) → read ss line ≡ Some gs
  all_taken [] past empty going = going ∙ ap (λ (l : List Shape). option_map (λ hs. gs ++ hs) (read l [])) (drop_all i ss past) ∙ ap (λ (l : List Plain). Some l) (append-nil gs)
  all_taken (t ∷ rest) past empty going = absurd (let e : length (t ∷ rest) ≡ 0 = eqb-true (length (t ∷ rest)) 0 empty in omega arith)

  pub left_over : (rest : List LineToken) → length ss ≤ i → nat_eq (length rest) 0 ≡ false → Going (map token_tree rest) → read ss line ≡ None
  left_over [] past empty going = absurd cc
  left_over (t ∷ rest) past empty going = going ∙ ap (λ (l : List Shape). option_map (λ hs. gs ++ hs) (read l (map token_tree (t ∷ rest)))) (drop_all i ss past)
