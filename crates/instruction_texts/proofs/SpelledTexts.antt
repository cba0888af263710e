-- The text of a form with values that it holds is spelled.
use Rattle.std.proofs.Common.{◌≡◌, ℕ, suc, ◌+◌, ◌-◌, ◌^◌, ◌<◌, ◌≤◌, Bool, true, false, List, [], ◌∷◌, ◌++◌, length, take, drop, get_or, refl, sym, ap, ◌∙◌, subst, arith, nat_lt, inl, inr, ◌⊎◌, append_assoc}
use Rattle.std.specs.List.{All}
use Rattle.std.proofs.lemmas.Bool.{cases_lt, lt-ltb, le-ltb}
use Rattle.std.proofs.lemmas.List.{append-nil, drop_all, take_all}
use Rattle.std.proofs.Math.Seq.{drop-cons}
use Rattle.instruction_trees.proofs.Numbers.{doubled}
use Rattle.instruction_texts.specs.declared.shapes.Shape.{Shape}
use Rattle.instruction_texts.specs.declared.shapes.Shape.TheVariants.{Other, Literal, Unsigned, Signed}
use Rattle.instruction_texts.specs.declared.shapes.Token.{Token}
use Rattle.instruction_texts.specs.declared.shapes.Token.TheVariants.{Word, Sign}
use Rattle.instruction_texts.specs.Runs.{ends}
use Rattle.instruction_texts.specs.Shapes as shapes
use Rattle.instruction_texts.specs.Shapes.{lead, whole, upper, lower, before_sign, Spells, other, literal, unsigned, positive, negative, IsSized}
use Rattle.instruction_texts.specs.Written.{laid_out, text_bytes, ends_in_run, base_numeral, number_text, signed_text, said, values_behind, spelled, Holds, HoldsFirst, FirstBelow}
use Rattle.instruction_texts.proofs.CommonRuns.{number_from, power_some}
use Rattle.instruction_texts.proofs.NumeralValues.{numeral_is}

-- ---- numbers

pub whole_ends : (hex : Bool) (n v : ℕ) → v < 2 ^ n → ends (whole hex n) (base_numeral hex v) ≡ true
whole_ends hex n v h =
    let is = numeral_is hex v in
    number_from hex false (2 ^ n - 1) (base_numeral hex v) (record { digits = is.digits; plain = is.plain; below = subst (λ (k : ℕ). k ≤ 2 ^ n - 1) (sym is.is) (omega arith); above = λ e. absurd cc })

pub upper_ends : (n v : ℕ) → v < 2 ^ (n - 1) → ends (upper n) (base_numeral false v) ≡ true
upper_ends n v h =
    let is = numeral_is false v in
    number_from false false (2 ^ (n - 1) - 1) (base_numeral false v) (record { digits = is.digits; plain = is.plain; below = subst (λ (k : ℕ). k ≤ 2 ^ (n - 1) - 1) (sym is.is) (omega arith); above = λ e. absurd cc })

pub lower_ends : (n u : ℕ) → 0 < u → u ≤ 2 ^ (n - 1) → ends (lower n) (base_numeral false u) ≡ true
lower_ends n u some h =
    let is = numeral_is false u in
    number_from false true (2 ^ (n - 1)) (base_numeral false u) (record { digits = is.digits; plain = is.plain; below = subst (λ (k : ℕ). k ≤ 2 ^ (n - 1)) (sym is.is) h; above = λ e. subst (λ (k : ℕ). 0 < k) (sym is.is) some })

pub signed_spells : (p : List ℕ) (n v : ℕ) {ss : List Shape} {vs : List ℕ} {ts : List Token} → 1 ≤ n → v < 2 ^ n → Spells ss vs ts → Spells (Signed p n ∷ ss) (v ∷ vs) (signed_text (nat_lt v (2 ^ (n - 1))) p n v ++ ts)
signed_spells p n v {ss} {vs} {ts} some h s = go (cases_lt v (2 ^ (n - 1))) where
  go : (v < 2 ^ (n - 1)) ⊎ (2 ^ (n - 1) ≤ v) → Spells (Signed p n ∷ ss) (v ∷ vs) (signed_text (nat_lt v (2 ^ (n - 1))) p n v ++ ts)
  go (inl lt) = subst (λ (b : Bool). Spells (Signed p n ∷ ss) (v ∷ vs) (signed_text b p n v ++ ts)) (sym (lt-ltb v (2 ^ (n - 1)) lt)) (positive (base_numeral false v) (upper_ends n v lt) (sym (numeral_is false v).is) s refl)
  go (inr le) =
      let u = 2 ^ n - v in
      let two : 2 ^ n ≡ 2 ^ (n - 1) + 2 ^ (n - 1) = ap (λ (k : ℕ). 2 ^ k) (omega arith) ∙ doubled (n - 1) in
      let back : 2 ^ n - u ≡ v = omega arith in
      subst (λ (b : Bool). Spells (Signed p n ∷ ss) (v ∷ vs) (signed_text b p n v ++ ts)) (sym (le-ltb v (2 ^ (n - 1)) le))
      (negative (base_numeral false u) (lower_ends n u (omega arith) (omega arith)) (sym (ap (λ (k : ℕ). 2 ^ n - k) (numeral_is false u).is ∙ back)) s (behind p u)) where
        behind : (q : List ℕ) (u : ℕ) → before_sign q (Sign 45 ∷ number_text false [] u ∷ []) ++ ts ≡ before_sign q (Sign 45 ∷ Word (base_numeral false u) ∷ ts)
        behind [] u = refl
        behind (c ∷ q) u = refl

pub first_sized : (s : Shape) (ss : List Shape) → All IsSized (s ∷ ss) → IsSized s
first_sized s ss all = all 0 s (omega arith)

pub others_sized : (s : Shape) (ss : List Shape) → All IsSized (s ∷ ss) → All IsSized ss
others_sized s ss all = λ k d h. all (suc k) d (omega arith)

pub spelled_spells : (ss : List Shape) (vs : List ℕ) → All IsSized ss → Holds ss vs → Spells ss vs (spelled ss vs)
spelled_spells [] [] all h = shapes.end
spelled_spells [] (v ∷ vs) all h = absurd h
spelled_spells (Other c ∷ ss) vs all h = other (spelled_spells ss vs (others_sized (Other c) ss all) h)
spelled_spells (Literal p ∷ ss) vs all h = literal (spelled_spells ss vs (others_sized (Literal p) ss all) h)
spelled_spells (Unsigned hex p n ∷ ss) [] all h = absurd h
spelled_spells (Unsigned hex p n ∷ ss) (v ∷ vs) all h = unsigned (base_numeral hex v) (whole_ends hex n v h.0) (sym (numeral_is hex v).is) (spelled_spells ss vs (others_sized (Unsigned hex p n) ss all) h.1) refl
spelled_spells (Signed p n ∷ ss) [] all h = absurd h
spelled_spells (Signed p n ∷ ss) (v ∷ vs) all h = signed_spells p n v (first_sized (Signed p n) ss all).0 h.0 (spelled_spells ss vs (others_sized (Signed p n) ss all) h.1)

-- ---- writing, piece by piece

laid_append : (b : Bool) (ts us : List Token) → laid_out b (ts ++ us) ≡ laid_out b ts ++ laid_out (ends_in_run b ts) us
laid_append b [] us = refl
laid_append b (Sign c ∷ ts) us = ap (λ (l : List ℕ). c ∷ l) (laid_append false ts us)
laid_append false (Word w ∷ ts) us = ap (λ (l : List ℕ). w ++ l) (laid_append true ts us) ∙ sym (append_assoc w (laid_out true ts) (laid_out (ends_in_run true ts) us))
laid_append true (Word w ∷ ts) us = ap (λ (l : List ℕ). 32 ∷ l) (ap (λ (l : List ℕ). w ++ l) (laid_append true ts us) ∙ sym (append_assoc w (laid_out true ts) (laid_out (ends_in_run true ts) us)))

first_holds : (s : Shape) (ss : List Shape) (vs : List ℕ) → Holds (s ∷ ss) vs → HoldsFirst s vs × Holds ss (values_behind s vs)
first_holds (Other c) ss vs h = (tt, h)
first_holds (Literal p) ss vs h = (tt, h)
first_holds (Unsigned hex p n) ss [] h = absurd h
first_holds (Unsigned hex p n) ss (v ∷ vs) h = h
first_holds (Signed p n) ss [] h = absurd h
first_holds (Signed p n) ss (v ∷ vs) h = h

-- what is written, and what is left
pub record Writing (ss : List Shape) (vs : List ℕ) (i : ℕ) (bytes : List ℕ) (behind : Bool) (rest : List ℕ) : Type 0 where
  pub whole : bytes ++ laid_out behind (spelled (drop i ss) rest) ≡ text_bytes (spelled ss vs)
  pub holds : Holds (drop i ss) rest

module _ (ss : List Shape) (vs : List ℕ) (i : ℕ) (bytes : List ℕ) (behind : Bool) (rest : List ℕ) where
  pub holds_here : (d : Shape) → i < length ss → d ≡ get_or ss i d → Writing ss vs i bytes behind rest → HoldsFirst d rest
  holds_here d inside is w = (first_holds d (drop (suc i) ss) rest (subst (λ (l : List Shape). Holds l rest) (drop-cons ss i d inside ∙ ap (λ (x : Shape). x ∷ drop (suc i) ss) (sym is)) w.holds)).0

  pub writes_on : (d : Shape) (more : List ℕ) (next : Bool) (left : List ℕ) → i < length ss → d ≡ get_or ss i d → Writing ss vs i bytes behind rest → more ≡ bytes ++ laid_out behind (said d rest) → next ≡ ends_in_run behind (said d rest)
      → left ≡ values_behind d rest → Writing ss vs (i + 1) more next left
  writes_on d more next left inside is w grown flag value_rest =
      let at : drop i ss ≡ d ∷ drop (suc i) ss = drop-cons ss i d inside ∙ ap (λ (x : Shape). x ∷ drop (suc i) ss) (sym is) in
      let step : suc i ≡ i + 1 = omega arith in
      let tokens = spelled (drop (suc i) ss) (values_behind d rest) in
      let joined : (bytes ++ laid_out behind (said d rest)) ++ laid_out (ends_in_run behind (said d rest)) tokens ≡ text_bytes (spelled ss vs) =
      append_assoc bytes (laid_out behind (said d rest)) (laid_out (ends_in_run behind (said d rest)) tokens)
      ∙ ap (λ (l : List ℕ). bytes ++ l) (sym (laid_append behind (said d rest) tokens))
      ∙ ap (λ (l : List Shape). bytes ++ laid_out behind (spelled l rest)) (sym at) ∙ w.whole in
      subst (λ (k : ℕ). Writing ss vs k more next left) step
      (subst (λ (l : List ℕ). Writing ss vs (suc i) more next l) (sym value_rest)
      (subst (λ (b : Bool). Writing ss vs (suc i) more b (values_behind d rest)) (sym flag)
      (subst (λ (l : List ℕ). Writing ss vs (suc i) l (ends_in_run behind (said d rest)) (values_behind d rest)) (sym grown)
      (record { whole = joined; holds = (first_holds d (drop (suc i) ss) rest (subst (λ (l : List Shape). Holds l rest) at w.holds)).1 }))))

  pub all_written : length ss ≤ i → All IsSized ss → Holds ss vs → Writing ss vs i bytes behind rest → (ts : List Token) × Spells ss vs ts × (bytes ≡ text_bytes ts)
  all_written past sized holds w =
      (spelled ss vs, spelled_spells ss vs sized holds, sym (append-nil bytes) ∙ ap (λ (l : List Shape). bytes ++ laid_out behind (spelled l rest)) (sym (drop_all i ss past)) ∙ w.whole)

pub both_hold : (s : Shape) (ss : List Shape) (vs : List ℕ) → HoldsFirst s vs → Holds ss (values_behind s vs) → Holds (s ∷ ss) vs
both_hold (Other c) ss vs f h = h
both_hold (Literal p) ss vs f h = h
both_hold (Unsigned hex p n) ss [] f h = absurd f
both_hold (Unsigned hex p n) ss (v ∷ vs) f h = (f, h)
both_hold (Signed p n) ss [] f h = absurd f
both_hold (Signed p n) ss (v ∷ vs) f h = (f, h)

pub holds_more : (ss : List Shape) (i : ℕ) (d : Shape) (rest behind : List ℕ) → i < length ss → d ≡ get_or ss i d → HoldsFirst d rest → behind ≡ values_behind d rest → Holds (drop (i + 1) ss) behind → Holds (drop i ss) rest
holds_more ss i d rest behind inside is first e h =
    let at : drop i ss ≡ d ∷ drop (suc i) ss = drop-cons ss i d inside ∙ ap (λ (x : Shape). x ∷ drop (suc i) ss) (sym is) in
    let step : i + 1 ≡ suc i = omega arith in
    subst (λ (l : List Shape). Holds l rest) (sym at) (both_hold d (drop (suc i) ss) rest first (subst (λ (l : List ℕ). Holds (drop (suc i) ss) l) e (subst (λ (k : ℕ). Holds (drop k ss) behind) step h)))

pub first_below : (n : ℕ) (vs : List ℕ) → 1 ≤ length vs → get_or vs 0 0 ≤ 2 ^ n - 1 → FirstBelow n vs × (take (length vs - 1) (drop 1 vs) ≡ drop 1 vs)
first_below n [] some h = absurd (omega arith)
first_below n (v ∷ vs) some h = (
  (let p : 0 < 2 ^ n = power_some 2 n (omega arith) in let q : v ≤ 2 ^ n - 1 = h in omega arith),
  take_all (length (v ∷ vs) - 1) vs (omega arith),
)
