-- From values in the order of the text to a tree.
use Rattle.std.proofs.Common.{◌≡◌, ℕ, suc, ◌+◌, ◌-◌, ◌^◌, ◌<◌, ◌≤◌, Bool, true, false, cond, List, [], ◌∷◌, ◌++◌, length, map, refl, sym, ap, ap₂, ◌∙◌, subst, arith, nat_eq}
use Rattle.std.proofs.lemmas.Bool.{eq-eqb, ne_eqb}
use Rattle.instruction_trees.proofs.Numbers.{doubled}
use Rattle.instruction_trees.specs.Trees.{Table, Form, In, here, there}
use Rattle.instruction_trees.specs.Forms.{Distinct, none, more}
use Rattle.instruction_trees.specs.Values.{numbered, owns, filled}
use Rattle.instruction_texts.specs.declared.shapes.Shape.{Shape}
use Rattle.instruction_texts.specs.declared.shapes.Shape.TheVariants.{Other, Unsigned, Signed}
use Rattle.instruction_texts.specs.declared.shapes.Token.{Token}
use Rattle.instruction_texts.specs.Runs.{value, base_of, ends}
use Rattle.instruction_texts.specs.Shapes as shapes
use Rattle.instruction_texts.specs.Shapes.{whole, upper, lower, Spells, other, literal, unsigned, positive, negative, IsWide}
use Rattle.instruction_texts.specs.Symbols.{Decimal, WithSign, Hexadecimal, Element, Sym, Byte, Gap, Shown, gather, flush_shape, shown_values, sym_map, symbols, is_clean, AreWide}
use Rattle.instruction_texts.specs.Texts.{text, shape, order, InRange}
use Rattle.asm_source.specs.Bytes.{is_word}
use Rattle.instruction_texts.proofs.CommonRuns.{number_parts, power_some}
use Rattle.instruction_texts.proofs.Relabelled.{symbols_as, spelled_by}
use Rattle.instruction_texts.proofs.OneText.{text_is_one}

-- ---- a function with these values at these numbers

abbrev with_value : ℕ → ℕ → (ℕ → ℕ) → ℕ → ℕ
with_value x v f i = cond (nat_eq i x) v (f i)

other_values : (x v : ℕ) (f : ℕ → ℕ) (xs : List ℕ) → (In x xs → ⊥) → map (with_value x v f) xs ≡ map f xs
other_values x v f [] out = refl
other_values x v f (y ∷ xs) out =
    let ne : y ≡ x → ⊥ = λ e. out (subst (λ (z : ℕ). In z (y ∷ xs)) e here) in
    ap₂ (λ (a : ℕ) (l : List ℕ). a ∷ l) (rw (ne_eqb y x ne) refl) (other_values x v f xs (λ i. out (there i)))

pub valued : {xs : List ℕ} → Distinct xs → (vs : List ℕ) → length vs ≡ length xs → (f : ℕ → ℕ) × (map f xs ≡ vs)
valued none [] l = (λ i. i, refl)
valued none (v ∷ vs) l = absurd cc
valued (more out d) [] l = absurd cc
valued (more {x = x} {xs = xs} out d) (v ∷ vs) l =
    let t = valued d vs (omega arith) in
    (with_value x v t.0, ap₂ (λ (a : ℕ) (l : List ℕ). a ∷ l) (rw (eq-eqb x x refl) refl) (other_values x v t.0 xs out ∙ t.1))

-- ---- spelled values are in range

abbrev IsFitting : {V : Type 0} → List (Sym V) → List ℕ → Type 0
IsFitting [] [] = Unit {0}
IsFitting (Byte c ∷ s) vs = IsFitting s vs
IsFitting (Gap ∷ s) vs = IsFitting s vs
IsFitting (Shown kind n u ∷ s) (v ∷ vs) = (v < 2 ^ n) × IsFitting s vs
IsFitting _ _ = ⊥

past_other : {c : ℕ} {ss : List Shape} {vs : List ℕ} {ts : List Token} → Spells (Other c ∷ ss) vs ts → (us : List Token) × Spells ss vs us
past_other (other {ts = us} s) = (us, s)

past_run : (p : List ℕ) {ss : List Shape} {vs : List ℕ} {ts : List Token} → Spells (flush_shape p ss) vs ts → (us : List Token) × Spells ss vs us
past_run [] {ts = ts} s = (ts, s)
past_run (c ∷ p) (literal {ts = us} s) = (us, s)

pub record Past (n : ℕ) (ss : List Shape) (vs : List ℕ) : Type 0 where
  pub first : ℕ
  pub rest : List ℕ
  pub after : List Token
  pub is : vs ≡ first ∷ rest
  pub below : first < 2 ^ n
  pub spells : Spells ss rest after

below_whole : (hex : Bool) (n v : ℕ) (cs : List ℕ) → ends (whole hex n) cs ≡ true → v ≡ value (base_of hex) cs → v < 2 ^ n
below_whole hex n v cs h e = let b : value (base_of hex) cs ≤ 2 ^ n - 1 = (number_parts hex false (2 ^ n - 1) cs h).below in let p : 0 < 2 ^ n = power_some 2 n (omega arith) in omega arith

pub past_unsigned : {hex : Bool} {p : List ℕ} {n : ℕ} {ss : List Shape} {vs : List ℕ} {ts : List Token} → Spells (Unsigned hex p n ∷ ss) vs ts → Past n ss vs
past_unsigned (unsigned {hex = hex} cs {n = n} {v = v} {vs = vs} {ts = ts} h e s a) = record { first = v; rest = vs; after = ts; is = refl; below = below_whole hex n v cs h e; spells = s }

pub past_signed : {p : List ℕ} {n : ℕ} {ss : List Shape} {vs : List ℕ} {ts : List Token} → 0 < n → Spells (Signed p n ∷ ss) vs ts → Past n ss vs
past_signed some (positive cs {n = n} {v = v} {vs = vs} {ts = ts} h e s a) = record {
  first = v;
  rest = vs;
  after = ts;
  is = refl;
  spells = s;
  below = let b : value 10 cs ≤ 2 ^ (n - 1) - 1 = (number_parts false false (2 ^ (n - 1) - 1) cs h).below in
      let two : 2 ^ n ≡ 2 ^ (n - 1) + 2 ^ (n - 1) = ap (λ (j : ℕ). 2 ^ j) (omega arith) ∙ doubled (n - 1) in
      let q : 0 < 2 ^ (n - 1) = power_some 2 (n - 1) (omega arith) in omega arith;
}
past_signed some (negative cs {n = n} {v = v} {vs = vs} {ts = ts} h e s a) = record {
  first = v;
  rest = vs;
  after = ts;
  is = refl;
  spells = s;
  below = let up : 0 < value 10 cs = (number_parts false true (2 ^ (n - 1)) cs h).above refl in let q : 0 < 2 ^ n = power_some 2 n (omega arith) in omega arith;
}

nothing_left : (p vs : List ℕ) (ts : List Token) → Spells (flush_shape p []) vs ts → vs ≡ []
nothing_left [] vs ts shapes.end = refl
nothing_left (c ∷ p) vs ts (literal s) = done s where
  done : {ws : List ℕ} {us : List Token} → Spells [] ws us → ws ≡ []
  done shapes.end = refl

pub fitting : {V : Type 0} (p : List ℕ) (s : List (Sym V)) (vs : List ℕ) (ts : List Token) → AreWide s → Spells (gather p s) vs ts → IsFitting s vs
fitting {V} p [] vs ts wide g = subst (λ (l : List ℕ). IsFitting {V = V} [] l) (sym (nothing_left p vs ts g)) tt
fitting p (Gap ∷ s) vs ts wide g = let t = past_run p g in fitting [] s vs t.0 wide t.1
fitting p (Byte c ∷ s) vs ts wide g = go (is_word c) g (λ us h. fitting (p ++ c ∷ []) s vs us wide h) (λ us h. fitting [] s vs us wide h) where
  go : (b : Bool) → Spells (cond b (gather (p ++ c ∷ []) s) (flush_shape p (Other c ∷ gather [] s))) vs ts
      → ((us : List Token) → Spells (gather (p ++ c ∷ []) s) vs us → IsFitting s vs) → ((us : List Token) → Spells (gather [] s) vs us → IsFitting s vs) → IsFitting s vs
  go true h on off = on ts h
  go false h on off = let t = past_run p h in let u = past_other t.1 in off u.0 u.1
fitting p (Shown Decimal n u ∷ s) vs ts wide g = let t = past_unsigned g in subst (λ (l : List ℕ). IsFitting (Shown Decimal n u ∷ s) l) (sym t.is) (t.below, fitting [] s t.rest t.after wide.1 t.spells)
fitting p (Shown Hexadecimal n u ∷ s) vs ts wide g = let t = past_unsigned g in subst (λ (l : List ℕ). IsFitting (Shown Hexadecimal n u ∷ s) l) (sym t.is) (t.below, fitting [] s t.rest t.after wide.1 t.spells)
fitting p (Shown WithSign n u ∷ s) vs ts wide g = let t = past_signed wide.0 g in subst (λ (l : List ℕ). IsFitting (Shown WithSign n u ∷ s) l) (sym t.is) (t.below, fitting [] s t.rest t.after wide.1 t.spells)

lengths : {V : Type 0} (s : List (Sym V)) (vs : List ℕ) → IsFitting s vs → length vs ≡ length (shown_values s)
lengths [] [] h = refl
lengths [] (v ∷ vs) h = absurd h
lengths (Byte c ∷ s) vs h = lengths s vs h
lengths (Gap ∷ s) vs h = lengths s vs h
lengths (Shown kind n u ∷ s) [] h = absurd h
lengths (Shown kind n u ∷ s) (v ∷ vs) h = ap suc (lengths s vs h.1)

ranged : (f : ℕ → ℕ) (s : List (Sym ℕ)) → AreWide s → IsFitting s (map f (shown_values s)) → InRange (map (sym_map f) s)
ranged f [] wide h = tt
ranged f (Byte c ∷ s) wide h = ranged f s wide h
ranged f (Gap ∷ s) wide h = ranged f s wide h
ranged f (Shown kind n u ∷ s) wide h = (wide.0, h.0, ranged f s wide.1 h.1)

wide_run : (p : List ℕ) (ss : List Shape) → IsWide ss → IsWide (flush_shape p ss)
wide_run [] ss h = h
wide_run (c ∷ p) ss h = h

wide_shape : (p : List ℕ) (s : List (Sym ℕ)) → AreWide s → IsWide (gather p s)
wide_shape p [] wide = wide_run p [] tt
wide_shape p (Gap ∷ s) wide = wide_run p (gather [] s) (wide_shape [] s wide)
wide_shape p (Byte c ∷ s) wide = go (is_word c) (wide_shape (p ++ c ∷ []) s wide) (wide_run p (Other c ∷ gather [] s) (wide_shape [] s wide)) where
  go : (b : Bool) → IsWide (gather (p ++ c ∷ []) s) → IsWide (flush_shape p (Other c ∷ gather [] s)) → IsWide (cond b (gather (p ++ c ∷ []) s) (flush_shape p (Other c ∷ gather [] s)))
  go true x y = x
  go false x y = y
wide_shape p (Shown Decimal n u ∷ s) wide = wide_shape [] s wide.1
wide_shape p (Shown Hexadecimal n u ∷ s) wide = wide_shape [] s wide.1
wide_shape p (Shown WithSign n u ∷ s) wide = (wide.0, wide_shape [] s wide.1)

-- what a form's shape spells is the text of a tree of that form
pub tree_of_text : (table : Table) (syntax : List (List Element)) (k : ℕ) (t : Form) (vs : List ℕ) (ts : List Token) → is_clean (symbols table syntax k (numbered 0 (owns t) t)) ≡ true
    → AreWide (symbols table syntax k (numbered 0 (owns t) t)) → Distinct (order table syntax k t) → Spells (shape table syntax k (numbered 0 (owns t) t)) vs ts
    → (f : ℕ → ℕ) × InRange (symbols table syntax k (filled f t)) × (text table syntax k (filled f t) ≡ ts)
tree_of_text table syntax k t vs ts clean wide once g =
    let s = symbols table syntax k (numbered 0 (owns t) t) in
    let fit = fitting [] s vs ts wide g in
    let v = valued once vs (lengths s vs fit) in
    let in_range : InRange (symbols table syntax k (filled v.0 t)) = subst (λ (l : List (Sym ℕ)). InRange l) (sym (symbols_as v.0 table syntax k (numbered 0 (owns t) t))) (ranged v.0 s wide (subst (λ (l : List ℕ). IsFitting s l) (sym v.1) fit)) in
    (v.0, in_range, text_is_one (wide_shape [] s wide) (spelled_by table syntax k t v.0 clean in_range) g v.1)
