-- Bits below others.
use Rattle.std.proofs.Common.{◌≡◌, ◌<◌, ◌≤◌, ◌+◌, ◌*◌, ◌^◌, ◌++◌, ℕ, zero, suc, Bool, true, false, List, [], ◌∷◌, Option, length, map, drop, refl, sym, ap, ◌∙◌, subst, arith, append_assoc, add-one}
use Rattle.std.proofs.lemmas.List.{length-append, length-map, map-append, append-nil}
use Rattle.std.proofs.Math.Nat.{pow-le-pow_right}
use Rattle.instruction_trees.specs.Bits.{Frame, one_if, value, mask_bit, pattern_bit}
use Rattle.instruction_trees.proofs.Numbers.{value_lt, doubled}
use Rattle.pattern_tables.specs.declared.bit_pattern.BitPattern.{BitPattern}
use Rattle.pattern_tables.specs.Patterns.{Stands}
use Rattle.form_patterns.specs.Frames.{Adds}

-- ---- numbers

value_more : (bs : List Bool) (b : Bool) → value (bs ++ (b ∷ [])) ≡ value bs * 2 + one_if b
value_more [] true = refl
value_more [] false = refl
value_more (true ∷ bs) b =
    let i = value_more bs b in
    let l : 2 ^ length (bs ++ (b ∷ [])) ≡ 2 ^ suc (length bs) = ap (λ (n : ℕ). 2 ^ n) (length-append bs (b ∷ []) ∙ add-one (length bs)) in
    omega (arith, i, l, doubled (length bs))
value_more (false ∷ bs) b =
    let i = value_more bs b in
    omega (arith, i)

bits_more : (f : Option Bool → Bool) (gs : Frame) (g : Option Bool) → value (map f (gs ++ (g ∷ []))) ≡ value (map f gs) * 2 + one_if (f g)
bits_more f gs g = ap value (map-append f gs (g ∷ [])) ∙ value_more (map f gs) (f g)

bits_small : (f : Option Bool → Bool) (gs : Frame) → length gs + 1 ≤ 64 → value (map f gs) < 2 ^ 63
bits_small f gs h =
    let v = value_lt (map f gs) in
    let l : 2 ^ length (map f gs) ≡ 2 ^ length gs = ap (λ (n : ℕ). 2 ^ n) (length-map gs f) in
    let two : 0 < 2 = omega arith in
    let short : length gs ≤ 63 = omega (arith, h) in
    let p = pow-le-pow_right two short in
    omega (arith, v, l, p)

-- ---- frames

pub adds_bit : (p q : BitPattern) (g : Option Bool) → (p.mask < 2 ^ 63 → q.mask ≡ p.mask * 2 + one_if (mask_bit g)) → (p.pattern < 2 ^ 63 → q.pattern ≡ p.pattern * 2 + one_if (pattern_bit g)) → Adds p (g ∷ []) q
adds_bit p q g m n = record {
  stands = λ gs h s. record {
    wide = refl;
    masked = m (subst (λ (k : ℕ). k < 2 ^ 63) (sym s.masked) (bits_small mask_bit gs h)) ∙ ap (λ (k : ℕ). k * 2 + one_if (mask_bit g)) s.masked ∙ sym (bits_more mask_bit gs g);
    patterned = n (subst (λ (k : ℕ). k < 2 ^ 63) (sym s.patterned) (bits_small pattern_bit gs h)) ∙ ap (λ (k : ℕ). k * 2 + one_if (pattern_bit g)) s.patterned ∙ sym (bits_more pattern_bit gs g);
  };
}

pub adds_none : (p : BitPattern) → Adds p [] p
adds_none p = record { stands = λ gs h s. subst (λ (hs : Frame). Stands (length hs) hs p) (sym (append-nil gs)) s }

pub adds_both : (p q r : BitPattern) (fs gs : Frame) → Adds p fs q → Adds q gs r → Adds p (fs ++ gs) r
adds_both p q r fs gs a b = record {
  stands = λ hs h s.
      let l = length-append fs gs in
      let m = length-append hs fs in
      subst (λ (ks : Frame). Stands (length ks) ks r) (append_assoc hs fs gs) (b.stands (hs ++ fs) (omega (arith, h, l, m)) (a.stands hs (omega (arith, h, l)) s));
}

-- ---- what is left to add

-- where the rest of a frame is added to the second, the whole is added to the first
abbrev pub Leads : BitPattern → Frame → BitPattern → Frame → Type 0
Leads p whole q rest = (r : BitPattern) → Adds q rest r → Adds p whole r

pub leads_on : (p q q' : BitPattern) (whole part rest more : Frame) → Leads p whole q rest → rest ≡ part ++ more → Adds q part q' → Leads p whole q' more
leads_on p q q' whole part rest more lead is a = λ r b. lead r (subst (λ (fs : Frame). Adds q fs r) (sym is) (adds_both q q' r part more a b))

pub leads_end : (p q : BitPattern) (whole rest : Frame) → Leads p whole q rest → rest ≡ [] → Adds p whole q
leads_end p q whole rest lead is = lead q (subst (λ (fs : Frame). Adds q fs q) (sym is) (adds_none q))

pub no_digits : {X Y : Type 0} (f : X → Y) (xs : List X) (i : ℕ) → length xs ≤ i → map f (drop i xs) ≡ []
no_digits f [] zero h = refl
no_digits f [] (suc i) h = refl
no_digits f (x ∷ xs) zero h = absurd (omega arith)
no_digits f (x ∷ xs) (suc i) h = no_digits f xs i (omega arith)
