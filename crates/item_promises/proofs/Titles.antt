-- Names of items, by their parts; a name tells its parts.
use Rattle.std.proofs.Common.{◌≡◌, ◌≢◌, ◌⊎◌, ◌<◌, ◌^◌, ℕ, List, [], ◌∷◌, ◌++◌, refl, sym, ap, ◌∙◌, inl, inr, arith}
use Rattle.std.specs.Prelude.{codes, decimal}
use Rattle.std.proofs.lemmas.Fmt.{decimal_injective}

-- a register; a field of the boundary between two stages; the word of a stage; the bit of an occurrence in a stage
pub data Title : Type 0 where
  Alone : List ℕ → Title
  Across : (before after field : List ℕ) → Title
  Held : (stage : List ℕ) → Title
  Standing : (stage operation : List ℕ) (number : ℕ) → Title

abbrev pub text : Title → List ℕ
text (Alone n) = n
text (Across a b f) = a ++ (codes "/" ++ (b ++ (codes "." ++ f)))
text (Held s) = s ++ codes ".word"
text (Standing s o k) = s ++ (codes "." ++ (o ++ (codes "." ++ decimal k)))

-- no `.` and no `/` stands in it
abbrev pub IsWhole : List ℕ → Type 0
IsWhole [] = Unit {0}
IsWhole (c ∷ n) = (c ≢ 46) × (c ≢ 47) × IsWhole n

abbrev pub IsSound : Title → Type 0
IsSound (Alone n) = IsWhole n
IsSound (Across a b f) = IsWhole a × IsWhole b
IsSound (Held s) = IsWhole s
IsSound (Standing s o k) = IsWhole s × IsWhole o × (k < 2 ^ 64)

abbrev Mark : ℕ → Type 0
Mark c = (c ≡ 46) ⊎ (c ≡ 47)

no_mark : (c k : ℕ) → Mark c → k ≢ 46 → k ≢ 47 → c ≡ k → ⊥
no_mark c k (inl is) dot slash same = dot (sym same ∙ is)
no_mark c k (inr is) dot slash same = slash (sym same ∙ is)

heads : (c k : ℕ) (x y : List ℕ) → c ∷ x ≡ k ∷ y → c ≡ k
heads c k x y e = cc e

tails : (c k : ℕ) (x y : List ℕ) → c ∷ x ≡ k ∷ y → x ≡ y
tails c k x y e = cc e

-- what stands before the first mark, that mark, and what stands behind it
split : (a b x y : List ℕ) (c e : ℕ) → IsWhole a → IsWhole b → Mark c → Mark e → a ++ (c ∷ x) ≡ b ++ (e ∷ y) → (a ≡ b) × (c ≡ e) × (x ≡ y)
split [] [] x y c e wa wb mc me h = (refl, heads c e x y h, tails c e x y h)
split [] (k ∷ b) x y c e wa wb mc me h = absurd (no_mark c k mc wb.0 wb.1 (heads c k x (b ++ (e ∷ y)) h))
split (k ∷ a) [] x y c e wa wb mc me h = absurd (no_mark e k me wa.0 wa.1 (sym (heads k e (a ++ (c ∷ x)) y h)))
split (k ∷ a) (l ∷ b) x y c e wa wb mc me h =
    let rest = split a b x y c e wa.2 wb.2 mc me (tails k l (a ++ (c ∷ x)) (b ++ (e ∷ y)) h) in
    let first = heads k l (a ++ (c ∷ x)) (b ++ (e ∷ y)) h in
    let both : k ∷ a ≡ l ∷ b = cc (first, rest.0) in
    (both, rest.1, rest.2)

whole_is_none : (a b y : List ℕ) (c : ℕ) → IsWhole a → Mark c → a ≡ b ++ (c ∷ y) → ⊥
whole_is_none [] [] y c w m h = absurd (cc h)
whole_is_none [] (k ∷ b) y c w m h = absurd (cc h)
whole_is_none (k ∷ a) [] y c w m h = no_mark c k m w.0 w.1 (sym (heads k c a y h))
whole_is_none (k ∷ a) (l ∷ b) y c w m h = whole_is_none a b y c w.2 m (tails k l a (b ++ (c ∷ y)) h)

dot : Mark 46
dot = inl refl

slash : Mark 47
slash = inr refl

apart : (c e : ℕ) → c ≡ e → c ≡ 46 → e ≡ 47 → ⊥
apart c e same is was = absurd (omega (arith, same, is, was))

word_is_whole : IsWhole (codes "word")
word_is_whole = ((λ e. absurd (cc e)), (λ e. absurd (cc e)), ((λ e. absurd (cc e)), (λ e. absurd (cc e)), ((λ e. absurd (cc e)), (λ e. absurd (cc e)), ((λ e. absurd (cc e)), (λ e. absurd (cc e)), tt))))

pub tells : (t u : Title) → IsSound t → IsSound u → text t ≡ text u → t ≡ u
tells (Alone n) (Alone m) s r h = ap Alone h
tells (Alone n) (Across a b f) s r h = absurd (whole_is_none n a (b ++ (codes "." ++ f)) 47 s slash h)
tells (Alone n) (Held a) s r h = absurd (whole_is_none n a (codes "word") 46 s dot h)
tells (Alone n) (Standing a o k) s r h = absurd (whole_is_none n a (o ++ (codes "." ++ decimal k)) 46 s dot h)
tells (Across a b f) (Alone m) s r h = absurd (whole_is_none m a (b ++ (codes "." ++ f)) 47 r slash (sym h))
tells (Across a b f) (Across c e g) s r h =
    let one = split a c (b ++ (codes "." ++ f)) (e ++ (codes "." ++ g)) 47 47 s.0 r.0 slash slash h in
    let two = split b e f g 46 46 s.1 r.1 dot dot one.2 in
    cc (one.0, two.0, two.2)
tells (Across a b f) (Held c) s r h = let one = split a c (b ++ (codes "." ++ f)) (codes "word") 47 46 s.0 r slash dot h in absurd (apart 46 47 (sym one.1) refl refl)
tells (Across a b f) (Standing c o k) s r h = let one = split a c (b ++ (codes "." ++ f)) (o ++ (codes "." ++ decimal k)) 47 46 s.0 r.0 slash dot h in absurd (apart 46 47 (sym one.1) refl refl)
tells (Held a) (Alone m) s r h = absurd (whole_is_none m a (codes "word") 46 r dot (sym h))
tells (Held a) (Across c e g) s r h = let one = split a c (codes "word") (e ++ (codes "." ++ g)) 46 47 s r.0 dot slash h in absurd (apart 46 47 one.1 refl refl)
tells (Held a) (Held c) s r h = let one = split a c (codes "word") (codes "word") 46 46 s r dot dot h in ap Held one.0
tells (Held a) (Standing c o k) s r h =
    let one = split a c (codes "word") (o ++ (codes "." ++ decimal k)) 46 46 s r.0 dot dot h in
    absurd (whole_is_none (codes "word") o (decimal k) 46 word_is_whole dot one.2)
tells (Standing a o k) (Alone m) s r h = absurd (whole_is_none m a (o ++ (codes "." ++ decimal k)) 46 r dot (sym h))
tells (Standing a o k) (Across c e g) s r h = let one = split a c (o ++ (codes "." ++ decimal k)) (e ++ (codes "." ++ g)) 46 47 s.0 r.0 dot slash h in absurd (apart 46 47 one.1 refl refl)
tells (Standing a o k) (Held c) s r h =
    let one = split a c (o ++ (codes "." ++ decimal k)) (codes "word") 46 46 s.0 r dot dot h in
    absurd (whole_is_none (codes "word") o (decimal k) 46 word_is_whole dot (sym one.2))
tells (Standing a o k) (Standing c p j) s r h =
    let one = split a c (o ++ (codes "." ++ decimal k)) (p ++ (codes "." ++ decimal j)) 46 46 s.0 r.0 dot dot h in
    let two = split o p (decimal k) (decimal j) 46 46 s.1 r.1 dot dot one.2 in
    let three = decimal_injective k j s.2 r.2 two.2 in
    cc (one.0, two.0, three)
