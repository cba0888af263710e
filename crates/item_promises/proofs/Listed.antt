-- The names of all items are different.
use Rattle.std.proofs.Common.{◌≡◌, ◌≢◌, ◌<◌, ◌≤◌, ◌+◌, ◌^◌, ℕ, Bool, true, false, cond, List, [], ◌∷◌, ◌++◌, length, map, refl, sym, ap, ◌∙◌, arith}
use Rattle.std.specs.List.{AllByRecursion}
use Rattle.item_promises.proofs.Titles.{Title, Alone, Across, Held, Standing, text, IsWhole, IsSound, tells}
use Rattle.item_promises.proofs.Apart.{IsAbsent, Apart, each_append, each_weaker, each_map, each_map_of, apart_append, apart_map, apart_map_of}

-- ---- kinds of titles

abbrev pub kind : Title → ℕ
kind (Alone n) = 0
kind (Across a b f) = 1
kind (Held s) = 2
kind (Standing s o k) = 3

-- the stage that it names first
abbrev stage_of : Title → List ℕ
stage_of (Alone n) = n
stage_of (Across a b f) = a
stage_of (Held s) = s
stage_of (Standing s o k) = s

abbrev number_of : Title → ℕ
number_of (Alone n) = 0
number_of (Across a b f) = 0
number_of (Held s) = 0
number_of (Standing s o k) = k

abbrev IsKind : ℕ → Title → Type 0
IsKind k t = kind t ≡ k

abbrev IsLater : ℕ → Title → Type 0
IsLater k t = k < kind t

unlike_kind : (k : ℕ) (t u : Title) → IsKind k t → IsLater k u → t ≢ u
unlike_kind k t u is later same = absurd (omega (arith, ap kind same, is, later))

unlike_stage : (s : List ℕ) (t u : Title) → stage_of t ≡ s → s ≢ stage_of u → t ≢ u
unlike_stage s t u is other same = other (sym is ∙ ap stage_of same)

unlike_number : (k : ℕ) (t u : Title) → number_of t ≡ k → k < number_of u → t ≢ u
unlike_number k t u is later same = absurd (omega (arith, ap number_of same, is, later))

-- ---- boundaries

abbrev pub boundary_titles : List (List ℕ) → List (List ℕ) → List Title
boundary_titles fields [] = []
boundary_titles fields (a ∷ []) = []
boundary_titles fields (a ∷ b ∷ rest) = map (Across a b) fields ++ boundary_titles fields (b ∷ rest)

across_tells : (a b f g : List ℕ) → Across a b f ≡ Across a b g → f ≡ g
across_tells a b f g e = cc e

firsts_absent : (a : List ℕ) (fields names : List (List ℕ)) → IsAbsent a names → AllByRecursion (λ t. a ≢ stage_of t) (boundary_titles fields names)
firsts_absent a fields [] h = tt
firsts_absent a fields (b ∷ []) h = tt
firsts_absent a fields (b ∷ c ∷ rest) h =
    each_append (λ t. a ≢ stage_of t) (map (Across b c) fields) (boundary_titles fields (c ∷ rest)) (each_map (λ t. a ≢ stage_of t) (Across b c) (λ f. h.0) fields) (firsts_absent a fields (c ∷ rest) h.1)

boundaries_apart : (fields names : List (List ℕ)) → Apart fields → Apart names → Apart (boundary_titles fields names)
boundaries_apart fields [] f h = tt
boundaries_apart fields (a ∷ []) f h = tt
boundaries_apart fields (a ∷ b ∷ rest) f h =
    apart_append (λ t. stage_of t ≡ a) (λ t. a ≢ stage_of t) (unlike_stage a) (map (Across a b) fields) (boundary_titles fields (b ∷ rest))
    (each_map (λ t. stage_of t ≡ a) (Across a b) (λ g. refl) fields) (firsts_absent a fields (b ∷ rest) h.0)
    (apart_map (Across a b) (across_tells a b) fields f) (boundaries_apart fields (b ∷ rest) f h.1)

boundary_kinds : (fields names : List (List ℕ)) → AllByRecursion (IsKind 1) (boundary_titles fields names)
boundary_kinds fields [] = tt
boundary_kinds fields (a ∷ []) = tt
boundary_kinds fields (a ∷ b ∷ rest) = each_append (IsKind 1) (map (Across a b) fields) (boundary_titles fields (b ∷ rest)) (each_map (IsKind 1) (Across a b) (λ f. refl) fields) (boundary_kinds fields (b ∷ rest))

boundaries_sound : (fields names : List (List ℕ)) → AllByRecursion IsWhole names → AllByRecursion IsSound (boundary_titles fields names)
boundaries_sound fields [] h = tt
boundaries_sound fields (a ∷ []) h = tt
boundaries_sound fields (a ∷ b ∷ rest) h =
    each_append IsSound (map (Across a b) fields) (boundary_titles fields (b ∷ rest)) (each_map IsSound (Across a b) (λ f. (h.0, h.1.0)) fields) (boundaries_sound fields (b ∷ rest) h.1)

-- ---- bits: the occurrences that may stand in a stage, numbered from a number on, each with its operation's name

pub record Bit : Type 0 where
  pub stands : Bool
  pub name : List ℕ

abbrev pub stage_titles : List ℕ → ℕ → List Bit → List Title
stage_titles s k [] = []
stage_titles s k (x ∷ rest) = cond x.stands (Standing s x.name k ∷ []) [] ++ stage_titles s (k + 1) rest

-- by stages
abbrev pub bit_titles : (ℕ → List Bit) → ℕ → List (List ℕ) → List Title
bit_titles bits t [] = []
bit_titles bits t (s ∷ rest) = stage_titles s 0 (bits t) ++ bit_titles bits (t + 1) rest

one_bit : (P : Title → Type 0) (t : Title) (b : Bool) → P t → AllByRecursion P (cond b (t ∷ []) [])
one_bit P t false h = tt
one_bit P t true h = (h, tt)

one_apart : (t : Title) (b : Bool) → Apart (cond b (t ∷ []) [])
one_apart t false = tt
one_apart t true = (tt, tt)

numbers_late : (s : List ℕ) (j k : ℕ) (bits : List Bit) → j < k → AllByRecursion (λ t. j < number_of t) (stage_titles s k bits)
numbers_late s j k [] h = tt
numbers_late s j k (x ∷ rest) h =
    each_append (λ t. j < number_of t) (cond x.stands (Standing s x.name k ∷ []) []) (stage_titles s (k + 1) rest) (one_bit (λ t. j < number_of t) (Standing s x.name k) x.stands h) (numbers_late s j (k + 1) rest (omega (arith, h)))

stage_apart : (s : List ℕ) (k : ℕ) (bits : List Bit) → Apart (stage_titles s k bits)
stage_apart s k [] = tt
stage_apart s k (x ∷ rest) =
    apart_append (λ t. number_of t ≡ k) (λ t. k < number_of t) (unlike_number k) (cond x.stands (Standing s x.name k ∷ []) []) (stage_titles s (k + 1) rest)
    (one_bit (λ t. number_of t ≡ k) (Standing s x.name k) x.stands refl) (numbers_late s k (k + 1) rest (omega arith)) (one_apart (Standing s x.name k) x.stands) (stage_apart s (k + 1) rest)

stage_each : (P : Title → Type 0) (s : List ℕ) (k : ℕ) (bits : List Bit) → ((n : List ℕ) (j : ℕ) → P (Standing s n j)) → AllByRecursion P (stage_titles s k bits)
stage_each P s k [] h = tt
stage_each P s k (x ∷ rest) h = each_append P (cond x.stands (Standing s x.name k ∷ []) []) (stage_titles s (k + 1) rest) (one_bit P (Standing s x.name k) x.stands (h x.name k)) (stage_each P s (k + 1) rest h)

stage_sound : (s : List ℕ) (k : ℕ) (bits : List Bit) → IsWhole s → AllByRecursion (λ x. IsWhole x.name) bits → k + length bits < 2 ^ 64 → AllByRecursion IsSound (stage_titles s k bits)
stage_sound s k [] w h few = tt
stage_sound s k (x ∷ rest) w h few =
    each_append IsSound (cond x.stands (Standing s x.name k ∷ []) []) (stage_titles s (k + 1) rest) (one_bit IsSound (Standing s x.name k) x.stands (w, h.0, omega (arith, few))) (stage_sound s (k + 1) rest w h.1 (omega (arith, few)))

stages_absent : (a : List ℕ) (bits : ℕ → List Bit) (t : ℕ) (names : List (List ℕ)) → IsAbsent a names → AllByRecursion (λ u. a ≢ stage_of u) (bit_titles bits t names)
stages_absent a bits t [] h = tt
stages_absent a bits t (s ∷ rest) h =
    each_append (λ u. a ≢ stage_of u) (stage_titles s 0 (bits t)) (bit_titles bits (t + 1) rest) (stage_each (λ u. a ≢ stage_of u) s 0 (bits t) (λ n j. h.0)) (stages_absent a bits (t + 1) rest h.1)

bits_apart : (bits : ℕ → List Bit) (t : ℕ) (names : List (List ℕ)) → Apart names → Apart (bit_titles bits t names)
bits_apart bits t [] h = tt
bits_apart bits t (s ∷ rest) h =
    apart_append (λ u. stage_of u ≡ s) (λ u. s ≢ stage_of u) (unlike_stage s) (stage_titles s 0 (bits t)) (bit_titles bits (t + 1) rest)
    (stage_each (λ u. stage_of u ≡ s) s 0 (bits t) (λ n j. refl)) (stages_absent s bits (t + 1) rest h.0) (stage_apart s 0 (bits t)) (bits_apart bits (t + 1) rest h.1)

bit_kinds : (bits : ℕ → List Bit) (t : ℕ) (names : List (List ℕ)) → AllByRecursion (IsLater 2) (bit_titles bits t names)
bit_kinds bits t [] = tt
bit_kinds bits t (s ∷ rest) = each_append (IsLater 2) (stage_titles s 0 (bits t)) (bit_titles bits (t + 1) rest) (stage_each (IsLater 2) s 0 (bits t) (λ n j. omega arith)) (bit_kinds bits (t + 1) rest)

bits_sound : (bits : ℕ → List Bit) (t : ℕ) (names : List (List ℕ)) → AllByRecursion IsWhole names → ((u : ℕ) → AllByRecursion (λ x. IsWhole x.name) (bits u) × (length (bits u) < 2 ^ 64)) → AllByRecursion IsSound (bit_titles bits t names)
bits_sound bits t [] w h = tt
bits_sound bits t (s ∷ rest) w h =
    each_append IsSound (stage_titles s 0 (bits t)) (bit_titles bits (t + 1) rest) (stage_sound s 0 (bits t) w.0 (h t).0 (let l = (h t).1 in omega (arith, l))) (bits_sound bits (t + 1) rest w.1 h)

-- ---- all of them

abbrev pub titles : (registers fields stages words : List (List ℕ)) → (ℕ → List Bit) → List Title
titles registers fields stages words bits = map Alone registers ++ (boundary_titles fields stages ++ (map Held words ++ bit_titles bits 0 stages))

pub record AreNames (registers fields stages words : List (List ℕ)) (bits : ℕ → List Bit) : Type 0 where
  pub registers_apart : Apart registers
  pub fields_apart : Apart fields
  pub stages_apart : Apart stages
  pub words_apart : Apart words
  pub registers_whole : AllByRecursion IsWhole registers
  pub stages_whole : AllByRecursion IsWhole stages
  pub words_whole : AllByRecursion IsWhole words
  pub bits_whole : (t : ℕ) → AllByRecursion (λ x. IsWhole x.name) (bits t) × (length (bits t) < 2 ^ 64)

titles_apart : (registers fields stages words : List (List ℕ)) (bits : ℕ → List Bit) → AreNames registers fields stages words bits → Apart (titles registers fields stages words bits)
titles_apart registers fields stages words bits h =
    let bound = boundary_titles fields stages in
    let held = map Held words in
    let standing = bit_titles bits 0 stages in
    let later : (k : ℕ) (t : Title) → 2 < kind t → k ≤ 2 → k < kind t = λ k t less few. omega (arith, less, few) in
    let two : AllByRecursion (IsLater 1) (held ++ standing) = each_append (IsLater 1) held standing (each_map (IsLater 1) Held (λ s. omega arith) words) (each_weaker (IsLater 2) (IsLater 1) (λ t l. omega (arith, l)) standing (bit_kinds bits 0 stages)) in
    let one : AllByRecursion (IsLater 0) (bound ++ (held ++ standing)) =
    each_append (IsLater 0) bound (held ++ standing) (each_weaker (IsKind 1) (IsLater 0) (λ t is. omega (arith, is)) bound (boundary_kinds fields stages)) (each_weaker (IsLater 1) (IsLater 0) (λ t l. omega (arith, l)) (held ++ standing) two) in
    apart_append (IsKind 0) (IsLater 0) (unlike_kind 0) (map Alone registers) (bound ++ (held ++ standing)) (each_map (IsKind 0) Alone (λ n. refl) registers) one
    (apart_map Alone (λ n m e. cc e) registers h.registers_apart)
    (apart_append (IsKind 1) (IsLater 1) (unlike_kind 1) bound (held ++ standing) (boundary_kinds fields stages) two (boundaries_apart fields stages h.fields_apart h.stages_apart)
    (apart_append (IsKind 2) (IsLater 2) (unlike_kind 2) held standing (each_map (IsKind 2) Held (λ s. refl) words) (bit_kinds bits 0 stages) (apart_map Held (λ s r e. cc e) words h.words_apart) (bits_apart bits 0 stages h.stages_apart)))

titles_sound : (registers fields stages words : List (List ℕ)) (bits : ℕ → List Bit) → AreNames registers fields stages words bits → AllByRecursion IsSound (titles registers fields stages words bits)
titles_sound registers fields stages words bits h =
    each_append IsSound (map Alone registers) (boundary_titles fields stages ++ (map Held words ++ bit_titles bits 0 stages)) (each_map_of IsWhole IsSound Alone (λ n w. w) registers h.registers_whole)
    (each_append IsSound (boundary_titles fields stages) (map Held words ++ bit_titles bits 0 stages) (boundaries_sound fields stages h.stages_whole)
    (each_append IsSound (map Held words) (bit_titles bits 0 stages) (each_map_of IsWhole IsSound Held (λ n w. w) words h.words_whole) (bits_sound bits 0 stages h.stages_whole h.bits_whole)))

pub texts_apart : (registers fields stages words : List (List ℕ)) (bits : ℕ → List Bit) → AreNames registers fields stages words bits → Apart (map text (titles registers fields stages words bits))
texts_apart registers fields stages words bits h = apart_map_of IsSound text tells (titles registers fields stages words bits) (titles_sound registers fields stages words bits h) (titles_apart registers fields stages words bits h)
