-- The first lines of images and of memories.
use Rattle.std.proofs.Common.{◌≡◌, ℕ, zero, suc, ◌+◌, ◌-◌, ◌*◌, ◌^◌, ◌<◌, ◌≤◌, Bool, true, false, cond, List, [], ◌∷◌, ◌++◌, length, map, Option, Some, None, refl, sym, ap, subst, ◌∙◌, inl, inr, arith}
use Rattle.std.specs.Prelude.{nat_lt, nat_le, ◌==◌, ◌&&◌, ◌||◌, not, codes, decimal}
use Rattle.std.specs.List.{list_any, list_all, slice_split}
use Rattle.std.specs.Str.{bytes_eq}
use Rattle.std.proofs.lemmas.Bool.{and_parts, and_from, lt-ltb, le-leb, leb-true, ltb-true, eqb-true, false≢true, or_cases, agree_below_at}
use Rattle.lisa_engine.specs.Images.{IsDepth}
use Rattle.lisa_object.specs.declared.image_reader.Extent.{Extent}
use Rattle.lisa_object.specs.Texts.{line_of, digest_digits, image_head}
use Rattle.lisa_object.specs.Rules.{is_visible, IsDigest, depths, is_depth}
use Rattle.lisa_object.specs.Reading.{◌>>=◌, Word, first_of, is_nil, decimal_of, small_of, digest_of, digest_behind, opening_of}
use Rattle.lisa_object.specs.ImageReading.{is_extent, extent_in, extent_of, head_of, head_at}
use Rattle.lisa_object.proofs.Options.{bind_some, some_is, cond_some, guard_some}
use Rattle.lisa_object.proofs.WordLaws.{same_bytes, bytes_same, decimal_there, decimal_back}
use Rattle.lisa_object.proofs.TextLaws.{lacks, all_lack, line_words, words_line}
use Rattle.lisa_object.proofs.PlainWords.{is_plain, plain_lacks, decimal_plain, visible_plain}
use Rattle.lisa_object.proofs.DigestLaws.{digest_there, digest_back, digest_plain}

pub small_there : (n : ℕ) → n < 2 ^ 32 → small_of (decimal n) ≡ Some n
unfolding small_of
small_there n lt = rw (decimal_there n (omega arith), lt-ltb n (2 ^ 32) lt) refl

pub small_back : (word : Word) (n : ℕ) → small_of word ≡ Some n → (n < 2 ^ 32) × (word ≡ decimal n)
unfolding small_of
small_back word n e =
    let a = bind_some (decimal_of word) (λ n. cond (nat_lt n (2 ^ 32)) (Some n) None) n e in
    let b = guard_some (nat_lt a.0 (2 ^ 32)) a.0 n a.2 in
    let back = decimal_back a.0 word a.1 in
    (subst (λ (k : ℕ). k < 2 ^ 32) b.1 (ltb-true a.0 (2 ^ 32) b.0), back.1 ∙ ap decimal b.1)

-- ---- the first line of an image or an object

words_lack : (k : Word) (digest : List ℕ) → is_plain k ≡ true → all_lack 32 (k ∷ codes "1" ∷ digest_digits digest ∷ []) ≡ true
words_lack k digest h = and_from _ _ (plain_lacks 32 k (omega arith) h) (and_from _ _ refl (and_from _ _ (plain_lacks 32 (digest_digits digest) (omega arith) (digest_plain digest)) refl))

pub opening_there : (k : Word) (digest : List ℕ) → is_plain k ≡ true → IsDigest digest → opening_of k (line_of (k ∷ codes "1" ∷ digest_digits digest ∷ [])) ≡ Some digest
unfolding opening_of
opening_there k digest h d = rw (line_words k (codes "1" ∷ digest_digits digest ∷ []) (words_lack k digest h), same_bytes k k refl) (digest_there digest d)

behind_back : (words : List Word) (digest : List ℕ) → digest_behind words ≡ Some digest → (words ≡ codes "1" ∷ digest_digits digest ∷ []) × IsDigest digest
behind_back [] digest e = absurd cc
behind_back (one ∷ []) digest e = absurd cc
behind_back (one ∷ d ∷ v ∷ vs) digest e =
    let a = cond_some (bytes_eq one (codes "1") && false) (digest_of d) digest e in
    absurd (false≢true (and_parts (bytes_eq one (codes "1")) false a.0).1)
behind_back (one ∷ d ∷ []) digest e =
    let a = cond_some (bytes_eq one (codes "1") && true) (digest_of d) digest e in
    let p = and_parts (bytes_eq one (codes "1")) true a.0 in
    let back = digest_back d digest a.1 in
    (ap (λ (l : Word). l ∷ d ∷ []) (bytes_same one (codes "1") p.0) ∙ ap (λ (l : Word). codes "1" ∷ l ∷ []) back.0, back.1)

opening_words : (k : Word) (words : List Word) (digest : List ℕ) → (first_of words >>= λ w. cond (bytes_eq w.0 k) (digest_behind w.1) None) ≡ Some digest → (words ≡ k ∷ codes "1" ∷ digest_digits digest ∷ []) × IsDigest digest
opening_words k [] digest e = absurd cc
opening_words k (w ∷ ws) digest e =
    let a = cond_some (bytes_eq w k) (digest_behind ws) digest e in
    let b = behind_back ws digest a.1 in
    (ap (λ (l : Word). l ∷ ws) (bytes_same w k a.0) ∙ ap (λ (l : List Word). k ∷ l) b.0, b.1)

pub opening_back : (k line : Word) (digest : List ℕ) → opening_of k line ≡ Some digest → (line ≡ line_of (k ∷ codes "1" ∷ digest_digits digest ∷ [])) × IsDigest digest
unfolding opening_of
opening_back k line digest e = let a = opening_words k (slice_split (λ b. b == 32) line) digest e in (words_line line _ a.0, a.1)

-- ---- depths

abbrev is_power : ℕ → Bool
is_power k = not (nat_le 1 k) || is_depth (2 ^ k)

every : ℕ → Bool
every k = true

pub depth_there : (d : ℕ) → IsDepth d → is_depth d ≡ true
unfolding every
depth_there d h = rw h.3 (go (nat_le 1 h.0) (le-leb 1 h.0 h.1) (agree_below_at is_power every 21 h.0 refl (omega (arith, h.2))))
  where
    go : (t : Bool) → t ≡ true → (not t || is_depth (2 ^ h.0)) ≡ true → is_depth (2 ^ h.0) ≡ true
    go true e f = f
    go false e f = absurd (false≢true e)

abbrev exponents : List ℕ
exponents = 1 ∷ 2 ∷ 3 ∷ 4 ∷ 5 ∷ 6 ∷ 7 ∷ 8 ∷ 9 ∷ 10 ∷ 11 ∷ 12 ∷ 13 ∷ 14 ∷ 15 ∷ 16 ∷ 17 ∷ 18 ∷ 19 ∷ 20 ∷ []

abbrev in_range : ℕ → Bool
in_range k = nat_le 1 k && nat_le k 20

among : (d : ℕ) (ks : List ℕ) → list_all in_range ks ≡ true → list_any (λ p. p == d) (map (λ k. 2 ^ k) ks) ≡ true → IsDepth d
among d [] all e = absurd (false≢true e)
among d (k ∷ ks) all e =
    let p = and_parts (in_range k) (list_all in_range ks) all in
    let q = and_parts (nat_le 1 k) (nat_le k 20) p.0 in
    elim (or_cases (2 ^ k == d) (list_any (λ p. p == d) (map (λ k. 2 ^ k) ks)) e) [
      | inl here ↦ (k, leb-true 1 k q.0, leb-true k 20 q.1, sym (eqb-true (2 ^ k) d here))
      | inr there ↦ among d ks p.1 there
    ]

pub depth_back : (d : ℕ) → is_depth d ≡ true → IsDepth d
depth_back d e = among d exponents refl e

-- ---- a memory's line

abbrev pub head_words : Word → Extent → List Word
head_words name e = codes "memory" ∷ name ∷ decimal e.width ∷ decimal e.depth ∷ decimal e.count ∷ []

pub record FitsExtent (e : Extent) : Type 0 where
  pub width : e.width < 2 ^ 32
  pub depth : e.depth < 2 ^ 32
  pub count : e.count < 2 ^ 32

head_lack : (name : Word) (e : Extent) → is_visible name ≡ true → FitsExtent e → all_lack 32 (head_words name e) ≡ true
head_lack name e seen f =
    and_from _ _ refl (and_from _ _ (plain_lacks 32 name (omega arith) (visible_plain name seen))
    (and_from _ _ (plain_lacks 32 (decimal e.width) (omega arith) (decimal_plain e.width (omega (arith, f.width))))
    (and_from _ _ (plain_lacks 32 (decimal e.depth) (omega arith) (decimal_plain e.depth (omega (arith, f.depth))))
    (and_from _ _ (plain_lacks 32 (decimal e.count) (omega arith) (decimal_plain e.count (omega (arith, f.count)))) refl))))

pub head_there : (name : Word) (e : Extent) → is_visible name ≡ true → is_extent e ≡ true → FitsExtent e → head_at (line_of (head_words name e)) ≡ Some (name, e)
unfolding head_at
head_there name e seen kept f =
    ap head_of (line_words (codes "memory") (name ∷ decimal e.width ∷ decimal e.depth ∷ decimal e.count ∷ []) (head_lack name e seen f))
    ∙ rw (seen, small_there e.width f.width, small_there e.depth f.depth, small_there e.count f.count, kept) refl

pub record IsHead (words : List Word) (name : Word) (e : Extent) : Type 0 where
  pub parts : words ≡ head_words name e
  pub seen : is_visible name ≡ true
  pub kept : is_extent e ≡ true

extent_back : (words : List Word) (e : Extent) → extent_of words ≡ Some e → (words ≡ decimal e.width ∷ decimal e.depth ∷ decimal e.count ∷ []) × (is_extent e ≡ true)
extent_back [] e h = absurd cc
extent_back (w ∷ []) e h = absurd cc
extent_back (w ∷ d ∷ []) e h = absurd cc
extent_back (w ∷ d ∷ c ∷ v ∷ vs) e h = absurd cc
extent_back (w ∷ d ∷ c ∷ []) e h =
    let a = bind_some (small_of w) (λ w. small_of d >>= λ d. small_of c >>= λ c. cond (is_extent (record { width = w; depth = d; count = c })) (Some (record { width = w; depth = d; count = c })) None) e h in
    let b = bind_some (small_of d) (λ d. small_of c >>= λ c. cond (is_extent (record { width = a.0; depth = d; count = c })) (Some (record { width = a.0; depth = d; count = c })) None) e a.2 in
    let g = bind_some (small_of c) (λ c. cond (is_extent (record { width = a.0; depth = b.0; count = c })) (Some (record { width = a.0; depth = b.0; count = c })) None) e b.2 in
    let made : Extent = record { width = a.0; depth = b.0; count = g.0 } in
    let k = guard_some (is_extent made) made e g.2 in
    subst (λ (x : Extent). (w ∷ d ∷ c ∷ [] ≡ decimal x.width ∷ decimal x.depth ∷ decimal x.count ∷ []) × (is_extent x ≡ true)) k.1
    (ap (λ (l : Word). l ∷ d ∷ c ∷ []) (small_back w a.0 a.1).1 ∙ ap (λ (l : Word). decimal a.0 ∷ l ∷ c ∷ []) (small_back d b.0 b.1).1 ∙ ap (λ (l : Word). decimal a.0 ∷ decimal b.0 ∷ l ∷ []) (small_back c g.0 g.1).1, k.0)

head_back_words : (words : List Word) (name : Word) (e : Extent) → head_of words ≡ Some (name, e) → IsHead words name e
head_back_words [] name e h = absurd cc
head_back_words (k ∷ []) name e h = absurd cc
head_back_words (k ∷ n ∷ ws) name e h =
    let a = cond_some (bytes_eq k (codes "memory") && is_visible n) (extent_of ws >>= λ e. Some (n, e)) (name, e) h in
    let p = and_parts (bytes_eq k (codes "memory")) (is_visible n) a.0 in
    let b = bind_some (extent_of ws) (λ e. Some (n, e)) (name, e) a.1 in
    let same : (n, b.0) ≡ (name, e) = some_is (n, b.0) (name, e) b.2 in
    let back = extent_back ws b.0 b.1 in
    subst (λ (x : Word × Extent). IsHead (k ∷ n ∷ ws) x.0 x.1) same (record {
      parts = ap (λ (l : Word). l ∷ n ∷ ws) (bytes_same k (codes "memory") p.0) ∙ ap (λ (l : List Word). codes "memory" ∷ n ∷ l) back.0;
      seen = p.1;
      kept = back.1;
    })

pub record IsHeadLine (line name : Word) (e : Extent) : Type 0 where
  pub text : line ≡ line_of (head_words name e)
  pub seen : is_visible name ≡ true
  pub kept : is_extent e ≡ true

pub head_back : (line name : Word) (e : Extent) → head_at line ≡ Some (name, e) → IsHeadLine line name e
unfolding head_at
head_back line name e h =
    let a = head_back_words (slice_split (λ b. b == 32) line) name e h in
    record { text = words_line line (head_words name e) a.parts; seen = a.seen; kept = a.kept }
