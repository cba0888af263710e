-- An image's text spells it alone.
use Rattle.std.proofs.Common.{◌≡◌, ◌≢◌, ℕ, zero, suc, ◌+◌, ◌^◌, ◌<◌, ◌≤◌, Bool, true, false, cond, List, [], ◌∷◌, ◌++◌, length, get_or, map, Option, Some, None, Result, Ok, Err, refl, sym, ap, subst, ◌∙◌, append_assoc, arith, length-append}
use Rattle.std.specs.Prelude.{◌==◌, ◌||◌, not, codes, decimal, All, AllPairs, sum_by, IsTrue}
use Rattle.std.specs.List.{list_any, list_all, slice_split, flat_map}
use Rattle.std.specs.Str.{bytes_eq}
use Rattle.std.proofs.lemmas.Bool.{and_parts, and_from, cases_Bool, false≢true}
use Rattle.std.proofs.lemmas.List.Elements.{All-nil, All-cons, All-head, All-tail}
use Rattle.std.proofs.lemmas.List.Sums.{sum_by-cons}
use Rattle.lisa_engine.specs.Memory.{Memory}
use Rattle.lisa_engine.specs.Images.{IsMemory, IsImage}
use Rattle.lisa_object.specs.declared.parts.Stamped.{Stamped}
use Rattle.lisa_object.specs.declared.faults.Stop.{Stop}
use Rattle.lisa_object.specs.declared.faults.Stop.TheVariants as stops
use Rattle.lisa_object.specs.Texts.{line_of, text_of, hex, digest_digits, memory_head, memory_lines, image_head, image_lines, image_text}
use Rattle.lisa_object.specs.Rules.{is_visible, IsDigest, IsStamped}
use Rattle.lisa_object.specs.Reading.{◌>>=◌, Word, opening_of}
use Rattle.lisa_object.specs.ImageReading.{memories_of, memories_in, image_of}
use Rattle.lisa_object.proofs.Options.{bind_some, some_is}
use Rattle.lisa_object.proofs.WordLaws.{same_bytes, bytes_same}
use Rattle.lisa_object.proofs.TextLaws.{lacks, all_lack, all_lack-append, line_lacks, text_parts, parts_text}
use Rattle.lisa_object.proofs.PlainWords.{is_plain, plain_lacks, decimal_plain, hex_plain, visible_plain}
use Rattle.lisa_object.proofs.DigestLaws.{digest_plain}
use Rattle.lisa_object.proofs.HeadLaws.{opening_there, opening_back}
use Rattle.lisa_object.proofs.ImageLaws.{pow_small, depth_small, MayFollow, MayStand, memories_there, memories_back}

-- ---- the rules, memory by memory

abbrev Apart : Memory → Memory → Type 0
Apart a b = a.name ≢ b.name

pairs_tail : (m : Memory) (ms : List Memory) → AllPairs Apart (m ∷ ms) → AllPairs Apart ms
pairs_tail m ms h = λ i j d lt within. h (suc i) (suc j) d (omega arith) (omega arith)

pairs_head : (m : Memory) (ms : List Memory) → AllPairs Apart (m ∷ ms) → All (Apart m) ms
pairs_head m ms h = λ k d lt. h 0 (suc k) d (omega arith) (omega arith)

pairs_cons : (m : Memory) (ms : List Memory) → All (Apart m) ms → AllPairs Apart ms → AllPairs Apart (m ∷ ms)
pairs_cons m ms first more = λ i j d lt within. go i j d lt within
  where
    go : (i j : ℕ) (d : Memory) → i < j → j < length (m ∷ ms) → Apart (get_or (m ∷ ms) i d) (get_or (m ∷ ms) j d)
    go i zero d lt within = absurd (omega arith)
    go zero (suc j) d lt within = first j d (omega arith)
    go (suc i) (suc j) d lt within = more i j d (omega arith) (omega arith)

unlike : (xs ys : Word) → (ys ≡ xs → ⊥) → bytes_eq xs ys ≡ false
unlike xs ys h = go (bytes_eq xs ys) refl
  where
    go : (t : Bool) → bytes_eq xs ys ≡ t → bytes_eq xs ys ≡ false
    go true e = absurd (h (sym (bytes_same xs ys e)))
    go false e = e

abbrev IsNew : List Word → Memory → Type 0
IsNew seen m = list_any (bytes_eq m.name) seen ≡ false

-- the rules of an image, where so many cells and these names stand before it
record Keeps (before : ℕ) (seen : List Word) (ms : List Memory) : Type 0 where
  memories : All IsMemory ms
  names : All (λ m. IsTrue (is_visible m.name)) ms
  distinct : AllPairs Apart ms
  total : before + sum_by (λ m. length m.cells) ms ≤ 4194304
  new : All (IsNew seen) ms

new_on : (m : Memory) (seen : List Word) (ms : List Memory) → All (Apart m) ms → All (IsNew seen) ms → All (IsNew (m.name ∷ seen)) ms
new_on m seen ms apart new = λ k d lt. rw (unlike (get_or ms k d).name m.name (apart k d lt)) (new k d lt)

stands : (before : ℕ) (seen : List Word) (ms : List Memory) → Keeps before seen ms → MayStand before seen ms
stands before seen [] h = tt
stands before seen (m ∷ ms) h =
    let sum = sum_by-cons (λ m. length m.cells) m ms in (
      record {
        memory = All-head IsMemory m ms h.memories;
        visible = All-head (λ m. IsTrue (is_visible m.name)) m ms h.names;
        room = omega (arith, h.total, sum);
        new = All-head (IsNew seen) m ms h.new;
      },
      stands (before + length m.cells) (m.name ∷ seen) ms (record {
        memories = All-tail IsMemory m ms h.memories;
        names = All-tail (λ m. IsTrue (is_visible m.name)) m ms h.names;
        distinct = pairs_tail m ms h.distinct;
        total = omega (arith, h.total, sum);
        new = new_on m seen ms (pairs_head m ms h.distinct) (All-tail (IsNew seen) m ms h.new);
      }),
    )

old_new : (m : Memory) (seen : List Word) (n : Memory) → IsNew (m.name ∷ seen) n → Apart m n × IsNew seen n
old_new m seen n h = go (bytes_eq n.name m.name) refl h
  where
    go : (t : Bool) → bytes_eq n.name m.name ≡ t → (t || list_any (bytes_eq n.name) seen) ≡ false → Apart m n × IsNew seen n
    go true e f = absurd (false≢true (sym f))
    go false e f = (λ same. false≢true (sym e ∙ same_bytes n.name m.name (sym same)), f)

keeps : (before : ℕ) (seen : List Word) (ms : List Memory) → before ≤ 4194304 → MayStand before seen ms → Keeps before seen ms
keeps before seen [] le h = record { memories = All-nil IsMemory; names = All-nil (λ m. IsTrue (is_visible m.name)); distinct = λ i j d lt within. absurd (omega arith); total = omega arith; new = All-nil (IsNew seen) }
keeps before seen (m ∷ ms) le h =
    let more = keeps (before + length m.cells) (m.name ∷ seen) ms h.0.room h.1 in
    let sum = sum_by-cons (λ m. length m.cells) m ms in
    record {
      memories = All-cons IsMemory m ms h.0.memory more.memories;
      names = All-cons (λ m. IsTrue (is_visible m.name)) m ms h.0.visible more.names;
      distinct = pairs_cons m ms (λ k d lt. (old_new m seen (get_or ms k d) (more.new k d lt)).0) more.distinct;
      total = omega (arith, more.total, sum);
      new = All-cons (IsNew seen) m ms h.0.new (λ k d lt. (old_new m seen (get_or ms k d) (more.new k d lt)).1);
    }

-- ---- found

last_lines : (d : List ℕ) (ms : List Memory) → image_head d ∷ (flat_map memory_lines ms ++ codes "end" ∷ [] ∷ []) ≡ image_lines (record { digest = d; image = ms }) ++ [] ∷ []
last_lines d ms = ap (λ (l : List Word). image_head d ∷ l) (sym (append_assoc (flat_map memory_lines ms) (codes "end" ∷ []) ([] ∷ [])))

pub record IsSpelled (bytes : List ℕ) (s : Stamped) : Type 0 where
  pub keeps : IsStamped s
  pub text : bytes ≡ image_text s

found_parts : (bytes : List ℕ) (parts : List Word) (s : Stamped) → slice_split (λ b. b == 10) bytes ≡ parts → image_of parts ≡ Some s → IsSpelled bytes s
unfolding image_of
found_parts bytes [] s is e = absurd cc
found_parts bytes (line ∷ lines) s is e =
    let a = bind_some (opening_of (codes "image") line) (λ d. memories_in lines >>= λ ms. Some (record { digest = d; image = ms })) s e in
    let b = bind_some (memories_in lines) (λ ms. Some (record { digest = a.0; image = ms })) s a.2 in
    let head = opening_back (codes "image") line a.0 a.1 in
    let rest = memories_back (length lines) 0 [] lines b.0 b.1 in
    let kept = keeps 0 [] b.0 (omega arith) rest.1 in
    let made : Stamped = record { digest = a.0; image = b.0 } in
    subst (λ (x : Stamped). IsSpelled bytes x) (some_is made s b.2) (record {
      keeps = record { digest = head.1; image = record { memories = kept.memories; distinct = kept.distinct; total = omega (arith, kept.total) }; names = kept.names };
      text = parts_text bytes (image_lines made) (is ∙ ap (λ (l : Word). l ∷ lines) head.0 ∙ ap (λ (l : List Word). image_head a.0 ∷ l) rest.0 ∙ last_lines a.0 b.0);
    })

pub found : (bytes : List ℕ) (s : Stamped) → image_of (slice_split (λ b. b == 10) bytes) ≡ Some s → IsSpelled bytes s
found bytes s e = found_parts bytes (slice_split (λ b. b == 10) bytes) s refl e

-- ---- and no other

cells_lack : (width : ℕ) (cells : List ℕ) → width ≤ 64 → All (λ value. value < 2 ^ width) cells → all_lack 10 (map hex cells) ≡ true
cells_lack width [] le h = refl
cells_lack width (c ∷ cs) le h =
    let small : c < 2 ^ 64 = omega (arith, All-head (λ value. value < 2 ^ width) c cs h, pow_small width le) in
    and_from _ _ (plain_lacks 10 (hex c) (omega arith) (hex_plain c small)) (cells_lack width cs le (All-tail (λ value. value < 2 ^ width) c cs h))

head_lacks : (m : Memory) → IsMemory m → IsTrue (is_visible m.name) → lacks 10 (memory_head m) ≡ true
head_lacks m h seen =
    let deep = depth_small m.depth h.depth in
    line_lacks 10 (codes "memory" ∷ m.name ∷ decimal m.width ∷ decimal m.depth ∷ decimal (length m.cells) ∷ []) refl
    (and_from _ _ refl (and_from _ _ (plain_lacks 10 m.name (omega arith) (visible_plain m.name seen)) (and_from _ _ (plain_lacks 10 (decimal m.width) (omega arith) (decimal_plain m.width (omega (arith, h.wide))))
    (and_from _ _ (plain_lacks 10 (decimal m.depth) (omega arith) (decimal_plain m.depth (omega (arith, deep)))) (and_from _ _ (plain_lacks 10 (decimal (length m.cells)) (omega arith) (decimal_plain (length m.cells) (omega (arith, h.room, deep)))) refl)))))

memories_lack : (ms : List Memory) → All IsMemory ms → All (λ m. IsTrue (is_visible m.name)) ms → all_lack 10 (flat_map memory_lines ms) ≡ true
memories_lack [] h seen = refl
memories_lack (m ∷ ms) h seen =
    let first = All-head IsMemory m ms h in
    all_lack-append 10 (memory_lines m) (flat_map memory_lines ms)
    (and_from _ _ (head_lacks m first (All-head (λ m. IsTrue (is_visible m.name)) m ms seen)) (cells_lack m.width m.cells first.wide first.within))
    (memories_lack ms (All-tail IsMemory m ms h) (All-tail (λ m. IsTrue (is_visible m.name)) m ms seen))

lines_lack : (s : Stamped) → IsStamped s → all_lack 10 (image_lines s) ≡ true
lines_lack s h =
    and_from _ _ (line_lacks 10 (codes "image" ∷ codes "1" ∷ digest_digits s.digest ∷ []) refl (and_from _ _ refl (and_from _ _ refl (and_from _ _ (plain_lacks 10 (digest_digits s.digest) (omega arith) (digest_plain s.digest)) refl))))
    (all_lack-append 10 (flat_map memory_lines s.image) (codes "end" ∷ []) (memories_lack s.image h.image.memories h.names) refl)

fewer : (ms : List Memory) → length ms ≤ length (flat_map memory_lines ms)
fewer [] = omega arith
fewer (m ∷ ms) = omega (arith, fewer ms, length-append (map hex m.cells) (flat_map memory_lines ms))

pub only : (s : Stamped) → IsStamped s → image_of (slice_split (λ b. b == 10) (image_text s)) ≡ Some s
unfolding image_of
only s h =
    let parts = text_parts (image_lines s) (lines_lack s h) ∙ sym (last_lines s.digest s.image) in
    let rules : Keeps 0 [] s.image = record { memories = h.image.memories; names = h.names; distinct = h.image.distinct; total = omega (arith, h.image.total); new = λ k d lt. refl } in
    let enough : length s.image < length (flat_map memory_lines s.image ++ codes "end" ∷ [] ∷ []) = omega (arith, fewer s.image, length-append (flat_map memory_lines s.image) (codes "end" ∷ [] ∷ [])) in
    let memories = memories_there (length (flat_map memory_lines s.image ++ codes "end" ∷ [] ∷ [])) 0 [] s.image (stands 0 [] s.image rules) enough in
    let opening = opening_there (codes "image") s.digest refl h.digest in
    ap image_of parts ∙ ap (λ (q : Option (List ℕ)). q >>= λ d. memories_in (flat_map memory_lines s.image ++ codes "end" ∷ [] ∷ []) >>= λ ms. Some (record { digest = d; image = ms })) opening
    ∙ ap (λ (q : Option (List Memory)). q >>= λ ms. Some (record { digest = s.digest; image = ms })) memories
