-- The memories of a description by their names, and those of an image among them.
use Rattle.std.proofs.Common.{◌≡◌, ◌≢◌, ◌≤◌, ℕ, Bool, true, false, cond, List, [], ◌∷◌, length, filter_map, Option, None, Some, refl, sym, ap, ◌∙◌, arith}
use Rattle.std.specs.Prelude.{find, nat_le, not, ◌&&◌, ◌==◌}
use Rattle.std.specs.List.{AllByRecursion, list_all, list_any}
use Rattle.std.specs.Option.{option_or, option_map}
use Rattle.std.specs.Str.{bytes_eq}
use Rattle.std.proofs.lemmas.Bool.{and_parts, and_from, eqb-true}
use Rattle.std.proofs.lemmas.Bool.Decides.{nat_tests}
use Rattle.lisa_words.specs.Bytes as words
use Rattle.lisa_tree.specs.Descriptions as trees
use Rattle.lisa_tree.specs.Descriptions.{ResourceTree, DescriptionTree}
use Rattle.spelled_promises.specs.Words.{IsName}
use Rattle.spelled_promises.specs.Trees.{IsWellFormedResource}
use Rattle.lisa_engine.specs.Memory.{Memory}
use Rattle.lisa_engine.specs.Images.{has_name, is_array, missing_memory}
use Rattle.lisa_engine.specs.declared.parts.ArrayItem.{ArrayItem}
use Rattle.machine_parts.specs.Parts.{array_in, arrays_of, memories_of}
use Rattle.asm_source.specs.Bytes.{is_letter, is_name_byte, is_name}
use Rattle.instruction_trees.specs.Trees.{In, here, there}
use Rattle.object_links.specs.Firsts.{first_of}
use Rattle.object_links.specs.LinkFaults.{width_if_named, named_width}
use Rattle.lisa_assembler.specs.Memories.{marked, memory_items, memory_named}
use Rattle.listing_promises.proofs.Named.{same_name, one_name, other_name, in_all, any_in, Apart}
use Rattle.listing_promises.proofs.SameMemories.{array_name, IsArrayOf}

-- ---- by their names

found_named : (arrays : List ArrayItem) → Apart array_name arrays → (a : ArrayItem) → In a arrays → find (λ (b : ArrayItem). bytes_eq b.name a.name) arrays ≡ Some a
found_named [] apart a i = elim i [ ]
found_named (b ∷ arrays) apart a (here) = ap (λ (t : Bool). cond t (Some a) (find (λ (c : ArrayItem). bytes_eq c.name a.name) arrays)) (same_name a.name)
found_named (b ∷ arrays) apart a (there i) =
    ap (λ (t : Bool). cond t (Some b) (find (λ (c : ArrayItem). bytes_eq c.name a.name) arrays)) (other_name b.name a.name (in_all (λ (c : ArrayItem). b.name ≢ c.name) arrays a apart.0 i))
    ∙ found_named arrays apart.1 a i

width_named : (arrays : List ArrayItem) → Apart array_name arrays → (a : ArrayItem) → In a arrays → named_width arrays a.name ≡ Some a.width
width_named [] apart a i = elim i [ ]
width_named (b ∷ arrays) apart a (here) = ap (λ (t : Bool). option_or (cond t (Some a.width) None) (first_of (width_if_named a.name) arrays)) (same_name a.name)
width_named (b ∷ arrays) apart a (there i) =
    ap (λ (t : Bool). option_or (cond t (Some b.width) None) (first_of (width_if_named a.name) arrays))
    (other_name a.name b.name (λ e. in_all (λ (c : ArrayItem). b.name ≢ c.name) arrays a apart.0 i (sym e)))
    ∙ width_named arrays apart.1 a i

module _ (d : DescriptionTree) (apart : Apart array_name (memory_items d)) (m : Memory) (a : ArrayItem) (is : IsArrayOf (memory_items d) m a) where
  pub memory_found : memory_named d m.name ≡ Some a
  memory_found = ap (memory_named d) (sym is.name) ∙ found_named (memory_items d) apart a is.inside

  pub width_found : named_width (memory_items d) m.name ≡ Some a.width
  width_found = ap (named_width (memory_items d)) (sym is.name) ∙ width_named (memory_items d) apart a is.inside

-- ---- the memories of an image

same_array : (memories : List ArrayItem) (m : Memory) (a : ArrayItem) → In a memories → is_array m a ≡ true → IsArrayOf memories m a
same_array memories m a i e =
    let both = and_parts (has_name a.name m && m.width == a.width) (m.depth == a.depth) e in
    let front = and_parts (has_name a.name m) (m.width == a.width) both.0 in
    record { inside = i; name = sym (one_name m.name a.name front.0); width = sym (eqb-true m.width a.width front.1); depth = sym (eqb-true m.depth a.depth both.1) }

none_mapped : {A B : Type 0} (f : A → B) (x : Option A) → option_map f x ≡ None → x ≡ None
none_mapped f None e = refl
none_mapped f (Some x) e = absurd (cc e)

all_there : (memories : List ArrayItem) (image : List Memory) → find (λ (m : Memory). not (list_any (is_array m) memories)) image ≡ None → AllByRecursion (λ (m : Memory). list_any (is_array m) memories ≡ true) image
all_there memories [] h = tt
all_there memories (m ∷ image) h = by (list_any (is_array m) memories) refl h (all_there memories image)
  where
    by : (b : Bool) → list_any (is_array m) memories ≡ b → cond (not b) (Some m) (find (λ (n : Memory). not (list_any (is_array n) memories)) image) ≡ None
        → (find (λ (n : Memory). not (list_any (is_array n) memories)) image ≡ None → AllByRecursion (λ (n : Memory). list_any (is_array n) memories ≡ true) image)
        → (list_any (is_array m) memories ≡ true) × AllByRecursion (λ (n : Memory). list_any (is_array n) memories ≡ true) image
    by true e g later = (e, later g)
    by false e g later = absurd (cc g)

pub array_of : (memories : List ArrayItem) (image : List Memory) → missing_memory memories image ≡ None → (m : Memory) → In m image → (a : ArrayItem) × IsArrayOf memories m a
array_of memories image none m i =
    let all = all_there memories image (none_mapped (λ (n : Memory). n.name) (find (λ (n : Memory). not (list_any (is_array n) memories)) image) none) in
    let one = any_in (is_array m) memories (in_all (λ (n : Memory). list_any (is_array n) memories ≡ true) image m all i) in
    (one.0, same_array memories m one.0 one.1 one.2)

-- ---- names

word_name : (c : ℕ) → words.is_word c ≡ true → is_name_byte c ≡ true
word_name c h = grind (arith, nat_tests)

all_name : (bs : List ℕ) → list_all words.is_word bs ≡ true → list_all is_name_byte bs ≡ true
all_name [] h = refl
all_name (b ∷ bs) h = let both = and_parts (words.is_word b) (list_all words.is_word bs) h in and_from (is_name_byte b) (list_all is_name_byte bs) (word_name b both.0) (all_name bs both.1)

letter_name : (c : ℕ) → words.is_letter c ≡ true → is_letter c ≡ true
letter_name c h = grind (arith, nat_tests)

few_bytes : (n : ℕ) → n ≤ 64 → nat_le n 64 ≡ true
few_bytes n h = grind (arith, nat_tests)

named : (n : List ℕ) → IsName n → is_name n ≡ true
named [] h = absurd (let least = h.least in omega (arith, least))
named (b ∷ bs) h =
    let rest = (and_parts (words.is_word b) (list_all words.is_word bs) h.each).1 in
    and_from (is_letter b && list_all is_name_byte bs) (nat_le (length (b ∷ bs)) 64) (and_from (is_letter b) (list_all is_name_byte bs) (letter_name b h.first) (all_name bs rest)) (few_bytes (length (b ∷ bs)) h.most)

abbrev AreNamed : List ArrayItem → Type 0
AreNamed arrays = AllByRecursion (λ (a : ArrayItem). is_name a.name ≡ true) arrays

arrays_named : (rs : List ResourceTree) → AllByRecursion IsWellFormedResource rs → AreNamed (filter_map array_in rs)
arrays_named [] all = tt
arrays_named (trees.Register word shape n None ∷ rs) all = arrays_named rs all.1
arrays_named (trees.Register word shape n (Some depth) ∷ rs) all = (named n all.0.1, arrays_named rs all.1)
arrays_named (trees.Clocked word shape n ∷ rs) all = arrays_named rs all.1
arrays_named (trees.Memory word shape n depth ∷ rs) all = (named n all.0.1, arrays_named rs all.1)
arrays_named (trees.Pin shape n ∷ rs) all = arrays_named rs all.1
arrays_named (trees.Pipeline n stages ∷ rs) all = arrays_named rs all.1
arrays_named (trees.Fields pipe fields ∷ rs) all = arrays_named rs all.1

marked_named : (arrays : List ArrayItem) (marks : List Bool) → AreNamed arrays → AreNamed (marked arrays marks)
marked_named [] marks all = tt
marked_named (a ∷ arrays) [] all = tt
marked_named (a ∷ arrays) (true ∷ marks) all = (all.0, marked_named arrays marks all.1)
marked_named (a ∷ arrays) (false ∷ marks) all = marked_named arrays marks all.1

pub memories_named : (d : DescriptionTree) → AllByRecursion IsWellFormedResource d.resources → AreNamed (memory_items d)
memories_named d all = marked_named (arrays_of d) (memories_of d) (arrays_named d.resources all)
