-- Codings are read as they are spelled.
use Rattle.std.proofs.Common.{◌≡◌, ◌≢◌, ℕ, ◌+◌, ◌≤◌, Bool, true, false, cond, eqb, leb, ◌&&◌, List, [], ◌∷◌, ◌++◌, length, Option, Some, None, refl, sym, ap, subst, ◌∙◌, append_assoc, arith, inl, inr}
use Rattle.std.proofs.lemmas.Bool.{eq-eqb, eqb-true, leb-true, le-leb, and_from}
use Rattle.std.proofs.lemmas.List.{length-append}
use Rattle.lisa_tree.specs.declared.tokens.Keyword.TheVariants as keywords
use Rattle.lisa_tree.specs.declared.tokens.Sign.TheVariants as signs
use Rattle.lisa_tree.specs.declared.tokens.TokenPart.TheVariants as parts
use Rattle.lisa_tree.specs.declared.descriptions.Pattern.{Pattern}
use Rattle.lisa_tree.specs.declared.descriptions.CodingItem.{CodingItem}
use Rattle.lisa_tree.specs.declared.descriptions.CodingItem.TheVariants as codings
use Rattle.lisa_tree.specs.Expressions as expressions
use Rattle.lisa_tree.specs.Expressions.{ExprTree}
use Rattle.lisa_tree.specs.Descriptions as descriptions
use Rattle.lisa_tree.specs.Descriptions.{CodingTree}
use Rattle.lisa_tree.specs.Grammar.{Toks, mark}
use Rattle.lisa_tree.specs.DescriptionGrammar.{word, SpellsBits, SpellsCodingItem, SpellsRootPlace, SpellsCoding}
use Rattle.lisa_words.specs.Many.{Each, none, some, many, with_front}
use Rattle.lisa_words.specs.Steps.{◌>>=◌}
use Rattle.lisa_words.proofs.StepLaws.{bind_some, guard_some, some_is}
use Rattle.lisa_words.proofs.ManyLaws.{Shrinks, Takes, shrinks_from, many_sound, IsItem, many_complete}
use Rattle.lisa_behav_reader.specs.declared.misses.Missed.{Missed}
use Rattle.lisa_behav_reader.specs.declared.misses.Missed.TheVariants as misses
use Rattle.lisa_behav_reader.specs.Gives.{Fails}
use Rattle.lisa_behav_reader.specs.Past.{past_of}
use Rattle.lisa_behav_reader.specs.Reading.{name_of}
use Rattle.lisa_behav_reader.proofs.PastLaws.{past_is}
use Rattle.lisa_behav_reader.proofs.ExprSound.{name_front}
use Rattle.lisa_section_reader.specs.Resources.{ends}
use Rattle.lisa_section_reader.specs.Codings.{count_of, whole_pattern, repeated_of, times_of, bits_of, field_of, element_of, elements_of, element_list_of, items_of, group_of, root_of, coding_of}
use Rattle.lisa_section_reader.proofs.EachLaws.{to_items, from_items}

-- ---- bits

and_parts : (a b : Bool) → (a && b) ≡ true → (a ≡ true) × (b ≡ true)
and_parts true true e = (refl, refl)
and_parts true false e = absurd cc
and_parts false b e = absurd cc

record IsRepeated (digits : List ℕ) (times : ℕ) (p : Pattern) : Type 0 where
  pub is : p ≡ whole_pattern digits (Some times)
  pub one : length digits ≡ 1
  pub low : 1 ≤ times
  pub high : times ≤ 65535

repeated_sound : (digits : List ℕ) (times : ℕ) (p : Pattern) → repeated_of digits times ≡ Some p → IsRepeated digits times p
repeated_sound digits times p e =
    let g = guard_some (eqb (length digits) 1) (count_of times >>= λ n. Some (whole_pattern digits (Some n))) p e in
    let b = bind_some (count_of times) (λ n. Some (whole_pattern digits (Some n))) p g.1 in
    let k = guard_some (leb 1 times && leb times 65535) (Some times) b.0 b.1 in
    let l = and_parts (leb 1 times) (leb times 65535) k.0 in
    let same : times ≡ b.0 = some_is times b.0 k.1 in
    record {
      is = sym (some_is (whole_pattern digits (Some b.0)) p b.2) ∙ ap (λ (n : ℕ). whole_pattern digits (Some n)) (sym same);
      one = eqb-true (length digits) 1 g.0;
      low = leb-true 1 times l.0;
      high = leb-true times 65535 l.1;
    }

repeated_there : (digits : List ℕ) (times : ℕ) → length digits ≡ 1 → 1 ≤ times → times ≤ 65535 → repeated_of digits times ≡ Some (whole_pattern digits (Some times))
repeated_there digits times one low high =
    ap (λ (b : Bool). cond b (count_of times >>= λ n. Some (whole_pattern digits (Some n))) None) (eq-eqb (length digits) 1 one)
    ∙ ap (λ (b : Bool). cond b (Some times) None >>= λ n. Some (whole_pattern digits (Some n))) (and_from (leb 1 times) (leb times 65535) (le-leb 1 times low) (le-leb times 65535 high))

times_sound : (digits : List ℕ) (ts : Toks) (x : Pattern × Toks) → times_of digits ts ≡ Some x → Takes SpellsBits (parts.Pattern digits ∷ ts) x
times_sound digits (parts.Sign signs.OpenSquare ∷ parts.Number times base ∷ parts.Sign signs.CloseSquare ∷ ts) x e =
    let p = bind_some (repeated_of digits times) (λ pattern. Some (pattern, ts)) x e in
    let r = repeated_sound digits times p.0 p.1 in
    let made : Pattern × Toks = (whole_pattern digits (Some times), ts) in
    let same : made ≡ x = ap (λ (q : Pattern). (q, ts)) (sym r.is) ∙ some_is (p.0, ts) x p.2 in
    let front : Toks = parts.Pattern digits ∷ mark signs.OpenSquare ∷ parts.Number times base ∷ mark signs.CloseSquare ∷ [] in
    subst (λ (y : Pattern × Toks). Takes SpellsBits (front ++ ts) y) same
    (record { front = front; parts = refl; some = omega arith; spells = inr (times, base, refl, r.one, r.low, r.high, refl) })
times_sound digits (parts.Sign signs.OpenSquare ∷ ts) x e = absurd cc
times_sound digits ts x e =
    subst (λ (y : Pattern × Toks). Takes SpellsBits (parts.Pattern digits ∷ ts) y) (some_is (whole_pattern digits None, ts) x e)
    (record { front = parts.Pattern digits ∷ []; parts = refl; some = omega arith; spells = inl (refl, refl) })

bits_sound : (ts : Toks) (x : Pattern × Toks) → bits_of ts ≡ Some x → Takes SpellsBits ts x
bits_sound (parts.Pattern digits ∷ ts) x e = times_sound digits ts x e
bits_sound _ x e = absurd cc

-- an element or a `}` stands in front
abbrev begins : Toks → Bool
begins (parts.Pattern digits ∷ ts) = true
begins (parts.Named name ∷ ts) = true
begins (parts.Sign signs.CloseBrace ∷ ts) = true
begins _ = false

times_none : (digits : List ℕ) (ts : Toks) → begins ts ≡ true → times_of digits ts ≡ Some (whole_pattern digits None, ts)
times_none digits (parts.Sign signs.OpenSquare ∷ ts) b = absurd cc
times_none digits ts b = refl

bits_there : (xs rest : Toks) (p : Pattern) → SpellsBits xs p → begins rest ≡ true → bits_of (xs ++ rest) ≡ Some (p, rest)
bits_there xs rest p (inl (is, absent)) b =
    ap (λ (l : Toks). bits_of (l ++ rest)) is ∙ times_none p.digits rest b ∙ ap (λ (o : Option ℕ). Some (whole_pattern p.digits o, rest)) (sym absent)
bits_there xs rest p (inr (times, base, is_times, one, low, high, is)) b =
    ap (λ (l : Toks). bits_of (l ++ rest)) is
    ∙ ap (λ (o : Option Pattern). o >>= λ pattern. Some (pattern, rest)) (repeated_there p.digits times one low high)
    ∙ ap (λ (o : Option ℕ). Some (whole_pattern p.digits o, rest)) (sym is_times)

-- ---- elements

abbrev Taken : Toks → CodingItem × Toks → Type 0
Taken ts x = Takes SpellsCodingItem ts x

field_sound : (name : List ℕ) (ts : Toks) (x : CodingItem × Toks) → field_of name ts ≡ Some x → Taken (parts.Named name ∷ ts) x
field_sound name (parts.Sign signs.Equal ∷ ts) x e =
    let p = bind_some (bits_of ts) (λ bits. Some (codings.Field name bits.0, bits.1)) x e in
    let t = bits_sound ts p.0 p.1 in
    let made : CodingItem × Toks = (codings.Field name p.0.0, p.0.1) in
    subst (λ (y : CodingItem × Toks). Taken (parts.Named name ∷ mark signs.Equal ∷ ts) y) (some_is made x p.2) (record {
      front = parts.Named name ∷ mark signs.Equal ∷ t.front;
      parts = ap (λ (l : Toks). parts.Named name ∷ mark signs.Equal ∷ l) t.parts;
      some = omega arith;
      spells = (t.front, t.spells, refl);
    })
field_sound name ts x e =
    subst (λ (y : CodingItem × Toks). Taken (parts.Named name ∷ ts) y) (some_is (codings.Child name, ts) x e)
    (record { front = parts.Named name ∷ []; parts = refl; some = omega arith; spells = refl })

plain_sound : (ts : Toks) (x : CodingItem × Toks) → (bits_of ts >>= λ bits. Some (codings.Bits bits.0, bits.1)) ≡ Some x → Taken ts x
plain_sound ts x e =
    let p = bind_some (bits_of ts) (λ bits. Some (codings.Bits bits.0, bits.1)) x e in
    let t = bits_sound ts p.0 p.1 in
    let made : CodingItem × Toks = (codings.Bits p.0.0, p.0.1) in
    subst (λ (y : CodingItem × Toks). Taken ts y) (some_is made x p.2) (record { front = t.front; parts = t.parts; some = t.some; spells = t.spells })

element_sound : (ts : Toks) (x : CodingItem × Toks) → element_of ts ≡ Some x → Taken ts x
unfolding element_of
element_sound (parts.Named name ∷ ts) x e = field_sound name ts x e
element_sound ts x e = plain_sound ts x e

pub element_shrinks : Shrinks element_of
element_shrinks = shrinks_from SpellsCodingItem element_of element_sound

field_none : (name : List ℕ) (ts : Toks) → begins ts ≡ true → field_of name ts ≡ Some (codings.Child name, ts)
field_none name (parts.Sign signs.Equal ∷ ts) b = absurd cc
field_none name ts b = refl

-- bits are no name
plain_there : (xs rest : Toks) (p : Pattern) → SpellsBits xs p → element_of (xs ++ rest) ≡ (bits_of (xs ++ rest) >>= λ bits. Some (codings.Bits bits.0, bits.1))
unfolding element_of
plain_there xs rest p (inl (is, absent)) = subst (λ (l : Toks). element_of (l ++ rest) ≡ (bits_of (l ++ rest) >>= λ bits. Some (codings.Bits bits.0, bits.1))) (sym is) refl
plain_there xs rest p (inr (times, base, is_times, one, low, high, is)) = subst (λ (l : Toks). element_of (l ++ rest) ≡ (bits_of (l ++ rest) >>= λ bits. Some (codings.Bits bits.0, bits.1))) (sym is) refl

element_there : (xs rest : Toks) (a : CodingItem) → SpellsCodingItem xs a → begins rest ≡ true → element_of (xs ++ rest) ≡ Some (a, rest)
unfolding element_of
element_there xs rest (codings.Bits p) d b =
    plain_there xs rest p d ∙ ap (λ (o : Option (Pattern × Toks)). o >>= λ bits. Some (codings.Bits bits.0, bits.1)) (bits_there xs rest p d b)
element_there xs rest (codings.Field name p) (ys, d, is) b =
    ap (λ (l : Toks). element_of (l ++ rest)) is ∙ ap (λ (o : Option (Pattern × Toks)). o >>= λ bits. Some (codings.Field name bits.0, bits.1)) (bits_there ys rest p d b)
element_there xs rest (codings.Child name) is b = ap (λ (l : Toks). element_of (l ++ rest)) is ∙ field_none name rest b

-- what is asked of an element's first token
first_is : (P : Toks → Bool) (b : Bool) → ((digits : List ℕ) (ts : Toks) → P (parts.Pattern digits ∷ ts) ≡ b) → ((name : List ℕ) (ts : Toks) → P (parts.Named name ∷ ts) ≡ b)
    → (xs rest : Toks) (a : CodingItem) → SpellsCodingItem xs a → P (xs ++ rest) ≡ b
first_is P b at_digits at_name xs rest (codings.Bits p) (inl (is, absent)) = ap (λ (l : Toks). P (l ++ rest)) is ∙ at_digits p.digits rest
first_is P b at_digits at_name xs rest (codings.Bits p) (inr (times, base, is_times, one, low, high, is)) = ap (λ (l : Toks). P (l ++ rest)) is ∙ at_digits p.digits _
first_is P b at_digits at_name xs rest (codings.Field name p) (ys, d, is) = ap (λ (l : Toks). P (l ++ rest)) is ∙ at_name name _
first_is P b at_digits at_name xs rest (codings.Child name) is = ap (λ (l : Toks). P (l ++ rest)) is ∙ at_name name rest

element_goes : (xs rest : Toks) (a : CodingItem) → SpellsCodingItem xs a → ends (xs ++ rest) ≡ false
element_goes = first_is ends false (λ digits ts. refl) (λ name ts. refl)

element_begins : (xs rest : Toks) (a : CodingItem) → SpellsCodingItem xs a → begins (xs ++ rest) ≡ true
element_begins = first_is begins true (λ digits ts. refl) (λ name ts. refl)

end_begins : (rest : Toks) → ends rest ≡ true → begins rest ≡ true
end_begins (parts.Sign signs.CloseBrace ∷ rest) e = refl
end_begins _ e = absurd cc

element_item : IsItem SpellsCodingItem element_of ends (λ ts. begins ts ≡ true)
element_item = record { shrinks = element_shrinks; reads = element_there; goes = element_goes; before = element_begins; at_stop = end_begins }

-- ---- codings

no_nil : (first : CodingItem) (more : List CodingItem) → ◌≡◌ {A = List CodingItem} (first ∷ more) [] → ⊥
no_nil first more e = cc

items_sound : (ts : Toks) (x : CodingTree × Toks) → items_of ts ≡ Some x → Takes SpellsCoding ts x
unfolding items_of element_list_of elements_of
items_sound ts x e =
    let l = bind_some (element_list_of ts) (λ all. Some (descriptions.Items all.0, all.1)) x e in
    let p = bind_some (element_of ts) (λ first. elements_of first.1 >>= λ more. Some (first.0 ∷ more.0, more.1)) l.0 l.1 in
    let q = bind_some (elements_of p.0.1) (λ more. Some (p.0.0 ∷ more.0, more.1)) l.0 p.2 in
    let t = element_sound ts p.0 p.1 in
    let u = many_sound SpellsCodingItem element_of ends element_sound p.0.1 q.0 q.1 in
    let all : List CodingItem × Toks = (p.0.0 ∷ q.0.0, q.0.1) in
    let made : CodingTree × Toks = (descriptions.Items (p.0.0 ∷ q.0.0), q.0.1) in
    let same : made ≡ x = ap (λ (y : List CodingItem × Toks). (descriptions.Items y.0, y.1)) (some_is all l.0 q.2) ∙ some_is (descriptions.Items l.0.0, l.0.1) x l.2 in
    subst (λ (y : CodingTree × Toks). Takes SpellsCoding ts y) same (record {
      front = t.front ++ u.front;
      parts = t.parts ∙ ap (λ (r : Toks). t.front ++ r) u.parts ∙ sym (append_assoc t.front u.front q.0.1);
      some = omega (arith, length-append t.front u.front, t.some);
      spells = (no_nil p.0.0 q.0.0, from_items (some t.spells u.spells refl));
    })

group_sound : (place : ExprTree) (front ts : Toks) (x : CodingTree × Toks) → SpellsRootPlace front place → group_of place ts ≡ Some x → Takes SpellsCoding (front ++ (mark signs.EqualEqual ∷ ts)) x
unfolding group_of
group_sound place front ts x d e =
    let p = bind_some (name_of ts) (λ group. Some (descriptions.Root place group.0, group.1)) x e in
    let tail : Toks = mark signs.EqualEqual ∷ parts.Named p.0.0 ∷ [] in
    let made : CodingTree × Toks = (descriptions.Root place p.0.0, p.0.1) in
    let long : length (front ++ tail) ≡ length front + 2 = length-append front tail in
    subst (λ (y : CodingTree × Toks). Takes SpellsCoding (front ++ (mark signs.EqualEqual ∷ ts)) y) (some_is made x p.2) (record {
      front = front ++ tail;
      parts = ap (λ (l : Toks). front ++ (mark signs.EqualEqual ∷ l)) (name_front ts p.0 p.1) ∙ sym (append_assoc front tail p.0.1);
      some = omega (arith, long);
      spells = (front, d, refl);
    })

root_sound : (place : ExprTree) (front ts : Toks) (x : CodingTree × Toks) → SpellsRootPlace front place → root_of place ts ≡ Some x → Takes SpellsCoding (front ++ ts) x
unfolding root_of
root_sound place front ts x d e =
    let p = bind_some (past_of signs.EqualEqual ts) (λ rest. group_of place rest) x e in
    subst (λ (l : Toks). Takes SpellsCoding (front ++ l) x) (sym (past_is signs.EqualEqual ts p.0 p.1)) (group_sound place front p.0 x d p.2)

pub coding_sound : (ts : Toks) (x : CodingTree × Toks) → coding_of ts ≡ Some x → Takes SpellsCoding ts x
unfolding coding_of
coding_sound (parts.Reserved keywords.In ∷ parts.Sign signs.Dot ∷ parts.Named field ∷ ts) x e = root_sound (expressions.Input field) (word keywords.In ∷ mark signs.Dot ∷ parts.Named field ∷ []) ts x refl e
coding_sound (parts.Named register ∷ parts.Sign signs.EqualEqual ∷ ts) x e = group_sound (expressions.Named register) (parts.Named register ∷ []) ts x refl e
coding_sound ts x e = items_sound ts x e

root_there : (xs rest : Toks) (place : ExprTree) (group : List ℕ) → SpellsRootPlace xs place → coding_of ((xs ++ (mark signs.EqualEqual ∷ parts.Named group ∷ [])) ++ rest) ≡ Some (descriptions.Root place group, rest)
unfolding coding_of root_of group_of
root_there xs rest (expressions.Input field) group is = ap (λ (l : Toks). coding_of ((l ++ (mark signs.EqualEqual ∷ parts.Named group ∷ [])) ++ rest)) is
root_there xs rest (expressions.Named name) group is = ap (λ (l : Toks). coding_of ((l ++ (mark signs.EqualEqual ∷ parts.Named group ∷ [])) ++ rest)) is
root_there xs rest _ group d = absurd d

-- a name with no `==` behind it begins no root
named_items : (name : List ℕ) (ts : Toks) → begins ts ≡ true → coding_of (parts.Named name ∷ ts) ≡ items_of (parts.Named name ∷ ts)
unfolding coding_of
named_items name (parts.Sign signs.EqualEqual ∷ ts) b = absurd cc
named_items name ts b = refl

first_items : (xs rest : Toks) (a : CodingItem) → SpellsCodingItem xs a → begins rest ≡ true → coding_of (xs ++ rest) ≡ items_of (xs ++ rest)
unfolding coding_of
first_items xs rest (codings.Bits p) (inl (is, absent)) b = subst (λ (l : Toks). coding_of (l ++ rest) ≡ items_of (l ++ rest)) (sym is) refl
first_items xs rest (codings.Bits p) (inr (times, base, is_times, one, low, high, is)) b = subst (λ (l : Toks). coding_of (l ++ rest) ≡ items_of (l ++ rest)) (sym is) refl
first_items xs rest (codings.Field name p) (ys, d, is) b = subst (λ (l : Toks). coding_of (l ++ rest) ≡ items_of (l ++ rest)) (sym is) refl
first_items xs rest (codings.Child name) is b = subst (λ (l : Toks). coding_of (l ++ rest) ≡ items_of (l ++ rest)) (sym is) (named_items name rest b)

-- what stands behind an element
each_begins : {ts : Toks} {all : List CodingItem} → Each SpellsCodingItem ts all → (rest : Toks) → ends rest ≡ true → begins (ts ++ rest) ≡ true
each_begins none rest e = end_begins rest e
each_begins (some {xs = xs} {ys = ys} {a = a} d f is) rest e = ap (λ (l : Toks). begins (l ++ rest)) is ∙ ap begins (append_assoc xs ys rest) ∙ element_begins xs (ys ++ rest) a d

abbrev as_items : Option (List CodingItem × Toks) → Option (CodingTree × Toks)
as_items o = o >>= λ all. Some (descriptions.Items all.0, all.1)

list_there : {ts : Toks} {all : List CodingItem} → all ≢ [] → Each SpellsCodingItem ts all → (rest : Toks) → ends rest ≡ true → coding_of (ts ++ rest) ≡ Some (descriptions.Items all, rest)
unfolding items_of element_list_of elements_of
list_there some_there none rest e = absurd (some_there refl)
list_there some_there (some {xs = xs} {ys = ys} {a = a} {all = all} d f is) rest e =
    let b = each_begins f rest e in
    ap (λ (l : Toks). coding_of (l ++ rest)) is ∙ ap coding_of (append_assoc xs ys rest) ∙ first_items xs (ys ++ rest) a d b
    ∙ ap (λ (o : Option (CodingItem × Toks)). as_items (o >>= λ first. elements_of first.1 >>= λ more. Some (first.0 ∷ more.0, more.1))) (element_there xs (ys ++ rest) a d b)
    ∙ ap (λ (o : Option (List CodingItem × Toks)). as_items (o >>= λ more. Some (a ∷ more.0, more.1))) (many_complete element_item f rest e)

pub coding_there : (ts rest : Toks) (c : CodingTree) → SpellsCoding ts c → ends rest ≡ true → coding_of (ts ++ rest) ≡ Some (c, rest)
coding_there ts rest (descriptions.Root place group) (xs, d, is) e = ap (λ (l : Toks). coding_of (l ++ rest)) is ∙ root_there xs rest place group d
coding_there ts rest (descriptions.Items all) (some_there, d) e = list_there some_there (to_items d) rest e

-- ---- the loop over elements

pub elements_start : (ts after : Toks) (first : CodingItem) → element_of ts ≡ Some (first, after) → with_front (first ∷ []) (many element_of ends after) ≡ element_list_of ts
unfolding element_list_of elements_of
elements_start ts after first e = sym (ap (λ (o : Option (CodingItem × Toks)). o >>= λ first. elements_of first.1 >>= λ more. Some (first.0 ∷ more.0, more.1)) e)

pub elements_fail : (ts : Toks) (e : Missed) → Fails e (element_of ts) → Fails e (element_list_of ts)
unfolding element_list_of
elements_fail ts misses.NoMemory h = tt
elements_fail ts (misses.At left) h = ap (λ (o : Option (CodingItem × Toks)). o >>= λ first. elements_of first.1 >>= λ more. Some (first.0 ∷ more.0, more.1)) h
