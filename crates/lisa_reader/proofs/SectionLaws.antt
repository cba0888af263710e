-- Sections one behind the other, of which those that are skipped leave nothing.
use Rattle.std.proofs.Common.{◌≡◌, ℕ, ◌≤◌, max, Bool, true, false, cond, List, [], ◌∷◌, ◌++◌, length, Option, Some, None, refl, sym, ap, subst, ◌∙◌, append_assoc, arith}
use Rattle.std.proofs.lemmas.List.{append-nil}
use Rattle.lisa_tree.specs.declared.tokens.TokenPart.{TokenPart}
use Rattle.lisa_tree.specs.Descriptions.{SectionTree, section_depth, sections_depth}
use Rattle.lisa_tree.specs.Grammar.{Toks}
use Rattle.lisa_tree.specs.DescriptionGrammar as grammar
use Rattle.lisa_tree.specs.DescriptionGrammar.{SpellsSections}
use Rattle.lisa_words.specs.Many.{Each, none, some, next_of, many, with_front}
use Rattle.lisa_words.specs.Steps.{◌>>=◌}
use Rattle.lisa_words.proofs.StepLaws.{bind_some, some_is}
use Rattle.lisa_words.proofs.ManyLaws.{many_is, many_sound, many_complete}
use Rattle.lisa_behav_reader.specs.declared.misses.Missed.{Missed}
use Rattle.lisa_behav_reader.specs.declared.misses.Missed.TheVariants as misses
use Rattle.lisa_behav_reader.specs.Gives.{Fails}
use Rattle.lisa_section_reader.specs.Resources.{ends}
use Rattle.lisa_reader.specs.Reading.{Part, part_of, before, kept, sections_of}
use Rattle.lisa_reader.proofs.PartLaws.{SpellsPart, part_sound, part_shrinks, part_item}

-- ---- parts and sections

parts_spell : {ts : Toks} {all : List Part} → Each SpellsPart ts all → SpellsSections ts (kept all)
parts_spell none = grammar.none
parts_spell (some {ys = ys} {a = None} (xs, d, e) f is) = grammar.semantics xs d (parts_spell f) (is ∙ ap (λ (l : Toks). l ++ ys) e)
parts_spell (some {xs = xs} {a = Some a} (d, le) f is) = grammar.some xs d (parts_spell f) is

parts_shallow : {ts : Toks} {all : List Part} → Each SpellsPart ts all → sections_depth (kept all) ≤ 128
parts_shallow none = omega arith
parts_shallow (some {a = None} h f is) = parts_shallow f
parts_shallow (some {a = Some a} (d, le) f is) = omega (arith, parts_shallow f)

-- parts that leave these sections
abbrev PartsOf : Toks → List SectionTree → Type 0
PartsOf ts all = (parts : List Part) × Each SpellsPart ts parts × (kept parts ≡ all)

parts_of : {ts : Toks} {all : List SectionTree} → SpellsSections ts all → sections_depth all ≤ 128 → PartsOf ts all
parts_of grammar.none le = ([], none, refl)
parts_of (grammar.semantics {ys = ys} xs d f is) le = let p = parts_of f le in (None ∷ p.0, some (xs, d, refl) p.1 is, p.2)
parts_of (grammar.some {ys = ys} {a = a} xs d f is) le = let p = parts_of f (omega arith) in (Some a ∷ p.0, some (d, omega arith) p.1 is, ap (λ (l : List SectionTree). a ∷ l) p.2)

pub record TakesSections (ts : Toks) (x : List SectionTree × Toks) : Type 0 where
  pub front : Toks
  pub parts : ts ≡ front ++ x.1
  pub spells : SpellsSections front x.0
  pub deep : sections_depth x.0 ≤ 128

pub sections_sound : (ts : Toks) (x : List SectionTree × Toks) → sections_of ts ≡ Some x → TakesSections ts x
unfolding sections_of
sections_sound ts x e =
    let b = bind_some (many part_of ends ts) (λ x. Some (kept x.0, x.1)) x e in
    let t = many_sound SpellsPart part_of ends part_sound ts b.0 b.1 in
    let made : List SectionTree × Toks = (kept b.0.0, b.0.1) in
    subst (λ (y : List SectionTree × Toks). TakesSections ts y) (some_is made x b.2) (record { front = t.front; parts = t.parts; spells = parts_spell t.spells; deep = parts_shallow t.spells })

pub sections_there : {ts : Toks} {all : List SectionTree} → SpellsSections ts all → sections_depth all ≤ 128 → (rest : Toks) → ends rest ≡ true → sections_of (ts ++ rest) ≡ Some (all, rest)
unfolding sections_of
sections_there d le rest stops =
    let p = parts_of d le in
    ap (λ (z : Option (List Part × Toks)). z >>= λ x. Some (kept x.0, x.1)) (many_complete part_item p.1 rest stops)
    ∙ ap (λ (l : List SectionTree). Some (l, rest)) p.2

-- ---- a loop

abbrev Read : Type 0
Read = Option (List Part × Toks)

abbrev Sections : Type 0
Sections = Option (List SectionTree × Toks)

abbrev behind : Part → Read → Read
behind a r = r >>= λ all. Some (a ∷ all.0, all.1)

abbrev of_parts : Read → Sections
of_parts r = r >>= λ x. Some (kept x.0, x.1)

abbrev in_front : Part → Sections → Sections
in_front a r = r >>= λ x. Some (before a x.0, x.1)

-- a part, and the sections behind it
regrouped : (a : Part) (r : Read) → of_parts (behind a r) ≡ in_front a (of_parts r)
regrouped a None = refl
regrouped a (Some x) = refl

joined : (front : List SectionTree) (a : Part) (r : Option (List SectionTree × Toks)) → with_front front (r >>= λ x. Some (before a x.0, x.1)) ≡ with_front (front ++ before a []) r
joined front a None = refl
joined front None (Some x) = ap (λ (l : List SectionTree). Some (l ++ x.0, x.1)) (sym (append-nil front))
joined front (Some a) (Some x) = ap (λ (l : List SectionTree). Some (l, x.1)) (sym (append_assoc front (a ∷ []) x.0))

next_is : (ts : Toks) → false ≡ ends ts → many part_of ends ts ≡ next_of part_of (many part_of ends) ts
next_is ts e = many_is part_of ends part_shrinks ts ∙ ap (λ (b : Bool). cond b (Some ([], ts)) (next_of part_of (many part_of ends) ts)) (sym e)

sections_next : (ts after : Toks) (a : Part) → false ≡ ends ts → part_of ts ≡ Some (a, after) → sections_of ts ≡ (sections_of after >>= λ x. Some (before a x.0, x.1))
unfolding sections_of
sections_next ts after a e h =
    ap (λ (z : Option (List Part × Toks)). z >>= λ x. Some (kept x.0, x.1)) (next_is ts e ∙ ap (λ (z : Option (Part × Toks)). z >>= λ x. many part_of ends x.1 >>= λ all. Some (x.0 ∷ all.0, all.1)) h)
    ∙ regrouped a (many part_of ends after)

sections_fail : (ts : Toks) → false ≡ ends ts → part_of ts ≡ None → sections_of ts ≡ None
unfolding sections_of
sections_fail ts e h =
    ap (λ (z : Option (List Part × Toks)). z >>= λ x. Some (kept x.0, x.1)) (next_is ts e ∙ ap (λ (z : Option (Part × Toks)). z >>= λ x. many part_of ends x.1 >>= λ all. Some (x.0 ∷ all.0, all.1)) h)

sections_end : (ts : Toks) → true ≡ ends ts → sections_of ts ≡ Some ([], ts)
unfolding sections_of
sections_end ts e =
    ap (λ (z : Option (List Part × Toks)). z >>= λ x. Some (kept x.0, x.1)) (many_is part_of ends part_shrinks ts ∙ ap (λ (b : Bool). cond b (Some ([], ts)) (next_of part_of (many part_of ends) ts)) (sym e))

module _ (front : List SectionTree) (ts : Toks) (total : Option (List SectionTree × Toks)) (so_far : with_front front (sections_of ts) ≡ total) where
  pub goes_on : (a : Part) (after : Toks) → false ≡ ends ts → part_of ts ≡ Some (a, after) → with_front (front ++ before a []) (sections_of after) ≡ total
  goes_on a after e h = sym (joined front a (sections_of after)) ∙ ap (with_front front) (sym (sections_next ts after a e h)) ∙ so_far

  pub fails_on : (e : Missed) → false ≡ ends ts → Fails e (part_of ts) → Fails e total
  fails_on misses.NoMemory e h = tt
  fails_on (misses.At left) e h = sym so_far ∙ ap (with_front front) (sections_fail ts e h)

  pub is_done : true ≡ ends ts → total ≡ Some (front, ts)
  is_done e = sym so_far ∙ ap (with_front front) (sections_end ts e) ∙ ap (λ (all : List SectionTree). Some (all, ts)) (append-nil front)
