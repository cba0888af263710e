-- Declarations are read as they are spelled.
use Rattle.std.proofs.Common.{◌≡◌, ℕ, Bool, true, false, cond, not, List, [], ◌∷◌, ◌++◌, Option, Some, refl, sym, ap, subst, ◌∙◌, append_assoc, arith, inl, inr}
use Rattle.std.proofs.lemmas.List.{length-append, append-nil}
use Rattle.lisa_tree.specs.declared.tokens.Keyword.TheVariants as keywords
use Rattle.lisa_tree.specs.declared.tokens.Sign.TheVariants as signs
use Rattle.lisa_tree.specs.declared.tokens.TokenPart.TheVariants as parts
use Rattle.lisa_tree.specs.Descriptions as descriptions
use Rattle.lisa_tree.specs.Descriptions.{DeclareTree}
use Rattle.lisa_tree.specs.Grammar.{Toks, mark}
use Rattle.lisa_tree.specs.DescriptionGrammar as grammar
use Rattle.lisa_tree.specs.DescriptionGrammar.{word, names_by, SpellsInstance, SpellsInstances, SpellsDeclare}
use Rattle.lisa_words.specs.Many.{Each, none, some, next_of, many, with_front}
use Rattle.lisa_words.specs.Steps.{◌>>=◌}
use Rattle.lisa_words.proofs.StepLaws.{bind_some, some_is}
use Rattle.lisa_words.proofs.ManyLaws.{Shrinks, Takes, TakesAll, shrinks_from, many_sound, IsItem, many_is, many_complete}
use Rattle.lisa_behav_reader.specs.declared.misses.Missed.{Missed}
use Rattle.lisa_behav_reader.specs.declared.misses.Missed.TheVariants as misses
use Rattle.lisa_behav_reader.specs.Gives.{Fails}
use Rattle.lisa_behav_reader.specs.Past.{past_of}
use Rattle.lisa_behav_reader.specs.Reading.{name_of}
use Rattle.lisa_behav_reader.proofs.PastLaws.{past_is}
use Rattle.lisa_behav_reader.proofs.ExprSound.{name_front}
use Rattle.lisa_section_reader.specs.Lists.{follows, names_of}
use Rattle.lisa_section_reader.specs.Resources.{ends}
use Rattle.lisa_section_reader.specs.Declares.{meaning_of, instance_of, next_instance_of, has_comma, ends_instances, more_instances_of, instance_list_of, group_of, instances_of, labels_of, references_of, declare_of, declares_of}
use Rattle.lisa_section_reader.proofs.ListLaws.{names_sound, names_there, with_none}

abbrev Pair : Type 0
Pair = List ℕ × List ℕ

-- ---- instances

meaning_sound : (name : List ℕ) (ts : Toks) (x : Pair × Toks) → meaning_of name ts ≡ Some x → Takes SpellsInstance (parts.Named name ∷ ts) x
meaning_sound name (parts.Sign signs.Equal ∷ parts.Named operation ∷ ts) x e =
    subst (λ (y : Pair × Toks). Takes SpellsInstance (parts.Named name ∷ mark signs.Equal ∷ parts.Named operation ∷ ts) y) (some_is ((name, operation), ts) x e)
    (record { front = parts.Named name ∷ mark signs.Equal ∷ parts.Named operation ∷ []; parts = refl; some = omega arith; spells = inl refl })
meaning_sound name ts x e =
    subst (λ (y : Pair × Toks). Takes SpellsInstance (parts.Named name ∷ ts) y) (some_is ((name, name), ts) x e)
    (record { front = parts.Named name ∷ []; parts = refl; some = omega arith; spells = inr (refl, refl) })

instance_sound : (ts : Toks) (x : Pair × Toks) → instance_of ts ≡ Some x → Takes SpellsInstance ts x
unfolding instance_of
instance_sound ts x e =
    let p = bind_some (name_of ts) (λ name. meaning_of name.0 name.1) x e in
    subst (λ (l : Toks). Takes SpellsInstance l x) (sym (name_front ts p.0 p.1)) (meaning_sound p.0.0 p.0.1 x p.2)

-- a comma and an instance
abbrev IsNext : Toks → Pair → Type 0
IsNext ts a = (xs : Toks) × SpellsInstance xs a × (ts ≡ mark signs.Comma ∷ xs)

next_sound : (ts : Toks) (x : Pair × Toks) → next_instance_of ts ≡ Some x → Takes IsNext ts x
unfolding next_instance_of
next_sound ts x e =
    let p = bind_some (past_of signs.Comma ts) (λ a. instance_of a) x e in
    let t = instance_sound p.0 x p.2 in
    record {
      front = mark signs.Comma ∷ t.front;
      parts = past_is signs.Comma ts p.0 p.1 ∙ ap (λ (l : Toks). mark signs.Comma ∷ l) t.parts;
      some = omega arith;
      spells = (t.front, t.spells, refl);
    }

pub next_shrinks : Shrinks next_instance_of
next_shrinks = shrinks_from IsNext next_instance_of next_sound

-- no `=` follows
abbrev NoEqual : Toks → Type 0
NoEqual ts = (us : Toks) → ts ≡ mark signs.Equal ∷ us → ⊥

meaning_alone : (name : List ℕ) (ts : Toks) → NoEqual ts → meaning_of name ts ≡ Some ((name, name), ts)
meaning_alone name (parts.Sign signs.Equal ∷ ts) free = absurd (free ts refl)
meaning_alone name ts free = refl

instance_there : (xs rest : Toks) (a : Pair) → SpellsInstance xs a → NoEqual rest → instance_of (xs ++ rest) ≡ Some (a, rest)
unfolding instance_of
instance_there xs rest (name, operation) (inl is) free = ap (λ (l : Toks). instance_of (l ++ rest)) is
instance_there xs rest (name, operation) (inr (same, is)) free =
    ap (λ (l : Toks). instance_of (l ++ rest)) is ∙ meaning_alone name rest free ∙ ap (λ (w : List ℕ). Some ((name, w), rest)) same

next_there : (xs rest : Toks) (a : Pair) → IsNext xs a → NoEqual rest → next_instance_of (xs ++ rest) ≡ Some (a, rest)
unfolding next_instance_of
next_there xs rest a (ys, d, is) free = ap (λ (l : Toks). next_instance_of (l ++ rest)) is ∙ instance_there ys rest a d free

next_goes : (xs rest : Toks) (a : Pair) → IsNext xs a → ends_instances (xs ++ rest) ≡ false
next_goes xs rest a (ys, d, is) = ap (λ (l : Toks). ends_instances (l ++ rest)) is

comma_no_equal : (ts us : Toks) → mark signs.Comma ∷ ts ≡ mark signs.Equal ∷ us → ⊥
comma_no_equal ts us e = cc

-- what may stand behind an instance: a comma, or a semicolon
abbrev Behind : Toks → Type 0
Behind ts = NoEqual ts

next_before : (xs rest : Toks) (a : Pair) → IsNext xs a → NoEqual (xs ++ rest)
next_before xs rest a (ys, d, is) = λ us e. comma_no_equal (ys ++ rest) us (sym (ap (λ (l : Toks). l ++ rest) is) ∙ e)

-- instances as a first one and further ones
record Firsts (ts : Toks) (all : List Pair) : Type 0 where
  pub front : Toks
  pub behind : Toks
  pub first : Pair
  pub more : List Pair
  pub is : all ≡ first ∷ more
  pub whole : ts ≡ front ++ behind
  pub one : SpellsInstance front first
  pub rest : Each IsNext behind more

firsts : {ts : Toks} {all : List Pair} → SpellsInstances ts all → Firsts ts all
firsts (grammar.one {ts = ts} {a = a} d) = record { front = ts; behind = []; first = a; more = []; is = refl; whole = sym (append-nil ts); one = d; rest = none }
firsts (grammar.more {xs = xs} {ys = ys} {a = a} d e is) =
    let f = firsts e in
    record {
      front = xs;
      behind = mark signs.Comma ∷ ys;
      first = a;
      more = f.first ∷ f.more;
      is = ap (λ (l : List Pair). a ∷ l) f.is;
      whole = is;
      one = d;
      rest = some (f.front, f.one, refl) f.rest (ap (λ (l : Toks). mark signs.Comma ∷ l) f.whole);
    }

-- the other way round
gathered : {behind : Toks} {more : List Pair} → Each IsNext behind more → (front : Toks) (first : Pair) → SpellsInstance front first → SpellsInstances (front ++ behind) (first ∷ more)
gathered none front first d = subst (λ (l : Toks). SpellsInstances l (first ∷ [])) (sym (append-nil front)) (grammar.one d)
gathered (some {ys = ys} {a = a} (xs, e, same) f is) front first d =
    grammar.more d (gathered f xs a e) (ap (λ (l : Toks). front ++ l) (is ∙ ap (λ (l : Toks). l ++ ys) same))

pub list_sound : (ts : Toks) (x : List Pair × Toks) → instance_list_of ts ≡ Some x → Takes SpellsInstances ts x
unfolding instance_list_of more_instances_of
list_sound ts x e =
    let p = bind_some (instance_of ts) (λ first. more_instances_of first.1 >>= λ more. Some (first.0 ∷ more.0, more.1)) x e in
    let q = bind_some (more_instances_of p.0.1) (λ more. Some (p.0.0 ∷ more.0, more.1)) x p.2 in
    let t = instance_sound ts p.0 p.1 in
    let u = many_sound IsNext next_instance_of ends_instances next_sound p.0.1 q.0 q.1 in
    let made : List Pair × Toks = (p.0.0 ∷ q.0.0, q.0.1) in
    subst (λ (y : List Pair × Toks). Takes SpellsInstances ts y) (some_is made x q.2) (record {
      front = t.front ++ u.front;
      parts = t.parts ∙ ap (λ (l : Toks). t.front ++ l) u.parts ∙ sym (append_assoc t.front u.front q.0.1);
      some = omega (arith, length-append t.front u.front, t.some);
      spells = gathered u.spells t.front p.0.0 t.spells;
    })

each_before : {ts : Toks} {more : List Pair} → Each IsNext ts more → (rest : Toks) → NoEqual rest → NoEqual (ts ++ rest)
each_before none rest free = free
each_before (some {xs = xs} {ys = ys} {a = a} d f is) rest free = λ us e. next_before xs (ys ++ rest) a d us (sym (ap (λ (l : Toks). l ++ rest) is ∙ append_assoc xs ys rest) ∙ e)

more_there : {ts : Toks} {more : List Pair} → Each IsNext ts more → (rest : Toks) → has_comma rest ≡ false → NoEqual rest → many next_instance_of ends_instances (ts ++ rest) ≡ Some (more, rest)
more_there none rest comma free = many_is next_instance_of ends_instances next_shrinks rest ∙ ap (λ (b : Bool). cond b (Some ([], rest)) (next_of next_instance_of (many next_instance_of ends_instances) rest)) (ap not comma)
more_there (some {xs = xs} {ys = ys} {a = a} {all = all} d f is) rest comma free =
    let regrouped = ap (λ (l : Toks). l ++ rest) is ∙ append_assoc xs ys rest in
    ap (many next_instance_of ends_instances) regrouped ∙ many_is next_instance_of ends_instances next_shrinks (xs ++ (ys ++ rest))
    ∙ ap (λ (b : Bool). cond b (Some ([], xs ++ (ys ++ rest))) (next_of next_instance_of (many next_instance_of ends_instances) (xs ++ (ys ++ rest)))) (next_goes xs (ys ++ rest) a d)
    ∙ ap (λ (z : Option (Pair × Toks)). z >>= λ x. many next_instance_of ends_instances x.1 >>= λ more. Some (x.0 ∷ more.0, more.1)) (next_there xs (ys ++ rest) a d (each_before f rest free))
    ∙ ap (λ (z : Option (List Pair × Toks)). z >>= λ more. Some (a ∷ more.0, more.1)) (more_there f rest comma free)

list_there : {ts : Toks} {all : List Pair} → SpellsInstances ts all → (rest : Toks) → has_comma rest ≡ false → NoEqual rest → instance_list_of (ts ++ rest) ≡ Some (all, rest)
unfolding instance_list_of more_instances_of
list_there d rest comma free =
    let f = firsts d in
    ap (λ (l : Toks). instance_list_of (l ++ rest)) f.whole ∙ ap instance_list_of (append_assoc f.front f.behind rest)
    ∙ ap (λ (o : Option (Pair × Toks)). o >>= λ first. more_instances_of first.1 >>= λ more. Some (first.0 ∷ more.0, more.1)) (instance_there f.front (f.behind ++ rest) f.first f.one (each_before f.rest rest free))
    ∙ ap (λ (o : Option (List Pair × Toks)). o >>= λ more. Some (f.first ∷ more.0, more.1)) (more_there f.rest rest comma free)
    ∙ ap (λ (l : List Pair). Some (l, rest)) (sym f.is)

-- ---- declarations

group_sound : (ts : Toks) (x : DeclareTree × Toks) → group_of ts ≡ Some x → Takes SpellsDeclare (word keywords.Group ∷ ts) x
unfolding group_of
group_sound ts x e =
    let p1 = bind_some (names_of signs.Comma ts) _ x e in
    let p2 = bind_some (past_of signs.Equal p1.0.1) _ x p1.2 in
    let p3 = bind_some (past_of signs.OpenBrace p2.0) _ x p2.2 in
    let p4 = bind_some (names_of signs.OrOr p3.0) _ x p3.2 in
    let p5 = bind_some (past_of signs.CloseBrace p4.0.1) _ x p4.2 in
    let p6 = bind_some (past_of signs.Semicolon p5.0) _ x p5.2 in
    let t = names_sound signs.Comma ts p1.0 p1.1 in
    let u = names_sound signs.OrOr p3.0 p4.0 p4.1 in
    let tail : Toks = mark signs.CloseBrace ∷ mark signs.Semicolon ∷ [] in
    let inner : Toks = mark signs.Equal ∷ mark signs.OpenBrace ∷ (names_by signs.OrOr p4.0.0 ++ tail) in
    let closing : p4.0.1 ≡ tail ++ p6.0 = past_is signs.CloseBrace p4.0.1 p5.0 p5.1 ∙ ap (λ (l : Toks). mark signs.CloseBrace ∷ l) (past_is signs.Semicolon p5.0 p6.0 p6.1) in
    let behind : p1.0.1 ≡ inner ++ p6.0 =
    past_is signs.Equal p1.0.1 p2.0 p2.1 ∙ ap (λ (l : Toks). mark signs.Equal ∷ l) (past_is signs.OpenBrace p2.0 p3.0 p3.1 ∙ ap (λ (l : Toks). mark signs.OpenBrace ∷ l) (u.parts ∙ ap (λ (l : Toks). names_by signs.OrOr p4.0.0 ++ l) closing ∙ sym (append_assoc (names_by signs.OrOr p4.0.0) tail p6.0))) in
    let made : DeclareTree × Toks = (descriptions.Group p1.0.0 p4.0.0, p6.0) in
    subst (λ (y : DeclareTree × Toks). Takes SpellsDeclare (word keywords.Group ∷ ts) y) (some_is made x p6.2) (record {
      front = word keywords.Group ∷ (names_by signs.Comma p1.0.0 ++ inner);
      parts = ap (λ (l : Toks). word keywords.Group ∷ l) (t.parts ∙ ap (λ (l : Toks). names_by signs.Comma p1.0.0 ++ l) behind ∙ sym (append_assoc (names_by signs.Comma p1.0.0) inner p6.0));
      some = omega arith;
      spells = (t.some, u.some, refl);
    })

instances_sound : (ts : Toks) (x : DeclareTree × Toks) → instances_of ts ≡ Some x → Takes SpellsDeclare (word keywords.Instance ∷ ts) x
unfolding instances_of
instances_sound ts x e =
    let p = bind_some (instance_list_of ts) (λ all. past_of signs.Semicolon all.1 >>= λ rest. Some (descriptions.Instance all.0, rest)) x e in
    let q = bind_some (past_of signs.Semicolon p.0.1) (λ rest. Some (descriptions.Instance p.0.0, rest)) x p.2 in
    let t = list_sound ts p.0 p.1 in
    let made : DeclareTree × Toks = (descriptions.Instance p.0.0, q.0) in
    subst (λ (y : DeclareTree × Toks). Takes SpellsDeclare (word keywords.Instance ∷ ts) y) (some_is made x q.2) (record {
      front = word keywords.Instance ∷ (t.front ++ mark signs.Semicolon ∷ []);
      parts = ap (λ (l : Toks). word keywords.Instance ∷ l) (t.parts ∙ ap (λ (l : Toks). t.front ++ l) (past_is signs.Semicolon p.0.1 q.0 q.1) ∙ sym (append_assoc t.front (mark signs.Semicolon ∷ []) q.0));
      some = omega arith;
      spells = (t.front, t.spells, refl);
    })

labels_sound : (ts : Toks) (x : DeclareTree × Toks) → labels_of ts ≡ Some x → Takes SpellsDeclare (word keywords.Label ∷ ts) x
unfolding labels_of
labels_sound ts x e =
    let p = bind_some (names_of signs.Comma ts) (λ names. past_of signs.Semicolon names.1 >>= λ rest. Some (descriptions.Label names.0, rest)) x e in
    let q = bind_some (past_of signs.Semicolon p.0.1) (λ rest. Some (descriptions.Label p.0.0, rest)) x p.2 in
    let t = names_sound signs.Comma ts p.0 p.1 in
    let made : DeclareTree × Toks = (descriptions.Label p.0.0, q.0) in
    subst (λ (y : DeclareTree × Toks). Takes SpellsDeclare (word keywords.Label ∷ ts) y) (some_is made x q.2) (record {
      front = word keywords.Label ∷ (names_by signs.Comma p.0.0 ++ mark signs.Semicolon ∷ []);
      parts = ap (λ (l : Toks). word keywords.Label ∷ l) (t.parts ∙ ap (λ (l : Toks). names_by signs.Comma p.0.0 ++ l) (past_is signs.Semicolon p.0.1 q.0 q.1) ∙ sym (append_assoc (names_by signs.Comma p.0.0) (mark signs.Semicolon ∷ []) q.0));
      some = omega arith;
      spells = (t.some, refl);
    })

references_sound : (ts : Toks) (x : DeclareTree × Toks) → references_of ts ≡ Some x → Takes SpellsDeclare (word keywords.Reference ∷ ts) x
unfolding references_of
references_sound ts x e =
    let p = bind_some (names_of signs.Comma ts) (λ names. past_of signs.Semicolon names.1 >>= λ rest. Some (descriptions.Reference names.0, rest)) x e in
    let q = bind_some (past_of signs.Semicolon p.0.1) (λ rest. Some (descriptions.Reference p.0.0, rest)) x p.2 in
    let t = names_sound signs.Comma ts p.0 p.1 in
    let made : DeclareTree × Toks = (descriptions.Reference p.0.0, q.0) in
    subst (λ (y : DeclareTree × Toks). Takes SpellsDeclare (word keywords.Reference ∷ ts) y) (some_is made x q.2) (record {
      front = word keywords.Reference ∷ (names_by signs.Comma p.0.0 ++ mark signs.Semicolon ∷ []);
      parts = ap (λ (l : Toks). word keywords.Reference ∷ l) (t.parts ∙ ap (λ (l : Toks). names_by signs.Comma p.0.0 ++ l) (past_is signs.Semicolon p.0.1 q.0 q.1) ∙ sym (append_assoc (names_by signs.Comma p.0.0) (mark signs.Semicolon ∷ []) q.0));
      some = omega arith;
      spells = (t.some, refl);
    })

declare_sound : (ts : Toks) (x : DeclareTree × Toks) → declare_of ts ≡ Some x → Takes SpellsDeclare ts x
unfolding declare_of
declare_sound (parts.Reserved keywords.Group ∷ ts) x e = group_sound ts x e
declare_sound (parts.Reserved keywords.Instance ∷ ts) x e = instances_sound ts x e
declare_sound (parts.Reserved keywords.Label ∷ ts) x e = labels_sound ts x e
declare_sound (parts.Reserved keywords.Reference ∷ ts) x e = references_sound ts x e
declare_sound _ x e = absurd cc

pub declare_shrinks : Shrinks declare_of
declare_shrinks = shrinks_from SpellsDeclare declare_of declare_sound

semicolon_no_equal : (ts us : Toks) → mark signs.Semicolon ∷ ts ≡ mark signs.Equal ∷ us → ⊥
semicolon_no_equal ts us e = cc

-- a semicolon is no comma, whatever stands behind it
after_semicolon : (rest : Toks) → follows signs.Comma (mark signs.Semicolon ∷ rest) ≡ false
after_semicolon (parts.Named name ∷ rest) = refl
after_semicolon _ = refl

declare_there : (xs rest : Toks) (d : DeclareTree) → SpellsDeclare xs d → declare_of (xs ++ rest) ≡ Some (d, rest)
unfolding declare_of group_of instances_of labels_of references_of
declare_there xs rest (descriptions.Group names alternatives) (there, others, is) =
    let tail : Toks = mark signs.CloseBrace ∷ mark signs.Semicolon ∷ [] in
    let inner : Toks = mark signs.Equal ∷ mark signs.OpenBrace ∷ (names_by signs.OrOr alternatives ++ tail) in
    ap (λ (l : Toks). declare_of (l ++ rest)) is ∙ ap group_of (append_assoc (names_by signs.Comma names) inner rest)
    ∙ ap (λ (o : Option (List (List ℕ) × Toks)). o >>= λ names. past_of signs.Equal names.1 >>= λ a. past_of signs.OpenBrace a >>= λ b. names_of signs.OrOr b >>= λ alternatives. past_of signs.CloseBrace alternatives.1 >>= λ c. past_of signs.Semicolon c >>= λ rest. Some (descriptions.Group names.0 alternatives.0, rest)) (names_there signs.Comma names (inner ++ rest) there refl)
    ∙ ap (λ (l : Toks). names_of signs.OrOr l >>= λ alternatives. past_of signs.CloseBrace alternatives.1 >>= λ c. past_of signs.Semicolon c >>= λ rest. Some (descriptions.Group names alternatives.0, rest)) (append_assoc (names_by signs.OrOr alternatives) tail rest)
    ∙ ap (λ (o : Option (List (List ℕ) × Toks)). o >>= λ alternatives. past_of signs.CloseBrace alternatives.1 >>= λ c. past_of signs.Semicolon c >>= λ rest. Some (descriptions.Group names alternatives.0, rest)) (names_there signs.OrOr alternatives (tail ++ rest) others refl)
declare_there xs rest (descriptions.Instance names) (ys, d, is) =
    ap (λ (l : Toks). declare_of (l ++ rest)) is ∙ ap instances_of (append_assoc ys (mark signs.Semicolon ∷ []) rest)
    ∙ ap (λ (o : Option (List Pair × Toks)). o >>= λ all. past_of signs.Semicolon all.1 >>= λ rest. Some (descriptions.Instance all.0, rest)) (list_there d (mark signs.Semicolon ∷ rest) refl (λ us e. semicolon_no_equal rest us e))
declare_there xs rest (descriptions.Label names) (there, is) =
    ap (λ (l : Toks). declare_of (l ++ rest)) is ∙ ap labels_of (append_assoc (names_by signs.Comma names) (mark signs.Semicolon ∷ []) rest)
    ∙ ap (λ (o : Option (List (List ℕ) × Toks)). o >>= λ names. past_of signs.Semicolon names.1 >>= λ rest. Some (descriptions.Label names.0, rest)) (names_there signs.Comma names (mark signs.Semicolon ∷ rest) there (after_semicolon rest))
declare_there xs rest (descriptions.Reference names) (there, is) =
    ap (λ (l : Toks). declare_of (l ++ rest)) is ∙ ap references_of (append_assoc (names_by signs.Comma names) (mark signs.Semicolon ∷ []) rest)
    ∙ ap (λ (o : Option (List (List ℕ) × Toks)). o >>= λ names. past_of signs.Semicolon names.1 >>= λ rest. Some (descriptions.Reference names.0, rest)) (names_there signs.Comma names (mark signs.Semicolon ∷ rest) there (after_semicolon rest))

no_end : (xs rest : Toks) (d : DeclareTree) → SpellsDeclare xs d → ends (xs ++ rest) ≡ false
no_end xs rest (descriptions.Group names alternatives) (there, others, is) = ap (λ (l : Toks). ends (l ++ rest)) is
no_end xs rest (descriptions.Instance names) (ys, d, is) = ap (λ (l : Toks). ends (l ++ rest)) is
no_end xs rest (descriptions.Label names) (there, is) = ap (λ (l : Toks). ends (l ++ rest)) is
no_end xs rest (descriptions.Reference names) (there, is) = ap (λ (l : Toks). ends (l ++ rest)) is

declare_item : IsItem SpellsDeclare declare_of ends (λ _. Unit {0})
declare_item = record { shrinks = declare_shrinks; reads = λ xs rest d is _. declare_there xs rest d is; goes = no_end; before = λ xs rest d is. tt; at_stop = λ rest e. tt }

pub declares_start : (ts : Toks) → with_front [] (many declare_of ends ts) ≡ declares_of ts
unfolding declares_of
declares_start ts = with_none (many declare_of ends ts)

pub declares_sound : (ts : Toks) (x : List DeclareTree × Toks) → declares_of ts ≡ Some x → TakesAll SpellsDeclare ends ts x
unfolding declares_of
declares_sound ts x e = many_sound SpellsDeclare declare_of ends declare_sound ts x e

pub declares_there : {ts : Toks} {all : List DeclareTree} → Each SpellsDeclare ts all → (rest : Toks) → ends rest ≡ true → declares_of (ts ++ rest) ≡ Some (all, rest)
unfolding declares_of
declares_there d rest stops = many_complete declare_item d rest stops

-- ---- the loop over instances

pub list_start : (ts after : Toks) (first : Pair) → instance_of ts ≡ Some (first, after) → with_front (first ∷ []) (many next_instance_of ends_instances after) ≡ instance_list_of ts
unfolding instance_list_of more_instances_of
list_start ts after first e = sym (ap (λ (o : Option (Pair × Toks)). o >>= λ first. more_instances_of first.1 >>= λ more. Some (first.0 ∷ more.0, more.1)) e)

pub list_fail : (ts : Toks) (e : Missed) → Fails e (instance_of ts) → Fails e (instance_list_of ts)
unfolding instance_list_of
list_fail ts misses.NoMemory h = tt
list_fail ts (misses.At left) h = ap (λ (o : Option (Pair × Toks)). o >>= λ first. more_instances_of first.1 >>= λ more. Some (first.0 ∷ more.0, more.1)) h
