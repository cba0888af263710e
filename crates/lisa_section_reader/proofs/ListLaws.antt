-- Lists of names and of fields.
use Rattle.std.proofs.Common.{◌≡◌, ◌≢◌, ℕ, Bool, true, false, cond, eqb, not, List, [], ◌∷◌, ◌++◌, Option, Some, None, refl, sym, ap, subst, ◌∙◌, arith, inl, inr}
use Rattle.std.proofs.lemmas.Bool.{eq-eqb, eqb-true}
use Rattle.lisa_tree.specs.declared.tokens.Shape.{Shape}
use Rattle.lisa_tree.specs.declared.tokens.Sign.{Sign}
use Rattle.lisa_tree.specs.declared.tokens.Sign.TheVariants as signs
use Rattle.lisa_tree.specs.declared.tokens.TokenPart.{TokenPart}
use Rattle.lisa_tree.specs.declared.tokens.TokenPart.TheVariants as parts
use Rattle.lisa_tree.specs.Grammar.{Toks, mark}
use Rattle.lisa_tree.specs.DescriptionGrammar.{names_by, field_tokens, IsOptional}
use Rattle.lisa_words.specs.Many.{Each, none, some, Item, many, with_front}
use Rattle.lisa_words.specs.Steps.{◌>>=◌}
use Rattle.lisa_words.proofs.StepLaws.{bind_some, some_is}
use Rattle.lisa_words.proofs.ManyLaws.{Shrinks, Takes, shrinks_from, many_sound, IsItem, many_complete, fails_on}
use Rattle.lisa_behav_reader.specs.declared.misses.Missed.{Missed}
use Rattle.lisa_behav_reader.specs.declared.misses.Missed.TheVariants as misses
use Rattle.lisa_behav_reader.specs.Gives.{Fails}
use Rattle.lisa_behav_reader.specs.Past.{past_of, number_of}
use Rattle.lisa_behav_reader.specs.Reading.{name_of}
use Rattle.lisa_behav_reader.proofs.PastLaws.{past_is, same_sign}
use Rattle.lisa_behav_reader.proofs.ExprSound.{name_front}
use Rattle.lisa_section_reader.specs.Lists.{follows, behind_of, ends_names, more_names_of, names_of, without, typed_of, field_of, is_typed, ends_fields, fields_of}

pub past_there : (s : Sign) (ts : Toks) → past_of s (mark s ∷ ts) ≡ Some ts
past_there s ts = rw (eq-eqb (number_of s) (number_of s) refl) refl

-- ---- names

abbrev pub IsBehind : Sign → Toks → List ℕ → Type 0
IsBehind sign ts name = ts ≡ mark sign ∷ parts.Named name ∷ []

behind_sound : (sign : Sign) (ts : Toks) (x : List ℕ × Toks) → behind_of sign ts ≡ Some x → Takes (IsBehind sign) ts x
unfolding behind_of
behind_sound sign ts x e =
    let p = bind_some (past_of sign ts) (λ a. name_of a) x e in
    record {
      front = mark sign ∷ parts.Named x.0 ∷ [];
      parts = past_is sign ts p.0 p.1 ∙ ap (λ (l : Toks). mark sign ∷ l) (name_front p.0 x p.2);
      some = omega arith;
      spells = refl;
    }

pub behind_shrinks : (sign : Sign) → Shrinks (behind_of sign)
behind_shrinks sign = shrinks_from (IsBehind sign) (behind_of sign) (behind_sound sign)

behind_there : (sign : Sign) (xs rest : Toks) (name : List ℕ) → IsBehind sign xs name → behind_of sign (xs ++ rest) ≡ Some (name, rest)
unfolding behind_of
behind_there sign xs rest name is = ap (λ (l : Toks). behind_of sign (l ++ rest)) is ∙ ap (λ (o : Option Toks). o >>= λ a. name_of a) (past_there sign (parts.Named name ∷ rest))

behind_goes : (sign : Sign) (xs rest : Toks) (name : List ℕ) → IsBehind sign xs name → ends_names sign (xs ++ rest) ≡ false
behind_goes sign xs rest name is = ap (λ (l : Toks). ends_names sign (l ++ rest)) is ∙ ap not (eq-eqb (number_of sign) (number_of sign) refl)

name_item : (sign : Sign) → IsItem (IsBehind sign) (behind_of sign) (ends_names sign) (λ _. Unit {0})
name_item sign = record { shrinks = behind_shrinks sign; reads = λ xs rest name is _. behind_there sign xs rest name is; goes = behind_goes sign; before = λ xs rest name is. tt; at_stop = λ rest e. tt }

-- names behind the first one
abbrev further : Sign → List (List ℕ) → Toks
further sign [] = []
further sign (name ∷ rest) = mark sign ∷ parts.Named name ∷ further sign rest

names_are : (sign : Sign) (first : List ℕ) (more : List (List ℕ)) → names_by sign (first ∷ more) ≡ parts.Named first ∷ further sign more
names_are sign first [] = refl
names_are sign first (next ∷ more) = ap (λ (l : Toks). parts.Named first ∷ mark sign ∷ l) (names_are sign next more)

further_each : (sign : Sign) (more : List (List ℕ)) → Each (IsBehind sign) (further sign more) more
further_each sign [] = none
further_each sign (name ∷ more) = some refl (further_each sign more) refl

each_further : (sign : Sign) {ts : Toks} {more : List (List ℕ)} → Each (IsBehind sign) ts more → ts ≡ further sign more
each_further sign none = refl
each_further sign (some {ys = ys} {a = name} d f is) = is ∙ ap (λ (l : Toks). l ++ ys) d ∙ ap (λ (l : Toks). mark sign ∷ parts.Named name ∷ l) (each_further sign f)

-- names were taken
pub record TakesNames (sign : Sign) (ts : Toks) (x : List (List ℕ) × Toks) : Type 0 where
  pub some : x.0 ≢ []
  pub parts : ts ≡ names_by sign x.0 ++ x.1

no_nil : (first : List ℕ) (more : List (List ℕ)) → ◌≡◌ {A = List (List ℕ)} (first ∷ more) [] → ⊥
no_nil first more e = cc

pub names_sound : (sign : Sign) (ts : Toks) (x : List (List ℕ) × Toks) → names_of sign ts ≡ Some x → TakesNames sign ts x
unfolding names_of more_names_of
names_sound sign ts x e =
    let p = bind_some (name_of ts) (λ first. more_names_of sign first.1 >>= λ more. Some (first.0 ∷ more.0, more.1)) x e in
    let q = bind_some (more_names_of sign p.0.1) (λ more. Some (p.0.0 ∷ more.0, more.1)) x p.2 in
    let t = many_sound (IsBehind sign) (behind_of sign) (ends_names sign) (behind_sound sign) p.0.1 q.0 q.1 in
    let made : List (List ℕ) × Toks = (p.0.0 ∷ q.0.0, q.0.1) in
    subst (λ (y : List (List ℕ) × Toks). TakesNames sign ts y) (some_is made x q.2) (record {
      some = no_nil p.0.0 q.0.0;
      parts = name_front ts p.0 p.1 ∙ ap (λ (l : Toks). parts.Named p.0.0 ∷ l) (t.parts ∙ ap (λ (l : Toks). l ++ q.0.1) (each_further sign t.spells)) ∙ ap (λ (l : Toks). l ++ q.0.1) (sym (names_are sign p.0.0 q.0.0));
    })

stops_there : (sign : Sign) (rest : Toks) → follows sign rest ≡ false → ends_names sign rest ≡ true
stops_there sign rest e = ap not e

pub names_there : (sign : Sign) (all : List (List ℕ)) (rest : Toks) → all ≢ [] → follows sign rest ≡ false → names_of sign (names_by sign all ++ rest) ≡ Some (all, rest)
unfolding names_of more_names_of
names_there sign [] rest there stops = absurd (there refl)
names_there sign (first ∷ more) rest there stops =
    ap (λ (l : Toks). names_of sign (l ++ rest)) (names_are sign first more)
    ∙ ap (λ (o : Option (List (List ℕ) × Toks)). o >>= λ x. Some (first ∷ x.0, x.1)) (many_complete (name_item sign) (further_each sign more) rest (stops_there sign rest stops))

-- ---- a sign that may be absent

-- the first token is this sign
abbrev pub is_front : Sign → Toks → Bool
is_front sign (parts.Sign first ∷ ts) = eqb (number_of first) (number_of sign)
is_front sign _ = false

pub without_is : (sign : Sign) (ts : Toks) → (xs : Toks) × IsOptional sign xs × (ts ≡ xs ++ without sign ts)
without_is sign (parts.Sign first ∷ ts) = go (eqb (number_of first) (number_of sign)) refl
  where
    go : (b : Bool) → eqb (number_of first) (number_of sign) ≡ b → (xs : Toks) × IsOptional sign xs × (mark first ∷ ts ≡ xs ++ cond b ts (mark first ∷ ts))
    go true is = (mark sign ∷ [], inr refl, ap (λ (u : Sign). mark u ∷ ts) (same_sign first sign (eqb-true _ _ is)))
    go false is = ([], inl refl, refl)
without_is sign ts = ([], inl refl, refl)

without_stays : (sign : Sign) (ts : Toks) → is_front sign ts ≡ false → without sign ts ≡ ts
without_stays sign (parts.Sign first ∷ ts) e = rw e refl
without_stays sign ts e = refl

pub without_there : (sign : Sign) (xs rest : Toks) → IsOptional sign xs → is_front sign rest ≡ false → without sign (xs ++ rest) ≡ rest
without_there sign xs rest (inl e) stops = ap (λ (l : Toks). without sign (l ++ rest)) e ∙ without_stays sign rest stops
without_there sign xs rest (inr e) stops = ap (λ (l : Toks). without sign (l ++ rest)) e ∙ rw (eq-eqb (number_of sign) (number_of sign) refl) refl

-- ---- fields

abbrev pub IsField : Toks → Shape × List ℕ → Type 0
IsField ts (shape, name) = ts ≡ parts.TypeWord shape ∷ parts.Named name ∷ mark signs.Semicolon ∷ []

pub typed_front : (ts : Toks) (x : (Shape × List ℕ) × Toks) → typed_of ts ≡ Some x → ts ≡ parts.TypeWord x.0.0 ∷ parts.Named x.0.1 ∷ x.1
typed_front (parts.TypeWord shape ∷ parts.Named name ∷ ts) x e = ap (λ (y : (Shape × List ℕ) × Toks). parts.TypeWord y.0.0 ∷ parts.Named y.0.1 ∷ y.1) (some_is ((shape, name), ts) x e)
typed_front _ x e = absurd cc

field_sound : (ts : Toks) (x : (Shape × List ℕ) × Toks) → field_of ts ≡ Some x → Takes IsField ts x
unfolding field_of
field_sound ts x e =
    let p = bind_some (typed_of ts) (λ t. past_of signs.Semicolon t.1 >>= λ rest. Some (t.0, rest)) x e in
    let q = bind_some (past_of signs.Semicolon p.0.1) (λ rest. Some (p.0.0, rest)) x p.2 in
    let made : (Shape × List ℕ) × Toks = (p.0.0, q.0) in
    subst (λ (y : (Shape × List ℕ) × Toks). Takes IsField ts y) (some_is made x q.2) (record {
      front = parts.TypeWord p.0.0.0 ∷ parts.Named p.0.0.1 ∷ mark signs.Semicolon ∷ [];
      parts = typed_front ts p.0 p.1 ∙ ap (λ (l : Toks). parts.TypeWord p.0.0.0 ∷ parts.Named p.0.0.1 ∷ l) (past_is signs.Semicolon p.0.1 q.0 q.1);
      some = omega arith;
      spells = refl;
    })

pub field_shrinks : Shrinks field_of
field_shrinks = shrinks_from IsField field_of field_sound

field_there : (xs rest : Toks) (field : Shape × List ℕ) → IsField xs field → field_of (xs ++ rest) ≡ Some (field, rest)
unfolding field_of
field_there xs rest (shape, name) is = ap (λ (l : Toks). field_of (l ++ rest)) is

field_goes : (xs rest : Toks) (field : Shape × List ℕ) → IsField xs field → ends_fields (xs ++ rest) ≡ false
field_goes xs rest (shape, name) is = ap (λ (l : Toks). ends_fields (l ++ rest)) is

field_item : IsItem IsField field_of ends_fields (λ _. Unit {0})
field_item = record { shrinks = field_shrinks; reads = λ xs rest field is _. field_there xs rest field is; goes = field_goes; before = λ xs rest field is. tt; at_stop = λ rest e. tt }

fields_each : (all : List (Shape × List ℕ)) → Each IsField (field_tokens all) all
fields_each [] = none
fields_each ((shape, name) ∷ all) = some refl (fields_each all) refl

each_fields : {ts : Toks} {all : List (Shape × List ℕ)} → Each IsField ts all → ts ≡ field_tokens all
each_fields none = refl
each_fields (some {ys = ys} {a = (shape, name)} d f is) = is ∙ ap (λ (l : Toks). l ++ ys) d ∙ ap (λ (l : Toks). parts.TypeWord shape ∷ parts.Named name ∷ mark signs.Semicolon ∷ l) (each_fields f)

pub fields_sound : (ts : Toks) (x : List (Shape × List ℕ) × Toks) → fields_of ts ≡ Some x → ts ≡ field_tokens x.0 ++ x.1
unfolding fields_of
fields_sound ts x e =
    let t = many_sound IsField field_of ends_fields field_sound ts x e in
    t.parts ∙ ap (λ (l : Toks). l ++ x.1) (each_fields t.spells)

pub fields_there : (all : List (Shape × List ℕ)) (rest : Toks) → is_typed rest ≡ false → fields_of (field_tokens all ++ rest) ≡ Some (all, rest)
unfolding fields_of
fields_there all rest stops = many_complete field_item (fields_each all) rest (ap not stops)

-- ---- loops

pub fails_within : {A : Type 0} (read : Item TokenPart A) (stops : Toks → Bool) → Shrinks read → (front : List A) (ts : Toks) (total : Option (List A × Toks)) → with_front front (many read stops ts) ≡ total → (e : Missed) → false ≡ stops ts → Fails e (read ts) → Fails e total
fails_within read stops shrinks front ts total so_far misses.NoMemory goes h = tt
fails_within read stops shrinks front ts total so_far (misses.At left) goes h = fails_on read stops shrinks front ts total so_far goes h

-- nothing before is the whole
pub with_none : {A : Type 0} (r : Option (List A × Toks)) → with_front [] r ≡ r
with_none (Some x) = refl
with_none None = refl

pub fields_start : (ts : Toks) → with_front [] (many field_of ends_fields ts) ≡ fields_of ts
unfolding fields_of
fields_start ts = with_none (many field_of ends_fields ts)

pub names_start : (sign : Sign) (ts after : Toks) (first : List ℕ) → name_of ts ≡ Some (first, after) → with_front (first ∷ []) (many (behind_of sign) (ends_names sign) after) ≡ names_of sign ts
unfolding names_of more_names_of
names_start sign ts after first e = sym (ap (λ (o : Option (List ℕ × Toks)). o >>= λ first. more_names_of sign first.1 >>= λ more. Some (first.0 ∷ more.0, more.1)) e)

pub names_fail : (sign : Sign) (ts : Toks) (e : Missed) → Fails e (name_of ts) → Fails e (names_of sign ts)
unfolding names_of
names_fail sign ts misses.NoMemory h = tt
names_fail sign ts (misses.At left) h = ap (λ (o : Option (List ℕ × Toks)). o >>= λ first. more_names_of sign first.1 >>= λ more. Some (first.0 ∷ more.0, more.1)) h
