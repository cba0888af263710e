-- Ranges, inputs and first values.
use Rattle.std.proofs.Common.{◌≡◌, ℕ, zero, suc, ◌+◌, ◌^◌, ◌<◌, ◌≤◌, Bool, true, false, cond, eqb, ltb, ◌&&◌, nat_lt, not, List, [], ◌∷◌, ◌++◌, length, map, Option, Some, None, refl, sym, ap, subst, ◌∙◌, append_assoc, arith, inl, inr}
use Rattle.std.proofs.lemmas.Bool.{eqb-true, ltb-true, lt-ltb, and_parts}
use Rattle.std.proofs.lemmas.List.{length-append}
use Rattle.verilog_text.specs.declared.tokens.VKeyword.TheVariants as words
use Rattle.verilog_text.specs.declared.tokens.VSign.TheVariants as signs
use Rattle.verilog_text.specs.Tokens as tokens
use Rattle.verilog_text.specs.Tokens.{VTok}
use Rattle.verilog_text.specs.Grammar.{IsOptionalWire}
use Rattle.verilog_text.specs.Trees.{SettingTree}
use Rattle.verilog_places.specs.declared.modules.PlacedInput.{PlacedInput}
use Rattle.verilog_places.specs.Spelling as grammar
use Rattle.verilog_places.specs.Spelling.{PlacedToks, parts_of, SpellsPlacedRange, SpellsPlacedInputs, SpellsPlacedSettings}
use Rattle.lisa_words.specs.Many.{Each, none, some, Item as Read, many, with_front}
use Rattle.lisa_words.specs.Steps.{◌>>=◌}
use Rattle.lisa_words.proofs.StepLaws.{bind_some, guard_some, some_is}
use Rattle.lisa_words.proofs.ManyLaws.{Shrinks, Takes, TakesAll, shrinks_from, many_sound, IsItem, many_complete, fails_on}
use Rattle.verilog_expression_reader.specs.declared.misses.Missed.{Missed}
use Rattle.verilog_expression_reader.specs.declared.misses.Missed.TheVariants as misses
use Rattle.verilog_expression_reader.specs.Gives.{Fails}
use Rattle.verilog_action_reader.specs.Reading.{name_of}
use Rattle.verilog_module_reader.specs.Parts.{is_zero_to, range_of, without_wire, item, input, behind_input, input_of, has_comma, ends_inputs, inputs_of, setting_of, at_end, settings_of}
use Rattle.verilog_module_reader.specs.Answers.{PlainsFit}

-- ---- loops

pub fails_within : {A : Type 0} (read : Read (ℕ × VTok) A) (stops : PlacedToks → Bool) → Shrinks read → (front : List A) (ts : PlacedToks) (total : Option (List A × PlacedToks)) → with_front front (many read stops ts) ≡ total → (e : Missed) → false ≡ stops ts → Fails e (read ts) → Fails e total
fails_within read stops shrinks front ts total so_far misses.NoMemory goes h = tt
fails_within read stops shrinks front ts total so_far (misses.At left) goes h = fails_on read stops shrinks front ts total so_far goes h

-- nothing before is the whole
pub with_none : {A : Type 0} (r : Option (List A × PlacedToks)) → with_front [] r ≡ r
with_none (Some x) = refl
with_none None = refl

-- ---- numbers that fit

pub fits_front : (xs ys : PlacedToks) → PlainsFit (xs ++ ys) → PlainsFit xs
fits_front [] ys f = tt
fits_front ((at, tokens.Plain value digits) ∷ xs) ys f = (f.0, fits_front xs ys f.1)
fits_front ((at, tokens.Named name) ∷ xs) ys f = fits_front xs ys f
fits_front ((at, tokens.Reserved keyword) ∷ xs) ys f = fits_front xs ys f
fits_front ((at, tokens.Sized width value) ∷ xs) ys f = fits_front xs ys f
fits_front ((at, tokens.Mark sign) ∷ xs) ys f = fits_front xs ys f

pub fits_behind : (xs ys : PlacedToks) → PlainsFit (xs ++ ys) → PlainsFit ys
fits_behind [] ys f = f
fits_behind ((at, tokens.Plain value digits) ∷ xs) ys f = fits_behind xs ys f.1
fits_behind ((at, tokens.Named name) ∷ xs) ys f = fits_behind xs ys f
fits_behind ((at, tokens.Reserved keyword) ∷ xs) ys f = fits_behind xs ys f
fits_behind ((at, tokens.Sized width value) ∷ xs) ys f = fits_behind xs ys f
fits_behind ((at, tokens.Mark sign) ∷ xs) ys f = fits_behind xs ys f

pub one_more : (n : ℕ) → n + 1 ≡ suc n
one_more n = omega arith

pub fits_zero : (n : ℕ) → n < 2 ^ 31 → is_zero_to 0 1 n ≡ true
fits_zero n lt = lt-ltb n 4294967295 (omega (arith, lt))

pub record IsZeroTo (low digits high : ℕ) : Type 0 where
  pub no_low : low ≡ 0
  pub one_digit : digits ≡ 1

pub zero_to : (low digits high : ℕ) → is_zero_to low digits high ≡ true → IsZeroTo low digits high
zero_to low digits high e =
    let p = and_parts (eqb low 0 && eqb digits 1) (ltb high 4294967295) e in
    let q = and_parts (eqb low 0) (eqb digits 1) p.0 in
    record { no_low = eqb-true low 0 q.0; one_digit = eqb-true digits 1 q.1 }

-- ---- names

pub record FrontName (ts : PlacedToks) (x : List ℕ × PlacedToks) : Type 0 where
  pub at : ℕ
  pub is : ts ≡ (at, tokens.Named x.0) ∷ x.1

pub name_front : (ts : PlacedToks) (x : List ℕ × PlacedToks) → name_of ts ≡ Some x → FrontName ts x
name_front ((at, tokens.Named name) ∷ ts) x e = record { at = at; is = ap (λ (y : List ℕ × PlacedToks). (at, tokens.Named y.0) ∷ y.1) (some_is (name, ts) x e) }
name_front _ x e = absurd cc

-- ---- ranges

pub record TakesRange (ts : PlacedToks) (x : (ℕ × ℕ) × PlacedToks) : Type 0 where
  pub front : PlacedToks
  pub parts : ts ≡ front ++ x.1
  pub spells : SpellsPlacedRange front x.0.0 x.0.1

present_range : (p q r s at high digits low more : ℕ) → IsZeroTo low more high → SpellsPlacedRange ((at, tokens.Mark signs.OpenSquare) ∷ (p, tokens.Plain high digits) ∷ (q, tokens.Mark signs.Colon) ∷ (r, tokens.Plain low more) ∷ (s, tokens.Mark signs.CloseSquare) ∷ []) at (high + 1)
present_range p q r s at high digits low more z = rw (z.no_low, z.one_digit, one_more high) (grammar.present p q r s refl)

pub range_sound : (ts : PlacedToks) (x : (ℕ × ℕ) × PlacedToks) → range_of ts ≡ Some x → TakesRange ts x
range_sound ((at, tokens.Mark signs.OpenSquare) ∷ (p, tokens.Plain high digits) ∷ (q, tokens.Mark signs.Colon) ∷ (r, tokens.Plain low more) ∷ (s, tokens.Mark signs.CloseSquare) ∷ ts) x e =
    let g = guard_some (is_zero_to low more high) (Some ((at, high + 1), ts)) x e in
    subst (λ (y : (ℕ × ℕ) × PlacedToks). TakesRange ((at, tokens.Mark signs.OpenSquare) ∷ (p, tokens.Plain high digits) ∷ (q, tokens.Mark signs.Colon) ∷ (r, tokens.Plain low more) ∷ (s, tokens.Mark signs.CloseSquare) ∷ ts) y) (some_is ((at, high + 1), ts) x g.1) (record {
      front = (at, tokens.Mark signs.OpenSquare) ∷ (p, tokens.Plain high digits) ∷ (q, tokens.Mark signs.Colon) ∷ (r, tokens.Plain low more) ∷ (s, tokens.Mark signs.CloseSquare) ∷ [];
      parts = refl;
      spells = present_range p q r s at high digits low more (zero_to low more high g.0);
    })
range_sound ((at, tokens.Mark signs.OpenSquare) ∷ ts) x e = absurd cc
range_sound ts x e = subst (λ (y : (ℕ × ℕ) × PlacedToks). TakesRange ts y) (some_is ((0, 1), ts) x e) (record { front = []; parts = refl; spells = grammar.absent refl })

pub range_there : {xs : PlacedToks} {range width : ℕ} → SpellsPlacedRange xs range width → PlainsFit xs → (r : ℕ) (name : List ℕ) (rest : PlacedToks) → range_of (xs ++ ((r, tokens.Named name) ∷ rest)) ≡ Some ((range, width), (r, tokens.Named name) ∷ rest)
range_there (grammar.absent is) fit r name rest = ap (λ (l : PlacedToks). range_of (l ++ ((r, tokens.Named name) ∷ rest))) is
range_there (grammar.present p q r s {at = at} {high = high} {digits = digits} is) fit t name rest =
    let there = subst PlainsFit is fit in
    ap (λ (l : PlacedToks). range_of (l ++ ((t, tokens.Named name) ∷ rest))) is
    ∙ ap (λ (b : Bool). cond b (Some ((at, high + 1), (t, tokens.Named name) ∷ rest)) None) (fits_zero high there.0)
    ∙ ap (λ (w : ℕ). Some ((at, w), (t, tokens.Named name) ∷ rest)) (one_more high)

-- ---- `wire`, which may be absent

pub record SplitWire (ts : PlacedToks) : Type 0 where
  pub wire : PlacedToks
  pub is_wire : IsOptionalWire (parts_of wire)
  pub parts : ts ≡ wire ++ without_wire ts

pub without_is : (ts : PlacedToks) → SplitWire ts
without_is ((at, tokens.Reserved words.Wire) ∷ ts) = record { wire = (at, tokens.Reserved words.Wire) ∷ []; is_wire = inr refl; parts = refl }
without_is ts = record { wire = []; is_wire = inl refl; parts = refl }

-- no `wire` stands in front
abbrev pub no_wire : PlacedToks → Bool
no_wire ((at, tokens.Reserved words.Wire) ∷ ts) = false
no_wire _ = true

without_stays : (ts : PlacedToks) → no_wire ts ≡ true → without_wire ts ≡ ts
without_stays ((at, tokens.Reserved words.Wire) ∷ ts) e = absurd cc
without_stays ts e = refl

one_wire : (wire rest : PlacedToks) → parts_of wire ≡ tokens.Reserved words.Wire ∷ [] → without_wire (wire ++ rest) ≡ rest
one_wire [] rest e = absurd cc
one_wire ((at, t) ∷ []) rest e = ap (λ (u : VTok). without_wire ((at, u) ∷ rest)) (same t e)
  where
    same : (t : VTok) → ◌≡◌ {A = List VTok} (t ∷ []) (tokens.Reserved words.Wire ∷ []) → t ≡ tokens.Reserved words.Wire
    same t e = cc
one_wire (t ∷ u ∷ wire) rest e = absurd cc

no_parts : (wire : PlacedToks) → parts_of wire ≡ [] → wire ≡ []
no_parts [] e = refl
no_parts (t ∷ wire) e = absurd cc

pub without_there : (wire rest : PlacedToks) → IsOptionalWire (parts_of wire) → no_wire rest ≡ true → without_wire (wire ++ rest) ≡ rest
without_there wire rest (inl e) free = ap (λ (l : PlacedToks). without_wire (l ++ rest)) (no_parts wire e) ∙ without_stays rest free
without_there wire rest (inr e) free = one_wire wire rest e

-- a range or a name is no `wire`
range_no_wire : {xs : PlacedToks} {range width : ℕ} → SpellsPlacedRange xs range width → (r : ℕ) (name : List ℕ) (rest : PlacedToks) → no_wire (xs ++ ((r, tokens.Named name) ∷ rest)) ≡ true
range_no_wire (grammar.absent is) r name rest = ap (λ (l : PlacedToks). no_wire (l ++ ((r, tokens.Named name) ∷ rest))) is
range_no_wire (grammar.present p q u s is) r name rest = ap (λ (l : PlacedToks). no_wire (l ++ ((r, tokens.Named name) ∷ rest))) is

-- ---- inputs

-- one input, with the comma in front of it
pub data IsInput : PlacedToks → PlacedInput → Type 0 where
  one : (p q r : ℕ) (wire : PlacedToks) {ts xs : PlacedToks} {a : PlacedInput} → IsOptionalWire (parts_of wire) → SpellsPlacedRange xs a.range a.item.width
      → ts ≡ (p, tokens.Mark signs.Comma) ∷ (q, tokens.Reserved words.Input) ∷ (wire ++ (xs ++ ((r, tokens.Named a.item.name) ∷ []))) → IsInput ts a

abbrev pub IsFitInput : PlacedToks → PlacedInput → Type 0
IsFitInput ts a = IsInput ts a × PlainsFit ts

behind_sound : (p q : ℕ) (ts : PlacedToks) (x : PlacedInput × PlacedToks) → behind_input ts ≡ Some x → Takes IsInput ((p, tokens.Mark signs.Comma) ∷ (q, tokens.Reserved words.Input) ∷ ts) x
unfolding behind_input
behind_sound p q ts x e =
    let b = bind_some (range_of (without_wire ts)) (λ range. name_of range.1 >>= λ name. Some (input range.0 name.0, name.1)) x e in
    let c = bind_some (name_of b.0.1) (λ name. Some (input b.0.0 name.0, name.1)) x b.2 in
    let w = without_is ts in
    let r = range_sound (without_wire ts) b.0 b.1 in
    let n = name_front b.0.1 c.0 c.1 in
    let made : PlacedInput × PlacedToks = (input b.0.0 c.0.0, c.0.1) in
    let last : PlacedToks = (n.at, tokens.Named c.0.0) ∷ [] in
    subst (λ (y : PlacedInput × PlacedToks). Takes IsInput ((p, tokens.Mark signs.Comma) ∷ (q, tokens.Reserved words.Input) ∷ ts) y) (some_is made x c.2) (record {
      front = (p, tokens.Mark signs.Comma) ∷ (q, tokens.Reserved words.Input) ∷ (w.wire ++ (r.front ++ last));
      parts = ap (λ (l : PlacedToks). (p, tokens.Mark signs.Comma) ∷ (q, tokens.Reserved words.Input) ∷ l)
          (w.parts ∙ ap (λ (l : PlacedToks). w.wire ++ l) (r.parts ∙ ap (λ (l : PlacedToks). r.front ++ l) n.is ∙ sym (append_assoc r.front last c.0.1)) ∙ sym (append_assoc w.wire (r.front ++ last) c.0.1));
      some = omega arith;
      spells = one p q n.at w.wire w.is_wire r.spells refl;
    })

pub input_sound : (ts : PlacedToks) (x : PlacedInput × PlacedToks) → input_of ts ≡ Some x → Takes IsInput ts x
input_sound ((p, tokens.Mark signs.Comma) ∷ (q, tokens.Reserved words.Input) ∷ ts) x e = behind_sound p q ts x e
input_sound _ x e = absurd cc

pub input_shrinks : Shrinks input_of
input_shrinks = shrinks_from IsInput input_of input_sound

pub inputs_start : (ts : PlacedToks) → with_front [] (many input_of ends_inputs ts) ≡ inputs_of ts
unfolding inputs_of
inputs_start ts = with_none (many input_of ends_inputs ts)

input_tokens : (p q r : ℕ) (wire xs rest : PlacedToks) (name : List ℕ) → ((p, tokens.Mark signs.Comma) ∷ (q, tokens.Reserved words.Input) ∷ (wire ++ (xs ++ ((r, tokens.Named name) ∷ [])))) ++ rest
    ≡ (p, tokens.Mark signs.Comma) ∷ (q, tokens.Reserved words.Input) ∷ (wire ++ (xs ++ ((r, tokens.Named name) ∷ rest)))
input_tokens p q r wire xs rest name =
    ap (λ (l : PlacedToks). (p, tokens.Mark signs.Comma) ∷ (q, tokens.Reserved words.Input) ∷ l) (append_assoc wire (xs ++ ((r, tokens.Named name) ∷ [])) rest ∙ ap (λ (l : PlacedToks). wire ++ l) (append_assoc xs ((r, tokens.Named name) ∷ []) rest))

input_there : (ts rest : PlacedToks) (a : PlacedInput) → IsFitInput ts a → input_of (ts ++ rest) ≡ Some (a, rest)
unfolding behind_input
input_there ts rest a (one p q r wire {xs = xs} w d is, fit) =
    let name = a.item.name in
    let fit_all = subst PlainsFit is fit in
    let fit_range : PlainsFit xs = fits_front xs ((r, tokens.Named name) ∷ []) (fits_behind wire (xs ++ ((r, tokens.Named name) ∷ [])) fit_all) in
    ap (λ (l : PlacedToks). input_of (l ++ rest)) is ∙ ap input_of (input_tokens p q r wire xs rest name)
    ∙ ap (λ (l : PlacedToks). range_of l >>= λ range. name_of range.1 >>= λ name. Some (input range.0 name.0, name.1)) (without_there wire (xs ++ ((r, tokens.Named name) ∷ rest)) w (range_no_wire d r name rest))
    ∙ ap (λ (z : Option ((ℕ × ℕ) × PlacedToks)). z >>= λ range. name_of range.1 >>= λ name. Some (input range.0 name.0, name.1)) (range_there d fit_range r name rest)

input_goes : (xs rest : PlacedToks) (a : PlacedInput) → IsFitInput xs a → ends_inputs (xs ++ rest) ≡ false
input_goes xs rest a (one p q r wire w d is, fit) = ap (λ (l : PlacedToks). ends_inputs (l ++ rest)) is

input_item : IsItem IsFitInput input_of ends_inputs (λ _. Unit {0})
input_item = record { shrinks = input_shrinks; reads = λ xs rest a d _. input_there xs rest a d; goes = input_goes; before = λ xs rest a d. tt; at_stop = λ rest e. tt }

inputs_each : {ts : PlacedToks} {all : List PlacedInput} → SpellsPlacedInputs ts all → PlainsFit ts → Each IsFitInput ts all
inputs_each (grammar.none is) fit = rw is none
inputs_each (grammar.some p q r wire {xs = xs} {ys = ys} {input = a} w d ds is) fit =
    let front : PlacedToks = (p, tokens.Mark signs.Comma) ∷ (q, tokens.Reserved words.Input) ∷ (wire ++ (xs ++ ((r, tokens.Named a.item.name) ∷ []))) in
    let split = is ∙ sym (input_tokens p q r wire xs ys a.item.name) in
    let fit_all = subst PlainsFit split fit in
    some (one p q r wire w d refl, fits_front front ys fit_all) (inputs_each ds (fits_behind front ys fit_all)) split

each_inputs : {ts : PlacedToks} {all : List PlacedInput} → Each IsInput ts all → SpellsPlacedInputs ts all
each_inputs none = grammar.none refl
each_inputs (some {ys = ys} {a = a} (one p q r wire {xs = xs} w d is) ds e) =
    grammar.some p q r wire w d (each_inputs ds) (e ∙ ap (λ (l : PlacedToks). l ++ ys) is ∙ input_tokens p q r wire xs ys a.item.name)

pub record TakesInputs (ts : PlacedToks) (x : List PlacedInput × PlacedToks) : Type 0 where
  pub front : PlacedToks
  pub parts : ts ≡ front ++ x.1
  pub spells : SpellsPlacedInputs front x.0

pub inputs_sound : (ts : PlacedToks) (x : List PlacedInput × PlacedToks) → inputs_of ts ≡ Some x → TakesInputs ts x
unfolding inputs_of
inputs_sound ts x e = let t = many_sound IsInput input_of ends_inputs input_sound ts x e in record { front = t.front; parts = t.parts; spells = each_inputs t.spells }

pub inputs_there : {ts : PlacedToks} {all : List PlacedInput} → SpellsPlacedInputs ts all → PlainsFit ts → (rest : PlacedToks) → has_comma rest ≡ false → inputs_of (ts ++ rest) ≡ Some (all, rest)
unfolding inputs_of
inputs_there d fit rest stops = many_complete input_item (inputs_each d fit) rest (ap not stops)

-- ---- first values

pub data IsSetting : PlacedToks → SettingTree → Type 0 where
  one : (p q r s : ℕ) {ts : PlacedToks} {a : SettingTree} → ts ≡ (p, tokens.Named a.name) ∷ (q, tokens.Mark signs.Equal) ∷ (r, tokens.Sized a.width a.value) ∷ (s, tokens.Mark signs.Semicolon) ∷ [] → IsSetting ts a

setting : List ℕ → ℕ → ℕ → SettingTree
setting name width value = record { name = name; width = width; value = value }

pub setting_sound : (ts : PlacedToks) (x : SettingTree × PlacedToks) → setting_of ts ≡ Some x → Takes IsSetting ts x
unfolding setting
setting_sound ((p, tokens.Named name) ∷ (q, tokens.Mark signs.Equal) ∷ (r, tokens.Sized width value) ∷ (s, tokens.Mark signs.Semicolon) ∷ ts) x e =
    subst (λ (y : SettingTree × PlacedToks). Takes IsSetting ((p, tokens.Named name) ∷ (q, tokens.Mark signs.Equal) ∷ (r, tokens.Sized width value) ∷ (s, tokens.Mark signs.Semicolon) ∷ ts) y) (some_is (setting name width value, ts) x e) (record {
      front = (p, tokens.Named name) ∷ (q, tokens.Mark signs.Equal) ∷ (r, tokens.Sized width value) ∷ (s, tokens.Mark signs.Semicolon) ∷ [];
      parts = refl;
      some = omega arith;
      spells = one p q r s refl;
    })
setting_sound _ x e = absurd cc

pub setting_shrinks : Shrinks setting_of
setting_shrinks = shrinks_from IsSetting setting_of setting_sound

pub settings_start : (ts : PlacedToks) → with_front [] (many setting_of at_end ts) ≡ settings_of ts
unfolding settings_of
settings_start ts = with_none (many setting_of at_end ts)

pub setting_there : (ts rest : PlacedToks) (a : SettingTree) → IsSetting ts a → setting_of (ts ++ rest) ≡ Some (a, rest)
setting_there ts rest a (one p q r s is) = ap (λ (l : PlacedToks). setting_of (l ++ rest)) is

setting_goes : (xs rest : PlacedToks) (a : SettingTree) → IsSetting xs a → at_end (xs ++ rest) ≡ false
setting_goes xs rest a (one p q r s is) = ap (λ (l : PlacedToks). at_end (l ++ rest)) is

setting_item : IsItem IsSetting setting_of at_end (λ _. Unit {0})
setting_item = record { shrinks = setting_shrinks; reads = λ xs rest a d _. setting_there xs rest a d; goes = setting_goes; before = λ xs rest a d. tt; at_stop = λ rest e. tt }

settings_each : {ts : PlacedToks} {all : List SettingTree} → SpellsPlacedSettings ts all → Each IsSetting ts all
settings_each (grammar.none is) = rw is none
settings_each (grammar.some p q r s ds is) = some (one p q r s refl) (settings_each ds) is

each_settings : {ts : PlacedToks} {all : List SettingTree} → Each IsSetting ts all → SpellsPlacedSettings ts all
each_settings none = grammar.none refl
each_settings (some {ys = ys} (one p q r s is) ds e) = grammar.some p q r s (each_settings ds) (e ∙ ap (λ (l : PlacedToks). l ++ ys) is)

pub record TakesSettings (ts : PlacedToks) (x : List SettingTree × PlacedToks) : Type 0 where
  pub front : PlacedToks
  pub parts : ts ≡ front ++ x.1
  pub spells : SpellsPlacedSettings front x.0

pub settings_sound : (ts : PlacedToks) (x : List SettingTree × PlacedToks) → settings_of ts ≡ Some x → TakesSettings ts x
unfolding settings_of
settings_sound ts x e = let t = many_sound IsSetting setting_of at_end setting_sound ts x e in record { front = t.front; parts = t.parts; spells = each_settings t.spells }

pub settings_there : {ts : PlacedToks} {all : List SettingTree} → SpellsPlacedSettings ts all → (rest : PlacedToks) → at_end rest ≡ true → settings_of (ts ++ rest) ≡ Some (all, rest)
unfolding settings_of
settings_there d rest stops = many_complete setting_item (settings_each d) rest stops
