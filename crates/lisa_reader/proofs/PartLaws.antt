-- A section that is read is spelled so, and one that is spelled is read.
use Rattle.std.proofs.Common.{◌≡◌, ℕ, ◌<◌, ◌≤◌, Bool, true, false, List, [], ◌∷◌, ◌++◌, length, Option, Some, None, refl, sym, ap, subst, ◌∙◌, append_assoc, arith}
use Rattle.lisa_tree.specs.declared.tokens.Keyword.{Keyword}
use Rattle.lisa_tree.specs.declared.tokens.Keyword.TheVariants as keywords
use Rattle.lisa_tree.specs.declared.tokens.Sign.TheVariants as signs
use Rattle.lisa_tree.specs.declared.tokens.TokenPart.TheVariants as parts
use Rattle.lisa_tree.specs.declared.descriptions.SyntaxItem.{SyntaxItem}
use Rattle.lisa_tree.specs.Expressions as expressions
use Rattle.lisa_tree.specs.Expressions.{ExprTree, expr_depth}
use Rattle.lisa_tree.specs.Statements.{StmtTrees}
use Rattle.lisa_tree.specs.Activations.{ActTrees}
use Rattle.lisa_tree.specs.Descriptions as descriptions
use Rattle.lisa_tree.specs.Descriptions.{CodingTree, DeclareTree, SectionTree, coding_depth, section_depth}
use Rattle.lisa_tree.specs.Grammar.{Toks, mark}
use Rattle.lisa_tree.specs.DescriptionGrammar.{word, braced, IsBalanced, SpellsCoding, SpellsSection, syntax_tokens}
use Rattle.lisa_words.specs.Steps.{◌>>=◌}
use Rattle.lisa_words.proofs.StepLaws.{bind_some, some_is}
use Rattle.lisa_words.proofs.ManyLaws.{Shrinks, Takes, shrinks_from, IsItem}
use Rattle.lisa_behav_reader.specs.Past.{past_of}
use Rattle.lisa_behav_reader.specs.Reading.{reads, whole}
use Rattle.lisa_behav_reader.specs.StmtReading as stmt_reading
use Rattle.lisa_behav_reader.specs.StmtReading.{stmts}
use Rattle.lisa_behav_reader.proofs.PastLaws.{past_is}
use Rattle.lisa_behav_reader.proofs.ExprSound.{reads_sound}
use Rattle.lisa_behav_reader.proofs.ExprComplete.{complete}
use Rattle.lisa_behav_reader.proofs.StmtSound.{stmts_sound}
use Rattle.lisa_behav_reader.proofs.StmtComplete.{stmts_complete}
use Rattle.lisa_section_reader.specs.Resources.{ends}
use Rattle.lisa_section_reader.specs.Declares.{declares_of}
use Rattle.lisa_section_reader.specs.Codings.{coding_of}
use Rattle.lisa_section_reader.specs.Syntaxes.{syntax_of}
use Rattle.lisa_section_reader.proofs.EachLaws.{to_items, from_items}
use Rattle.lisa_section_reader.proofs.DeclareLaws.{declares_sound, declares_there}
use Rattle.lisa_section_reader.proofs.CodingLaws.{coding_sound, coding_there}
use Rattle.lisa_section_reader.proofs.SyntaxLaws.{syntax_sound, syntax_there}
use Rattle.lisa_activation_reader.specs.Reading.{activation_of}
use Rattle.lisa_activation_reader.proofs.ActSound.{activation_sound}
use Rattle.lisa_activation_reader.proofs.ActComplete.{acts_complete}
use Rattle.lisa_reader.specs.Skipping.{skip_of}
use Rattle.lisa_reader.specs.Reading.{Part, declares_in, coding_in, syntax_in, behavior_in, expression_in, activation_in, inside_of, kept_of, skipped_of, block_of, part_of}
use Rattle.lisa_reader.proofs.SkipLaws.{skip_sound, skip_there}

-- what spells a section that is kept or skipped
abbrev pub SpellsPart : Toks → Part → Type 0
SpellsPart ts None = (xs : Toks) × IsBalanced xs × (ts ≡ braced keywords.Semantics xs)
SpellsPart ts (Some a) = SpellsSection ts a × (section_depth a ≤ 128)

-- ---- what is read is spelled so

record TakesInside (keyword : Keyword) (ts : Toks) (x : SectionTree × Toks) : Type 0 where
  pub inner : Toks
  pub parts : ts ≡ inner ++ x.1
  pub spells : SpellsSection (braced keyword inner) x.0
  pub deep : section_depth x.0 ≤ 128

declares_inside : (ts : Toks) (x : SectionTree × Toks) → declares_in ts ≡ Some x → TakesInside keywords.Declare ts x
unfolding declares_in
declares_inside ts x e =
    let b = bind_some (declares_of ts) (λ x. Some (descriptions.Declares x.0, x.1)) x e in
    let t = declares_sound ts b.0 b.1 in
    let made : SectionTree × Toks = (descriptions.Declares b.0.0, b.0.1) in
    subst (λ (y : SectionTree × Toks). TakesInside keywords.Declare ts y) (some_is made x b.2) (record { inner = t.front; parts = t.parts; spells = (t.front, from_items t.spells, refl); deep = omega arith })

-- a root's place is no deeper than a name
coding_shallow : (ts : Toks) (part : CodingTree) → SpellsCoding ts part → coding_depth part ≤ 128
coding_shallow ts (descriptions.Root (expressions.Input field) group) h = omega arith
coding_shallow ts (descriptions.Root (expressions.Named name) group) h = omega arith
coding_shallow ts (descriptions.Root _ group) (xs, h, is) = absurd h
coding_shallow ts (descriptions.Items items) h = omega arith

coding_inside : (ts : Toks) (x : SectionTree × Toks) → coding_in ts ≡ Some x → TakesInside keywords.Coding ts x
unfolding coding_in
coding_inside ts x e =
    let b = bind_some (coding_of ts) (λ x. Some (descriptions.Coding x.0, x.1)) x e in
    let t = coding_sound ts b.0 b.1 in
    let made : SectionTree × Toks = (descriptions.Coding b.0.0, b.0.1) in
    subst (λ (y : SectionTree × Toks). TakesInside keywords.Coding ts y) (some_is made x b.2) (record { inner = t.front; parts = t.parts; spells = (t.front, t.spells, refl); deep = coding_shallow t.front b.0.0 t.spells })

syntax_inside : (ts : Toks) (x : SectionTree × Toks) → syntax_in ts ≡ Some x → TakesInside keywords.Syntax ts x
unfolding syntax_in
syntax_inside ts x e =
    let b = bind_some (syntax_of ts) (λ x. Some (descriptions.Syntax x.0, x.1)) x e in
    let t = syntax_sound ts b.0 b.1 in
    let made : SectionTree × Toks = (descriptions.Syntax b.0.0, b.0.1) in
    subst (λ (y : SectionTree × Toks). TakesInside keywords.Syntax ts y) (some_is made x b.2) (record { inner = syntax_tokens b.0.0; parts = t.parts; spells = (t.spells, refl); deep = omega arith })

behavior_inside : (ts : Toks) (x : SectionTree × Toks) → behavior_in ts ≡ Some x → TakesInside keywords.Behavior ts x
unfolding behavior_in
behavior_inside ts x e =
    let b = bind_some (stmts (stmt_reading.many 128 ts)) (λ x. Some (descriptions.Behavior x.0, x.1)) x e in
    let t = stmts_sound (stmt_reading.many 128 ts) b.0 b.1 in
    let made : SectionTree × Toks = (descriptions.Behavior b.0.0, b.0.1) in
    subst (λ (y : SectionTree × Toks). TakesInside keywords.Behavior ts y) (some_is made x b.2) (record { inner = t.front; parts = t.parts; spells = (t.front, t.spells, refl); deep = t.deep })

expression_inside : (ts : Toks) (x : SectionTree × Toks) → expression_in ts ≡ Some x → TakesInside keywords.Expression ts x
unfolding expression_in
expression_inside ts x e =
    let b = bind_some (reads (whole 128 ts)) (λ x. Some (descriptions.Expression x.0, x.1)) x e in
    let t = reads_sound (whole 128 ts) b.0 b.1 in
    let made : SectionTree × Toks = (descriptions.Expression b.0.0, b.0.1) in
    subst (λ (y : SectionTree × Toks). TakesInside keywords.Expression ts y) (some_is made x b.2) (record { inner = t.front; parts = t.parts; spells = (t.front, t.spells, refl); deep = t.deep })

activation_inside : (ts : Toks) (x : SectionTree × Toks) → activation_in ts ≡ Some x → TakesInside keywords.Activation ts x
unfolding activation_in
activation_inside ts x e =
    let b = bind_some (activation_of 128 ts) (λ x. Some (descriptions.Activation x.0, x.1)) x e in
    let t = activation_sound 128 ts b.0 b.1 in
    let made : SectionTree × Toks = (descriptions.Activation b.0.0, b.0.1) in
    subst (λ (y : SectionTree × Toks). TakesInside keywords.Activation ts y) (some_is made x b.2) (record { inner = t.front; parts = t.parts; spells = (t.front, t.spells, refl); deep = t.deep })

inside_sound : (keyword : Keyword) (ts : Toks) (x : SectionTree × Toks) → inside_of keyword ts ≡ Some x → TakesInside keyword ts x
inside_sound keywords.Declare ts x e = declares_inside ts x e
inside_sound keywords.Coding ts x e = coding_inside ts x e
inside_sound keywords.Syntax ts x e = syntax_inside ts x e
inside_sound keywords.Behavior ts x e = behavior_inside ts x e
inside_sound keywords.Expression ts x e = expression_inside ts x e
inside_sound keywords.Activation ts x e = activation_inside ts x e
inside_sound _ ts x e = absurd cc

kept_sound : (keyword : Keyword) (ts : Toks) (x : Part × Toks) → kept_of keyword ts ≡ Some x → Takes SpellsPart (word keyword ∷ mark signs.OpenBrace ∷ ts) x
unfolding kept_of
kept_sound keyword ts x e =
    let b = bind_some (inside_of keyword ts) (λ y. past_of signs.CloseBrace y.1 >>= λ rest. Some (Some y.0, rest)) x e in
    let p = bind_some (past_of signs.CloseBrace b.0.1) (λ rest. Some (Some b.0.0, rest)) x b.2 in
    let t = inside_sound keyword ts b.0 b.1 in
    let made : Part × Toks = (Some b.0.0, p.0) in
    subst (λ (y : Part × Toks). Takes SpellsPart (word keyword ∷ mark signs.OpenBrace ∷ ts) y) (some_is made x p.2) (record {
      front = braced keyword t.inner;
      parts = ap (λ (l : Toks). word keyword ∷ mark signs.OpenBrace ∷ l) (t.parts ∙ ap (λ (l : Toks). t.inner ++ l) (past_is signs.CloseBrace b.0.1 p.0 p.1) ∙ sym (append_assoc t.inner (mark signs.CloseBrace ∷ []) p.0));
      some = omega arith;
      spells = (t.spells, t.deep);
    })

skipped_sound : (ts : Toks) (x : Part × Toks) → skipped_of ts ≡ Some x → Takes SpellsPart (word keywords.Semantics ∷ mark signs.OpenBrace ∷ ts) x
unfolding skipped_of
skipped_sound ts x e =
    let b = bind_some (skip_of ts 0) (λ rest. Some (None, rest)) x e in
    let s = skip_sound ts b.0 b.1 in
    let made : Part × Toks = (None, b.0) in
    subst (λ (y : Part × Toks). Takes SpellsPart (word keywords.Semantics ∷ mark signs.OpenBrace ∷ ts) y) (some_is made x b.2) (record {
      front = braced keywords.Semantics s.0;
      parts = ap (λ (l : Toks). word keywords.Semantics ∷ mark signs.OpenBrace ∷ l) (s.2 ∙ sym (append_assoc s.0 (mark signs.CloseBrace ∷ []) b.0));
      some = omega arith;
      spells = (s.0, s.1, refl);
    })

block_sound : (keyword : Keyword) (ts : Toks) (x : Part × Toks) → block_of keyword ts ≡ Some x → Takes SpellsPart (word keyword ∷ mark signs.OpenBrace ∷ ts) x
block_sound keywords.Semantics ts x e = skipped_sound ts x e
block_sound keyword ts x e = kept_sound keyword ts x e

pub part_sound : (ts : Toks) (x : Part × Toks) → part_of ts ≡ Some x → Takes SpellsPart ts x
unfolding part_of
part_sound (parts.Reserved keyword ∷ parts.Sign signs.OpenBrace ∷ ts) x e = block_sound keyword ts x e
part_sound _ x e = absurd cc

pub part_shrinks : Shrinks part_of
part_shrinks = shrinks_from SpellsPart part_of part_sound

-- ---- what is spelled is read

kept_there : (keyword : Keyword) (ys rest : Toks) (a : SectionTree) → inside_of keyword (ys ++ (mark signs.CloseBrace ∷ rest)) ≡ Some (a, mark signs.CloseBrace ∷ rest) → kept_of keyword ((ys ++ mark signs.CloseBrace ∷ []) ++ rest) ≡ Some (Some a, rest)
unfolding kept_of
kept_there keyword ys rest a e =
    ap (kept_of keyword) (append_assoc ys (mark signs.CloseBrace ∷ []) rest)
    ∙ ap (λ (z : Option (SectionTree × Toks)). z >>= λ y. past_of signs.CloseBrace y.1 >>= λ after. Some (Some y.0, after)) e

module _ (ys rest : Toks) where
  declares_read : (all : List DeclareTree) → declares_of (ys ++ (mark signs.CloseBrace ∷ rest)) ≡ Some (all, mark signs.CloseBrace ∷ rest) → inside_of keywords.Declare (ys ++ (mark signs.CloseBrace ∷ rest)) ≡ Some (descriptions.Declares all, mark signs.CloseBrace ∷ rest)
  unfolding declares_in
  declares_read all e = ap (λ (z : Option (List DeclareTree × Toks)). z >>= λ x. Some (descriptions.Declares x.0, x.1)) e

  coding_read : (part : CodingTree) → coding_of (ys ++ (mark signs.CloseBrace ∷ rest)) ≡ Some (part, mark signs.CloseBrace ∷ rest) → inside_of keywords.Coding (ys ++ (mark signs.CloseBrace ∷ rest)) ≡ Some (descriptions.Coding part, mark signs.CloseBrace ∷ rest)
  unfolding coding_in
  coding_read part e = ap (λ (z : Option (CodingTree × Toks)). z >>= λ x. Some (descriptions.Coding x.0, x.1)) e

  syntax_read : (all : List SyntaxItem) → syntax_of (ys ++ (mark signs.CloseBrace ∷ rest)) ≡ Some (all, mark signs.CloseBrace ∷ rest) → inside_of keywords.Syntax (ys ++ (mark signs.CloseBrace ∷ rest)) ≡ Some (descriptions.Syntax all, mark signs.CloseBrace ∷ rest)
  unfolding syntax_in
  syntax_read all e = ap (λ (z : Option (List SyntaxItem × Toks)). z >>= λ x. Some (descriptions.Syntax x.0, x.1)) e

  behavior_read : (all : StmtTrees) → stmts (stmt_reading.many 128 (ys ++ (mark signs.CloseBrace ∷ rest))) ≡ Some (all, mark signs.CloseBrace ∷ rest) → inside_of keywords.Behavior (ys ++ (mark signs.CloseBrace ∷ rest)) ≡ Some (descriptions.Behavior all, mark signs.CloseBrace ∷ rest)
  unfolding behavior_in
  behavior_read all e = ap (λ (z : Option (StmtTrees × Toks)). z >>= λ x. Some (descriptions.Behavior x.0, x.1)) e

  expression_read : (a : ExprTree) → reads (whole 128 (ys ++ (mark signs.CloseBrace ∷ rest))) ≡ Some (a, mark signs.CloseBrace ∷ rest) → inside_of keywords.Expression (ys ++ (mark signs.CloseBrace ∷ rest)) ≡ Some (descriptions.Expression a, mark signs.CloseBrace ∷ rest)
  unfolding expression_in
  expression_read a e = ap (λ (z : Option (ExprTree × Toks)). z >>= λ x. Some (descriptions.Expression x.0, x.1)) e

  activation_read : (all : ActTrees) → activation_of 128 (ys ++ (mark signs.CloseBrace ∷ rest)) ≡ Some (all, mark signs.CloseBrace ∷ rest) → inside_of keywords.Activation (ys ++ (mark signs.CloseBrace ∷ rest)) ≡ Some (descriptions.Activation all, mark signs.CloseBrace ∷ rest)
  unfolding activation_in
  activation_read all e = ap (λ (z : Option (ActTrees × Toks)). z >>= λ x. Some (descriptions.Activation x.0, x.1)) e

section_there : (xs rest : Toks) (a : SectionTree) → SpellsSection xs a → section_depth a ≤ 128 → part_of (xs ++ rest) ≡ Some (Some a, rest)
unfolding part_of
section_there xs rest (descriptions.Declares all) (ys, d, is) le =
    ap (λ (l : Toks). part_of (l ++ rest)) is ∙ kept_there keywords.Declare ys rest (descriptions.Declares all) (declares_read ys rest all (declares_there (to_items d) (mark signs.CloseBrace ∷ rest) refl))
section_there xs rest (descriptions.Coding part) (ys, d, is) le =
    ap (λ (l : Toks). part_of (l ++ rest)) is ∙ kept_there keywords.Coding ys rest (descriptions.Coding part) (coding_read ys rest part (coding_there ys (mark signs.CloseBrace ∷ rest) part d refl))
section_there xs rest (descriptions.Syntax all) (d, is) le =
    let ys : Toks = syntax_tokens all in
    ap (λ (l : Toks). part_of (l ++ rest)) is ∙ kept_there keywords.Syntax ys rest (descriptions.Syntax all) (syntax_read ys rest all (syntax_there all (mark signs.CloseBrace ∷ rest) d refl))
section_there xs rest (descriptions.Behavior all) (ys, d, is) le =
    ap (λ (l : Toks). part_of (l ++ rest)) is ∙ kept_there keywords.Behavior ys rest (descriptions.Behavior all) (behavior_read ys rest all (stmts_complete d 128 (mark signs.CloseBrace ∷ rest) le refl))
section_there xs rest (descriptions.Expression a) (ys, d, is) le =
    let c = complete d in
    ap (λ (l : Toks). part_of (l ++ rest)) is ∙ kept_there keywords.Expression ys rest (descriptions.Expression a) (expression_read ys rest a (c.entire 128 (mark signs.CloseBrace ∷ rest) le (omega arith)))
section_there xs rest (descriptions.Activation all) (ys, d, is) le =
    ap (λ (l : Toks). part_of (l ++ rest)) is ∙ kept_there keywords.Activation ys rest (descriptions.Activation all) (activation_read ys rest all (acts_complete d 128 (mark signs.CloseBrace ∷ rest) le refl))

part_there : (xs rest : Toks) (p : Part) → SpellsPart xs p → part_of (xs ++ rest) ≡ Some (p, rest)
unfolding part_of skipped_of
part_there xs rest None (ys, d, is) =
    ap (λ (l : Toks). part_of (l ++ rest)) is ∙ ap skipped_of (append_assoc ys (mark signs.CloseBrace ∷ []) rest)
    ∙ ap (λ (z : Option Toks). z >>= λ after. Some (None, after)) (skip_there d rest)
part_there xs rest (Some a) (s, le) = section_there xs rest a s le

section_goes : (xs rest : Toks) (a : SectionTree) → SpellsSection xs a → ends (xs ++ rest) ≡ false
section_goes xs rest (descriptions.Declares all) (ys, d, is) = ap (λ (l : Toks). ends (l ++ rest)) is
section_goes xs rest (descriptions.Coding part) (ys, d, is) = ap (λ (l : Toks). ends (l ++ rest)) is
section_goes xs rest (descriptions.Syntax all) (d, is) = ap (λ (l : Toks). ends (l ++ rest)) is
section_goes xs rest (descriptions.Behavior all) (ys, d, is) = ap (λ (l : Toks). ends (l ++ rest)) is
section_goes xs rest (descriptions.Expression a) (ys, d, is) = ap (λ (l : Toks). ends (l ++ rest)) is
section_goes xs rest (descriptions.Activation all) (ys, d, is) = ap (λ (l : Toks). ends (l ++ rest)) is

part_goes : (xs rest : Toks) (p : Part) → SpellsPart xs p → ends (xs ++ rest) ≡ false
part_goes xs rest None (ys, d, is) = ap (λ (l : Toks). ends (l ++ rest)) is
part_goes xs rest (Some a) (s, le) = section_goes xs rest a s

pub part_item : IsItem SpellsPart part_of ends (λ _. Unit {0})
part_item = record { shrinks = part_shrinks; reads = λ xs rest p s _. part_there xs rest p s; goes = part_goes; before = λ xs rest p s. tt; at_stop = λ rest e. tt }
