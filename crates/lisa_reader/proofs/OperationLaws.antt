-- An operation that is read is spelled so, and one that is spelled is read.
use Rattle.std.proofs.Common.{◌≡◌, ℕ, ◌<◌, ◌≤◌, max, Bool, true, false, List, [], ◌∷◌, ◌++◌, length, Option, Some, None, refl, sym, ap, subst, ◌∙◌, append_assoc, arith}
use Rattle.std.proofs.lemmas.List.{length-append}
use Rattle.lisa_tree.specs.declared.tokens.Keyword.TheVariants as keywords
use Rattle.lisa_tree.specs.declared.tokens.Sign.TheVariants as signs
use Rattle.lisa_tree.specs.declared.tokens.TokenPart.{TokenPart}
use Rattle.lisa_tree.specs.declared.tokens.TokenPart.TheVariants as parts
use Rattle.lisa_tree.specs.Descriptions.{SectionTree, OperationTree, sections_depth}
use Rattle.lisa_tree.specs.Grammar.{Toks, mark}
use Rattle.lisa_tree.specs.DescriptionGrammar.{word, alias_tokens, stage_tokens, SpellsSections, SpellsOperation}
use Rattle.lisa_words.specs.Steps.{◌>>=◌}
use Rattle.lisa_words.proofs.StepLaws.{bind_some, some_is}
use Rattle.lisa_words.proofs.ManyLaws.{Shrinks, Takes, shrinks_from, IsItem}
use Rattle.lisa_behav_reader.specs.Past.{past_of}
use Rattle.lisa_behav_reader.proofs.PastLaws.{past_is}
use Rattle.lisa_reader.specs.Reading.{sections_of, is_alias, behind_alias, title_of, place_of, stage_of, operation, titled_of, operation_of, is_done}
use Rattle.lisa_reader.proofs.SectionLaws.{sections_sound, sections_there}

abbrev Stage : Type 0
Stage = Option (List ℕ × List ℕ)

-- what spells an operation of depth 128 at most
abbrev pub SpellsShallow : Toks → OperationTree → Type 0
SpellsShallow ts o = SpellsOperation ts o × (sections_depth o.sections ≤ 128)

-- ---- what is read is spelled so

alias_is : (ts : Toks) → ts ≡ alias_tokens (is_alias ts) ++ behind_alias ts
alias_is (parts.Reserved keywords.Alias ∷ ts) = refl
alias_is _ = refl

title_front : (ts : Toks) (x : List ℕ × Toks) → title_of ts ≡ Some x → ts ≡ word keywords.Operation ∷ parts.Named x.0 ∷ x.1
title_front (parts.Reserved keywords.Operation ∷ parts.Named name ∷ ts) x e = ap (λ (y : List ℕ × Toks). word keywords.Operation ∷ parts.Named y.0 ∷ y.1) (some_is (name, ts) x e)
title_front _ x e = absurd cc

place_front : (ts : Toks) (x : Stage × Toks) → place_of ts ≡ Some x → word keywords.In ∷ ts ≡ stage_tokens x.0 ++ x.1
place_front (parts.Named pipe ∷ parts.Sign signs.Dot ∷ parts.Named stage ∷ ts) x e = ap (λ (y : Stage × Toks). stage_tokens y.0 ++ y.1) (some_is (Some (pipe, stage), ts) x e)
place_front _ x e = absurd cc

stage_front : (ts : Toks) (x : Stage × Toks) → stage_of ts ≡ Some x → ts ≡ stage_tokens x.0 ++ x.1
stage_front (parts.Reserved keywords.In ∷ ts) x e = place_front ts x e
stage_front ts x e = ap (λ (y : Stage × Toks). stage_tokens y.0 ++ y.1) (some_is (None, ts) x e)

-- an operation's tokens behind its ALIAS
abbrev titled_tokens : List ℕ → Stage → Toks → Toks
titled_tokens name stage xs = word keywords.Operation ∷ parts.Named name ∷ (stage_tokens stage ++ (mark signs.OpenBrace ∷ (xs ++ mark signs.CloseBrace ∷ [])))

titled_joined : (name : List ℕ) (stage : Stage) (xs rest : Toks) → titled_tokens name stage xs ++ rest ≡ word keywords.Operation ∷ parts.Named name ∷ (stage_tokens stage ++ (mark signs.OpenBrace ∷ (xs ++ (mark signs.CloseBrace ∷ rest))))
titled_joined name stage xs rest =
    ap (λ (l : Toks). word keywords.Operation ∷ parts.Named name ∷ l) (append_assoc (stage_tokens stage) (mark signs.OpenBrace ∷ (xs ++ mark signs.CloseBrace ∷ [])) rest
    ∙ ap (λ (l : Toks). stage_tokens stage ++ (mark signs.OpenBrace ∷ l)) (append_assoc xs (mark signs.CloseBrace ∷ []) rest))

record TakesTitled (alias : Bool) (ts : Toks) (x : OperationTree × Toks) : Type 0 where
  pub inner : Toks
  pub same : x.0.alias ≡ alias
  pub parts : ts ≡ titled_tokens x.0.name x.0.stage inner ++ x.1
  pub spells : SpellsSections inner x.0.sections
  pub deep : sections_depth x.0.sections ≤ 128

titled_sound : (alias : Bool) (ts : Toks) (x : OperationTree × Toks) → titled_of alias ts ≡ Some x → TakesTitled alias ts x
unfolding titled_of
titled_sound alias ts x e =
    let p1 = bind_some (title_of ts) (λ name. stage_of name.1 >>= λ stage. past_of signs.OpenBrace stage.1 >>= λ a. sections_of a >>= λ all. past_of signs.CloseBrace all.1 >>= λ rest. Some (operation alias name.0 stage.0 all.0, rest)) x e in
    let p2 = bind_some (stage_of p1.0.1) (λ stage. past_of signs.OpenBrace stage.1 >>= λ a. sections_of a >>= λ all. past_of signs.CloseBrace all.1 >>= λ rest. Some (operation alias p1.0.0 stage.0 all.0, rest)) x p1.2 in
    let p3 = bind_some (past_of signs.OpenBrace p2.0.1) (λ a. sections_of a >>= λ all. past_of signs.CloseBrace all.1 >>= λ rest. Some (operation alias p1.0.0 p2.0.0 all.0, rest)) x p2.2 in
    let p4 = bind_some (sections_of p3.0) (λ all. past_of signs.CloseBrace all.1 >>= λ rest. Some (operation alias p1.0.0 p2.0.0 all.0, rest)) x p3.2 in
    let p5 = bind_some (past_of signs.CloseBrace p4.0.1) (λ rest. Some (operation alias p1.0.0 p2.0.0 p4.0.0, rest)) x p4.2 in
    let t = sections_sound p3.0 p4.0 p4.1 in
    let made : OperationTree × Toks = (operation alias p1.0.0 p2.0.0 p4.0.0, p5.0) in
    subst (λ (y : OperationTree × Toks). TakesTitled alias ts y) (some_is made x p5.2) (record {
      inner = t.front;
      same = refl;
      parts = title_front ts p1.0 p1.1
          ∙ ap (λ (l : Toks). word keywords.Operation ∷ parts.Named p1.0.0 ∷ l) (stage_front p1.0.1 p2.0 p2.1 ∙ ap (λ (l : Toks). stage_tokens p2.0.0 ++ l) (past_is signs.OpenBrace p2.0.1 p3.0 p3.1
          ∙ ap (λ (l : Toks). mark signs.OpenBrace ∷ l) (t.parts ∙ ap (λ (l : Toks). t.front ++ l) (past_is signs.CloseBrace p4.0.1 p5.0 p5.1))))
          ∙ sym (titled_joined p1.0.0 p2.0.0 t.front p5.0);
      spells = t.spells;
      deep = t.deep;
    })

pub operation_sound : (ts : Toks) (x : OperationTree × Toks) → operation_of ts ≡ Some x → Takes SpellsShallow ts x
unfolding operation_of
operation_sound ts x e =
    let t = titled_sound (is_alias ts) (behind_alias ts) x e in
    let front : Toks = alias_tokens x.0.alias ++ titled_tokens x.0.name x.0.stage t.inner in
    record {
      front = front;
      parts = alias_is ts ∙ ap (λ (l : Toks). alias_tokens (is_alias ts) ++ l) t.parts ∙ sym (append_assoc (alias_tokens (is_alias ts)) (titled_tokens x.0.name x.0.stage t.inner) x.1)
          ∙ ap (λ (b : Bool). (alias_tokens b ++ titled_tokens x.0.name x.0.stage t.inner) ++ x.1) (sym t.same);
      some = omega (arith, length-append (alias_tokens x.0.alias) (titled_tokens x.0.name x.0.stage t.inner));
      spells = ((t.inner, t.spells, refl), t.deep);
    }

pub operation_shrinks : Shrinks operation_of
operation_shrinks = shrinks_from SpellsShallow operation_of operation_sound

-- ---- what is spelled is read

alias_there : (b : Bool) (ts : Toks) → operation_of (alias_tokens b ++ (word keywords.Operation ∷ ts)) ≡ titled_of b (word keywords.Operation ∷ ts)
unfolding operation_of
alias_there true ts = refl
alias_there false ts = refl

stage_there : (stage : Stage) (ts : Toks) → stage_of (stage_tokens stage ++ (mark signs.OpenBrace ∷ ts)) ≡ Some (stage, mark signs.OpenBrace ∷ ts)
stage_there None ts = refl
stage_there (Some (pipe, stage)) ts = refl

titled_there : (alias : Bool) (name : List ℕ) (stage : Stage) (all : List SectionTree) (xs rest : Toks) → SpellsSections xs all → sections_depth all ≤ 128
    → titled_of alias (word keywords.Operation ∷ parts.Named name ∷ (stage_tokens stage ++ (mark signs.OpenBrace ∷ (xs ++ (mark signs.CloseBrace ∷ rest))))) ≡ Some (operation alias name stage all, rest)
unfolding titled_of
titled_there alias name stage all xs rest d le =
    ap (λ (z : Option (Stage × Toks)). z >>= λ stage. past_of signs.OpenBrace stage.1 >>= λ a. sections_of a >>= λ all. past_of signs.CloseBrace all.1 >>= λ rest. Some (operation alias name stage.0 all.0, rest)) (stage_there stage (xs ++ (mark signs.CloseBrace ∷ rest)))
    ∙ ap (λ (z : Option (List SectionTree × Toks)). z >>= λ all. past_of signs.CloseBrace all.1 >>= λ rest. Some (operation alias name stage all.0, rest)) (sections_there d le (mark signs.CloseBrace ∷ rest) refl)

operation_there : (xs rest : Toks) (o : OperationTree) → SpellsShallow xs o → operation_of (xs ++ rest) ≡ Some (o, rest)
operation_there xs rest o ((ys, d, is), le) =
    ap (λ (l : Toks). operation_of (l ++ rest)) is
    ∙ ap operation_of (append_assoc (alias_tokens o.alias) (titled_tokens o.name o.stage ys) rest ∙ ap (λ (l : Toks). alias_tokens o.alias ++ l) (titled_joined o.name o.stage ys rest))
    ∙ alias_there o.alias (parts.Named o.name ∷ (stage_tokens o.stage ++ (mark signs.OpenBrace ∷ (ys ++ (mark signs.CloseBrace ∷ rest)))))
    ∙ titled_there o.alias o.name o.stage o.sections ys rest d le

alias_goes : (b : Bool) (ts rest : Toks) → is_done ((alias_tokens b ++ (word keywords.Operation ∷ ts)) ++ rest) ≡ false
alias_goes true ts rest = refl
alias_goes false ts rest = refl

operation_goes : (xs rest : Toks) (o : OperationTree) → SpellsShallow xs o → is_done (xs ++ rest) ≡ false
operation_goes xs rest o ((ys, d, is), le) = ap (λ (l : Toks). is_done (l ++ rest)) is ∙ alias_goes o.alias (parts.Named o.name ∷ (stage_tokens o.stage ++ (mark signs.OpenBrace ∷ (ys ++ mark signs.CloseBrace ∷ [])))) rest

pub operation_item : IsItem SpellsShallow operation_of is_done (λ _. Unit {0})
operation_item = record { shrinks = operation_shrinks; reads = λ xs rest o s _. operation_there xs rest o s; goes = operation_goes; before = λ xs rest o s. tt; at_stop = λ rest e. tt }
