-- Resources, sections, operations and descriptions that well-formed tokens spell.
use Rattle.std.proofs.Common.{ℕ, List, [], ◌∷◌, ◌++◌, Option, Some, None, subst, inl, inr}
use Rattle.std.specs.Prelude.{◌≢◌, IfSome}
use Rattle.std.specs.List.{AllByRecursion}
use Rattle.lisa_tree.specs.declared.tokens.Keyword.TheVariants as keywords
use Rattle.lisa_tree.specs.declared.tokens.Shape.{Shape}
use Rattle.lisa_tree.specs.declared.tokens.Sign.{Sign}
use Rattle.lisa_tree.specs.declared.tokens.Sign.TheVariants as signs
use Rattle.lisa_tree.specs.declared.tokens.TokenPart.TheVariants as parts
use Rattle.lisa_tree.specs.declared.descriptions.Pattern.{Pattern}
use Rattle.lisa_tree.specs.declared.descriptions.CodingItem.{CodingItem}
use Rattle.lisa_tree.specs.declared.descriptions.CodingItem.TheVariants as codings
use Rattle.lisa_tree.specs.declared.descriptions.SyntaxItem.{SyntaxItem}
use Rattle.lisa_tree.specs.declared.descriptions.SyntaxPart.{SyntaxPart}
use Rattle.lisa_tree.specs.declared.descriptions.SyntaxPart.TheVariants as syntaxes
use Rattle.lisa_tree.specs.Expressions as exprs
use Rattle.lisa_tree.specs.Expressions.{ExprTree}
use Rattle.lisa_tree.specs.Descriptions as trees
use Rattle.lisa_tree.specs.Descriptions.{ResourceTree, CodingTree, DeclareTree, SectionTree, OperationTree, DescriptionTree}
use Rattle.lisa_tree.specs.Grammar.{Toks, mark}
use Rattle.lisa_tree.specs.DescriptionGrammar as items
use Rattle.lisa_tree.specs.DescriptionGrammar.{Each, names_by, field_tokens, register_word, memory_word, alias_tokens, stage_tokens, joint_tokens, syntax_part_tokens, syntax_tokens, word, braced, SpellsDepth, SpellsResource, SpellsInstance, SpellsInstances, SpellsDeclare, SpellsBits, SpellsCodingItem, SpellsRootPlace, SpellsCoding, SpellsSection, SpellsSections, SpellsOperation}
use Rattle.lisa_tree.specs.Texts.{SpellsText}
use Rattle.spelled_promises.specs.Words.{IsName, IsNumber, IsType, IsPattern}
use Rattle.spelled_promises.specs.Trees.{IsRootWord, ArePairs, IsWellFormedDeclare, IsWellFormedItem, IsWellFormedCoding, IsWellFormedPart, IsWellFormedResource, IsWellFormedSection, IsWellFormedOperation, IsWellFormed}
use Rattle.spelled_promises.proofs.Lexed.{AreFormed, front, back, lexed}
use Rattle.spelled_promises.proofs.Bodies.{expr, stmts, acts}

each : {A : Type 0} (S : Toks → A → Type 0) (P : A → Type 0) → ((ts : Toks) (a : A) → S ts a → AreFormed ts → P a) → (ts : Toks) (all : List A) → Each S ts all → AreFormed ts → AllByRecursion P all
each S P f ts [] d h = tt
each S P f ts (a ∷ all) (items.some {xs = xs} {ys = ys} one rest whole) h = let t = subst AreFormed whole h in (f xs a one (front xs ys t), each S P f ys all rest (back xs ys t))

names : (sign : Sign) (all : List (List ℕ)) → AreFormed (names_by sign all) → AllByRecursion IsName all
names sign [] h = tt
names sign (n ∷ []) h = (h.0, tt)
names sign (n ∷ m ∷ rest) h = (h.0, names sign (m ∷ rest) h.1.1)

-- ---- resources

fields : (all : List (Shape × List ℕ)) → AreFormed (field_tokens all) → AllByRecursion (λ (field : Shape × List ℕ). IsType field.0 × IsName field.1) all
fields [] h = tt
fields ((shape, name) ∷ rest) h = ((h.0, h.1.0), fields rest h.1.1.1)

depth_formed : (ts : Toks) (depth : ℕ) → SpellsDepth ts depth → AreFormed ts → IsNumber depth
depth_formed ts depth d h = (subst AreFormed d.1 h).1.0

resource : (ts : Toks) (r : ResourceTree) → SpellsResource ts r → AreFormed ts → IsWellFormedResource r
resource ts (trees.Register kind shape name None) d h = let t = subst AreFormed d h in (t.1.0, t.1.1.0, tt)
resource ts (trees.Register kind shape name (Some depth)) d h = let t = subst AreFormed d.2 h in (t.1.0, t.1.1.0, depth_formed d.0 depth d.1 t.1.1.1)
resource ts (trees.Clocked kind shape name) d h = let t = subst AreFormed d h in (t.1.1.0, t.1.1.1.0)
resource ts (trees.Memory kind shape name depth) d h = let t = subst AreFormed d.2 h in (t.1.0, t.1.1.0, depth_formed d.0 depth d.1 t.1.1.1)
resource ts (trees.Pin shape name) d h = let t = subst AreFormed d h in (t.1.0, t.1.1.0)
resource ts (trees.Pipeline name stages) d h =
    let t = subst AreFormed d.3 h in
    (t.1.0, record { some = d.2; each = names signs.Semicolon stages (front (names_by signs.Semicolon stages) (d.0 ++ mark signs.CloseBrace ∷ mark signs.Semicolon ∷ []) t.1.1.1.1) })
resource ts (trees.Fields pipe all) d h =
    let t = subst AreFormed d.2 h in
    (t.1.1.0, fields all (front (field_tokens all) (mark signs.CloseBrace ∷ d.0) t.1.1.1.1))

-- ---- declarations

instance : (ts : Toks) (name operation : List ℕ) → SpellsInstance ts (name, operation) → AreFormed ts → IsName name × IsName operation
instance ts name operation (inl whole) h = let t = subst AreFormed whole h in (t.0, t.1.1.0)
instance ts name operation (inr d) h = let t = subst AreFormed d.1 h in (t.0, subst IsName d.0 t.0)

instances : {ts : Toks} {all : List (List ℕ × List ℕ)} → SpellsInstances ts all → AreFormed ts → ArePairs all
instances (items.one {ts = ts} {a = a} d) h = (instance ts a.0 a.1 d h, tt)
instances (items.more {xs = xs} {ys = ys} {a = a} d rest whole) h =
    let t = subst AreFormed whole h in
    (instance xs a.0 a.1 d (front xs (mark signs.Comma ∷ ys) t), instances rest (back xs (mark signs.Comma ∷ ys) t).1)

one_instance : {ts : Toks} {all : List (List ℕ × List ℕ)} → SpellsInstances ts all → all ≢ []
one_instance (items.one d) e = absurd (cc e)
one_instance (items.more d rest whole) e = absurd (cc e)

declare : (ts : Toks) (d : DeclareTree) → SpellsDeclare ts d → AreFormed ts → IsWellFormedDeclare d
declare ts (trees.Group ns alternatives) d h =
    let t = subst AreFormed d.2 h in
    let last : Toks = mark signs.CloseBrace ∷ mark signs.Semicolon ∷ [] in
    let rest : Toks = mark signs.Equal ∷ mark signs.OpenBrace ∷ (names_by signs.OrOr alternatives ++ last) in
    let u = (back (names_by signs.Comma ns) rest t.1).1.1 in (
      record { some = d.0; each = names signs.Comma ns (front (names_by signs.Comma ns) rest t.1) },
      record { some = d.1; each = names signs.OrOr alternatives (front (names_by signs.OrOr alternatives) last u) },
    )
declare ts (trees.Instance pairs) d h = let t = subst AreFormed d.2 h in (one_instance d.1, instances d.1 (front d.0 (mark signs.Semicolon ∷ []) t.1))
declare ts (trees.Label ns) d h =
    let t = subst AreFormed d.1 h in record { some = d.0; each = names signs.Comma ns (front (names_by signs.Comma ns) (mark signs.Semicolon ∷ []) t.1) }
declare ts (trees.Reference ns) d h =
    let t = subst AreFormed d.1 h in record { some = d.0; each = names signs.Comma ns (front (names_by signs.Comma ns) (mark signs.Semicolon ∷ []) t.1) }

-- ---- codings and syntaxes

bits : (ts : Toks) (pattern : Pattern) → SpellsBits ts pattern → AreFormed ts → IsPattern pattern
bits ts pattern (inl d) h = let t = subst AreFormed d.0 h in record { digits = t.0; times = rw d.1 tt }
bits ts pattern (inr d) h = let t = subst AreFormed d.6 h in record { digits = t.0; times = rw d.2 (record { one = d.3; least = d.4; most = d.5 }) }

coding_item : (ts : Toks) (item : CodingItem) → SpellsCodingItem ts item → AreFormed ts → IsWellFormedItem item
coding_item ts (codings.Bits pattern) d h = bits ts pattern d h
coding_item ts (codings.Field name pattern) d h = let t = subst AreFormed d.2 h in (t.0, bits d.0 pattern d.1 t.1.1)
coding_item ts (codings.Child name) d h = (subst AreFormed d h).0

root_word : (ts : Toks) (place : ExprTree) → SpellsRootPlace ts place → AreFormed ts → IsRootWord place
root_word ts (exprs.Input field) d h = (subst AreFormed d h).1.1.0
root_word ts (exprs.Named name) d h = (subst AreFormed d h).0
root_word ts _ d h = absurd d

coding : (ts : Toks) (part : CodingTree) → SpellsCoding ts part → AreFormed ts → IsWellFormedCoding part
coding ts (trees.Root place group) d h =
    let t = subst AreFormed d.2 h in
    let rest : Toks = mark signs.EqualEqual ∷ parts.Named group ∷ [] in
    (root_word d.0 place d.1 (front d.0 rest t), (back d.0 rest t).1.0)
coding ts (trees.Items all) d h = (d.0, each SpellsCodingItem IsWellFormedItem coding_item ts all d.1 h)

syntax_part : (part : SyntaxPart) → AreFormed (syntax_part_tokens part) → IsWellFormedPart part
syntax_part (syntaxes.Literal text) h = h.0
syntax_part (syntaxes.Number label format) h = h.0
syntax_part (syntaxes.Child name) h = h.0

syntax_items : (all : List SyntaxItem) → AreFormed (syntax_tokens all) → AllByRecursion (λ (item : SyntaxItem). IsWellFormedPart item.part) all
syntax_items [] h = tt
syntax_items (item ∷ rest) h =
    let t = back (joint_tokens item.joined) (syntax_part_tokens item.part ++ syntax_tokens rest) h in
    (syntax_part item.part (front (syntax_part_tokens item.part) (syntax_tokens rest) t), syntax_items rest (back (syntax_part_tokens item.part) (syntax_tokens rest) t))

-- ---- sections and operations

within : (xs : Toks) → AreFormed (xs ++ mark signs.CloseBrace ∷ []) → AreFormed xs
within xs h = front xs (mark signs.CloseBrace ∷ []) h

section : (ts : Toks) (s : SectionTree) → SpellsSection ts s → AreFormed ts → IsWellFormedSection s
section ts (trees.Declares all) d h = each SpellsDeclare IsWellFormedDeclare declare d.0 all d.1 (within d.0 (subst AreFormed d.2 h).1.1)
section ts (trees.Coding part) d h = coding d.0 part d.1 (within d.0 (subst AreFormed d.2 h).1.1)
section ts (trees.Syntax all) d h = (d.0, syntax_items all (within (syntax_tokens all) (subst AreFormed d.1 h).1.1))
section ts (trees.Behavior all) d h = stmts d.1 (within d.0 (subst AreFormed d.2 h).1.1)
section ts (trees.Expression e) d h = expr d.1 (within d.0 (subst AreFormed d.2 h).1.1)
section ts (trees.Activation all) d h = acts d.1 (within d.0 (subst AreFormed d.2 h).1.1)

sections : {ts : Toks} {all : List SectionTree} → SpellsSections ts all → AreFormed ts → AllByRecursion IsWellFormedSection all
sections items.none h = tt
sections (items.semantics {ys = ys} xs balanced rest whole) h = sections rest (back (braced keywords.Semantics xs) ys (subst AreFormed whole h))
sections (items.some {ys = ys} {a = a} xs d rest whole) h = let t = subst AreFormed whole h in (section xs a d (front xs ys t), sections rest (back xs ys t))

stage : (s : Option (List ℕ × List ℕ)) → AreFormed (stage_tokens s) → IfSome s (λ (n : List ℕ × List ℕ). IsName n.0 × IsName n.1)
stage None h = tt
stage (Some (pipe, n)) h = (h.1.0, h.1.1.1.0)

operation : (ts : Toks) (o : OperationTree) → SpellsOperation ts o → AreFormed ts → IsWellFormedOperation o
operation ts o d h =
    let body : Toks = mark signs.OpenBrace ∷ (d.0 ++ mark signs.CloseBrace ∷ []) in
    let named : Toks = word keywords.Operation ∷ parts.Named o.name ∷ (stage_tokens o.stage ++ body) in
    let t = back (alias_tokens o.alias) named (subst AreFormed d.2 h) in
    record {
      name = t.1.0;
      stage = stage o.stage (front (stage_tokens o.stage) body t.1.1);
      sections = sections d.1 (within d.0 (back (stage_tokens o.stage) body t.1.1).1);
    }

pub well_formed : (bytes : List ℕ) (d : DescriptionTree) → SpellsText bytes d → IsWellFormed d
well_formed bytes d s =
    let g = s.spells in
    let t = subst AreFormed g.whole (lexed s.lexes) in
    record {
      resources = each SpellsResource IsWellFormedResource resource g.resource_part d.resources g.spells_resources (within g.resource_part (front (braced keywords.Resource g.resource_part) g.operation_part t).1.1);
      operations = each SpellsOperation IsWellFormedOperation operation g.operation_part d.operations g.spells_operations (back (braced keywords.Resource g.resource_part) g.operation_part t);
    }
