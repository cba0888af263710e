-- The canonical tokens of a description spell it, wherever some tokens do.
use Rattle.std.proofs.Common.{◌≡◌, ℕ, suc, max, Bool, true, false, cond, List, [], ◌∷◌, ◌++◌, Option, Some, None, refl, sym, ap, subst, ◌∙◌, inl, inr, append_assoc}
use Rattle.std.specs.Prelude.{nat_eq}
use Rattle.std.specs.List.{flat_map}
use Rattle.std.specs.Cmp.Lexicographic.{pointwise}
use Rattle.std.proofs.lemmas.List.{append-nil}
use Rattle.std.proofs.lemmas.Bool.{false≢true}
use Rattle.std.proofs.lemmas.Bool.Decides.{Decides-eqb}
use Rattle.std.proofs.lemmas.Slice.Eq.{slice_eq-Decides}
use Rattle.lisa_tree.specs.declared.tokens.Base.TheVariants as bases
use Rattle.lisa_tree.specs.declared.tokens.Keyword.{Keyword}
use Rattle.lisa_tree.specs.declared.tokens.Keyword.TheVariants as keywords
use Rattle.lisa_tree.specs.declared.tokens.Shape.{Shape}
use Rattle.lisa_tree.specs.declared.tokens.Sign.{Sign}
use Rattle.lisa_tree.specs.declared.tokens.Sign.TheVariants as signs
use Rattle.lisa_tree.specs.declared.tokens.TokenPart.TheVariants as parts
use Rattle.lisa_tree.specs.declared.descriptions.RegisterWord.{RegisterWord}
use Rattle.lisa_tree.specs.declared.descriptions.RegisterWord.TheVariants as registers
use Rattle.lisa_tree.specs.declared.descriptions.MemoryWord.{MemoryWord}
use Rattle.lisa_tree.specs.declared.descriptions.MemoryWord.TheVariants as memories
use Rattle.lisa_tree.specs.declared.descriptions.Pattern.{Pattern}
use Rattle.lisa_tree.specs.declared.descriptions.CodingItem.TheVariants as codings
use Rattle.lisa_tree.specs.declared.descriptions.Format.{Format}
use Rattle.lisa_tree.specs.declared.descriptions.Format.TheVariants as formats
use Rattle.lisa_tree.specs.declared.descriptions.SyntaxItem.{SyntaxItem}
use Rattle.lisa_tree.specs.declared.descriptions.SyntaxPart.{SyntaxPart}
use Rattle.lisa_tree.specs.declared.descriptions.SyntaxPart.TheVariants as syntaxes
use Rattle.lisa_tree.specs.Expressions as expressions
use Rattle.lisa_tree.specs.Expressions.{ExprTree}
use Rattle.lisa_tree.specs.Descriptions as descriptions
use Rattle.lisa_tree.specs.Descriptions.{ResourceTree, CodingTree, DeclareTree, SectionTree, OperationTree, DescriptionTree}
use Rattle.lisa_tree.specs.Grammar.{Toks, mark}
use Rattle.lisa_tree.specs.DescriptionGrammar as items
use Rattle.lisa_tree.specs.DescriptionGrammar.{word, names_by, Each, register_word, memory_word, SpellsDepth, field_tokens, IsOptional, SpellsResource, SpellsInstance, SpellsInstances, SpellsDeclare, SpellsBits, SpellsCodingItem, SpellsRootPlace, SpellsCoding, format_sign, syntax_part_tokens, joint_tokens, syntax_tokens, braced, IsBalanced, SpellsSection, SpellsSections, alias_tokens, stage_tokens, SpellsOperation, SpellsDescription}
use Rattle.lisa_printer.specs.CanonicalTokens.{bare_tokens, depth_tokens, resource_tokens, instance_tokens, instances_tokens, declare_tokens, times_tokens, pattern_tokens, coding_item_tokens, coding_tokens, section_tokens, operation_tokens, description_tokens}
use Rattle.lisa_printer.specs.EvenSemantics.{HasEvenSemantics}
use Rattle.lisa_printer.proofs.Heights.{peak, IsEven, IsPlain, even_none, even_plain, even_within, even_of_closed}
use Rattle.lisa_printer.proofs.SoundTokens.{AreSound, sound_front, sound_back, sound_sign, sound_word, sound_decimal}
use Rattle.lisa_printer.proofs.Replaced.{Replaces, nothing, joined, behind, one, instead, in_squares, in_braces, left_out, added, spelled_so, ReplacesWhere, anywhere, joined_where, braces_where, left_out_where, where_so}
use Rattle.lisa_printer.proofs.StatementsAgain.{whole_again, stmts_again, acts_again}

-- the canonical tokens of a thing stand in the place of those that spell it, and spell it too
pub record IsAgain (S : Toks → Type 0) (ts us : Toks) : Type 0 where
  pub replaced : Replaces ts us
  pub spelled : S us

-- ---- lists of things

abbrev pub EachAgain : {A : Type 0} (S : Toks → A → Type 0) (f : A → Toks) → Type 0
EachAgain {A = A} S f = (ts : Toks) (a : A) → S ts a → AreSound ts → IsAgain (λ us. S us a) ts (f a)

pub each_again : {A : Type 0} (S : Toks → A → Type 0) (f : A → Toks) → EachAgain S f → {ts : Toks} {all : List A} → Each S ts all → AreSound ts → IsAgain (λ us. Each S us all) ts (flat_map f all)
each_again S f h items.none s = record { replaced = nothing; spelled = items.none }
each_again S f h (items.some {xs = xs} {ys = ys} {a = a} d rest whole) s =
    let t = subst AreSound whole s in
    let k = h xs a d (sound_front xs ys t) in
    let l = each_again S f h rest (sound_back xs ys t) in
    record { replaced = spelled_so whole (joined k.replaced l.replaced); spelled = items.some k.spelled l.spelled refl }

-- names with a plain sign between each two
names_again : (sign : Sign) → IsPlain (mark sign) → (names : List (List ℕ)) → AreSound (names_by sign names) → Replaces (names_by sign names) (names_by sign names)
names_again sign p [] s = nothing
names_again sign p (name ∷ []) s = one (λ n. refl) s.0
names_again sign p (name ∷ next ∷ rest) s = behind (λ n. refl) s.0 (behind p (sound_sign sign) (names_again sign p (next ∷ rest) s.1.1))

-- ---- resources

plain_register : (kind : RegisterWord) → IsPlain (register_word kind)
plain_register registers.Register n = refl
plain_register _ n = refl

plain_memory : (kind : MemoryWord) → IsPlain (memory_word kind)
plain_memory memories.Memory n = refl
plain_memory _ n = refl

depth_again : {xs : Toks} {depth : ℕ} → SpellsDepth xs depth → AreSound xs → Replaces xs (depth_tokens depth)
depth_again {depth = depth} (base, whole) s =
    let t = subst AreSound whole s in
    spelled_so whole (in_squares {xs = parts.Number depth base ∷ []} {xs' = parts.Number depth bases.Decimal ∷ []}
    (instead (λ n. refl) (λ n. refl) (sound_decimal depth base t.1.0) nothing) (one (λ n. refl) (sound_sign signs.Semicolon)))

fields_again : (fields : List (Shape × List ℕ)) → AreSound (field_tokens fields) → Replaces (field_tokens fields) (field_tokens fields)
fields_again [] s = nothing
fields_again (field ∷ rest) s = behind (λ n. refl) s.0 (behind (λ n. refl) s.1.0 (behind (λ n. refl) (sound_sign signs.Semicolon) (fields_again rest s.1.1.1)))

-- a sign that may be absent is left out, or written
optional_left_out : {sign : Sign} {xs : Toks} → IsPlain (mark sign) → IsOptional sign xs → Replaces xs []
optional_left_out p (inl e) = spelled_so e nothing
optional_left_out {sign = sign} p (inr e) = spelled_so e (left_out {xs = mark sign ∷ []} (even_plain p even_none) nothing)

optional_written : {sign : Sign} {xs : Toks} → IsPlain (mark sign) → IsOptional sign xs → Replaces xs (mark sign ∷ [])
optional_written {sign = sign} p (inl e) = spelled_so e (added p (sound_sign sign) nothing)
optional_written {sign = sign} p (inr e) = spelled_so e (one p (sound_sign sign))

-- `type name`
item_again : {shape : Shape} {name : List ℕ} {xs ys : Toks} → AreSound (parts.TypeWord shape ∷ parts.Named name ∷ xs) → Replaces xs ys
    → Replaces (parts.TypeWord shape ∷ parts.Named name ∷ xs) (parts.TypeWord shape ∷ parts.Named name ∷ ys)
item_again s h = behind (λ n. refl) s.0 (behind (λ n. refl) s.1.0 h)

resource_again : EachAgain SpellsResource resource_tokens
resource_again ts (descriptions.Register kind shape name None) d s =
    let t = subst AreSound d s in
    record { replaced = spelled_so d (behind (plain_register kind) t.0 (item_again t.1 (one (λ n. refl) (sound_sign signs.Semicolon)))); spelled = refl }
resource_again ts (descriptions.Register kind shape name (Some depth)) (xs, d, whole) s =
    let t = subst AreSound whole s in
    record { replaced = spelled_so whole (behind (plain_register kind) t.0 (item_again t.1 (depth_again {depth = depth} d t.1.1.1))); spelled = (depth_tokens depth, (bases.Decimal, refl), refl) }
resource_again ts (descriptions.Clocked kind shape name) d s =
    let t = subst AreSound d s in
    record { replaced = spelled_so d (behind (λ n. refl) t.0 (behind (plain_register kind) t.1.0 (item_again t.1.1 (one (λ n. refl) (sound_sign signs.Semicolon))))); spelled = refl }
resource_again ts (descriptions.Memory kind shape name depth) (xs, d, whole) s =
    let t = subst AreSound whole s in
    record { replaced = spelled_so whole (behind (plain_memory kind) t.0 (item_again t.1 (depth_again {depth = depth} d t.1.1.1))); spelled = (depth_tokens depth, (bases.Decimal, refl), refl) }
resource_again ts (descriptions.Pin shape name) d s =
    let t = subst AreSound d s in
    record { replaced = spelled_so d (behind (λ n. refl) t.0 (item_again t.1 (one (λ n. refl) (sound_sign signs.Semicolon)))); spelled = refl }
resource_again ts (descriptions.Pipeline name stages) (xs, optional, some, whole) s =
    let names : Toks = names_by signs.Semicolon stages in
    let last : Toks = mark signs.CloseBrace ∷ mark signs.Semicolon ∷ [] in
    let t = subst AreSound whole s in
    let front : Replaces (names ++ xs) (names ++ []) = joined (names_again signs.Semicolon (λ n. refl) stages (sound_front names (xs ++ last) t.1.1.1.1)) (optional_left_out {sign = signs.Semicolon} (λ n. refl) optional) in
    let front' : Replaces (names ++ xs) names = subst (λ (l : Toks). Replaces (names ++ xs) l) (append-nil names) front in
    record {
      replaced = spelled_so (whole ∙ ap (λ (l : Toks). word keywords.Pipeline ∷ parts.Named name ∷ mark signs.Equal ∷ mark signs.OpenBrace ∷ l) (sym (append_assoc names xs last)))
          (behind (λ n. refl) t.0 (behind (λ n. refl) t.1.0 (behind (λ n. refl) (sound_sign signs.Equal) (in_braces front' (one (λ n. refl) (sound_sign signs.Semicolon))))));
      spelled = ([], inl refl, some, refl);
    }
resource_again ts (descriptions.Fields pipe fields) (xs, optional, whole) s =
    let t = subst AreSound whole s in
    record {
      replaced = spelled_so whole (behind (λ n. refl) t.0 (behind (λ n. refl) t.1.0 (behind (λ n. refl) t.1.1.0
          (in_braces (fields_again fields (sound_front (field_tokens fields) (mark signs.CloseBrace ∷ xs) t.1.1.1.1)) (optional_written {sign = signs.Semicolon} (λ n. refl) optional)))));
      spelled = (mark signs.Semicolon ∷ [], inr refl, refl);
    }

-- ---- declarations

instance_again : {ts : Toks} (name operation : List ℕ) → SpellsInstance ts (name, operation) → AreSound ts → IsAgain (λ us. SpellsInstance us (name, operation)) ts (instance_tokens (name, operation))
instance_again {ts = ts} name operation d s = go (pointwise nat_eq name operation) refl d
  where
    same_is : pointwise nat_eq name operation ≡ true → name ≡ operation
    same_is e = (slice_eq-Decides Decides-eqb name operation true (sym e)).0 refl

    go : (b : Bool) → pointwise nat_eq name operation ≡ b → SpellsInstance ts (name, operation)
        → IsAgain (λ us. SpellsInstance us (name, operation)) ts (cond b (parts.Named name ∷ []) (parts.Named name ∷ mark signs.Equal ∷ parts.Named operation ∷ []))
    go true e (inl whole) =
        let t = subst AreSound whole s in
        record {
          replaced = spelled_so whole (behind (λ n. refl) t.0 (left_out {xs = mark signs.Equal ∷ parts.Named operation ∷ []} (even_plain (λ n. refl) (even_plain (λ n. refl) even_none)) nothing));
          spelled = inr (same_is e, refl);
        }
    go true e (inr d) = let t = subst AreSound d.1 s in record { replaced = spelled_so d.1 (one (λ n. refl) t.0); spelled = inr (d.0, refl) }
    go false e (inl whole) =
        let t = subst AreSound whole s in
        record { replaced = spelled_so whole (behind (λ n. refl) t.0 (behind (λ n. refl) (sound_sign signs.Equal) (one (λ n. refl) t.1.1.0))); spelled = inl refl }
    go false e (inr d) = absurd (false≢true ((slice_eq-Decides Decides-eqb name operation false (sym e)).1 d.0))

instances_more : (a : List ℕ × List ℕ) {ys : Toks} {all : List (List ℕ × List ℕ)} → SpellsInstances ys all → instances_tokens (a ∷ all) ≡ instance_tokens a ++ (mark signs.Comma ∷ instances_tokens all)
instances_more a (items.one d) = refl
instances_more a (items.more d rest whole) = refl

instances_again : {ts : Toks} {all : List (List ℕ × List ℕ)} → SpellsInstances ts all → AreSound ts → IsAgain (λ us. SpellsInstances us all) ts (instances_tokens all)
instances_again (items.one {a = a} d) s = let h = instance_again a.0 a.1 d s in record { replaced = h.replaced; spelled = items.one h.spelled }
instances_again (items.more {ts = ts} {xs = xs} {ys = ys} {a = a} {all = all} d rest whole) s =
    let t = subst AreSound whole s in
    let h = instance_again a.0 a.1 d (sound_front xs (mark signs.Comma ∷ ys) t) in
    let k = instances_again rest (sound_back xs (mark signs.Comma ∷ ys) t).1 in
    subst (λ (us : Toks). IsAgain (λ us. SpellsInstances us (a ∷ all)) ts us) (sym (instances_more a rest))
    (record { replaced = spelled_so whole (joined h.replaced (behind (λ n. refl) (sound_sign signs.Comma) k.replaced)); spelled = items.more h.spelled k.spelled refl })

-- `word names ;`
named_again : (keyword : Keyword) (names : List (List ℕ)) → AreSound (word keyword ∷ (names_by signs.Comma names ++ mark signs.Semicolon ∷ []))
    → Replaces (word keyword ∷ (names_by signs.Comma names ++ mark signs.Semicolon ∷ [])) (word keyword ∷ (names_by signs.Comma names ++ mark signs.Semicolon ∷ []))
named_again keyword names s =
    behind (λ n. refl) (sound_word keyword)
    (joined (names_again signs.Comma (λ n. refl) names (sound_front (names_by signs.Comma names) (mark signs.Semicolon ∷ []) s.1)) (one (λ n. refl) (sound_sign signs.Semicolon)))

declare_again : EachAgain SpellsDeclare declare_tokens
declare_again ts (descriptions.Group names alternatives) (some, more, whole) s =
    let first : Toks = names_by signs.Comma names in
    let second : Toks = names_by signs.OrOr alternatives in
    let last : Toks = mark signs.CloseBrace ∷ mark signs.Semicolon ∷ [] in
    let t = subst AreSound whole s in
    let u = sound_back first (mark signs.Equal ∷ mark signs.OpenBrace ∷ (second ++ last)) t.1 in
    record {
      replaced = spelled_so whole
          (behind (λ n. refl) (sound_word keywords.Group) (joined (names_again signs.Comma (λ n. refl) names (sound_front first (mark signs.Equal ∷ mark signs.OpenBrace ∷ (second ++ last)) t.1))
          (behind (λ n. refl) (sound_sign signs.Equal) (in_braces (names_again signs.OrOr (λ n. refl) alternatives (sound_front second last u.1.1)) (one (λ n. refl) (sound_sign signs.Semicolon))))));
      spelled = (some, more, refl);
    }
declare_again ts (descriptions.Instance names) (xs, d, whole) s =
    let t = subst AreSound whole s in
    let h = instances_again d (sound_front xs (mark signs.Semicolon ∷ []) t.1) in
    record {
      replaced = spelled_so whole (behind (λ n. refl) (sound_word keywords.Instance) (joined h.replaced (one (λ n. refl) (sound_sign signs.Semicolon))));
      spelled = (instances_tokens names, h.spelled, refl);
    }
declare_again ts (descriptions.Label names) (some, whole) s = record { replaced = spelled_so whole (named_again keywords.Label names (subst AreSound whole s)); spelled = (some, refl) }
declare_again ts (descriptions.Reference names) (some, whole) s = record { replaced = spelled_so whole (named_again keywords.Reference names (subst AreSound whole s)); spelled = (some, refl) }

-- ---- codings

bits_again : {ts : Toks} (pattern : Pattern) → SpellsBits ts pattern → AreSound ts → IsAgain (λ us. SpellsBits us pattern) ts (pattern_tokens pattern)
bits_again {ts = ts} pattern (inl (whole, none)) s =
    let t = subst AreSound whole s in
    subst (λ (us : Toks). IsAgain (λ us. SpellsBits us pattern) ts us) (sym (ap (λ (o : Option ℕ). parts.Pattern pattern.digits ∷ times_tokens o) none))
    (record { replaced = spelled_so whole (one (λ n. refl) t.0); spelled = inl (refl, none) })
bits_again {ts = ts} pattern (inr (times, base, is, single, low, high, whole)) s =
    let t = subst AreSound whole s in
    subst (λ (us : Toks). IsAgain (λ us. SpellsBits us pattern) ts us) (sym (ap (λ (o : Option ℕ). parts.Pattern pattern.digits ∷ times_tokens o) is))
    (record {
      replaced = spelled_so whole
          (behind (λ n. refl) t.0 (in_squares {xs = parts.Number times base ∷ []} {xs' = parts.Number times bases.Decimal ∷ []} (instead (λ n. refl) (λ n. refl) (sound_decimal times base t.1.1.0) nothing) nothing));
      spelled = inr (times, bases.Decimal, is, single, low, high, refl);
    })

coding_item_again : EachAgain SpellsCodingItem coding_item_tokens
coding_item_again ts (codings.Bits pattern) d s = bits_again' pattern d s
  where
    bits_again' : {ts : Toks} (pattern : Pattern) → SpellsBits ts pattern → AreSound ts → IsAgain (λ us. SpellsCodingItem us (codings.Bits pattern)) ts (pattern_tokens pattern)
    bits_again' pattern d s = let h = bits_again pattern d s in record { replaced = h.replaced; spelled = h.spelled }
coding_item_again ts (codings.Field name pattern) (xs, d, whole) s =
    let t = subst AreSound whole s in
    let h = bits_again pattern d t.1.1 in
    record { replaced = spelled_so whole (behind (λ n. refl) t.0 (behind (λ n. refl) (sound_sign signs.Equal) h.replaced)); spelled = (pattern_tokens pattern, h.spelled, refl) }
coding_item_again ts (codings.Child name) d s = let t = subst AreSound d s in record { replaced = spelled_so d (one (λ n. refl) t.0); spelled = refl }

root_again : {ts : Toks} (place : ExprTree) → SpellsRootPlace ts place → AreSound ts → IsAgain (λ us. SpellsRootPlace us place) ts (bare_tokens place)
root_again (expressions.Input field) d s = let t = subst AreSound d s in record { replaced = spelled_so d (behind (λ n. refl) t.0 (behind (λ n. refl) t.1.0 (one (λ n. refl) t.1.1.0))); spelled = refl }
root_again (expressions.Named name) d s = let t = subst AreSound d s in record { replaced = spelled_so d (one (λ n. refl) t.0); spelled = refl }
root_again _ d s = absurd d

coding_again : {ts : Toks} (part : CodingTree) → SpellsCoding ts part → AreSound ts → IsAgain (λ us. SpellsCoding us part) ts (coding_tokens part)
coding_again (descriptions.Root place group) (xs, d, whole) s =
    let t = subst AreSound whole s in
    let h = root_again place d (sound_front xs (mark signs.EqualEqual ∷ parts.Named group ∷ []) t) in
    let u = sound_back xs (mark signs.EqualEqual ∷ parts.Named group ∷ []) t in
    record { replaced = spelled_so whole (joined h.replaced (behind (λ n. refl) (sound_sign signs.EqualEqual) (one (λ n. refl) u.1.0))); spelled = (bare_tokens place, h.spelled, refl) }
coding_again (descriptions.Items all) (some, d) s = let h = each_again SpellsCodingItem coding_item_tokens coding_item_again d s in record { replaced = h.replaced; spelled = (some, h.spelled) }

-- ---- texts

plain_format : (format : Format) → IsPlain (mark (format_sign format))
plain_format formats.Decimal n = refl
plain_format _ n = refl

part_again : (part : SyntaxPart) → AreSound (syntax_part_tokens part) → Replaces (syntax_part_tokens part) (syntax_part_tokens part)
part_again (syntaxes.Literal text) s = one (λ n. refl) s.0
part_again (syntaxes.Number label format) s = behind (λ n. refl) s.0 (behind (λ n. refl) (sound_sign signs.Equal) (one (plain_format format) (sound_sign (format_sign format))))
part_again (syntaxes.Child name) s = one (λ n. refl) s.0

joint_again : (is_joined : Bool) → Replaces (joint_tokens is_joined) (joint_tokens is_joined)
joint_again true = one (λ n. refl) (sound_sign signs.Tilde)
joint_again false = nothing

syntax_again : (all : List SyntaxItem) → AreSound (syntax_tokens all) → Replaces (syntax_tokens all) (syntax_tokens all)
syntax_again [] s = nothing
syntax_again (item ∷ rest) s =
    let t = sound_back (joint_tokens item.joined) (syntax_part_tokens item.part ++ syntax_tokens rest) s in
    joined (joint_again item.joined) (joined (part_again item.part (sound_front (syntax_part_tokens item.part) (syntax_tokens rest) t)) (syntax_again rest (sound_back (syntax_part_tokens item.part) (syntax_tokens rest) t)))

-- ---- sections

braced_again : (keyword : Keyword) {xs ys : Toks} → Replaces xs ys → Replaces (braced keyword xs) (braced keyword ys)
braced_again keyword h = behind (λ n. refl) (sound_word keyword) (in_braces h nothing)

inner : (keyword : Keyword) (xs : Toks) → AreSound (braced keyword xs) → AreSound xs
inner keyword xs s = sound_front xs (mark signs.CloseBrace ∷ []) s.1.1

section_again : EachAgain SpellsSection section_tokens
section_again ts (descriptions.Declares declares) (xs, d, whole) s =
    let h = each_again SpellsDeclare declare_tokens declare_again d (inner keywords.Declare xs (subst AreSound whole s)) in
    record { replaced = spelled_so whole (braced_again keywords.Declare h.replaced); spelled = (flat_map declare_tokens declares, h.spelled, refl) }
section_again ts (descriptions.Coding part) (xs, d, whole) s =
    let h = coding_again part d (inner keywords.Coding xs (subst AreSound whole s)) in
    record { replaced = spelled_so whole (braced_again keywords.Coding h.replaced); spelled = (coding_tokens part, h.spelled, refl) }
section_again ts (descriptions.Syntax all) (first, whole) s =
    record { replaced = spelled_so whole (braced_again keywords.Syntax (syntax_again all (inner keywords.Syntax (syntax_tokens all) (subst AreSound whole s)))); spelled = (first, refl) }
section_again ts (descriptions.Behavior all) (xs, d, whole) s =
    let h = stmts_again d (inner keywords.Behavior xs (subst AreSound whole s)) in
    record { replaced = spelled_so whole (braced_again keywords.Behavior h.replaced); spelled = (_, h.spelled, refl) }
section_again ts (descriptions.Expression e) (xs, d, whole) s =
    let h = whole_again d (inner keywords.Expression xs (subst AreSound whole s)) in
    record { replaced = spelled_so whole (braced_again keywords.Expression h.replaced); spelled = (_, h.spelled, refl) }
section_again ts (descriptions.Activation acts) (xs, d, whole) s =
    let h = acts_again d (inner keywords.Activation xs (subst AreSound whole s)) in
    record { replaced = spelled_so whole (braced_again keywords.Activation h.replaced); spelled = (_, h.spelled, refl) }

even_back : (xs ys : Toks) → HasEvenSemantics (xs ++ ys) → HasEvenSemantics ys
even_back xs ys h before b after e d = h (xs ++ before) b after (ap (λ (l : Toks). xs ++ l) e ∙ sym (append_assoc xs before (braced keywords.Semantics b ++ after))) d

even_front : (xs ys : Toks) → HasEvenSemantics (xs ++ ys) → HasEvenSemantics xs
even_front xs ys h before b after e d =
    h before b (after ++ ys)
    (ap (λ (l : Toks). l ++ ys) e ∙ append_assoc before (braced keywords.Semantics b ++ after) ys ∙ ap (λ (l : Toks). before ++ l) (append_assoc (braced keywords.Semantics b) after ys)) d

-- the same where something holds, as that the brackets of what is left out close themselves
pub record IsAgainWhere (P : Type 0) (S : Toks → Type 0) (ts us : Toks) : Type 0 where
  pub replaced : ReplacesWhere P ts us
  pub spelled : S us

-- so many as are open at a time in tokens that close themselves
even_section : (xs ys : Toks) → HasEvenSemantics (braced keywords.Semantics xs ++ ys) → IsBalanced xs → IsEven (braced keywords.Semantics xs) (max (suc (peak 0 xs)) 0)
even_section xs ys u balanced =
    even_plain {t = word keywords.Semantics} (λ n. refl) (even_within (mark signs.OpenBrace) (mark signs.CloseBrace) (λ n. refl) (λ n. refl) (even_of_closed xs (u [] xs ys refl balanced)) even_none)

sections_again : {P : Type 0} {ts : Toks} {all : List SectionTree} → SpellsSections ts all → AreSound ts → (P → HasEvenSemantics ts) → IsAgainWhere P (λ us. SpellsSections us all) ts (flat_map section_tokens all)
sections_again items.none s even = record { replaced = anywhere nothing; spelled = items.none }
sections_again {P = P} (items.semantics {ys = ys} xs balanced rest whole) s even =
    let t = subst AreSound whole s in
    let u : P → HasEvenSemantics (braced keywords.Semantics xs ++ ys) = λ p. subst HasEvenSemantics whole (even p) in
    let h = sections_again {P = P} rest (sound_back (braced keywords.Semantics xs) ys t) (λ p. even_back (braced keywords.Semantics xs) ys (u p)) in
    record { replaced = where_so whole (left_out_where (λ p. even_section xs ys (u p) balanced) h.replaced); spelled = h.spelled }
sections_again {P = P} (items.some {ys = ys} {a = a} xs d rest whole) s even =
    let t = subst AreSound whole s in
    let h = section_again xs a d (sound_front xs ys t) in
    let k = sections_again {P = P} rest (sound_back xs ys t) (λ p. even_back xs ys (subst HasEvenSemantics whole (even p))) in
    record { replaced = where_so whole (joined_where (anywhere h.replaced) k.replaced); spelled = items.some (section_tokens a) h.spelled k.spelled refl }

-- ---- operations and descriptions

alias_again : (alias : Bool) → Replaces (alias_tokens alias) (alias_tokens alias)
alias_again true = one (λ n. refl) (sound_word keywords.Alias)
alias_again false = nothing

stage_again : (stage : Option (List ℕ × List ℕ)) → AreSound (stage_tokens stage) → Replaces (stage_tokens stage) (stage_tokens stage)
stage_again None s = nothing
stage_again (Some stage) s = behind (λ n. refl) s.0 (behind (λ n. refl) s.1.0 (behind (λ n. refl) (sound_sign signs.Dot) (one (λ n. refl) s.1.1.1.0)))

operation_again : {P : Type 0} {ts : Toks} (o : OperationTree) → SpellsOperation ts o → AreSound ts → (P → HasEvenSemantics ts) → IsAgainWhere P (λ us. SpellsOperation us o) ts (operation_tokens o)
operation_again {P = P} o (xs, d, whole) s even =
    let body : Toks = mark signs.OpenBrace ∷ (xs ++ mark signs.CloseBrace ∷ []) in
    let head : Toks = word keywords.Operation ∷ parts.Named o.name ∷ (stage_tokens o.stage ++ body) in
    let t = sound_back (alias_tokens o.alias) head (subst AreSound whole s) in
    let inside = (sound_back (stage_tokens o.stage) body t.1.1).1 in
    let u : P → HasEvenSemantics xs = λ p.
    even_front xs (mark signs.CloseBrace ∷ [])
    (even_back (mark signs.OpenBrace ∷ []) (xs ++ mark signs.CloseBrace ∷ [])
    (even_back (stage_tokens o.stage) body
    (even_back (word keywords.Operation ∷ parts.Named o.name ∷ []) (stage_tokens o.stage ++ body) (even_back (alias_tokens o.alias) head (subst HasEvenSemantics whole (even p)))))) in
    let h = sections_again {P = P} d (sound_front xs (mark signs.CloseBrace ∷ []) inside) u in
    let named : Replaces (word keywords.Operation ∷ parts.Named o.name ∷ []) (word keywords.Operation ∷ parts.Named o.name ∷ []) = behind (λ n. refl) (sound_word keywords.Operation) (one (λ n. refl) t.1.0) in
    record {
      replaced = where_so whole
          (joined_where (anywhere (alias_again o.alias))
          (joined_where (anywhere named) (joined_where (anywhere (stage_again o.stage (sound_front (stage_tokens o.stage) body t.1.1))) (braces_where h.replaced))));
      spelled = (flat_map section_tokens o.sections, h.spelled, refl);
    }

operations_again : {P : Type 0} {ts : Toks} {all : List OperationTree} → Each SpellsOperation ts all → AreSound ts → (P → HasEvenSemantics ts) → IsAgainWhere P (λ us. Each SpellsOperation us all) ts (flat_map operation_tokens all)
operations_again items.none s even = record { replaced = anywhere nothing; spelled = items.none }
operations_again {P = P} (items.some {xs = xs} {ys = ys} {a = a} d rest whole) s even =
    let t = subst AreSound whole s in
    let u : P → HasEvenSemantics (xs ++ ys) = λ p. subst HasEvenSemantics whole (even p) in
    let h = operation_again {P = P} a d (sound_front xs ys t) (λ p. even_front xs ys (u p)) in
    let k = operations_again {P = P} rest (sound_back xs ys t) (λ p. even_back xs ys (u p)) in
    record { replaced = where_so whole (joined_where h.replaced k.replaced); spelled = items.some h.spelled k.spelled refl }

pub description_again : {ts : Toks} {d : DescriptionTree} → SpellsDescription ts d → AreSound ts → IsAgainWhere (HasEvenSemantics ts) (λ us. SpellsDescription us d) ts (description_tokens d)
description_again {ts = ts} {d = d} x s =
    let front : Toks = braced keywords.Resource x.resource_part in
    let t = subst AreSound x.whole s in
    let h = each_again SpellsResource resource_tokens resource_again x.spells_resources (inner keywords.Resource x.resource_part (sound_front front x.operation_part t)) in
    let k = operations_again {P = HasEvenSemantics ts} x.spells_operations (sound_back front x.operation_part t) (λ p. even_back front x.operation_part (subst HasEvenSemantics x.whole p)) in
    record {
      replaced = where_so x.whole (joined_where (anywhere (braced_again keywords.Resource h.replaced)) k.replaced);
      spelled = record {
        resource_part = flat_map resource_tokens d.resources;
        operation_part = flat_map operation_tokens d.operations;
        spells_resources = h.spelled;
        spells_operations = k.spelled;
        whole = refl;
      };
    }
