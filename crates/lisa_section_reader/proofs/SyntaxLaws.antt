-- Syntaxes are read as they are spelled.
use Rattle.std.proofs.Common.{◌≡◌, ℕ, ◌<◌, Bool, true, false, List, [], ◌∷◌, ◌++◌, length, Option, Some, refl, sym, ap, subst, ◌∙◌, append_assoc, arith}
use Rattle.lisa_tree.specs.declared.tokens.Sign.{Sign}
use Rattle.lisa_tree.specs.declared.tokens.Sign.TheVariants as signs
use Rattle.lisa_tree.specs.declared.tokens.TokenPart.TheVariants as parts
use Rattle.lisa_tree.specs.declared.descriptions.Format.{Format}
use Rattle.lisa_tree.specs.declared.descriptions.Format.TheVariants as formats
use Rattle.lisa_tree.specs.declared.descriptions.SyntaxItem.{SyntaxItem}
use Rattle.lisa_tree.specs.declared.descriptions.SyntaxPart.{SyntaxPart}
use Rattle.lisa_tree.specs.declared.descriptions.SyntaxPart.TheVariants as syntaxes
use Rattle.lisa_tree.specs.Grammar.{Toks, mark}
use Rattle.lisa_tree.specs.DescriptionGrammar.{format_sign, syntax_part_tokens, joint_tokens, syntax_tokens, IsSyntax}
use Rattle.lisa_words.specs.Many.{Each, none, some, many, with_front}
use Rattle.lisa_words.specs.Steps.{◌>>=◌}
use Rattle.lisa_words.proofs.StepLaws.{bind_some, some_is}
use Rattle.lisa_words.proofs.ManyLaws.{Shrinks, Takes, shrinks_from, many_sound, IsItem, many_complete}
use Rattle.lisa_behav_reader.specs.declared.misses.Missed.{Missed}
use Rattle.lisa_behav_reader.specs.declared.misses.Missed.TheVariants as misses
use Rattle.lisa_behav_reader.specs.Gives.{Fails}
use Rattle.lisa_section_reader.specs.Resources.{ends}
use Rattle.lisa_section_reader.specs.Syntaxes.{format_of, number_format_of, label_of, part_of, joined_item, alone_of, syntax_item_of, syntax_items_of, syntax_of}

-- ---- parts

abbrev IsPart : Toks → SyntaxPart → Type 0
IsPart ts part = ts ≡ syntax_part_tokens part

format_is : (sign : Sign) (format : Format) → format_of sign ≡ Some format → sign ≡ format_sign format
format_is signs.DecimalFormat format e = ap format_sign (some_is formats.Decimal format e)
format_is signs.SignedFormat format e = ap format_sign (some_is formats.SignedDecimal format e)
format_is signs.HexadecimalFormat format e = ap format_sign (some_is formats.Hexadecimal format e)
format_is _ format e = absurd cc

number_sound : (label : List ℕ) (ts : Toks) (x : SyntaxPart × Toks) → number_format_of label ts ≡ Some x → Takes IsPart (parts.Named label ∷ mark signs.Equal ∷ ts) x
number_sound label (parts.Sign sign ∷ ts) x e =
    let p = bind_some (format_of sign) (λ format. Some (syntaxes.Number label format, ts)) x e in
    let made : SyntaxPart × Toks = (syntaxes.Number label p.0, ts) in
    subst (λ (y : SyntaxPart × Toks). Takes IsPart (parts.Named label ∷ mark signs.Equal ∷ mark sign ∷ ts) y) (some_is made x p.2) (record {
      front = parts.Named label ∷ mark signs.Equal ∷ mark (format_sign p.0) ∷ [];
      parts = ap (λ (s : Sign). parts.Named label ∷ mark signs.Equal ∷ mark s ∷ ts) (format_is sign p.0 p.1);
      some = omega arith;
      spells = refl;
    })
number_sound label _ x e = absurd cc

label_sound : (name : List ℕ) (ts : Toks) (x : SyntaxPart × Toks) → label_of name ts ≡ Some x → Takes IsPart (parts.Named name ∷ ts) x
label_sound name (parts.Sign signs.Equal ∷ ts) x e = number_sound name ts x e
label_sound name ts x e =
    subst (λ (y : SyntaxPart × Toks). Takes IsPart (parts.Named name ∷ ts) y) (some_is (syntaxes.Child name, ts) x e)
    (record { front = parts.Named name ∷ []; parts = refl; some = omega arith; spells = refl })

part_sound : (ts : Toks) (x : SyntaxPart × Toks) → part_of ts ≡ Some x → Takes IsPart ts x
unfolding part_of
part_sound (parts.Text text ∷ ts) x e =
    subst (λ (y : SyntaxPart × Toks). Takes IsPart (parts.Text text ∷ ts) y) (some_is (syntaxes.Literal text, ts) x e)
    (record { front = parts.Text text ∷ []; parts = refl; some = omega arith; spells = refl })
part_sound (parts.Named name ∷ ts) x e = label_sound name ts x e
part_sound _ x e = absurd cc

-- an element or a `}` stands in front
abbrev begins : Toks → Bool
begins (parts.Text text ∷ ts) = true
begins (parts.Named name ∷ ts) = true
begins (parts.Sign signs.Tilde ∷ ts) = true
begins (parts.Sign signs.CloseBrace ∷ ts) = true
begins _ = false

label_none : (name : List ℕ) (ts : Toks) → begins ts ≡ true → label_of name ts ≡ Some (syntaxes.Child name, ts)
label_none name (parts.Sign signs.Equal ∷ ts) b = absurd cc
label_none name ts b = refl

part_there : (part : SyntaxPart) (rest : Toks) → begins rest ≡ true → part_of (syntax_part_tokens part ++ rest) ≡ Some (part, rest)
unfolding part_of
part_there (syntaxes.Literal text) rest b = refl
part_there (syntaxes.Number label formats.Decimal) rest b = refl
part_there (syntaxes.Number label formats.SignedDecimal) rest b = refl
part_there (syntaxes.Number label formats.Hexadecimal) rest b = refl
part_there (syntaxes.Child name) rest b = label_none name rest b

-- ---- elements

abbrev item_tokens : SyntaxItem → Toks
item_tokens item = joint_tokens item.joined ++ syntax_part_tokens item.part

abbrev IsElement : Toks → SyntaxItem → Type 0
IsElement ts item = ts ≡ item_tokens item

-- an element that isn't joined, or the rest of one that is
alone_sound : (joined : Bool) (ts : Toks) (x : SyntaxItem × Toks) → alone_of joined ts ≡ Some x → (x.0.joined ≡ joined) × (ts ≡ syntax_part_tokens x.0.part ++ x.1) × (0 < length (syntax_part_tokens x.0.part))
unfolding alone_of
alone_sound joined ts x e =
    let p = bind_some (part_of ts) (λ part. Some (joined_item joined part.0, part.1)) x e in
    let t = part_sound ts p.0 p.1 in
    let made : SyntaxItem × Toks = (joined_item joined p.0.0, p.0.1) in
    subst (λ (y : SyntaxItem × Toks). (y.0.joined ≡ joined) × (ts ≡ syntax_part_tokens y.0.part ++ y.1) × (0 < length (syntax_part_tokens y.0.part))) (some_is made x p.2)
    (refl, t.parts ∙ ap (λ (l : Toks). l ++ p.0.1) t.spells, subst (λ (l : Toks). 0 < length l) t.spells t.some)

plain_item_sound : (ts : Toks) (x : SyntaxItem × Toks) → alone_of false ts ≡ Some x → Takes IsElement ts x
plain_item_sound ts x e =
    let a = alone_sound false ts x e in
    let same : syntax_part_tokens x.0.part ≡ item_tokens x.0 = ap (λ (b : Bool). joint_tokens b ++ syntax_part_tokens x.0.part) (sym a.0) in
    record { front = syntax_part_tokens x.0.part; parts = a.1; some = a.2; spells = same }

joined_item_sound : (ts : Toks) (x : SyntaxItem × Toks) → alone_of true ts ≡ Some x → Takes IsElement (mark signs.Tilde ∷ ts) x
joined_item_sound ts x e =
    let a = alone_sound true ts x e in
    let same : mark signs.Tilde ∷ syntax_part_tokens x.0.part ≡ item_tokens x.0 = ap (λ (b : Bool). joint_tokens b ++ syntax_part_tokens x.0.part) (sym a.0) in
    record { front = mark signs.Tilde ∷ syntax_part_tokens x.0.part; parts = ap (λ (l : Toks). mark signs.Tilde ∷ l) a.1; some = omega arith; spells = same }

item_sound : (ts : Toks) (x : SyntaxItem × Toks) → syntax_item_of ts ≡ Some x → Takes IsElement ts x
unfolding syntax_item_of
item_sound (parts.Sign signs.Tilde ∷ ts) x e = joined_item_sound ts x e
item_sound ts x e = plain_item_sound ts x e

pub item_shrinks : Shrinks syntax_item_of
item_shrinks = shrinks_from IsElement syntax_item_of item_sound

alone_there : (joined : Bool) (part : SyntaxPart) (rest : Toks) → begins rest ≡ true → alone_of joined (syntax_part_tokens part ++ rest) ≡ Some (joined_item joined part, rest)
unfolding alone_of
alone_there joined part rest b = ap (λ (o : Option (SyntaxPart × Toks)). o >>= λ part. Some (joined_item joined part.0, part.1)) (part_there part rest b)

-- what is asked of a part's first token
part_first : (P : Toks → Bool) (b : Bool) → ((text : List ℕ) (ts : Toks) → P (parts.Text text ∷ ts) ≡ b) → ((name : List ℕ) (ts : Toks) → P (parts.Named name ∷ ts) ≡ b)
    → (part : SyntaxPart) (rest : Toks) → P (syntax_part_tokens part ++ rest) ≡ b
part_first P b at_text at_name (syntaxes.Literal text) rest = at_text text rest
part_first P b at_text at_name (syntaxes.Number label format) rest = at_name label _
part_first P b at_text at_name (syntaxes.Child name) rest = at_name name rest

-- a part without `~` is read as an element
plain_is : (part : SyntaxPart) (rest : Toks) → syntax_item_of (syntax_part_tokens part ++ rest) ≡ alone_of false (syntax_part_tokens part ++ rest)
unfolding syntax_item_of
plain_is (syntaxes.Literal text) rest = refl
plain_is (syntaxes.Number label format) rest = refl
plain_is (syntaxes.Child name) rest = refl

read_item : (joined : Bool) (part : SyntaxPart) (rest : Toks) → begins rest ≡ true → syntax_item_of ((joint_tokens joined ++ syntax_part_tokens part) ++ rest) ≡ Some (joined_item joined part, rest)
unfolding syntax_item_of
read_item true part rest b = alone_there true part rest b
read_item false part rest b = plain_is part rest ∙ alone_there false part rest b

item_there : (xs rest : Toks) (a : SyntaxItem) → IsElement xs a → begins rest ≡ true → syntax_item_of (xs ++ rest) ≡ Some (a, rest)
item_there xs rest a is b = ap (λ (l : Toks). syntax_item_of (l ++ rest)) is ∙ read_item a.joined a.part rest b

-- what is asked of an element's first token
first_is : (P : Toks → Bool) (b : Bool) → ((ts : Toks) → P (mark signs.Tilde ∷ ts) ≡ b) → ((text : List ℕ) (ts : Toks) → P (parts.Text text ∷ ts) ≡ b) → ((name : List ℕ) (ts : Toks) → P (parts.Named name ∷ ts) ≡ b)
    → (joined : Bool) (part : SyntaxPart) (rest : Toks) → P ((joint_tokens joined ++ syntax_part_tokens part) ++ rest) ≡ b
first_is P b at_tilde at_text at_name true part rest = at_tilde (syntax_part_tokens part ++ rest)
first_is P b at_tilde at_text at_name false part rest = part_first P b at_text at_name part rest

item_goes : (xs rest : Toks) (a : SyntaxItem) → IsElement xs a → ends (xs ++ rest) ≡ false
item_goes xs rest a is = ap (λ (l : Toks). ends (l ++ rest)) is ∙ first_is ends false (λ ts. refl) (λ text ts. refl) (λ name ts. refl) a.joined a.part rest

item_begins : (xs rest : Toks) (a : SyntaxItem) → IsElement xs a → begins (xs ++ rest) ≡ true
item_begins xs rest a is = ap (λ (l : Toks). begins (l ++ rest)) is ∙ first_is begins true (λ ts. refl) (λ text ts. refl) (λ name ts. refl) a.joined a.part rest

end_begins : (rest : Toks) → ends rest ≡ true → begins rest ≡ true
end_begins (parts.Sign signs.CloseBrace ∷ rest) e = refl
end_begins _ e = absurd cc

syntax_item : IsItem IsElement syntax_item_of ends (λ ts. begins ts ≡ true)
syntax_item = record { shrinks = item_shrinks; reads = item_there; goes = item_goes; before = item_begins; at_stop = end_begins }

-- ---- syntaxes

items_each : (all : List SyntaxItem) → Each IsElement (syntax_tokens all) all
items_each [] = none
items_each (item ∷ all) = some refl (items_each all) (sym (append_assoc (joint_tokens item.joined) (syntax_part_tokens item.part) (syntax_tokens all)))

each_items : {ts : Toks} {all : List SyntaxItem} → Each IsElement ts all → ts ≡ syntax_tokens all
each_items none = refl
each_items (some {ys = ys} {a = item} {all = all} d f is) =
    is ∙ ap (λ (l : Toks). l ++ ys) d ∙ append_assoc (joint_tokens item.joined) (syntax_part_tokens item.part) ys
    ∙ ap (λ (l : Toks). joint_tokens item.joined ++ (syntax_part_tokens item.part ++ l)) (each_items f)

-- a syntax was taken
pub record TakesSyntax (ts : Toks) (x : List SyntaxItem × Toks) : Type 0 where
  pub spells : IsSyntax x.0
  pub parts : ts ≡ syntax_tokens x.0 ++ x.1
  pub stopped : ends x.1 ≡ true

pub syntax_sound : (ts : Toks) (x : List SyntaxItem × Toks) → syntax_of ts ≡ Some x → TakesSyntax ts x
unfolding syntax_of syntax_items_of
syntax_sound ts x e =
    let p = bind_some (alone_of false ts) (λ first. syntax_items_of first.1 >>= λ more. Some (first.0 ∷ more.0, more.1)) x e in
    let q = bind_some (syntax_items_of p.0.1) (λ more. Some (p.0.0 ∷ more.0, more.1)) x p.2 in
    let a = alone_sound false ts p.0 p.1 in
    let t = plain_item_sound ts p.0 p.1 in
    let u = many_sound IsElement syntax_item_of ends item_sound p.0.1 q.0 q.1 in
    let whole : Each IsElement (t.front ++ u.front) (p.0.0 ∷ q.0.0) = some t.spells u.spells refl in
    let made : List SyntaxItem × Toks = (p.0.0 ∷ q.0.0, q.0.1) in
    subst (λ (y : List SyntaxItem × Toks). TakesSyntax ts y) (some_is made x q.2) (record {
      spells = a.0;
      parts = t.parts ∙ ap (λ (l : Toks). t.front ++ l) u.parts ∙ sym (append_assoc t.front u.front q.0.1) ∙ ap (λ (l : Toks). l ++ q.0.1) (each_items whole);
      stopped = u.stopped;
    })

each_begins : {ts : Toks} {all : List SyntaxItem} → Each IsElement ts all → (rest : Toks) → ends rest ≡ true → begins (ts ++ rest) ≡ true
each_begins none rest e = end_begins rest e
each_begins (some {xs = xs} {ys = ys} {a = a} d f is) rest e = ap (λ (l : Toks). begins (l ++ rest)) is ∙ ap begins (append_assoc xs ys rest) ∙ item_begins xs (ys ++ rest) a d

-- the first element
first_there : (joined : Bool) (part : SyntaxPart) (rest : Toks) → joined ≡ false → begins rest ≡ true → alone_of false (joint_tokens joined ++ (syntax_part_tokens part ++ rest)) ≡ Some (joined_item joined part, rest)
first_there true part rest e b = absurd cc
first_there false part rest e b = alone_there false part rest b

pub syntax_there : (all : List SyntaxItem) (rest : Toks) → IsSyntax all → ends rest ≡ true → syntax_of (syntax_tokens all ++ rest) ≡ Some (all, rest)
unfolding syntax_of syntax_items_of
syntax_there [] rest d e = absurd d
syntax_there (item ∷ all) rest d e =
    let more = items_each all in
    let inner : Toks = syntax_tokens all ++ rest in
    let regrouped : syntax_tokens (item ∷ all) ++ rest ≡ joint_tokens item.joined ++ (syntax_part_tokens item.part ++ inner) =
    append_assoc (joint_tokens item.joined) (syntax_part_tokens item.part ++ syntax_tokens all) rest
    ∙ ap (λ (l : Toks). joint_tokens item.joined ++ l) (append_assoc (syntax_part_tokens item.part) (syntax_tokens all) rest) in
    ap syntax_of regrouped
    ∙ ap (λ (o : Option (SyntaxItem × Toks)). o >>= λ first. syntax_items_of first.1 >>= λ more. Some (first.0 ∷ more.0, more.1)) (first_there item.joined item.part inner d (each_begins more rest e))
    ∙ ap (λ (o : Option (List SyntaxItem × Toks)). o >>= λ more. Some (item ∷ more.0, more.1)) (many_complete syntax_item more rest e)

-- ---- the loop over elements

pub syntax_start : (ts after : Toks) (first : SyntaxItem) → alone_of false ts ≡ Some (first, after) → with_front (first ∷ []) (many syntax_item_of ends after) ≡ syntax_of ts
unfolding syntax_of syntax_items_of
syntax_start ts after first e = sym (ap (λ (o : Option (SyntaxItem × Toks)). o >>= λ first. syntax_items_of first.1 >>= λ more. Some (first.0 ∷ more.0, more.1)) e)

pub syntax_fail : (ts : Toks) (e : Missed) → Fails e (alone_of false ts) → Fails e (syntax_of ts)
unfolding syntax_of
syntax_fail ts misses.NoMemory h = tt
syntax_fail ts (misses.At left) h = ap (λ (o : Option (SyntaxItem × Toks)). o >>= λ first. syntax_items_of first.1 >>= λ more. Some (first.0 ∷ more.0, more.1)) h
