-- What is printed spells the module.
use Rattle.std.proofs.Common.{◌≡◌, ℕ, zero, suc, ◌-◌, ◌<◌, ◌≤◌, Bool, true, List, [], ◌∷◌, ◌++◌, length, refl, sym, ap, subst, ◌∙◌, arith, inl, inr, append_assoc}
use Rattle.std.proofs.lemmas.List.{append-nil}
use Rattle.std.specs.Prelude.{flat_map}
use Rattle.std.specs.Fmt.{decimal}
use Rattle.std.proofs.lemmas.Bool.{cases_lt, lt-ltb, le-ltb}
use Rattle.lisa_engine.specs.declared.parts.Item.{Item}
use Rattle.lisa_words.specs.declared.binary.Operator.{Operator}
use Rattle.lisa_words.specs.declared.binary.Operator.TheVariants as operators
use Rattle.lisa_words.specs.Operators.{level_of}
use Rattle.verilog_text.specs.declared.tokens.VKeyword.TheVariants as words
use Rattle.verilog_text.specs.declared.tokens.VSign.TheVariants as signs
use Rattle.verilog_text.specs.Tokens.{VToks, Named, Reserved, Plain, Mark}
use Rattle.verilog_text.specs.Trees as trees
use Rattle.verilog_text.specs.Trees.{VTree, VTrees, ActionTrees, SettingTree, MemberTree, ModuleTree, joined}
use Rattle.verilog_text.specs.Grammar as grammar
use Rattle.verilog_text.specs.Grammar.{SpellsVExpr, SpellsVParts, SpellsAction, SpellsActions, SpellsRange, SpellsInputs, SpellsMember, SpellsMembers, SpellsModule, setting_tokens}
use Rattle.std.proofs.lemmas.Fmt.{decimal_digit}
use Rattle.verilog_text.specs.Printing.{plain, own_level, wrapped, bare, shown, parts_tokens, more_tokens, action_tokens, range_tokens, member_tokens, input_tokens, module_tokens}

-- what is spelled at a level is spelled at each looser one
pub loosen : (k r : ℕ) (ts : VToks) (e : VTree) → k ≤ r → SpellsVExpr r ts e → SpellsVExpr k ts e
loosen k zero ts e le d = let same : 0 ≡ k = omega arith in rw (← same) d
loosen k (suc r) ts e le d =
    elim (cases_lt r k) [
      | inl lt ↦ (let same : suc r ≡ k = omega arith in rw (← same) d)
      | inr ge ↦ loosen k r ts e ge (grammar.tighter d)
    ]

pub level_small : (o : Operator) → level_of o ≤ 10
level_small operators.OneTrue = omega arith
level_small operators.BothTrue = omega arith
level_small operators.Or = omega arith
level_small operators.Xor = omega arith
level_small operators.And = omega arith
level_small operators.Equal = omega arith
level_small operators.Unequal = omega arith
level_small operators.Less = omega arith
level_small operators.LessEqual = omega arith
level_small operators.Greater = omega arith
level_small operators.GreaterEqual = omega arith
level_small operators.Left = omega arith
level_small operators.Right = omega arith
level_small operators.Add = omega arith
level_small operators.Sub = omega arith
level_small operators.Mul = omega arith

pub wrapped_spells : (r : ℕ) (e : VTree) (ts : VToks) → r ≤ 12 → SpellsVExpr (own_level e) ts e → SpellsVExpr r (wrapped r e ts) e
wrapped_spells r e ts le d =
    elim (cases_lt (own_level e) r) [
      | inl lt ↦ rw (lt-ltb (own_level e) r lt) (loosen r 12 _ e le (grammar.inside (loosen 0 (own_level e) ts e (omega arith) d) refl))
      | inr ge ↦ rw (le-ltb (own_level e) r ge) (loosen r (own_level e) ts e ge d)
    ]

pub more-is : {ts : VToks} {all : VTrees} → SpellsVParts ts all → more_tokens all ≡ Mark signs.Comma ∷ parts_tokens all
more-is (grammar.last d) = refl
more-is (grammar.more d ds is) = refl

mutual
  pub bare_spells : {l : ℕ} {ts : VToks} {e : VTree} → SpellsVExpr l ts e → SpellsVExpr (own_level e) (bare e) e
  bare_spells grammar.number = grammar.number
  bare_spells grammar.named = grammar.named
  bare_spells grammar.bit = grammar.part
  bare_spells grammar.part = grammar.part
  bare_spells (grammar.cell {index = index} d is) = grammar.cell (wrapped_spells 0 index (bare index) (omega arith) (bare_spells d)) refl
  bare_spells (grammar.join {all = all} ds is) = grammar.join (parts_spell ds) refl
  bare_spells (grammar.repeat {a = a} some d is) = grammar.repeat some (wrapped_spells 0 a (bare a) (omega arith) (bare_spells d)) refl
  bare_spells (grammar.inside d is) = bare_spells d
  bare_spells (grammar.one o {a = a} d) = grammar.one o (wrapped_spells 12 a (bare a) (omega arith) (bare_spells d))
  bare_spells (grammar.two o {a = a} {b = b} at c d is) =
      grammar.two o refl (wrapped_spells (level_of o) a (bare a) (omega (arith, level_small o)) (bare_spells c)) (wrapped_spells (suc (level_of o)) b (bare b) (omega (arith, level_small o)) (bare_spells d)) refl
  bare_spells (grammar.choose {c = c} {a = a} {b = b} x y z is) =
      grammar.choose (wrapped_spells 1 c (bare c) (omega arith) (bare_spells x)) (wrapped_spells 0 a (bare a) (omega arith) (bare_spells y)) (wrapped_spells 0 b (bare b) (omega arith) (bare_spells z)) refl
  bare_spells (grammar.tighter d) = bare_spells d

  pub parts_spell : {ts : VToks} {all : VTrees} → SpellsVParts ts all → SpellsVParts (parts_tokens all) all
  parts_spell (grammar.last {a = a} d) = subst (λ (l : VToks). SpellsVParts l (trees.Then a trees.End)) (sym (append-nil (shown 0 a))) (grammar.last (wrapped_spells 0 a (bare a) (omega arith) (bare_spells d)))
  parts_spell (grammar.more {a = a} {all = all} d ds is) =
      grammar.more (wrapped_spells 0 a (bare a) (omega arith) (bare_spells d)) (parts_spell ds) (ap (λ (l : VToks). shown 0 a ++ l) (more-is ds))

pub shown_spells : {l : ℕ} {ts : VToks} {e : VTree} (r : ℕ) → r ≤ 12 → SpellsVExpr l ts e → SpellsVExpr r (shown r e) e
shown_spells {e = e} r le d = wrapped_spells r e (bare e) le (bare_spells d)

-- ---- actions

pub joined_assoc : (a b c : ActionTrees) → joined (joined a b) c ≡ joined a (joined b c)
joined_assoc trees.Done b c = refl
joined_assoc (trees.Set name value rest) b c = ap (trees.Set name value) (joined_assoc rest b c)
joined_assoc (trees.Put name index value rest) b c = ap (trees.Put name index value) (joined_assoc rest b c)
joined_assoc (trees.If test this other rest) b c = ap (trees.If test this other) (joined_assoc rest b c)

pub action_tokens-joined : (a b : ActionTrees) → action_tokens (joined a b) ≡ action_tokens a ++ action_tokens b
action_tokens-joined trees.Done b = refl
action_tokens-joined (trees.Set name value rest) b = simp (append_assoc, action_tokens-joined rest b)
action_tokens-joined (trees.Put name index value rest) b = simp (append_assoc, action_tokens-joined rest b)
action_tokens-joined (trees.If test this other rest) b = simp (append_assoc, action_tokens-joined rest b)

pub join_spells : {xs ys : VToks} {a b : ActionTrees} → SpellsActions xs a → SpellsActions ys b → SpellsActions (xs ++ ys) (joined a b)
join_spells grammar.none e = e
join_spells {ys = zs} {b = b} (grammar.some {xs = xs} {ys = ys} {first = first} {rest = rest} d ds is all) e =
    grammar.some d (join_spells ds e) (ap (λ (l : VToks). l ++ zs) is ∙ append_assoc xs ys zs) (ap (λ (a : ActionTrees). joined a b) all ∙ joined_assoc first rest b)

-- one action alone
alone : {c : Bool} {xs : VToks} {a : ActionTrees} → SpellsAction c xs a → joined a trees.Done ≡ a → SpellsActions xs a
alone {xs = xs} d e = grammar.some d grammar.none (sym (append-nil xs)) (sym e)

block : {xs : VToks} {a : ActionTrees} → SpellsActions xs a → SpellsAction true (Reserved words.Begin ∷ (xs ++ Reserved words.End ∷ [])) a
block ds = grammar.block ds refl

if_spells : {l : ℕ} {ts : VToks} {test : VTree} (this other : ActionTrees) → SpellsVExpr l ts test → SpellsActions (action_tokens this) this → SpellsActions (action_tokens other) other
    → SpellsActions (action_tokens (trees.If test this other trees.Done)) (trees.If test this other trees.Done)
if_spells {test = test} this trees.Done d ds es =
    alone (grammar.when (shown_spells 0 (omega arith) d) (block ds) (simp append-nil)) refl
if_spells {test = test} this (trees.Set name value rest) d ds es =
    alone (grammar.choose (shown_spells 0 (omega arith) d) (block ds) (block es) (simp (append_assoc, append-nil))) refl
if_spells {test = test} this (trees.Put name index value rest) d ds es =
    alone (grammar.choose (shown_spells 0 (omega arith) d) (block ds) (block es) (simp (append_assoc, append-nil))) refl
if_spells {test = test} this (trees.If t a b rest) d ds es =
    alone (grammar.choose (shown_spells 0 (omega arith) d) (block ds) (block es) (simp (append_assoc, append-nil))) refl

mutual
  pub action_spells : {c : Bool} {ts : VToks} {a : ActionTrees} → SpellsAction c ts a → SpellsActions (action_tokens a) a
  action_spells (grammar.block ds is) = actions_spell ds
  action_spells (grammar.set d is) = alone (grammar.set (shown_spells 0 (omega arith) d) refl) refl
  action_spells (grammar.put d e is) = alone (grammar.put (shown_spells 0 (omega arith) d) (shown_spells 0 (omega arith) e) refl) refl
  action_spells (grammar.when {this = this} d ds is) = if_spells this trees.Done d (action_spells ds) grammar.none
  action_spells (grammar.choose {this = this} {other = other} d ds es is) = if_spells this other d (action_spells ds) (action_spells es)

  pub actions_spell : {ts : VToks} {a : ActionTrees} → SpellsActions ts a → SpellsActions (action_tokens a) a
  actions_spell grammar.none = grammar.none
  actions_spell (grammar.some {first = first} {rest = rest} {all = all} d ds is e) =
      subst (λ (a : ActionTrees). SpellsActions (action_tokens a) a) (sym e)
      (subst (λ (l : VToks). SpellsActions l (joined first rest)) (sym (action_tokens-joined first rest)) (join_spells (action_spells d) (actions_spell ds)))

-- ---- members

pub zero_digits : length (decimal 0) ≡ 1
zero_digits = ap length (decimal_digit 0 (omega arith))

wide : {ts : VToks} {width : ℕ} → SpellsRange ts width → 0 < width
wide grammar.absent = omega arith
wide grammar.present = omega arith

pub range_spells : {ts : VToks} {width : ℕ} → SpellsRange ts width → SpellsRange (range_tokens width) width
range_spells {width = width} d =
    let low : suc (width - 1) ≡ width = omega (arith, wide d) in
    subst (λ (k : ℕ). SpellsRange (Mark signs.OpenSquare ∷ plain (width - 1) ∷ Mark signs.Colon ∷ Plain 0 k ∷ Mark signs.CloseSquare ∷ []) width) (sym zero_digits)
    (subst (λ (k : ℕ). SpellsRange (Mark signs.OpenSquare ∷ plain (width - 1) ∷ Mark signs.Colon ∷ Plain 0 1 ∷ Mark signs.CloseSquare ∷ []) k) low (grammar.present {high = width - 1}))

pub member_spells : {ts : VToks} {m : MemberTree} → SpellsMember ts m → SpellsMember (member_tokens m) m
member_spells (grammar.reg d is) = grammar.reg (range_spells d) refl
member_spells (grammar.array {array = array} last digits d deep is) =
    let low : last ≡ array.depth - 1 = omega arith in
    grammar.array (array.depth - 1) (length (decimal (array.depth - 1))) (range_spells d) (omega arith)
    (ap (λ (k : ℕ). Reserved words.Reg ∷ (range_tokens array.width ++ Named array.name ∷ Mark signs.OpenSquare ∷ Plain 0 k ∷ Mark signs.Colon ∷ plain (array.depth - 1)
    ∷ Mark signs.CloseSquare ∷ Mark signs.Semicolon ∷ [])) zero_digits)
member_spells (grammar.wire d e is) = grammar.wire (range_spells d) (shown_spells 0 (omega arith) e) refl
member_spells (grammar.first {setting = setting}) = grammar.initial refl
member_spells (grammar.initial is) = grammar.initial refl
member_spells (grammar.always d is) = grammar.always (block (action_spells d)) refl

pub members_spell : {ts : VToks} {all : List MemberTree} → SpellsMembers ts all → SpellsMembers (flat_map member_tokens all) all
members_spell grammar.none = grammar.none
members_spell (grammar.some d ds is) = grammar.some (member_spells d) (members_spell ds) refl

pub inputs_spell : {ts : VToks} {all : List Item} → SpellsInputs ts all → SpellsInputs (flat_map input_tokens all) all
inputs_spell grammar.none = grammar.none
inputs_spell (grammar.some {item = item} {all = all} w d ds is) =
    grammar.some (inl refl) (range_spells d) (inputs_spell ds) (ap (λ (l : VToks). Mark signs.Comma ∷ Reserved words.Input ∷ l) (append_assoc (range_tokens item.width) (Named item.name ∷ []) (flat_map input_tokens all)))

pub module_spells : {ts : VToks} {m : ModuleTree} → SpellsModule ts m → SpellsModule (module_tokens m) m
module_spells {m = m} s = record {
  wire = [];
  is_wire = inl refl;
  input_part = flat_map input_tokens m.inputs;
  spells_inputs = inputs_spell s.spells_inputs;
  member_part = flat_map member_tokens m.members;
  spells_members = members_spell s.spells_members;
  whole = ap (λ (l : VToks). Reserved words.Module ∷ Named m.name ∷ Mark signs.OpenRound ∷ Reserved words.Input ∷ Named m.clock ∷ l)
      (append_assoc (flat_map input_tokens m.inputs) (Mark signs.CloseRound ∷ Mark signs.Semicolon ∷ []) (flat_map member_tokens m.members ++ Reserved words.EndModule ∷ []));
}
