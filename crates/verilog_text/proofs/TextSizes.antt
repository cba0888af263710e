-- How long the text of a module is.
use Rattle.std.proofs.Common.{◌≡◌, ℕ, suc, ◌+◌, ◌≤◌, List, [], ◌∷◌, ◌++◌, length, arith, inl, inr}
use Rattle.std.specs.Prelude.{flat_map}
use Rattle.std.specs.Fmt.{decimal}
use Rattle.std.proofs.lemmas.Bool.{cases_lt, lt-ltb, le-ltb}
use Rattle.std.proofs.lemmas.Fmt.{length-decimal-le}
use Rattle.std.proofs.lemmas.List.{length-append}
use Rattle.lisa_engine.specs.declared.parts.Item.{Item}
use Rattle.lisa_words.specs.Operators.{level_of}
use Rattle.verilog_text.specs.declared.tokens.VKeyword.TheVariants as words
use Rattle.verilog_text.specs.declared.tokens.VSign.{VSign}
use Rattle.verilog_text.specs.declared.tokens.VSign.TheVariants as signs
use Rattle.verilog_text.specs.Tokens.{VTok, VToks, Named, Reserved, Sized, Plain, Mark}
use Rattle.verilog_text.specs.Trees as trees
use Rattle.verilog_text.specs.Trees.{VTree, VTrees, ActionTrees, SettingTree, MemberTree, ModuleTree}
use Rattle.verilog_text.specs.Grammar.{vsign_of, setting_tokens}
use Rattle.verilog_text.specs.Lexing.{vword_text}
use Rattle.verilog_text.specs.Printing.{own_level, wrapped, bare, shown, parts_tokens, more_tokens, action_tokens, else_tokens, member_tokens, input_tokens, head_tokens, module_tokens, vsign_text, token_text, space_behind, piece_text, tokens_text, expr_size, parts_size, actions_size, settings_size, member_size, members_size, inputs_size, module_size}
use Rattle.verilog_text.proofs.TokenContents.{IsWritten, AreWritten}
use Rattle.verilog_text.proofs.WrittenTexts.{small_power}

-- how many bytes a token takes at most, with the white space behind it
abbrev tok_size : VTok → ℕ
tok_size (Named name) = 2 + length name
tok_size (Reserved keyword) = suc (length (vword_text keyword))
tok_size (Sized width value) = 25
tok_size (Plain value digits) = 11
tok_size (Mark sign) = 3

abbrev toks_size : VToks → ℕ
toks_size [] = 0
toks_size (t ∷ ts) = tok_size t + toks_size ts

toks_size-append : (xs ys : VToks) → toks_size (xs ++ ys) ≡ toks_size xs + toks_size ys
toks_size-append [] ys = omega arith
toks_size-append (t ∷ xs) ys = omega (arith, toks_size-append xs ys)

sign_short : (s : VSign) → length (vsign_text s) ≤ 2
sign_short signs.ShiftLeft = omega arith
sign_short signs.ShiftRight = omega arith
sign_short signs.LessEqual = omega arith
sign_short signs.GreaterEqual = omega arith
sign_short signs.EqualEqual = omega arith
sign_short signs.NotEqual = omega arith
sign_short signs.AndAnd = omega arith
sign_short signs.OrOr = omega arith
sign_short signs.Xnor = omega arith
sign_short _ = omega arith

text_short : (t : VTok) → IsWritten t → suc (length (token_text t)) ≤ tok_size t
text_short (Named name) h = omega arith
text_short (Reserved keyword) h = omega arith
text_short (Sized width value) h =
    omega (
      arith,
      length-append (decimal width) (39 ∷ 100 ∷ decimal value),
      length-decimal-le 2 width (omega arith) (omega (arith, h.1)) (omega (arith, h.1)),
      length-decimal-le 20 value (omega arith) (omega (arith, small_power width value h.1 h.2)) (small_power width value h.1 h.2),
    )
text_short (Plain value digits) h = omega (arith, length-decimal-le 10 value (omega arith) (omega (arith, h.0)) (omega (arith, h.0)))
text_short (Mark sign) h = omega (arith, sign_short sign)

texts_short : (ts : VToks) → AreWritten ts → length (tokens_text ts) ≤ toks_size ts
texts_short [] h = omega arith
texts_short (t ∷ ts) h = omega (arith, text_short t h.0, texts_short ts h.1, length-append (piece_text t) (tokens_text ts), length-append (token_text t) (space_behind t ∷ []))

wrapped_size : (r : ℕ) (e : VTree) (ts : VToks) → toks_size (wrapped r e ts) ≤ 6 + toks_size ts
wrapped_size r e ts =
    elim (cases_lt (own_level e) r) [
      | inl lt ↦ rw (lt-ltb (own_level e) r lt) (omega (arith, toks_size-append ts (Mark signs.CloseRound ∷ [])))
      | inr ge ↦ rw (le-ltb (own_level e) r ge) (omega arith)
    ]

mutual
  bare_size : (e : VTree) → 6 + toks_size (bare e) ≤ expr_size e
  bare_size (trees.Number width value) = omega arith
  bare_size (trees.Named name) = omega arith
  bare_size (trees.Bits name high low) = omega arith
  bare_size (trees.Cell name index) = omega (arith, wrapped_size 0 index (bare index), bare_size index, toks_size-append (shown 0 index) (Mark signs.CloseSquare ∷ []))
  bare_size (trees.One o a) = omega (arith, wrapped_size 12 a (bare a), bare_size a)
  bare_size (trees.Two o a b) = omega (arith, wrapped_size (level_of o) a (bare a), bare_size a, wrapped_size (suc (level_of o)) b (bare b), bare_size b, toks_size-append (shown (level_of o) a) (Mark (vsign_of o) ∷ shown (suc (level_of o)) b))
  bare_size (trees.Choose test this other) = omega (
    arith,
    wrapped_size 1 test (bare test),
    bare_size test,
    wrapped_size 0 this (bare this),
    bare_size this,
    wrapped_size 0 other (bare other),
    bare_size other,
    toks_size-append (shown 1 test) (Mark signs.Question ∷ (shown 0 this ++ (Mark signs.Colon ∷ shown 0 other))),
    toks_size-append (shown 0 this) (Mark signs.Colon ∷ shown 0 other),
  )
  bare_size (trees.Join parts) = omega (arith, parts_short parts, toks_size-append (parts_tokens parts) (Mark signs.CloseBrace ∷ []))
  bare_size (trees.Repeat times a) = omega (arith, wrapped_size 0 a (bare a), bare_size a, toks_size-append (shown 0 a) (Mark signs.CloseBrace ∷ Mark signs.CloseBrace ∷ []))

  parts_short : (parts : VTrees) → toks_size (parts_tokens parts) ≤ parts_size parts
  parts_short trees.End = omega arith
  parts_short (trees.Then e rest) = omega (arith, wrapped_size 0 e (bare e), bare_size e, more_short rest, toks_size-append (shown 0 e) (more_tokens rest))

  more_short : (parts : VTrees) → toks_size (more_tokens parts) ≤ parts_size parts
  more_short trees.End = omega arith
  more_short (trees.Then e rest) = omega (arith, wrapped_size 0 e (bare e), bare_size e, more_short rest, toks_size-append (shown 0 e) (more_tokens rest))

shown_size : (r : ℕ) (e : VTree) → toks_size (shown r e) ≤ expr_size e
shown_size r e = omega (arith, wrapped_size r e (bare e), bare_size e)

else_size : (other : ActionTrees) → toks_size (else_tokens other (action_tokens other)) ≤ 15 + toks_size (action_tokens other)
else_size trees.Done = omega arith
else_size (trees.Set name value rest) = omega (arith, toks_size-append (action_tokens (trees.Set name value rest)) (Reserved words.End ∷ []))
else_size (trees.Put name index value rest) = omega (arith, toks_size-append (action_tokens (trees.Put name index value rest)) (Reserved words.End ∷ []))
else_size (trees.If test this other rest) = omega (arith, toks_size-append (action_tokens (trees.If test this other rest)) (Reserved words.End ∷ []))

actions_short : (a : ActionTrees) → toks_size (action_tokens a) ≤ actions_size a
actions_short trees.Done = omega arith
actions_short (trees.Set name value rest) = omega (arith, shown_size 0 value, actions_short rest, toks_size-append (shown 0 value) (Mark signs.Semicolon ∷ action_tokens rest))
actions_short (trees.Put name index value rest) =
    omega (
      arith,
      shown_size 0 index,
      shown_size 0 value,
      actions_short rest,
      toks_size-append (shown 0 index) (Mark signs.CloseSquare ∷ Mark signs.LessEqual ∷ (shown 0 value ++ (Mark signs.Semicolon ∷ action_tokens rest))),
      toks_size-append (shown 0 value) (Mark signs.Semicolon ∷ action_tokens rest),
    )
actions_short (trees.If test this other rest) =
    let behind : VToks = else_tokens other (action_tokens other) ++ action_tokens rest in
    omega (
      arith,
      shown_size 0 test,
      actions_short this,
      actions_short other,
      actions_short rest,
      else_size other,
      toks_size-append (shown 0 test) (Mark signs.CloseRound ∷ Reserved words.Begin ∷ (action_tokens this ++ (Reserved words.End ∷ behind))),
      toks_size-append (action_tokens this) (Reserved words.End ∷ behind),
      toks_size-append (else_tokens other (action_tokens other)) (action_tokens rest),
    )

settings_short : (all : List SettingTree) → toks_size (flat_map setting_tokens all) ≤ settings_size all
settings_short [] = omega arith
settings_short (s ∷ all) = omega (arith, settings_short all)

member_short : (m : MemberTree) → toks_size (member_tokens m) ≤ member_size m
member_short (trees.Reg item) = omega arith
member_short (trees.Array array) = omega arith
member_short (trees.Wire item value) = omega (arith, shown_size 0 value, toks_size-append (shown 0 value) (Mark signs.Semicolon ∷ []))
member_short (trees.Initial all) = omega (arith, settings_short all, toks_size-append (flat_map setting_tokens all) (Reserved words.End ∷ []))
member_short (trees.Always clock actions) = omega (arith, actions_short actions, toks_size-append (action_tokens actions) (Reserved words.End ∷ []))

members_short : (all : List MemberTree) → toks_size (flat_map member_tokens all) ≤ members_size all
members_short [] = omega arith
members_short (m ∷ all) = omega (arith, member_short m, members_short all, toks_size-append (member_tokens m) (flat_map member_tokens all))

inputs_short : (all : List Item) → toks_size (flat_map input_tokens all) ≤ inputs_size all
inputs_short [] = omega arith
inputs_short (item ∷ all) = omega (arith, inputs_short all)

pub module_short : (m : ModuleTree) → AreWritten (module_tokens m) → length (tokens_text (module_tokens m)) ≤ module_size m
module_short m h =
    omega (
      arith,
      texts_short (module_tokens m) h,
      inputs_short m.inputs,
      members_short m.members,
      toks_size-append (head_tokens m) (flat_map member_tokens m.members ++ Reserved words.EndModule ∷ []),
      toks_size-append (flat_map member_tokens m.members) (Reserved words.EndModule ∷ []),
      toks_size-append (flat_map input_tokens m.inputs) (Mark signs.CloseRound ∷ Mark signs.Semicolon ∷ []),
    )
