-- What is printed has no more brackets open than what was read.
use Rattle.std.proofs.Common.{◌≡◌, ℕ, suc, ◌≤◌, Bool, List, [], ◌∷◌, ◌++◌, refl, sym, ap, subst, ◌∙◌, arith, inl, inr, max}
use Rattle.std.specs.Prelude.{flat_map}
use Rattle.std.proofs.lemmas.Bool.{cases_lt, lt-ltb, le-ltb}
use Rattle.std.proofs.lemmas.List.{append-nil}
use Rattle.lisa_engine.specs.declared.parts.Item.{Item}
use Rattle.lisa_words.specs.declared.binary.Operator.{Operator}
use Rattle.lisa_words.specs.declared.binary.Operator.TheVariants as operators
use Rattle.lisa_words.specs.Operators.{level_of}
use Rattle.verilog_text.specs.declared.expressions.VOne.{VOne}
use Rattle.verilog_text.specs.declared.expressions.VOne.TheVariants as ones
use Rattle.verilog_text.specs.declared.tokens.VKeyword.TheVariants as words
use Rattle.verilog_text.specs.declared.tokens.VSign.{VSign}
use Rattle.verilog_text.specs.declared.tokens.VSign.TheVariants as signs
use Rattle.verilog_text.specs.Tokens.{VTok, VToks, Named, Reserved, Sized, Plain, Mark}
use Rattle.verilog_text.specs.Trees as trees
use Rattle.verilog_text.specs.Trees.{VTree, VTrees, ActionTrees, SettingTree, MemberTree, ModuleTree, joined}
use Rattle.verilog_text.specs.Grammar as grammar
use Rattle.verilog_text.specs.Grammar.{vsign_of, vone_sign, SpellsVExpr, SpellsVParts, SpellsAction, SpellsActions, SpellsRange, SpellsInputs, SpellsMember, SpellsMembers, SpellsModule, IsOptionalWire, setting_tokens}
use Rattle.verilog_text.specs.Spelling.{open_at, open_after, most_open}
use Rattle.verilog_text.specs.Printing.{own_level, bare, shown, parts_tokens, action_tokens, else_tokens, member_tokens, input_tokens, head_tokens, module_tokens}
use Rattle.verilog_text.proofs.SpelledTokens.{level_small, shown_spells, bare_spells, more-is, parts_spell, action_spells, action_tokens-joined, member_spells, members_spell, inputs_spell}

-- how many brackets are open behind the tokens
abbrev pub after : ℕ → VToks → ℕ
after n [] = n
after n (t ∷ ts) = after (open_after n t) ts

pub after-append : (n : ℕ) (xs ys : VToks) → after n (xs ++ ys) ≡ after (after n xs) ys
after-append n [] ys = refl
after-append n (t ∷ xs) ys = after-append (open_after n t) xs ys

pub most_least : (n : ℕ) (ts : VToks) → n ≤ most_open n ts
most_least n [] = omega arith
most_least n (t ∷ ts) = omega arith

pub most_open-append : (n : ℕ) (xs ys : VToks) → most_open n (xs ++ ys) ≡ max (most_open n xs) (most_open (after n xs) ys)
most_open-append n [] ys = omega (arith, most_least n ys)
most_open-append n (t ∷ xs) ys = omega (arith, most_open-append (open_after n t) xs ys)

sign_grows : (a b : ℕ) (s : VSign) → a ≤ b → open_at a s ≤ open_at b s
sign_grows a b signs.OpenRound le = omega arith
sign_grows a b signs.OpenSquare le = omega arith
sign_grows a b signs.OpenBrace le = omega arith
sign_grows a b signs.CloseRound le = omega arith
sign_grows a b signs.CloseSquare le = omega arith
sign_grows a b signs.CloseBrace le = omega arith
sign_grows a b _ le = le

pub most_grows : (a b : ℕ) (ts : VToks) → a ≤ b → most_open a ts ≤ most_open b ts
most_grows a b [] le = le
most_grows a b (Mark s ∷ ts) le = omega (arith, most_grows (open_at a s) (open_at b s) ts (sign_grows a b s le))
most_grows a b (Named name ∷ ts) le = omega (arith, most_grows a b ts le)
most_grows a b (Reserved keyword ∷ ts) le = omega (arith, most_grows a b ts le)
most_grows a b (Sized width value ∷ ts) le = omega (arith, most_grows a b ts le)
most_grows a b (Plain value digits ∷ ts) le = omega (arith, most_grows a b ts le)

-- tokens that leave as many brackets open as there were
pub record IsEven (ts : VToks) : Type 0 where
  pub same : (n : ℕ) → after n ts ≡ n

pub even : (ts : VToks) → ((n : ℕ) → after n ts ≡ n) → IsEven ts
even ts f = record { same = f }

-- and that have no more open at any of them than others
pub record IsBelow (xs ys : VToks) : Type 0 where
  pub most : (n : ℕ) → most_open n xs ≤ most_open n ys

pub below : (xs ys : VToks) → ((n : ℕ) → most_open n xs ≤ most_open n ys) → IsBelow xs ys
below xs ys f = record { most = f }

-- a token that is no bracket
abbrev pub IsNeutral : VTok → Type 0
IsNeutral t = (n : ℕ) → open_after n t ≡ n

pub even_append : (xs ys : VToks) → IsEven xs → IsEven ys → IsEven (xs ++ ys)
even_append xs ys e f = even (xs ++ ys) (λ n. after-append n xs ys ∙ ap (λ (k : ℕ). after k ys) (e.same n) ∙ f.same n)

pub even_token : (t : VTok) (ts : VToks) → IsNeutral t → IsEven ts → IsEven (t ∷ ts)
even_token t ts same e = even (t ∷ ts) (λ n. ap (λ (k : ℕ). after k ts) (same n) ∙ e.same n)

pub even_nil : IsEven []
even_nil = even [] (λ n. refl)

-- one token that is no bracket
pub even_one : (t : VTok) → IsNeutral t → IsEven (t ∷ [])
even_one t same = even (t ∷ []) same

pub even_closed : (o c : VTok) (xs ys : VToks) → ((n : ℕ) → open_after n o ≡ suc n) → ((n : ℕ) → open_after (suc n) c ≡ n) → IsEven xs → IsEven ys → IsEven (o ∷ (xs ++ (c ∷ ys)))
even_closed o c xs ys opens closes e f = even (o ∷ (xs ++ (c ∷ ys))) (λ n.
    ap (λ (k : ℕ). after k (xs ++ (c ∷ ys))) (opens n) ∙ after-append (suc n) xs (c ∷ ys) ∙ ap (λ (k : ℕ). after k (c ∷ ys)) (e.same (suc n)) ∙ ap (λ (k : ℕ). after k ys) (closes n) ∙ f.same n)

pub below_nil : IsBelow [] []
below_nil = below [] [] (λ n. omega arith)

pub below_same : (ts : VToks) → IsBelow ts ts
below_same ts = below ts ts (λ n. omega arith)

pub below_append : (xs ys us vs : VToks) → IsEven xs → IsEven us → IsBelow xs us → IsBelow ys vs → IsBelow (xs ++ ys) (us ++ vs)
below_append xs ys us vs e f b d = below (xs ++ ys) (us ++ vs) (λ n.
    omega (arith, most_open-append n xs ys, most_open-append n us vs, b.most n, d.most n, ap (λ (k : ℕ). most_open k ys) (e.same n), ap (λ (k : ℕ). most_open k vs) (f.same n)))

pub below_token : (t : VTok) (ys vs : VToks) → IsBelow ys vs → IsBelow (t ∷ ys) (t ∷ vs)
below_token t ys vs d = below (t ∷ ys) (t ∷ vs) (λ n. omega (arith, d.most (open_after n t)))

-- ---- brackets

abbrev pub opens_round : (n : ℕ) → open_after n (Mark signs.OpenRound) ≡ suc n
opens_round n = refl

abbrev pub opens_square : (n : ℕ) → open_after n (Mark signs.OpenSquare) ≡ suc n
opens_square n = refl

abbrev pub opens_brace : (n : ℕ) → open_after n (Mark signs.OpenBrace) ≡ suc n
opens_brace n = refl

pub closes_round : (n : ℕ) → open_after (suc n) (Mark signs.CloseRound) ≡ n
closes_round n = omega arith

pub closes_square : (n : ℕ) → open_after (suc n) (Mark signs.CloseSquare) ≡ n
closes_square n = omega arith

pub closes_brace : (n : ℕ) → open_after (suc n) (Mark signs.CloseBrace) ≡ n
closes_brace n = omega arith

pub neutral_operator : (o : Operator) → IsNeutral (Mark (vsign_of o))
neutral_operator operators.OneTrue n = refl
neutral_operator operators.BothTrue n = refl
neutral_operator operators.Or n = refl
neutral_operator operators.Xor n = refl
neutral_operator operators.And n = refl
neutral_operator operators.Equal n = refl
neutral_operator operators.Unequal n = refl
neutral_operator operators.Less n = refl
neutral_operator operators.LessEqual n = refl
neutral_operator operators.Greater n = refl
neutral_operator operators.GreaterEqual n = refl
neutral_operator operators.Left n = refl
neutral_operator operators.Right n = refl
neutral_operator operators.Add n = refl
neutral_operator operators.Sub n = refl
neutral_operator operators.Mul n = refl

pub neutral_one : (o : VOne) → IsNeutral (Mark (vone_sign o))
neutral_one ones.Complement n = refl
neutral_one ones.Negate n = refl

-- ---- what is spelled leaves no bracket open

along : {xs ys : VToks} → xs ≡ ys → IsEven ys → IsEven xs
along e h = subst IsEven (sym e) h

semicolon : IsEven (Mark signs.Semicolon ∷ [])
semicolon = even_one (Mark signs.Semicolon) (λ n. refl)

mutual
  pub even_expr : {l : ℕ} {ts : VToks} {e : VTree} → SpellsVExpr l ts e → IsEven ts
  even_expr grammar.number = even _ (λ n. refl)
  even_expr grammar.named = even _ (λ n. refl)
  even_expr grammar.bit = even _ (λ n. closes_square n)
  even_expr grammar.part = even _ (λ n. closes_square n)
  even_expr (grammar.cell {xs = xs} d is) = along is (even_token _ _ (λ n. refl) (even_closed (Mark signs.OpenSquare) (Mark signs.CloseSquare) xs [] opens_square closes_square (even_expr d) even_nil))
  even_expr (grammar.join {xs = xs} ds is) = along is (even_closed (Mark signs.OpenBrace) (Mark signs.CloseBrace) xs [] opens_brace closes_brace (even_parts ds) even_nil)
  even_expr (grammar.repeat {xs = xs} some d is) =
      along is (even _ (λ n. after-append (suc (suc n)) xs (Mark signs.CloseBrace ∷ Mark signs.CloseBrace ∷ []) ∙ ap (λ (k : ℕ). after k (Mark signs.CloseBrace ∷ Mark signs.CloseBrace ∷ [])) ((even_expr d).same (suc (suc n)))
      ∙ ap (λ (k : ℕ). after k (Mark signs.CloseBrace ∷ [])) (closes_brace (suc n)) ∙ closes_brace n))
  even_expr (grammar.inside {xs = xs} d is) = along is (even_closed (Mark signs.OpenRound) (Mark signs.CloseRound) xs [] opens_round closes_round (even_expr d) even_nil)
  even_expr (grammar.one o d) = even_token (Mark (vone_sign o)) _ (neutral_one o) (even_expr d)
  even_expr (grammar.two o {xs = xs} {ys = ys} at c d is) = along is (even_append xs (Mark (vsign_of o) ∷ ys) (even_expr c) (even_token (Mark (vsign_of o)) ys (neutral_operator o) (even_expr d)))
  even_expr (grammar.choose {xs = xs} {ys = ys} {zs = zs} c d e is) =
      along is (even_append xs _ (even_expr c) (even_token (Mark signs.Question) _ (λ n. refl) (even_append ys _ (even_expr d) (even_token (Mark signs.Colon) zs (λ n. refl) (even_expr e)))))
  even_expr (grammar.tighter d) = even_expr d

  pub even_parts : {ts : VToks} {all : VTrees} → SpellsVParts ts all → IsEven ts
  even_parts (grammar.last d) = even_expr d
  even_parts (grammar.more {xs = xs} {ys = ys} d ds is) = along is (even_append xs _ (even_expr d) (even_token (Mark signs.Comma) ys (λ n. refl) (even_parts ds)))

mutual
  pub even_action : {c : Bool} {ts : VToks} {a : ActionTrees} → SpellsAction c ts a → IsEven ts
  even_action (grammar.block {xs = xs} ds is) = along is (even_token (Reserved words.Begin) _ (λ n. refl) (even_append xs _ (even_actions ds) (even_one (Reserved words.End) (λ n. refl))))
  even_action (grammar.set {xs = xs} d is) = along is (even_token _ _ (λ n. refl) (even_token (Mark signs.LessEqual) _ (λ n. refl) (even_append xs _ (even_expr d) semicolon)))
  even_action (grammar.put {xs = xs} {ys = ys} d e is) = along is (even_token _ _ (λ n. refl) (even_closed (Mark signs.OpenSquare) (Mark signs.CloseSquare) xs _ opens_square closes_square (even_expr d)
      (even_token (Mark signs.LessEqual) _ (λ n. refl) (even_append ys _ (even_expr e) semicolon))))
  even_action (grammar.when {xs = xs} {ys = ys} d ds is) = along is (even_token (Reserved words.If) _ (λ n. refl) (even_closed (Mark signs.OpenRound) (Mark signs.CloseRound) xs ys opens_round closes_round (even_expr d) (even_action ds)))
  even_action (grammar.choose {xs = xs} {ys = ys} {zs = zs} d ds es is) = along is (even_token (Reserved words.If) _ (λ n. refl) (even_closed (Mark signs.OpenRound) (Mark signs.CloseRound) xs _ opens_round closes_round (even_expr d)
      (even_append ys _ (even_action ds) (even_token (Reserved words.Else) zs (λ n. refl) (even_action es)))))

  pub even_actions : {ts : VToks} {a : ActionTrees} → SpellsActions ts a → IsEven ts
  even_actions grammar.none = even_nil
  even_actions (grammar.some {xs = xs} {ys = ys} d ds is e) = along is (even_append xs ys (even_action d) (even_actions ds))

pub even_range : {ts : VToks} {width : ℕ} → SpellsRange ts width → IsEven ts
even_range grammar.absent = even_nil
even_range grammar.present = even _ (λ n. closes_square n)

pub even_settings : (all : List SettingTree) → IsEven (flat_map setting_tokens all)
even_settings [] = even_nil
even_settings (s ∷ all) = even (flat_map setting_tokens (s ∷ all)) (λ n. (even_settings all).same n)

pub even_member : {ts : VToks} {m : MemberTree} → SpellsMember ts m → IsEven ts
even_member (grammar.reg {xs = xs} d is) = along is (even_token (Reserved words.Reg) _ (λ n. refl) (even_append xs _ (even_range d) (even _ (λ n. refl))))
even_member (grammar.array {xs = xs} last digits d deep is) = along is (even_token (Reserved words.Reg) _ (λ n. refl) (even_append xs _ (even_range d) (even _ (λ n. closes_square n))))
even_member (grammar.wire {xs = xs} {ys = ys} d e is) = along is (even_token (Reserved words.Wire) _ (λ n. refl) (even_append xs _ (even_range d)
    (even_token _ _ (λ n. refl) (even_token (Mark signs.Equal) _ (λ n. refl) (even_append ys _ (even_expr e) semicolon)))))
even_member grammar.first = even _ (λ n. refl)
even_member (grammar.initial {all = all} is) = along is (even_token (Reserved words.Initial) _ (λ n. refl) (even_token (Reserved words.Begin) _ (λ n. refl)
    (even_append (flat_map setting_tokens all) _ (even_settings all) (even_one (Reserved words.End) (λ n. refl)))))
even_member (grammar.always {xs = xs} d is) = along is (even _ (λ n. ap (λ (k : ℕ). after k xs) (closes_round n) ∙ (even_action d).same n))

pub even_members : {ts : VToks} {all : List MemberTree} → SpellsMembers ts all → IsEven ts
even_members grammar.none = even_nil
even_members (grammar.some {xs = xs} {ys = ys} d ds is) = along is (even_append xs ys (even_member d) (even_members ds))

even_wire : (ts : VToks) → IsOptionalWire ts → IsEven ts
even_wire ts (inl e) = along e even_nil
even_wire ts (inr e) = along e (even_one (Reserved words.Wire) (λ n. refl))

pub even_inputs : {ts : VToks} {all : List Item} → SpellsInputs ts all → IsEven ts
even_inputs grammar.none = even_nil
even_inputs (grammar.some {wire = wire} {xs = xs} {ys = ys} w d ds is) = along is (even_token (Mark signs.Comma) _ (λ n. refl) (even_token (Reserved words.Input) _ (λ n. refl)
    (even_append wire _ (even_wire wire w) (even_append xs _ (even_range d) (even_token _ ys (λ n. refl) (even_inputs ds))))))

-- ---- and what is printed has no more of them open

to : {xs ys zs : VToks} → ys ≡ zs → IsBelow xs zs → IsBelow xs ys
to {xs = xs} e h = subst (λ (l : VToks). IsBelow xs l) (sym e) h

looser : (l n : ℕ) (e : VTree) → most_open n (shown l e) ≤ most_open n (shown (suc l) e)
looser l n e =
    elim (cases_lt (own_level e) l) [
      | inl lt ↦ rw (lt-ltb (own_level e) l lt, lt-ltb (own_level e) (suc l) (omega arith)) (omega arith)
      | inr ge ↦ elim (cases_lt (own_level e) (suc l)) [
        | inl lt ↦ rw (le-ltb (own_level e) l ge, lt-ltb (own_level e) (suc l) lt) (omega (arith, most_grows n (suc n) (bare e) (omega arith), most_open-append (suc n) (bare e) (Mark signs.CloseRound ∷ [])))
        | inr more ↦ rw (le-ltb (own_level e) l ge, le-ltb (own_level e) (suc l) more) (omega arith)
      ]
    ]

enclosed : (o c : VTok) (xs ys us vs : VToks) → IsEven xs → IsEven us → IsBelow xs us → IsBelow ys vs → IsBelow (o ∷ (xs ++ (c ∷ ys))) (o ∷ (us ++ (c ∷ vs)))
enclosed o c xs ys us vs e f b d = below_token o (xs ++ (c ∷ ys)) (us ++ (c ∷ vs)) (below_append xs (c ∷ ys) us (c ∷ vs) e f b (below_token c ys vs d))

bare_is : (a : VTree) → shown 0 a ≡ bare a
bare_is a = rw (le-ltb (own_level a) 0 (omega arith)) refl

in_round : (n : ℕ) (e : VTree) (xs : VToks) → IsEven (bare e) → IsEven xs → IsBelow (bare e) xs → most_open n (shown 12 e) ≤ most_open n (Mark signs.OpenRound ∷ (xs ++ Mark signs.CloseRound ∷ []))
in_round n e xs e₁ e₂ b =
    elim (cases_lt (own_level e) 12) [
      | inl lt ↦ rw (lt-ltb (own_level e) 12 lt) ((enclosed (Mark signs.OpenRound) (Mark signs.CloseRound) (bare e) [] xs [] e₁ e₂ b below_nil).most n)
      | inr ge ↦ rw (le-ltb (own_level e) 12 ge) (omega (arith, b.most n, most_grows n (suc n) xs (omega arith), most_open-append (suc n) xs (Mark signs.CloseRound ∷ [])))
    ]

two_is : (o : Operator) (level : ℕ) (a b : VTree) → level ≡ level_of o → shown level (trees.Two o a b) ≡ shown level a ++ (Mark (vsign_of o) ∷ shown (suc level) b)
two_is o level a b at =
    rw (le-ltb (level_of o) level (omega arith)) (sym (ap (λ (k : ℕ). shown k a ++ (Mark (vsign_of o) ∷ shown (suc k) b)) at))

mutual
  pub below_expr : {l : ℕ} {ts : VToks} {e : VTree} → SpellsVExpr l ts e → IsBelow (shown l e) ts
  below_expr grammar.number = below_same _
  below_expr grammar.named = below_same _
  below_expr grammar.bit = below _ _ (λ n. omega arith)
  below_expr grammar.part = below _ _ (λ n. omega arith)
  below_expr (grammar.cell {name = name} {xs = xs} {index = index} d is) = to is (below_token (Named name) _ _
      (enclosed (Mark signs.OpenSquare) (Mark signs.CloseSquare) (shown 0 index) [] xs [] (even_expr (shown_spells 0 (omega arith) d)) (even_expr d) (below_expr d) below_nil))
  below_expr (grammar.join {xs = xs} {all = all} ds is) = to is
      (enclosed (Mark signs.OpenBrace) (Mark signs.CloseBrace) (parts_tokens all) [] xs [] (even_parts (parts_spell ds)) (even_parts ds) (below_parts ds) below_nil)
  below_expr (grammar.repeat {times = times} {digits = digits} {xs = xs} {a = a} some d is) = to is (below _ _ (λ n.
      let inner : IsBelow (shown 0 a ++ (Mark signs.CloseBrace ∷ Mark signs.CloseBrace ∷ [])) (xs ++ (Mark signs.CloseBrace ∷ Mark signs.CloseBrace ∷ [])) =
      below_append (shown 0 a) (Mark signs.CloseBrace ∷ Mark signs.CloseBrace ∷ []) xs (Mark signs.CloseBrace ∷ Mark signs.CloseBrace ∷ []) (even_expr (shown_spells 0 (omega arith) d)) (even_expr d) (below_expr d) (below_same _) in
      omega (arith, inner.most (suc (suc n)))))
  below_expr (grammar.inside {xs = xs} {a = a} d is) = to is (below _ _ (λ n.
      in_round n a xs (even_expr (bare_spells d)) (even_expr d) (subst (λ (l : VToks). IsBelow l xs) (bare_is a) (below_expr d))))
  below_expr (grammar.one o {xs = xs} {a = a} d) = below_token (Mark (vone_sign o)) (shown 12 a) xs (below_expr d)
  below_expr (grammar.two o {level = level} {xs = xs} {ys = ys} {a = a} {b = b} at c d is) = to is (
      subst (λ (l : VToks). IsBelow l (xs ++ (Mark (vsign_of o) ∷ ys))) (sym (two_is o level a b at))
      (below_append (shown level a) (Mark (vsign_of o) ∷ shown (suc level) b) xs (Mark (vsign_of o) ∷ ys) (even_expr (shown_spells level (omega (arith, level_small o)) c)) (even_expr c) (below_expr c)
      (below_token (Mark (vsign_of o)) (shown (suc level) b) ys (below_expr d))))
  below_expr (grammar.choose {xs = xs} {ys = ys} {zs = zs} {c = c} {a = a} {b = b} x y z is) = to is (below_append (shown 1 c) _ xs _ (even_expr (shown_spells 1 (omega arith) x)) (even_expr x) (below_expr x)
      (below_token (Mark signs.Question) _ _ (below_append (shown 0 a) _ ys _ (even_expr (shown_spells 0 (omega arith) y)) (even_expr y) (below_expr y) (below_token (Mark signs.Colon) (shown 0 b) zs (below_expr z)))))
  below_expr (grammar.tighter {level = level} {a = a} d) = below _ _ (λ n. omega (arith, looser level n a, (below_expr d).most n))

  pub below_parts : {ts : VToks} {all : VTrees} → SpellsVParts ts all → IsBelow (parts_tokens all) ts
  below_parts (grammar.last {ts = ts} {a = a} d) = subst (λ (l : VToks). IsBelow l ts) (sym (append-nil (shown 0 a))) (below_expr d)
  below_parts (grammar.more {xs = xs} {ys = ys} {a = a} {all = all} d ds is) = to is (
      subst (λ (l : VToks). IsBelow (shown 0 a ++ l) (xs ++ (Mark signs.Comma ∷ ys))) (sym (more-is ds))
      (below_append (shown 0 a) (Mark signs.Comma ∷ parts_tokens all) xs (Mark signs.Comma ∷ ys) (even_expr (shown_spells 0 (omega arith) d)) (even_expr d) (below_expr d)
      (below_token (Mark signs.Comma) (parts_tokens all) ys (below_parts ds))))

-- ---- actions and members

abbrev else_part : ActionTrees → VToks
else_part other = else_tokens other (action_tokens other)

if_below : {l : ℕ} {ts : VToks} {test : VTree} (xs ys zs : VToks) (this other : ActionTrees) → SpellsVExpr l ts test → IsEven xs → IsBelow (shown 0 test) xs → IsEven (action_tokens this) → IsEven ys
    → IsBelow (action_tokens this) ys → IsBelow (else_part other) zs
    → IsBelow (action_tokens (trees.If test this other trees.Done)) (Reserved words.If ∷ Mark signs.OpenRound ∷ (xs ++ (Mark signs.CloseRound ∷ (ys ++ zs))))
if_below {test = test} xs ys zs this other d e b e₁ e₂ b₁ b₂ =
    let behind : IsBelow (Reserved words.End ∷ (else_part other ++ [])) zs = below _ _ (λ k.
    subst (λ (l : VToks). max k (most_open k l) ≤ most_open k zs) (sym (append-nil (else_part other))) (omega (arith, b₂.most k, most_least k zs))) in
    let inner : IsBelow (action_tokens this ++ (Reserved words.End ∷ (else_part other ++ []))) (ys ++ zs) = below_append (action_tokens this) (Reserved words.End ∷ (else_part other ++ [])) ys zs e₁ e₂ b₁ behind in
    let begun : IsBelow (Reserved words.Begin ∷ (action_tokens this ++ (Reserved words.End ∷ (else_part other ++ [])))) (ys ++ zs) = below _ _ (λ n. omega (arith, inner.most n, most_least n (ys ++ zs))) in
    below_token (Reserved words.If) _ _ (enclosed (Mark signs.OpenRound) (Mark signs.CloseRound) (shown 0 test) (Reserved words.Begin ∷ (action_tokens this ++ (Reserved words.End ∷ (else_part other ++ [])))) xs (ys ++ zs)
    (even_expr (shown_spells 0 (omega arith) d)) e b begun)

with_else : (ts zs : VToks) → IsEven ts → IsBelow ts zs → IsBelow (Reserved words.Else ∷ Reserved words.Begin ∷ (ts ++ Reserved words.End ∷ [])) (Reserved words.Else ∷ zs)
with_else ts zs e b = below _ _ (λ n. omega (arith, b.most n, most_least n ts, most_open-append n ts (Reserved words.End ∷ []), ap (λ (k : ℕ). most_open k (Reserved words.End ∷ [])) (e.same n)))

else_below : (other : ActionTrees) (zs : VToks) → IsEven (action_tokens other) → IsBelow (action_tokens other) zs → IsBelow (else_part other) (Reserved words.Else ∷ zs)
else_below trees.Done zs e b = below _ _ (λ n. omega arith)
else_below (trees.Set name value rest) zs e b = with_else (action_tokens (trees.Set name value rest)) zs e b
else_below (trees.Put name index value rest) zs e b = with_else (action_tokens (trees.Put name index value rest)) zs e b
else_below (trees.If test this other rest) zs e b = with_else (action_tokens (trees.If test this other rest)) zs e b

mutual
  pub below_action : {c : Bool} {ts : VToks} {a : ActionTrees} → SpellsAction c ts a → IsBelow (action_tokens a) ts
  below_action (grammar.block {xs = xs} ds is) = to is (below _ _ (λ n. omega (arith, (below_actions ds).most n, most_least n xs, most_open-append n xs (Reserved words.End ∷ []))))
  below_action (grammar.set {name = name} {xs = xs} {value = value} d is) = to is (below_token (Named name) _ _ (below_token (Mark signs.LessEqual) _ _
      (below_append (shown 0 value) _ xs _ (even_expr (shown_spells 0 (omega arith) d)) (even_expr d) (below_expr d) (below_same (Mark signs.Semicolon ∷ [])))))
  below_action (grammar.put {name = name} {xs = xs} {ys = ys} {index = index} {value = value} d e is) = to is (below_token (Named name) _ _
      (enclosed (Mark signs.OpenSquare) (Mark signs.CloseSquare) (shown 0 index) _ xs _ (even_expr (shown_spells 0 (omega arith) d)) (even_expr d) (below_expr d)
      (below_token (Mark signs.LessEqual) _ _ (below_append (shown 0 value) _ ys _ (even_expr (shown_spells 0 (omega arith) e)) (even_expr e) (below_expr e) (below_same (Mark signs.Semicolon ∷ []))))))
  below_action (grammar.when {xs = xs} {ys = ys} {test = test} {this = this} d ds is) = subst (λ (l : VToks). IsBelow (action_tokens (trees.If test this trees.Done trees.Done)) l)
      (ap (λ (l : VToks). Reserved words.If ∷ Mark signs.OpenRound ∷ (xs ++ (Mark signs.CloseRound ∷ l))) (append-nil ys) ∙ sym is)
      (if_below xs ys [] this trees.Done d (even_expr d) (below_expr d) (even_actions (action_spells ds)) (even_action ds) (below_action ds) below_nil)
  below_action (grammar.choose {xs = xs} {ys = ys} {zs = zs} {this = this} {other = other} d ds es is) = to is
      (if_below xs ys (Reserved words.Else ∷ zs) this other d (even_expr d) (below_expr d) (even_actions (action_spells ds)) (even_action ds) (below_action ds) (else_below other zs (even_actions (action_spells es)) (below_action es)))

  pub below_actions : {ts : VToks} {a : ActionTrees} → SpellsActions ts a → IsBelow (action_tokens a) ts
  below_actions grammar.none = below_nil
  below_actions (grammar.some {xs = xs} {ys = ys} {first = first} {rest = rest} d ds is e) = to is (
      subst (λ (l : VToks). IsBelow l (xs ++ ys)) (sym (ap action_tokens e ∙ action_tokens-joined first rest))
      (below_append (action_tokens first) (action_tokens rest) xs ys (even_actions (action_spells d)) (even_action d) (below_action d) (below_actions ds)))

-- a member has no more open than it had, or one
pub below_member : {ts : VToks} {m : MemberTree} → SpellsMember ts m → (n : ℕ) → most_open n (member_tokens m) ≤ max (suc n) (most_open n ts)
below_member (grammar.reg d is) = λ n. omega arith
below_member (grammar.array last digits d deep is) = λ n. omega arith
below_member (grammar.wire {xs = xs} {ys = ys} {item = item} {value = value} d e is) = λ n.
    let inner : IsBelow (shown 0 value ++ Mark signs.Semicolon ∷ []) (ys ++ Mark signs.Semicolon ∷ []) = below_append (shown 0 value) (Mark signs.Semicolon ∷ []) ys (Mark signs.Semicolon ∷ []) (even_expr (shown_spells 0 (omega arith) e)) (even_expr e) (below_expr e) (below_same _) in
    subst (λ (l : VToks). most_open n (member_tokens (trees.Wire item value)) ≤ max (suc n) (most_open n l)) (sym is)
    (omega (
      arith,
      inner.most n,
      most_open-append n xs (Named item.name ∷ Mark signs.Equal ∷ (ys ++ Mark signs.Semicolon ∷ [])),
      ap (λ (k : ℕ). most_open k (Named item.name ∷ Mark signs.Equal ∷ (ys ++ Mark signs.Semicolon ∷ []))) ((even_range d).same n),
      ap (λ (k : ℕ). most_open k (Named item.name ∷ Mark signs.Equal ∷ (shown 0 value ++ Mark signs.Semicolon ∷ []))) (closes_square n),
    ))
below_member grammar.first = λ n. omega arith
below_member (grammar.initial {all = all} is) = λ n. subst (λ (l : VToks). most_open n (member_tokens (trees.Initial all)) ≤ max (suc n) (most_open n l)) (sym is) (omega arith)
below_member (grammar.always {xs = xs} {clock = clock} {actions = actions} d is) = λ n. subst (λ (l : VToks). most_open n (member_tokens (trees.Always clock actions)) ≤ max (suc n) (most_open n l)) (sym is)
    (omega (
      arith,
      (below_action d).most n,
      most_least n xs,
      most_open-append n (action_tokens actions) (Reserved words.End ∷ []),
      ap (λ (k : ℕ). most_open k (Reserved words.End ∷ [])) ((even_actions (action_spells d)).same n),
      closes_round n,
      ap (λ (k : ℕ). most_open k xs) (closes_round n),
      ap (λ (k : ℕ). most_open k (Reserved words.Begin ∷ (action_tokens actions ++ Reserved words.End ∷ []))) (closes_round n),
    ))

pub below_members : {ts : VToks} {all : List MemberTree} → SpellsMembers ts all → (n : ℕ) → most_open n (flat_map member_tokens all) ≤ max (suc n) (most_open n ts)
below_members grammar.none = λ n. omega arith
below_members (grammar.some {xs = xs} {ys = ys} {member = member} {all = all} d ds is) = λ n. subst (λ (l : VToks). most_open n (flat_map member_tokens (member ∷ all)) ≤ max (suc n) (most_open n l)) (sym is)
    (omega (
      arith,
      below_member d n,
      below_members ds n,
      most_open-append n (member_tokens member) (flat_map member_tokens all),
      most_open-append n xs ys,
      ap (λ (k : ℕ). most_open k (flat_map member_tokens all)) ((even_member (member_spells d)).same n),
      ap (λ (k : ℕ). most_open k ys) ((even_member d).same n),
    ))

pub inputs_low : {ts : VToks} {all : List Item} → SpellsInputs ts all → (n : ℕ) → most_open n (flat_map input_tokens all) ≤ suc n
inputs_low grammar.none = λ n. omega arith
inputs_low (grammar.some {item = item} {all = all} w d ds is) = λ n. omega (arith, inputs_low ds n, closes_square n, ap (λ (k : ℕ). most_open k (Named item.name ∷ flat_map input_tokens all)) (closes_square n))

-- what is printed has at most 64 brackets open
pub module_shallow : {ts : VToks} {m : ModuleTree} → SpellsModule ts m → most_open 0 ts ≤ 64 → most_open 0 (module_tokens m) ≤ 64
module_shallow {ts = ts} {m = m} s few =
    let ending : VToks = Reserved words.EndModule ∷ [] in
    let old : VToks = Mark signs.CloseRound ∷ Mark signs.Semicolon ∷ (s.member_part ++ ending) in
    let closing : VToks = Mark signs.CloseRound ∷ Mark signs.Semicolon ∷ [] in
    let was : most_open 0 s.member_part ≤ most_open 0 ts = omega (
      arith,
      ap (most_open 0) s.whole,
      most_open-append 1 s.wire (Named m.clock ∷ (s.input_part ++ old)),
      (ap (λ (k : ℕ). most_open k (Named m.clock ∷ (s.input_part ++ old))) ((even_wire s.wire s.is_wire).same 1)),
      most_open-append 1 s.input_part old,
      (ap (λ (k : ℕ). most_open k old) ((even_inputs s.spells_inputs).same 1)),
      most_open-append 0 s.member_part ending,
    ) in
    let head_after : after 0 (head_tokens m) ≡ 0 = after-append 1 (flat_map input_tokens m.inputs) closing ∙ ap (λ (k : ℕ). after k closing) ((even_inputs (inputs_spell s.spells_inputs)).same 1) in
    let head_most : most_open 0 (head_tokens m) ≤ 2 = omega (arith, most_open-append 1 (flat_map input_tokens m.inputs) closing, inputs_low s.spells_inputs 1, (ap (λ (k : ℕ). most_open k closing) ((even_inputs (inputs_spell s.spells_inputs)).same 1))) in
    let members : most_open 0 (flat_map member_tokens m.members ++ ending) ≤ 64 =
    omega (arith, most_open-append 0 (flat_map member_tokens m.members) ending, below_members s.spells_members 0, was, (ap (λ (k : ℕ). most_open k ending) ((even_members (members_spell s.spells_members)).same 0))) in
    omega (arith, most_open-append 0 (head_tokens m) (flat_map member_tokens m.members ++ ending), head_most, members, (ap (λ (k : ℕ). most_open k (flat_map member_tokens m.members ++ ending)) head_after))
