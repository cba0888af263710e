-- What is read from a place is what the tokens there spell.
use Rattle.std.proofs.Common.{◌≡◌, ℕ, zero, suc, ◌+◌, ◌-◌, ◌<◌, ◌≤◌, max, Bool, true, false, List, [], ◌∷◌, ◌++◌, length, take, drop, Option, Some, None, Ok, Err, refl, sym, ap, subst, ◌∙◌, arith, inl, inr}
use Rattle.std.proofs.lemmas.List.{length-append, length-drop, take_at, drop_at, drop-drop, take-append-drop}
use Rattle.lisa_tree.specs.declared.tokens.Sign.TheVariants as signs
use Rattle.lisa_tree.specs.declared.tokens.TokenPart.TheVariants as parts
use Rattle.std.specs.List.{slice_get}
use Rattle.lisa_tree.specs.declared.tokens.Token.{Token}
use Rattle.lisa_tree.specs.declared.faults.DescFault.{DescFault}
use Rattle.lisa_tree.specs.declared.faults.DescFault.TheVariants as faults
use Rattle.lisa_tree.specs.Expressions.{ExprTree, expr_depth}
use Rattle.lisa_tree.specs.Statements.{StmtTrees, stmts_depth}
use Rattle.lisa_tree.specs.Grammar.{Toks, SpellsExpr, SpellsStmts}
use Rattle.lisa_words.proofs.StepLaws.{some_is}
use Rattle.lisa_behav_reader.specs.declared.misses.Missed.{Missed}
use Rattle.lisa_behav_reader.specs.declared.misses.Missed.TheVariants as misses
use Rattle.lisa_behav_reader.specs.Gives.{Fails}
use Rattle.lisa_behav_reader.specs.Reading.{reads, whole}
use Rattle.lisa_behav_reader.specs.StmtReading.{stmts, many, ends}
use Rattle.lisa_behav_reader.specs.Places.{closes, closes_block, IsUpTo, IsRead, IsPlace}
use Rattle.lisa_behav_reader.specs.Turned.{Turned}
use Rattle.lisa_behav_reader.proofs.ExprSound.{reads_sound}
use Rattle.lisa_behav_reader.proofs.ExprComplete.{front_binds, complete}
use Rattle.lisa_behav_reader.proofs.StmtSound.{stmts_sound}
use Rattle.lisa_behav_reader.proofs.StmtComplete.{stmts_complete}

-- what was read from the front
pub record TakesFront {A : Type 0} (Spells : Toks → A → Type 0) (depth : A → ℕ) (ts : Toks) (x : A × Toks) : Type 0 where
  pub front : Toks
  pub parts : ts ≡ front ++ x.1
  pub spells : Spells front x.0
  pub deep : depth x.0 ≤ 128

front_at : (k : ℕ) (whole front rest : Toks) → whole ≡ front ++ rest → k ≡ length front → take k whole ≡ front
front_at k whole front rest parts len = rw parts (take_at front rest k (sym len))

module _ {A : Type 0} (Spells : Toks → A → Type 0) (depth : A → ℕ) (ends : Toks → Bool) (read : Toks → Option (A × Toks))
    (sound : (ts : Toks) (x : A × Toks) → read ts ≡ Some x → TakesFront Spells depth ts x)
    (complete : (xs rest : Toks) (a : A) → Spells xs a → depth a ≤ 128 → ends rest ≡ true → read (xs ++ rest) ≡ Some (a, rest))
    (some_front : (ts : Toks) → ends ts ≡ true → 0 < length ts) where
  pub found : (ts : Toks) (from : ℕ) (a : A) (rest : Toks) → from ≤ length ts → read (drop from ts) ≡ Some (a, rest) → ends rest ≡ true → IsUpTo Spells depth ends ts from (length ts - length rest) a
  found ts from a rest le e closed =
      let takes = sound (drop from ts) (a, rest) e in
      let sizes : length ts - from ≡ length takes.front + length rest = sym (length-drop from ts) ∙ ap length takes.parts ∙ length-append takes.front rest in
      let long : length ts - length rest ≡ from + length takes.front = omega arith in
      let there : drop (from + length takes.front) ts ≡ rest = sym (drop-drop (length takes.front) from ts) ∙ ap (drop (length takes.front)) takes.parts ∙ drop_at takes.front rest (length takes.front) refl in
      let short : (from + length takes.front) - from ≡ length takes.front = omega arith in
      let front : take ((from + length takes.front) - from) (drop from ts) ≡ takes.front = front_at _ (drop from ts) takes.front rest takes.parts short in
      rw long (record { order = omega arith; spells = rw front takes.spells; deep = takes.deep; closed = rw there closed })

  reads_there : (ts : Toks) (from to : ℕ) (a : A) → IsUpTo Spells depth ends ts from to a → read (drop from ts) ≡ Some (a, drop to ts)
  reads_there ts from to a h =
      let place : from + (to - from) ≡ to = omega (arith, h.order) in
      let rest : drop (to - from) (drop from ts) ≡ drop to ts = drop-drop (to - from) from ts ∙ ap (λ (k : ℕ). drop k ts) place in
      let parts : drop from ts ≡ take (to - from) (drop from ts) ++ drop to ts = sym (take-append-drop (to - from) (drop from ts)) ∙ ap (λ (l : Toks). take (to - from) (drop from ts) ++ l) rest in
      ap read parts ∙ complete (take (to - from) (drop from ts)) (drop to ts) a h.spells h.deep h.closed

  pub not_closed : (ts : Toks) (from to : ℕ) (a b : A) (rest : Toks) → read (drop from ts) ≡ Some (b, rest) → ends rest ≡ false → IsUpTo Spells depth ends ts from to a → ⊥
  not_closed ts from to a b rest e open' h =
      let same : rest ≡ drop to ts = ap (λ (x : A × Toks). x.1) (some_is (b, rest) (a, drop to ts) (sym e ∙ reads_there ts from to a h)) in
      let closed' : ends rest ≡ true = rw same h.closed in
      cc

  pub ok_only : (ts : Toks) (from to : ℕ) (a b : A) (rest : Toks) → read (drop from ts) ≡ Some (b, rest) → IsUpTo Spells depth ends ts from to a → (b ≡ a) × (length ts - length rest ≡ to)
  ok_only ts from to a b rest e h =
      let same : ◌≡◌ {A = A × Toks} (b, rest) (a, drop to ts) = some_is (b, rest) (a, drop to ts) (sym e ∙ reads_there ts from to a h) in
      let sizes : length rest ≡ length ts - to = ap length (ap (λ (x : A × Toks). x.1) same) ∙ length-drop to ts in
      (ap (λ (x : A × Toks). x.0) same, omega (arith, some_front (drop to ts) h.closed, length-drop to ts))

  pub fails_only : {X : Type 0} (view : X → A) (ts : Toks) (from to : ℕ) (a : A) (e : Missed) (fault : DescFault) → Fails e (read (drop from ts)) → Turned e fault → IsUpTo Spells depth ends ts from to a → IsRead view a to (Err fault)
  fails_only {X} view ts from to a misses.NoMemory fault f turned h = subst (λ (d : DescFault). IsRead {X = X} view a to (Err d)) (sym turned) tt
  fails_only {X} view ts from to a (misses.At left) fault f turned h = let g = reads_there ts from to a h in absurd cc

-- ---- expressions

pub expr_sound : (ts : Toks) (x : ExprTree × Toks) → reads (whole 128 ts) ≡ Some x → TakesFront (SpellsExpr 0) expr_depth ts x
expr_sound ts x e = let t = reads_sound (whole 128 ts) x e in record { front = t.front; parts = t.parts; spells = t.spells; deep = t.deep }

closes_stops : (ts : Toks) → closes ts ≡ true → front_binds ts ≤ 0
closes_stops (parts.Sign signs.Semicolon ∷ ts) e = omega arith
closes_stops (parts.Sign signs.CloseRound ∷ ts) e = omega arith
closes_stops (parts.Sign signs.CloseSquare ∷ ts) e = omega arith
closes_stops (parts.Sign signs.CloseBrace ∷ ts) e = omega arith
closes_stops _ e = absurd cc

pub expr_complete : (xs rest : Toks) (t : ExprTree) → SpellsExpr 0 xs t → expr_depth t ≤ 128 → closes rest ≡ true → reads (whole 128 (xs ++ rest)) ≡ Some (t, rest)
expr_complete xs rest t d le closed = let c = complete d in c.entire 128 rest le (closes_stops rest closed)

pub expr_front : (ts : Toks) → closes ts ≡ true → 0 < length ts
expr_front [] e = absurd cc
expr_front (x ∷ ts) e = omega arith

-- ---- statements

pub stmt_sound : (ts : Toks) (x : StmtTrees × Toks) → stmts (many 128 ts) ≡ Some x → TakesFront SpellsStmts stmts_depth ts x
stmt_sound ts x e = let t = stmts_sound (many 128 ts) x e in record { front = t.front; parts = t.parts; spells = t.spells; deep = t.deep }

block_ends : (ts : Toks) → closes_block ts ≡ true → ends ts ≡ true
block_ends (parts.Sign signs.CloseBrace ∷ ts) e = refl
block_ends _ e = absurd cc

pub stmt_complete : (xs rest : Toks) (all : StmtTrees) → SpellsStmts xs all → stmts_depth all ≤ 128 → closes_block rest ≡ true → stmts (many 128 (xs ++ rest)) ≡ Some (all, rest)
stmt_complete xs rest all d le closed = stmts_complete d 128 rest le (block_ends rest closed)

pub stmt_front : (ts : Toks) → closes_block ts ≡ true → 0 < length ts
stmt_front [] e = absurd cc
stmt_front (x ∷ ts) e = omega arith

-- ---- what tokens spell is one thing

pub one_tree : (ts : Toks) (t u : ExprTree) → SpellsExpr 0 ts t → SpellsExpr 0 ts u → t ≡ u
one_tree ts t u d e =
    let n : ℕ = max (expr_depth t) (expr_depth u) in
    let c = complete d in
    let k = complete e in
    let first : reads (whole n (ts ++ [])) ≡ Some (t, []) = c.entire n [] (omega arith) (omega arith) in
    let second : reads (whole n (ts ++ [])) ≡ Some (u, []) = k.entire n [] (omega arith) (omega arith) in
    ap (λ (x : ExprTree × Toks). x.0) (some_is (t, []) (u, []) (sym first ∙ second))

pub one_list : (ts : Toks) (all others : StmtTrees) → SpellsStmts ts all → SpellsStmts ts others → all ≡ others
one_list ts all others d e =
    let n : ℕ = max (stmts_depth all) (stmts_depth others) in
    let first : stmts (many n (ts ++ [])) ≡ Some (all, []) = stmts_complete d n [] (omega arith) refl in
    let second : stmts (many n (ts ++ [])) ≡ Some (others, []) = stmts_complete e n [] (omega arith) refl in
    ap (λ (x : StmtTrees × Toks). x.0) (some_is (all, []) (others, []) (sym first ∙ second))

-- ---- places

pub place_there : (tokens : List Token) (k : ℕ) (token : Token) → slice_get tokens k ≡ Some token → IsPlace token.at tokens
place_there [] k token e = absurd cc
place_there (first ∷ tokens) zero token e = inl (ap (λ (t : Token). t.at) (some_is first token e))
place_there (first ∷ tokens) (suc k) token e = inr (place_there tokens k token e)
