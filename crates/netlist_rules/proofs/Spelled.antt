-- The text of a program's module spells it.
use Rattle.std.proofs.Common.{◌≡◌, ℕ, suc, ◌+◌, ◌-◌, ◌^◌, ◌<◌, ◌≤◌, true, List, [], ◌∷◌, ◌++◌, length, get_or, refl, sym, ap, ◌∙◌, subst, arith, inl, append_assoc, Some}
use Rattle.std.specs.Prelude.{All, flat_map, slice_index, slice_index_or, codes}
use Rattle.std.specs.List.{slice_get, list_all}
use Rattle.std.proofs.lemmas.Bool.{and_from, le-leb}
use Rattle.std.proofs.lemmas.Nat.{pow_pos}
use Rattle.std.proofs.lemmas.List.{length-map, append-nil}
use Rattle.std.proofs.Math.Nat.{pow-le-pow_right}
use Rattle.lisa_engine.specs.Images.{IsDepth}
use Rattle.std.proofs.lemmas.List.Elements.{All-map, All-head, All-tail}
use Rattle.lisa_engine.specs.declared.parts.Item.{Item}
use Rattle.lisa_engine.specs.declared.parts.ArrayItem.{ArrayItem}
use Rattle.lisa_words.specs.Operators.{level_of}
use Rattle.verilog_text.specs.declared.expressions.VOne.TheVariants as vones
use Rattle.verilog_text.specs.declared.tokens.VKeyword.TheVariants as words
use Rattle.verilog_text.specs.declared.tokens.VSign.{VSign}
use Rattle.verilog_text.specs.declared.tokens.VSign.TheVariants as signs
use Rattle.verilog_text.specs.Tokens.{VTok, VToks, Named, Reserved, Sized, Plain, Mark}
use Rattle.verilog_text.specs.Trees as trees
use Rattle.verilog_text.specs.Trees.{VTree, ActionTrees, SettingTree, MemberTree, ModuleTree, v_depth, actions_depth, member_depth, members_depth}
use Rattle.verilog_text.specs.Grammar as grammar
use Rattle.verilog_text.specs.Grammar.{vsign_of, SpellsVExpr, SpellsActions, SpellsRange, SpellsInputs, SpellsMember, SpellsMembers, SpellsModule, setting_tokens}
use Rattle.verilog_text.specs.Lexing.{is_graphic}
use Rattle.verilog_text.specs.Spelling.{VSpells, most_open}
use Rattle.verilog_text.specs.Printing.{module_tokens, module_text}
use Rattle.verilog_text.proofs.SpelledTokens.{loosen, level_small, module_spells}
use Rattle.verilog_text.proofs.TokenContents.{HasText, AreWritten, module_written}
use Rattle.verilog_text.proofs.OpenBrackets.{IsNeutral, opens_round, opens_square, opens_brace, closes_round, closes_square, closes_brace, neutral_operator, module_shallow}
use Rattle.verilog_text.proofs.WrittenTexts.{placed, placed_same, text_lexes}
use Rattle.step_program.specs.Programs.{Program}
use Rattle.step_program.specs.WellFormed.{IsGraphic, IsDigit, IsFreeName, IsWidth, IsStored, IsWellFormed}
use Rattle.netlist_wires.specs.declared.keys.Flat.{Flat}
use Rattle.netlist_wires.specs.declared.keys.Flat.TheVariants.{Fixed, OfItem, OfPin, OfWire}
use Rattle.netlist_wires.specs.declared.keys.Body.{Body}
use Rattle.netlist_wires.specs.declared.keys.Body.TheVariants.{Copied, Lowest, Padded, Inverse, Load, Operate, Select}
use Rattle.netlist_wires.specs.declared.keys.Key.{Key}
use Rattle.netlist_wires.specs.declared.keys.Write.{Write}
use Rattle.netlist_wires.specs.Wiring.{item_name, pin_name, array_name, wire_name, operator_of, named, lowest, body_tree, nothing, Going, wires_from, set_items, put_cell, put_cells, actions, first_settings, clock_name, reg_members, array_members, members_at, module_at}
use Rattle.netlist_wires.proofs.Named.{is_wire}
use Rattle.netlist_wires.proofs.Growing.{IsBelow, IsBodyBelow, IsOrdered}
use Rattle.netlist_rules.proofs.Pieces.{IsPiece, piece_nil, piece_append, piece_token, piece_closed, piece_more}

-- ---- names

graphic_all : (name : List ℕ) → All IsGraphic name → list_all is_graphic name ≡ true
graphic_all [] all = refl
graphic_all (b ∷ name) all =
    let h = All-head IsGraphic b name all in
    and_from (is_graphic b) (list_all is_graphic name) (and_from _ _ (le-leb 33 b h.0) (le-leb b 126 h.1)) (graphic_all name (All-tail IsGraphic b name all))

pub free_has : (name : List ℕ) → IsFreeName name → HasText (Named name)
free_has name free = (graphic_all name free.graphic, free.some)

wire_has : (k : ℕ) → k < 2 ^ 64 → HasText (Named (wire_name k))
wire_has k less =
    let w = is_wire k less in
    subst (λ (name : List ℕ). HasText (Named name)) (sym w.is) (digits_graphic w.digits w.all, omega arith)
  where
    digits_graphic : (ds : List ℕ) → All IsDigit ds → list_all is_graphic (codes "wire." ++ ds) ≡ true
    digits_graphic ds all = graphic_all ds (λ k d h. (let r = all k d h in (omega (arith, r.0), omega (arith, r.1))))

-- ---- operands

abbrev flat_tok : Program → Flat → VTok
flat_tok p (Fixed w v) = Sized w v
flat_tok p (OfItem i) = Named (item_name p i)
flat_tok p (OfPin i) = Named (pin_name p i)
flat_tok p (OfWire k) = Named (wire_name k)

flat_spells : (p : Program) (f : Flat) → SpellsVExpr 12 (flat_tok p f ∷ []) (named p f)
flat_spells p (Fixed w v) = grammar.number
flat_spells p (OfItem i) = grammar.named
flat_spells p (OfPin i) = grammar.named
flat_spells p (OfWire k) = grammar.named

flat_at : (p : Program) (f : Flat) (level : ℕ) → level ≤ 12 → SpellsVExpr level (flat_tok p f ∷ []) (named p f)
flat_at p f level h = loosen level 12 (flat_tok p f ∷ []) (named p f) h (flat_spells p f)

flat_neutral : (p : Program) (f : Flat) → IsNeutral (flat_tok p f)
flat_neutral p (Fixed w v) n = refl
flat_neutral p (OfItem i) n = refl
flat_neutral p (OfPin i) n = refl
flat_neutral p (OfWire k) n = refl

named_depth : (p : Program) (f : Flat) → v_depth (named p f) ≡ 1
named_depth p (Fixed w v) = refl
named_depth p (OfItem i) = refl
named_depth p (OfPin i) = refl
named_depth p (OfWire k) = refl

-- ---- what a wire carries

abbrev lowest_toks : Program → ℕ → Flat → VToks
lowest_toks p high (Fixed w v) = Sized w v ∷ []
lowest_toks p high f = flat_tok p f ∷ Mark signs.OpenSquare ∷ ((Plain high 1 ∷ Mark signs.Colon ∷ Plain 0 1 ∷ []) ++ (Mark signs.CloseSquare ∷ []))

abbrev body_toks : Program → Body → VToks
body_toks p (Copied f) = flat_tok p f ∷ []
body_toks p (Lowest high f) = lowest_toks p high f
body_toks p (Padded zeros f) = Mark signs.OpenBrace ∷ ((Sized zeros 0 ∷ Mark signs.Comma ∷ flat_tok p f ∷ []) ++ (Mark signs.CloseBrace ∷ []))
body_toks p (Inverse f) = Mark signs.Tilde ∷ flat_tok p f ∷ []
body_toks p (Load a f) = Named (array_name p a) ∷ Mark signs.OpenSquare ∷ ((flat_tok p f ∷ []) ++ (Mark signs.CloseSquare ∷ []))
body_toks p (Operate op f g) = flat_tok p f ∷ Mark (vsign_of (operator_of op)) ∷ flat_tok p g ∷ []
body_toks p (Select c f g) = flat_tok p c ∷ Mark signs.Question ∷ flat_tok p f ∷ Mark signs.Colon ∷ flat_tok p g ∷ []

lowest_spells : (p : Program) (high : ℕ) (f : Flat) → SpellsVExpr 12 (lowest_toks p high f) (lowest p high f)
lowest_spells p high (Fixed w v) = grammar.number
lowest_spells p high (OfItem i) = grammar.part
lowest_spells p high (OfPin i) = grammar.part
lowest_spells p high (OfWire k) = grammar.part

body_spells : (p : Program) (body : Body) → SpellsVExpr 0 (body_toks p body) (body_tree p body)
body_spells p (Copied f) = flat_at p f 0 (omega arith)
body_spells p (Lowest high f) = loosen 0 12 _ _ (omega arith) (lowest_spells p high f)
body_spells p (Padded zeros f) =
    loosen 0 12 _ _ (omega arith) (grammar.join (grammar.more (loosen 0 12 _ _ (omega arith) grammar.number) (grammar.last (flat_at p f 0 (omega arith))) refl) refl)
body_spells p (Inverse f) = loosen 0 11 _ _ (omega arith) (grammar.one vones.Complement (flat_spells p f))
body_spells p (Load a f) = loosen 0 12 _ _ (omega arith) (grammar.cell (flat_at p f 0 (omega arith)) refl)
body_spells p (Operate op f g) =
    let o = operator_of op in
    loosen 0 (level_of o) _ _ (omega arith)
    (grammar.two o refl (flat_at p f (level_of o) (omega (arith, level_small o))) (flat_at p g (suc (level_of o)) (omega (arith, level_small o))) refl)
body_spells p (Select c f g) = grammar.choose (flat_at p c 1 (omega arith)) (flat_at p f 0 (omega arith)) (flat_at p g 0 (omega arith)) refl

lowest_depth : (p : Program) (high : ℕ) (f : Flat) → v_depth (lowest p high f) ≡ 1
lowest_depth p high (Fixed w v) = refl
lowest_depth p high (OfItem i) = refl
lowest_depth p high (OfPin i) = refl
lowest_depth p high (OfWire k) = refl

body_depth : (p : Program) (body : Body) → v_depth (body_tree p body) ≤ 2
body_depth p (Copied f) = omega (arith, named_depth p f)
body_depth p (Lowest high f) = omega (arith, lowest_depth p high f)
body_depth p (Padded zeros f) = omega (arith, named_depth p f)
body_depth p (Inverse f) = omega (arith, named_depth p f)
body_depth p (Load a f) = omega (arith, named_depth p f)
body_depth p (Operate op f g) = omega (arith, named_depth p f, named_depth p g)
body_depth p (Select c f g) = omega (arith, named_depth p c, named_depth p f, named_depth p g)

-- ---- actions

abbrev set_toks : Program → ℕ → List Flat → VToks → VToks
set_toks p from [] rest = rest
set_toks p from (f ∷ fs) rest = (Named (item_name p from) ∷ Mark signs.LessEqual ∷ ((flat_tok p f ∷ []) ++ (Mark signs.Semicolon ∷ []))) ++ set_toks p (suc from) fs rest

sets_spell : (p : Program) (from : ℕ) (fs : List Flat) (ts : VToks) (rest : ActionTrees) → SpellsActions ts rest → SpellsActions (set_toks p from fs ts) (set_items p from fs rest)
sets_spell p from [] ts rest d = d
sets_spell p from (f ∷ fs) ts rest d = grammar.some (grammar.set (flat_at p f 0 (omega arith)) refl) (sets_spell p (suc from) fs ts rest d) refl refl

abbrev store_toks : Program → Write → VToks
store_toks p w =
    Named (array_name p w.array) ∷ Mark signs.OpenSquare ∷ ((flat_tok p w.index ∷ []) ++ (Mark signs.CloseSquare ∷ Mark signs.LessEqual ∷ ((flat_tok p w.value ∷ []) ++ Mark signs.Semicolon ∷ [])))

abbrev put_tok : Program → Write → VToks
put_tok p w = Reserved words.If ∷ Mark signs.OpenRound ∷ ((flat_tok p w.guard ∷ []) ++ (Mark signs.CloseRound ∷ store_toks p w))

abbrev put_toks : Program → List Write → VToks → VToks
put_toks p [] rest = rest
put_toks p (w ∷ ws) rest = put_toks p ws (put_tok p w ++ rest)

puts_spell : (p : Program) (ws : List Write) (ts : VToks) (rest : ActionTrees) → SpellsActions ts rest → SpellsActions (put_toks p ws ts) (put_cells p ws rest)
puts_spell p [] ts rest d = d
puts_spell p (w ∷ ws) ts rest d =
    puts_spell p ws (put_tok p w ++ ts) (put_cell p w rest)
    (grammar.some (grammar.when (flat_at p w.guard 0 (omega arith)) (grammar.put (flat_at p w.index 0 (omega arith)) (flat_at p w.value 0 (omega arith)) refl) refl) d refl refl)

sets_depth : (p : Program) (from : ℕ) (fs : List Flat) (rest : ActionTrees) → actions_depth rest ≤ 3 → actions_depth (set_items p from fs rest) ≤ 3
sets_depth p from [] rest h = h
sets_depth p from (f ∷ fs) rest h = omega (arith, named_depth p f, sets_depth p (suc from) fs rest h)

puts_depth : (p : Program) (ws : List Write) (rest : ActionTrees) → actions_depth rest ≤ 3 → actions_depth (put_cells p ws rest) ≤ 3
puts_depth p [] rest h = h
puts_depth p (w ∷ ws) rest h = puts_depth p ws (put_cell p w rest) (omega (arith, h, named_depth p w.guard, named_depth p w.index, named_depth p w.value))

-- ---- members

abbrev range_toks : ℕ → VToks
range_toks w = Mark signs.OpenSquare ∷ Plain (w - 1) 1 ∷ Mark signs.Colon ∷ Plain 0 1 ∷ Mark signs.CloseSquare ∷ []

range_spells : (w : ℕ) → IsWidth w → SpellsRange (range_toks w) w
range_spells w h =
    let low : suc (w - 1) ≡ w = omega (arith, h.0) in
    subst (λ (k : ℕ). SpellsRange (range_toks w) k) low (grammar.present {high = w - 1})

range_piece : (k w : ℕ) → IsWidth w → IsPiece 2 (range_toks w)
range_piece k w h =
    piece_closed (Mark signs.OpenSquare) (Mark signs.CloseSquare) {xs = Plain (w - 1) 1 ∷ Mark signs.Colon ∷ Plain 0 1 ∷ []} {ys = []} opens_square closes_square tt tt
    (piece_token (Plain (w - 1) 1) (λ n. refl) (omega (arith, h.1)) (piece_token (Mark signs.Colon) (λ n. refl) tt (piece_token (Plain 0 1) (λ n. refl) (omega arith) (piece_nil 1)))) (piece_nil 2)

abbrev reg_toks : Item → VToks
reg_toks item = Reserved words.Reg ∷ (range_toks item.width ++ Named item.name ∷ Mark signs.Semicolon ∷ [])

abbrev array_toks : ArrayItem → VToks
array_toks array = Reserved words.Reg ∷ (range_toks array.width ++ Named array.name ∷ Mark signs.OpenSquare ∷ Plain 0 1 ∷ Mark signs.Colon ∷ Plain (array.depth - 1) 1 ∷ Mark signs.CloseSquare ∷ Mark signs.Semicolon ∷ [])

abbrev wire_toks : Program → ℕ → Key → VToks
wire_toks p wire key = Reserved words.Wire ∷ (range_toks key.width ++ (Named (wire_name wire) ∷ Mark signs.Equal ∷ (body_toks p key.body ++ Mark signs.Semicolon ∷ [])))

abbrev input_toks : Item → VToks
input_toks item = Mark signs.Comma ∷ Reserved words.Input ∷ (range_toks item.width ++ (Named item.name ∷ []))

abbrev block_toks : VToks → VToks
block_toks ts = Reserved words.Begin ∷ (ts ++ Reserved words.End ∷ [])

-- tokens that spell members and are a piece
pub record IsPart (ts : VToks) (all : List MemberTree) : Type 0 where
  pub spells : SpellsMembers ts all
  pub piece : IsPiece 2 ts
  pub depth : members_depth all ≤ 3

pub part_more : {xs ys : VToks} {m : MemberTree} {all : List MemberTree} → SpellsMember xs m → IsPiece 2 xs → member_depth m ≤ 3 → IsPart ys all → IsPart (xs ++ ys) (m ∷ all)
part_more d h deep g = record { spells = grammar.some d g.spells refl; piece = piece_append h g.piece; depth = omega (arith, deep, g.depth) }

members_join : {xs ys : VToks} (front all : List MemberTree) → SpellsMembers xs front → SpellsMembers ys all → SpellsMembers (xs ++ ys) (front ++ all)
members_join [] all grammar.none g = g
members_join {ys = zs} (m ∷ front) all (grammar.some {xs = xs} {ys = ys} d ds is) g = grammar.some d (members_join front all ds g) (ap (λ (l : VToks). l ++ zs) is ∙ append_assoc xs ys zs)

depth_join : (front all : List MemberTree) → members_depth front ≤ 3 → members_depth all ≤ 3 → members_depth (front ++ all) ≤ 3
depth_join [] all h k = k
depth_join (m ∷ front) all h k = omega (arith, h, depth_join front all (omega (arith, h)) k)

pub part_append : {xs ys : VToks} (front all : List MemberTree) → IsPart xs front → IsPart ys all → IsPart (xs ++ ys) (front ++ all)
part_append front all f g = record { spells = members_join front all f.spells g.spells; piece = piece_append f.piece g.piece; depth = depth_join front all f.depth g.depth }

pub part_nil : IsPart [] []
part_nil = record { spells = grammar.none; piece = piece_nil 2; depth = omega arith }

setting_piece : (items : List Item) (first : List ℕ) → length first ≡ length items → ((i : ℕ) (d : Item) → i < length items → IsFreeName (get_or items i d).name × IsWidth (get_or items i d).width)
    → ((i : ℕ) (d : Item) → i < length items → slice_index first i < 2 ^ (get_or items i d).width) → IsPiece 2 (flat_map setting_tokens (first_settings items first))
setting_piece [] first many ok low = piece_nil 2
setting_piece (item ∷ items) [] many ok low = absurd (omega (arith, many))
setting_piece (item ∷ items) (v ∷ first) many ok low =
    let here = ok 0 item (omega arith) in
    piece_token (Named item.name) (λ n. refl) (free_has item.name here.0)
    (piece_token (Mark signs.Equal) (λ n. refl) tt
    (piece_token (Sized item.width v) (λ n. refl) (here.1.0, here.1.1, low 0 item (omega arith))
    (piece_token (Mark signs.Semicolon) (λ n. refl) tt
    (setting_piece items first (omega (arith, many)) (λ i d h. ok (suc i) d (omega (arith, h))) (λ i d h. low (suc i) d (omega (arith, h)))))))

module _ (p : Program) (formed : IsWellFormed p) where
  -- ---- what the operands have in them

  flat_has : (n : ℕ) (f : Flat) → n ≤ 2 ^ 64 → IsBelow p n f → HasText (flat_tok p f)
  flat_has n (Fixed w v) few b = (b.0.0, b.0.1, b.1)
  flat_has n (OfItem i) few b = free_has (item_name p i) (All-map IsFreeName (λ (item : Item). item.name) p.items (λ k d h. (formed.items k d h).0) i [] (omega (arith, b, length-map p.items (λ (item : Item). item.name))))
  flat_has n (OfPin i) few b = free_has (pin_name p i) (All-map IsFreeName (λ (item : Item). item.name) p.pins (λ k d h. (formed.pins k d h).0) i [] (omega (arith, b, length-map p.pins (λ (item : Item). item.name))))
  flat_has n (OfWire k) few b = wire_has k (omega (arith, few, b))

  array_has : (a : ℕ) → a < length p.arrays → HasText (Named (array_name p a))
  array_has a h = free_has (array_name p a) (All-map IsFreeName (λ (array : ArrayItem). array.name) p.arrays (λ k d l. (formed.arrays k d l).0) a [] (omega (arith, h, length-map p.arrays (λ (array : ArrayItem). array.name))))

  flat_piece : (k n : ℕ) (f : Flat) {ts : VToks} → n ≤ 2 ^ 64 → IsBelow p n f → IsPiece k ts → IsPiece k (flat_tok p f ∷ ts)
  flat_piece k n f few b h = piece_token (flat_tok p f) (flat_neutral p f) (flat_has n f few b) h

  mark_piece : (k : ℕ) (sign : VSign) {ts : VToks} → IsNeutral (Mark sign) → IsPiece k ts → IsPiece k (Mark sign ∷ ts)
  mark_piece k sign same h = piece_token (Mark sign) same tt h

  bits_piece : (n high : ℕ) (f : Flat) → n ≤ 2 ^ 64 → IsBelow p n f → high < 64
      → IsPiece 2 (flat_tok p f ∷ Mark signs.OpenSquare ∷ ((Plain high 1 ∷ Mark signs.Colon ∷ Plain 0 1 ∷ []) ++ (Mark signs.CloseSquare ∷ [])))
  bits_piece n high f few b small =
      flat_piece 2 n f few b
      (piece_closed (Mark signs.OpenSquare) (Mark signs.CloseSquare) opens_square closes_square tt tt
      (piece_token (Plain high 1) (λ n. refl) (omega (arith, small)) (mark_piece 1 signs.Colon (λ n. refl) (piece_token (Plain 0 1) (λ n. refl) (omega arith) (piece_nil 1)))) (piece_nil 2))

  lowest_piece : (n high : ℕ) (f : Flat) → n ≤ 2 ^ 64 → IsBelow p n f → high < 64 → IsPiece 2 (lowest_toks p high f)
  lowest_piece n high (Fixed w v) few b small = flat_piece 2 n (Fixed w v) few b (piece_nil 2)
  lowest_piece n high (OfItem i) few b small = bits_piece n high (OfItem i) few b small
  lowest_piece n high (OfPin i) few b small = bits_piece n high (OfPin i) few b small
  lowest_piece n high (OfWire k) few b small = bits_piece n high (OfWire k) few b small

  body_piece : (n : ℕ) (body : Body) → n ≤ 2 ^ 64 → IsBodyBelow p n body → IsPiece 2 (body_toks p body)
  body_piece n (Copied f) few b = flat_piece 2 n f few b (piece_nil 2)
  body_piece n (Lowest high f) few b = lowest_piece n high f few b.2 b.0
  body_piece n (Padded zeros f) few b =
      piece_closed (Mark signs.OpenBrace) (Mark signs.CloseBrace) opens_brace closes_brace tt tt
      (piece_token (Sized zeros 0) (λ n. refl) (b.0.0, b.0.1, pow_pos zeros) (mark_piece 1 signs.Comma (λ n. refl) (flat_piece 1 n f few b.1 (piece_nil 1)))) (piece_nil 2)
  body_piece n (Inverse f) few b = mark_piece 2 signs.Tilde (λ n. refl) (flat_piece 2 n f few b (piece_nil 2))
  body_piece n (Load a f) few b =
      piece_token (Named (array_name p a)) (λ n. refl) (array_has a b.0)
      (piece_closed (Mark signs.OpenSquare) (Mark signs.CloseSquare) opens_square closes_square tt tt (flat_piece 1 n f few b.1 (piece_nil 1)) (piece_nil 2))
  body_piece n (Operate op f g) few b = flat_piece 2 n f few b.0 (mark_piece 2 (vsign_of (operator_of op)) (neutral_operator (operator_of op)) (flat_piece 2 n g few b.1 (piece_nil 2)))
  body_piece n (Select c f g) few b =
      flat_piece 2 n c few b.0 (mark_piece 2 signs.Question (λ n. refl) (flat_piece 2 n f few b.1 (mark_piece 2 signs.Colon (λ n. refl) (flat_piece 2 n g few b.2 (piece_nil 2)))))

  -- ---- members

  regs_part : (items : List Item) → ((i : ℕ) (d : Item) → i < length items → IsFreeName (get_or items i d).name × IsWidth (get_or items i d).width) → IsPart (flat_map reg_toks items) (reg_members items)
  regs_part [] ok = part_nil
  regs_part (item ∷ items) ok =
      let here = ok 0 item (omega arith) in
      part_more (grammar.reg (range_spells item.width here.1) refl)
      (piece_token (Reserved words.Reg) (λ n. refl) tt (piece_append (range_piece 2 item.width here.1) (piece_token (Named item.name) (λ n. refl) (free_has item.name here.0) (mark_piece 2 signs.Semicolon (λ n. refl) (piece_nil 2)))))
      (omega arith) (regs_part items (λ i d h. ok (suc i) d (omega (arith, h))))

  arrays_part : (all : List ArrayItem) → ((i : ℕ) (d : ArrayItem) → i < length all → IsStored (get_or all i d)) → IsPart (flat_map array_toks all) (array_members all)
  arrays_part [] ok = part_nil
  arrays_part (array ∷ all) ok =
      let here = ok 0 array (omega arith) in
      let deep : 2 ≤ array.depth = depth_least array.depth here.2 in
      let last : array.depth - 1 < 2 ^ 31 = depth_most array.depth here.2 in
      part_more (grammar.array (array.depth - 1) 1 (range_spells array.width here.1) (omega (arith, deep)) refl)
      (piece_token (Reserved words.Reg) (λ n. refl) tt (piece_append (range_piece 2 array.width here.1)
      (piece_token (Named array.name) (λ n. refl) (free_has array.name here.0)
      (piece_closed (Mark signs.OpenSquare) (Mark signs.CloseSquare) {xs = Plain 0 1 ∷ Mark signs.Colon ∷ Plain (array.depth - 1) 1 ∷ []} opens_square closes_square tt tt
      (piece_token (Plain 0 1) (λ n. refl) (omega arith) (mark_piece 1 signs.Colon (λ n. refl) (piece_token (Plain (array.depth - 1) 1) (λ n. refl) last (piece_nil 1))))
      (mark_piece 2 signs.Semicolon (λ n. refl) (piece_nil 2))))))
      (omega arith) (arrays_part all (λ i d h. ok (suc i) d (omega (arith, h))))
    where
      depth_least : (d : ℕ) → IsDepth d → 2 ≤ d
      depth_least d h = let k : 2 ^ 1 ≤ 2 ^ h.0 = pow-le-pow_right {n = 2} (omega arith) h.1 in omega (arith, k, h.3)

      depth_most : (d : ℕ) → IsDepth d → d - 1 < 2 ^ 31
      depth_most d h = let k : 2 ^ h.0 ≤ 2 ^ 20 = pow-le-pow_right {n = 2} (omega arith) h.2 in omega (arith, k, h.3)

  wires_toks : ℕ → List Key → VToks
  wires_toks from [] = []
  wires_toks from (key ∷ keys) = wire_toks p from key ++ wires_toks (suc from) keys

  wires_part : (from : ℕ) (keys : List Key) → from + length keys ≤ 2 ^ 64 → ((k : ℕ) (key : Key) → slice_get keys k ≡ Some key → IsBodyBelow p (from + k) key.body × IsWidth key.width)
      → IsPart (wires_toks from keys) (wires_from p from keys)
  unfolding wires_toks
  wires_part from [] few ok = part_nil
  wires_part from (key ∷ keys) few ok =
      let here = ok 0 key refl in
      part_more (grammar.wire (range_spells key.width here.1) (body_spells p key.body) refl)
      (piece_token (Reserved words.Wire) (λ n. refl) tt (piece_append (range_piece 2 key.width here.1)
      (piece_token (Named (wire_name from)) (λ n. refl) (wire_has from (omega (arith, few)))
      (mark_piece 2 signs.Equal (λ n. refl) (piece_append (body_piece (from + 0) key.body (omega (arith, few)) here.0) (mark_piece 2 signs.Semicolon (λ n. refl) (piece_nil 2)))))))
      (omega (arith, body_depth p key.body))
      (wires_part (suc from) keys (omega (arith, few)) (λ k x e. (let r = ok (suc k) x e in (subst (λ (n : ℕ). IsBodyBelow p n x.body) {x = from + suc k} {y = suc from + k} (omega arith) r.0, r.1))))

  sets_piece : (n from : ℕ) (fs : List Flat) (ts : VToks) → n ≤ 2 ^ 64 → from + length fs ≤ length p.items → ((i : ℕ) → i < length fs → IsBelow p n (slice_index_or fs i nothing)) → IsPiece 2 ts
      → IsPiece 2 (set_toks p from fs ts)
  sets_piece n from [] ts few many ok h = h
  sets_piece n from (f ∷ fs) ts few many ok h =
      piece_append
      (piece_token (Named (item_name p from)) (λ n. refl) (flat_has n (OfItem from) few (omega (arith, many))) (mark_piece 2 signs.LessEqual (λ n. refl) (flat_piece 2 n f few (ok 0 (omega arith)) (mark_piece 2 signs.Semicolon (λ n. refl) (piece_nil 2)))))
      (sets_piece n (suc from) fs ts few (omega (arith, many)) (λ i k. ok (suc i) (omega (arith, k))) h)

  abbrev pub IsPut : ℕ → Write → Type 0
  IsPut n w = (w.array < length p.arrays) × IsBelow p n w.guard × IsBelow p n w.index × IsBelow p n w.value

  abbrev pub ArePuts : ℕ → List Write → Type 0
  ArePuts n [] = Unit {0}
  ArePuts n (w ∷ ws) = IsPut n w × ArePuts n ws

  put_piece : (n : ℕ) (w : Write) → n ≤ 2 ^ 64 → IsPut n w → IsPiece 2 (put_tok p w)
  put_piece n w few b =
      piece_token (Reserved words.If) (λ n. refl) tt
      (piece_closed (Mark signs.OpenRound) (Mark signs.CloseRound) opens_round closes_round tt tt (flat_piece 1 n w.guard few b.1 (piece_nil 1))
      (piece_token (Named (array_name p w.array)) (λ n. refl) (array_has w.array b.0)
      (piece_closed (Mark signs.OpenSquare) (Mark signs.CloseSquare) opens_square closes_square tt tt (flat_piece 1 n w.index few b.2 (piece_nil 1))
      (mark_piece 2 signs.LessEqual (λ n. refl) (flat_piece 2 n w.value few b.3 (mark_piece 2 signs.Semicolon (λ n. refl) (piece_nil 2)))))))

  puts_piece : (n : ℕ) (ws : List Write) (ts : VToks) → n ≤ 2 ^ 64 → ArePuts n ws → IsPiece 2 ts → IsPiece 2 (put_toks p ws ts)
  puts_piece n [] ts few b h = h
  puts_piece n (w ∷ ws) ts few b h = puts_piece n ws (put_tok p w ++ ts) few b.1 (piece_append (put_piece n w few b.0) h)

  inputs_toks : List Item → VToks
  inputs_toks [] = []
  inputs_toks (item ∷ items) = input_toks item ++ inputs_toks items

  inputs_spell : (items : List Item) → ((i : ℕ) (d : Item) → i < length items → IsFreeName (get_or items i d).name × IsWidth (get_or items i d).width) → SpellsInputs (inputs_toks items) items × IsPiece 2 (inputs_toks items)
  unfolding inputs_toks
  inputs_spell [] ok = (grammar.none, piece_nil 2)
  inputs_spell (item ∷ items) ok =
      let here = ok 0 item (omega arith) in
      let rest = inputs_spell items (λ i d h. ok (suc i) d (omega (arith, h))) in (
        grammar.some {wire = []} (inl refl) (range_spells item.width here.1) rest.0 (ap (λ (l : VToks). Mark signs.Comma ∷ Reserved words.Input ∷ l) (append_assoc (range_toks item.width) (Named item.name ∷ []) (inputs_toks items))),
        piece_append (mark_piece 2 signs.Comma (λ n. refl) (piece_token (Reserved words.Input) (λ n. refl) tt (piece_append (range_piece 2 item.width here.1) (piece_token (Named item.name) (λ n. refl) (free_has item.name here.0) (piece_nil 2))))) rest.1,
      )

  -- ---- the module, where the steps have come to an end

  module _ (end : Going) (few : length end.keys ≤ 2 ^ 64) (ordered : IsOrdered p end.keys) (items_many : length end.sym.items ≡ length p.items)
      (items_below : (i : ℕ) → i < length p.items → IsBelow p (length end.keys) (slice_index_or end.sym.items i nothing)) (puts : ArePuts (length end.keys) end.sym.writes) where
    action_toks : VToks
    action_toks = set_toks p 0 end.sym.items (put_toks p end.sym.writes [])

    always_toks : VToks
    always_toks = Reserved words.Always ∷ Mark signs.At ∷ (Mark signs.OpenRound ∷ ((Reserved words.PosEdge ∷ Named clock_name ∷ []) ++ (Mark signs.CloseRound ∷ block_toks action_toks)))

    always_part : IsPart always_toks (trees.Always clock_name (actions p end.sym) ∷ [])
    unfolding always_toks action_toks
    always_part =
        let spelled : SpellsActions action_toks (actions p end.sym) = sets_spell p 0 end.sym.items (put_toks p end.sym.writes []) (put_cells p end.sym.writes trees.Done) (puts_spell p end.sym.writes [] trees.Done grammar.none) in
        let piece : IsPiece 2 action_toks = sets_piece (length end.keys) 0 end.sym.items (put_toks p end.sym.writes []) few (omega (arith, items_many)) (λ i h. items_below i (omega (arith, items_many, h))) (puts_piece (length end.keys) end.sym.writes [] few puts (piece_nil 2)) in
        subst (λ (ts : VToks). IsPart ts (trees.Always clock_name (actions p end.sym) ∷ [])) (append-nil always_toks)
        (part_more (grammar.always (grammar.block spelled refl) refl)
        (piece_token (Reserved words.Always) (λ n. refl) tt (mark_piece 2 signs.At (λ n. refl)
        (piece_closed (Mark signs.OpenRound) (Mark signs.CloseRound) {xs = Reserved words.PosEdge ∷ Named clock_name ∷ []} opens_round closes_round tt tt
        (piece_token (Reserved words.PosEdge) (λ n. refl) tt (piece_token (Named clock_name) (λ n. refl) (refl, omega arith) (piece_nil 1)))
        (piece_token (Reserved words.Begin) (λ n. refl) tt (piece_append piece (piece_token (Reserved words.End) (λ n. refl) tt (piece_nil 2)))))))
        (sets_depth p 0 end.sym.items (put_cells p end.sym.writes trees.Done) (puts_depth p end.sym.writes trees.Done (omega arith))) part_nil)

    initial_toks : VToks
    initial_toks = Reserved words.Initial ∷ Reserved words.Begin ∷ (flat_map setting_tokens (first_settings p.items p.first) ++ Reserved words.End ∷ [])

    pub members_toks : VToks
    members_toks = flat_map reg_toks p.items ++ (flat_map array_toks p.arrays ++ (initial_toks ++ (wires_toks 0 end.keys ++ always_toks)))

    pub members_part : IsPart members_toks (members_at p end)
    unfolding members_toks initial_toks
    members_part =
        part_append (reg_members p.items) _ (regs_part p.items formed.items)
        (part_append (array_members p.arrays) _ (arrays_part p.arrays formed.arrays)
        (part_more (grammar.initial refl)
        (piece_token (Reserved words.Initial) (λ n. refl) tt (piece_token (Reserved words.Begin) (λ n. refl) tt
        (piece_append (setting_piece p.items p.first formed.first.count formed.items (λ i d h. formed.first.within i d h)) (piece_token (Reserved words.End) (λ n. refl) tt (piece_nil 2)))))
        (omega arith)
        (part_append (wires_from p 0 end.keys) _ (wires_part 0 end.keys (omega (arith, few)) (λ k key e. (let is = ordered k key e in (subst (λ (n : ℕ). IsBodyBelow p n key.body) {x = k} {y = 0 + k} (omega arith) is.below, is.small))))
        always_part)))

    abbrev m : ModuleTree
    m = module_at p end

    own_toks : VToks
    own_toks = Reserved words.Module ∷ Named m.name ∷ (Mark signs.OpenRound ∷ ((Reserved words.Input ∷ (Named m.clock ∷ inputs_toks p.pins)) ++ (Mark signs.CloseRound ∷ (Mark signs.Semicolon ∷ (members_toks ++ Reserved words.EndModule ∷ [])))))

    own_spells : SpellsModule own_toks m
    unfolding own_toks
    own_spells = record {
      wire = [];
      is_wire = inl refl;
      input_part = inputs_toks p.pins;
      spells_inputs = (inputs_spell p.pins formed.pins).0;
      member_part = members_toks;
      spells_members = members_part.spells;
      whole = refl;
    }

    own_piece : IsPiece 3 own_toks
    unfolding own_toks
    own_piece =
        piece_token (Reserved words.Module) (λ n. refl) tt (piece_token (Named m.name) (λ n. refl) (refl, omega arith)
        (piece_closed (Mark signs.OpenRound) (Mark signs.CloseRound) opens_round closes_round tt tt
        (piece_token (Reserved words.Input) (λ n. refl) tt (piece_token (Named m.clock) (λ n. refl) (refl, omega arith) (inputs_spell p.pins formed.pins).1))
        (mark_piece 3 signs.Semicolon (λ n. refl) (piece_append (piece_more members_part.piece) (piece_token (Reserved words.EndModule) (λ n. refl) tt (piece_nil 3))))))

    pub tokens_spell : SpellsModule (module_tokens m) m
    tokens_spell = module_spells own_spells

    pub written : AreWritten (module_tokens m)
    written = module_written own_spells own_piece.have

    pub text_spells : VSpells (module_text m) m
    text_spells = record {
      tokens = placed 0 (module_tokens m);
      lexes = text_lexes 0 (module_tokens m) written;
      shallow = subst (λ (ts : VToks). most_open 0 ts ≤ 64) (sym (placed_same 0 (module_tokens m))) (module_shallow own_spells (omega (arith, own_piece.low 0)));
      spells = subst (λ (ts : VToks). SpellsModule ts m) (sym (placed_same 0 (module_tokens m))) tokens_spell;
      deep = omega (arith, members_part.depth);
    }
