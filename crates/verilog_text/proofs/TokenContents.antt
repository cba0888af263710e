-- What stands in the tokens that are printed stood in those that were read: the names, and numbers that fit.
use Rattle.std.proofs.Common.{◌≡◌, ℕ, suc, ◌-◌, ◌^◌, ◌<◌, ◌≤◌, Bool, true, List, [], ◌∷◌, ◌++◌, length, refl, sym, ap, subst, ◌∙◌, arith, inl, inr}
use Rattle.std.specs.Prelude.{flat_map}
use Rattle.std.specs.Fmt.{decimal}
use Rattle.std.specs.List.{list_all}
use Rattle.std.proofs.lemmas.Bool.{cases_lt, lt-ltb, le-ltb}
use Rattle.lisa_engine.specs.declared.parts.Item.{Item}
use Rattle.lisa_words.specs.Operators.{level_of}
use Rattle.verilog_text.specs.declared.tokens.VKeyword.TheVariants as words
use Rattle.verilog_text.specs.declared.tokens.VSign.TheVariants as signs
use Rattle.verilog_text.specs.Tokens.{VTok, VToks, Named, Reserved, Sized, Plain, Mark}
use Rattle.verilog_text.specs.Trees as trees
use Rattle.verilog_text.specs.Trees.{VTree, VTrees, ActionTrees, SettingTree, MemberTree, ModuleTree, joined}
use Rattle.verilog_text.specs.Grammar as grammar
use Rattle.verilog_text.specs.Grammar.{vsign_of, vone_sign, SpellsVExpr, SpellsVParts, SpellsAction, SpellsActions, SpellsRange, SpellsInputs, SpellsMember, SpellsMembers, SpellsModule, setting_tokens}
use Rattle.verilog_text.specs.Lexing.{is_graphic}
use Rattle.verilog_text.specs.Printing.{plain, own_level, wrapped, bare, shown, parts_tokens, more_tokens, action_tokens, else_tokens, range_tokens, member_tokens, input_tokens, head_tokens, module_tokens}
use Rattle.verilog_text.proofs.SpelledTokens.{action_tokens-joined, more-is}

-- what a token has in it
abbrev pub HasText : VTok → Type 0
HasText (Named name) = (list_all is_graphic name ≡ true) × (0 < length name)
HasText (Reserved keyword) = Unit {0}
HasText (Sized width value) = (1 ≤ width) × (width ≤ 64) × (value < 2 ^ width)
HasText (Plain value digits) = value < 2 ^ 31
HasText (Mark sign) = Unit {0}

abbrev pub Have : VToks → Type 0
Have [] = Unit {0}
Have (t ∷ ts) = HasText t × Have ts

-- and what it has where it is printed: a plain number has the digits that it is written with
abbrev pub IsWritten : VTok → Type 0
IsWritten (Plain value digits) = (value < 2 ^ 31) × (digits ≡ length (decimal value))
IsWritten t = HasText t

abbrev pub AreWritten : VToks → Type 0
AreWritten [] = Unit {0}
AreWritten (t ∷ ts) = IsWritten t × AreWritten ts

pub have_front : (xs ys : VToks) → Have (xs ++ ys) → Have xs
have_front [] ys h = tt
have_front (t ∷ xs) ys h = (h.0, have_front xs ys h.1)

pub have_back : (xs ys : VToks) → Have (xs ++ ys) → Have ys
have_back [] ys h = h
have_back (t ∷ xs) ys h = have_back xs ys h.1

pub written_append : (xs ys : VToks) → AreWritten xs → AreWritten ys → AreWritten (xs ++ ys)
written_append [] ys g h = h
written_append (t ∷ xs) ys g h = (g.0, written_append xs ys g.1 h)

written_wrapped : (r : ℕ) (e : VTree) (ts : VToks) → AreWritten ts → AreWritten (wrapped r e ts)
written_wrapped r e ts h =
    elim (cases_lt (own_level e) r) [
      | inl lt ↦ rw (lt-ltb (own_level e) r lt) (tt, written_append ts (Mark signs.CloseRound ∷ []) h (tt, tt))
      | inr ge ↦ rw (le-ltb (own_level e) r ge) h
    ]

mutual
  pub written_expr : {l : ℕ} {ts : VToks} {e : VTree} → SpellsVExpr l ts e → Have ts → AreWritten (bare e)
  written_expr grammar.number h = (h.0, tt)
  written_expr grammar.named h = (h.0, tt)
  written_expr grammar.bit h = (h.0, (tt, ((h.1.1.0, refl), (tt, ((h.1.1.0, refl), (tt, tt))))))
  written_expr grammar.part h = (h.0, (tt, ((h.1.1.0, refl), (tt, ((h.1.1.1.1.0, refl), (tt, tt))))))
  written_expr (grammar.cell {xs = xs} {index = index} d is) h =
      let g = subst Have is h in
      (g.0, (tt, written_append (shown 0 index) (Mark signs.CloseSquare ∷ []) (written_wrapped 0 index (bare index) (written_expr d (have_front xs (Mark signs.CloseSquare ∷ []) g.1.1))) (tt, tt)))
  written_expr (grammar.join {xs = xs} {all = all} ds is) h =
      let g = subst Have is h in
      (tt, written_append (parts_tokens all) (Mark signs.CloseBrace ∷ []) (written_parts ds (have_front xs (Mark signs.CloseBrace ∷ []) g.1)) (tt, tt))
  written_expr (grammar.repeat {xs = xs} {a = a} some d is) h =
      let g = subst Have is h in (
        tt,
        (
          (g.1.0, refl),
          (
            tt,
            written_append (shown 0 a) (Mark signs.CloseBrace ∷ Mark signs.CloseBrace ∷ [])
                (written_wrapped 0 a (bare a) (written_expr d (have_front xs (Mark signs.CloseBrace ∷ Mark signs.CloseBrace ∷ []) g.1.1.1))) (tt, (tt, tt)),
          ),
        ),
      )
  written_expr (grammar.inside {xs = xs} d is) h = let g = subst Have is h in written_expr d (have_front xs (Mark signs.CloseRound ∷ []) g.1)
  written_expr (grammar.one o {a = a} d) h = (tt, written_wrapped 12 a (bare a) (written_expr d h.1))
  written_expr (grammar.two o {xs = xs} {ys = ys} {a = a} {b = b} at c d is) h =
      let g = subst Have is h in
      written_append (shown (level_of o) a) (Mark (vsign_of o) ∷ shown (suc (level_of o)) b) (written_wrapped (level_of o) a (bare a) (written_expr c (have_front xs (Mark (vsign_of o) ∷ ys) g)))
      (tt, written_wrapped (suc (level_of o)) b (bare b) (written_expr d (have_back xs (Mark (vsign_of o) ∷ ys) g).1))
  written_expr (grammar.choose {xs = xs} {ys = ys} {zs = zs} {c = c} {a = a} {b = b} x y z is) h =
      let g = subst Have is h in
      let k = have_back xs (Mark signs.Question ∷ (ys ++ (Mark signs.Colon ∷ zs))) g in
      written_append (shown 1 c) (Mark signs.Question ∷ (shown 0 a ++ (Mark signs.Colon ∷ shown 0 b))) (written_wrapped 1 c (bare c) (written_expr x (have_front xs (Mark signs.Question ∷ (ys ++ (Mark signs.Colon ∷ zs))) g))) (
        tt,
        written_append (shown 0 a) (Mark signs.Colon ∷ shown 0 b) (written_wrapped 0 a (bare a) (written_expr y (have_front ys (Mark signs.Colon ∷ zs) k.1)))
            (tt, written_wrapped 0 b (bare b) (written_expr z (have_back ys (Mark signs.Colon ∷ zs) k.1).1)),
      )
  written_expr (grammar.tighter d) h = written_expr d h

  pub written_parts : {ts : VToks} {all : VTrees} → SpellsVParts ts all → Have ts → AreWritten (parts_tokens all)
  written_parts (grammar.last {a = a} d) h = written_append (shown 0 a) [] (written_wrapped 0 a (bare a) (written_expr d h)) tt
  written_parts (grammar.more {xs = xs} {ys = ys} {a = a} {all = all} d ds is) h =
      let g = subst Have is h in
      written_append (shown 0 a) (more_tokens all) (written_wrapped 0 a (bare a) (written_expr d (have_front xs (Mark signs.Comma ∷ ys) g)))
      (subst AreWritten (sym (more-is ds)) (tt, written_parts ds (have_back xs (Mark signs.Comma ∷ ys) g).1))

pub written_shown : {l : ℕ} {ts : VToks} {e : VTree} (r : ℕ) → SpellsVExpr l ts e → Have ts → AreWritten (shown r e)
written_shown {e = e} r d h = written_wrapped r e (bare e) (written_expr d h)

else_written : (other : ActionTrees) → AreWritten (action_tokens other) → AreWritten (else_tokens other (action_tokens other))
else_written trees.Done h = tt
else_written (trees.Set name value rest) h = (tt, (tt, written_append (action_tokens (trees.Set name value rest)) (Reserved words.End ∷ []) h (tt, tt)))
else_written (trees.Put name index value rest) h = (tt, (tt, written_append (action_tokens (trees.Put name index value rest)) (Reserved words.End ∷ []) h (tt, tt)))
else_written (trees.If test this other rest) h = (tt, (tt, written_append (action_tokens (trees.If test this other rest)) (Reserved words.End ∷ []) h (tt, tt)))

if_written : (test : VTree) (this other : ActionTrees) → AreWritten (shown 0 test) → AreWritten (action_tokens this) → AreWritten (action_tokens other) → AreWritten (action_tokens (trees.If test this other trees.Done))
if_written test this other f g h = (
  tt,
  (
    tt,
    written_append (shown 0 test) (Mark signs.CloseRound ∷ Reserved words.Begin ∷ (action_tokens this ++ (Reserved words.End ∷ (else_tokens other (action_tokens other) ++ [])))) f
        (tt, (tt, written_append (action_tokens this) (Reserved words.End ∷ (else_tokens other (action_tokens other) ++ [])) g (tt, written_append (else_tokens other (action_tokens other)) [] (else_written other h) tt))),
  ),
)

mutual
  pub written_action : {c : Bool} {ts : VToks} {a : ActionTrees} → SpellsAction c ts a → Have ts → AreWritten (action_tokens a)
  written_action (grammar.block {xs = xs} ds is) h = let g = subst Have is h in written_actions ds (have_front xs (Reserved words.End ∷ []) g.1)
  written_action (grammar.set {xs = xs} {value = value} d is) h =
      let g = subst Have is h in (g.0, (tt, written_append (shown 0 value) (Mark signs.Semicolon ∷ []) (written_shown 0 d (have_front xs (Mark signs.Semicolon ∷ []) g.1.1)) (tt, tt)))
  written_action (grammar.put {xs = xs} {ys = ys} {index = index} {value = value} d e is) h =
      let g = subst Have is h in
      let k = have_back xs (Mark signs.CloseSquare ∷ Mark signs.LessEqual ∷ (ys ++ Mark signs.Semicolon ∷ [])) g.1.1 in (
        g.0,
        (
          tt,
          written_append (shown 0 index) (Mark signs.CloseSquare ∷ Mark signs.LessEqual ∷ (shown 0 value ++ (Mark signs.Semicolon ∷ [])))
              (written_shown 0 d (have_front xs (Mark signs.CloseSquare ∷ Mark signs.LessEqual ∷ (ys ++ Mark signs.Semicolon ∷ [])) g.1.1))
              (tt, (tt, written_append (shown 0 value) (Mark signs.Semicolon ∷ []) (written_shown 0 e (have_front ys (Mark signs.Semicolon ∷ []) k.1.1)) (tt, tt))),
        ),
      )
  written_action (grammar.when {xs = xs} {ys = ys} {test = test} {this = this} d ds is) h =
      let g = subst Have is h in
      if_written test this trees.Done (written_shown 0 d (have_front xs (Mark signs.CloseRound ∷ ys) g.1.1)) (written_action ds (have_back xs (Mark signs.CloseRound ∷ ys) g.1.1).1) tt
  written_action (grammar.choose {xs = xs} {ys = ys} {zs = zs} {test = test} {this = this} {other = other} d ds es is) h =
      let g = subst Have is h in
      let k = have_back xs (Mark signs.CloseRound ∷ (ys ++ (Reserved words.Else ∷ zs))) g.1.1 in
      if_written test this other (written_shown 0 d (have_front xs (Mark signs.CloseRound ∷ (ys ++ (Reserved words.Else ∷ zs))) g.1.1)) (written_action ds (have_front ys (Reserved words.Else ∷ zs) k.1))
      (written_action es (have_back ys (Reserved words.Else ∷ zs) k.1).1)

  pub written_actions : {ts : VToks} {a : ActionTrees} → SpellsActions ts a → Have ts → AreWritten (action_tokens a)
  written_actions grammar.none h = tt
  written_actions (grammar.some {xs = xs} {ys = ys} {first = first} {rest = rest} d ds is e) h =
      let g = subst Have is h in
      subst AreWritten (sym (ap action_tokens e ∙ action_tokens-joined first rest)) (written_append (action_tokens first) (action_tokens rest) (written_action d (have_front xs ys g)) (written_actions ds (have_back xs ys g)))

zero_written : IsWritten (plain 0)
zero_written = (omega arith, refl)

pub written_range : {ts : VToks} {width : ℕ} → SpellsRange ts width → Have ts → AreWritten (range_tokens width)
written_range grammar.absent h = (tt, ((omega arith, refl), (tt, (zero_written, (tt, tt)))))
written_range grammar.present h = (tt, ((omega (arith, h.1.0), refl), (tt, (zero_written, (tt, tt)))))

written_settings : (all : List SettingTree) → Have (flat_map setting_tokens all) → AreWritten (flat_map setting_tokens all)
written_settings [] h = tt
written_settings (s ∷ all) h = (h.0, (tt, (h.1.1.0, (tt, written_settings all h.1.1.1.1))))

pub written_member : {ts : VToks} {m : MemberTree} → SpellsMember ts m → Have ts → AreWritten (member_tokens m)
written_member (grammar.reg {xs = xs} {item = item} d is) h =
    let g = subst Have is h in
    (tt, written_append (range_tokens item.width) (Named item.name ∷ Mark signs.Semicolon ∷ []) (written_range d (have_front xs (Named item.name ∷ Mark signs.Semicolon ∷ []) g.1)) ((have_back xs (Named item.name ∷ Mark signs.Semicolon ∷ []) g.1).0, (tt, tt)))
written_member (grammar.array {xs = xs} {array = array} last digits d deep is) h =
    let g = subst Have is h in
    let rest : VToks = Named array.name ∷ Mark signs.OpenSquare ∷ Plain 0 1 ∷ Mark signs.Colon ∷ Plain last digits ∷ Mark signs.CloseSquare ∷ Mark signs.Semicolon ∷ [] in
    let k : Have rest = have_back xs rest g.1 in (
      tt,
      written_append (range_tokens array.width) (Named array.name ∷ Mark signs.OpenSquare ∷ plain 0 ∷ Mark signs.Colon ∷ plain (array.depth - 1) ∷ Mark signs.CloseSquare ∷ Mark signs.Semicolon ∷ []) (written_range d (have_front xs rest g.1))
          (k.0, (tt, (zero_written, (tt, ((omega (arith, k.1.1.1.1.0), refl), (tt, (tt, tt))))))),
    )
written_member (grammar.wire {xs = xs} {ys = ys} {item = item} {value = value} d e is) h =
    let g = subst Have is h in
    let rest : VToks = Named item.name ∷ Mark signs.Equal ∷ (ys ++ Mark signs.Semicolon ∷ []) in
    let k : Have rest = have_back xs rest g.1 in (
      tt,
      written_append (range_tokens item.width) (Named item.name ∷ Mark signs.Equal ∷ (shown 0 value ++ Mark signs.Semicolon ∷ [])) (written_range d (have_front xs rest g.1))
          (k.0, (tt, written_append (shown 0 value) (Mark signs.Semicolon ∷ []) (written_shown 0 e (have_front ys (Mark signs.Semicolon ∷ []) k.1.1)) (tt, tt))),
    )
written_member grammar.first h = (tt, (tt, (h.1.0, (tt, (h.1.1.1.0, (tt, (tt, tt)))))))
written_member (grammar.initial {all = all} is) h =
    let g = subst Have is h in
    (tt, (tt, written_append (flat_map setting_tokens all) (Reserved words.End ∷ []) (written_settings all (have_front (flat_map setting_tokens all) (Reserved words.End ∷ []) g.1.1)) (tt, tt)))
written_member (grammar.always {xs = xs} {actions = actions} d is) h =
    let g = subst Have is h in
    (tt, (tt, (tt, (tt, (g.1.1.1.1.0, (tt, (tt, written_append (action_tokens actions) (Reserved words.End ∷ []) (written_action d g.1.1.1.1.1.1) (tt, tt))))))))

pub written_members : {ts : VToks} {all : List MemberTree} → SpellsMembers ts all → Have ts → AreWritten (flat_map member_tokens all)
written_members grammar.none h = tt
written_members (grammar.some {xs = xs} {ys = ys} {member = member} {all = all} d ds is) h =
    let g = subst Have is h in written_append (member_tokens member) (flat_map member_tokens all) (written_member d (have_front xs ys g)) (written_members ds (have_back xs ys g))

pub written_inputs : {ts : VToks} {all : List Item} → SpellsInputs ts all → Have ts → AreWritten (flat_map input_tokens all)
written_inputs grammar.none h = tt
written_inputs (grammar.some {wire = wire} {xs = xs} {ys = ys} {item = item} {all = all} w d ds is) h =
    let g = subst Have is h in
    let k : Have (xs ++ (Named item.name ∷ ys)) = have_back wire (xs ++ (Named item.name ∷ ys)) g.1.1 in
    let j : Have (Named item.name ∷ ys) = have_back xs (Named item.name ∷ ys) k in (
      tt,
      (
        tt,
        written_append (range_tokens item.width ++ Named item.name ∷ []) (flat_map input_tokens all)
            (written_append (range_tokens item.width) (Named item.name ∷ []) (written_range d (have_front xs (Named item.name ∷ ys) k)) (j.0, tt)) (written_inputs ds j.1),
      ),
    )

pub module_written : {ts : VToks} {m : ModuleTree} → SpellsModule ts m → Have ts → AreWritten (module_tokens m)
module_written {m = m} s h =
    let ending : VToks = Reserved words.EndModule ∷ [] in
    let old : VToks = Mark signs.CloseRound ∷ Mark signs.Semicolon ∷ (s.member_part ++ ending) in
    let g = subst Have s.whole h in
    let k : Have (Named m.clock ∷ (s.input_part ++ old)) = have_back s.wire (Named m.clock ∷ (s.input_part ++ old)) g.1.1.1.1 in
    let j : Have old = have_back s.input_part old k.1 in
    written_append (head_tokens m) (flat_map member_tokens m.members ++ ending)
    (tt, (g.1.0, (tt, (tt, (k.0, written_append (flat_map input_tokens m.inputs) (Mark signs.CloseRound ∷ Mark signs.Semicolon ∷ []) (written_inputs s.spells_inputs (have_front s.input_part old k.1)) (tt, (tt, tt)))))))
    (written_append (flat_map member_tokens m.members) ending (written_members s.spells_members (have_front s.member_part ending j.1.1)) (tt, tt))
