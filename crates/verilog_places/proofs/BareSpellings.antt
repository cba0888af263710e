-- What tokens with places spell, they spell without places.
use Rattle.std.proofs.Common.{◌≡◌, ℕ, suc, Bool, List, [], ◌∷◌, ◌++◌, sym, ap, subst, ◌∙◌}
use Rattle.std.specs.Prelude.{flat_map}
use Rattle.verilog_text.specs.declared.tokens.VKeyword.TheVariants as words
use Rattle.verilog_text.specs.declared.tokens.VSign.TheVariants as signs
use Rattle.verilog_text.specs.Tokens.{VToks, Named, Reserved, Sized, Plain, Mark}
use Rattle.verilog_text.specs.Trees as plain
use Rattle.verilog_text.specs.Trees.{VTree, ActionTrees, SettingTree, MemberTree}
use Rattle.verilog_text.specs.Grammar as grammar
use Rattle.verilog_text.specs.Grammar.{vsign_of, vone_sign, IsOptionalWire, setting_tokens, SpellsVExpr, SpellsVParts, SpellsAction, SpellsActions, SpellsRange, SpellsInputs, SpellsMember, SpellsMembers, SpellsModule}
use Rattle.verilog_places.specs.Trees.{bare, bare_parts, bare_actions, bare_inputs, bare_member, bare_members, bare_module, PlacedTree, PlacedTrees, PlacedActions, PlacedMemberTree, PlacedModuleTree}
use Rattle.verilog_places.specs.declared.modules.PlacedInput.{PlacedInput}
use Rattle.verilog_places.specs.Spelling as placed
use Rattle.verilog_places.specs.Spelling.{PlacedToks, parts_of, SpellsPlaced, SpellsPlacedParts, SpellsPlacedAction, SpellsPlacedActions, SpellsPlacedRange, SpellsPlacedInputs, SpellsPlacedSettings, SpellsPlacedMember, SpellsPlacedMembers, SpellsPlacedModule}
use Rattle.verilog_places.proofs.PlaceLaws.{moved_bare, joined_bare, parts-append}

-- the parts of tokens that are spelled in two pieces
split : {ts : PlacedToks} (xs ys : PlacedToks) → ts ≡ xs ++ ys → parts_of ts ≡ parts_of xs ++ parts_of ys
split xs ys is = ap parts_of is ∙ parts-append xs ys

mutual
  pub expr_bare : {level : ℕ} {ts : PlacedToks} {e : PlacedTree} → SpellsPlaced level ts e → SpellsVExpr level (parts_of ts) (bare e)
  expr_bare (placed.number {width = width} {value = value} is) = subst (λ (v : VToks). SpellsVExpr 12 v (plain.Number width value)) (sym (ap parts_of is)) grammar.number
  expr_bare (placed.named {name = name} is) = subst (λ (v : VToks). SpellsVExpr 12 v (plain.Named name)) (sym (ap parts_of is)) grammar.named
  expr_bare (placed.bit p q r {bit = k} {name = name} is) = subst (λ (v : VToks). SpellsVExpr 12 v (plain.Bits name k k)) (sym (ap parts_of is)) grammar.bit
  expr_bare (placed.part p q r s t {high = high} {low = low} {name = name} is) = subst (λ (v : VToks). SpellsVExpr 12 v (plain.Bits name high low)) (sym (ap parts_of is)) grammar.part
  expr_bare (placed.cell p q {xs = xs} {name = name} d is) =
      grammar.cell (expr_bare d) (ap parts_of is ∙ ap (λ (r : VToks). Named name ∷ Mark signs.OpenSquare ∷ r) (parts-append xs ((q, Mark signs.CloseSquare) ∷ [])))
  expr_bare (placed.join p {xs = xs} ds is) = grammar.join (parts_bare ds) (ap parts_of is ∙ ap (λ (r : VToks). Mark signs.OpenBrace ∷ r) (parts-append xs ((p, Mark signs.CloseBrace) ∷ [])))
  expr_bare (placed.repeat p q r s {xs = xs} {times = times} {digits = digits} some d is) =
      grammar.repeat some (expr_bare d) (ap parts_of is ∙ ap (λ (r : VToks). Mark signs.OpenBrace ∷ Plain times digits ∷ Mark signs.OpenBrace ∷ r) (parts-append xs ((r, Mark signs.CloseBrace) ∷ (s, Mark signs.CloseBrace) ∷ [])))
  expr_bare (placed.inside p {ts = ts} {xs = xs} {at = at} {a = a} d is) =
      subst (λ (t : VTree). SpellsVExpr 12 (parts_of ts) t) (sym (moved_bare at a))
      (grammar.inside (expr_bare d) (ap parts_of is ∙ ap (λ (r : VToks). Mark signs.OpenRound ∷ r) (parts-append xs ((p, Mark signs.CloseRound) ∷ []))))
  expr_bare (placed.one o {a = a} d is) = subst (λ (v : VToks). SpellsVExpr 11 v (plain.One o (bare a))) (sym (ap parts_of is)) (grammar.one o (expr_bare d))
  expr_bare (placed.two o at {xs = xs} {ys = ys} level d e is) = grammar.two o level (expr_bare d) (expr_bare e) (split xs ((at, Mark (vsign_of o)) ∷ ys) is)
  expr_bare (placed.choose p q {xs = xs} {ys = ys} {zs = zs} x y z is) =
      grammar.choose (expr_bare x) (expr_bare y) (expr_bare z)
      (split xs ((p, Mark signs.Question) ∷ (ys ++ ((q, Mark signs.Colon) ∷ zs))) is ∙ ap (λ (r : VToks). parts_of xs ++ (Mark signs.Question ∷ r)) (parts-append ys ((q, Mark signs.Colon) ∷ zs)))
  expr_bare (placed.tighter d) = grammar.tighter (expr_bare d)

  parts_bare : {ts : PlacedToks} {all : PlacedTrees} → SpellsPlacedParts ts all → SpellsVParts (parts_of ts) (bare_parts all)
  parts_bare (placed.last d) = grammar.last (expr_bare d)
  parts_bare (placed.more at {xs = xs} {ys = ys} d ds is) = grammar.more (expr_bare d) (parts_bare ds) (split xs ((at, Mark signs.Comma) ∷ ys) is)

mutual
  action_bare : {closed : Bool} {ts : PlacedToks} {a : PlacedActions} → SpellsPlacedAction closed ts a → SpellsAction closed (parts_of ts) (bare_actions a)
  action_bare (placed.block p q {xs = xs} ds is) = grammar.block (actions_bare ds) (ap parts_of is ∙ ap (λ (r : VToks). Reserved words.Begin ∷ r) (parts-append xs ((q, Reserved words.End) ∷ [])))
  action_bare (placed.set p q r {name = name} {xs = xs} d is) =
      grammar.set (expr_bare d) (ap parts_of is ∙ ap (λ (v : VToks). Named name ∷ Mark signs.LessEqual ∷ v) (parts-append xs ((r, Mark signs.Semicolon) ∷ [])))
  action_bare (placed.put p q r s t {name = name} {xs = xs} {ys = ys} d e is) =
      grammar.put (expr_bare d) (expr_bare e)
      (ap parts_of is ∙ ap (λ (v : VToks). Named name ∷ Mark signs.OpenSquare ∷ v)
      (parts-append xs ((r, Mark signs.CloseSquare) ∷ (s, Mark signs.LessEqual) ∷ (ys ++ (t, Mark signs.Semicolon) ∷ []))
      ∙ ap (λ (v : VToks). parts_of xs ++ (Mark signs.CloseSquare ∷ Mark signs.LessEqual ∷ v)) (parts-append ys ((t, Mark signs.Semicolon) ∷ []))))
  action_bare (placed.when p q r {xs = xs} {ys = ys} d a is) =
      grammar.when (expr_bare d) (action_bare a) (ap parts_of is ∙ ap (λ (v : VToks). Reserved words.If ∷ Mark signs.OpenRound ∷ v) (parts-append xs ((r, Mark signs.CloseRound) ∷ ys)))
  action_bare (placed.choose p q r s {xs = xs} {ys = ys} {zs = zs} d a b is) =
      grammar.choose (expr_bare d) (action_bare a) (action_bare b)
      (ap parts_of is ∙ ap (λ (v : VToks). Reserved words.If ∷ Mark signs.OpenRound ∷ v)
      (parts-append xs ((r, Mark signs.CloseRound) ∷ (ys ++ ((s, Reserved words.Else) ∷ zs)))
      ∙ ap (λ (v : VToks). parts_of xs ++ (Mark signs.CloseRound ∷ v)) (parts-append ys ((s, Reserved words.Else) ∷ zs))))

  actions_bare : {ts : PlacedToks} {a : PlacedActions} → SpellsPlacedActions ts a → SpellsActions (parts_of ts) (bare_actions a)
  actions_bare (placed.none is) = subst (λ (v : VToks). SpellsActions v plain.Done) (sym (ap parts_of is)) grammar.none
  actions_bare (placed.some {xs = xs} {ys = ys} {first = first} {rest = rest} d ds is all) = grammar.some (action_bare d) (actions_bare ds) (split xs ys is) (ap bare_actions all ∙ joined_bare first rest)

range_bare : {ts : PlacedToks} {range width : ℕ} → SpellsPlacedRange ts range width → SpellsRange (parts_of ts) width
range_bare (placed.absent is) = subst (λ (v : VToks). SpellsRange v 1) (sym (ap parts_of is)) grammar.absent
range_bare (placed.present p q r s {high = high} is) = subst (λ (v : VToks). SpellsRange v (suc high)) (sym (ap parts_of is)) grammar.present

inputs_bare : {ts : PlacedToks} {all : List PlacedInput} → SpellsPlacedInputs ts all → SpellsInputs (parts_of ts) (bare_inputs all)
inputs_bare (placed.none is) = subst (λ (v : VToks). SpellsInputs v []) (sym (ap parts_of is)) grammar.none
inputs_bare (placed.some p q r wire {xs = xs} {ys = ys} {input = input} optional d ds is) =
    grammar.some {wire = parts_of wire} optional (range_bare d) (inputs_bare ds)
    (ap parts_of is ∙ ap (λ (v : VToks). Mark signs.Comma ∷ Reserved words.Input ∷ v)
    (parts-append wire (xs ++ ((r, Named input.item.name) ∷ ys)) ∙ ap (λ (v : VToks). parts_of wire ++ v) (parts-append xs ((r, Named input.item.name) ∷ ys))))

settings_bare : {ts : PlacedToks} {all : List SettingTree} → SpellsPlacedSettings ts all → parts_of ts ≡ flat_map setting_tokens all
settings_bare (placed.none is) = ap parts_of is
settings_bare (placed.some p q r s {setting = setting} ds is) =
    ap parts_of is ∙ ap (λ (v : VToks). Named setting.name ∷ Mark signs.Equal ∷ Sized setting.width setting.value ∷ Mark signs.Semicolon ∷ v) (settings_bare ds)

member_bare : {ts : PlacedToks} {member : PlacedMemberTree} → SpellsPlacedMember ts member → SpellsMember (parts_of ts) (bare_member member)
member_bare (placed.reg p q r {xs = xs} {item = item} d is) =
    grammar.reg (range_bare d) (ap parts_of is ∙ ap (λ (v : VToks). Reserved words.Reg ∷ v) (parts-append xs ((q, Named item.name) ∷ (r, Mark signs.Semicolon) ∷ [])))
member_bare (placed.array p q r s t u v w {xs = xs} {array = array} last digits d depth is) =
    grammar.array last digits (range_bare d) depth
    (ap parts_of is ∙ ap (λ (v : VToks). Reserved words.Reg ∷ v)
    (parts-append xs ((q, Named array.name) ∷ (r, Mark signs.OpenSquare) ∷ (s, Plain 0 1) ∷ (t, Mark signs.Colon) ∷ (u, Plain last digits) ∷ (v, Mark signs.CloseSquare) ∷ (w, Mark signs.Semicolon) ∷ [])))
member_bare (placed.wire p q r s {xs = xs} {ys = ys} {item = item} d e is) =
    grammar.wire (range_bare d) (expr_bare e)
    (ap parts_of is ∙ ap (λ (v : VToks). Reserved words.Wire ∷ v)
    (parts-append xs ((q, Named item.name) ∷ (r, Mark signs.Equal) ∷ (ys ++ (s, Mark signs.Semicolon) ∷ []))
    ∙ ap (λ (v : VToks). parts_of xs ++ (Named item.name ∷ Mark signs.Equal ∷ v)) (parts-append ys ((s, Mark signs.Semicolon) ∷ []))))
member_bare (placed.first p q r s t {setting = setting} is) = subst (λ (v : VToks). SpellsMember v (plain.Initial (setting ∷ []))) (sym (ap parts_of is)) grammar.first
member_bare (placed.initial p q r {xs = xs} {all = all} ds is) =
    grammar.initial
    (ap parts_of is ∙ ap (λ (v : VToks). Reserved words.Initial ∷ Reserved words.Begin ∷ v)
    (parts-append xs ((r, Reserved words.End) ∷ []) ∙ ap (λ (v : VToks). v ++ (Reserved words.End ∷ [])) (settings_bare ds)))
member_bare (placed.always p q r s t u d is) = grammar.always (action_bare d) (ap parts_of is)

members_bare : {ts : PlacedToks} {all : List PlacedMemberTree} → SpellsPlacedMembers ts all → SpellsMembers (parts_of ts) (bare_members all)
members_bare (placed.none is) = subst (λ (v : VToks). SpellsMembers v []) (sym (ap parts_of is)) grammar.none
members_bare (placed.some {xs = xs} {ys = ys} d ds is) = grammar.some (member_bare d) (members_bare ds) (split xs ys is)

pub module_bare : {ts : PlacedToks} {m : PlacedModuleTree} → SpellsPlacedModule ts m → SpellsModule (parts_of ts) (bare_module m)
module_bare {ts = ts} {m = m} d =
    let places = d.whole in
    let whole = go d.wire d.input_part d.member_part m places.0 places.1 places.2 places.3 places.4 places.5 places.6 places.7 ts places.8 in
    record {
      wire = parts_of d.wire;
      is_wire = d.is_wire;
      input_part = parts_of d.input_part;
      spells_inputs = inputs_bare d.spells_inputs;
      member_part = parts_of d.member_part;
      spells_members = members_bare d.spells_members;
      whole = whole;
    }
  where
    go : (wire inputs members : PlacedToks) (m : PlacedModuleTree) (p q r s t u v w : ℕ) (ts : PlacedToks)
        → ts ≡ (p, Reserved words.Module) ∷ (q, Named m.name) ∷ (r, Mark signs.OpenRound) ∷ (s, Reserved words.Input) ∷ (wire ++ ((t, Named m.clock) ∷ (inputs
        ++ ((u, Mark signs.CloseRound) ∷ (v, Mark signs.Semicolon) ∷ (members ++ (w, Reserved words.EndModule) ∷ [])))))
        → parts_of ts ≡ Reserved words.Module ∷ Named m.name ∷ Mark signs.OpenRound ∷ Reserved words.Input ∷ (parts_of wire ++ (Named m.clock ∷ (parts_of inputs
        ++ (Mark signs.CloseRound ∷ Mark signs.Semicolon ∷ (parts_of members ++ Reserved words.EndModule ∷ [])))))
    go wire inputs members m p q r s t u v w ts is =
        ap parts_of is ∙ ap (λ (x : VToks). Reserved words.Module ∷ Named m.name ∷ Mark signs.OpenRound ∷ Reserved words.Input ∷ x)
        (parts-append wire ((t, Named m.clock) ∷ (inputs ++ ((u, Mark signs.CloseRound) ∷ (v, Mark signs.Semicolon) ∷ (members ++ (w, Reserved words.EndModule) ∷ []))))
        ∙ ap (λ (x : VToks). parts_of wire ++ (Named m.clock ∷ x))
        (parts-append inputs ((u, Mark signs.CloseRound) ∷ (v, Mark signs.Semicolon) ∷ (members ++ (w, Reserved words.EndModule) ∷ []))
        ∙ ap (λ (x : VToks). parts_of inputs ++ (Mark signs.CloseRound ∷ Mark signs.Semicolon ∷ x)) (parts-append members ((w, Reserved words.EndModule) ∷ []))))
