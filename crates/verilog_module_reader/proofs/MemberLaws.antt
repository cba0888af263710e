-- Members of a module.
use Rattle.std.proofs.Common.{◌≡◌, ℕ, zero, suc, ◌+◌, ◌^◌, ◌<◌, ◌≤◌, Bool, true, false, cond, List, [], ◌∷◌, ◌++◌, length, map, max, Option, Some, None, refl, sym, ap, subst, ◌∙◌, append_assoc, arith}
use Rattle.std.proofs.lemmas.List.{length-append}
use Rattle.verilog_text.specs.declared.tokens.VKeyword.TheVariants as words
use Rattle.verilog_text.specs.declared.tokens.VSign.TheVariants as signs
use Rattle.verilog_text.specs.Tokens as tokens
use Rattle.verilog_text.specs.Trees.{SettingTree, actions_depth, member_depth, members_depth}
use Rattle.verilog_places.specs.Trees as placed
use Rattle.verilog_places.specs.Trees.{PlacedTree, PlacedActions, PlacedMemberTree, bare, bare_actions, bare_member, bare_members}
use Rattle.verilog_places.specs.Spelling as grammar
use Rattle.verilog_places.specs.Spelling.{PlacedToks, SpellsPlacedRange, SpellsPlacedMember, SpellsPlacedMembers}
use Rattle.lisa_words.specs.Many.{Each, none, some, many, with_front}
use Rattle.lisa_words.specs.Steps.{◌>>=◌}
use Rattle.lisa_words.proofs.StepLaws.{bind_some, guard_some, some_is}
use Rattle.lisa_words.proofs.ManyLaws.{Shrinks, Takes, shrinks_from, many_sound, IsItem, many_complete}
use Rattle.verilog_expression_reader.specs.Past.{past_of}
use Rattle.verilog_expression_reader.proofs.PastLaws.{past_is}
use Rattle.verilog_action_reader.specs.Reading.{name_of, expr, action, actions}
use Rattle.verilog_action_reader.proofs.ExprFacts.{expr_sound, expr_there}
use Rattle.verilog_action_reader.specs.Taken.{not_else}
use Rattle.verilog_action_reader.proofs.ActionSound.{actions_sound}
use Rattle.verilog_action_reader.proofs.ActionComplete.{complete}
use Rattle.verilog_module_reader.specs.Parts.{is_zero_to, range_of, cells_of, depth_of, item, setting_of, settings_of}
use Rattle.verilog_module_reader.specs.Members.{array, sized_of, reg_of, wire_of, past_end, block_of, lone_of, initial_of, edge_of, always_of, member_of, ends_module, members_of}
use Rattle.verilog_module_reader.specs.Answers.{PlainsFit}
use Rattle.verilog_module_reader.proofs.PartLaws.{with_none, fits_front, fits_behind, one_more, fits_zero, IsZeroTo, zero_to, name_front, range_sound, range_there, IsSetting, one, setting_sound, setting_there, settings_sound, settings_there}

-- a member of this depth at most
abbrev pub IsMember : ℕ → PlacedToks → PlacedMemberTree → Type 0
IsMember n ts m = SpellsPlacedMember ts m × (member_depth (bare_member m) ≤ n)

abbrev pub IsFitMember : ℕ → PlacedToks → PlacedMemberTree → Type 0
IsFitMember n ts m = SpellsPlacedMember ts m × (member_depth (bare_member m) ≤ n) × PlainsFit ts

-- ---- what is read is spelled

pub record TakesDepth (ts : PlacedToks) (x : ℕ × PlacedToks) : Type 0 where
  pub p : ℕ
  pub q : ℕ
  pub r : ℕ
  pub s : ℕ
  pub t : ℕ
  pub u : ℕ
  pub last : ℕ
  pub digits : ℕ
  pub is_depth : x.0 ≡ suc last
  pub parts : ts ≡ (p, tokens.Mark signs.OpenSquare) ∷ (q, tokens.Plain 0 1) ∷ (r, tokens.Mark signs.Colon) ∷ (s, tokens.Plain last digits) ∷ (t, tokens.Mark signs.CloseSquare) ∷ (u, tokens.Mark signs.Semicolon) ∷ x.1

pub record TakesCells (ts : PlacedToks) (x : ℕ × PlacedToks) : Type 0 where
  pub p : ℕ
  pub q : ℕ
  pub r : ℕ
  pub s : ℕ
  pub t : ℕ
  pub last : ℕ
  pub digits : ℕ
  pub is_depth : x.0 ≡ suc last
  pub parts : ts ≡ (p, tokens.Mark signs.OpenSquare) ∷ (q, tokens.Plain 0 1) ∷ (r, tokens.Mark signs.Colon) ∷ (s, tokens.Plain last digits) ∷ (t, tokens.Mark signs.CloseSquare) ∷ x.1

cells_sound : (ts : PlacedToks) (x : ℕ × PlacedToks) → cells_of ts ≡ Some x → TakesCells ts x
cells_sound ((p, tokens.Mark signs.OpenSquare) ∷ (q, tokens.Plain low more) ∷ (r, tokens.Mark signs.Colon) ∷ (s, tokens.Plain last digits) ∷ (t, tokens.Mark signs.CloseSquare) ∷ ts) x e =
    let g = guard_some (is_zero_to low more last) (Some (last + 1, ts)) x e in
    let z = zero_to low more last g.0 in
    let same = some_is (last + 1, ts) x g.1 in
    record {
      p = p;
      q = q;
      r = r;
      s = s;
      t = t;
      last = last;
      digits = digits;
      is_depth = sym (ap (λ (y : ℕ × PlacedToks). y.0) same) ∙ one_more last;
      parts = ap (λ (k : ℕ). (p, tokens.Mark signs.OpenSquare) ∷ (q, tokens.Plain k more) ∷ (r, tokens.Mark signs.Colon) ∷ (s, tokens.Plain last digits) ∷ (t, tokens.Mark signs.CloseSquare) ∷ ts) z.no_low
          ∙ ap (λ (k : ℕ). (p, tokens.Mark signs.OpenSquare) ∷ (q, tokens.Plain 0 k) ∷ (r, tokens.Mark signs.Colon) ∷ (s, tokens.Plain last digits) ∷ (t, tokens.Mark signs.CloseSquare) ∷ ts) z.one_digit
          ∙ ap (λ (y : ℕ × PlacedToks). (p, tokens.Mark signs.OpenSquare) ∷ (q, tokens.Plain 0 1) ∷ (r, tokens.Mark signs.Colon) ∷ (s, tokens.Plain last digits) ∷ (t, tokens.Mark signs.CloseSquare) ∷ y.1) same;
    }
cells_sound _ x e = absurd cc

depth_sound : (ts : PlacedToks) (x : ℕ × PlacedToks) → depth_of ts ≡ Some x → TakesDepth ts x
unfolding depth_of
depth_sound ts x e =
    let b = bind_some (cells_of ts) (λ d. past_of signs.Semicolon d.1 >>= λ rest. Some (d.0, rest)) x e in
    let c = bind_some (past_of signs.Semicolon b.0.1) (λ rest. Some (b.0.0, rest)) x b.2 in
    let t = cells_sound ts b.0 b.1 in
    let p = past_is signs.Semicolon b.0.1 c.0 c.1 in
    let made : ℕ × PlacedToks = (b.0.0, c.0) in
    subst (λ (y : ℕ × PlacedToks). TakesDepth ts y) (some_is made x c.2) (record {
      p = t.p;
      q = t.q;
      r = t.r;
      s = t.s;
      t = t.t;
      u = p.at;
      last = t.last;
      digits = t.digits;
      is_depth = t.is_depth;
      parts = t.parts ∙ ap (λ (l : PlacedToks). (t.p, tokens.Mark signs.OpenSquare) ∷ (t.q, tokens.Plain 0 1) ∷ (t.r, tokens.Mark signs.Colon) ∷ (t.s, tokens.Plain t.last t.digits) ∷ (t.t, tokens.Mark signs.CloseSquare) ∷ l) p.is;
    })

sized_sound : (n p r range width : ℕ) (name : List ℕ) (front ts : PlacedToks) (x : PlacedMemberTree × PlacedToks) → SpellsPlacedRange front range width → sized_of (range, width) name ts ≡ Some x
    → Takes (IsMember n) ((p, tokens.Reserved words.Reg) ∷ (front ++ ((r, tokens.Named name) ∷ ts))) x
sized_sound n p r range width name front ((s, tokens.Mark signs.Semicolon) ∷ ts) x d e =
    let made : PlacedMemberTree × PlacedToks = (placed.Reg range (item name width), ts) in
    subst (λ (y : PlacedMemberTree × PlacedToks). Takes (IsMember n) ((p, tokens.Reserved words.Reg) ∷ (front ++ ((r, tokens.Named name) ∷ (s, tokens.Mark signs.Semicolon) ∷ ts))) y) (some_is made x e) (record {
      front = (p, tokens.Reserved words.Reg) ∷ (front ++ (r, tokens.Named name) ∷ (s, tokens.Mark signs.Semicolon) ∷ []);
      parts = ap (λ (l : PlacedToks). (p, tokens.Reserved words.Reg) ∷ l) (sym (append_assoc front ((r, tokens.Named name) ∷ (s, tokens.Mark signs.Semicolon) ∷ []) ts));
      some = omega arith;
      spells = (grammar.reg p r s {item = item name width} d refl, omega arith);
    })
sized_sound n p r range width name front ts x d e =
    let b = bind_some (depth_of ts) (λ d. Some (placed.Array range (array name width d.0), d.1)) x e in
    let t = depth_sound ts b.0 b.1 in
    let made : PlacedMemberTree × PlacedToks = (placed.Array range (array name width b.0.0), b.0.1) in
    let last : PlacedToks = (r, tokens.Named name) ∷ (t.p, tokens.Mark signs.OpenSquare) ∷ (t.q, tokens.Plain 0 1) ∷ (t.r, tokens.Mark signs.Colon) ∷ (t.s, tokens.Plain t.last t.digits) ∷ (t.t, tokens.Mark signs.CloseSquare) ∷ (t.u, tokens.Mark signs.Semicolon) ∷ [] in
    subst (λ (y : PlacedMemberTree × PlacedToks). Takes (IsMember n) ((p, tokens.Reserved words.Reg) ∷ (front ++ ((r, tokens.Named name) ∷ ts))) y) (some_is made x b.2) (record {
      front = (p, tokens.Reserved words.Reg) ∷ (front ++ last);
      parts = ap (λ (l : PlacedToks). (p, tokens.Reserved words.Reg) ∷ l) (ap (λ (l : PlacedToks). front ++ ((r, tokens.Named name) ∷ l)) t.parts ∙ sym (append_assoc front last b.0.1));
      some = omega arith;
      spells = (grammar.array p r t.p t.q t.r t.s t.t t.u {array = array name width b.0.0} t.last t.digits d t.is_depth refl, omega arith);
    })

reg_sound : (n p : ℕ) (ts : PlacedToks) (x : PlacedMemberTree × PlacedToks) → reg_of ts ≡ Some x → Takes (IsMember n) ((p, tokens.Reserved words.Reg) ∷ ts) x
unfolding reg_of
reg_sound n p ts x e =
    let b = bind_some (range_of ts) (λ range. name_of range.1 >>= λ name. sized_of range.0 name.0 name.1) x e in
    let c = bind_some (name_of b.0.1) (λ name. sized_of b.0.0 name.0 name.1) x b.2 in
    let r = range_sound ts b.0 b.1 in
    let f = name_front b.0.1 c.0 c.1 in
    subst (λ (l : PlacedToks). Takes (IsMember n) ((p, tokens.Reserved words.Reg) ∷ l) x) (sym (r.parts ∙ ap (λ (l : PlacedToks). r.front ++ l) f.is))
    (sized_sound n p f.at b.0.0.0 b.0.0.1 c.0.0 r.front c.0.1 x r.spells c.2)

wire_sound : (n p : ℕ) (ts : PlacedToks) (x : PlacedMemberTree × PlacedToks) → wire_of n ts ≡ Some x → Takes (IsMember n) ((p, tokens.Reserved words.Wire) ∷ ts) x
unfolding wire_of
wire_sound n p ts x e =
    let b = bind_some (range_of ts) (λ range. name_of range.1 >>= λ name. past_of signs.Equal name.1 >>= λ a. expr n a >>= λ value. past_of signs.Semicolon value.1 >>= λ rest. Some (placed.Wire range.0.0 (item name.0 range.0.1) value.0, rest)) x e in
    let c = bind_some (name_of b.0.1) (λ name. past_of signs.Equal name.1 >>= λ a. expr n a >>= λ value. past_of signs.Semicolon value.1 >>= λ rest. Some (placed.Wire b.0.0.0 (item name.0 b.0.0.1) value.0, rest)) x b.2 in
    let d = bind_some (past_of signs.Equal c.0.1) (λ a. expr n a >>= λ value. past_of signs.Semicolon value.1 >>= λ rest. Some (placed.Wire b.0.0.0 (item c.0.0 b.0.0.1) value.0, rest)) x c.2 in
    let f = bind_some (expr n d.0) (λ value. past_of signs.Semicolon value.1 >>= λ rest. Some (placed.Wire b.0.0.0 (item c.0.0 b.0.0.1) value.0, rest)) x d.2 in
    let g = bind_some (past_of signs.Semicolon f.0.1) (λ rest. Some (placed.Wire b.0.0.0 (item c.0.0 b.0.0.1) f.0.0, rest)) x f.2 in
    let r = range_sound ts b.0 b.1 in
    let name = name_front b.0.1 c.0 c.1 in
    let equal = past_is signs.Equal c.0.1 d.0 d.1 in
    let value = expr_sound n d.0 f.0 f.1 in
    let ending = past_is signs.Semicolon f.0.1 g.0 g.1 in
    let made : PlacedMemberTree × PlacedToks = (placed.Wire b.0.0.0 (item c.0.0 b.0.0.1) f.0.0, g.0) in
    let last : PlacedToks = (ending.at, tokens.Mark signs.Semicolon) ∷ [] in
    let tail : PlacedToks = (name.at, tokens.Named c.0.0) ∷ (equal.at, tokens.Mark signs.Equal) ∷ (value.front ++ last) in
    let behind : b.0.1 ≡ tail ++ g.0 =
    name.is ∙ ap (λ (l : PlacedToks). (name.at, tokens.Named c.0.0) ∷ l) (equal.is ∙ ap (λ (l : PlacedToks). (equal.at, tokens.Mark signs.Equal) ∷ l) (value.parts ∙ ap (λ (l : PlacedToks). value.front ++ l) ending.is ∙ sym (append_assoc value.front last g.0))) in
    subst (λ (y : PlacedMemberTree × PlacedToks). Takes (IsMember n) ((p, tokens.Reserved words.Wire) ∷ ts) y) (some_is made x g.2) (record {
      front = (p, tokens.Reserved words.Wire) ∷ (r.front ++ tail);
      parts = ap (λ (l : PlacedToks). (p, tokens.Reserved words.Wire) ∷ l) (r.parts ∙ ap (λ (l : PlacedToks). r.front ++ l) behind ∙ sym (append_assoc r.front tail g.0));
      some = omega arith;
      spells = (grammar.wire p name.at equal.at ending.at {item = item c.0.0 b.0.0.1} r.spells value.spells refl, value.deep);
    })

pub record FrontEnd (ts rest : PlacedToks) : Type 0 where
  pub at : ℕ
  pub is : ts ≡ (at, tokens.Reserved words.End) ∷ rest

end_front : (ts rest : PlacedToks) → past_end ts ≡ Some rest → FrontEnd ts rest
end_front ((at, tokens.Reserved words.End) ∷ ts) rest e = record { at = at; is = ap (λ (l : PlacedToks). (at, tokens.Reserved words.End) ∷ l) (some_is ts rest e) }
end_front _ rest e = absurd cc

block_sound : (n p q : ℕ) (ts : PlacedToks) (x : PlacedMemberTree × PlacedToks) → block_of ts ≡ Some x → Takes (IsMember n) ((p, tokens.Reserved words.Initial) ∷ (q, tokens.Reserved words.Begin) ∷ ts) x
unfolding block_of
block_sound n p q ts x e =
    let b = bind_some (settings_of ts) (λ all. past_end all.1 >>= λ rest. Some (placed.Initial all.0, rest)) x e in
    let c = bind_some (past_end b.0.1) (λ rest. Some (placed.Initial b.0.0, rest)) x b.2 in
    let t = settings_sound ts b.0 b.1 in
    let f = end_front b.0.1 c.0 c.1 in
    let made : PlacedMemberTree × PlacedToks = (placed.Initial b.0.0, c.0) in
    subst (λ (y : PlacedMemberTree × PlacedToks). Takes (IsMember n) ((p, tokens.Reserved words.Initial) ∷ (q, tokens.Reserved words.Begin) ∷ ts) y) (some_is made x c.2) (record {
      front = (p, tokens.Reserved words.Initial) ∷ (q, tokens.Reserved words.Begin) ∷ (t.front ++ (f.at, tokens.Reserved words.End) ∷ []);
      parts = ap (λ (l : PlacedToks). (p, tokens.Reserved words.Initial) ∷ (q, tokens.Reserved words.Begin) ∷ l) (t.parts ∙ ap (λ (l : PlacedToks). t.front ++ l) f.is ∙ sym (append_assoc t.front ((f.at, tokens.Reserved words.End) ∷ []) c.0));
      some = omega arith;
      spells = (grammar.initial p q f.at t.spells refl, omega arith);
    })

first_spelled : (p : ℕ) {xs : PlacedToks} {a : SettingTree} → IsSetting xs a → SpellsPlacedMember ((p, tokens.Reserved words.Initial) ∷ xs) (placed.Initial (a ∷ []))
first_spelled p (one q r s t is) = grammar.first p q r s t (ap (λ (l : PlacedToks). (p, tokens.Reserved words.Initial) ∷ l) is)

lone_sound : (n p : ℕ) (ts : PlacedToks) (x : PlacedMemberTree × PlacedToks) → lone_of ts ≡ Some x → Takes (IsMember n) ((p, tokens.Reserved words.Initial) ∷ ts) x
unfolding lone_of
lone_sound n p ts x e =
    let b = bind_some (setting_of ts) (λ setting. Some (placed.Initial (setting.0 ∷ []), setting.1)) x e in
    let t = setting_sound ts b.0 b.1 in
    let made : PlacedMemberTree × PlacedToks = (placed.Initial (b.0.0 ∷ []), b.0.1) in
    subst (λ (y : PlacedMemberTree × PlacedToks). Takes (IsMember n) ((p, tokens.Reserved words.Initial) ∷ ts) y) (some_is made x b.2) (record {
      front = (p, tokens.Reserved words.Initial) ∷ t.front;
      parts = ap (λ (l : PlacedToks). (p, tokens.Reserved words.Initial) ∷ l) t.parts;
      some = omega arith;
      spells = (first_spelled p t.spells, omega arith);
    })

initial_sound : (n p : ℕ) (ts : PlacedToks) (x : PlacedMemberTree × PlacedToks) → initial_of ts ≡ Some x → Takes (IsMember n) ((p, tokens.Reserved words.Initial) ∷ ts) x
unfolding initial_of
initial_sound n p ((q, tokens.Reserved words.Begin) ∷ ts) x e = block_sound n p q ts x e
initial_sound n p ts x e = lone_sound n p ts x e

pub record TakesEdge (ts : PlacedToks) (x : List ℕ × PlacedToks) : Type 0 where
  pub p : ℕ
  pub q : ℕ
  pub r : ℕ
  pub s : ℕ
  pub t : ℕ
  pub parts : ts ≡ (p, tokens.Mark signs.At) ∷ (q, tokens.Mark signs.OpenRound) ∷ (r, tokens.Reserved words.PosEdge) ∷ (s, tokens.Named x.0) ∷ (t, tokens.Mark signs.CloseRound) ∷ x.1

edge_front : (ts : PlacedToks) (x : List ℕ × PlacedToks) → edge_of ts ≡ Some x → TakesEdge ts x
edge_front ((p, tokens.Mark signs.At) ∷ (q, tokens.Mark signs.OpenRound) ∷ (r, tokens.Reserved words.PosEdge) ∷ (s, tokens.Named edge) ∷ (t, tokens.Mark signs.CloseRound) ∷ ts) x e =
    record {
      p = p;
      q = q;
      r = r;
      s = s;
      t = t;
      parts = ap (λ (y : List ℕ × PlacedToks). (p, tokens.Mark signs.At) ∷ (q, tokens.Mark signs.OpenRound) ∷ (r, tokens.Reserved words.PosEdge) ∷ (s, tokens.Named y.0) ∷ (t, tokens.Mark signs.CloseRound) ∷ y.1) (some_is (edge, ts) x e);
    }
edge_front _ x e = absurd cc

always_sound : (n p : ℕ) (ts : PlacedToks) (x : PlacedMemberTree × PlacedToks) → always_of n ts ≡ Some x → Takes (IsMember n) ((p, tokens.Reserved words.Always) ∷ ts) x
unfolding always_of
always_sound n p ts x e =
    let b = bind_some (edge_of ts) (λ edge. actions (action n edge.1) >>= λ all. Some (placed.Always edge.0 all.0, all.1)) x e in
    let c = bind_some (actions (action n b.0.1)) (λ all. Some (placed.Always b.0.0 all.0, all.1)) x b.2 in
    let f = edge_front ts b.0 b.1 in
    let t = actions_sound (action n b.0.1) c.0 c.1 in
    let made : PlacedMemberTree × PlacedToks = (placed.Always b.0.0 c.0.0, c.0.1) in
    subst (λ (y : PlacedMemberTree × PlacedToks). Takes (IsMember n) ((p, tokens.Reserved words.Always) ∷ ts) y) (some_is made x c.2) (record {
      front = (p, tokens.Reserved words.Always) ∷ (f.p, tokens.Mark signs.At) ∷ (f.q, tokens.Mark signs.OpenRound) ∷ (f.r, tokens.Reserved words.PosEdge) ∷ (f.s, tokens.Named b.0.0) ∷ (f.t, tokens.Mark signs.CloseRound) ∷ t.front;
      parts = ap (λ (l : PlacedToks). (p, tokens.Reserved words.Always) ∷ l) (f.parts ∙ ap (λ (l : PlacedToks). (f.p, tokens.Mark signs.At) ∷ (f.q, tokens.Mark signs.OpenRound) ∷ (f.r, tokens.Reserved words.PosEdge) ∷ (f.s, tokens.Named b.0.0) ∷ (f.t, tokens.Mark signs.CloseRound) ∷ l) t.parts);
      some = omega arith;
      spells = (grammar.always p f.p f.q f.r f.s f.t t.spells refl, t.deep);
    })

pub member_sound : (n : ℕ) (ts : PlacedToks) (x : PlacedMemberTree × PlacedToks) → member_of n ts ≡ Some x → Takes (IsMember n) ts x
unfolding member_of
member_sound n ((p, tokens.Reserved words.Reg) ∷ ts) x e = reg_sound n p ts x e
member_sound n ((p, tokens.Reserved words.Wire) ∷ ts) x e = wire_sound n p ts x e
member_sound n ((p, tokens.Reserved words.Initial) ∷ ts) x e = initial_sound n p ts x e
member_sound n ((p, tokens.Reserved words.Always) ∷ ts) x e = always_sound n p ts x e
member_sound n _ x e = absurd cc

pub member_shrinks : (n : ℕ) → Shrinks (member_of n)
member_shrinks n = shrinks_from (IsMember n) (member_of n) (member_sound n)

pub members_start : (n : ℕ) (ts : PlacedToks) → with_front [] (many (member_of n) ends_module ts) ≡ members_of n ts
unfolding members_of
members_start n ts = with_none (many (member_of n) ends_module ts)

-- ---- what is spelled is read

depth_there : (r s t u v w last digits : ℕ) (rest : PlacedToks) → last < 2 ^ 31
    → depth_of ((r, tokens.Mark signs.OpenSquare) ∷ (s, tokens.Plain 0 1) ∷ (t, tokens.Mark signs.Colon) ∷ (u, tokens.Plain last digits) ∷ (v, tokens.Mark signs.CloseSquare) ∷ (w, tokens.Mark signs.Semicolon) ∷ rest) ≡ Some (suc last, rest)
unfolding depth_of
depth_there r s t u v w last digits rest lt =
    let behind : PlacedToks = (w, tokens.Mark signs.Semicolon) ∷ rest in
    let found : Option (ℕ × PlacedToks) = Some (last + 1, behind) in
    let read : cond (is_zero_to 0 1 last) found None ≡ found = ap (λ (b : Bool). cond b found None) (fits_zero last lt) in
    ap (λ (z : Option (ℕ × PlacedToks)). z >>= λ d. past_of signs.Semicolon d.1 >>= λ more. Some (d.0, more)) read
    ∙ ap (λ (k : ℕ). Some (k, rest)) (one_more last)

member_there : (n : ℕ) {ts : PlacedToks} {m : PlacedMemberTree} → SpellsPlacedMember ts m → member_depth (bare_member m) ≤ n → PlainsFit ts → (rest : PlacedToks) → not_else rest ≡ true → member_of n (ts ++ rest) ≡ Some (m, rest)
unfolding member_of reg_of depth_of wire_of block_of lone_of initial_of always_of
member_there n {ts} (grammar.reg p q r {xs = xs} {range = range} {item = a} d is) deep fit rest free =
    let fit_range : PlainsFit xs = fits_front xs _ (subst PlainsFit is fit) in
    ap (λ (l : PlacedToks). member_of n (l ++ rest)) is ∙ ap (λ (l : PlacedToks). member_of n ((p, tokens.Reserved words.Reg) ∷ l)) (append_assoc xs ((q, tokens.Named a.name) ∷ (r, tokens.Mark signs.Semicolon) ∷ []) rest)
    ∙ ap (λ (z : Option ((ℕ × ℕ) × PlacedToks)). z >>= λ range. name_of range.1 >>= λ name. sized_of range.0 name.0 name.1) (range_there d fit_range q a.name ((r, tokens.Mark signs.Semicolon) ∷ rest))
member_there n {ts} (grammar.array p q r s t u v w {xs = xs} {range = range} {array = a} last digits d h is) deep fit rest free =
    let tail : PlacedToks = (r, tokens.Mark signs.OpenSquare) ∷ (s, tokens.Plain 0 1) ∷ (t, tokens.Mark signs.Colon) ∷ (u, tokens.Plain last digits) ∷ (v, tokens.Mark signs.CloseSquare) ∷ (w, tokens.Mark signs.Semicolon) ∷ [] in
    let fit_all : PlainsFit (xs ++ ((q, tokens.Named a.name) ∷ tail)) = subst PlainsFit is fit in
    let fit_range : PlainsFit xs = fits_front xs _ fit_all in
    let fit_tail : PlainsFit ((q, tokens.Named a.name) ∷ tail) = fits_behind xs _ fit_all in
    ap (λ (l : PlacedToks). member_of n (l ++ rest)) is ∙ ap (λ (l : PlacedToks). member_of n ((p, tokens.Reserved words.Reg) ∷ l)) (append_assoc xs ((q, tokens.Named a.name) ∷ tail) rest)
    ∙ ap (λ (z : Option ((ℕ × ℕ) × PlacedToks)). z >>= λ range. name_of range.1 >>= λ name. sized_of range.0 name.0 name.1) (range_there d fit_range q a.name (tail ++ rest))
    ∙ ap (λ (z : Option (ℕ × PlacedToks)). z >>= λ d. Some (placed.Array range (array a.name a.width d.0), d.1)) (depth_there r s t u v w last digits rest fit_tail.1.0)
    ∙ ap (λ (k : ℕ). Some (placed.Array range (array a.name a.width k), rest)) (sym h)
member_there n {ts} (grammar.wire p q r s {xs = xs} {ys = ys} {range = range} {item = a} {value = value} d e is) deep fit rest free =
    let tail : PlacedToks = (q, tokens.Named a.name) ∷ (r, tokens.Mark signs.Equal) ∷ (ys ++ (s, tokens.Mark signs.Semicolon) ∷ []) in
    let fit_range : PlainsFit xs = fits_front xs _ (subst PlainsFit is fit) in
    ap (λ (l : PlacedToks). member_of n (l ++ rest)) is
    ∙ ap (λ (l : PlacedToks). member_of n ((p, tokens.Reserved words.Wire) ∷ l)) (append_assoc xs tail rest ∙ ap (λ (l : PlacedToks). xs ++ ((q, tokens.Named a.name) ∷ (r, tokens.Mark signs.Equal) ∷ l)) (append_assoc ys ((s, tokens.Mark signs.Semicolon) ∷ []) rest))
    ∙ ap (λ (z : Option ((ℕ × ℕ) × PlacedToks)). z >>= λ range. name_of range.1 >>= λ name. past_of signs.Equal name.1 >>= λ a. expr n a >>= λ value. past_of signs.Semicolon value.1 >>= λ rest. Some (placed.Wire range.0.0 (item name.0 range.0.1) value.0, rest))
    (range_there d fit_range q a.name ((r, tokens.Mark signs.Equal) ∷ (ys ++ ((s, tokens.Mark signs.Semicolon) ∷ rest))))
    ∙ ap (λ (z : Option (PlacedTree × PlacedToks)). z >>= λ value. past_of signs.Semicolon value.1 >>= λ rest. Some (placed.Wire range (item a.name a.width) value.0, rest)) (expr_there e n ((s, tokens.Mark signs.Semicolon) ∷ rest) deep (omega arith))
member_there n (grammar.first p q r s t is) deep fit rest free = ap (λ (l : PlacedToks). member_of n (l ++ rest)) is
member_there n (grammar.initial p q r {xs = xs} {all = all} d is) deep fit rest free =
    ap (λ (l : PlacedToks). member_of n (l ++ rest)) is
    ∙ ap (λ (l : PlacedToks). member_of n ((p, tokens.Reserved words.Initial) ∷ (q, tokens.Reserved words.Begin) ∷ l)) (append_assoc xs ((r, tokens.Reserved words.End) ∷ []) rest)
    ∙ ap (λ (z : Option (List SettingTree × PlacedToks)). z >>= λ all. past_end all.1 >>= λ rest. Some (placed.Initial all.0, rest)) (settings_there d ((r, tokens.Reserved words.End) ∷ rest) refl)
member_there n (grammar.always p q r s t u {edge = edge} {actions = all} d is) deep fit rest free =
    let c = complete d in
    ap (λ (l : PlacedToks). member_of n (l ++ rest)) is
    ∙ ap (λ (z : Option (PlacedActions × PlacedToks)). z >>= λ all. Some (placed.Always edge all.0, all.1)) (c.alone n rest deep (λ _. free))

-- a member begins neither with `else` nor with `endmodule`
record Starts (ts : PlacedToks) : Type 0 where
  pub goes : ends_module ts ≡ false
  pub free : not_else ts ≡ true

starts : {ts : PlacedToks} {m : PlacedMemberTree} → SpellsPlacedMember ts m → (rest : PlacedToks) → Starts (ts ++ rest)
starts (grammar.reg p q r d is) rest = rw is (record { goes = refl; free = refl })
starts (grammar.array p q r s t u v w last digits d h is) rest = rw is (record { goes = refl; free = refl })
starts (grammar.wire p q r s d e is) rest = rw is (record { goes = refl; free = refl })
starts (grammar.first p q r s t is) rest = rw is (record { goes = refl; free = refl })
starts (grammar.initial p q r d is) rest = rw is (record { goes = refl; free = refl })
starts (grammar.always p q r s t u d is) rest = rw is (record { goes = refl; free = refl })

end_free : (ts : PlacedToks) → ends_module ts ≡ true → not_else ts ≡ true
end_free ((p, tokens.Reserved words.EndModule) ∷ ts) e = refl
end_free _ e = absurd cc

member_item : (n : ℕ) → IsItem (IsFitMember n) (member_of n) ends_module (λ ts. not_else ts ≡ true)
member_item n = record {
  shrinks = member_shrinks n;
  reads = λ xs rest m d free. member_there n d.0 d.1 d.2 rest free;
  goes = λ xs rest m d. let s = starts d.0 rest in s.goes;
  before = λ xs rest m d. let s = starts d.0 rest in s.free;
  at_stop = end_free;
}

members_each : (n : ℕ) {ts : PlacedToks} {all : List PlacedMemberTree} → SpellsPlacedMembers ts all → members_depth (bare_members all) ≤ n → PlainsFit ts → Each (IsFitMember n) ts all
members_each n (grammar.none is) deep fit = rw is none
members_each n (grammar.some {xs = xs} {ys = ys} d ds is) deep fit =
    let both = subst PlainsFit is fit in
    some (d, omega (arith, deep), fits_front xs ys both) (members_each n ds (omega (arith, deep)) (fits_behind xs ys both)) is

pub record TakesMembers (n : ℕ) (ts : PlacedToks) (x : List PlacedMemberTree × PlacedToks) : Type 0 where
  pub front : PlacedToks
  pub parts : ts ≡ front ++ x.1
  pub spells : SpellsPlacedMembers front x.0
  pub deep : members_depth (bare_members x.0) ≤ n

each_members : (n : ℕ) {ts : PlacedToks} {all : List PlacedMemberTree} → Each (IsMember n) ts all → SpellsPlacedMembers ts all × (members_depth (bare_members all) ≤ n)
each_members n none = (grammar.none refl, omega arith)
each_members n (some d ds is) = let rest = each_members n ds in (grammar.some d.0 rest.0 is, omega (arith, d.1, rest.1))

pub members_sound : (n : ℕ) (ts : PlacedToks) (x : List PlacedMemberTree × PlacedToks) → members_of n ts ≡ Some x → TakesMembers n ts x
unfolding members_of
members_sound n ts x e =
    let t = many_sound (IsMember n) (member_of n) ends_module (member_sound n) ts x e in
    let all = each_members n t.spells in
    record { front = t.front; parts = t.parts; spells = all.0; deep = all.1 }

pub members_there : (n : ℕ) {ts : PlacedToks} {all : List PlacedMemberTree} → SpellsPlacedMembers ts all → members_depth (bare_members all) ≤ n → PlainsFit ts → (rest : PlacedToks) → ends_module rest ≡ true → members_of n (ts ++ rest) ≡ Some (all, rest)
unfolding members_of
members_there n d deep fit rest stops = many_complete (member_item n) (members_each n d deep fit) rest stops
