-- Whole modules.
use Rattle.std.proofs.Common.{◌≡◌, ℕ, zero, suc, ◌+◌, ◌^◌, ◌<◌, ◌≤◌, Bool, true, false, cond, List, [], ◌∷◌, ◌++◌, length, max, Option, Some, None, Ok, Err, refl, sym, ap, subst, ◌∙◌, append_assoc, arith, inl, inr}
use Rattle.std.proofs.lemmas.Bool.{ltb-true, and_parts}
use Rattle.std.specs.List.{slice_get}
use Rattle.verilog_text.specs.declared.faults.VerilogFault.{VerilogFault}
use Rattle.verilog_text.specs.declared.faults.VerilogFault.TheVariants as faults
use Rattle.verilog_text.specs.declared.tokens.VKeyword.TheVariants as words
use Rattle.verilog_text.specs.declared.tokens.VSign.TheVariants as signs
use Rattle.verilog_text.specs.declared.tokens.VToken.{VToken}
use Rattle.verilog_text.specs.Tokens as tokens
use Rattle.verilog_text.specs.Grammar.{IsOptionalWire}
use Rattle.verilog_text.specs.Trees.{members_depth}
use Rattle.verilog_text.specs.Lexing as lexing
use Rattle.verilog_text.specs.Lexing.{Lexes, is_accepted}
use Rattle.verilog_places.specs.declared.modules.PlacedInput.{PlacedInput}
use Rattle.verilog_places.specs.declared.modules.PlacedModule.{PlacedModule}
use Rattle.verilog_places.specs.Trees.{PlacedMemberTree, PlacedModuleTree, placed_module, bare_members, bare_module}
use Rattle.verilog_places.specs.Spelling.{PlacedToks, parts_of, SpellsPlacedInputs, SpellsPlacedMembers, SpellsPlacedModule}
use Rattle.lisa_words.specs.Steps.{◌>>=◌}
use Rattle.lisa_words.proofs.StepLaws.{bind_some, guard_some, some_is}
use Rattle.verilog_expression_reader.specs.declared.misses.Missed.{Missed}
use Rattle.verilog_expression_reader.specs.declared.misses.Missed.TheVariants as misses
use Rattle.verilog_expression_reader.specs.Gives.{Fails}
use Rattle.verilog_expression_reader.specs.Past.{past_of}
use Rattle.verilog_expression_reader.proofs.PastLaws.{past_is}
use Rattle.verilog_action_reader.specs.Reading.{name_of}
use Rattle.verilog_module_reader.specs.Parts.{without_wire, inputs_of}
use Rattle.verilog_module_reader.specs.Members.{members_of}
use Rattle.verilog_module_reader.specs.Modules.{opening_of, pins_of, is_end, whole_module, module_of}
use Rattle.verilog_module_reader.specs.Answers.{PlainsFit, IsModule, IsRead, Turned, IsPlace}
use Rattle.verilog_module_reader.proofs.PartLaws.{fits_front, fits_behind, name_front, without_is, without_there, inputs_sound, inputs_there}
use Rattle.verilog_module_reader.proofs.MemberLaws.{members_sound, members_there}

-- ---- what is read is spelled

pub record TakesOpening (ts : PlacedToks) (x : List ℕ × PlacedToks) : Type 0 where
  pub p : ℕ
  pub q : ℕ
  pub r : ℕ
  pub s : ℕ
  pub parts : ts ≡ (p, tokens.Reserved words.Module) ∷ (q, tokens.Named x.0) ∷ (r, tokens.Mark signs.OpenRound) ∷ (s, tokens.Reserved words.Input) ∷ x.1

opening_front : (ts : PlacedToks) (x : List ℕ × PlacedToks) → opening_of ts ≡ Some x → TakesOpening ts x
opening_front ((p, tokens.Reserved words.Module) ∷ (q, tokens.Named name) ∷ (r, tokens.Mark signs.OpenRound) ∷ (s, tokens.Reserved words.Input) ∷ ts) x e =
    record {
      p = p;
      q = q;
      r = r;
      s = s;
      parts = ap (λ (y : List ℕ × PlacedToks). (p, tokens.Reserved words.Module) ∷ (q, tokens.Named y.0) ∷ (r, tokens.Mark signs.OpenRound) ∷ (s, tokens.Reserved words.Input) ∷ y.1) (some_is (name, ts) x e);
    }
opening_front _ x e = absurd cc

pub record TakesPins (ts : PlacedToks) (x : (List ℕ × List PlacedInput) × PlacedToks) : Type 0 where
  pub wire : PlacedToks
  pub is_wire : IsOptionalWire (parts_of wire)
  pub input_part : PlacedToks
  pub spells_inputs : SpellsPlacedInputs input_part x.0.1
  pub t : ℕ
  pub u : ℕ
  pub v : ℕ
  pub parts : ts ≡ wire ++ ((t, tokens.Named x.0.0) ∷ (input_part ++ ((u, tokens.Mark signs.CloseRound) ∷ (v, tokens.Mark signs.Semicolon) ∷ x.1)))

pins_sound : (ts : PlacedToks) (x : (List ℕ × List PlacedInput) × PlacedToks) → pins_of ts ≡ Some x → TakesPins ts x
unfolding pins_of
pins_sound ts x e =
    let b = bind_some (name_of (without_wire ts)) (λ clock. inputs_of clock.1 >>= λ inputs. past_of signs.CloseRound inputs.1 >>= λ a. past_of signs.Semicolon a >>= λ rest. Some ((clock.0, inputs.0), rest)) x e in
    let c = bind_some (inputs_of b.0.1) (λ inputs. past_of signs.CloseRound inputs.1 >>= λ a. past_of signs.Semicolon a >>= λ rest. Some ((b.0.0, inputs.0), rest)) x b.2 in
    let d = bind_some (past_of signs.CloseRound c.0.1) (λ a. past_of signs.Semicolon a >>= λ rest. Some ((b.0.0, c.0.0), rest)) x c.2 in
    let f = bind_some (past_of signs.Semicolon d.0) (λ rest. Some ((b.0.0, c.0.0), rest)) x d.2 in
    let w = without_is ts in
    let name = name_front (without_wire ts) b.0 b.1 in
    let inputs = inputs_sound b.0.1 c.0 c.1 in
    let close = past_is signs.CloseRound c.0.1 d.0 d.1 in
    let ending = past_is signs.Semicolon d.0 f.0 f.1 in
    let made : (List ℕ × List PlacedInput) × PlacedToks = ((b.0.0, c.0.0), f.0) in
    subst (λ (y : (List ℕ × List PlacedInput) × PlacedToks). TakesPins ts y) (some_is made x f.2) (record {
      wire = w.wire;
      is_wire = w.is_wire;
      input_part = inputs.front;
      spells_inputs = inputs.spells;
      t = name.at;
      u = close.at;
      v = ending.at;
      parts = w.parts ∙ ap (λ (l : PlacedToks). w.wire ++ l) (name.is ∙ ap (λ (l : PlacedToks). (name.at, tokens.Named b.0.0) ∷ l) (inputs.parts ∙ ap (λ (l : PlacedToks). inputs.front ++ l) (close.is ∙ ap (λ (l : PlacedToks). (close.at, tokens.Mark signs.CloseRound) ∷ l) ending.is)));
    })

pub record FrontEndModule (ts : PlacedToks) : Type 0 where
  pub at : ℕ
  pub is : ts ≡ (at, tokens.Reserved words.EndModule) ∷ []

end_is : (ts : PlacedToks) → is_end ts ≡ true → FrontEndModule ts
end_is ((at, tokens.Reserved words.EndModule) ∷ []) e = record { at = at; is = refl }
end_is _ e = absurd cc

pub record IsModuleWithin (n : ℕ) (ts : PlacedToks) (m : PlacedModuleTree) : Type 0 where
  pub spells : SpellsPlacedModule ts m
  pub deep : members_depth (bare_module m).members ≤ n

pub module_sound : (n : ℕ) (ts : PlacedToks) (m : PlacedModuleTree) → module_of n ts ≡ Some m → IsModuleWithin n ts m
unfolding module_of
module_sound n ts m e =
    let b = bind_some (opening_of ts) (λ name. pins_of name.1 >>= λ pins. members_of n pins.1 >>= λ members. cond (is_end members.1) (Some (whole_module name.0 pins.0 members.0)) None) m e in
    let c = bind_some (pins_of b.0.1) (λ pins. members_of n pins.1 >>= λ members. cond (is_end members.1) (Some (whole_module b.0.0 pins.0 members.0)) None) m b.2 in
    let d = bind_some (members_of n c.0.1) (λ members. cond (is_end members.1) (Some (whole_module b.0.0 c.0.0 members.0)) None) m c.2 in
    let g = guard_some (is_end d.0.1) (Some (whole_module b.0.0 c.0.0 d.0.0)) m d.2 in
    let o = opening_front ts b.0 b.1 in
    let pins = pins_sound b.0.1 c.0 c.1 in
    let members = members_sound n c.0.1 d.0 d.1 in
    let ending = end_is d.0.1 g.0 in
    subst (λ (x : PlacedModuleTree). IsModuleWithin n ts x) (some_is (whole_module b.0.0 c.0.0 d.0.0) m g.1) (record {
      spells = record {
        wire = pins.wire;
        is_wire = pins.is_wire;
        input_part = pins.input_part;
        spells_inputs = pins.spells_inputs;
        member_part = members.front;
        spells_members = members.spells;
        whole = (
          o.p,
          o.q,
          o.r,
          o.s,
          pins.t,
          pins.u,
          pins.v,
          ending.at,
          o.parts ∙ ap (λ (l : PlacedToks). (o.p, tokens.Reserved words.Module) ∷ (o.q, tokens.Named b.0.0) ∷ (o.r, tokens.Mark signs.OpenRound) ∷ (o.s, tokens.Reserved words.Input) ∷ l)
              (pins.parts ∙ ap (λ (l : PlacedToks). pins.wire ++ ((pins.t, tokens.Named c.0.0.0) ∷ (pins.input_part ++ ((pins.u, tokens.Mark signs.CloseRound) ∷ (pins.v, tokens.Mark signs.Semicolon) ∷ l)))) (members.parts ∙ ap (λ (l : PlacedToks). members.front ++ l) ending.is)),
        );
      };
      deep = members.deep;
    })

-- ---- what is spelled is read

pins_there : (t u v : ℕ) (wire input_part rest : PlacedToks) (clock : List ℕ) (inputs : List PlacedInput) → IsOptionalWire (parts_of wire) → SpellsPlacedInputs input_part inputs → PlainsFit input_part
    → pins_of (wire ++ ((t, tokens.Named clock) ∷ (input_part ++ ((u, tokens.Mark signs.CloseRound) ∷ (v, tokens.Mark signs.Semicolon) ∷ rest)))) ≡ Some ((clock, inputs), rest)
unfolding pins_of
pins_there t u v wire input_part rest clock inputs w d fit =
    let tail : PlacedToks = (u, tokens.Mark signs.CloseRound) ∷ (v, tokens.Mark signs.Semicolon) ∷ rest in
    ap (λ (l : PlacedToks). name_of l >>= λ clock. inputs_of clock.1 >>= λ inputs. past_of signs.CloseRound inputs.1 >>= λ a. past_of signs.Semicolon a >>= λ rest. Some ((clock.0, inputs.0), rest)) (without_there wire ((t, tokens.Named clock) ∷ (input_part ++ tail)) w refl)
    ∙ ap (λ (z : Option (List PlacedInput × PlacedToks)). z >>= λ inputs. past_of signs.CloseRound inputs.1 >>= λ a. past_of signs.Semicolon a >>= λ rest. Some ((clock, inputs.0), rest)) (inputs_there d fit tail refl)

pub module_there : (n : ℕ) (ts : PlacedToks) (m : PlacedModuleTree) → PlainsFit ts → SpellsPlacedModule ts m → members_depth (bare_module m).members ≤ n → module_of n ts ≡ Some m
unfolding module_of
module_there n ts m fit s deep =
    let w = s.whole in
    let ending : PlacedToks = (w.7, tokens.Reserved words.EndModule) ∷ [] in
    let behind : PlacedToks = (w.5, tokens.Mark signs.CloseRound) ∷ (w.6, tokens.Mark signs.Semicolon) ∷ (s.member_part ++ ending) in
    let inner : PlacedToks = (w.4, tokens.Named m.clock) ∷ (s.input_part ++ behind) in
    let fit_all : PlainsFit (s.wire ++ inner) = subst PlainsFit w.8 fit in
    let fit_inner : PlainsFit inner = fits_behind s.wire inner fit_all in
    let fit_inputs : PlainsFit s.input_part = fits_front s.input_part behind fit_inner in
    let fit_behind : PlainsFit behind = fits_behind s.input_part behind fit_inner in
    let fit_members : PlainsFit s.member_part = fits_front s.member_part ending fit_behind in
    ap (module_of n) w.8
    ∙ ap (λ (z : Option ((List ℕ × List PlacedInput) × PlacedToks)). z >>= λ pins. members_of n pins.1 >>= λ members. cond (is_end members.1) (Some (whole_module m.name pins.0 members.0)) None) (pins_there w.4 w.5 w.6 s.wire s.input_part (s.member_part ++ ending) m.clock m.inputs s.is_wire s.spells_inputs fit_inputs)
    ∙ ap (λ (z : Option (List PlacedMemberTree × PlacedToks)). z >>= λ members. cond (is_end members.1) (Some (whole_module m.name (m.clock, m.inputs) members.0)) None) (members_there n s.spells_members deep fit_members ending refl)

-- tokens spell one module
pub one_module : (ts : PlacedToks) (m k : PlacedModuleTree) → PlainsFit ts → SpellsPlacedModule ts m → SpellsPlacedModule ts k → m ≡ k
one_module ts m k fit s u =
    let n : ℕ = max (members_depth (bare_module m).members) (members_depth (bare_module k).members) in
    some_is m k (sym (module_there n ts m fit s (omega arith)) ∙ module_there n ts k fit u (omega arith))

-- ---- answers

pub read_is : (ts : PlacedToks) (x : PlacedModule) (m : PlacedModuleTree) → module_of 128 ts ≡ Some (placed_module x) → PlainsFit ts → IsModule ts m → placed_module x ≡ m
read_is ts x m e fit s = some_is (placed_module x) m (sym e ∙ module_there 128 ts m fit s.spells s.deep)

pub fails_only : (ts : PlacedToks) (missed : Missed) (fault : VerilogFault) (m : PlacedModuleTree) → Fails missed (module_of 128 ts) → Turned missed fault → PlainsFit ts → IsModule ts m → fault ≡ faults.NoMemory
fails_only ts misses.NoMemory fault m h turned fit s = turned
fails_only ts (misses.At left) fault m h turned fit s = let e = module_there 128 ts m fit s.spells s.deep in absurd cc

pub place_there : (ts : List VToken) (k : ℕ) (token : VToken) → slice_get ts k ≡ Some token → IsPlace token.at ts
place_there [] k token e = absurd cc
place_there (first ∷ ts) zero token e = inl (ap (λ (t : VToken). t.at) (some_is first token e))
place_there (first ∷ ts) (suc k) token e = inr (place_there ts k token e)

-- the tokens of a text fit
pub lexed_fit : {at : ℕ} {bytes : List ℕ} {ts : PlacedToks} → Lexes at bytes ts → PlainsFit ts
lexed_fit lexing.end = tt
lexed_fit (lexing.gap is gap rest) = lexed_fit rest
lexed_fit (lexing.token {tok = tokens.Named name} begins accepted glued rest) = lexed_fit rest
lexed_fit (lexing.token {tok = tokens.Reserved keyword} begins accepted glued rest) = lexed_fit rest
lexed_fit (lexing.token {tok = tokens.Sized width value} begins accepted glued rest) = lexed_fit rest
lexed_fit (lexing.token {tok = tokens.Plain value digits} begins accepted glued rest) = (ltb-true _ _ (let p = and_parts _ _ accepted in p.0), lexed_fit rest)
lexed_fit (lexing.token {tok = tokens.Mark sign} begins accepted glued rest) = lexed_fit rest
