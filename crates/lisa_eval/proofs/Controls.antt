-- A level that is stalled or flushed.
use Rattle.std.proofs.Common.{◌≡◌, ◌<◌, ◌∙◌, ◌||◌, ℕ, Bool, true, false, cond, List, ◌∷◌, length, get_or, set, nat_eq, refl, sym, ap}
use Rattle.std.proofs.lemmas.Bool.{eqb-true, eqb-false}
use Rattle.std.proofs.lemmas.List.{get_or-set_same, get_or-set_other}
use Rattle.lisa_tree.specs.Descriptions.{DescriptionTree}
use Rattle.graph_paths.specs.Paths.{is_in}
use Rattle.lisa_meaning.specs.Moments.{noted}
use Rattle.lisa_eval.specs.Laws.{StallsAreHeld, FlushesAreHeld}

one_more : (bits : List Bool) (levels : List ℕ) (level : ℕ) → level < length bits → ((l : ℕ) → get_or bits l false ≡ is_in l levels) → (l : ℕ) → get_or (set bits level true) l false ≡ is_in l (noted level levels)
one_more bits levels level low old l = by (nat_eq l level) refl (is_in level levels) refl
  where
    here : l ≡ level → get_or (set bits level true) l false ≡ true
    here same = ap (λ (k : ℕ). get_or (set bits level true) k false) same ∙ get_or-set_same bits level true false low

    by : (b : Bool) → nat_eq l level ≡ b → (known : Bool) → is_in level levels ≡ known → get_or (set bits level true) l false ≡ is_in l (cond known levels (level ∷ levels))
    by true e true known = here (eqb-true l level e) ∙ sym (ap (λ (k : ℕ). is_in k levels) (eqb-true l level e) ∙ known)
    by true e false known = here (eqb-true l level e) ∙ sym (ap (λ (b : Bool). b || is_in l levels) e)
    by false e true known = get_or-set_other bits level l true false (eqb-false l level e) ∙ old l
    by false e false known = get_or-set_other bits level l true false (eqb-false l level e) ∙ old l ∙ sym (ap (λ (b : Bool). b || is_in l levels) e)

pub stalls_held : (d : DescriptionTree) → StallsAreHeld d
stalls_held d scene m scope h level holds low = record {
  stored = holds.stored;
  room = holds.room;
  registers = holds.registers;
  kept = holds.kept;
  pins = holds.pins;
  locals = holds.locals;
  cells = holds.cells;
  cells_fit = holds.cells_fit;
  decoded = holds.decoded;
  fields = holds.fields;
  fields_fit = holds.fields_fit;
  outs = holds.outs;
  stalled = one_more h.stalled m.stalled level low holds.stalled;
  flushed = holds.flushed;
}

pub flushes_held : (d : DescriptionTree) → FlushesAreHeld d
flushes_held d scene m scope h level holds low = record {
  stored = holds.stored;
  room = holds.room;
  registers = holds.registers;
  kept = holds.kept;
  pins = holds.pins;
  locals = holds.locals;
  cells = holds.cells;
  cells_fit = holds.cells_fit;
  decoded = holds.decoded;
  fields = holds.fields;
  fields_fit = holds.fields_fit;
  outs = holds.outs;
  stalled = holds.stalled;
  flushed = one_more h.flushed m.flushed level low holds.flushed;
}
