-- After an assignment to a name the store holds the moment after it.
use Rattle.std.proofs.Common.{◌≡◌, ◌<◌, ◌∙◌, ℕ, suc, Bool, true, false, cond, List, [], ◌∷◌, Option, None, Some, IfSome, length, map, take, get_or, set, nat_eq, refl, sym, ap, subst}
use Rattle.std.specs.Prelude.{option_map, slice_get}
use Rattle.std.specs.Map.{lookup}
use Rattle.std.proofs.lemmas.Bool.{eqb-true, eqb-false}
use Rattle.std.proofs.lemmas.List.{length-set, get_or-set_same, get_or-set_other}
use Rattle.lisa_words.specs.declared.words.Kind.{Kind}
use Rattle.lisa_tree.specs.declared.tokens.Shape.{Shape}
use Rattle.lisa_tree.specs.Expressions as exprs
use Rattle.lisa_tree.specs.Descriptions as trees
use Rattle.lisa_tree.specs.Descriptions.{ResourceTree, DescriptionTree}
use Rattle.lisa_tree.specs.declared.declared.Meaning.{Meaning}
use Rattle.lisa_tree.specs.declared.declared.Meaning.TheVariants as meanings
use Rattle.lisa_tree.specs.Same.{same_name}
use Rattle.lisa_tree.specs.Meanings.{meaning}
use Rattle.description_places.specs.Scopes.{Scope}
use Rattle.description_sizes.specs.Texts.{levels}
use Rattle.typed_values.specs.Words.{TypedWord, truth}
use Rattle.typed_values.specs.Effects.{Locals, like, local_put}
use Rattle.machine_parts.specs.Parts.{registers_of}
use Rattle.lisa_meaning.specs.Scenes.{Scene, at_path, running}
use Rattle.lisa_meaning.specs.Moments.{Moment, with_locals}
use Rattle.lisa_meaning.specs.Values.{register_place, shaped}
use Rattle.lisa_meaning.specs.Effects.{bits_for, register_put, resource_put, PutBelow, meant_put, name_put, put_within}
use Rattle.behavior_plans.specs.Holdings.{Holdings, word_at, put_word, with_registers, with_slots}
use Rattle.behavior_plans.specs.Effects.{spot_put}
use Rattle.lisa_eval.specs.Resolving.{local_slot}
use Rattle.lisa_eval.specs.Assigning.{resource_spot, meant_spot, local_spot, resolved_spot}
use Rattle.lisa_eval.specs.Holding.{register_shape, HoldsLocals, Holds}
use Rattle.lisa_eval.specs.Laws.{NamesAreAssigned}
use Rattle.lisa_eval.proofs.Slots.{IsSlotOf, slot_has}
use Rattle.lisa_eval.proofs.Registers.{place_within, one_shape}

-- ---- locals

-- with another value of the local in this slot
abbrev SetsSlot : List ℕ → Scope → Locals → List TypedWord → TypedWord → Option ℕ → Type 0
SetsSlot n scope locals slots w slot = IfSome slot (λ s. HoldsLocals scope (local_put locals n w) (set slots s w))

sets_slot : (n : List ℕ) (scope : Scope) (locals : Locals) (slots : List TypedWord) (w : TypedWord) → map (λ local. local.0) locals ≡ map (λ entry. entry.0) scope → take (length locals) slots ≡ map (λ local. local.1) locals
    → SetsSlot n scope locals slots w (local_slot n scope)
sets_slot n [] locals slots w names values = tt
sets_slot n (x ∷ xs) [] slots w names values = absurd (cc names)
sets_slot n (x ∷ xs) (v ∷ vs) [] w names values = absurd (cc values)
sets_slot n (x ∷ xs) (v ∷ vs) (u ∷ us) w names values =
    subst (λ (name : List ℕ). SetsSlot n (x ∷ xs) (v ∷ vs) (u ∷ us) w (cond (same_name n name) (Some 0) (option_map (λ (s : ℕ). suc s) (local_slot n xs)))) name
    (by (same_name n v.0) (local_slot n xs) (sets_slot n xs vs us w (cc names) rest))
  where
    name : v.0 ≡ x.0
    name = cc names

    held : u ≡ v.1
    held = cc values

    rest : take (length vs) us ≡ map (λ local. local.1) vs
    rest = cc values

    by : (b : Bool) (slot : Option ℕ) → SetsSlot n xs vs us w slot
        → IfSome (cond b (Some 0) (option_map (λ (s : ℕ). suc s) slot)) (λ s. HoldsLocals (x ∷ xs) (cond b ((v.0, w) ∷ vs) (v ∷ local_put vs n w)) (set (u ∷ us) s w))
    by true slot below = record { names = names; values = ap (λ (l : List TypedWord). w ∷ l) rest }
    by false None below = tt
    by false (Some s) below = record {
      names = ap (λ (l : List (List ℕ)). v.0 ∷ l) below.names ∙ ap (λ (a : List ℕ). a ∷ map (λ entry. entry.0) xs) name;
      values = ap (λ (l : List TypedWord). u ∷ l) below.values ∙ ap (λ (a : TypedWord). a ∷ map (λ local. local.1) (local_put vs n w)) held;
    }

module _ (d : DescriptionTree) (scene : Scene) (m : Moment) (scope : Scope) (h : Holdings) (given : Kind → TypedWord) (holds : Holds d scene m scope h) where
  -- ---- registers

  register_holds : (k : ℕ) (shape : Shape) → register_shape (slice_get d.resources k) ≡ Some shape
      → Holds d scene (register_put (register_place d k) (bits_for shape given) m) scope (with_registers (put_word h.registers (register_place d k) given) h)
  register_holds k shape is = record {
    stored = length-set m.memory.registers (register_place d k) (bits_for shape given) ∙ holds.stored;
    room = length-set h.registers (register_place d k) word ∙ holds.room;
    registers = λ j other e. by j other e (nat_eq (register_place d j) (register_place d k)) refl;
    kept = holds.kept;
    pins = holds.pins;
    locals = holds.locals;
    cells = holds.cells;
    cells_fit = holds.cells_fit;
    decoded = holds.decoded;
    fields = holds.fields;
    fields_fit = holds.fields_fit;
    outs = holds.outs;
    stalled = holds.stalled;
    flushed = holds.flushed;
  }
    where
      word : TypedWord
      word = like (word_at h.registers (register_place d k)) given

      typed_so : word ≡ shaped shape (bits_for shape given)
      typed_so = ap (λ (old : TypedWord). like old given) (holds.registers k shape is)

      by : (j : ℕ) (other : Shape) → register_shape (slice_get d.resources j) ≡ Some other → (b : Bool) → nat_eq (register_place d j) (register_place d k) ≡ b
          → get_or (set h.registers (register_place d k) word) (register_place d j) (truth false) ≡ shaped other (get_or (set m.memory.registers (register_place d k) (bits_for shape given)) (register_place d j) 0)
      by j other e true at =
          let p : ℕ = register_place d k in
          let same : register_place d j ≡ p = eqb-true (register_place d j) p at in
          let low : p < length (registers_of d) = place_within d k shape is in
          let one : shape ≡ other = one_shape d k j shape other is e (sym same) in
          ap (λ (q : ℕ). get_or (set h.registers p word) q (truth false)) same
          ∙ get_or-set_same h.registers p word (truth false) (subst (λ (count : ℕ). p < count) (sym holds.room) low)
          ∙ typed_so
          ∙ ap (λ (s : Shape). shaped s (bits_for shape given)) one
          ∙ ap (λ (bits : ℕ). shaped other bits)
          (sym (ap (λ (q : ℕ). get_or (set m.memory.registers p (bits_for shape given)) q 0) same
          ∙ get_or-set_same m.memory.registers p (bits_for shape given) 0 (subst (λ (count : ℕ). p < count) (sym holds.stored) low)))
      by j other e false at =
          let p : ℕ = register_place d k in
          let apart = eqb-false (register_place d j) p at in
          get_or-set_other h.registers p (register_place d j) word (truth false) apart
          ∙ holds.registers j other e
          ∙ ap (λ (bits : ℕ). shaped other bits) (sym (get_or-set_other m.memory.registers p (register_place d j) (bits_for shape given) 0 apart))

  resource_holds : (k : ℕ) (r : Option ResourceTree) → slice_get d.resources k ≡ r → IfSome (resource_spot d k r) (λ spot. Holds d scene (resource_put d k r given m) scope (spot_put spot given h))
  resource_holds k None e = tt
  resource_holds k (Some (trees.Register word shape name None)) e = register_holds k shape (ap register_shape e)
  resource_holds k (Some (trees.Register word shape name (Some depth))) e = tt
  resource_holds k (Some (trees.Clocked word shape name)) e = register_holds k shape (ap register_shape e)
  resource_holds k (Some (trees.Memory word shape name depth)) e = tt
  resource_holds k (Some (trees.Pin shape name)) e = tt
  resource_holds k (Some (trees.Pipeline name stages)) e = tt
  resource_holds k (Some (trees.Fields pipe fields)) e = tt

  -- ---- locals

  local_holds : (n : List ℕ) (s : ℕ) (w : TypedWord) → HoldsLocals scope (local_put m.locals n w) (set h.slots s w) → Holds d scene (with_locals (local_put m.locals n w) m) scope (with_slots (set h.slots s w) h)
  local_holds n s w locals = record {
    stored = holds.stored;
    room = holds.room;
    registers = holds.registers;
    kept = holds.kept;
    pins = holds.pins;
    locals = locals;
    cells = holds.cells;
    cells_fit = holds.cells_fit;
    decoded = holds.decoded;
    fields = holds.fields;
    fields_fit = holds.fields_fit;
    outs = holds.outs;
    stalled = holds.stalled;
    flushed = holds.flushed;
  }

  -- ---- names

  name_holds : (n : List ℕ) → IfSome (resolved_spot d (running scene) scope (exprs.Named n)) (λ spot. Holds d scene (put_within (suc (levels d)) d scene (exprs.Named n) given m) scope (spot_put spot given h))
  name_holds n =
      by (local_slot n scope) (meaning d (running scene) n) refl (slot_has n scope m.locals h.slots holds.locals) (λ w. sets_slot n scope m.locals h.slots w holds.locals.names holds.locals.values)
    where
      below : PutBelow
      below = λ path place v now. put_within (levels d) d (at_path scene path) place v now

      by : (slot : Option ℕ) (is : Meaning) → meaning d (running scene) n ≡ is → IsSlotOf h.slots (lookup (same_name n) m.locals) slot → ((w : TypedWord) → SetsSlot n scope m.locals h.slots w slot)
          → IfSome (local_spot slot (meant_spot d is)) (λ spot. Holds d scene (name_put below d scene n (lookup (same_name n) m.locals) given m) scope (spot_put spot given h))
      by (Some s) is e found sets =
          let w : TypedWord = like (word_at h.slots s) given in
          subst (λ (o : Option TypedWord). Holds d scene (name_put below d scene n o given m) scope (with_slots (set h.slots s w) h)) (sym found) (local_holds n s w (sets w))
      by None meanings.Nothing e found sets = tt
      by None (meanings.Resource k) e found sets =
          let r : Option ResourceTree = slice_get d.resources k in
          let same : resource_put d k r given m ≡ name_put below d scene n (lookup (same_name n) m.locals) given m =
          ap (λ (x : Meaning). meant_put below d scene n x given m) (sym e) ∙ ap (λ (o : Option TypedWord). name_put below d scene n o given m) (sym found) in
          subst (λ (now : Moment). IfSome (resource_spot d k r) (λ spot. Holds d scene now scope (spot_put spot given h))) same (resource_holds k r refl)
      by None (meanings.Declared i) e found sets = tt

pub names_assigned : (d : DescriptionTree) → NamesAreAssigned d
names_assigned d scene m scope h n given holds = name_holds d scene m scope h given holds n
