-- The numbers in wires and symbols are within their widths.
use Rattle.std.proofs.Common.{◌≡◌, ℕ, ◌<◌, ◌≤◌, List, [], ◌∷◌, ◌++◌, length, get_or, sym, ap, ap₂, ◌∙◌, subst, arith}
use Rattle.std.specs.Prelude.{All, reverse, slice_index_or}
use Rattle.std.proofs.lemmas.List.{reverse-append}
use Rattle.std.proofs.lemmas.Option.{slice_get-get_or}
use Rattle.lisa_engine.proofs.Places.{any_default}
use Rattle.verilog_rules.proofs.Narrow.{Each, each_all}
use Rattle.step_program.specs.Programs.{Program}
use Rattle.step_program.specs.WellFormed.{IsWellFormed}
use Rattle.netlist_wires.specs.declared.keys.Flat.{Flat}
use Rattle.netlist_wires.specs.declared.keys.Flat.TheVariants.{Fixed, OfItem, OfPin, OfWire}
use Rattle.netlist_wires.specs.declared.keys.Body.{Body}
use Rattle.netlist_wires.specs.declared.keys.Body.TheVariants.{Copied, Lowest, Padded, Inverse, Load, Operate, Select}
use Rattle.netlist_wires.specs.declared.keys.Key.{Key}
use Rattle.netlist_wires.specs.declared.keys.Write.{Write}
use Rattle.netlist_wires.specs.Tables.{IsFind}
use Rattle.netlist_wires.specs.Costs.{moves_cost}
use Rattle.netlist_wires.specs.Wiring.{Find, Sym, nothing, Going, gone_all, begun_going, ended}
use Rattle.netlist_wires.proofs.Growing.{IsBelow, IsBodyBelow, IsOrdered, AreSound, Went, all_grown, begun_sound}
use Rattle.netlist_build.specs.Symbolic.{going}
use Rattle.netlist_build.specs.Assembled.{IsWord, HasWords, IsWrite}

flat_word : (p : Program) (n : ℕ) (f : Flat) → IsBelow p n f → IsWord f
flat_word p n (Fixed w v) b = b
flat_word p n (OfItem i) b = tt
flat_word p n (OfPin i) b = tt
flat_word p n (OfWire k) b = tt

body_words : (p : Program) (n : ℕ) (body : Body) → IsBodyBelow p n body → HasWords body
body_words p n (Copied f) b = flat_word p n f b
body_words p n (Lowest high f) b = flat_word p n f b.2
body_words p n (Padded zeros f) b = (b.0, flat_word p n f b.1)
body_words p n (Inverse f) b = flat_word p n f b
body_words p n (Load a f) b = flat_word p n f b.1
body_words p n (Operate op f g) b = (flat_word p n f b.0, flat_word p n g b.1)
body_words p n (Select c f g) b = (flat_word p n c b.0, flat_word p n f b.1, flat_word p n g b.2)

each_front : {X : Type 0} (P : X → Type 0) (xs ys : List X) → Each P (xs ++ ys) → Each P xs
each_front P [] ys h = tt
each_front P (x ∷ xs) ys h = (h.0, each_front P xs ys h.1)

each_back : {X : Type 0} (P : X → Type 0) (xs ys : List X) → Each P (xs ++ ys) → Each P ys
each_back P [] ys h = h
each_back P (x ∷ xs) ys h = each_back P xs ys h.1

each_reversed : {X : Type 0} (P : X → Type 0) (xs : List X) → Each P (reverse xs) → Each P xs
each_reversed P [] h = tt
each_reversed P (x ∷ xs) h =
    let g : Each P (reverse xs ++ (x ∷ [])) = subst (Each P) (reverse-append (x ∷ []) xs) h in
    ((each_back P (reverse xs) (x ∷ []) g).0, each_reversed P xs (each_front P (reverse xs) (x ∷ []) g))

module _ (find : Find) (is_find : IsFind find) (p : Program) (formed : IsWellFormed p) where
  abbrev end : Going
  end = ended find p

  went : Went p formed find is_find [] end (moves_cost [] p.moves)
  went = all_grown p formed find is_find (begun_going p) p.moves (begun_sound p formed find is_find) formed.moves

  ordered : IsOrdered p end.keys
  ordered = went.ordered (λ k key e. absurd (cc))

  pub key_words : (keys : List Key) → keys ≡ end.keys → All (λ key. HasWords key.body) keys
  key_words keys is = subst (All (λ key. HasWords key.body)) (sym is) (λ k d h. body_words p k (get_or end.keys k d).body (ordered k (get_or end.keys k d) (slice_get-get_or end.keys k d h)).below)

  pub item_words : (items : List Flat) → items ≡ end.sym.items → All IsWord items
  item_words items is = subst (All IsWord) (sym is) (λ k d h.
      (let less : k < length p.items = omega (arith, went.sym.items_many, h) in
      subst IsWord (any_default end.sym.items k nothing d h) (flat_word p (length end.keys) (slice_index_or end.sym.items k nothing) (went.sym.items k less).below)))

  pub few_items : (items : List Flat) → items ≡ end.sym.items → length items ≤ 8192
  few_items items is = omega (arith, ap (λ (xs : List Flat). length xs) is, went.sym.items_many, formed.few_items)

  each_write : (ws : List Write) → AreSound p formed find is_find end.keys ws → Each IsWrite ws
  each_write [] b = tt
  each_write (w ∷ ws) b = (
    record { guard = flat_word p (length end.keys) w.guard b.0.guard; index = flat_word p (length end.keys) w.index b.0.index; value = flat_word p (length end.keys) w.value b.0.value },
    each_write ws b.1,
  )

  pub write_words : (writes : List Write) → reverse writes ≡ end.sym.writes → All IsWrite writes
  write_words writes is = each_all IsWrite writes (each_reversed IsWrite writes (subst (Each IsWrite) (sym is) (each_write end.sym.writes went.sym.writes)))

-- the symbols and keys once all steps are taken
pub ended_sym : (find : Find) (p : Program) (s now : Sym) (keys : List Key) → s ≡ (begun_going p).sym → keys ≡ [] → now ≡ (gone_all find p (going s keys) p.moves).sym → now ≡ (ended find p).sym
ended_sym find p s now keys is none e = e ∙ ap₂ (λ (s : Sym) (keys : List Key). (gone_all find p (going s keys) p.moves).sym) is none

pub ended_keys : (find : Find) (p : Program) (s : Sym) (keys now : List Key) → s ≡ (begun_going p).sym → keys ≡ [] → now ≡ (gone_all find p (going s keys) p.moves).keys → now ≡ (ended find p).keys
ended_keys find p s keys now is none e = e ∙ ap₂ (λ (s : Sym) (keys : List Key). (gone_all find p (going s keys) p.moves).keys) is none
