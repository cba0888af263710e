-- What an assignment leaves fits.
use Rattle.std.proofs.Common.{◌≡◌, ◌<◌, ◌^◌, ◌∙◌, ℕ, zero, suc, List, [], ◌∷◌, Option, None, Some, length, get_or, set, refl, sym, ap, subst, arith}
use Rattle.std.specs.Prelude.{slice_get}
use Rattle.std.proofs.lemmas.List.{length-set}
use Rattle.std.proofs.lemmas.Option.{same_Some, get_or_from_slice_get}
use Rattle.lisa_tree.specs.declared.tokens.Shape.{Shape}
use Rattle.lisa_tree.specs.Descriptions.{DescriptionTree}
use Rattle.lisa_engine.specs.declared.parts.Item.{Item}
use Rattle.lisa_engine.specs.declared.parts.ArrayItem.{ArrayItem}
use Rattle.lisa_engine.specs.Shape.{IsFitting, AreCells}
use Rattle.lisa_engine.specs.Touches.{set_cell}
use Rattle.meaning_promises.specs.machine_parts.Parts.{arrays_of, registers_of}
use Rattle.scene_paths.specs.lisa_meaning.Moments.{Moment, Outs, with_out, written, out_set}
use Rattle.scene_paths.specs.lisa_meaning.Values.{shape_at}
use Rattle.scene_paths.specs.lisa_meaning.Effects.{register_put, cell_put}
use Rattle.meaning_promises.specs.Fitting.{FieldFits}
use Rattle.lowered_resources.specs.Holding.{HoldsFit}

-- what a list has at a place, once it got another value at one
pub set_has : {X : Type 0} (P : X → Type 0) (xs : List X) (j k : ℕ) (x e : X) → P (get_or xs k e) → (k ≡ j → P x) → P (get_or (set xs j x) k e)
set_has P [] j k x e old new = old
set_has P (y ∷ ys) zero zero x e old new = new refl
set_has P (y ∷ ys) zero (suc k) x e old new = old
set_has P (y ∷ ys) (suc j) zero x e old new = old
set_has P (y ∷ ys) (suc j) (suc k) x e old new = set_has P ys j k x e old (λ same. new (ap suc same))

items_set : (items : List Item) (values : List ℕ) (place bits : ℕ) (i : Item) → slice_get items place ≡ Some i → bits < 2 ^ i.width → IsFitting items values → IsFitting items (set values place bits)
items_set items values place bits i at low fit = record {
  count = length-set values place bits ∙ fit.count;
  within = λ k item less.
      set_has (λ (v : ℕ). v < 2 ^ (get_or items k item).width) values place k bits 0 (fit.within k item less)
      (λ same. (let here : get_or items k item ≡ i = ap (λ (n : ℕ). get_or items n item) same ∙ get_or_from_slice_get items place i item at in
      subst (λ (x : Item). bits < 2 ^ x.width) (sym here) low));
}

cells_set : (arrays : List ArrayItem) (cells : List (List ℕ)) (place index bits : ℕ) (a : ArrayItem) → slice_get arrays place ≡ Some a → bits < 2 ^ a.width → AreCells arrays cells → AreCells arrays (set_cell cells place index bits)
cells_set arrays cells place index bits a at low all = record {
  count = length-set cells place new ∙ all.count;
  depths = λ k array less.
      set_has (λ (row : List ℕ). length row ≡ (get_or arrays k array).depth) cells place k new [] (all.depths k array less)
      (λ same. length-set old index bits ∙ ap (λ (n : ℕ). length (get_or cells n [])) (sym same) ∙ all.depths k array less);
  within = λ k j array less.
      set_has (λ (row : List ℕ). Within k array row) cells place k new [] (λ i inside. all.within k i array less inside) (λ same. new_within k array less same) j;
}
  where
    old : List ℕ
    old = get_or cells place []

    new : List ℕ
    new = set old index bits

    Within : ℕ → ArrayItem → List ℕ → Type 0
    Within k array row = (j : ℕ) → j < length row → get_or row j 0 < 2 ^ (get_or arrays k array).width

    new_within : (k : ℕ) (array : ArrayItem) → k < length arrays → k ≡ place → Within k array new
    new_within k array less same j inside =
        let here : get_or arrays k array ≡ a = ap (λ (n : ℕ). get_or arrays n array) same ∙ get_or_from_slice_get arrays place a array at in
        let long : length new ≡ length old = length-set old index bits in
        let row : get_or cells k [] ≡ old = ap (λ (n : ℕ). get_or cells n []) same in
        set_has (λ (v : ℕ). v < 2 ^ (get_or arrays k array).width) old index j bits 0
        (subst (λ (r : List ℕ). j < length r → get_or r j 0 < 2 ^ (get_or arrays k array).width) row (all.within k j array less) (omega (arith, inside, long)))
        (λ here_too. subst (λ (x : ArrayItem). bits < 2 ^ x.width) (sym here) low)

-- ---- fields of boundaries

-- what holds of what each field got, once one got bits
outs_have : (P : Option ℕ → Type 0) (outs : Outs) (s f t g bits : ℕ) → P (written outs t g) → (t ≡ s → g ≡ f → P (Some bits)) → P (written (out_set outs s f bits) t g)
outs_have P outs s f t g bits old new =
    set_has (λ (row : List (Option ℕ)). P (get_or row g None)) outs s t (set (get_or outs s []) f (Some bits)) [] old
    (λ same. set_has P (get_or outs s []) f g (Some bits) None (subst (λ (n : ℕ). P (written outs n g)) same old) (new same))

pub rooms_kept : (outs : Outs) (s f bits t g : ℕ) → (t < length outs) × (g < length (get_or outs t [])) → (t < length (out_set outs s f bits)) × (g < length (get_or (out_set outs s f bits) t []))
rooms_kept outs s f bits t g there =
    let row = set (get_or outs s []) f (Some bits) in (
      subst (λ (n : ℕ). t < n) (sym (length-set outs s row)) there.0,
      set_has (λ (r : List (Option ℕ)). g < length r) outs s t row [] there.1
          (λ same. let here : g < length (get_or outs s []) = subst (λ (n : ℕ). g < length (get_or outs n [])) same there.1 in
          subst (λ (n : ℕ). g < n) (sym (length-set (get_or outs s []) f (Some bits))) here),
    )

module _ (d : DescriptionTree) (m : Moment) (fit : HoldsFit d m) where
  pub register_fits : (place bits : ℕ) (i : Item) → slice_get (registers_of d) place ≡ Some i → bits < 2 ^ i.width → HoldsFit d (register_put place bits m)
  register_fits place bits i at low = record {
    moment = record {
      memory = record {
        registers = items_set (registers_of d) m.memory.registers place bits i at low fit.moment.memory.registers;
        cells = fit.moment.memory.cells;
        fields = fit.moment.memory.fields;
      };
      outs = fit.moment.outs;
    };
    rooms = fit.rooms;
    kept = fit.kept;
    pins = fit.pins;
  }

  pub cell_fits : (place index bits : ℕ) (a : ArrayItem) → slice_get (arrays_of d) place ≡ Some a → bits < 2 ^ a.width → HoldsFit d (cell_put place index bits m)
  cell_fits place index bits a at low = record {
    moment = record {
      memory = record {
        registers = fit.moment.memory.registers;
        cells = cells_set (arrays_of d) m.memory.cells place index bits a at low fit.moment.memory.cells;
        fields = fit.moment.memory.fields;
      };
      outs = fit.moment.outs;
    };
    rooms = fit.rooms;
    kept = fit.kept;
    pins = fit.pins;
  }

  pub out_fits : (s f bits : ℕ) (shape : Shape) → shape_at d f ≡ Some shape → bits < 2 ^ shape.width → HoldsFit d (with_out s f bits m)
  out_fits s f bits shape is low = record {
    moment = record {
      memory = fit.moment.memory;
      outs = λ t g b put. outs_have (Fits g) m.outs s f t g bits (λ c at. fit.moment.outs t g c at) (λ row same. new g same) b put;
    };
    rooms = λ t g has. rooms_kept m.outs s f bits t g (fit.rooms t g has);
    kept = fit.kept;
    pins = fit.pins;
  }
    where
      Fits : ℕ → Option ℕ → Type 0
      Fits g out = (b : ℕ) → out ≡ Some b → FieldFits d g b

      new : (g : ℕ) → g ≡ f → Fits g (Some bits)
      new g same b put other there =
          subst (λ (n : ℕ). n < 2 ^ other.width) (same_Some bits b put)
          (subst (λ (x : Shape). bits < 2 ^ x.width) (same_Some shape other (sym is ∙ ap (shape_at d) (sym same) ∙ there)) low)
