-- What assignments, stalls and flushes put behind what is there.
use Rattle.std.proofs.Common.{◌≡◌, ◌∙◌, ◌+◌, ℕ, suc, List, [], ◌∷◌, Option, None, Some, add-one, refl, sym, ap, ap₂}
use Rattle.lisa_tree.specs.declared.tokens.Shape.{Shape}
use Rattle.lisa_tree.specs.Descriptions.{DescriptionTree}
use Rattle.step_program.specs.Programs.{Expr, ToTemp, ToCell}
use Rattle.scene_paths.specs.lisa_meaning.Values.{Array, shape_at}
use Rattle.step_pieces.specs.Pieces.{Piece, behind, always}
use Rattle.lowered_values.specs.Operands.{Operand}
use Rattle.lowered_values.specs.Templates.{fitted}
use Rattle.lowered_values.specs.Sources.{bare}
use Rattle.lowered_values.specs.Computed.{Computed}
use Rattle.lowered_values.proofs.Drafting.{behind_assoc}
use Rattle.lowered_resources.specs.Places.{Places, Lasting, Written, Out}
use Rattle.lowered_resources.specs.Reading.{index_width}
use Rattle.lowered_resources.specs.Putting.{Given, assigned, element_put, field_put, move_to, moving, out_put, told}

both_behind : (old now new a b : Piece) → now ≡ behind old a → new ≡ behind now b → new ≡ behind old (behind a b)
both_behind old now new a b h k = k ∙ ap (λ (d : Piece). behind d b) h ∙ behind_assoc old a b

-- a step that tells something by a temp
abbrev pub telling : (guard : Expr) → (temp : ℕ) → Piece
telling guard temp = moving (move_to guard (ToTemp temp) always ∷ [])

pub told_adds : (places : Places) (what : ℕ → Lasting) (guard : Expr) (o : Option ℕ) (s level : ℕ) (old new : Piece) → o ≡ Some s → level ≡ s + 1
    → new ≡ behind old (telling guard (places.temp (what level))) → new ≡ behind old (told places what o guard)
told_adds places what guard o s level old new is at h =
    h ∙ ap (λ (k : ℕ). behind old (telling guard (places.temp (what k)))) (at ∙ add-one s)
    ∙ ap (λ (x : Option ℕ). behind old (told places what x guard)) (sym is)

module _ (guard : Expr) (x : Given) (old now new : Piece) where
  pub element_adds : (r : Option Array) (a : Array) (index : Computed) (i : Operand) → r ≡ Some a → i ≡ index.out → now ≡ behind old index.piece
      → new ≡ behind now (assigned guard (ToCell a.place (fitted (bare i) (index_width a.depth))) a.shape x) → new ≡ behind old (element_put r guard index x)
  element_adds r a index i is out first second =
      let put = λ (j : Operand). assigned guard (ToCell a.place (fitted (bare j) (index_width a.depth))) a.shape x in
      both_behind old now new index.piece (put index.out) first (second ∙ ap (λ (j : Operand). behind now (put j)) out)
      ∙ ap (λ (o : Option Array). behind old (element_put o guard index x)) (sym is)

  pub field_adds : (places : Places) (s f temp : ℕ) (shape : Shape) → temp ≡ places.temp (Out s f) → now ≡ behind old (assigned guard (ToTemp temp) shape x)
      → new ≡ behind now (telling guard (places.temp (Written s f))) → new ≡ behind old (field_put places s f (Some shape) guard x)
  field_adds places s f temp shape at first second =
      both_behind old now new (assigned guard (ToTemp (places.temp (Out s f))) shape x) (telling guard (places.temp (Written s f)))
      (first ∙ ap (λ (t : ℕ). behind old (assigned guard (ToTemp t) shape x)) at) second

module _ (d : DescriptionTree) (places : Places) (guard : Expr) (x : Given) (old new : Piece) where
  pub out_adds : (own field : Option ℕ) (s f : ℕ) (shape : Shape) → own ≡ Some s → field ≡ Some f → shape_at d f ≡ Some shape
      → new ≡ behind old (field_put places s f (Some shape) guard x) → new ≡ behind old (out_put d places own field guard x)
  out_adds own field s f shape of_own of_field of_shape h =
      h ∙ ap (λ (r : Option Shape). behind old (field_put places s f r guard x)) (sym of_shape)
      ∙ ap₂ (λ (a b : Option ℕ). behind old (out_put d places a b guard x)) (sym of_own) (sym of_field)
