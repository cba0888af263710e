-- The field at a place.
use Rattle.std.proofs.Common.{◌≡◌, ◌<◌, ◌≤◌, ◌+◌, ℕ, zero, suc, List, [], ◌∷◌, length, get_or, refl, sym, ap, ◌∙◌, arith}
use Rattle.instruction_forms.specs.declared.form.Field.{Field}
use Rattle.instruction_texts.specs.Symbols.{Kind, Shown, shown_at}
use Rattle.form_texts.specs.Written.{numbered_fields}

pub shown_some : (kind : Kind) (a k : ℕ) (fields : List Field) (f : Field) → k < length fields → f ≡ get_or fields k f → shown_at kind k (numbered_fields a fields) ≡ Shown kind f.width (a + k) ∷ []
shown_some kind a k [] f h e = absurd (omega arith)
shown_some kind a zero (g ∷ fields) f h e =
    let none : a ≡ a + 0 = omega arith in
    ap (λ (x : Field). Shown kind x.width a ∷ []) (sym e) ∙ ap (λ (n : ℕ). Shown kind f.width n ∷ []) none
shown_some kind a (suc k) (g ∷ fields) f h e =
    let next : suc a + k ≡ a + suc k = omega arith in
    shown_some kind (suc a) k fields f (omega arith) e ∙ ap (λ (n : ℕ). Shown kind f.width n ∷ []) next

pub shown_none : (kind : Kind) (a k : ℕ) (fields : List Field) → length fields ≤ k → shown_at kind k (numbered_fields a fields) ≡ []
shown_none kind a k [] h = refl
shown_none kind a zero (g ∷ fields) h = absurd (omega arith)
shown_none kind a (suc k) (g ∷ fields) h = shown_none kind (suc a) k fields (omega arith)
