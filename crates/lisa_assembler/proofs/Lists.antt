-- One element more.
use Rattle.std.proofs.Common.{◌≡◌, ◌<◌, ◌+◌, ℕ, suc, List, ◌∷◌, length, get_or, drop, drop-cons, ap, sym, ◌∙◌, add-one}
use Rattle.asm_source.specs.declared.parts.SourceLine.{SourceLine}

pub one : {T : Type 0} (all : List T) (i : ℕ) (d : T) → i < length all → d ≡ get_or all i d → drop i all ≡ d ∷ drop (i + 1) all
one {T = T} all i d h e =
    drop-cons all i d h
    ∙ ap (λ (s : T). s ∷ drop (suc i) all) (sym e)
    ∙ ap (λ (m : ℕ). d ∷ drop m all) (sym (add-one i))

pub one_line : (all : List SourceLine) (i : ℕ) (d : SourceLine) → i < length all → d ≡ get_or all i d → drop i all ≡ d ∷ drop (i + 1) all
one_line all i d h e = one all i d h e
