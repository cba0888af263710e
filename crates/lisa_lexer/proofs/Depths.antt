-- One token more.
use Rattle.std.proofs.Common.{◌≡◌, ℕ, ◌<◌, List, length, get_or, take, fold, sym, ap, ◌∙◌}
use Rattle.std.proofs.lemmas.List.{get_or-map, length-map}
use Rattle.std.proofs.lemmas.List.Sums.{fold_more}
use Rattle.lisa_tree.specs.declared.tokens.Token.{Token}
use Rattle.lisa_tree.specs.Tokens.{toks}
use Rattle.lisa_tree.specs.Brackets.{open_after, open_at}

pub open_step : (ts : List Token) (i : ℕ) (t : Token) → i < length ts → t ≡ get_or ts i t → open_at (toks ts) i ≡ open_after (fold open_after 0 (take i (toks ts))) t.part
open_step ts i t lt is =
    let long : i < length (toks ts) = rw length-map lt in
    let there : get_or (toks ts) i t.part ≡ t.part = get_or-map (λ (t : Token). t.part) ts i t t.part lt ∙ ap (λ (t : Token). t.part) (sym is) in
    fold_more open_after 0 (toks ts) i t.part long ∙ ap (open_after (fold open_after 0 (take i (toks ts)))) there
