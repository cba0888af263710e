-- Items one behind the other, with blanks between them.
use Rattle.std.specs.Prelude.{ℕ, zero, suc, List, [], ◌∷◌, length, Option, Some, None, Result, Ok}
use Rattle.asm_source.specs.declared.flaw.Flaw.{Flaw}
use Rattle.asm_source.specs.Bytes.{skip_blanks}
use Rattle.asm_source.specs.Sums.{◌>>=◌, Reading}

-- what reads one item at the front of a text, where one stands there
abbrev pub Item : Type 0 → Type 0
Item A = List ℕ → Result (Option (A × List ℕ)) Flaw

abbrev pub on_item : {A : Type 0} → (List ℕ → Reading (List A)) → List ℕ → Option (A × List ℕ) → Reading (List A)
on_item more text None = Ok ([], text)
on_item more text (Some x) = more x.1 >>= λ all. Ok (x.0 ∷ all.0, all.1)

-- at most so many items, and the text behind them
unfoldable pub items : {A : Type 0} → Item A → ℕ → List ℕ → Reading (List A)
items item zero text = Ok ([], text)
items item (suc n) text = item (skip_blanks text) >>= on_item (items item n) (skip_blanks text)

-- all items at the front of a text, of which it has at most as many as bytes, and the text behind them
abbrev pub all_items : {A : Type 0} → Item A → List ℕ → Reading (List A)
all_items item text = items item (length text) text
