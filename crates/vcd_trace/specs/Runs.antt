-- Runs whose dumps are read again.
use Rattle.std.specs.Prelude.{ℕ, ◌<◌, ◌≤◌, ◌≡◌, List, length, true, All}
use Rattle.std.specs.List.{list_all}
use Rattle.lisa_engine.specs.Shape.{IsFitting, IsWidth}
use Rattle.lisa_engine.specs.declared.parts.Item.{Item}
use Rattle.vcd_trace.specs.VcdWords.{is_solid}

-- a name that is one word: it has a byte or more, and none of them is blank
pub record IsWordName (name : List ℕ) : Type 0 where
  pub some : 0 < length name
  pub solid : list_all is_solid name ≡ true

-- few items with widths of words and names that are words, few edges, and values that fit, where `values k` are those after k edges
pub record IsDumpable (items : List Item) (values : ℕ → List ℕ) (n : ℕ) : Type 0 where
  pub few : length items ≤ 8192
  pub short : n ≤ 10000
  pub widths : All (λ item. IsWidth item.width) items
  pub names : All (λ item. IsWordName item.name) items
  pub fitting : (k : ℕ) → k ≤ n → IsFitting items (values k)
