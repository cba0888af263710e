-- What a search keeps.
use Rattle.std.specs.Prelude.{ℕ, ◌≡◌, List, Bool, true, false, length}
use Rattle.std.specs.Global.{Vec}
use Rattle.graph_paths.specs.Paths.{is_in, Leads, Reaches, saw}

pub record Going (next : List (Vec ℕ)) (start : ℕ) (seen : List Bool) (work : List ℕ) : Type 0 where
  pub len : length seen ≡ length next
  pub sound : (b : ℕ) → saw seen b ≡ true → Reaches next start b
  pub works : (b : ℕ) → is_in b work ≡ true → saw seen b ≡ true
  pub starts : (c : ℕ) → Leads next start c → saw seen c ≡ true
  pub closed : (b c : ℕ) → saw seen b ≡ true → is_in b work ≡ false → Leads next b c → saw seen c ≡ true
