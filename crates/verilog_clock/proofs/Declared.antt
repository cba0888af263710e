-- All names of a module, declared one after another.
use Rattle.std.proofs.Common.{◌≡◌, ◌≢◌, ℕ, zero, suc, ◌<◌, ◌≤◌, List, [], ◌∷◌, ◌++◌, length, map, refl, sym, ap, ◌∙◌, arith, append_assoc}
use Rattle.std.specs.Prelude.{AllPairs, All, slice_index}
use Rattle.std.proofs.lemmas.List.{get_or-map, length-map, map-append}
use Rattle.std.proofs.lemmas.List.Sums.{fold-append}
use Rattle.name_tables.specs.Keys.{insert_all, insert_key}
use Rattle.lisa_engine.specs.declared.parts.Item.{Item}
use Rattle.lisa_engine.specs.declared.parts.ArrayItem.{ArrayItem}
use Rattle.verilog_text.specs.Clocked.{Net}
use Rattle.verilog_clock.specs.declared.names.Names.{Names}
use Rattle.verilog_clock.specs.Names.{Declares}
use Rattle.verilog_clock.proofs.Places.{insert_all_new}

any_item : Item
any_item = record { name = []; width = 0 }

any_array : ArrayItem
any_array = record { name = []; width = 0; depth = 0 }

distinct_by : {X : Type 0} (f : X → List ℕ) (e : X) (xs : List X) → AllPairs (λ (a b : X). f a ≢ f b) xs → AllPairs (λ (a b : List ℕ). a ≢ b) (map f xs)
distinct_by f e xs distinct i j d less within same =
    let in_j : j < length xs = omega (arith, length-map xs f) in
    let in_i : i < length xs = omega arith in
    distinct i j e less in_j (sym (get_or-map f xs i e d in_i) ∙ same ∙ get_or-map f xs j e d in_j)

pub narrow_at : {X : Type 0} (f : X → ℕ) (xs : List X) → All (λ x. f x ≤ 64) xs → (place : ℕ) → slice_index (map f xs) place ≤ 64
narrow_at f [] all place = omega arith
narrow_at f (x ∷ xs) all zero = all 0 x (omega arith)
narrow_at f (x ∷ xs) all (suc place) = narrow_at f xs (λ k d within. all (suc k) d (omega arith)) place

map_twice : {X Y Z : Type 0} (f : Y → Z) (g : X → Y) (xs : List X) → map f (map g xs) ≡ map (λ x. f (g x)) xs
map_twice f g [] = refl
map_twice f g (x ∷ xs) = ap (λ ys. f (g x) ∷ ys) (map_twice f g xs)

in_three : {Z : Type 0} (f : Item → Z) (a b : List Item) (c : List Net) → map f (a ++ (b ++ map (λ (net : Net). net.item) c)) ≡ map f a ++ (map f b ++ map (λ (net : Net). f net.item) c)
in_three f a b c =
    map-append f a (b ++ map (λ (net : Net). net.item) c)
    ∙ ap (λ zs. map f a ++ zs) (map-append f b (map (λ (net : Net). net.item) c) ∙ ap (λ zs. map f b ++ zs) (map_twice f (λ (net : Net). net.item) c))

module _ (a b : List Item) (c : List Net) (w0 w1 w2 w3 : Names) (none : w0.set.keys.items ≡ []) (empty : w0.widths.items ≡ [])
    (first : Declares w0 w1 (map (λ (item : Item). item.name) a) (map (λ (item : Item). item.width) a))
    (second : Declares w1 w2 (map (λ (item : Item). item.name) b) (map (λ (item : Item). item.width) b))
    (third : Declares w2 w3 (map (λ (net : Net). net.item.name) c) (map (λ (net : Net). net.item.width) c)) where
  pub words_keys : AllPairs (λ (x y : Item). x.name ≢ y.name) (a ++ (b ++ map (λ (net : Net). net.item) c))
      → w3.set.keys.items ≡ map (λ (item : Item). item.name) (a ++ (b ++ map (λ (net : Net). net.item) c))
  words_keys distinct =
      let xs = map (λ (item : Item). item.name) a in
      let ys = map (λ (item : Item). item.name) b in
      let zs = map (λ (net : Net). net.item.name) c in
      let go = insert_all in
      let all : List (List ℕ) = map (λ (item : Item). item.name) (a ++ (b ++ map (λ (net : Net). net.item) c)) in
      third.keys ∙ ap (λ (ks : List (List ℕ)). go ks zs) (second.keys ∙ ap (λ (ks : List (List ℕ)). go ks ys) (first.keys ∙ ap (λ (ks : List (List ℕ)). go ks xs) none))
      ∙ ap (λ (ks : List (List ℕ)). go ks zs) (sym (fold-append insert_key [] xs ys))
      ∙ sym (fold-append insert_key [] (xs ++ ys) zs)
      ∙ ap (go []) (append_assoc xs ys zs ∙ sym (in_three (λ (item : Item). item.name) a b c))
      ∙ insert_all_new [] all (distinct_by (λ (item : Item). item.name) any_item (a ++ (b ++ map (λ (net : Net). net.item) c)) distinct)

  pub words_widths : w3.widths.items ≡ map (λ (item : Item). item.width) (a ++ (b ++ map (λ (net : Net). net.item) c))
  words_widths =
      let xs = map (λ (item : Item). item.width) a in
      let ys = map (λ (item : Item). item.width) b in
      let zs = map (λ (net : Net). net.item.width) c in
      third.wide ∙ ap (λ (ks : List ℕ). ks ++ zs) (second.wide ∙ ap (λ (ks : List ℕ). ks ++ ys) (first.wide ∙ ap (λ (ks : List ℕ). ks ++ xs) empty))
      ∙ append_assoc xs ys zs ∙ sym (in_three (λ (item : Item). item.width) a b c)

pub memory_keys : (all : List ArrayItem) (w0 w1 : Names) → w0.set.keys.items ≡ [] → Declares w0 w1 (map (λ (array : ArrayItem). array.name) all) (map (λ (array : ArrayItem). array.width) all)
    → AllPairs (λ (x y : ArrayItem). x.name ≢ y.name) all → w1.set.keys.items ≡ map (λ (array : ArrayItem). array.name) all
memory_keys all w0 w1 none declares distinct =
    declares.keys ∙ ap (λ (ks : List (List ℕ)). insert_all ks (map (λ (array : ArrayItem). array.name) all)) none
    ∙ insert_all_new [] _ (distinct_by (λ (array : ArrayItem). array.name) any_array all distinct)
