-- What tokens spell without places, they spell with places, and what is too wide first has the place of the token that is told.
use Rattle.std.proofs.Common.{◌≡◌, ℕ, zero, suc, ◌+◌, Bool, true, false, List, [], ◌∷◌, ◌++◌, length, Option, Some, None, refl, sym, ap, subst, ◌∙◌, map, arith}
use Rattle.std.specs.Prelude.{flat_map, option_map, nat_lt, if◌then◌else◌, slice_get, slice_index_or}
use Rattle.lisa_engine.specs.declared.parts.Item.{Item}
use Rattle.verilog_text.specs.declared.tokens.VKeyword.TheVariants as words
use Rattle.verilog_text.specs.declared.tokens.VSign.TheVariants as signs
use Rattle.verilog_text.specs.Tokens.{VTok, VToks, Named, Reserved, Plain, Mark}
use Rattle.verilog_text.specs.Trees as plain
use Rattle.verilog_text.specs.Trees.{VTree, VTrees, ActionTrees, SettingTree, MemberTree, ModuleTree}
use Rattle.verilog_text.specs.Values.{Widths, v_width}
use Rattle.verilog_text.specs.Clocked.{widths_of}
use Rattle.verilog_text.specs.Grammar as grammar
use Rattle.verilog_text.specs.Grammar.{vsign_of, vone_sign, IsOptionalWire, setting_tokens, SpellsVExpr, SpellsVParts, SpellsAction, SpellsActions, SpellsRange, SpellsInputs, SpellsMember, SpellsMembers, SpellsModule}
use Rattle.verilog_text.specs.WidePlaces as told
use Rattle.verilog_text.specs.WidePlaces.{where_wide, ◌or_else◌}
use Rattle.verilog_places.specs.Trees as trees
use Rattle.verilog_places.specs.Trees.{place, bare, bare_parts, bare_actions, bare_inputs, bare_member, bare_members, bare_module, moved, joined, PlacedTree, PlacedTrees, PlacedActions, PlacedMemberTree, PlacedModuleTree}
use Rattle.verilog_places.specs.WidePlaces.{wide_at, wide_inside, wide_parts, wide_expr, wide_actions, wide_inputs, wide_member, wide_members, first_wide}
use Rattle.verilog_places.specs.declared.modules.PlacedInput.{PlacedInput}
use Rattle.verilog_places.specs.Spelling as placed
use Rattle.verilog_places.specs.Spelling.{PlacedToks, parts_of, SpellsPlaced, SpellsPlacedParts, SpellsPlacedAction, SpellsPlacedActions, SpellsPlacedRange, SpellsPlacedInputs, SpellsPlacedSettings, SpellsPlacedMember, SpellsPlacedMembers, SpellsPlacedModule}
use Rattle.verilog_places.proofs.PlaceLaws.{moved_bare, moved_place, moved_wide, joined_bare, joined_wide, or_assoc, or_none}

-- ---- tokens from a number on

-- tokens whose places a function tells, from a number on
abbrev pub placed_from : (ℕ → ℕ) → ℕ → VToks → PlacedToks
placed_from f k [] = []
placed_from f k (t ∷ ts) = (f k, t) ∷ placed_from f (suc k) ts

from_at : (f : ℕ → ℕ) (k n : ℕ) (ts : VToks) → k ≡ n → placed_from f k ts ≡ placed_from f n ts
from_at f k n ts e = ap (λ (i : ℕ). placed_from f i ts) e

halves_from : (f : ℕ → ℕ) (k n : ℕ) (xs ys : VToks) → k ≡ n → placed_from f k (xs ++ ys) ≡ placed_from f n xs ++ placed_from f (n + length xs) ys
halves_from f k n xs ys e = from_at f k n (xs ++ ys) e ∙ go n xs
  where
    go : (n : ℕ) (xs : VToks) → placed_from f n (xs ++ ys) ≡ placed_from f n xs ++ placed_from f (n + length xs) ys
    go n [] = from_at f n (n + 0) ys (omega arith)
    go n (x ∷ xs) = ap (λ (r : PlacedToks). (f n, x) ∷ r) (go (suc n) xs ∙ ap (λ (r : PlacedToks). placed_from f (suc n) xs ++ r) (from_at f (suc n + length xs) (n + length (x ∷ xs)) ys (omega arith)))

parts_from : (f : ℕ → ℕ) (k : ℕ) (ts : VToks) → parts_of (placed_from f k ts) ≡ ts
parts_from f k [] = refl
parts_from f k (t ∷ ts) = ap (λ (r : VToks). t ∷ r) (parts_from f (suc k) ts)

-- ---- places through a choice

map_where : (f : ℕ → ℕ) (width k at : ℕ) → f k ≡ at → option_map f (where_wide width k) ≡ where_wide width at
map_where f width k at e = by_test (nat_lt 64 width)
  where
    by_test : (b : Bool) → option_map f (if b then Some k else None) ≡ (if b then Some at else None)
    by_test true = ap (λ (n : ℕ). Some n) e
    by_test false = refl

or_wide : (f : ℕ → ℕ) (a r x y : Option ℕ) → option_map f a ≡ x → option_map f r ≡ y → option_map f (a or_else r) ≡ (x or_else y)
or_wide f None r x y e g = g ∙ ap (λ (u : Option ℕ). u or_else y) e
or_wide f (Some a) r x y e g = ap (λ (u : Option ℕ). u or_else y) e

-- a place, what is inside, and what follows
then_wide : (f : ℕ → ℕ) (a b r x y : Option ℕ) → option_map f (a or_else b) ≡ x → option_map f r ≡ y → option_map f (a or_else (b or_else r)) ≡ (x or_else y)
then_wide f a b r x y e g = ap (option_map f) (sym (or_assoc a b r)) ∙ or_wide f (a or_else b) r x y e g

-- ---- expressions

pub record Lifted (f : ℕ → ℕ) (k level : ℕ) {vs : VToks} {e : VTree} (s : SpellsVExpr level vs e) : Type 0 where
  pub tree : PlacedTree
  pub spells : SpellsPlaced level (placed_from f k vs) tree
  pub same : bare tree ≡ e
  pub begins : f k ≡ place tree
  pub inner : (w : Widths) → option_map f (told.wide_inside w s k) ≡ wide_inside w tree

-- the expression as a whole
whole : (f : ℕ → ℕ) (k : ℕ) (w : Widths) {level : ℕ} {vs : VToks} {e : VTree} (s : SpellsVExpr level vs e) (l : Lifted f k level s)
    → option_map f (where_wide (v_width w e) k or_else told.wide_inside w s k) ≡ wide_expr w l.tree
whole f k w {e = e} s l =
    or_wide f (where_wide (v_width w e) k) (told.wide_inside w s k) (wide_at w l.tree) (wide_inside w l.tree)
    (map_where f (v_width w e) k (place l.tree) l.begins ∙ ap (λ (t : VTree). where_wide (v_width w t) (place l.tree)) (sym l.same)) (l.inner w)

-- and what follows it
whole_then : (f : ℕ → ℕ) (k : ℕ) (w : Widths) {level : ℕ} {vs : VToks} {e : VTree} (s : SpellsVExpr level vs e) (l : Lifted f k level s) (r y : Option ℕ)
    → option_map f r ≡ y → option_map f (where_wide (v_width w e) k or_else (told.wide_inside w s k or_else r)) ≡ (wide_expr w l.tree or_else y)
whole_then f k w {e = e} s l r y g = then_wide f (where_wide (v_width w e) k) (told.wide_inside w s k) r (wide_expr w l.tree) y (whole f k w s l) g

pub record LiftedParts (f : ℕ → ℕ) (k : ℕ) {vs : VToks} {all : VTrees} (s : SpellsVParts vs all) : Type 0 where
  pub trees : PlacedTrees
  pub spells : SpellsPlacedParts (placed_from f k vs) trees
  pub same : bare_parts trees ≡ all
  pub inner : (w : Widths) → option_map f (told.wide_parts w s k) ≡ wide_parts w trees

mutual
  lift : (f : ℕ → ℕ) (k : ℕ) {level : ℕ} {vs : VToks} {e : VTree} (s : SpellsVExpr level vs e) → Lifted f k level s
  lift f k (grammar.number {width = width} {value = value}) = record { tree = trees.Number (f k) width value; spells = placed.number refl; same = refl; begins = refl; inner = λ w. refl }
  lift f k (grammar.named {name = name}) = record { tree = trees.Named (f k) name; spells = placed.named refl; same = refl; begins = refl; inner = λ w. refl }
  lift f k (grammar.bit {name = name} {place = bit} {digits = digits}) =
      record { tree = trees.Bits (f k) name bit bit; spells = placed.bit (f (suc k)) (f (suc (suc k))) (f (suc (suc (suc k)))) {digits = digits} refl; same = refl; begins = refl; inner = λ w. refl }
  lift f k (grammar.part {name = name} {high = high} {low = low} {digits = digits} {more = more}) =
      record {
        tree = trees.Bits (f k) name high low;
        spells = placed.part (f (suc k)) (f (suc (suc k))) (f (suc (suc (suc k)))) (f (suc (suc (suc (suc k))))) (f (suc (suc (suc (suc (suc k)))))) {digits = digits} {more = more} refl;
        same = refl;
        begins = refl;
        inner = λ w. refl;
      }
  lift f k (grammar.cell {name = name} {xs = xs} d is) =
      let l = lift f (k + 2) d in
      record {
        tree = trees.Cell (f k) name l.tree;
        spells = placed.cell (f (suc k)) (f (k + 2 + length xs)) l.spells
            (ap (placed_from f k) is ∙ ap (λ (r : PlacedToks). (f k, Named name) ∷ (f (suc k), Mark signs.OpenSquare) ∷ r) (halves_from f (suc (suc k)) (k + 2) xs (Mark signs.CloseSquare ∷ []) (omega arith)));
        same = ap (plain.Cell name) l.same;
        begins = refl;
        inner = λ w. whole f (k + 2) w d l;
      }
  lift f k (grammar.join {xs = xs} ds is) =
      let l = lift_parts f (k + 1) ds in
      record {
        tree = trees.Join (f k) l.trees;
        spells = placed.join (f (k + 1 + length xs)) l.spells (ap (placed_from f k) is ∙ ap (λ (r : PlacedToks). (f k, Mark signs.OpenBrace) ∷ r) (halves_from f (suc k) (k + 1) xs (Mark signs.CloseBrace ∷ []) (omega arith)));
        same = ap plain.Join l.same;
        begins = refl;
        inner = λ w. l.inner w;
      }
  lift f k (grammar.repeat {times = times} {digits = digits} {xs = xs} some d is) =
      let l = lift f (k + 3) d in
      record {
        tree = trees.Repeat (f k) times l.tree;
        spells = placed.repeat (f (suc k)) (f (suc (suc k))) (f (k + 3 + length xs)) (f (suc (k + 3 + length xs))) {digits = digits} some l.spells
            (ap (placed_from f k) is ∙ ap (λ (r : PlacedToks). (f k, Mark signs.OpenBrace) ∷ (f (suc k), Plain times digits) ∷ (f (suc (suc k)), Mark signs.OpenBrace) ∷ r)
            (halves_from f (suc (suc (suc k))) (k + 3) xs (Mark signs.CloseBrace ∷ Mark signs.CloseBrace ∷ []) (omega arith)));
        same = ap (plain.Repeat times) l.same;
        begins = refl;
        inner = λ w. whole f (k + 3) w d l;
      }
  lift f k (grammar.inside {xs = xs} d is) =
      let l = lift f (k + 1) d in
      record {
        tree = moved (f k) l.tree;
        spells = placed.inside (f (k + 1 + length xs)) l.spells (ap (placed_from f k) is ∙ ap (λ (r : PlacedToks). (f k, Mark signs.OpenRound) ∷ r) (halves_from f (suc k) (k + 1) xs (Mark signs.CloseRound ∷ []) (omega arith)));
        same = moved_bare (f k) l.tree ∙ l.same;
        begins = sym (moved_place (f k) l.tree);
        inner = λ w. l.inner w ∙ sym (moved_wide w (f k) l.tree);
      }
  lift f k (grammar.one o {xs = xs} d) =
      let l = lift f (k + 1) d in
      record {
        tree = trees.One (f k) o l.tree;
        spells = placed.one o l.spells (ap (λ (r : PlacedToks). (f k, Mark (vone_sign o)) ∷ r) (from_at f (suc k) (k + 1) xs (omega arith)));
        same = ap (plain.One o) l.same;
        begins = refl;
        inner = λ w. whole f (k + 1) w d l;
      }
  lift f k (grammar.two o {xs = xs} {ys = ys} {a = a} {b = b} level c d is) =
      let l = lift f k c in
      let m = lift f (k + (length xs + 1)) d in
      record {
        tree = trees.two o l.tree m.tree;
        spells = placed.two o (f (k + length xs)) level l.spells m.spells
            (ap (placed_from f k) is ∙ halves_from f k k xs (Mark (vsign_of o) ∷ ys) refl
            ∙ ap (λ (r : PlacedToks). placed_from f k xs ++ (f (k + length xs), Mark (vsign_of o)) ∷ r) (from_at f (suc (k + length xs)) (k + (length xs + 1)) ys (omega arith)));
        same = ap (λ (t : VTree). plain.Two o t (bare m.tree)) l.same ∙ ap (λ (t : VTree). plain.Two o a t) m.same;
        begins = l.begins;
        inner = λ w.
            whole_then f k w c l (where_wide (v_width w b) (k + (length xs + 1)) or_else told.wide_inside w d (k + (length xs + 1))) (wide_expr w m.tree) (whole f (k + (length xs + 1)) w d m);
      }
  lift f k (grammar.choose {xs = xs} {ys = ys} {zs = zs} {c = c} {a = a} {b = b} x y z is) =
      let l = lift f k x in
      let m = lift f (k + (length xs + 1)) y in
      let n = lift f (k + (length xs + (length ys + 2))) z in
      record {
        tree = trees.choose l.tree m.tree n.tree;
        spells = placed.choose (f (k + length xs)) (f (k + (length xs + 1) + length ys)) l.spells m.spells n.spells
            (ap (placed_from f k) is ∙ halves_from f k k xs (Mark signs.Question ∷ (ys ++ (Mark signs.Colon ∷ zs))) refl
            ∙ ap (λ (r : PlacedToks). placed_from f k xs ++ (f (k + length xs), Mark signs.Question) ∷ r)
            (halves_from f (suc (k + length xs)) (k + (length xs + 1)) ys (Mark signs.Colon ∷ zs) (omega arith)
            ∙ ap (λ (r : PlacedToks). placed_from f (k + (length xs + 1)) ys ++ (f (k + (length xs + 1) + length ys), Mark signs.Colon) ∷ r)
            (from_at f (suc (k + (length xs + 1) + length ys)) (k + (length xs + (length ys + 2))) zs (omega arith))));
        same = ap (λ (t : VTree). plain.Choose t (bare m.tree) (bare n.tree)) l.same ∙ ap (λ (t : VTree). plain.Choose c t (bare n.tree)) m.same ∙ ap (λ (t : VTree). plain.Choose c a t) n.same;
        begins = l.begins;
        inner = λ w.
            whole_then f k w x l
            (where_wide (v_width w a) (k + (length xs + 1)) or_else (told.wide_inside w y (k + (length xs + 1))
            or_else (where_wide (v_width w b) (k + (length xs + (length ys + 2))) or_else told.wide_inside w z (k + (length xs + (length ys + 2))))))
            (wide_expr w m.tree or_else wide_expr w n.tree)
            (whole_then f (k + (length xs + 1)) w y m (where_wide (v_width w b) (k + (length xs + (length ys + 2))) or_else told.wide_inside w z (k + (length xs + (length ys + 2)))) (wide_expr w n.tree)
            (whole f (k + (length xs + (length ys + 2))) w z n));
      }
  lift f k (grammar.tighter d) =
      let l = lift f k d in
      record { tree = l.tree; spells = placed.tighter l.spells; same = l.same; begins = l.begins; inner = λ w. l.inner w }

  lift_parts : (f : ℕ → ℕ) (k : ℕ) {vs : VToks} {all : VTrees} (s : SpellsVParts vs all) → LiftedParts f k s
  lift_parts f k (grammar.last d) =
      let l = lift f k d in
      record { trees = trees.Then l.tree trees.End; spells = placed.last l.spells; same = ap (λ (t : VTree). plain.Then t plain.End) l.same; inner = λ w. whole f k w d l ∙ sym (or_none (wide_expr w l.tree)) }
  lift_parts f k (grammar.more {xs = xs} {ys = ys} {a = a} d ds is) =
      let l = lift f k d in
      let m = lift_parts f (k + (length xs + 1)) ds in
      record {
        trees = trees.Then l.tree m.trees;
        spells = placed.more (f (k + length xs)) l.spells m.spells
            (ap (placed_from f k) is ∙ halves_from f k k xs (Mark signs.Comma ∷ ys) refl
            ∙ ap (λ (r : PlacedToks). placed_from f k xs ++ (f (k + length xs), Mark signs.Comma) ∷ r) (from_at f (suc (k + length xs)) (k + (length xs + 1)) ys (omega arith)));
        same = ap (λ (t : VTree). plain.Then t (bare_parts m.trees)) l.same ∙ ap (λ (t : VTrees). plain.Then a t) m.same;
        inner = λ w. whole_then f k w d l (told.wide_parts w ds (k + (length xs + 1))) (wide_parts w m.trees) (m.inner w);
      }

-- ---- actions

pub record LiftedActions (f : ℕ → ℕ) (k : ℕ) {vs : VToks} {all : ActionTrees} (s : SpellsActions vs all) : Type 0 where
  pub actions : PlacedActions
  pub spells : SpellsPlacedActions (placed_from f k vs) actions
  pub same : bare_actions actions ≡ all
  pub inner : (w : Widths) → option_map f (told.wide_actions w s k) ≡ wide_actions w actions

pub record LiftedAction (f : ℕ → ℕ) (k : ℕ) {closed : Bool} {vs : VToks} {all : ActionTrees} (s : SpellsAction closed vs all) : Type 0 where
  pub actions : PlacedActions
  pub spells : SpellsPlacedAction closed (placed_from f k vs) actions
  pub same : bare_actions actions ≡ all
  pub inner : (w : Widths) → option_map f (told.wide_action w s k) ≡ wide_actions w actions

-- an expression, and actions behind it
expr_then : (f : ℕ → ℕ) (k : ℕ) (w : Widths) {level : ℕ} {vs : VToks} {e : VTree} (s : SpellsVExpr level vs e) (l : Lifted f k level s) (r y : Option ℕ)
    → option_map f r ≡ y → option_map f (told.wide_expr w s k or_else r) ≡ (wide_expr w l.tree or_else y)
expr_then f k w s l r y g = or_wide f (told.wide_expr w s k) r (wide_expr w l.tree) y (whole f k w s l) g

mutual
  lift_action : (f : ℕ → ℕ) (k : ℕ) {closed : Bool} {vs : VToks} {all : ActionTrees} (s : SpellsAction closed vs all) → LiftedAction f k s
  lift_action f k (grammar.block {xs = xs} ds is) =
      let l = lift_actions f (k + 1) ds in
      record {
        actions = l.actions;
        spells = placed.block (f k) (f (k + 1 + length xs)) l.spells (ap (placed_from f k) is ∙ ap (λ (r : PlacedToks). (f k, Reserved words.Begin) ∷ r) (halves_from f (suc k) (k + 1) xs (Reserved words.End ∷ []) (omega arith)));
        same = l.same;
        inner = λ w. l.inner w;
      }
  lift_action f k (grammar.set {name = name} {xs = xs} d is) =
      let l = lift f (k + 2) d in
      record {
        actions = trees.Set name l.tree trees.Done;
        spells = placed.set (f k) (f (suc k)) (f (k + 2 + length xs)) l.spells
            (ap (placed_from f k) is ∙ ap (λ (r : PlacedToks). (f k, Named name) ∷ (f (suc k), Mark signs.LessEqual) ∷ r) (halves_from f (suc (suc k)) (k + 2) xs (Mark signs.Semicolon ∷ []) (omega arith)));
        same = ap (λ (t : VTree). plain.Set name t plain.Done) l.same;
        inner = λ w. whole f (k + 2) w d l ∙ sym (or_none (wide_expr w l.tree));
      }
  lift_action f k (grammar.put {name = name} {xs = xs} {ys = ys} {index = index} d e is) =
      let l = lift f (k + 2) d in
      let m = lift f (k + (length xs + 4)) e in
      record {
        actions = trees.Put name l.tree m.tree trees.Done;
        spells = placed.put (f k) (f (suc k)) (f (k + 2 + length xs)) (f (suc (k + 2 + length xs))) (f (k + (length xs + 4) + length ys)) l.spells m.spells
            (ap (placed_from f k) is ∙ ap (λ (r : PlacedToks). (f k, Named name) ∷ (f (suc k), Mark signs.OpenSquare) ∷ r)
            (halves_from f (suc (suc k)) (k + 2) xs (Mark signs.CloseSquare ∷ Mark signs.LessEqual ∷ (ys ++ Mark signs.Semicolon ∷ [])) (omega arith)
            ∙ ap (λ (r : PlacedToks). placed_from f (k + 2) xs ++ (f (k + 2 + length xs), Mark signs.CloseSquare) ∷ (f (suc (k + 2 + length xs)), Mark signs.LessEqual) ∷ r)
            (halves_from f (suc (suc (k + 2 + length xs))) (k + (length xs + 4)) ys (Mark signs.Semicolon ∷ []) (omega arith))));
        same = ap (λ (t : VTree). plain.Put name t (bare m.tree) plain.Done) l.same ∙ ap (λ (t : VTree). plain.Put name index t plain.Done) m.same;
        inner = λ w. expr_then f (k + 2) w d l (told.wide_expr w e (k + (length xs + 4))) (wide_expr w m.tree or_else None) (whole f (k + (length xs + 4)) w e m ∙ sym (or_none (wide_expr w m.tree)));
      }
  lift_action f k (grammar.when {xs = xs} {ys = ys} {test = test} d x is) =
      let l = lift f (k + 2) d in
      let m = lift_action f (k + (length xs + 3)) x in
      record {
        actions = trees.If l.tree m.actions trees.Done trees.Done;
        spells = placed.when (f k) (f (suc k)) (f (k + 2 + length xs)) l.spells m.spells
            (ap (placed_from f k) is ∙ ap (λ (r : PlacedToks). (f k, Reserved words.If) ∷ (f (suc k), Mark signs.OpenRound) ∷ r)
            (halves_from f (suc (suc k)) (k + 2) xs (Mark signs.CloseRound ∷ ys) (omega arith)
            ∙ ap (λ (r : PlacedToks). placed_from f (k + 2) xs ++ (f (k + 2 + length xs), Mark signs.CloseRound) ∷ r) (from_at f (suc (k + 2 + length xs)) (k + (length xs + 3)) ys (omega arith))));
        same = ap (λ (t : VTree). plain.If t (bare_actions m.actions) plain.Done plain.Done) l.same ∙ ap (λ (t : ActionTrees). plain.If test t plain.Done plain.Done) m.same;
        inner = λ w. expr_then f (k + 2) w d l (told.wide_action w x (k + (length xs + 3))) (wide_actions w m.actions or_else None) (m.inner w ∙ sym (or_none (wide_actions w m.actions)));
      }
  lift_action f k (grammar.choose {xs = xs} {ys = ys} {zs = zs} {test = test} {this = this} d x y is) =
      let l = lift f (k + 2) d in
      let m = lift_action f (k + (length xs + 3)) x in
      let n = lift_action f (k + (length xs + (length ys + 4))) y in
      record {
        actions = trees.If l.tree m.actions n.actions trees.Done;
        spells = placed.choose (f k) (f (suc k)) (f (k + 2 + length xs)) (f (k + (length xs + 3) + length ys)) l.spells m.spells n.spells
            (ap (placed_from f k) is ∙ ap (λ (r : PlacedToks). (f k, Reserved words.If) ∷ (f (suc k), Mark signs.OpenRound) ∷ r)
            (halves_from f (suc (suc k)) (k + 2) xs (Mark signs.CloseRound ∷ (ys ++ (Reserved words.Else ∷ zs))) (omega arith)
            ∙ ap (λ (r : PlacedToks). placed_from f (k + 2) xs ++ (f (k + 2 + length xs), Mark signs.CloseRound) ∷ r)
            (halves_from f (suc (k + 2 + length xs)) (k + (length xs + 3)) ys (Reserved words.Else ∷ zs) (omega arith)
            ∙ ap (λ (r : PlacedToks). placed_from f (k + (length xs + 3)) ys ++ (f (k + (length xs + 3) + length ys), Reserved words.Else) ∷ r)
            (from_at f (suc (k + (length xs + 3) + length ys)) (k + (length xs + (length ys + 4))) zs (omega arith)))));
        same = ap (λ (t : VTree). plain.If t (bare_actions m.actions) (bare_actions n.actions) plain.Done) l.same ∙ ap (λ (t : ActionTrees). plain.If test t (bare_actions n.actions) plain.Done) m.same
            ∙ ap (λ (t : ActionTrees). plain.If test this t plain.Done) n.same;
        inner = λ w.
            expr_then f (k + 2) w d l (told.wide_action w x (k + (length xs + 3)) or_else told.wide_action w y (k + (length xs + (length ys + 4)))) (wide_actions w m.actions or_else (wide_actions w n.actions or_else None))
            (or_wide f (told.wide_action w x (k + (length xs + 3))) (told.wide_action w y (k + (length xs + (length ys + 4)))) (wide_actions w m.actions) (wide_actions w n.actions or_else None) (m.inner w)
            (n.inner w ∙ sym (or_none (wide_actions w n.actions))));
      }

  lift_actions : (f : ℕ → ℕ) (k : ℕ) {vs : VToks} {all : ActionTrees} (s : SpellsActions vs all) → LiftedActions f k s
  lift_actions f k grammar.none = record { actions = trees.Done; spells = placed.none refl; same = refl; inner = λ w. refl }
  lift_actions f k (grammar.some {xs = xs} {ys = ys} {first = first} {rest = rest} d ds is all) =
      let l = lift_action f k d in
      let m = lift_actions f (k + length xs) ds in
      record {
        actions = joined l.actions m.actions;
        spells = placed.some l.spells m.spells (ap (placed_from f k) is ∙ halves_from f k k xs ys refl) refl;
        same = joined_bare l.actions m.actions ∙ ap (λ (t : ActionTrees). plain.joined t (bare_actions m.actions)) l.same ∙ ap (λ (t : ActionTrees). plain.joined first t) m.same ∙ sym all;
        inner = λ w. or_wide f (told.wide_action w d k) (told.wide_actions w ds (k + length xs)) (wide_actions w l.actions) (wide_actions w m.actions) (l.inner w) (m.inner w) ∙ sym (joined_wide w l.actions m.actions);
      }

-- ---- members

pub record LiftedRange (f : ℕ → ℕ) (k : ℕ) (vs : VToks) (width : ℕ) : Type 0 where
  pub range : ℕ
  pub spells : SpellsPlacedRange (placed_from f k vs) range width
  pub inner : option_map f (where_wide width k) ≡ where_wide width range

lift_range : (f : ℕ → ℕ) (k : ℕ) {vs : VToks} {width : ℕ} → SpellsRange vs width → LiftedRange f k vs width
lift_range f k grammar.absent = record { range = 0; spells = placed.absent refl; inner = refl }
lift_range f k (grammar.present {high = high} {digits = digits}) =
    record { range = f k; spells = placed.present (f (suc k)) (f (suc (suc k))) (f (suc (suc (suc k)))) (f (suc (suc (suc (suc k))))) {digits = digits} refl; inner = map_where f (suc high) k (f k) refl }

pub record LiftedInputs (f : ℕ → ℕ) (k : ℕ) {vs : VToks} {all : List Item} (s : SpellsInputs vs all) : Type 0 where
  pub inputs : List PlacedInput
  pub spells : SpellsPlacedInputs (placed_from f k vs) inputs
  pub same : bare_inputs inputs ≡ all
  pub inner : option_map f (told.wide_inputs s k) ≡ wide_inputs inputs

lift_inputs : (f : ℕ → ℕ) (k : ℕ) {vs : VToks} {all : List Item} (s : SpellsInputs vs all) → LiftedInputs f k s
lift_inputs f k grammar.none = record { inputs = []; spells = placed.none refl; same = refl; inner = refl }
lift_inputs f k (grammar.some {wire = wire} {xs = xs} {ys = ys} {item = item} {all = all} optional d ds is) =
    let l = lift_range f (k + (2 + length wire)) d in
    let m = lift_inputs f (k + (3 + (length wire + length xs))) ds in
    let input : PlacedInput = record { range = l.range; item = item } in
    record {
      inputs = input ∷ m.inputs;
      spells = placed.some (f k) (f (suc k)) (f (k + (2 + length wire) + length xs)) (placed_from f (k + 2) wire) (subst IsOptionalWire (sym (parts_from f (k + 2) wire)) optional) l.spells m.spells
          (ap (placed_from f k) is ∙ ap (λ (r : PlacedToks). (f k, Mark signs.Comma) ∷ (f (suc k), Reserved words.Input) ∷ r)
          (halves_from f (suc (suc k)) (k + 2) wire (xs ++ (Named item.name ∷ ys)) (omega arith)
          ∙ ap (λ (r : PlacedToks). placed_from f (k + 2) wire ++ r)
          (halves_from f (k + 2 + length wire) (k + (2 + length wire)) xs (Named item.name ∷ ys) (omega arith)
          ∙ ap (λ (r : PlacedToks). placed_from f (k + (2 + length wire)) xs ++ (f (k + (2 + length wire) + length xs), Named item.name) ∷ r)
          (from_at f (suc (k + (2 + length wire) + length xs)) (k + (3 + (length wire + length xs))) ys (omega arith)))));
      same = ap (λ (r : List Item). item ∷ r) m.same;
      inner = or_wide f (where_wide item.width (k + (2 + length wire))) (told.wide_inputs ds (k + (3 + (length wire + length xs)))) (where_wide item.width l.range) (wide_inputs m.inputs) l.inner m.inner;
    }

pub record LiftedSettings (ts : PlacedToks) (all : List SettingTree) : Type 0 where
  pub spells : SpellsPlacedSettings ts all

lift_settings : (f : ℕ → ℕ) (k : ℕ) (all : List SettingTree) → LiftedSettings (placed_from f k (flat_map setting_tokens all)) all
lift_settings f k [] = record { spells = placed.none refl }
lift_settings f k (s ∷ all) =
    let m = lift_settings f (suc (suc (suc (suc k)))) all in
    record { spells = placed.some (f k) (f (suc k)) (f (suc (suc k))) (f (suc (suc (suc k)))) m.spells refl }

pub record LiftedMember (f : ℕ → ℕ) (k : ℕ) {vs : VToks} {member : MemberTree} (s : SpellsMember vs member) : Type 0 where
  pub tree : PlacedMemberTree
  pub spells : SpellsPlacedMember (placed_from f k vs) tree
  pub same : bare_member tree ≡ member
  pub inner : (w : Widths) → option_map f (told.wide_member w s k) ≡ wide_member w tree

lift_member : (f : ℕ → ℕ) (k : ℕ) {vs : VToks} {member : MemberTree} (s : SpellsMember vs member) → LiftedMember f k s
lift_member f k (grammar.reg {xs = xs} {item = item} d is) =
    let l = lift_range f (k + 1) d in
    record {
      tree = trees.Reg l.range item;
      spells = placed.reg (f k) (f (k + 1 + length xs)) (f (suc (k + 1 + length xs))) l.spells
          (ap (placed_from f k) is ∙ ap (λ (r : PlacedToks). (f k, Reserved words.Reg) ∷ r) (halves_from f (suc k) (k + 1) xs (Named item.name ∷ Mark signs.Semicolon ∷ []) (omega arith)));
      same = refl;
      inner = λ w. l.inner;
    }
lift_member f k (grammar.array {xs = xs} {array = array} last digits d depth is) =
    let l = lift_range f (k + 1) d in
    let n = k + 1 + length xs in
    record {
      tree = trees.Array l.range array;
      spells = placed.array (f k) (f n) (f (suc n)) (f (suc (suc n))) (f (suc (suc (suc n)))) (f (suc (suc (suc (suc n))))) (f (suc (suc (suc (suc (suc n)))))) (f (suc (suc (suc (suc (suc (suc n))))))) last digits l.spells depth
          (ap (placed_from f k) is ∙ ap (λ (r : PlacedToks). (f k, Reserved words.Reg) ∷ r)
          (halves_from f (suc k) (k + 1) xs (Named array.name ∷ Mark signs.OpenSquare ∷ Plain 0 1 ∷ Mark signs.Colon ∷ Plain last digits ∷ Mark signs.CloseSquare ∷ Mark signs.Semicolon ∷ []) (omega arith)));
      same = refl;
      inner = λ w. l.inner;
    }
lift_member f k (grammar.wire {xs = xs} {ys = ys} {item = item} {value = value} d e is) =
    let l = lift_range f (k + 1) d in
    let m = lift f (k + (3 + length xs)) e in
    record {
      tree = trees.Wire l.range item m.tree;
      spells = placed.wire (f k) (f (k + 1 + length xs)) (f (suc (k + 1 + length xs))) (f (k + (3 + length xs) + length ys)) l.spells m.spells
          (ap (placed_from f k) is ∙ ap (λ (r : PlacedToks). (f k, Reserved words.Wire) ∷ r)
          (halves_from f (suc k) (k + 1) xs (Named item.name ∷ Mark signs.Equal ∷ (ys ++ Mark signs.Semicolon ∷ [])) (omega arith)
          ∙ ap (λ (r : PlacedToks). placed_from f (k + 1) xs ++ (f (k + 1 + length xs), Named item.name) ∷ (f (suc (k + 1 + length xs)), Mark signs.Equal) ∷ r)
          (halves_from f (suc (suc (k + 1 + length xs))) (k + (3 + length xs)) ys (Mark signs.Semicolon ∷ []) (omega arith))));
      same = ap (plain.Wire item) m.same;
      inner = λ w. or_wide f (where_wide item.width (k + 1)) (told.wide_expr w e (k + (3 + length xs))) (where_wide item.width l.range) (wide_expr w m.tree) l.inner (whole f (k + (3 + length xs)) w e m);
    }
lift_member f k (grammar.first {setting = setting}) =
    record {
      tree = trees.Initial (setting ∷ []);
      spells = placed.first (f k) (f (suc k)) (f (suc (suc k))) (f (suc (suc (suc k)))) (f (suc (suc (suc (suc k))))) refl;
      same = refl;
      inner = λ w. refl;
    }
lift_member f k (grammar.initial {all = all} is) =
    let l = lift_settings f (k + 2) all in
    record {
      tree = trees.Initial all;
      spells = placed.initial (f k) (f (suc k)) (f (k + 2 + length (flat_map setting_tokens all))) l.spells
          (ap (placed_from f k) is ∙ ap (λ (r : PlacedToks). (f k, Reserved words.Initial) ∷ (f (suc k), Reserved words.Begin) ∷ r)
          (halves_from f (suc (suc k)) (k + 2) (flat_map setting_tokens all) (Reserved words.End ∷ []) (omega arith)));
      same = refl;
      inner = λ w. refl;
    }
lift_member f k (grammar.always {xs = xs} {clock = clock} d is) =
    let l = lift_action f (k + 6) d in
    record {
      tree = trees.Always clock l.actions;
      spells = placed.always (f k) (f (suc k)) (f (suc (suc k))) (f (suc (suc (suc k)))) (f (suc (suc (suc (suc k))))) (f (suc (suc (suc (suc (suc k)))))) l.spells
          (ap (placed_from f k) is
          ∙ ap (λ (r : PlacedToks). (f k, Reserved words.Always) ∷ (f (suc k), Mark signs.At) ∷ (f (suc (suc k)), Mark signs.OpenRound) ∷ (f (suc (suc (suc k))), Reserved words.PosEdge) ∷ (f (suc (suc (suc (suc k)))), Named clock)
          ∷ (f (suc (suc (suc (suc (suc k))))), Mark signs.CloseRound) ∷ r)
          (from_at f (suc (suc (suc (suc (suc (suc k)))))) (k + 6) xs (omega arith)));
      same = ap (plain.Always clock) l.same;
      inner = λ w. l.inner w;
    }

pub record LiftedMembers (f : ℕ → ℕ) (k : ℕ) {vs : VToks} {all : List MemberTree} (s : SpellsMembers vs all) : Type 0 where
  pub members : List PlacedMemberTree
  pub spells : SpellsPlacedMembers (placed_from f k vs) members
  pub same : bare_members members ≡ all
  pub inner : (w : Widths) → option_map f (told.wide_members w s k) ≡ wide_members w members

lift_members : (f : ℕ → ℕ) (k : ℕ) {vs : VToks} {all : List MemberTree} (s : SpellsMembers vs all) → LiftedMembers f k s
lift_members f k grammar.none = record { members = []; spells = placed.none refl; same = refl; inner = λ w. refl }
lift_members f k (grammar.some {xs = xs} {ys = ys} {member = member} d ds is) =
    let l = lift_member f k d in
    let m = lift_members f (k + length xs) ds in
    record {
      members = l.tree ∷ m.members;
      spells = placed.some l.spells m.spells (ap (placed_from f k) is ∙ halves_from f k k xs ys refl);
      same = ap (λ (t : MemberTree). t ∷ bare_members m.members) l.same ∙ ap (λ (r : List MemberTree). member ∷ r) m.same;
      inner = λ w. or_wide f (told.wide_member w d k) (told.wide_members w ds (k + length xs)) (wide_member w l.tree) (wide_members w m.members) (l.inner w) (m.inner w);
    }

pub record LiftedModule (f : ℕ → ℕ) (ts : PlacedToks) {vs : VToks} {m : ModuleTree} (s : SpellsModule vs m) : Type 0 where
  pub tree : PlacedModuleTree
  pub spells : SpellsPlacedModule ts tree
  pub same : bare_module tree ≡ m
  pub wide : option_map f (told.first_wide s) ≡ first_wide tree

same_module : (m : ModuleTree) (inputs : List Item) (members : List MemberTree) → inputs ≡ m.inputs → members ≡ m.members
    → ◌≡◌ {A = ModuleTree} (record { name = m.name; clock = m.clock; inputs = inputs; members = members }) m
same_module m inputs members e f = ap (λ (i : List Item). record { name = m.name; clock = m.clock; inputs = i; members = members }) e ∙ ap (λ (r : List MemberTree). record { name = m.name; clock = m.clock; inputs = m.inputs; members = r }) f

-- the tokens of a module, by its parts
module_from : (f : ℕ → ℕ) (wire inputs members : VToks) (name clock : List ℕ)
    → placed_from f 0 (Reserved words.Module ∷ Named name ∷ Mark signs.OpenRound ∷ Reserved words.Input ∷ (wire ++ (Named clock ∷ (inputs ++ (Mark signs.CloseRound ∷ Mark signs.Semicolon ∷ (members ++ Reserved words.EndModule ∷ []))))))
    ≡ (f 0, Reserved words.Module) ∷ (f 1, Named name) ∷ (f 2, Mark signs.OpenRound) ∷ (f 3, Reserved words.Input) ∷ (placed_from f 4 wire ++ ((f (4 + length wire), Named clock) ∷ (placed_from f (5 + length wire) inputs
    ++ ((f (5 + length wire + length inputs), Mark signs.CloseRound) ∷ (f (suc (5 + length wire + length inputs)), Mark signs.Semicolon) ∷ (placed_from f (7 + (length wire + length inputs)) members
    ++ (f (7 + (length wire + length inputs) + length members), Reserved words.EndModule) ∷ [])))))
module_from f wire inputs members name clock =
    ap (λ (r : PlacedToks). (f 0, Reserved words.Module) ∷ (f 1, Named name) ∷ (f 2, Mark signs.OpenRound) ∷ (f 3, Reserved words.Input) ∷ r)
    (halves_from f 4 4 wire (Named clock ∷ (inputs ++ (Mark signs.CloseRound ∷ Mark signs.Semicolon ∷ (members ++ Reserved words.EndModule ∷ [])))) refl
    ∙ ap (λ (r : PlacedToks). placed_from f 4 wire ++ ((f (4 + length wire), Named clock) ∷ r))
    (halves_from f (suc (4 + length wire)) (5 + length wire) inputs (Mark signs.CloseRound ∷ Mark signs.Semicolon ∷ (members ++ Reserved words.EndModule ∷ [])) (omega arith)
    ∙ ap (λ (r : PlacedToks). placed_from f (5 + length wire) inputs ++ ((f (5 + length wire + length inputs), Mark signs.CloseRound) ∷ (f (suc (5 + length wire + length inputs)), Mark signs.Semicolon) ∷ r))
    (halves_from f (suc (suc (5 + length wire + length inputs))) (7 + (length wire + length inputs)) members (Reserved words.EndModule ∷ []) (omega arith))))

lift_module : (f : ℕ → ℕ) {vs : VToks} {m : ModuleTree} (s : SpellsModule vs m) → LiftedModule f (placed_from f 0 vs) s
lift_module f {m = m} s =
    let l = lift_inputs f (5 + length s.wire) s.spells_inputs in
    let n = lift_members f (7 + (length s.wire + length s.input_part)) s.spells_members in
    let tree : PlacedModuleTree = record { name = m.name; clock = m.clock; inputs = l.inputs; members = n.members } in
    let same : bare_module tree ≡ m = same_module m (bare_inputs l.inputs) (bare_members n.members) l.same n.same in
    record {
      tree = tree;
      spells = record {
        wire = placed_from f 4 s.wire;
        is_wire = subst IsOptionalWire (sym (parts_from f 4 s.wire)) s.is_wire;
        input_part = placed_from f (5 + length s.wire) s.input_part;
        spells_inputs = l.spells;
        member_part = placed_from f (7 + (length s.wire + length s.input_part)) s.member_part;
        spells_members = n.spells;
        whole = (
          f 0,
          f 1,
          f 2,
          f 3,
          f (4 + length s.wire),
          f (5 + length s.wire + length s.input_part),
          f (suc (5 + length s.wire + length s.input_part)),
          f (7 + (length s.wire + length s.input_part) + length s.member_part),
          ap (placed_from f 0) s.whole ∙ module_from f s.wire s.input_part s.member_part m.name m.clock,
        );
      };
      same = same;
      wide = or_wide f (told.wide_inputs s.spells_inputs (5 + length s.wire)) (told.wide_members (widths_of m) s.spells_members (7 + (length s.wire + length s.input_part)))
          (wide_inputs l.inputs) (wide_members (widths_of (bare_module tree)) n.members) l.inner
          (n.inner (widths_of m) ∙ ap (λ (t : ModuleTree). wide_members (widths_of t) n.members) (sym same));
    }

-- ---- the places of all tokens

-- the place of a token by its number, and this one where there is none
abbrev pub place_or : ℕ → PlacedToks → ℕ → ℕ
place_or other ts k = slice_index_or (map (λ (t : ℕ × VTok). t.0) ts) k other

all_from : (f : ℕ → ℕ) (k : ℕ) (ts : PlacedToks) → ((i : ℕ) (t : ℕ × VTok) → slice_get ts i ≡ Some t → f (k + i) ≡ t.0) → placed_from f k (parts_of ts) ≡ ts
all_from f k [] h = refl
all_from f k (t ∷ ts) h =
    ap (λ (at : ℕ). (at, t.1) ∷ placed_from f (suc k) (parts_of ts)) (ap f (omega arith) ∙ h 0 t refl)
    ∙ ap (λ (r : PlacedToks). t ∷ r) (all_from f (suc k) ts (λ i u e. ap f (omega arith) ∙ h (suc i) u e))

place_there : (other : ℕ) (ts : PlacedToks) (i : ℕ) (t : ℕ × VTok) → slice_get ts i ≡ Some t → place_or other ts i ≡ t.0
place_there other [] i t e = absurd cc
place_there other (u ∷ ts) zero t e = cc
place_there other (u ∷ ts) (suc i) t e = place_there other ts i t e

-- what tokens spell, they spell with their places
pub placed_module : (other : ℕ) (ts : PlacedToks) {m : ModuleTree} (s : SpellsModule (parts_of ts) m) → LiftedModule (place_or other ts) ts s
placed_module other ts s = subst (λ (us : PlacedToks). LiftedModule (place_or other ts) us s) (all_from (place_or other ts) 0 ts (λ i t e. ap (place_or other ts) (omega arith) ∙ place_there other ts i t e)) (lift_module (place_or other ts) s)
