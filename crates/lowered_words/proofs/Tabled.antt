-- Ways in a table are found by their last steps.
use Rattle.std.proofs.Common.{◌≡◌, ◌<◌, ◌≤◌, ◌+◌, ◌++◌, ◌&&◌, ◌||◌, ℕ, zero, suc, Bool, true, false, not, List, [], ◌∷◌, Option, None, Some, cond, drop, fold, length, get_or, nat_eq, nat_lt, refl, sym, ap, ap₂, ◌∙◌, subst, arith}
use Rattle.std.specs.Prelude.{option_map, position, slice_get}
use Rattle.std.specs.Borrow.{Bor}
use Rattle.std.specs.Option.{option_and_then}
use Rattle.std.specs.List.{list_any, position_or_len}
use Rattle.std.proofs.lemmas.Bool.{both_ways, eq-eqb, eqb-true}
use Rattle.std.proofs.lemmas.List.{length-append}
use Rattle.std.proofs.lemmas.List.Quantifiers.{position-Some}
use Rattle.std.proofs.lemmas.Option.{same_Some, slice_get_within, slice_get-get_or, slice_get_read}
use Rattle.lisa_tree.specs.Descriptions.{DescriptionTree}
use Rattle.scene_paths.proofs.lisa_machine_proofs.Entries.{Split, in_first, in_second, split}
use Rattle.instruction_forms.specs.declared.form.Form.{Form}
use Rattle.instruction_forms.specs.declared.form.Form.TheViews.{out-Form}
use Rattle.instruction_forms.specs.Trees.{FormTree, FormTrees, form_tree}
use Rattle.instruction_forms.specs.Described.{instruction_form}
use Rattle.scene_paths.proofs.form_patterns_proofs.Views.{trees, tree_is, next_tree}
use Rattle.scene_paths.specs.lisa_forms.Choosing.{child_at, operation_of}
use Rattle.scene_paths.proofs.Parted.{child_is}
use Rattle.lowered_words.specs.declared.links.Link.{Link}
use Rattle.lowered_words.specs.declared.links.Link.TheVariants as links
use Rattle.lowered_words.specs.Ways.{Way, Child, same_way, of_operation, child_of, part_by, ways_from, ways_among, with_way}
use Rattle.lowered_words.specs.Links.{same_link, with_link}
use Rattle.lowered_words.specs.Tables.{IsLink, whole, child, IsTable, IsPartBy, AreParts, Holds, Enters}
use Rattle.lowered_words.proofs.Reaching.{same_itself, same_is, position_more}

-- ---- elements of two lists that pass two tests alike

module _ {X Y : Type 0} (p : X → Bool) (q : Y → Bool) where
  abbrev Alike : List X → List Y → Type 0
  Alike xs ys = (k : ℕ) (x : X) (y : Y) → slice_get xs k ≡ Some x → slice_get ys k ≡ Some y → p x ≡ q y

  any_alike : (xs : List X) (ys : List Y) → length xs ≡ length ys → Alike xs ys → list_any p xs ≡ list_any q ys
  any_alike [] [] l same = refl
  any_alike [] (y ∷ ys) l same = absurd (cc l)
  any_alike (x ∷ xs) [] l same = absurd (cc l)
  any_alike (x ∷ xs) (y ∷ ys) l same = ap₂ (λ (b c : Bool). b || c) (same 0 x y refl refl) (any_alike xs ys (omega (arith, l)) (λ k. same (suc k)))

  place_alike : (xs : List X) (ys : List Y) → length xs ≡ length ys → Alike xs ys → position_or_len p xs ≡ position_or_len q ys
  place_alike [] [] l same = refl
  place_alike [] (y ∷ ys) l same = absurd (cc l)
  place_alike (x ∷ xs) [] l same = absurd (cc l)
  place_alike (x ∷ xs) (y ∷ ys) l same = ap₂ (λ (b : Bool) (k : ℕ). cond (not b) (1 + k) 0) (same 0 x y refl refl) (place_alike xs ys (omega (arith, l)) (λ k. same (suc k)))

  position_alike : (xs : List X) (ys : List Y) → length xs ≡ length ys → Alike xs ys → position p xs ≡ position q ys
  position_alike xs ys l same = ap₂ (λ (k many : ℕ). cond (nat_lt k many) (Some k) None) (place_alike xs ys l same) l

-- what is found is found in a longer list
module _ {X : Type 0} (p : X → Bool) where
  pub position_kept : (xs ys : List X) (k : ℕ) → position p xs ≡ Some k → position p (xs ++ ys) ≡ Some k
  position_kept [] ys k e = absurd (cc e)
  position_kept (x ∷ xs) ys k e = position_more p x (xs ++ ys) ∙ by (p x) (position p xs) refl (position_kept xs ys) (sym (position_more p x xs) ∙ e)
    where
      by : (b : Bool) (o : Option ℕ) → position p xs ≡ o → ((j : ℕ) → position p xs ≡ Some j → position p (xs ++ ys) ≡ Some j)
          → cond b (Some 0) (option_map suc o) ≡ Some k → cond b (Some 0) (option_map suc (position p (xs ++ ys))) ≡ Some k
      by true o is rest h = h
      by false None is rest h = absurd (cc h)
      by false (Some j) is rest h = ap (λ (o : Option ℕ). option_map suc o) (rest j is) ∙ h

-- the only one of a list
only_one : {X : Type 0} (x : X) (k : ℕ) (y : X) → slice_get (x ∷ []) k ≡ Some y → x ≡ y
only_one x zero y e = same_Some x y e
only_one x (suc k) y e = absurd (cc e)

-- one more of two lists that are as long
module _ {X Y : Type 0} (P : X → Y → Type 0) where
  pub one_on : (xs : List X) (ys : List Y) (x : X) (y : Y) → length ys ≡ length xs
      → ((k : ℕ) (v : X) (u : Y) → slice_get xs k ≡ Some v → slice_get ys k ≡ Some u → P v u) → P x y
      → (k : ℕ) (v : X) (u : Y) → slice_get (xs ++ x ∷ []) k ≡ Some v → slice_get (ys ++ y ∷ []) k ≡ Some u → P v u
  one_on xs ys x y l each new k v u a b = by (split xs (x ∷ []) k v a) (split ys (y ∷ []) k u b)
    where
      by : Split xs (x ∷ []) k v → Split ys (y ∷ []) k u → P v u
      by (in_first e) (in_first h) = each k v u e h
      by (in_first e) (in_second j n h) = absurd (let w = slice_get_within xs k v e in omega (arith, l, n, w))
      by (in_second j n e) (in_first h) = absurd (let w = slice_get_within ys k u h in omega (arith, l, n, w))
      by (in_second j n e) (in_second i m h) = subst (λ (z : X). P z u) (only_one x j v e) (subst (λ (z : Y). P x z) (only_one y i u h) new)

-- ---- last steps

kept_link : (ways more : List Way) (w : Way) (l : Link) → IsLink ways w l → IsLink (ways ++ more) w l
kept_link ways more _ _ (whole o) = whole o
kept_link ways more _ _ (child v i o p e) = child v i o p (position_kept (same_way v) ways more p e)

module _ (ways : List Way) where
  pub at_place : (w : Way) (p : ℕ) → position (same_way w) ways ≡ Some p → slice_get ways p ≡ Some w
  at_place w p e =
      let s = position-Some (same_way w) ways p w e in
      slice_get-get_or ways p w s.0 ∙ ap (λ (v : Way). Some v) (sym (same_is w (get_or ways p w) s.1))

  one_place : (v w : Way) (p : ℕ) → position (same_way v) ways ≡ Some p → position (same_way w) ways ≡ Some p → v ≡ w
  one_place v w p e h = same_Some v w (sym (at_place v p e) ∙ at_place w p h)

  above_alike : (v u : Way) (p q : ℕ) → position (same_way v) ways ≡ Some p → position (same_way u) ways ≡ Some q → nat_eq p q ≡ same_way v u
  above_alike v u p q e h = by (same_way v u) refl (nat_eq p q) refl
    where
      by : (b : Bool) → same_way v u ≡ b → (c : Bool) → nat_eq p q ≡ c → c ≡ b
      by true is c same = sym same ∙ eq-eqb p q (same_Some p q (sym e ∙ ap (λ (x : Way). position (same_way x) ways) (same_is v u is) ∙ h))
      by false is true same =
          let one : v ≡ u = one_place v u p e (h ∙ ap (λ (n : ℕ). Some n) (sym (eqb-true p q same))) in
          absurd (both_ways (same_way v u) is (subst (λ (x : Way). same_way v x ≡ true) one (same_itself v)))
      by false is false same = refl

  alike : (w v : Way) (l m : Link) → IsLink ways w l → IsLink ways v m → same_link l m ≡ same_way w v
  alike _ _ _ _ (whole o) (whole p) = refl
  alike _ _ _ _ (whole o) (child u j q n h) = refl
  alike _ _ _ _ (child v i o p e) (whole q) = refl
  alike _ _ _ _ (child v i o p e) (child u j q n h) = ap (λ (b : Bool). b && (nat_eq i j && nat_eq o q)) (above_alike v u p n e h)

  module _ (all : List Link) (table : IsTable ways all) (w : Way) (l : Link) (is : IsLink ways w l) where
    alike_all : (k : ℕ) (m : Link) (v : Way) → slice_get all k ≡ Some m → slice_get ways k ≡ Some v → same_link l m ≡ same_way w v
    alike_all k m v own at = alike w v l m is (table.each k v m at own)

    -- a way is found by its last step
    pub place_is : position (same_link l) all ≡ position (same_way w) ways
    place_is = position_alike (same_link l) (same_way w) all ways table.count alike_all

    any_is : list_any (same_link l) all ≡ list_any (same_way w) ways
    any_is = any_alike (same_link l) (same_way w) all ways table.count alike_all

-- ---- one way more

as_long : {X Y : Type 0} (xs : List X) (ys : List Y) (x : X) (y : Y) → length ys ≡ length xs → length (ys ++ y ∷ []) ≡ length (xs ++ x ∷ [])
as_long xs ys x y l = let a = length-append xs (x ∷ []) in let b = length-append ys (y ∷ []) in omega (arith, l, a, b)

table_more : (ways : List Way) (all : List Link) (w : Way) (l : Link) → IsTable ways all → IsLink ways w l → IsTable (ways ++ w ∷ []) (all ++ l ∷ [])
table_more ways all w l table is = record {
  count = as_long ways all w l table.count;
  each = one_on (λ (v : Way) (m : Link). IsLink (ways ++ w ∷ []) v m) ways all w l table.count (λ k v m at own. kept_link ways (w ∷ []) v m (table.each k v m at own)) (kept_link ways (w ∷ []) w l is);
}

module _ (d : DescriptionTree) where
  parts_more : (ways : List Way) (parts : List (Bor Form)) (w : Way) (x : Bor Form) → AreParts d ways parts → IsPartBy d w (form_tree x.now) → AreParts d (ways ++ w ∷ []) (parts ++ x ∷ [])
  parts_more ways parts w x are part = record {
    count = as_long ways parts w x are.count;
    each = one_on (λ (v : Way) (y : Bor Form). IsPartBy d v (form_tree y.now)) ways parts w x are.count are.each part;
  }

  module _ (ways : List Way) (all : List Link) (parts : List (Bor Form)) (w : Way) (l : Link) (x : Bor Form) (enters : Enters d ways w l (form_tree x.now) all parts) where
    entered_by : (b : Bool) → Holds d (cond b ways (ways ++ w ∷ [])) (cond b all (all ++ l ∷ [])) (cond b parts (parts ++ x ∷ []))
    entered_by true = enters.held
    entered_by false = record { table = table_more ways all w l enters.held.table enters.link; kept = parts_more ways parts w x enters.held.kept enters.part }

    link_by : (b : Bool) → IsLink (cond b ways (ways ++ w ∷ [])) w l
    link_by true = enters.link
    link_by false = kept_link ways (w ∷ []) w l enters.link

    pub entered : (all' : List Link) (parts' : List (Bor Form)) → all' ≡ with_link all l → parts' ≡ cond (list_any (same_link l) all) parts (parts ++ x ∷ []) → Holds d (with_way ways w) all' parts'
    entered all' parts' is_all is_parts =
        let same : list_any (same_way w) ways ≡ list_any (same_link l) all = sym (any_is ways all enters.held.table w l enters.link) in
        let held : Holds d (with_way ways w) (with_link all l) (cond (list_any (same_link l) all) parts (parts ++ x ∷ [])) =
        subst (λ (b : Bool). Holds d (with_way ways w) (cond b all (all ++ l ∷ [])) (cond b parts (parts ++ x ∷ []))) same (entered_by (list_any (same_way w) ways)) in
        subst (λ (ls : List Link). Holds d (with_way ways w) ls parts') (sym is_all)
        (subst (λ (ps : List (Bor Form)). Holds d (with_way ways w) (with_link all l) ps) (sym is_parts) held)

    pub entered_at : (all' : List Link) (parts' : List (Bor Form)) (p : ℕ) → Holds d (with_way ways w) all' parts' → position (same_link l) all' ≡ Some p → position (same_way w) (with_way ways w) ≡ Some p
    entered_at all' parts' p held at = sym (place_is (with_way ways w) all' held.table w l (link_by (list_any (same_way w) ways))) ∙ at

-- ---- many ways more

pub fold_append : {X Y : Type 0} (f : X → Y → X) (a : X) (xs ys : List Y) → fold f a (xs ++ ys) ≡ fold f (fold f a xs) ys
fold_append f a [] ys = refl
fold_append f a (x ∷ xs) ys = fold_append f (f a x) xs ys

with_kept : (w v : Way) (ways : List Way) (p : ℕ) → position (same_way w) ways ≡ Some p → position (same_way w) (with_way ways v) ≡ Some p
with_kept w v ways p e = by (list_any (same_way v) ways)
  where
    by : (b : Bool) → position (same_way w) (cond b ways (ways ++ v ∷ [])) ≡ Some p
    by true = e
    by false = position_kept (same_way w) ways (v ∷ []) p e

fold_kept : (w : Way) (more ways : List Way) (p : ℕ) → position (same_way w) ways ≡ Some p → position (same_way w) (fold with_way ways more) ≡ Some p
fold_kept w [] ways p e = e
fold_kept w (v ∷ more) ways p e = fold_kept w more (with_way ways v) p (with_kept w v ways p e)

-- ---- the parts of a part

drop_past : {X : Type 0} (xs : List X) (i : ℕ) → length xs ≤ i → drop i xs ≡ []
drop_past [] zero past = refl
drop_past [] (suc i) past = refl
drop_past (x ∷ xs) zero past = absurd (omega (arith, past))
drop_past (x ∷ xs) (suc i) past = drop_past xs i (omega (arith, past))

module _ (d : DescriptionTree) where
  -- the children before a place are there with their parts
  pub record Entering (w : Way) (p i : ℕ) (children : List Form) (all : List Link) (parts : List (Bor Form)) (total : List Way) : Type 0 where
    pub mid : List Way
    pub held : Holds d mid all parts
    pub at : position (same_way w) mid ≡ Some p
    pub rest : fold with_way mid (ways_among w i (trees (drop i children))) ≡ total

  abbrev pub all_from : List Way → Way → Form → List Way
  all_from ways w part = fold with_way ways (ways_from w (form_tree part))

  pub begun : (ways : List Way) (all all' : List Link) (parts parts' : List (Bor Form)) (w : Way) (l : Link) (x : Bor Form) (p : ℕ) (children : List Form)
      → Enters d ways w l (form_tree x.now) all parts → children ≡ (out-Form x.now).children.items
      → all' ≡ with_link all l → parts' ≡ cond (list_any (same_link l) all) parts (parts ++ x ∷ []) → position (same_link l) all' ≡ Some p
      → Entering w p 0 children all' parts' (all_from ways w x.now)
  begun ways all all' parts parts' w l x p children enters is is_all is_parts at =
      let held = entered d ways all parts w l x enters all' parts' is_all is_parts in
      record {
        mid = with_way ways w;
        held = held;
        at = entered_at d ways all parts w l x enters all' parts' p held at;
        rest =
            ap (λ (cs : List Form). fold with_way (with_way ways w) (ways_among w 0 (trees cs))) is
            ∙ sym (ap (λ (t : FormTree). fold with_way ways (ways_from w t)) (tree_is x.now));
      }

  child_reached : (f : FormTree) (v : Way) (i : ℕ) (part x : FormTree) → part_by f v ≡ Some part → child_at part i ≡ Some x → part_by f (Child v i (operation_of x)) ≡ Some x
  child_reached f v i part x e is =
      ap (λ (p : Option FormTree). option_and_then (of_operation (operation_of x)) (option_and_then (child_of i) p)) e
      ∙ ap (λ (c : Option FormTree). option_and_then (of_operation (operation_of x)) c) is
      ∙ ap (λ (b : Bool). cond b (Some x) None) (eq-eqb (operation_of x) (operation_of x) refl)

  pub operation_is : (f : Form) (o : ℕ) → o ≡ (out-Form f).operation → operation_of (form_tree f) ≡ o
  operation_is f o is = ap operation_of (tree_is f) ∙ sym is

  module _ (w : Way) (p i : ℕ) (part : Form) (children : List Form) (is : children ≡ (out-Form part).children.items) (own : IsPartBy d w (form_tree part)) (h : i < length children) (x : Form) (at : x ≡ get_or children i x) where
    part_there : child_at (form_tree part) i ≡ Some (form_tree x)
    part_there = child_is part children is i ∙ ap (option_map form_tree) (slice_get_read children (length children) i x refl h at)

    pub child_part : IsPartBy d (Child w i (operation_of (form_tree x))) (form_tree x)
    child_part = record { form = own.form; listed = own.listed; is = child_reached (instruction_form d own.form) w i (form_tree part) (form_tree x) own.is part_there }

    pub child_enters : (all : List Link) (parts : List (Bor Form)) (total : List Way) (e : Entering w p i children all parts total) (o : ℕ) → o ≡ (out-Form x).operation
        → Enters d e.mid (Child w i o) (links.Child p i o) (form_tree x) all parts
    child_enters all parts total e o is_o = record {
      held = e.held;
      link = child w i o p e.at;
      part = subst (λ (n : ℕ). IsPartBy d (Child w i n) (form_tree x)) (operation_is x o is_o) child_part;
    }

    pub child_entered : (all all' : List Link) (parts parts' : List (Bor Form)) (total : List Way) (e : Entering w p i children all parts total) (o : ℕ) → o ≡ (out-Form x).operation
        → Holds d (all_from e.mid (Child w i o) x) all' parts' → Entering w p (i + 1) children all' parts' total
    child_entered all all' parts parts' total e o is_o held = record {
      mid = all_from e.mid (Child w i o) x;
      held = held;
      at = fold_kept w (ways_from (Child w i o) (form_tree x)) e.mid p e.at;
      rest =
          sym (fold_append with_way e.mid (ways_from (Child w i o) (form_tree x)) (ways_among w (i + 1) (trees (drop (i + 1) children))))
          ∙ ap (λ (n : ℕ). fold with_way e.mid (ways_from (Child w i n) (form_tree x) ++ ways_among w (i + 1) (trees (drop (i + 1) children)))) (sym (operation_is x o is_o))
          ∙ sym (ap (λ (ts : FormTrees). fold with_way e.mid (ways_among w i ts)) (next_tree children i x h at))
          ∙ e.rest;
    }

  pub all_entered : (w : Way) (p i : ℕ) (children : List Form) (all : List Link) (parts : List (Bor Form)) (total : List Way) → Entering w p i children all parts total → length children ≤ i → Holds d total all parts
  all_entered w p i children all parts total e past =
      subst (λ (ways : List Way). Holds d ways all parts)
      (sym (ap (λ (cs : List Form). fold with_way e.mid (ways_among w i (trees cs))) (drop_past children i past)) ∙ e.rest)
      e.held
