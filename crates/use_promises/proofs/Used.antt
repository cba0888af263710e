-- What stands behind a declared name that is used.
use Rattle.std.proofs.Common.{◌≡◌, ◌⊎◌, ◌||◌, ◌&&◌, ℕ, List, [], Option, None, Some, Bool, true, false, not, nat_lt, length, refl, sym, ap, ◌∙◌, inl, inr, ⊎_elim}
use Rattle.std.specs.Prelude.{slice_get}
use Rattle.std.specs.Option.{is_some}
use Rattle.std.specs.List.{list_any}
use Rattle.std.proofs.lemmas.Bool.{lt-ltb}
use Rattle.lisa_tree.specs.declared.descriptions.CodingItem.{CodingItem}
use Rattle.lisa_tree.specs.Expressions.{ExprTree}
use Rattle.lisa_tree.specs.Descriptions as trees
use Rattle.lisa_tree.specs.Descriptions.{DescriptionTree}
use Rattle.description_places.specs.declared.scopes.Local.{Local}
use Rattle.description_places.specs.declared.sites.Region.{Region}
use Rattle.description_places.specs.declared.sites.Region.TheVariants as regions
use Rattle.description_places.specs.Scopes.{Scope, local_named}
use Rattle.description_places.specs.Places as places
use Rattle.description_places.specs.Places.{at}
use Rattle.lisa_tree.specs.declared.declared.What.{What}
use Rattle.lisa_tree.specs.declared.declared.What.TheVariants as whats
use Rattle.lisa_tree.specs.declared.declared.Meaning.{Meaning}
use Rattle.lisa_tree.specs.declared.declared.Meaning.TheVariants as meanings
use Rattle.lisa_tree.specs.Resources.{resource_at}
use Rattle.lisa_tree.specs.Operations.{name_at, sections_at, coding_in, own_stage, is_root}
use Rattle.lisa_tree.specs.Declarations.{Entry, entries, declared_at, what_at, plain_at, alternatives_at}
use Rattle.lisa_tree.specs.Meanings.{meaning, meaning_of}
use Rattle.lisa_machine.proofs.description_graph_proofs.Hits.{found}
use Rattle.graph_paths.specs.Paths.{is_in}
use Rattle.lisa_machine.specs.coded_names.Codings.{is_coding}
use Rattle.lisa_machine.specs.description_types.declared.values.Trait.{Trait}
use Rattle.lisa_machine.specs.description_types.declared.values.Trait.TheVariants as traits
use Rattle.lisa_machine.specs.description_types.declared.values.Traits.{Traits}
use Rattle.lisa_machine.specs.description_types.declared.values.CodedName.{CodedName}
use Rattle.lisa_machine.specs.description_types.Codings.{coding_at}
use Rattle.lisa_machine.specs.description_types.Refused.{is_apart}
use Rattle.lisa_machine.specs.description_types.Uses.{holds, choice_traits, child_traits, own_traits}
use Rattle.lisa_machine.specs.description_types.Tables.{Known, AreKinds}
use Rattle.lisa_machine.specs.name_checks.Doubled.{duplicate}
use Rattle.lisa_machine.specs.name_checks.Unknown.{unknown, is_something, stands, is_known, register_unknown, part_unknown}
use Rattle.lisa_machine.specs.kind_checks.Uses.{by_sort, is_no_operand, is_empty, meant_misread, is_misread, meant_miswritten, is_miswritten, meant_miscalled, is_miscalled, is_misstarted, is_wrong_operand, is_wrong_root_group, is_wrong_shown, what_misdeclared}
use Rattle.lisa_machine.specs.kind_checks.WrongKinds.{wrong_kind, owner_name, faulty, register_name, root_name}
use Rattle.lisa_machine.specs.Freedom.{IsFree, Stands}
use Rattle.lisa_machine.proofs.Among.{free_place}
use Rattle.lisa_machine.proofs.Chosen.{plain_listed}
use Rattle.lisa_machine.proofs.Decoding.{off_left, off_right, or_right, none_of, is_found, is_right, no_name, not_faulty}
use Rattle.lisa_machine.proofs.Named.{what_is}
use Rattle.lisa_machine.proofs.Choosing.{rightly_declared}
use Rattle.use_promises.specs.Meant.{ChoosesFrom}
use Rattle.use_promises.specs.Using.{RunsInPlace, IsCoded, IsDecided, NamesRootGroup, MayRun, ChildrenMayRun, IsChildEntry, IsCallable, DeclaresChild, IsStartable, IsOperand, IsRootGroup, IsShowable}
use Rattle.use_promises.proofs.Traits.{none_in, coding_is, own_child, own_label, means_itself, lacks}
use Rattle.use_promises.proofs.References.{definite}

-- ---- what is off where a use is right

-- what runs where it is used
record Apart (t : Traits) : Type 0 where
  pub stage : t.staged ≡ false
  pub root : t.rooted ≡ false
  pub code : t.uncoded ≡ false
  pub group : t.instructions ≡ false

apart : (t : Traits) → is_apart t ≡ false → Apart t
apart t e =
    let one = off_right t.staged _ e in
    let two = off_right t.rooted _ one in
    record {
      stage = off_left t.staged _ e;
      root = off_left t.rooted _ one;
      code = off_left t.uncoded _ two;
      group = off_right t.uncoded _ two;
    }

more_than : (x y : Bool) → (x && not y) ≡ false → x ≡ true → y ≡ true
more_than true true e f = refl
more_than true false e f = absurd (cc e)
more_than false y e f = absurd (cc f)

module _ (d : DescriptionTree) (known : Known) (kinds : AreKinds d known) (names : IsFree (duplicate d) d) (stand : IsFree (unknown d) d) (uses : IsFree (wrong_kind known d) d) where
  -- ---- groups and instances

  module _ (i c : ℕ) (e : Entry) (is : slice_get (entries d) i ≡ Some e) (which : ChoosesFrom e c) where
    abbrev own : Traits
    own = own_traits d i

    its_traits : own ≡ child_traits (coding_at d i) (choice_traits d c)
    its_traits = own_child d i e is c which

    no_stage : own.staged ≡ false → (o : ℕ) → is_in o (plain_at d c) ≡ true → own_stage d o ≡ None
    no_stage off o h = none_of (own_stage d o) (none_in (λ x. is_some (own_stage d x)) o (plain_at d c) h (sym (ap (λ (t : Traits). t.staged) its_traits) ∙ off))

    no_root : own.rooted ≡ false → (o : ℕ) → is_in o (plain_at d c) ≡ true → is_root d o ≡ false
    no_root off o h = none_in (is_root d) o (plain_at d c) h (sym (ap (λ (t : Traits). t.rooted) its_traits) ∙ off)

    in_place : own.staged ≡ false → own.rooted ≡ false → (o : ℕ) → is_in o (plain_at d c) ≡ true → RunsInPlace d o
    in_place staged rooted o h = record { no_stage = no_stage staged o h; no_root = no_root rooted o h }

    -- the same of what a coding has, where aliases count too
    no_root_listed : own.listed_rooted ≡ false → (o : ℕ) → is_in o (plain_at d c) ≡ true → is_root d o ≡ false
    no_root_listed off o h = none_in (is_root d) o (alternatives_at d c) (plain_listed d c o h) (sym (ap (λ (t : Traits). t.listed_rooted) its_traits) ∙ off)

    listed_in_place : own.listed_staged ≡ false → own.listed_rooted ≡ false → (o : ℕ) → is_in o (plain_at d c) ≡ true → RunsInPlace d o
    listed_in_place staged rooted o h = record {
      no_stage = none_of (own_stage d o) (none_in (λ x. is_some (own_stage d x)) o (alternatives_at d c) (plain_listed d c o h) (sym (ap (λ (t : Traits). t.listed_staged) its_traits) ∙ staged));
      no_root = no_root_listed rooted o h;
    }

    coded_so : (coding_at d i).coded ≡ true → IsCoded d e
    coded_so f = sym (ap (λ (x : CodedName). x.coded) (coding_is d i e is)) ∙ f

    decided : own.uncoded ≡ false → IsDecided d e c
    decided off many = coded_so (more_than (nat_lt 1 (length (plain_at d c))) (coding_at d i).coded (sym (ap (λ (t : Traits). t.uncoded) its_traits) ∙ off) (lt-ltb 1 (length (plain_at d c)) many))

    no_group : own.instructions ≡ false → NamesRootGroup d e → ⊥
    no_group off f =
        let none : (coding_at d i).instructions ≡ false = sym (ap (λ (t : Traits). t.instructions) its_traits) ∙ off in
        absurd (cc (sym f ∙ sym (ap (λ (x : CodedName). x.instructions) (coding_is d i e is)) ∙ none))

    may_run : Apart own → MayRun d e c
    may_run a = record { operations = in_place a.stage a.root; decided = decided a.code; other = no_group a.group }

    -- ---- what is declared

    right_place : what_misdeclared known d i (Some e.what) ≡ false → (known.traits i).misplaced ≡ false
    right_place b = ⊎_elim
        (λ w. off_right (is_empty (plain_at d c)) (known.traits i).misplaced (sym (ap (λ (x : What). what_misdeclared known d i (Some x)) w) ∙ b))
        (λ w. off_right (is_empty (plain_at d c)) (known.traits i).misplaced (sym (ap (λ (x : What). what_misdeclared known d i (Some x)) w) ∙ b))
        which

    pub coded_there : (o : ℕ) (all : List CodingItem) → is_in o (alternatives_at d c) ≡ true → coding_in (sections_at d o) ≡ Some (trees.Items all) → IsCoded d e
    coded_there o all h coding =
        let off : own.misplaced ≡ false = lacks d known.traits kinds.traits traits.Misplaced (means_itself d i e is c which) (right_place (rightly_declared d known names uses i e is)) in
        coded_so (more_than (list_any (λ x. is_coding (coding_in (sections_at d x))) (alternatives_at d c)) (coding_at d i).coded (sym (ap (λ (t : Traits). t.misplaced) its_traits) ∙ off) (some_coding (alternatives_at d c) h))
      where
        coding_test : is_coding (coding_in (sections_at d o)) ≡ true
        coding_test = ap is_coding coding

        some_coding : (xs : List ℕ) → is_in o xs ≡ true → list_any (λ x. is_coding (coding_in (sections_at d x))) xs ≡ true
        some_coding xs g = by (list_any (λ x. is_coding (coding_in (sections_at d x))) xs) refl
          where
            by : (b : Bool) → list_any (λ x. is_coding (coding_in (sections_at d x))) xs ≡ b → b ≡ true
            by true e = refl
            by false e = absurd (cc (none_in (λ x. is_coding (coding_in (sections_at d x))) o xs g e, coding_test))

  -- ---- names in activations, codings and syntaxes

  -- a declared name that isn't misused
  record Rightly (o : ℕ) (n : List ℕ) (wrong : Meaning → Bool) : Type 0 where
    pub number : ℕ
    pub declared : declared_at d o n ≡ Some number
    pub entry : Entry
    pub is : slice_get (entries d) number ≡ Some entry
    pub right : wrong (meanings.Declared number) ≡ false

  rightly : (o : ℕ) (n : List ℕ) (wrong : Meaning → Bool) → ((k : ℕ) → wrong (meanings.Resource k) ≡ true) → is_something (meaning d o n) ≡ true → wrong (meaning d o n) ≡ false → Rightly o n wrong
  rightly o n wrong other some right = by (declared_at d o n) (resource_at d n) refl some right
    where
      by : (x y : Option ℕ) → declared_at d o n ≡ x → is_something (meaning_of x y) ≡ true → wrong (meaning_of x y) ≡ false → Rightly o n wrong
      by (Some i) y is s r = let f = found d o n i is in record { number = i; declared = is; entry = f.e; is = f.at; right = r }
      by None (Some k) is s r = absurd (cc (sym (other k) ∙ r))
      by None None is s r = absurd (cc s)

  -- the child that it declares, and what isn't wrong of one
  record Sorted (o : ℕ) (n : List ℕ) (group child : ℕ → Bool) : Type 0 where
    pub declares : DeclaresChild d o n
    pub right : (group declares.number ≡ false) ⊎ (child declares.number ≡ false)

  sorted : (o : ℕ) (n : List ℕ) (group child : ℕ → Bool) (i : ℕ) (e : Entry) → declared_at d o n ≡ Some i → slice_get (entries d) i ≡ Some e → by_sort (child i) (group i) true (what_at d i) ≡ false → Sorted o n group child
  sorted o n group child i e at is f = by e.what refl (ap (by_sort (child i) (group i) true) (sym (what_is d i e is)) ∙ f)
    where
      by : (w : What) → e.what ≡ w → by_sort (child i) (group i) true (Some e.what) ≡ false → Sorted o n group child
      by (whats.Group c) what g =
          record { declares = record { number = i; declared = at; entry = e; is = is; choice = c; chooses = inl what }; right = inl (ap (λ (x : What). by_sort (child i) (group i) true (Some x)) (sym what) ∙ g) }
      by (whats.Instance c) what g =
          record { declares = record { number = i; declared = at; entry = e; is = is; choice = c; chooses = inr what }; right = inr (ap (λ (x : What). by_sort (child i) (group i) true (Some x)) (sym what) ∙ g) }
      by whats.Label what g = absurd (cc (sym g ∙ ap (λ (x : What). by_sort (child i) (group i) true (Some x)) what))
      by whats.Reference what g = absurd (cc (sym g ∙ ap (λ (x : What). by_sort (child i) (group i) true (Some x)) what))

  either : (test : ℕ → Bool) {i : ℕ} → (test i ≡ false) ⊎ (test i ≡ false) → test i ≡ false
  either test r = ⊎_elim (λ e. e) (λ e. e) r

  -- what isn't known of a child doesn't hold of it
  child_lacks : {o : ℕ} {n : List ℕ} (s : DeclaresChild d o n) (q : Trait) → holds q (known.traits s.number) ≡ false → holds q (own_traits d s.number) ≡ false
  child_lacks s q off = lacks d known.traits kinds.traits q (means_itself d s.number s.entry s.is s.choice s.chooses) off

  start_fits : (o : ℕ) (n : List ℕ) → Sorted o n (λ i. (known.traits i).uncoded) (λ i. (known.traits i).uncoded) → IsStartable d o n
  start_fits o n t = record {
    child = t.declares;
    decided = decided t.declares.number t.declares.choice t.declares.entry t.declares.is t.declares.chooses
        (child_lacks t.declares traits.Uncoded (either (λ i. (known.traits i).uncoded) t.right));
  }

  start_sorted : (o : ℕ) (n : List ℕ) → Rightly o n (is_misstarted known d) → IsStartable d o n
  start_sorted o n r = start_fits o n (sorted o n (λ i. (known.traits i).uncoded) (λ i. (known.traits i).uncoded) r.number r.entry r.declared r.is r.right)

  pub starts_child : (o : ℕ) (n : List ℕ) → Stands d (at o regions.Activation [] (places.Starts n)) → IsStartable d o n
  starts_child o n s = start_sorted o n (rightly o n (is_misstarted known d) (λ k. refl) (is_found (name_at d o) (is_known d o [] n) n (free_place (unknown d) d stand _ s))
      (is_right (name_at d o) (is_misstarted known d (meaning d o n)) n (free_place (wrong_kind known d) d uses _ s)))

  operand_off : (o : ℕ) (n : List ℕ) (t : Sorted o n (λ i. is_no_operand (known.traits i)) (λ i. is_no_operand (known.traits i))) → ((known.traits t.declares.number).listed_staged || (known.traits t.declares.number).listed_rooted) ≡ false
  operand_off o n t = either (λ i. is_no_operand (known.traits i)) t.right

  operand_fits : (o : ℕ) (n : List ℕ) → Sorted o n (λ i. is_no_operand (known.traits i)) (λ i. is_no_operand (known.traits i)) → IsOperand d o n
  operand_fits o n t = record {
    child = t.declares;
    operations = listed_in_place t.declares.number t.declares.choice t.declares.entry t.declares.is t.declares.chooses
        (child_lacks t.declares traits.ListedStaged (off_left (known.traits t.declares.number).listed_staged (known.traits t.declares.number).listed_rooted (operand_off o n t)))
        (child_lacks t.declares traits.ListedRooted (off_right (known.traits t.declares.number).listed_staged (known.traits t.declares.number).listed_rooted (operand_off o n t)));
  }

  operand_sorted : (o : ℕ) (n : List ℕ) → Rightly o n (is_wrong_operand known d) → IsOperand d o n
  operand_sorted o n r = operand_fits o n (sorted o n (λ i. is_no_operand (known.traits i)) (λ i. is_no_operand (known.traits i)) r.number r.entry r.declared r.is r.right)

  pub operand_child : (o : ℕ) (n : List ℕ) → Stands d (at o regions.Coding [] (places.Operand n)) → IsOperand d o n
  operand_child o n s = operand_sorted o n (rightly o n (is_wrong_operand known d) (λ k. refl) (is_found (name_at d o) (stands d o n) n (free_place (unknown d) d stand _ s))
      (is_right (name_at d o) (is_wrong_operand known d (meaning d o n)) n (free_place (wrong_kind known d) d uses _ s)))

  root_fits : (o : ℕ) (n : List ℕ) → Sorted o n (λ i. (known.traits i).listed_rooted) (λ i. true) → IsRootGroup d o n
  root_fits o n t = record {
    child = t.declares;
    operations = no_root_listed t.declares.number t.declares.choice t.declares.entry t.declares.is t.declares.chooses
        (child_lacks t.declares traits.ListedRooted (⊎_elim (λ e. e) (λ e. absurd (cc e)) t.right));
  }

  root_sorted : (o : ℕ) (n : List ℕ) → Rightly o n (is_wrong_root_group known d) → IsRootGroup d o n
  root_sorted o n r = root_fits o n (sorted o n (λ i. (known.traits i).listed_rooted) (λ i. true) r.number r.entry r.declared r.is r.right)

  pub root_child : (o : ℕ) (word : ExprTree) (n : List ℕ) → Stands d (at o regions.Coding [] (places.Root word n)) → IsRootGroup d o n
  root_child o word n s =
      let u = free_place (unknown d) d stand _ s in
      let w = no_name (name_at d o) (root_name known d o word n) (free_place (wrong_kind known d) d uses _ s) in
      root_sorted o n (rightly o n (is_wrong_root_group known d) (λ k. refl) (is_found (name_at d o) (stands d o n) n (or_right (register_unknown d o word) (part_unknown d o n) u))
      (not_faulty (is_wrong_root_group known d (meaning d o n)) n (or_right (register_name known d o word) (faulty (is_wrong_root_group known d (meaning d o n)) n) w)))

  shown_fits : (o : ℕ) (n : List ℕ) → Sorted o n (λ i. (known.traits i).instructions) (λ i. (known.traits i).instructions) → IsShowable d o n
  shown_fits o n t = record {
    child = t.declares;
    other = no_group t.declares.number t.declares.choice t.declares.entry t.declares.is t.declares.chooses
        (child_lacks t.declares traits.Instructions (either (λ i. (known.traits i).instructions) t.right));
  }

  shown_sorted : (o : ℕ) (n : List ℕ) → Rightly o n (is_wrong_shown known d) → IsShowable d o n
  shown_sorted o n r = shown_fits o n (sorted o n (λ i. (known.traits i).instructions) (λ i. (known.traits i).instructions) r.number r.entry r.declared r.is r.right)

  pub shown_child : (o : ℕ) (n : List ℕ) → Stands d (at o regions.Syntax [] (places.Shown n)) → IsShowable d o n
  shown_child o n s = shown_sorted o n (rightly o n (is_wrong_shown known d) (λ k. refl) (is_found (name_at d o) (stands d o n) n (free_place (unknown d) d stand _ s))
      (is_right (name_at d o) (is_wrong_shown known d (meaning d o n)) n (free_place (wrong_kind known d) d uses _ s)))

  -- ---- names in expressions and statements

  -- all that a name may mean runs where the name is used
  run_apart : (i : ℕ) → Apart (known.traits i) → ChildrenMayRun d i
  run_apart i a j c e m is which = may_run j c e is which (record {
    stage = lacks d known.traits kinds.traits traits.Staged m a.stage;
    root = lacks d known.traits kinds.traits traits.Rooted m a.root;
    code = lacks d known.traits kinds.traits traits.Uncoded m a.code;
    group = lacks d known.traits kinds.traits traits.Instructions m a.group;
  })

  meant_as : (o i : ℕ) (n : List ℕ) → declared_at d o n ≡ Some i → meaning d o n ≡ meanings.Declared i
  meant_as o i n at = ap (λ (x : Option ℕ). meaning_of x (resource_at d n)) at

  pub reads_run : (o i : ℕ) (region : Region) (scope : Scope) (n : List ℕ) → Stands d (at o region scope (places.Reads n)) → local_named n scope ≡ None → declared_at d o n ≡ Some i → ChildrenMayRun d i
  reads_run o i region scope n s none at =
      let w = is_right (owner_name d o region) (is_misread known d o n (local_named n scope)) n (free_place (wrong_kind known d) d uses _ s) in
      let v : meant_misread known d (meaning d o n) ≡ false = ap (is_misread known d o n) (sym none) ∙ w in
      let u : meant_misread known d (meanings.Declared i) ≡ false = ap (meant_misread known d) (sym (meant_as o i n at)) ∙ v in
      run_apart i (apart (known.traits i) (off_right (known.typeless i) (is_apart (known.traits i)) u))

  pub writes_run : (o i : ℕ) (region : Region) (scope : Scope) (n : List ℕ) → Stands d (at o region scope (places.Writes n)) → local_named n scope ≡ None → declared_at d o n ≡ Some i → ChildrenMayRun d i
  writes_run o i region scope n s none at =
      let w = is_right (owner_name d o region) (is_miswritten known d o n (local_named n scope)) n (free_place (wrong_kind known d) d uses _ s) in
      let v : meant_miswritten known d (meaning d o n) ≡ false = ap (is_miswritten known d o n) (sym none) ∙ w in
      let u : meant_miswritten known d (meanings.Declared i) ≡ false = ap (meant_miswritten known d) (sym (meant_as o i n at)) ∙ v in
      let right = off_right (known.typeless i) (is_apart (known.traits i) || known.unassignable i) u in
      run_apart i (apart (known.traits i) (off_left (is_apart (known.traits i)) (known.unassignable i) right))

  -- what a name that isn't a label may mean is a group or an instance
  child_entry : (j : ℕ) (e : Entry) → slice_get (entries d) j ≡ Some e → (e.what ≡ whats.Reference → ⊥) → (own_traits d j).label ≡ false → IsChildEntry e
  child_entry j e is no_reference off = by e.what refl
    where
      by : (w : What) → e.what ≡ w → IsChildEntry e
      by (whats.Group c) what = (c, inl what)
      by (whats.Instance c) what = (c, inr what)
      by whats.Label what = absurd (cc (sym off ∙ ap (λ (t : Traits). t.label) (own_label d j e is what)))
      by whats.Reference what = absurd (no_reference what)

  pub call_fits : (o : ℕ) (region : Region) (scope : Scope) (n : List ℕ) → Stands d (at o region scope (places.Calls n)) → IsCallable d o scope n
  call_fits o region scope n s =
      by (local_named n scope) refl (is_found (name_at d o) (is_known d o scope n) n (free_place (unknown d) d stand _ s))
      (is_right (owner_name d o region) (is_miscalled known d o n (local_named n scope)) n (free_place (wrong_kind known d) d uses _ s))
    where
      by : (r : Option Local) → local_named n scope ≡ r → (is_some r || stands d o n) ≡ true → is_miscalled known d o n r ≡ false → IsCallable d o scope n
      by (Some l) none there right = absurd (cc right)
      by None none there right =
          let r = rightly o n (meant_miscalled known d) (λ k. refl) there right in
          let label : (known.traits r.number).label ≡ false = off_left (known.traits r.number).label _ r.right in
          record {
            no_local = none;
            number = r.number;
            declared = r.declared;
            children = λ j e m is. child_entry j e is (definite d m e is) (lacks d known.traits kinds.traits traits.Label m label);
            run = run_apart r.number (apart (known.traits r.number) (off_right (known.traits r.number).label _ r.right));
          }
