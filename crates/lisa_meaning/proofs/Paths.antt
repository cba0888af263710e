-- Scenes are paths of operations, each one an alternative of what the next one declares by a name, up to `main`; and what a declared name
-- stands for there is what the name may mean.
use Rattle.std.proofs.Common.{◌≡◌, ◌<◌, ◌≤◌, ◌∙◌, ℕ, suc, zero, List, [], ◌∷◌, Option, None, Some, Bool, true, false, cond, codes, refl, sym, ap, subst, arith, inl}
use Rattle.std.specs.Prelude.{slice_get, filter_map}
use Rattle.std.specs.Option.{option_and_then, option_or}
use Rattle.std.specs.Cmp.Lexicographic.{same_text}
use Rattle.std.proofs.lemmas.Option.{same_Some}
use Rattle.lisa_tree.specs.Descriptions.{OperationTree, DescriptionTree}
use Rattle.use_promises.specs.description_places.declared.sites.Region.TheVariants as regions
use Rattle.use_promises.specs.description_places.Places as places
use Rattle.use_promises.specs.description_places.Places.{at}
use Rattle.lisa_tree.specs.declared.declared.What.{What}
use Rattle.lisa_tree.specs.declared.declared.What.TheVariants as whats
use Rattle.lisa_tree.specs.Same.{same_name}
use Rattle.lisa_tree.specs.Operations.{number_of, name_at, operation_at, own_stage, is_alias}
use Rattle.lisa_tree.specs.Declarations.{Entry, entries, declared_at, what_at, above, is_reference}
use Rattle.lisa_tree.specs.Paths.{Operation, refers}
use Rattle.graph_paths.specs.Paths.{is_in}
use Rattle.use_promises.proofs.description_graph_proofs.Hits.{found}
use Rattle.use_promises.specs.stage_checks.Controls.{main_name}
use Rattle.use_promises.specs.lisa_machine.Ranks.{Ranks}
use Rattle.use_promises.specs.lisa_machine.Running.{FitsMain}
use Rattle.use_promises.specs.lisa_machine.Soundness.{IsSound}
use Rattle.use_promises.proofs.lisa_machine_proofs.Chosen.{in_here}
use Rattle.use_promises.proofs.lisa_machine_proofs.Decoding.{position_there}
use Rattle.use_promises.proofs.lisa_machine_proofs.Distinct.{operation_found}
use Rattle.use_promises.proofs.lisa_machine_proofs.Falling.{node_ranks}
use Rattle.use_promises.proofs.lisa_machine_proofs.Fitting.{alias_fits}
use Rattle.use_promises.proofs.lisa_machine_proofs.Forward.{main_is}
use Rattle.use_promises.proofs.lisa_machine_proofs.Named.{what_is}
use Rattle.use_promises.proofs.lisa_machine_proofs.Standing.{operation_stands}
use Rattle.lisa_forms.specs.meant_declarations.Meant.{MayMean, itself, higher}
use Rattle.use_promises.specs.Meant.{FitsReference}
use Rattle.use_promises.proofs.References.{reference_fits}
use Rattle.lisa_forms.specs.activation_trees.declared.parts.Occurrence.{Occurrence}
use Rattle.lisa_forms.specs.activation_trees.Starting.{plain_named}
use Rattle.lisa_forms.specs.activation_trees.Unfolding.{occurrences}
use Rattle.lisa_forms.specs.activation_trees.Activators.{IsChild, IsMain, HasActivator}
use Rattle.lisa_forms.proofs.activation_trees_proofs.Lying.{has_activator}
use Rattle.lisa_forms.proofs.activation_trees_proofs.Ordered.{has_name}
use Rattle.lisa_forms.specs.instruction_forms.Trees.{FormTree}
use Rattle.lisa_forms.specs.Choosing.{operation_of}
use Rattle.lisa_meaning.specs.Scenes.{Link, link, declared, home, child_part, chosen, onto, child_at_home, line_within, occurrence_part, occurrence_link}
use Rattle.lisa_meaning.proofs.Above.{name_is, no_alias, lower, stands_above, owner_is}
use Rattle.lisa_meaning.proofs.Nodes.{no_stage}

-- an operation is an alternative, and no alias, of what another one declares by some name
abbrev pub IsListedBy : DescriptionTree → ℕ → ℕ → Type 0
IsListedBy d p o = (n : List ℕ) × (is_in o (plain_named d p n) ≡ true)

abbrev pub IsPath : DescriptionTree → List Link → Type 0
IsPath d [] = ⊥
IsPath d (here ∷ []) = number_of d main_name ≡ Some here.operation
IsPath d (here ∷ next ∷ above) = IsListedBy d next.operation here.operation × IsPath d (next ∷ above)

-- ---- what is chosen

pub chosen_in : (all : List ℕ) (part : Option (Option FormTree)) (l : Link) → chosen all part ≡ Some l → is_in l.operation all ≡ true
chosen_in [] None l e = absurd (cc e)
chosen_in (o ∷ all) None l e = subst (λ (z : Link). is_in z.operation (o ∷ all) ≡ true) (same_Some (link o None) l e) (in_here o all)
chosen_in all (Some None) l e = absurd (cc e)
chosen_in all (Some (Some f)) l e = by (is_in (operation_of f) all) refl e
  where
    by : (b : Bool) → is_in (operation_of f) all ≡ b → cond b (Some (link (operation_of f) (Some f))) None ≡ Some l → is_in l.operation all ≡ true
    by true is h = subst (λ (z : Link). is_in z.operation all ≡ true) (same_Some (link (operation_of f) (Some f)) l h) is
    by false is h = absurd (cc h)

module _ (d : DescriptionTree) (s : IsSound d) where
  pub ranks : Ranks d
  ranks = node_ranks d s.circles

  pub main : FitsMain d
  main = main_is d s.main

  -- ---- `main`

  pub main_unstaged : own_stage d main.number ≡ None
  main_unstaged = no_stage d main.number main.operation main.is main.no_stage

  main_same : (o : ℕ) → number_of d main_name ≡ Some o → o ≡ main.number
  main_same o named = same_Some o main.number (sym named ∙ main.named)

  main_plain : (o : ℕ) → number_of d main_name ≡ Some o → is_alias d o ≡ false
  main_plain o named = ap (is_alias d) (main_same o named) ∙ by main.operation.alias refl
    where
      known : main.operation.alias ≡ is_alias d main.number
      known = let is = main.is in cc is

      by : (b : Bool) → main.operation.alias ≡ b → is_alias d main.number ≡ false
      by false e = sym known ∙ e
      by true e =
          let fits = alias_fits d s.known s.stand s.uses main.number main.operation e (operation_stands d main.number main.operation main.is (at main.number regions.Head [] (places.Head main.operation)) (inl refl)) in
          let none = main.no_coding in
          let some = fits.coding in
          absurd (cc (none, some))

  pub main_named : (o : ℕ) → number_of d main_name ≡ Some o → name_at d o ≡ codes "main"
  main_named o named =
      let p = position_there (λ (x : OperationTree). same_name main_name x.name) d.operations o named in
      let is : operation_at d o ≡ Some p.0 = p.1 in
      let own : name_at d o ≡ p.0.name = cc is in
      own ∙ sym (same_text main_name p.0.name (sym p.2))

  pub named_main : (o : ℕ) → name_at d o ≡ codes "main" → number_of d main_name ≡ Some o
  named_main o named = by (operation_at d o) refl
    where
      by : (r : Option OperationTree) → operation_at d o ≡ r → number_of d main_name ≡ Some o
      by None is = let none : name_at d o ≡ [] = cc is in absurd (cc (sym none ∙ named))
      by (Some operation) is =
          let own : name_at d o ≡ operation.name = cc is in
          ap (number_of d) (sym named ∙ own) ∙ operation_found d s.names o operation is

  -- ---- ranks fall down a path

  abbrev Rank : ℕ → ℕ
  Rank o = ranks.rank (Operation o)

  path_low : (here : Link) (above : List Link) → IsPath d (here ∷ above) → Rank here.operation ≤ Rank main.number
  path_low here [] path = let same : Rank here.operation ≡ Rank main.number = ap Rank (main_same here.operation path) in omega (arith, same)
  path_low here (next ∷ above) path =
      let h = path_low next above path.1 in
      let l = lower d next.operation path.0.0 here.operation ranks path.0.1 in
      omega (arith, h, l)

  -- below `main` it doesn't stand again
  pub not_main : (here next : Link) (above : List Link) → IsPath d (here ∷ next ∷ above) → number_of d main_name ≡ Some here.operation → ⊥
  not_main here next above path named =
      let h = path_low next above path.1 in
      let l = lower d next.operation path.0.0 here.operation ranks path.0.1 in
      let same : Rank here.operation ≡ Rank main.number = ap Rank (main_same here.operation named) in
      absurd (omega (arith, h, l, same))

  path_plain : (here : Link) (above : List Link) → IsPath d (here ∷ above) → is_alias d here.operation ≡ false
  path_plain here [] path = main_plain here.operation path
  path_plain here (next ∷ above) path = no_alias d next.operation path.0.0 here.operation path.0.1

  -- ---- what a declared name stands for

  -- the operation on a path that declares a name, and the declaration, which the name may mean
  pub record Home (n : List ℕ) (path : List Link) (i : ℕ) : Type 0 where
    pub here : Link
    pub above : List Link
    pub is : home d n path ≡ here ∷ above
    pub path_is : IsPath d (here ∷ above)
    pub number : ℕ
    pub declared : declared_at d here.operation n ≡ Some number
    pub means : MayMean d i number

  declared_what : (o : ℕ) (n : List ℕ) (i : ℕ) (e : Entry) → declared_at d o n ≡ Some i → slice_get (entries d) i ≡ Some e → declared d o n ≡ Some e.what
  declared_what o n i e at is = ap (option_and_then (what_at d)) at ∙ what_is d i e is

  module _ (n : List ℕ) (here : Link) (i : ℕ) (at : declared_at d here.operation n ≡ Some i) (e : Entry) (is : slice_get (entries d) i ≡ Some e) where
    stays : (above : List Link) → IsPath d (here ∷ above) → (w : What) → e.what ≡ w → refers w ≡ false → is_reference (Some w) ≡ false → Home n (here ∷ above) i
    stays above path w what own off = record {
      here = here;
      above = above;
      is = ap (λ (b : Bool). cond b (home d n above) (here ∷ above)) (ap is_reference (declared_what here.operation n i e at is ∙ ap (λ (v : What). Some v) what) ∙ off);
      path_is = path;
      number = i;
      declared = at;
      means = itself e is (ap refers what ∙ own) refl;
    }

    alone : IsPath d (here ∷ []) → e.what ≡ whats.Reference → ⊥
    alone path what =
        let owner = owner_is d here.operation n i e at is in
        let fits : FitsReference d e = reference_fits d s.names s.stand i e is what in
        absurd (fits.not_main (ap (name_at d) owner ∙ main_named here.operation path))

    goes_up : (next : Link) (up : List Link) → IsPath d (here ∷ next ∷ up) → e.what ≡ whats.Reference → ((k : ℕ) → declared_at d next.operation n ≡ Some k → Home n (next ∷ up) k) → Home n (here ∷ next ∷ up) i
    goes_up next up path what further =
        let owner = owner_is d here.operation n i e at is in
        let fits : FitsReference d e = reference_fits d s.names s.stand i e is what in
        let stands : is_in next.operation (above d e.operation) ≡ true =
        subst (λ (o : ℕ). is_in next.operation (above d o) ≡ true) (sym owner) (stands_above d next.operation path.0.0 here.operation (path_plain next up path.1) path.0.1)
        in
        let k = fits.each next.operation stands in
        let there : declared_at d next.operation n ≡ Some k.0 = ap (declared_at d next.operation) (sym (name_is d here.operation n i e at is)) ∙ k.1 in
        let h = further k.0 there in
        record {
          here = h.here;
          above = h.above;
          is = ap (λ (b : Bool). cond b (home d n (next ∷ up)) (here ∷ next ∷ up)) (ap is_reference (declared_what here.operation n i e at is ∙ ap (λ (v : What). Some v) what)) ∙ h.is;
          path_is = h.path_is;
          number = h.number;
          declared = h.declared;
          means = higher e next.operation k.0 is what stands k.1 h.means;
        }

    by_what : (above : List Link) → IsPath d (here ∷ above) → (e.what ≡ whats.Reference → Home n (here ∷ above) i) → Home n (here ∷ above) i
    by_what above path refer = by e.what refl
      where
        by : (w : What) → e.what ≡ w → Home n (here ∷ above) i
        by (whats.Group c) what = stays above path (whats.Group c) what refl refl
        by (whats.Instance c) what = stays above path (whats.Instance c) what refl refl
        by whats.Label what = stays above path whats.Label what refl refl
        by whats.Reference what = refer what

  pub home_of : (n : List ℕ) (here : Link) (above : List Link) (i : ℕ) → IsPath d (here ∷ above) → declared_at d here.operation n ≡ Some i → Home n (here ∷ above) i
  home_of n here [] i path at = let f = found d here.operation n i at in by_what n here i at f.e f.at [] path (λ what. absurd (alone n here i at f.e f.at path what))
  home_of n here (next ∷ up) i path at =
      let f = found d here.operation n i at in
      by_what n here i at f.e f.at (next ∷ up) path (λ what. goes_up n here i at f.e f.at next up path what (λ k there. home_of n next up k path.1 there))

  -- what holds of the empty path, and of each alternative below the operation that declares a name, holds of the name's child
  pub each_child : (P : List Link → Type 0) (n : List ℕ) (path : List Link) (i : ℕ) (form : Option FormTree) (h : Home n path i) → P []
      → ((l : Link) → is_in l.operation (plain_named d h.here.operation n) ≡ true → P (l ∷ h.here ∷ h.above)) → P (child_at_home d form n (home d n path))
  each_child P n path i form h none some =
      let one = chosen (plain_named d h.here.operation n) (child_part d form n h.here) in
      subst P (sym (ap (child_at_home d form n) h.is)) (by one refl)
    where
      by : (r : Option Link) → chosen (plain_named d h.here.operation n) (child_part d form n h.here) ≡ r → P (onto r (h.here ∷ h.above))
      by None is = none
      by (Some l) is = some l (chosen_in (plain_named d h.here.operation n) (child_part d form n h.here) l is)

  -- ---- the scene of an occurrence

  -- the path of an occurrence, which is a longer one where it runs in a stage
  pub record Line (x : Occurrence) (path : List Link) : Type 0 where
    pub here : Link
    pub above : List Link
    pub is : path ≡ here ∷ above
    pub operation : here.operation ≡ x.operation
    pub path_is : IsPath d (here ∷ above)
    pub staged : (t : ℕ) → x.stage ≡ Some t → (next : Link) × ((up : List Link) × (above ≡ next ∷ up))

  none_up : (form : Option FormTree) (levels : ℕ) → filter_map (occurrence_link d form) (line_within levels d None) ≡ []
  none_up form zero = refl
  none_up form (suc levels) = refl

  -- each occurrence has one, so many levels up
  abbrev Lines : Option FormTree → ℕ → Type 0
  Lines form levels = (k : ℕ) (x : Occurrence) → k < levels → slice_get (occurrences d) k ≡ Some x → Line x (filter_map (occurrence_link d form) (line_within levels d (Some k)))

  pub line_of : (form : Option FormTree) (levels k : ℕ) (x : Occurrence) → k < levels → slice_get (occurrences d) k ≡ Some x → Line x (filter_map (occurrence_link d form) (line_within levels d (Some k)))
  line_of form zero k x low at = absurd (omega (arith, low))
  line_of form (suc levels) k x low at = by x.parent refl (has_activator d k x at) (λ p y less stands. line_of form levels p y less stands)
    where
      own : Link
      own = link x.operation (occurrence_part d form k)

      rest : Option ℕ → List Link
      rest p = filter_map (occurrence_link d form) (line_within levels d p)

      whole : filter_map (occurrence_link d form) (line_within (suc levels) d (Some k)) ≡ own ∷ rest x.parent
      whole = let e = at in rw e refl

      by : (p : Option ℕ) → x.parent ≡ p → HasActivator d k x x.parent → Lines form levels → Line x (filter_map (occurrence_link d form) (line_within (suc levels) d (Some k)))
      by None e h further =
          let m : IsMain d k x = subst (HasActivator d k x) e h in
          let operation : x.operation ≡ m.number = ap (λ (z : Occurrence). z.operation) m.is in
          let unstaged : x.stage ≡ None = ap (λ (z : Occurrence). z.stage) m.is ∙ ap (λ (t : Option ℕ). option_or t None) (ap (own_stage d) (main_same m.number m.named) ∙ main_unstaged) in
          record {
            here = own;
            above = [];
            is = whole ∙ ap (λ (p : Option ℕ). own ∷ rest p) e ∙ ap (λ (l : List Link). own ∷ l) (none_up form levels);
            operation = refl;
            path_is = m.named ∙ ap (λ (o : ℕ). Some o) (sym operation);
            staged = λ t is. absurd (cc (sym unstaged ∙ is));
          }
      by (Some p) e h further =
          let c : IsChild d k x p = subst (HasActivator d k x) e h in
          let before = c.before in
          let r = further p c.activator (omega (arith, before, low)) c.stands in
          let named = has_name d c.activator.operation c.is_activated.0 c.by_item c.is_activated.1 in
          let operation : x.operation ≡ c.by_item.operation = ap (λ (z : Occurrence). z.operation) c.is in
          let alternative : is_in x.operation (plain_named d r.here.operation named.name) ≡ true =
          subst (λ (o : ℕ). is_in x.operation (plain_named d o named.name) ≡ true) (sym r.operation)
          (subst (λ (o : ℕ). is_in o (plain_named d c.activator.operation named.name) ≡ true) (sym operation) named.named.alternative)
          in
          record {
            here = own;
            above = r.here ∷ r.above;
            is = whole ∙ ap (λ (q : Option ℕ). own ∷ rest q) e ∙ ap (λ (l : List Link). own ∷ l) r.is;
            operation = refl;
            path_is = ((named.name, alternative), r.path_is);
            staged = λ t is. (r.here, (r.above, refl));
          }
