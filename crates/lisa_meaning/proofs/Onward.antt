-- Levels go forward, and what is past the root stays there.
use Rattle.std.proofs.Common.{◌≡◌, ◌≤◌, ◌+◌, ◌++◌, ◌||◌, ◌∙◌, ℕ, zero, suc, Bool, true, false, List, [], ◌∷◌, Option, None, Some, map, nat_eq, length, refl, sym, ap, subst, arith}
use Rattle.std.specs.Prelude.{slice_get, option_map, is_some}
use Rattle.std.specs.Option.{option_or, option_to_list, option_map_or, option_and_then}
use Rattle.std.specs.List.{AllByRecursion}
use Rattle.std.proofs.lemmas.Bool.{eq-eqb}
use Rattle.lisa_tree.specs.Descriptions as trees
use Rattle.lisa_tree.specs.Descriptions.{CodingTree, DescriptionTree}
use Rattle.lisa_tree.specs.Resources.{stages}
use Rattle.lisa_tree.specs.Operations.{own_stage, sections_at, coding_in, activation_in, is_root}
use Rattle.lisa_forms.specs.coded_names.Codings.{names_instructions}
use Rattle.graph_paths.specs.Paths.{is_in}
use Rattle.use_promises.specs.stage_checks.Running.{started, choices_named, activation_names, Activates, RunsIn}
use Rattle.use_promises.proofs.lisa_machine_proofs.Entries.{Split, in_first, in_second, split}
use Rattle.use_promises.proofs.Staged.{own_low}
use Rattle.lisa_forms.specs.activation_trees.declared.parts.Occurrence.{Occurrence}
use Rattle.lisa_forms.specs.activation_trees.Starting.{Activated, plain_named, plain_of, names_by}
use Rattle.lisa_forms.specs.activation_trees.Unfolding.{occurrences}
use Rattle.lisa_forms.specs.activation_trees.Activators.{IsActivated, IsChild, IsMain, HasActivator}
use Rattle.lisa_forms.specs.activation_trees.Places.{HasName}
use Rattle.lisa_forms.proofs.activation_trees_proofs.Levels.{all_map}
use Rattle.lisa_forms.proofs.activation_trees_proofs.Ordered.{has_name}
use Rattle.lisa_forms.proofs.activation_trees_proofs.Lying.{each_occurrence, runs, has_activator}
use Rattle.lisa_forms.specs.Choosing.{numbered_form}
use Rattle.pipeline_time.specs.Acts.{Node}
use Rattle.pipeline_time.specs.Cores.{all_nodes}
use Rattle.lisa_meaning.specs.Standings.{standing}
use Rattle.lisa_meaning.specs.Scenes.{form_with}
use Rattle.lisa_meaning.specs.Trees.{level_of_stage}
use Rattle.lisa_meaning.specs.Cores.{is_root_at, chooses, decodes, core_of}
use Rattle.lisa_meaning.specs.Laws.{Listed, node_listed, occurrence_listed, listed_from, TreesAreOccurrences, IsOnward, LevelsGoForward, InstructionsChoose, IsInside, PastIsInside}

-- ---- what holds of each occurrence holds of each node

all_listed : (P : Listed → Type 0) (k : ℕ) (xs : List Occurrence) → ((j : ℕ) (x : Occurrence) → slice_get xs j ≡ Some x → P (occurrence_listed (k + j) x)) → AllByRecursion P (listed_from k xs)
all_listed P k [] h = tt
all_listed P k (x ∷ xs) h = (
  subst (λ (n : ℕ). P (occurrence_listed n x)) (let e : k + 0 ≡ k = omega arith in e) (h 0 x refl),
  all_listed P (suc k) xs (λ j y is. subst (λ (n : ℕ). P (occurrence_listed n y)) (let e : k + suc j ≡ suc k + j = omega arith in e) (h (suc j) y is)),
)

all_nodes_of : (P : Listed → Type 0) (nodes : List Node) → AllByRecursion P (map node_listed nodes) → AllByRecursion (λ node. P (node_listed node)) nodes
all_nodes_of P [] h = tt
all_nodes_of P (node ∷ rest) h = (h.0, all_nodes_of P rest h.1)

pub all_nodes_are : (d : DescriptionTree) (P : Listed → Type 0) → TreesAreOccurrences d → ((k : ℕ) (x : Occurrence) → slice_get (occurrences d) k ≡ Some x → P (occurrence_listed k x)) → AllByRecursion (λ node. P (node_listed node)) (all_nodes (core_of d))
all_nodes_are d P same h =
    all_nodes_of P (all_nodes (core_of d))
    (subst (AllByRecursion P) (sym same)
    (all_listed P 0 (occurrences d) (λ j x is. subst (λ (n : ℕ). P (occurrence_listed n x)) (let e : j ≡ 0 + j = omega arith in e) (h j x is))))

-- ---- what is activated by a name is an alternative of what the name stands for

module _ (d : DescriptionTree) (p : ℕ) where
  one_name : (m : List ℕ) (xs : List ℕ) (i : ℕ) (n : List ℕ) → slice_get (map (λ _. m) xs) i ≡ Some n → m ≡ n
  one_name m [] i n e = absurd (cc e)
  one_name m (x ∷ xs) zero n e = cc e
  one_name m (x ∷ xs) (suc i) n e = one_name m xs i n e

  first_in : (c : ℕ) (cs : List ℕ) (r : Option ℕ) → r ≡ Some c → is_in c (option_to_list r ++ cs) ≡ true
  first_in c cs r e =
      ap (λ (s : Option ℕ). is_in c (option_to_list s ++ cs)) e
      ∙ (let h : nat_eq c c ≡ true = eq-eqb c c refl in let t : (nat_eq c c || is_in c cs) ≡ true = grind arith in t)

  further_in : (c : ℕ) (cs : List ℕ) (r : Option ℕ) → is_in c cs ≡ true → is_in c (option_to_list r ++ cs) ≡ true
  further_in c cs None h = h
  further_in c cs (Some x) h = let t : (nat_eq c x || is_in c cs) ≡ true = grind arith in t

  name_chosen : (names : List (List ℕ)) (i c : ℕ) (n : List ℕ) → slice_get (names_by d p names) i ≡ Some n → started d p n ≡ Some c → is_in c (choices_named d p names) ≡ true
  name_chosen [] i c n e s = absurd (cc e)
  name_chosen (m ∷ rest) i c n e s = by (split (map (λ _. m) (plain_named d p m)) (names_by d p rest) i n e) (λ j h. name_chosen rest j c n h s)
    where
      by : Split (map (λ _. m) (plain_named d p m)) (names_by d p rest) i n → ((j : ℕ) → slice_get (names_by d p rest) j ≡ Some n → is_in c (choices_named d p rest) ≡ true) → is_in c (choices_named d p (m ∷ rest)) ≡ true
      by (in_first h) more = first_in c (choices_named d p rest) (started d p m) (ap (started d p) (one_name m (plain_named d p m) i n h) ∙ s)
      by (in_second j k h) more = further_in c (choices_named d p rest) (started d p m) (more j h)

  activates : (a : Activated) → IsActivated d p a → Activates d p a.operation
  activates a is = let h = has_name d p is.0 a is.1 in by h (started d p h.name) refl h.named.alternative
    where
      by : (h : HasName d p is.0 a) (r : Option ℕ) → started d p h.name ≡ r → is_in a.operation (plain_of d r) ≡ true → Activates d p a.operation
      by h None e plain = absurd (cc plain)
      by h (Some c) e plain = record { choice = c; named = name_chosen (activation_names (activation_in (sections_at d p))) is.0 c h.name h.is e; plain = plain }

-- ---- levels

abbrev Onward : DescriptionTree → Option ℕ → Option ℕ → Type 0
Onward d from stage = (level_of_stage from ≤ level_of_stage stage) × (level_of_stage stage ≤ length (stages d))

module _ (d : DescriptionTree) (goes_on : (p o s t : ℕ) → RunsIn d p (Some s) → Activates d p o → own_stage d o ≡ Some t → s ≤ t) where
  own_onward : (p o : ℕ) (from own : Option ℕ) → RunsIn d p from → Activates d p o → own_stage d o ≡ own → level_of_stage from ≤ length (stages d) → Onward d from (option_or own from)
  own_onward p o from None run by is low = (omega arith, low)
  own_onward p o None (Some t) run by is low = let h = own_low d o t is in (omega arith, omega (arith, h))
  own_onward p o (Some s) (Some t) run by is low = let h = own_low d o t is in let g = goes_on p o s t run by is in (omega (arith, g), omega (arith, h))

  main_onward : (o : ℕ) (own : Option ℕ) → own_stage d o ≡ own → Onward d None (option_or own None)
  main_onward o None is = (omega arith, omega arith)
  main_onward o (Some t) is = let h = own_low d o t is in (omega arith, omega (arith, h))

  pub onward_each : (k : ℕ) (x : Occurrence) → slice_get (occurrences d) k ≡ Some x → Onward d x.from x.stage
  onward_each = each_occurrence d (λ k x. Onward d x.from x.stage)
      (λ o is. main_onward o (own_stage d o) refl)
      (λ n m x a low at h is. own_onward x.operation a.operation x.stage (own_stage d a.operation) (runs d n x at) (activates d x.operation a is) refl low.1)

  pub levels_forward : TreesAreOccurrences d → LevelsGoForward d
  levels_forward same =
      all_map (λ node. (node.above ≤ node.level) × (node.level ≤ length (stages d))) (IsOnward (core_of d)) (λ node h. record { ordered = h.0; within = h.1 }) (all_nodes (core_of d))
      (all_nodes_are d (λ l. (l.above ≤ l.level) × (l.level ≤ length (stages d))) same onward_each)

-- ---- what is chosen

module _ (d : DescriptionTree) where
  decoded : (k word : ℕ) (form : Option ℕ) → is_some (option_and_then (λ f. standing d f k) (option_map (numbered_form d) form)) ≡ true → is_some form ≡ true
  decoded k word None e = e
  decoded k word (Some f) e = refl

  pub by_instruction : (k word : ℕ) (x : Occurrence) → slice_get (occurrences d) k ≡ Some x → x.past_root ≡ true → chooses d k word ≡ true → decodes d word ≡ true
  by_instruction k word x is past e = decoded k word (form_with d word) (sym (rw is (rw past refl)) ∙ e)

  pub chosen_decoded : TreesAreOccurrences d → InstructionsChoose d
  chosen_decoded same = all_nodes_are d (λ l. l.past ≡ true → (word : ℕ) → chooses d l.number word ≡ true → decodes d word ≡ true) same (λ k x is past word e. by_instruction k word x is past e)

  -- ---- what is past the root

  pub root_named : (n : List ℕ) (o : ℕ) → names_instructions n (coding_in (sections_at d o)) ≡ true → is_root d o ≡ true
  root_named n o e = by (coding_in (sections_at d o)) refl e
    where
      by : (r : Option CodingTree) → coding_in (sections_at d o) ≡ r → names_instructions n r ≡ true → is_root d o ≡ true
      by None is h = absurd (cc h)
      by (Some (trees.Root place group)) is h = rw is refl
      by (Some (trees.Items all)) is h = absurd (cc h)

  root_starts : (p : ℕ) (y : Occurrence) (a : Activated) → slice_get (occurrences d) p ≡ Some y → IsActivated d y.operation a → a.by_root ≡ true → is_root_at d p ≡ true
  root_starts p y a at is by_root =
      let h = has_name d y.operation is.0 a is.1 in
      ap (λ (r : Option Occurrence). option_map_or (λ (z : Occurrence). is_root d z.operation) r false) at ∙ root_named h.name y.operation (sym h.named.by_root ∙ by_root)

  pub either : (a b c : Bool) → (b ≡ true → c ≡ true) → (a || b) ≡ true → (a || c) ≡ true
  either true b c f e = refl
  either false b c f e = f e

  pub past_inside : PastIsInside d
  past_inside k x is past = by x.parent refl (has_activator d k x is)
    where
      by : (parent : Option ℕ) → x.parent ≡ parent → HasActivator d k x x.parent → (p : ℕ) × (x.parent ≡ Some p) × IsInside d p
      by None e h = let m : IsMain d k x = subst (HasActivator d k x) e h in let off : false ≡ true = sym (ap (λ (z : Occurrence). z.past_root) m.is) ∙ past in absurd (cc off)
      by (Some p) e h =
          let c : IsChild d k x p = subst (HasActivator d k x) e h in
          let inside : (c.activator.past_root || c.by_item.by_root) ≡ true = sym (ap (λ (z : Occurrence). z.past_root) c.is) ∙ past in
          (p, e, (c.activator, c.stands, either c.activator.past_root c.by_item.by_root (is_root_at d p) (root_starts p c.activator c.by_item c.stands c.is_activated) inside))
