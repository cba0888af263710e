-- Ranks fall from an operation to all that its declared names may choose.
use Rattle.std.proofs.Common.{◌≡◌, ◌<◌, ◌≤◌, ◌∙◌, ℕ, true, [], ◌∷◌, Some, nat_eq, refl, sym, ap, subst, arith, inl, inr}
use Rattle.std.specs.Prelude.{slice_get}
use Rattle.std.proofs.lemmas.Bool.{eq-eqb}
use Rattle.std.proofs.lemmas.Option.{same_Some}
use Rattle.lisa_tree.specs.Descriptions.{DescriptionTree}
use Rattle.lisa_tree.specs.declared.declared.What.TheVariants as whats
use Rattle.lisa_tree.specs.Declarations.{Entry, Choice, choice, entries, choices, alternatives_at}
use Rattle.lisa_tree.specs.Paths.{Operation, Choosing, Declaring, leads}
use Rattle.graph_paths.specs.Paths.{is_in}
use Rattle.meant_declarations.specs.Meant.{MayMean, itself, higher}
use Rattle.lisa_machine.specs.Declaring.{Chooses}
use Rattle.lisa_machine.specs.Ranks.{Ranks}
use Rattle.lisa_machine.proofs.Entries.{entry_chooses}
use Rattle.use_promises.specs.Meant.{ChoosesFrom}
use Rattle.use_promises.proofs.Traits.{means}
use Rattle.scene_promises.specs.Ends.{RunRanks}

module _ (d : DescriptionTree) (r : Ranks d) where
  means_low : {i j : ℕ} → MayMean d i j → r.rank (Declaring j) ≤ r.rank (Declaring i)
  means_low {i = i} {j = j} (itself e is off same) = let t : r.rank (Declaring j) ≡ r.rank (Declaring i) = ap (λ (k : ℕ). r.rank (Declaring k)) (sym same) in omega (arith, t)
  means_low {i = i} {j = j} (higher e p k is what up there more) =
      let below = means_low more in
      let falls = r.falls (Declaring i) (Declaring k) (means d i k p e is what up there) in
      omega (arith, below, falls)

  -- the choice of a declared name is one of its operation
  owned : (i c : ℕ) (e : Entry) → slice_get (entries d) i ≡ Some e → ChoosesFrom e c → leads d (Operation e.operation) (Choosing c) ≡ true
  owned i c e is (inl what) =
      let x : Chooses (choices d) e (whats.Group c) = subst (Chooses (choices d) e) what (entry_chooses d i e is) in
      owner c x.0 x.1 x.2
    where
      owner : (c : ℕ) (x : Choice) → slice_get (choices d) c ≡ Some x → x.operation ≡ e.operation → leads d (Operation e.operation) (Choosing c) ≡ true
      owner c x at own = let same : nat_eq x.operation e.operation ≡ true = eq-eqb x.operation e.operation own in cc (at, same)
  owned i c e is (inr what) =
      let x : Chooses (choices d) e (whats.Instance c) = subst (Chooses (choices d) e) what (entry_chooses d i e is) in
      owner c (choice e.operation (x.0 ∷ [])) x.1 refl
    where
      owner : (c : ℕ) (x : Choice) → slice_get (choices d) c ≡ Some x → x.operation ≡ e.operation → leads d (Operation e.operation) (Choosing c) ≡ true
      owner c x at own = let same : nat_eq x.operation e.operation ≡ true = eq-eqb x.operation e.operation own in cc (at, same)

  chosen : (j c : ℕ) (e : Entry) → slice_get (entries d) j ≡ Some e → ChoosesFrom e c → leads d (Declaring j) (Choosing c) ≡ true
  chosen j c e is (inl what) = let own : nat_eq c c ≡ true = eq-eqb c c refl in cc (is, what, own)
  chosen j c e is (inr what) = let own : nat_eq c c ≡ true = eq-eqb c c refl in cc (is, what, own)

  referred : (i : ℕ) (e : Entry) → slice_get (entries d) i ≡ Some e → e.what ≡ whats.Reference → leads d (Operation e.operation) (Declaring i) ≡ true
  referred i e is what = let own : nat_eq e.operation e.operation ≡ true = eq-eqb e.operation e.operation refl in cc (is, what, own)

  falls : (i j c o : ℕ) (e f : Entry) → slice_get (entries d) i ≡ Some e → MayMean d i j → slice_get (entries d) j ≡ Some f → ChoosesFrom f c → is_in o (alternatives_at d c) ≡ true → r.rank (Operation o) < r.rank (Operation e.operation)
  falls i j c o e f is (itself g there off same) at which listed =
      let one : f ≡ e = same_Some f e (sym at ∙ ap (slice_get (entries d)) (sym same) ∙ is) in
      let first = r.falls (Operation f.operation) (Choosing c) (owned j c f at which) in
      let second = r.falls (Choosing c) (Operation o) listed in
      let all : r.rank (Operation o) < r.rank (Operation f.operation) = omega (arith, first, second) in
      subst (λ (x : Entry). r.rank (Operation o) < r.rank (Operation x.operation)) one all
  falls i j c o e f is (higher g p k there what up next more) at which listed =
      let one : g ≡ e = same_Some g e (sym there ∙ is) in
      let refers : e.what ≡ whats.Reference = ap (λ (x : Entry). x.what) (sym one) ∙ what in
      let first = r.falls (Operation e.operation) (Declaring i) (referred i e is refers) in
      let second = means_low (higher g p k there what up next more) in
      let third = r.falls (Declaring j) (Choosing c) (chosen j c f at which) in
      let fourth = r.falls (Choosing c) (Operation o) listed in
      omega (arith, first, second, third, fourth)

  pub run_ranks : RunRanks d
  run_ranks = record { rank = λ o. r.rank (Operation o); low = λ o. r.low (Operation o); falls = falls }
