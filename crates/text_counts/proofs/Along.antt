-- Along alike references the same counts follow.
use Rattle.std.proofs.Common.{◌≡◌, ◌≢◌, ◌<◌, ◌++◌, ℕ, zero, suc, List, [], ◌∷◌, Option, None, Some, cond, nat_eq, length, refl, ap, sym, ◌∙◌, arith, inl, inr, ⊎_elim, ◌⊎◌, subst}
use Rattle.std.specs.List.{slice_get}
use Rattle.std.proofs.lemmas.Bool.{cases_eq, eq-eqb, ne_eqb, cond-true, cond-false}
use Rattle.std.proofs.lemmas.Option.{same_Some}
use Rattle.lisa_tree.specs.Descriptions.{DescriptionTree}
use Rattle.lisa_tree.specs.declared.declared.What.{What}
use Rattle.lisa_tree.specs.declared.declared.What.TheVariants as whats
use Rattle.lisa_tree.specs.Declarations.{what_at}
use Rattle.lisa_tree.specs.Paths.{Node, Operation, Choosing, Declaring, node_at, entry_node}
use Rattle.description_graph.proofs.Nodes.{at_entry}
use Rattle.least_fixed_points.specs.Settles.{Settles, settled}
use Rattle.text_counts.specs.Sums.{Counts}
use Rattle.text_counts.specs.Steps.{Counting, entry_count, node_count_of, follows}
use Rattle.text_counts.specs.Alike.{IsEarlier, IsAlike, AreAlike, reference_along, entry_along, node_along, follows_along}

-- ---- what is found out of each

pub itself : (d : DescriptionTree) (means : ℕ → List ℕ) (i : ℕ) → IsAlike d means i i
itself d means i ne = absurd (ne refl)

pub earlier : (d : DescriptionTree) (means : ℕ → List ℕ) (i j : ℕ) (xs ys : List ℕ) → j < i → what_at d j ≡ Some whats.Reference → xs ≡ means j → ys ≡ means i → xs ≡ ys → IsAlike d means i j
earlier d means i j xs ys h is e f same ne = record { before = h; reference = is; same = sym e ∙ same ∙ f }

get_split : (xs : List ℕ) (y k x : ℕ) → slice_get (xs ++ y ∷ []) k ≡ Some x → (slice_get xs k ≡ Some x) ⊎ ((k ≡ length xs) × (y ≡ x))
get_split [] y zero x e = inr (refl, (cc))
get_split [] y (suc k) x e = absurd cc
get_split (z ∷ xs) y zero x e = inl e
get_split (z ∷ xs) y (suc k) x e = elim (get_split xs y k x e) [ inl h ↦ inl h | inr h ↦ inr (ap suc h.0, h.1) ]

pub none_alike : (d : DescriptionTree) (means : ℕ → List ℕ) (alike : List ℕ) → alike ≡ [] → AreAlike d means alike
none_alike d means alike none i j e = absurd (cc (sym (ap (λ (l : List ℕ). slice_get l i) none) ∙ e))

pub one_alike : (d : DescriptionTree) (means : ℕ → List ℕ) (alike : List ℕ) (n next : ℕ) → length alike ≡ n → AreAlike d means alike → IsAlike d means n next → AreAlike d means (alike ++ next ∷ [])
one_alike d means alike n next len before here i j e = ⊎_elim
    (λ (old : slice_get alike i ≡ Some j). before i j old)
    (λ (new : (i ≡ length alike) × (next ≡ j)). subst (λ (a : ℕ). IsAlike d means a j) (sym (new.0 ∙ len)) (subst (λ (b : ℕ). IsAlike d means n b) new.1 here))
    (get_split alike next i j e)

module _ (d : DescriptionTree) (means : ℕ → List ℕ) (alike : List ℕ) (counting : Counting) where
  -- ---- both rules settle the same

  abbrev One : ℕ → ℕ → Type 0
  One a n = Settles (follows d means counting) a n

  abbrev Other : ℕ → ℕ → Type 0
  Other a n = Settles (follows_along d means alike counting) a n

  -- a table with one entry
  abbrev only : ℕ → ℕ → ℕ → Option ℕ
  only a n b = cond (nat_eq b a) (Some n) None

  only_there : (a n : ℕ) → only a n a ≡ Some n
  only_there a n = cond-true (nat_eq a a) (Some n) None (eq-eqb a a refl)

  only_settles : (a n : ℕ) → Other a n → (b u : ℕ) → only a n b ≡ Some u → Other b u
  only_settles a n s b u e = ⊎_elim
      (λ (same : b ≡ a).
      let value : n ≡ u = same_Some n u (sym (cond-true (nat_eq b a) (Some n) None (eq-eqb b a same)) ∙ e) in
      subst (λ (k : ℕ). Other k u) (sym same) (subst (λ (m : ℕ). Other a m) value s))
      (λ ne. absurd (cc (sym (cond-false (nat_eq b a) (Some n) None (ne_eqb b a ne)) ∙ e)))
      (cases_eq b a)

  one_at : (known : Counts) (a i : ℕ) → node_at d a ≡ Declaring i → what_at d i ≡ Some whats.Reference → follows d means counting known a ≡ counting.of_chosen known (means i)
  one_at known a i at is = ap (node_count_of d means counting known) at ∙ ap (entry_count means counting known i) is

  other_at : (known : Counts) (a i : ℕ) (o : Option ℕ) → node_at d a ≡ Declaring i → what_at d i ≡ Some whats.Reference → slice_get alike i ≡ o → follows_along d means alike counting known a ≡ reference_along d means counting known i o
  other_at known a i o at is g = ap (node_along d means alike counting known) at ∙ ap (entry_along d means alike counting known i) is ∙ ap (reference_along d means counting known i) g

  itself_along : (known : Counts) (i j : ℕ) → j ≡ i → reference_along d means counting known i (Some j) ≡ counting.of_chosen known (means i)
  itself_along known i j same = cond-true (nat_eq j i) _ _ (eq-eqb j i same)

  earlier_along : (known : Counts) (i j : ℕ) → j ≢ i → reference_along d means counting known i (Some j) ≡ known (entry_node d j)
  earlier_along known i j ne = cond-false (nat_eq j i) _ _ (ne_eqb j i ne)

  module _ (are : AreAlike d means alike) where
    alike_settles : (i a n : ℕ) (known : Counts) → node_at d a ≡ Declaring i → what_at d i ≡ Some whats.Reference → ((b u : ℕ) → known b ≡ Some u → Other b u) → counting.of_chosen known (means i) ≡ Some n
        → ((j : ℕ) → IsEarlier d means i j → Other (entry_node d j) n) → (o : Option ℕ) → slice_get alike i ≡ o → Other a n
    alike_settles i a n known at is each e sooner None g = settled known each (other_at known a i None at is g ∙ e)
    alike_settles i a n known at is each e sooner (Some j) g = ⊎_elim
        (λ (same : j ≡ i). settled known each (other_at known a i (Some j) at is g ∙ itself_along known i j same ∙ e))
        (λ (ne : j ≢ i).
        settled (only (entry_node d j) n) (only_settles (entry_node d j) n (sooner j (are i j g ne)))
        (other_at (only (entry_node d j) n) a i (Some j) at is g ∙ earlier_along (only (entry_node d j) n) i j ne ∙ only_there (entry_node d j) n))
        (cases_eq j i)

    reference_settles : (k i a n : ℕ) (known : Counts) → i < k → node_at d a ≡ Declaring i → what_at d i ≡ Some whats.Reference → ((b u : ℕ) → known b ≡ Some u → Other b u) → counting.of_chosen known (means i) ≡ Some n → Other a n
    reference_settles zero i a n known h at is each e = absurd (omega (arith, h))
    reference_settles (suc k) i a n known h at is each e = alike_settles i a n known at is each e
        (λ j x.
        let h' = x.before in
        reference_settles k j (entry_node d j) n known (omega (arith, h, h')) (at_entry d (entry_node d j) j refl) x.reference each (ap (counting.of_chosen known) x.same ∙ e))
        (slice_get alike i) refl

    other_by : (known : Counts) (a n : ℕ) → ((b u : ℕ) → known b ≡ Some u → Other b u) → (x : Node) → node_at d a ≡ x → node_count_of d means counting known x ≡ Some n → Other a n
    other_by known a n each (Operation o) at e = settled known each (ap (node_along d means alike counting known) at ∙ e)
    other_by known a n each (Choosing c) at e = settled known each (ap (node_along d means alike counting known) at ∙ e)
    other_by known a n each (Declaring i) at e = by (what_at d i) refl e
      where
        by : (w : Option What) → what_at d i ≡ w → entry_count means counting known i w ≡ Some n → Other a n
        by None is f = absurd (cc f)
        by (Some (whats.Group c)) is f = absurd (cc f)
        by (Some (whats.Instance c)) is f = absurd (cc f)
        by (Some whats.Label) is f = absurd (cc f)
        by (Some whats.Reference) is f = reference_settles (suc i) i a n known (omega arith) at is each f

    pub to_other : (a n : ℕ) → One a n → Other a n
    to_other a n (settled known each e) = other_by known a n (λ b u k. to_other b u (each b u k)) (node_at d a) refl e

    -- an earlier reference's count is also that of the one that means the same
    moved : (a i b j n : ℕ) → node_at d a ≡ Declaring i → what_at d i ≡ Some whats.Reference → node_at d b ≡ Declaring j → what_at d j ≡ Some whats.Reference → means j ≡ means i → One b n → One a n
    moved a i b j n at is there ref same (settled known each e) = settled known each (one_at known a i at is ∙ ap (counting.of_chosen known) (sym same) ∙ sym (one_at known b j there ref) ∙ e)

    one_by : (known : Counts) (a n : ℕ) → ((b u : ℕ) → known b ≡ Some u → One b u) → (x : Node) → node_at d a ≡ x → node_along d means alike counting known x ≡ Some n → One a n
    one_by known a n each (Operation o) at e = settled known each (ap (node_count_of d means counting known) at ∙ e)
    one_by known a n each (Choosing c) at e = settled known each (ap (node_count_of d means counting known) at ∙ e)
    one_by known a n each (Declaring i) at e = by (what_at d i) refl e
      where
        reference : what_at d i ≡ Some whats.Reference → (o : Option ℕ) → slice_get alike i ≡ o → reference_along d means counting known i o ≡ Some n → One a n
        reference is None g f = settled known each (one_at known a i at is ∙ f)
        reference is (Some j) g f = ⊎_elim
            (λ (same : j ≡ i). settled known each (one_at known a i at is ∙ sym (itself_along known i j same) ∙ f))
            (λ (ne : j ≢ i).
            let x = are i j g ne in
            moved a i (entry_node d j) j n at is (at_entry d (entry_node d j) j refl) x.reference x.same (each (entry_node d j) n (sym (earlier_along known i j ne) ∙ f)))
            (cases_eq j i)

        by : (w : Option What) → what_at d i ≡ w → entry_along d means alike counting known i w ≡ Some n → One a n
        by None is f = absurd (cc f)
        by (Some (whats.Group c)) is f = absurd (cc f)
        by (Some (whats.Instance c)) is f = absurd (cc f)
        by (Some whats.Label) is f = absurd (cc f)
        by (Some whats.Reference) is f = reference is (slice_get alike i) refl f

    pub to_one : (a n : ℕ) → Other a n → One a n
    to_one a n (settled known each e) = one_by known a n (λ b u k. to_one b u (each b u k)) (node_at d a) refl e
