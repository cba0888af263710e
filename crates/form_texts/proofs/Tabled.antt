-- Strings that are kept, one after the other.
use Rattle.std.proofs.Common.{◌≡◌, ◌<◌, ◌≤◌, ◌+◌, ◌++◌, ◌⊎◌, ℕ, zero, suc, List, [], ◌∷◌, None, Some, length, get_or, map, refl, sym, ap, ◌∙◌, subst, arith, inl, inr, ⊎_elim, append_assoc, append-nil}
use Rattle.std.specs.Global.{Vec}
use Rattle.std.proofs.lemmas.List.{get_or_append_left, get_or-append-add, length-append, length-map, map-append}
use Rattle.std.proofs.lemmas.Option.{same_Some, slice_get_within}
use Rattle.instruction_texts.specs.declared.shapes.Shape.{Shape}
use Rattle.text_tables.specs.Shared.{shapes_at}
use Rattle.form_texts.specs.Pieces.{dotted}
use Rattle.form_texts.specs.Segments.{IsLonger}
use Rattle.form_texts.specs.Strings.{strings_at, IsOpened, AreOpened}
use Rattle.form_texts.specs.declared.strings.Strings.{Strings}
use Rattle.form_texts.specs.declared.strings.StringTable.{StringTable}

pub kept_past : (all : List Strings) (k : ℕ) → length all ≤ k → None ≡ strings_at all k
kept_past [] k h = refl
kept_past (x ∷ all) zero h = absurd (omega arith)
kept_past (x ∷ all) (suc k) h = kept_past all k (omega arith)

kept_inside : (all : List Strings) (k : ℕ) (x : Strings) → k < length all → x ≡ get_or all k x → Some x ≡ strings_at all k
kept_inside [] k x h e = absurd (omega arith)
kept_inside (y ∷ all) zero x h e = ap (λ (z : Strings). Some z) e
kept_inside (y ∷ all) (suc k) x h e = kept_inside all k x (omega arith) e

pub kept_at : (all : List Strings) (n k : ℕ) (x : Strings) → n ≡ length all → k < n → x ≡ get_or all k x → Some x ≡ strings_at all k
kept_at all n k x l h e = kept_inside all k x (omega (arith, l, h)) e

-- ---- the last of some

pub last_at : (all more : List Strings) (s : Strings) → strings_at (all ++ s ∷ more) (length all) ≡ Some s
last_at [] more s = refl
last_at (x ∷ all) more s = last_at all more s

one_of : (all : List Strings) (s : Strings) (k : ℕ) (x : Strings) → strings_at (all ++ s ∷ []) k ≡ Some x → (strings_at all k ≡ Some x) ⊎ ((k ≡ length all) × (s ≡ x))
one_of [] s zero x e = inr (refl, same_Some s x e)
one_of [] s (suc k) x e = absurd (cc e)
one_of (y ∷ all) s zero x e = inl e
one_of (y ∷ all) s (suc k) x e = elim (one_of all s k x e) [ inl h ↦ inl h | inr h ↦ inr (ap suc h.0, h.1) ]

-- ---- longer tables

pub no_longer : (all : List Strings) → IsLonger all all
no_longer all = ([], sym (append-nil all))

pub longer_still : (all longer longest : List Strings) → IsLonger all longer → IsLonger longer longest → IsLonger all longest
longer_still all longer longest one other =
    (one.0 ++ other.0, other.1 ∙ ap (λ (l : List Strings). l ++ other.0) one.1 ∙ append_assoc all one.0 other.0)

-- ---- one more

abbrev lists_of : StringTable → List (List Shape)
lists_of t = map (λ (v : Vec Shape). v.items) t.shared.items

pub none_opened : (t : StringTable) → t.strings.items ≡ [] → t.shared.items ≡ [] → AreOpened t
none_opened t strings shared =
    let none : (k : ℕ) (s : Strings) → strings_at t.strings.items k ≡ Some s → ⊥ = λ k s e. cc (sym (ap (λ (l : List Strings). strings_at l k) strings) ∙ e) in
    record {
      count = ap length shared ∙ sym (ap length strings);
      opened = λ k s e. absurd (none k s e);
      front = λ k s e. absurd (none k s e);
    }

module _ (old new : StringTable) (s : Strings) (v : Vec Shape) (strings : new.strings.items ≡ old.strings.items ++ s ∷ []) (shared : new.shared.items ≡ old.shared.items ++ v ∷ []) (are : AreOpened old) where
  lists : lists_of new ≡ lists_of old ++ v.items ∷ []
  lists = ap (map (λ (v : Vec Shape). v.items)) shared ∙ map-append (λ (v : Vec Shape). v.items) old.shared.items (v ∷ [])

  counted : length (lists_of old) ≡ length old.strings.items
  counted = length-map old.shared.items (λ (v : Vec Shape). v.items) ∙ are.count

  list_before : (k : ℕ) → k < length old.strings.items → shapes_at (lists_of old) k ≡ shapes_at (lists_of new) k
  list_before k less = sym (ap (λ (l : List (List Shape)). shapes_at l k) lists ∙ get_or_append_left (lists_of old) (v.items ∷ []) [] k (let c = counted in omega (arith, less, c)))

  list_last : (k : ℕ) → k ≡ length old.strings.items → v.items ≡ shapes_at (lists_of new) k
  list_last k is =
      let at : k ≡ length (lists_of old) + 0 = (let c = counted in omega (arith, is, c)) in
      sym (ap (λ (l : List (List Shape)). shapes_at l k) lists ∙ ap (shapes_at (lists_of old ++ v.items ∷ [])) at ∙ get_or-append-add (lists_of old) (v.items ∷ []) 0 [])

  found : (k : ℕ) (x : Strings) → strings_at new.strings.items k ≡ Some x → (strings_at old.strings.items k ≡ Some x) ⊎ ((k ≡ length old.strings.items) × (s ≡ x))
  found k x e = one_of old.strings.items s k x (sym (ap (λ (l : List Strings). strings_at l k) strings) ∙ e)

  pub more_opened : IsOpened s v.items → s.head < length s.text.items → AreOpened new
  more_opened opened front = record {
    count = ap length shared ∙ length-append old.shared.items (v ∷ []) ∙ ap (λ (n : ℕ). n + 1) are.count ∙ sym (ap length strings ∙ length-append old.strings.items (s ∷ []));
    opened = λ k x e. ⊎_elim
        (λ (before : strings_at old.strings.items k ≡ Some x). subst (IsOpened x) (list_before k (slice_get_within old.strings.items k x before)) (are.opened k x before))
        (λ (last : (k ≡ length old.strings.items) × (s ≡ x)). subst (IsOpened x) (list_last k last.0) (subst (λ (y : Strings). IsOpened y v.items) last.1 opened))
        (found k x e);
    front = λ k x e. ⊎_elim
        (λ (before : strings_at old.strings.items k ≡ Some x). are.front k x before)
        (λ (last : (k ≡ length old.strings.items) × (s ≡ x)). subst (λ (y : Strings). y.head < length y.text.items) last.1 front)
        (found k x e);
  }

-- ---- the first run of strings

-- which was found out when they were kept
pub kept_dotted : (t : StringTable) → AreOpened t → (k : ℕ) (s : Strings) → strings_at t.strings.items k ≡ Some s → s.dotted ≡ dotted (shapes_at (lists_of t) k)
kept_dotted t are k s at = sym (are.opened k s at).dots

shapes_past : (all : List (List Shape)) (k : ℕ) → length all ≤ k → shapes_at all k ≡ []
shapes_past [] k h = refl
shapes_past (x ∷ all) zero h = absurd (omega (arith, h))
shapes_past (x ∷ all) (suc k) h = shapes_past all k (omega (arith, h))

strings_past : (all : List Strings) (k : ℕ) → strings_at all k ≡ None → length all ≤ k
strings_past [] k e = omega arith
strings_past (x ∷ all) zero e = absurd (cc e)
strings_past (x ∷ all) (suc k) e = let h = strings_past all k e in omega (arith, h)

-- where there are no strings there are no pieces
pub none_dotted : (t : StringTable) → AreOpened t → (k : ℕ) → strings_at t.strings.items k ≡ None → None ≡ dotted (shapes_at (lists_of t) k)
none_dotted t are k none =
    let long = strings_past t.strings.items k none in
    let counts = length-map t.shared.items (λ (v : Vec Shape). v.items) ∙ are.count in
    sym (ap dotted (shapes_past (lists_of t) k (omega (arith, long, counts))))
