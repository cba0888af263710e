-- The locals of a run are those of the scope.
use Rattle.std.proofs.Common.{◌≡◌, ◌++◌, ◌∙◌, ℕ, Bool, true, false, cond, suc, List, [], ◌∷◌, length, take, None, Some, refl, sym, ap, subst}
use Rattle.std.specs.Prelude.{if◌then◌else◌}
use Rattle.std.specs.Option.{is_some}
use Rattle.std.specs.Map.{lookup}
use Rattle.lisa_tree.specs.Same.{same_name}
use Rattle.description_places.specs.declared.scopes.Local.{Local}
use Rattle.description_places.specs.Scopes.{Scope, local_named, entered}
use Rattle.typed_values.specs.Words.{TypedWord}
use Rattle.typed_values.specs.Effects.{Locals, local_put}
use Rattle.meaning_promises.specs.Typing.{IsOfType}
use Rattle.meaning_promises.specs.Scoping.{AreLocalsOf}

-- ---- looking up

-- what a name has among the locals: a word of its type, or nothing where no local has the name
pub data Found (n : List ℕ) (scope : Scope) (locals : Locals) : Type 0 where
  none : local_named n scope ≡ None → lookup (same_name n) locals ≡ None → Found n scope locals
  one : (l : Local) (w : TypedWord) → local_named n scope ≡ Some l → lookup (same_name n) locals ≡ Some w → IsOfType l.shape w → Found n scope locals

pub find_local : (n : List ℕ) (scope : Scope) (locals : Locals) → AreLocalsOf scope locals → Found n scope locals
find_local n [] [] are = none refl refl
find_local n [] (x ∷ locals) are = absurd are
find_local n (s ∷ scope) [] are = absurd are
find_local n (s ∷ scope) (x ∷ locals) are = by (same_name n s.0) refl (find_local n scope locals are.2)
  where
    there : same_name n x.0 ≡ same_name n s.0
    there = ap (same_name n) are.0

    by : (b : Bool) → same_name n s.0 ≡ b → Found n scope locals → Found n (s ∷ scope) (x ∷ locals)
    by true e f =
        one s.1 x.1 (ap (λ (b : Bool). cond b (Some s.1) (local_named n scope)) e)
        (ap (λ (b : Bool). cond b (Some x.1) (lookup (same_name n) locals)) (there ∙ e)) are.1
    by false e (none gone away) =
        none (ap (λ (b : Bool). cond b (Some s.1) (local_named n scope)) e ∙ gone)
        (ap (λ (b : Bool). cond b (Some x.1) (lookup (same_name n) locals)) (there ∙ e) ∙ away)
    by false e (one l w is at t) =
        one l w (ap (λ (b : Bool). cond b (Some s.1) (local_named n scope)) e ∙ is)
        (ap (λ (b : Bool). cond b (Some x.1) (lookup (same_name n) locals)) (there ∙ e) ∙ at) t

-- ---- a further one

append_are : (scope : Scope) (locals : Locals) (n : List ℕ) (l : Local) (w : TypedWord) → AreLocalsOf scope locals → IsOfType l.shape w → AreLocalsOf (scope ++ (n, l) ∷ []) (locals ++ (n, w) ∷ [])
append_are [] [] n l w are t = (refl, t, tt)
append_are [] (x ∷ locals) n l w are t = absurd are
append_are (s ∷ scope) [] n l w are t = absurd are
append_are (s ∷ scope) (x ∷ locals) n l w are t = (are.0, are.1, append_are scope locals n l w are.2 t)

put_last : (locals : Locals) (n : List ℕ) (w : TypedWord) → lookup (same_name n) locals ≡ None → local_put locals n w ≡ locals ++ (n, w) ∷ []
put_last [] n w e = refl
put_last (x ∷ locals) n w e = by (same_name n x.0) e (put_last locals n w)
  where
    by : (b : Bool) → cond b (Some x.1) (lookup (same_name n) locals) ≡ None → (lookup (same_name n) locals ≡ None → local_put locals n w ≡ locals ++ (n, w) ∷ [])
        → (if b then (x.0, w) ∷ locals else (x ∷ local_put locals n w)) ≡ (x ∷ locals) ++ (n, w) ∷ []
    by true f more = absurd (cc f)
    by false f more = ap (λ (rest : Locals). x ∷ rest) (more f)

pub further_are : (scope : Scope) (locals : Locals) (n : List ℕ) (l : Local) (w : TypedWord) → local_named n scope ≡ None → AreLocalsOf scope locals → IsOfType l.shape w → AreLocalsOf (entered scope n l) (local_put locals n w)
further_are scope locals n l w fresh are t = by (find_local n scope locals are)
  where
    by : Found n scope locals → AreLocalsOf (entered scope n l) (local_put locals n w)
    by (one k v is at u) = absurd (cc (sym fresh ∙ is))
    by (none gone away) =
        subst (λ (x : Scope). AreLocalsOf x (local_put locals n w)) (sym (ap (λ (b : Bool). cond b scope (scope ++ (n, l) ∷ [])) (ap is_some fresh)))
        (subst (AreLocalsOf (scope ++ (n, l) ∷ [])) (sym (put_last locals n w away)) (append_are scope locals n l w are t))

-- ---- one that is there

-- another word of its type
pub changed_are : (scope : Scope) (locals : Locals) (n : List ℕ) (old w : TypedWord) → lookup (same_name n) locals ≡ Some old → (w.kind ≡ old.kind) × (w.width ≡ old.width) → AreLocalsOf scope locals → AreLocalsOf scope (local_put locals n w)
changed_are [] [] n old w e t are = absurd (cc e)
changed_are [] (x ∷ locals) n old w e t are = absurd are
changed_are (s ∷ scope) [] n old w e t are = absurd are
changed_are (s ∷ scope) (x ∷ locals) n old w e t are = by (same_name n x.0) e (λ f. changed_are scope locals n old w f t are.2)
  where
    by : (b : Bool) → cond b (Some x.1) (lookup (same_name n) locals) ≡ Some old → (lookup (same_name n) locals ≡ Some old → AreLocalsOf scope (local_put locals n w))
        → AreLocalsOf (s ∷ scope) (if b then (x.0, w) ∷ locals else (x ∷ local_put locals n w))
    by true f more =
        let same : x.1 ≡ old = cc f in
        let of = are.1 in
        (are.0, record { kind = t.0 ∙ sym (ap (λ (v : TypedWord). v.kind) same) ∙ of.kind; width = t.1 ∙ sym (ap (λ (v : TypedWord). v.width) same) ∙ of.width }, are.2)
    by false f more = (are.0, are.1, more f)

-- ---- fewer

length_are : (scope : Scope) (locals : Locals) → AreLocalsOf scope locals → length scope ≡ length locals
length_are [] [] are = refl
length_are [] (x ∷ locals) are = absurd are
length_are (s ∷ scope) [] are = absurd are
length_are (s ∷ scope) (x ∷ locals) are = let more = length_are scope locals are.2 in ap (λ (n : ℕ). suc n) more

taken_are : (scope more : Scope) (locals : Locals) → AreLocalsOf (scope ++ more) locals → AreLocalsOf scope (take (length scope) locals)
taken_are [] more locals are = tt
taken_are (s ∷ scope) more [] are = absurd are
taken_are (s ∷ scope) more (x ∷ locals) are = (are.0, are.1, taken_are scope more locals are.2)

pub left_are : (scope wider : Scope) (before locals : Locals) → (more : Scope) × (wider ≡ scope ++ more) → AreLocalsOf scope before → AreLocalsOf wider locals → AreLocalsOf scope (take (length before) locals)
left_are scope wider before locals extends are all =
    subst (λ (n : ℕ). AreLocalsOf scope (take n locals)) (length_are scope before are)
    (taken_are scope extends.0 locals (subst (λ (w : Scope). AreLocalsOf w locals) extends.1 all))
