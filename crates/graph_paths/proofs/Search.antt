-- A search keeps `Going`, and ends with exactly what is reached.
use Rattle.std.proofs.Common.{◌≡◌, ℕ, zero, suc, ◌<◌, List, [], ◌∷◌, ◌++◌, Bool, true, false, ◌||◌, ◌&&◌, not, nat_eq, length, get_or, refl, ap, sym, ◌∙◌, arith, replicate, inl, inr, subst}
use Rattle.std.proofs.Math.ListN.{length-replicate}
use Rattle.std.specs.Global.{Vec}
use Rattle.std.proofs.lemmas.Bool.{cases_Bool, eq-eqb, eqb-true, or_cases}
use Rattle.graph_paths.specs.Paths.{targets, is_in, Leads, Reaches, edge, more, saw}
use Rattle.graph_paths.specs.Going.{Going}
use Rattle.graph_paths.proofs.Seen.{in-push}

pub targets_at : (next : List (Vec ℕ)) (a : ℕ) (d : Vec ℕ) → a < length next → d ≡ get_or next a d → d.items ≡ targets next a
targets_at [] a d h e = absurd (omega arith)
targets_at (v ∷ next) zero d h e = ap (λ (w : Vec ℕ). w.items) e
targets_at (v ∷ next) (suc a) d h e = targets_at next a d (omega arith) e

saw_none : (n b : ℕ) → saw (replicate n false) b ≡ false
saw_none zero b = refl
saw_none (suc n) zero = refl
saw_none (suc n) (suc b) = saw_none n b

pub saw_below : (seen : List Bool) (b : ℕ) → saw seen b ≡ true → b < length seen
saw_below [] b h = absurd (cc h)
saw_below (s ∷ seen) zero h = omega arith
saw_below (s ∷ seen) (suc b) h = let l = saw_below seen b h in omega arith

module _ (next : List (Vec ℕ)) (start : ℕ) where
  pub begins : (seen seen' : List Bool) (work work' : List ℕ) → seen ≡ replicate (length next) false → work ≡ [] → length seen' ≡ length seen
      → ((b : ℕ) → saw seen' b ≡ (saw seen b || is_in b (targets next start)))
      → ((b : ℕ) → is_in b work' ≡ (is_in b work || (is_in b (targets next start) && not (saw seen b))))
      → Going next start seen' work'
  begins seen seen' work work' none empty len s w =
      let z : (b : ℕ) → saw seen b ≡ false = λ b. ap (λ (l : List Bool). saw l b) none ∙ saw_none (length next) b in
      let y : (b : ℕ) → is_in b work ≡ false = λ b. ap (is_in b) empty in
      record {
        len = len ∙ ap length none ∙ length-replicate (length next) false;
        sound = λ b h. edge (grind (arith, s b, z b));
        works = λ b h. grind (arith, s b, w b, z b);
        starts = λ c h. grind (arith, s c);
        closed = λ b c h out e. absurd (grind (arith, s b, w b, z b, y b));
      }

  pub goes : (seen seen' : List Bool) (work front work' : List ℕ) (node : ℕ) → Going next start seen work → work ≡ front ++ node ∷ [] → length seen' ≡ length seen
      → ((b : ℕ) → saw seen' b ≡ (saw seen b || is_in b (targets next node)))
      → ((b : ℕ) → is_in b work' ≡ (is_in b front || (is_in b (targets next node) && not (saw seen b))))
      → Going next start seen' work'
  goes seen seen' work front work' node g split len s w =
      let here : (b : ℕ) → is_in b work ≡ (is_in b front || nat_eq b node) = λ b. ap (is_in b) split ∙ in-push b front node in
      let self : nat_eq node node ≡ true = eq-eqb node node refl in
      let was : saw seen node ≡ true = g.works node (grind (arith, here node)) in
      record {
        len = len ∙ g.len;
        sound = λ b h. elim (or_cases (saw seen b) (is_in b (targets next node)) (sym (s b) ∙ h)) [ inl old ↦ g.sound b old | inr new ↦ more (g.sound node was) new ];
        works = λ b h. grind (arith, s b, w b, here b, g.works b);
        starts = λ c h. let old = g.starts c h in grind (arith, s c);
        closed = λ b c h out e. at b c h out e g.closed (here b);
      }
    where
      at : (b c : ℕ) → saw seen' b ≡ true → is_in b work' ≡ false → Leads next b c → ((b c : ℕ) → saw seen b ≡ true → is_in b work ≡ false → Leads next b c → saw seen c ≡ true) → is_in b work ≡ (is_in b front || nat_eq b node) → saw seen' c ≡ true
      at b c h out e closed here =
          elim (cases_Bool (nat_eq b node)) [
            | inl same ↦ (let in_row : is_in c (targets next node) ≡ true = subst (λ (k : ℕ). Leads next k c) (eqb-true b node same) e in grind (arith, s c))
            | inr other ↦ (let old : saw seen c ≡ true = closed b c (grind (arith, s b, w b)) (grind (arith, s b, w b)) e in grind (arith, s c))
          ]

  pub ends : (seen : List Bool) (work : List ℕ) → Going next start seen work → length work ≡ 0 → (b : ℕ) → Reaches next start b → saw seen b ≡ true
  ends seen work g none b (edge e) = g.starts b e
  ends seen work g none b (more {b = m} r e) = g.closed m b (ends seen work g none m r) (empty work none m) e
    where
      empty : (work : List ℕ) → length work ≡ 0 → (m : ℕ) → is_in m work ≡ false
      empty [] h m = refl
      empty (x ∷ work) h m = absurd (omega arith)

pub popped : (work front : List ℕ) (node : ℕ) → work ≡ front ++ node ∷ [] → is_in node work ≡ true
popped work front node split = let self : nat_eq node node ≡ true = eq-eqb node node refl in grind (arith, ap (is_in node) split, in-push node front node)
