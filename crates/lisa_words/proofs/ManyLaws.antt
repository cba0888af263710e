-- What holds of one item holds of many.
use Rattle.std.proofs.Common.{◌≡◌, ℕ, zero, suc, ◌<◌, Bool, true, false, cond, List, [], ◌∷◌, ◌++◌, length, Option, Some, None, refl, sym, ap, subst, ◌∙◌, append_assoc, arith}
use Rattle.std.proofs.lemmas.Bool.{lt-ltb}
use Rattle.std.proofs.lemmas.List.{append-nil, length-append}
use Rattle.lisa_words.specs.Fix.{guarded}
use Rattle.lisa_words.specs.Steps.{◌>>=◌}
use Rattle.lisa_words.specs.Many.{Each, none, some, Item, next_of, many_step, size, many, with_front}
use Rattle.lisa_words.proofs.Fixed.{fix_is}
use Rattle.lisa_words.proofs.StepLaws.{bind_some, bind_same, some_is}

-- an item leaves less than it is given
abbrev pub Shrinks : {Tok A : Type 0} → Item Tok A → Type 0
Shrinks {Tok} {A} read = (ts : List Tok) (x : A × List Tok) → read ts ≡ Some x → length x.1 < length ts

module _ {Tok A : Type 0} (read : Item Tok A) (stops : List Tok → Bool) (shrinks : Shrinks read) where
  pub many_is : (ts : List Tok) → many read stops ts ≡ many_step read stops (many read stops) ts
  unfolding many
  many_is ts =
      fix_is size None (many_step read stops) ts
      ∙ ap (λ (z : Option (List A × List Tok)). cond (stops ts) (Some ([], ts)) z)
      (bind_same (read ts) (λ a. guarded size None (many read stops) ts a.1 >>= λ all. Some (a.0 ∷ all.0, all.1)) (λ a. many read stops a.1 >>= λ all. Some (a.0 ∷ all.0, all.1)) (λ a e.
      ap (λ (z : Option (List A × List Tok)). z >>= λ all. Some (a.0 ∷ all.0, all.1)) (smaller a.1 (shrinks ts a e))))
    where
      smaller : (rest : List Tok) → length rest < length ts → guarded size None (many read stops) ts rest ≡ many read stops rest
      smaller rest lt = rw (lt-ltb (length rest) (length ts) lt) refl

-- what one item takes
pub record Takes {Tok A : Type 0} (S : List Tok → A → Type 0) (ts : List Tok) (x : A × List Tok) : Type 0 where
  pub front : List Tok
  pub parts : ts ≡ front ++ x.1
  pub some : 0 < length front
  pub spells : S front x.0

pub record TakesAll {Tok A : Type 0} (S : List Tok → A → Type 0) (stops : List Tok → Bool) (ts : List Tok) (x : List A × List Tok) : Type 0 where
  pub front : List Tok
  pub parts : ts ≡ front ++ x.1
  pub spells : Each S front x.0
  pub stopped : stops x.1 ≡ true

pub shrinks_from : {Tok A : Type 0} (S : List Tok → A → Type 0) (read : Item Tok A) → ((ts : List Tok) (x : A × List Tok) → read ts ≡ Some x → Takes S ts x) → Shrinks read
shrinks_from S read sound ts x e = let t = sound ts x e in omega (arith, t.some, length-append t.front x.1, ap length t.parts)

module _ {Tok A : Type 0} (S : List Tok → A → Type 0) (read : Item Tok A) (stops : List Tok → Bool) (sound : (ts : List Tok) (x : A × List Tok) → read ts ≡ Some x → Takes S ts x) where
  sound_by : (k : ℕ) (ts : List Tok) (x : List A × List Tok) → length ts < k → many read stops ts ≡ Some x → TakesAll S stops ts x
  sound_by zero ts x lt e = absurd (omega arith)
  sound_by (suc k) ts x lt e = go (stops ts) refl (sym (many_is read stops (shrinks_from S read sound) ts) ∙ e) (λ rest y le. sound_by k rest y le)
    where
      go : (b : Bool) → stops ts ≡ b → cond b (Some ([], ts)) (next_of read (many read stops) ts) ≡ Some x → ((rest : List Tok) (y : List A × List Tok) → length rest < k → many read stops rest ≡ Some y → TakesAll S stops rest y) → TakesAll S stops ts x
      go true s e rec = subst (λ (y : List A × List Tok). TakesAll S stops ts y) (some_is ([], ts) x e) (record { front = []; parts = refl; spells = none; stopped = s })
      go false s e rec =
          let b = bind_some (read ts) (λ a. many read stops a.1 >>= λ all. Some (a.0 ∷ all.0, all.1)) x e in
          let c = bind_some (many read stops b.0.1) (λ all. Some (b.0.0 ∷ all.0, all.1)) x b.2 in
          let t = sound ts b.0 b.1 in
          let less : length b.0.1 < k = omega (arith, lt, t.some, length-append t.front b.0.1, ap length t.parts) in
          let u = rec b.0.1 c.0 less c.1 in
          let made : List A × List Tok = (b.0.0 ∷ c.0.0, c.0.1) in
          subst (λ (y : List A × List Tok). TakesAll S stops ts y) (some_is made x c.2) (record {
            front = t.front ++ u.front;
            parts = t.parts ∙ ap (λ (l : List Tok). t.front ++ l) u.parts ∙ sym (append_assoc t.front u.front c.0.1);
            spells = some t.spells u.spells refl;
            stopped = u.stopped;
          })

  pub many_sound : (ts : List Tok) (x : List A × List Tok) → many read stops ts ≡ Some x → TakesAll S stops ts x
  many_sound ts x e = sound_by (suc (length ts)) ts x (omega arith) e

-- what is needed of an item for many to be read: what may stand behind one, and that one doesn't stop
pub record IsItem {Tok A : Type 0} (S : List Tok → A → Type 0) (read : Item Tok A) (stops : List Tok → Bool) (After : List Tok → Type 0) : Type 0 where
  pub shrinks : Shrinks read
  pub reads : (xs rest : List Tok) (a : A) → S xs a → After rest → read (xs ++ rest) ≡ Some (a, rest)
  pub goes : (xs rest : List Tok) (a : A) → S xs a → stops (xs ++ rest) ≡ false
  pub before : (xs rest : List Tok) (a : A) → S xs a → After (xs ++ rest)
  pub at_stop : (rest : List Tok) → stops rest ≡ true → After rest

module _ {Tok A : Type 0} {S : List Tok → A → Type 0} {read : Item Tok A} {stops : List Tok → Bool} {After : List Tok → Type 0} (item : IsItem S read stops After) where
  behind : {ts : List Tok} {all : List A} → Each S ts all → (rest : List Tok) → stops rest ≡ true → After (ts ++ rest)
  behind none rest e = item.at_stop rest e
  behind (some {xs = xs} {ys = ys} {a = a} d f is) rest e =
      subst (λ (l : List Tok). After (l ++ rest)) (sym is) (subst After (sym (append_assoc xs ys rest)) (item.before xs (ys ++ rest) a d))

  pub many_complete : {ts : List Tok} {all : List A} → Each S ts all → (rest : List Tok) → stops rest ≡ true → many read stops (ts ++ rest) ≡ Some (all, rest)
  many_complete none rest e = many_is read stops item.shrinks rest ∙ ap (λ (b : Bool). cond b (Some ([], rest)) (next_of read (many read stops) rest)) e
  many_complete (some {xs = xs} {ys = ys} {a = a} {all = all} d f is) rest e =
      let regrouped = ap (λ (l : List Tok). l ++ rest) is ∙ append_assoc xs ys rest in
      ap (many read stops) regrouped ∙ many_is read stops item.shrinks (xs ++ (ys ++ rest))
      ∙ ap (λ (b : Bool). cond b (Some ([], xs ++ (ys ++ rest))) (next_of read (many read stops) (xs ++ (ys ++ rest)))) (item.goes xs (ys ++ rest) a d)
      ∙ ap (λ (z : Option (A × List Tok)). z >>= λ x. many read stops x.1 >>= λ more. Some (x.0 ∷ more.0, more.1)) (item.reads xs (ys ++ rest) a d (behind f rest e))
      ∙ ap (λ (z : Option (List A × List Tok)). z >>= λ more. Some (a ∷ more.0, more.1)) (many_complete f rest e)

  -- tokens spell one list of items, where something that stops may follow
  pub each_same : {ts : List Tok} {all more : List A} → Each S ts all → Each S ts more → (rest : List Tok) → stops rest ≡ true → all ≡ more
  each_same {ts} {all} {more} d f rest e = ap (λ (x : List A × List Tok). x.0) (some_is (all, rest) (more, rest) (sym (many_complete d rest e) ∙ many_complete f rest e))

-- ---- a loop

regroup : {Tok A : Type 0} (front : List A) (a : A) (r : Option (List A × List Tok)) → with_front front (r >>= λ x. Some (a ∷ x.0, x.1)) ≡ with_front (front ++ a ∷ []) r
regroup front a None = refl
regroup front a (Some x) = ap (λ (all : List _). Some (all, x.1)) (sym (append_assoc front (a ∷ []) x.0))

-- In `while !stops(ts) { item; push }`: the items so far and what is still read are the whole.
module _ {Tok A : Type 0} (read : Item Tok A) (stops : List Tok → Bool) (shrinks : Shrinks read) (front : List A) (ts : List Tok) (total : Option (List A × List Tok)) (so_far : with_front front (many read stops ts) ≡ total) where
  next_is : false ≡ stops ts → many read stops ts ≡ next_of read (many read stops) ts
  next_is e = many_is read stops shrinks ts ∙ ap (λ (b : Bool). cond b (Some ([], ts)) (next_of read (many read stops) ts)) (sym e)

  pub goes_on : (a : A) (after : List Tok) → false ≡ stops ts → read ts ≡ Some (a, after) → with_front (front ++ a ∷ []) (many read stops after) ≡ total
  goes_on a after e h =
      sym (regroup front a (many read stops after))
      ∙ ap (λ (z : Option (A × List Tok)). with_front front (z >>= λ x. many read stops x.1 >>= λ all. Some (x.0 ∷ all.0, all.1))) (sym h)
      ∙ ap (with_front front) (sym (next_is e)) ∙ so_far

  -- where no item can be read, none of the whole can
  pub fails_on : false ≡ stops ts → read ts ≡ None → total ≡ None
  fails_on e h =
      sym so_far ∙ ap (with_front front) (next_is e) ∙ ap (λ (z : Option (A × List Tok)). with_front front (z >>= λ x. many read stops x.1 >>= λ all. Some (x.0 ∷ all.0, all.1))) h

  pub is_done : true ≡ stops ts → total ≡ Some (front, ts)
  is_done e =
      let none : many read stops ts ≡ Some ([], ts) = many_is read stops shrinks ts ∙ ap (λ (b : Bool). cond b (Some ([], ts)) (next_of read (many read stops) ts)) (sym e) in
      sym so_far ∙ ap (with_front front) none ∙ ap (λ (all : List A). Some (all, ts)) (append-nil front)
