-- Levels that are noted.
use Rattle.std.proofs.Common.{◌≡◌, ℕ, ◌<◌, ◌≤◌, ◌||◌, Bool, true, false, List, [], ◌∷◌, ◌++◌, length, get_or, set, nat_eq, ap, sym, ◌∙◌, subst, arith, cond, ⊎_elim}
use Rattle.std.specs.Prelude.{replicate, reverse}
use Rattle.std.proofs.lemmas.Bool.{cases_lt}
use Rattle.std.proofs.lemmas.List.{get_or_past, reverse-append, length-replicate, length-reverse, length-set}
use Rattle.graph_paths.specs.Paths.{is_in}
use Rattle.lisa_meaning.specs.Moments.{noted}
use Rattle.moment_stores.specs.Levels.{AreNoted}
use Rattle.moment_stores.proofs.Marks.{unmarked-le, unmarked-set, none_at, row_marked}

-- no level is noted
pub none_noted : (count room : ℕ) → count ≤ room → AreNoted [] (replicate count false) room
none_noted count room fits = record {
  marked = λ level. none_at count level;
  left = omega (arith, unmarked-le (replicate count false), length-replicate count false);
  most = omega (arith, length-replicate count false);
}

-- a new one
pub more_noted : (levels : List ℕ) (marks : List Bool) (room level : ℕ) → AreNoted levels marks room → level < length marks → get_or marks level false ≡ false → AreNoted (level ∷ levels) (set marks level true) room
more_noted levels marks room level sound within free = record {
  marked = λ k. row_marked marks level k within ∙ ap (λ (b : Bool). nat_eq k level || b) (sound.marked k);
  left = omega (arith, unmarked-set marks level within free, sound.left);
  most = omega (arith, length-set marks level true, sound.most);
}

pub last_reversed : (levels : List ℕ) (level : ℕ) → reverse (levels ++ level ∷ []) ≡ level ∷ reverse levels
last_reversed levels level = reverse-append levels (level ∷ [])

pub noted_new : (levels : List ℕ) (level : ℕ) → is_in level levels ≡ false → level ∷ levels ≡ noted level levels
noted_new levels level free = sym (ap (λ (b : Bool). cond b levels (level ∷ levels)) free)

pub noted_old : (levels : List ℕ) (level : ℕ) → is_in level levels ≡ true → levels ≡ noted level levels
noted_old levels level told = sym (ap (λ (b : Bool). cond b levels (level ∷ levels)) told)

-- ---- by equations

pub none_at_first : (noted : List ℕ) (marks : List Bool) (room count : ℕ) → noted ≡ [] → marks ≡ replicate count false → count ≤ room → AreNoted (reverse noted) marks room
none_at_first noted marks room count none bare fits =
    subst (λ (levels : List ℕ). AreNoted (reverse levels) marks room) (sym none) (subst (λ (all : List Bool). AreNoted [] all room) (sym bare) (none_noted count room fits))

pub one_more : (levels new : List ℕ) (marks marked : List Bool) (room level : ℕ) → AreNoted (reverse levels) marks room → level < length marks → get_or marks level false ≡ false
    → new ≡ levels ++ level ∷ [] → marked ≡ set marks level true → AreNoted (reverse new) marked room
one_more levels new marks marked room level sound within free is put =
    subst (λ (all : List ℕ). AreNoted all marked room) (sym (ap reverse is ∙ last_reversed levels level))
    (subst (λ (all : List Bool). AreNoted (level ∷ reverse levels) all room) (sym put) (more_noted (reverse levels) marks room level sound within free))

pub room_left : (levels : List ℕ) (marks : List Bool) (room level : ℕ) → AreNoted (reverse levels) marks room → level < length marks → get_or marks level false ≡ false → length levels < room
room_left levels marks room level sound within free = omega (arith, sound.left, unmarked-set marks level within free, length-reverse levels)

pub noted_more : (levels new : List ℕ) (marks : List Bool) (room level : ℕ) → AreNoted (reverse levels) marks room → get_or marks level false ≡ false → new ≡ levels ++ level ∷ [] → reverse new ≡ noted level (reverse levels)
noted_more levels new marks room level sound free is = ap reverse is ∙ last_reversed levels level ∙ noted_new (reverse levels) level (sym (sound.marked level) ∙ free)

pub noted_same : (levels : List ℕ) (marks : List Bool) (room level : ℕ) → AreNoted (reverse levels) marks room → get_or marks level false ≡ true → reverse levels ≡ noted level (reverse levels)
noted_same levels marks room level sound told = noted_old (reverse levels) level (sym (sound.marked level) ∙ told)

pub none_left : (noted : List ℕ) (old marks : List Bool) (levels : List ℕ) (room : ℕ) → AreNoted levels old room → noted ≡ [] → length marks ≡ length old → ((k : ℕ) → k < length marks → get_or marks k false ≡ false) → AreNoted (reverse noted) marks room
none_left noted old marks levels room sound none same bare =
    subst (λ (all : List ℕ). AreNoted (reverse all) marks room) (sym none) (record {
      marked = λ k. ⊎_elim (λ less. bare k less) (λ past. get_or_past marks k false past) (cases_lt k (length marks));
      left = omega (arith, unmarked-le marks, same, sound.most);
      most = omega (arith, same, sound.most);
    })
