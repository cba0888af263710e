-- Texts in parts.
use Rattle.std.proofs.Common.{◌≡◌, ℕ, zero, suc, ◌+◌, ◌-◌, ◌<◌, ◌≤◌, List, [], ◌∷◌, ◌++◌, length, map, take, drop, get_or, Option, refl, sym, ap, ap₂, ◌∙◌, subst, arith, drop-cons, add-one}
use Rattle.std.specs.Global.{Vec}
use Rattle.std.specs.List.{All}
use Rattle.std.proofs.lemmas.List.{get_or-map, length-map}
use Rattle.instruction_texts.specs.declared.shapes.Shape.{Shape}
use Rattle.instruction_texts.specs.declared.shapes.Shape.TheVariants.{Other, Literal, Unsigned, Signed}
use Rattle.instruction_texts.specs.declared.shapes.Token.{Token}
use Rattle.instruction_texts.specs.Shapes.{IsSized, IsText}
use Rattle.instruction_texts.specs.Written.{text_bytes}
use Rattle.instruction_texts.specs.Starts.{Beginning, first_start, negative_start}
use Rattle.text_tables.specs.Beginnings.{with_if, numbers_of, same, same_negative, Enters}
use Rattle.text_tables.specs.declared.beginnings.Beginnings.{Beginnings}
use Rattle.text_tables.specs.Parts.{part_pieces, text_pieces, all_pieces}
use Rattle.text_tables.specs.Shared.{shapes_at}
use Rattle.text_tables.specs.declared.texts.Part.{Part}
use Rattle.text_tables.specs.declared.texts.Texts.{Texts}
use Rattle.text_tables.specs.Openings.{Share}
use Rattle.text_tables.proofs.Opened.{rest_is}

-- the pieces of a text of a number, as a vector of parts
abbrev pub pieces_in : Texts → Vec Part → List Shape
pieces_in t v = text_pieces t.shared.items v.items

pub text_is : (t : Texts) (k : ℕ) (v : Vec Part) → k < length t.texts.items → v ≡ get_or t.texts.items k v → pieces_in t v ≡ shapes_at (all_pieces t) k
text_is t k v inside is = ap (pieces_in t) is ∙ sym (get_or-map (pieces_in t) t.texts.items k v [] inside)

pub texts_count : (t : Texts) → length (all_pieces t) ≡ length t.texts.items
texts_count t = length-map t.texts.items (pieces_in t)

pub shared_is : (shared : List (Vec Shape)) (k : ℕ) (v : Vec Shape) → k < length shared → v ≡ get_or shared k v → v.items ≡ shapes_at (map (λ (w : Vec Shape). w.items) shared) k
shared_is shared k v inside is = ap (λ (w : Vec Shape). w.items) is ∙ sym (get_or-map (λ (w : Vec Shape). w.items) shared k v [] inside)

pub shared_past : (shared : List (Vec Shape)) (k : ℕ) → length shared ≤ k → [] ≡ shapes_at (map (λ (w : Vec Shape). w.items) shared) k
shared_past [] k h = refl
shared_past (v ∷ shared) zero h = absurd (omega arith)
shared_past (v ∷ shared) (suc k) h = shared_past shared k (omega arith)

pub text_of_parts : (t : Texts) (k : ℕ) (v : Vec Part) (shared : List (Vec Shape)) (parts : List Part) → k < length t.texts.items → v ≡ get_or t.texts.items k v → shared ≡ t.shared.items → parts ≡ v.items
    → text_pieces shared parts ≡ shapes_at (all_pieces t) k
text_of_parts t k v shared parts inside is lists own = ap₂ text_pieces lists own ∙ text_is t k v inside is

pub sized_text : (t : Texts) (k : ℕ) (v : Vec Part) (shared : List (Vec Shape)) (parts : List Part) → All (All IsSized) (all_pieces t) → k < length t.texts.items → v ≡ get_or t.texts.items k v → shared ≡ t.shared.items → parts ≡ v.items
    → All IsSized (text_pieces shared parts)
sized_text t k v shared parts sized inside is lists own =
    subst (All IsSized) (sym (text_of_parts t k v shared parts inside is lists own)) (sized k [] (omega (arith, inside, texts_count t)))

-- ---- two texts

pub as_found : (ss ss' us us' : List Shape) (bytes : List ℕ) → ss ≡ ss' → us ≡ us' → (ts : List Token) × IsText ss ts × IsText us ts × (bytes ≡ text_bytes ts)
    → (ts : List Token) × IsText ss' ts × IsText us' ts × (bytes ≡ text_bytes ts)
as_found ss ss' us us' bytes e f h = (h.0, subst (λ (x : List Shape). IsText x h.0) e h.1, subst (λ (x : List Shape). IsText x h.0) f h.2, h.3)

pub as_none : (ss ss' us us' : List Shape) → ss ≡ ss' → us ≡ us' → ((ts : List Token) → IsText ss ts → IsText us ts → ⊥) → (ts : List Token) → IsText ss' ts → IsText us' ts → ⊥
as_none ss ss' us us' e f h ts t u = h ts (subst (λ (x : List Shape). IsText x ts) (sym e) t) (subst (λ (x : List Shape). IsText x ts) (sym f) u)

-- ---- how texts begin

pub enters_same : (ss us : List Shape) (k : ℕ) (old new : Beginnings) → first_start ss ≡ first_start us → negative_start ss ≡ negative_start us → Enters ss k old new → Enters us k old new
enters_same ss us k old new f n e b =
    e b
    ∙ ap (λ (x : Option Beginning). with_if (same_negative x b) k (with_if (same (first_start ss) b) k (numbers_of old b))) n
    ∙ ap (λ (x : Option Beginning). with_if (same_negative (negative_start us) b) k (with_if (same x b) k (numbers_of old b))) f

pub begins_first : (ss us : List Shape) → 0 < length ss → first_start ss ≡ first_start (ss ++ us)
begins_first [] us h = absurd (omega arith)
begins_first (Other c ∷ ss) us h = refl
begins_first (Literal p ∷ ss) us h = refl
begins_first (Unsigned hex p n ∷ ss) us h = refl
begins_first (Signed p n ∷ ss) us h = refl

pub begins_negative : (ss us : List Shape) → 0 < length ss → negative_start ss ≡ negative_start (ss ++ us)
begins_negative [] us h = absurd (omega arith)
begins_negative (Other c ∷ ss) us h = refl
begins_negative (Literal p ∷ ss) us h = refl
begins_negative (Unsigned hex p n ∷ ss) us h = refl
begins_negative (Signed p n ∷ ss) us h = refl

-- a part without pieces is passed over
pub part_passed : (shared : List (Vec Shape)) (parts : List Part) (i : ℕ) (part : Part) → i < length parts → part ≡ get_or parts i part → part_pieces shared part ≡ []
    → text_pieces shared (drop i parts) ≡ text_pieces shared (drop (i + 1) parts)
part_passed shared parts i part h is none =
    ap (text_pieces shared) (drop-cons parts i part h ∙ ap (λ (n : ℕ). get_or parts i part ∷ drop n parts) (sym (add-one i)))
    ∙ ap (λ (ss : List Shape). ss ++ text_pieces shared (drop (i + 1) parts)) (ap (part_pieces shared) (sym is) ∙ none)

pub part_first : (shared : List (Vec Shape)) (parts : List Part) (i : ℕ) (part : Part) → i < length parts → part ≡ get_or parts i part
    → text_pieces shared (drop i parts) ≡ part_pieces shared part ++ text_pieces shared (drop (i + 1) parts)
part_first shared parts i part h is =
    ap (text_pieces shared) (drop-cons parts i part h ∙ ap (λ (n : ℕ). get_or parts i part ∷ drop n parts) (sym (add-one i)))
    ∙ ap (λ (ss : List Shape). ss ++ text_pieces shared (drop (i + 1) parts)) (ap (part_pieces shared) (sym is))

-- ---- parts at the front of two texts

-- the parts from the n-th on, as a slice gives them
abbrev pub rest_of : ℕ → List Part → List Part
rest_of n parts = take (length parts - n) (drop n parts)

pub rest_pieces : (shared : List (Vec Shape)) (n : ℕ) (first second : List Part) → Share (text_pieces shared (drop n first)) (text_pieces shared (drop n second))
    → Share (text_pieces shared (rest_of n first)) (text_pieces shared (rest_of n second))
rest_pieces shared n first second h =
    subst (λ (ps : List Part). Share (text_pieces shared ps) (text_pieces shared (rest_of n second))) (sym (rest_is n first))
    (subst (λ (ps : List Part). Share (text_pieces shared (drop n first)) (text_pieces shared ps)) (sym (rest_is n second)) h)

-- one part more
pub share_parts : (shared : List (Vec Shape)) (first second : List Part) (i : ℕ) (one other : Part) → i < length first → i < length second → one ≡ get_or first i one → other ≡ get_or second i other
    → Share (text_pieces shared (drop i first)) (text_pieces shared (drop i second))
    → Share (part_pieces shared one ++ text_pieces shared (drop (i + 1) first)) (part_pieces shared other ++ text_pieces shared (drop (i + 1) second))
share_parts shared first second i one other p q is are h =
    subst (λ (ss : List Shape). Share ss (part_pieces shared other ++ text_pieces shared (drop (i + 1) second))) (part_first shared first i one p is)
    (subst (λ (us : List Shape). Share (text_pieces shared (drop i first)) us) (part_first shared second i other q are) h)
