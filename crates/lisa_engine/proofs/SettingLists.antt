-- The settings of a line, word by word.
use Rattle.std.proofs.Common.{◌≡◌, ℕ, ◌+◌, ◌<◌, ◌≤◌, List, [], ◌∷◌, ◌++◌, length, drop, get_or, refl, sym, ap, ◌∙◌, append_assoc, Option, Some, None, add-one}
use Rattle.std.specs.Option.{option_map, option_and_then}
use Rattle.std.proofs.Math.Seq.{drop-cons}
use Rattle.std.proofs.Math.ListN.{drop_of_length-le}
use Rattle.std.proofs.lemmas.List.{append-nil}
use Rattle.lisa_engine.specs.Schedules.{setting_of, settings_of}

abbrev pub prepended : List (List ℕ × ℕ) → Option (List (List ℕ × ℕ)) → Option (List (List ℕ × ℕ))
prepended done rest = option_map (λ settings. done ++ settings) rest

opened : (texts : List (List ℕ)) (i : ℕ) (text : List ℕ) → i < length texts → text ≡ get_or texts i [] → settings_of (drop i texts) ≡ settings_of (text ∷ drop (i + 1) texts)
opened texts i text within is =
    let e : drop i texts ≡ get_or texts i [] ∷ drop (i + 1) texts = rw add-one (drop-cons texts i [] within) in
    ap settings_of (e ∙ ap (λ t. t ∷ drop (i + 1) texts) (sym is))

once_more : (done : List (List ℕ × ℕ)) (setting : List ℕ × ℕ) (o : Option (List (List ℕ × ℕ)))
    → prepended done (option_map (λ settings. setting ∷ settings) o) ≡ prepended (done ++ setting ∷ []) o
once_more done setting None = refl
once_more done setting (Some settings) = ap Some (sym (append_assoc done (setting ∷ []) settings))

pub one_read : (texts : List (List ℕ)) (i : ℕ) (text : List ℕ) (done : List (List ℕ × ℕ)) (setting : List ℕ × ℕ) → i < length texts → text ≡ get_or texts i []
    → setting_of text ≡ Some setting → settings_of texts ≡ prepended done (settings_of (drop i texts)) → settings_of texts ≡ prepended (done ++ setting ∷ []) (settings_of (drop (i + 1) texts))
one_read texts i text done setting within is read so_far =
    so_far ∙ ap (prepended done) (opened texts i text within is ∙ ap (option_and_then (λ s. option_map (λ settings. s ∷ settings) (settings_of (drop (i + 1) texts)))) read)
    ∙ once_more done setting (settings_of (drop (i + 1) texts))

pub one_bad : (texts : List (List ℕ)) (i : ℕ) (text : List ℕ) (done : List (List ℕ × ℕ)) → i < length texts → text ≡ get_or texts i []
    → setting_of text ≡ None → settings_of texts ≡ prepended done (settings_of (drop i texts)) → settings_of texts ≡ None
one_bad texts i text done within is bad so_far =
    so_far ∙ ap (prepended done) (opened texts i text within is ∙ ap (option_and_then (λ s. option_map (λ settings. s ∷ settings) (settings_of (drop (i + 1) texts)))) bad)

pub all_read : (texts : List (List ℕ)) (i : ℕ) (done : List (List ℕ × ℕ)) → length texts ≤ i → settings_of texts ≡ prepended done (settings_of (drop i texts)) → Some done ≡ settings_of texts
all_read texts i done end so_far =
    sym (so_far ∙ ap (λ rest. prepended done (settings_of rest)) (drop_of_length-le texts end) ∙ ap Some (append-nil done))
