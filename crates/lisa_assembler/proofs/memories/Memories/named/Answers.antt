use Rattle.std.proofs.Common.{◌≡◌, ◌∙◌, ℕ, List, None, Some, length, option_copied, ap, sym, refl}
use Rattle.std.proofs.lemmas.Option.{slice_get_read}
use Rattle.name_tables.specs.TableViews.{value_of}
use Rattle.lisa_assembler.specs.Places.{place_from}
use Rattle.lisa_assembler.proofs.Finding.{found_at, none_found, place_below, words_at, no_place}
use Rattle.lisa_assembler.proofs.memories.Memories.named.Goals as goal

pub returns-in_err-place-clause-found : goal.returns-in_err-place-clause-found
returns-in_err-place-clause-found c =
    let n : List ℕ = c.args.name.now in
    let told : value_of c.args.self.now.places n ≡ None = sym c.get.ensures.value ∙ ap option_copied c.in_err-place.was in
    let missing : place_from 0 c.args.self.now.all.now n ≡ None = sym (c.args.self.now.placed n) ∙ told in
    ap option_copied c.from_residual.ensures ∙ none_found 0 c.args.self.now.all.now n missing

pub returns-in-Some-clause-found : goal.returns-in-Some-clause-found
returns-in-Some-clause-found c =
    let n : List ℕ = c.args.name.now in
    let all = c.args.self.now.all.now in
    let i : ℕ = c.in_ok-place.field-0.now in
    let told : value_of c.args.self.now.places n ≡ Some i = sym c.get.ensures.value ∙ ap option_copied c.in_ok-place.was in
    let at : place_from 0 all n ≡ Some i = sym (c.args.self.now.placed n) ∙ told in
    sym (slice_get_read all (length all) i c.in-Some.memory.now refl (place_below all n i at) c.in-Some.ensures.lookup.1) ∙ found_at all n i at

pub returns-in-Some-clause-words : goal.returns-in-Some-clause-words
returns-in-Some-clause-words c =
    let n : List ℕ = c.args.name.now in
    let all = c.args.self.now.all.now in
    let i : ℕ = c.in_ok-place.field-0.now in
    let told : value_of c.args.self.now.places n ≡ Some i = sym c.get.ensures.value ∙ ap option_copied c.in_ok-place.was in
    let at : place_from 0 all n ≡ Some i = sym (c.args.self.now.placed n) ∙ told in
    words_at all i c.in-Some.memory.now c.args.self.now.words (slice_get_read all (length all) i c.in-Some.memory.now refl (place_below all n i at) c.in-Some.ensures.lookup.1)

pub returns-in-None-clause-found : goal.returns-in-None-clause-found
returns-in-None-clause-found c =
    let n : List ℕ = c.args.name.now in
    let all = c.args.self.now.all.now in
    let i : ℕ = c.in_ok-place.field-0.now in
    let told : value_of c.args.self.now.places n ≡ Some i = sym c.get.ensures.value ∙ ap option_copied c.in_ok-place.was in
    let at : place_from 0 all n ≡ Some i = sym (c.args.self.now.placed n) ∙ told in
    absurd (no_place all n i at c.in-None.ensures.lookup.0)
