-- Each declared name is what its operation finds by it.
use Rattle.std.proofs.Common.{◌≡◌, ◌+◌, ◌&&◌, ℕ, None, Some, false, nat_eq, refl, sym, ap, ◌∙◌}
use Rattle.std.specs.Prelude.{slice_get}
use Rattle.std.specs.Option.{is_some}
use Rattle.std.proofs.lemmas.Bool.{and_from, eq-eqb}
use Rattle.std.specs.Cmp.Lexicographic.{nat_list_eq_equiv}
use Rattle.lisa_tree.specs.Descriptions.{DescriptionTree}
use Rattle.lisa_tree.specs.Same.{same_name}
use Rattle.lisa_tree.specs.Resources.{resource_at}
use Rattle.lisa_tree.specs.Declarations.{Entry, entries, declared_at, entries_before, what_at}
use Rattle.name_checks.specs.Doubled.{duplicate, earlier}
use Rattle.lisa_machine.specs.Freedom.{IsFree}
use Rattle.lisa_machine.proofs.Among.{free_place}
use Rattle.lisa_machine.proofs.Entries.{entry_stands}
use Rattle.lisa_machine.proofs.Decoding.{off_left, off_right, not_doubled, none_of, position_is}

pub record Found (d : DescriptionTree) (i : ℕ) (e : Entry) : Type 0 where
  pub declared : declared_at d e.operation e.name ≡ Some i
  pub no_resource : resource_at d e.name ≡ None

pub entry_found : (d : DescriptionTree) → IsFree (duplicate d) d → (i : ℕ) (e : Entry) → slice_get (entries d) i ≡ Some e → Found d i e
entry_found d free i e is =
    let s = entry_stands d i e is in
    let b = not_doubled _ e.name (free_place (duplicate d) d free _ s.stands) in
    let taken = off_left (is_some (resource_at d e.name)) (earlier (declared_at d e.operation e.name) (entries_before d e.operation + s.number)) b in
    let first = off_right (is_some (resource_at d e.name)) (earlier (declared_at d e.operation e.name) (entries_before d e.operation + s.number)) b in
    let no_earlier : earlier (declared_at d e.operation e.name) i ≡ false = ap (earlier (declared_at d e.operation e.name)) (sym s.sum) ∙ first in
    record {
      declared = position_is (λ (x : Entry). nat_eq x.operation e.operation && same_name e.name x.name) (entries d) i e is
          (and_from (nat_eq e.operation e.operation) (same_name e.name e.name) (eq-eqb e.operation e.operation refl) (nat_list_eq_equiv.refl e.name)) no_earlier;
      no_resource = none_of (resource_at d e.name) taken;
    }

pub what_is : (d : DescriptionTree) (i : ℕ) (e : Entry) → slice_get (entries d) i ≡ Some e → what_at d i ≡ Some e.what
what_is d i e is = cc is
