use Rattle.std.proofs.Common.{refl}
use Rattle.lisa_tree.specs.Descriptions as trees
use Rattle.lisa_tree.specs.Operations.{sections_at}
use Rattle.spelled_promises.proofs.Outer.{well_formed}
use Rattle.spelled_promises.proofs.Found.{sections_formed, coding_formed}
use Rattle.spelled_meanings.proofs.Numbers.{word_place}
use Rattle.spelled_meanings.proofs.laws.spelled_roots_have_places.Goals as goal

pub returns : goal.returns
returns c = λ bytes d s o place group is.
    word_place (trees.Root place group) (coding_formed (sections_at d o) (trees.Root place group) (sections_formed d (well_formed bytes d s) o) is) place group refl
