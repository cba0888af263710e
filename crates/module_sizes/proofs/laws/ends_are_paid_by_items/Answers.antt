use Rattle.std.proofs.Common.{arith, refl}
use Rattle.touch_promises.specs.lisa_meaning.Cores.{core_of}
use Rattle.lowered_edges.specs.Parts.{operations}
use Rattle.lowered_edges.specs.lowered_resources.Places.{Flush}
use Rattle.lowered_edges.specs.lowered_layouts.Items.{places_of}
use Rattle.module_sizes.proofs.Operands.{temp_low}
use Rattle.module_sizes.proofs.Ends.{ends_cost}
use Rattle.module_sizes.proofs.laws.ends_are_paid_by_items.Goals as goal

pub returns : goal.returns
returns c p most rates d types width layout level longest = ends_cost p most longest rates (core_of d) (operations d types width) layout (λ n. refl) (λ n. (let h = temp_low p most ((places_of d).temp (Flush n)) in omega (arith, h))) level
