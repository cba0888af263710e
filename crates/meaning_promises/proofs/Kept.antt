-- What lasts fits after edges.
use Rattle.lisa_tree.specs.Descriptions.{DescriptionTree}
use Rattle.lisa_meaning.specs.Moments.{Contents, Moment}
use Rattle.lisa_meaning.proofs.Stored.{AreStored, IsStored}
use Rattle.meaning_promises.specs.Fitting.{ContentsFit, MomentFits}

module _ (d : DescriptionTree) where
  pub stored : (c : Contents) → ContentsFit d c → AreStored d c
  stored c fit = record { registers = fit.registers; cells = fit.cells; fields = fit.fields }

  pub fitting : (c : Contents) → AreStored d c → ContentsFit d c
  fitting c all = record { registers = all.registers; cells = all.cells; fields = all.fields }

  pub moment_stored : (m : Moment) → MomentFits d m → IsStored d m
  moment_stored m fit = record { memory = stored m.memory fit.memory; outs = fit.outs }

  pub moment_fitting : (m : Moment) → IsStored d m → MomentFits d m
  moment_fitting m all = record { memory = fitting m.memory all.memory; outs = all.outs }
