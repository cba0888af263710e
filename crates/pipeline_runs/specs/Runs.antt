-- What an edge has in memory, and what its items ask of it.
use Rattle.std.specs.Prelude.{ℕ, ◌<◌, ◌≡◌, Bool, Option}
use Rattle.pipeline_time.specs.Acts.{Acts, Done, Act, When, Node}
use Rattle.pipeline_time.specs.Cores.{Core, above_of}
use Rattle.pipeline_time.specs.Running.{Running}
use Rattle.lisa_activation.specs.declared.kept.Queues.{Queues}
use Rattle.lisa_activation.specs.Queued.{count}
use Rattle.lisa_activation.specs.Shown.{Hold, AreQueuesOf}
use Rattle.pipeline_runs.specs.declared.tree.Tree.{Tree}
use Rattle.pipeline_runs.specs.declared.tree.Tree.TheVariants.{Nothing, Item', If'}
use Rattle.pipeline_runs.specs.declared.tree.Occurrence.{Occurrence}

-- the items that a tree stands for
abbrev pub acts_of : Tree → Acts
acts_of Nothing = Done
acts_of (Item' number level past p own q rest) = Act number level past (acts_of own) (acts_of rest)
acts_of (If' number test p taken q other r rest) = When number test (acts_of taken) (acts_of other) (acts_of rest)

-- the occurrence that one in memory stands for
abbrev pub node_of : Occurrence → Node
node_of o = record { number = o.number; above = o.above; level = o.level; past = o.past; own = acts_of o.own }

-- what memory and queues show of how far an edge has come
pub record Represents {M : Type 0} (moment : M) (queues : Queues) (slot : Option ℕ) (bits : ℕ → ℕ → Bool) (now : Running M) : Type 0 where
  pub moment_is : moment ≡ now.moment
  pub holds : Hold queues bits now.made now.first
  pub slot_is : slot ≡ now.slot

-- an occurrence under an activator of a level, of so many
pub record IsItem {R M : Type 0} (core : Core R M) (many here number : ℕ) : Type 0 where
  pub within : number < many
  pub activator : above_of core number ≡ here

module _ {R M : Type 0} (core : Core R M) where
  -- items under an activator of a level
  abbrev pub AreItems : ℕ → ℕ → Acts → Type 0
  AreItems many here Done = Unit {0}
  AreItems many here (Act number level past own rest) = IsItem core many here number × AreItems many level own × AreItems many here rest
  AreItems many here (When number test taken other rest) = AreItems many here taken × AreItems many here other × AreItems many here rest

  -- the queues are of the core's occurrences, and so are the items
  pub record IsReady (queues : Queues) (here : ℕ) (acts : Acts) : Type 0 where
    pub tables : AreQueuesOf core queues
    pub items : AreItems (count queues) here acts

  -- what stays: the description and the tables
  pub record Stays (after : Core R M) (queues queues' : Queues) : Type 0 where
    pub same_core : after ≡ core
    pub tables : AreQueuesOf core queues → AreQueuesOf core queues'
    pub same_count : count queues' ≡ count queues
