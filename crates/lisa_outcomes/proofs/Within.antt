-- What was written stays within what is given.
use Rattle.std.proofs.Common.{List, ℕ, Option, inl, inr, ⊎_elim}
use Rattle.std.specs.Io.KnownBytes.{Keeps}
use Rattle.lisa_io.proofs.Known.{appends_none, appends_kept}
use Rattle.lisa_outcomes.specs.Outcomes.{Outcome}
use Rattle.lisa_outcomes.specs.Within.{IsWithin}

-- nothing was written
pub nothing_within : (Gives : Outcome → Type 0) (sink : Option (List ℕ)) → IsWithin Gives sink sink
nothing_within Gives sink = inl (appends_none sink)

-- what gives more is kept to as well
pub within_more : (Gives Gives' : Outcome → Type 0) (before after : Option (List ℕ)) → ((outcome : Outcome) → Gives outcome → Gives' outcome) → IsWithin Gives before after → IsWithin Gives' before after
within_more Gives Gives' before after to within = ⊎_elim (λ n. inl n) (λ f. inr (f.0, to f.0 f.1, f.2)) within

-- and where nothing more is put
pub within_kept : (Gives : Outcome → Type 0) (before after sent : Option (List ℕ)) → Keeps after sent → IsWithin Gives before after → IsWithin Gives before sent
within_kept Gives before after sent keeps within = ⊎_elim
    (λ n. inl (appends_kept _ _ _ _ n keeps))
    (λ f. inr (f.0, f.1, (f.2.0, f.2.1, appends_kept _ _ _ _ f.2.2 keeps)))
    within
