use Rattle.lisa_debug.proofs.Takings.{takes_feed, takes_part}
use Rattle.lisa_debug.proofs.input.end_line.Goals as goal

pub returns-in_err-go-clause-takes : goal.returns-in_err-go-clause-takes
returns-in_err-go-clause-takes g c course start taken st had = takes_part _ taken _ start _ _ _ _ c.from_residual.ensures.1 c.deref.ensures.value st had c.in_err-go.ensures.puts

pub returns-clause-takes : goal.returns-clause-takes
returns-clause-takes g c course start taken st had = takes_feed _ taken _ start _ _ _ c.deref.ensures.value st had c.in_ok-go.ensures.puts (record { same = c.in_ok-go.ensures.course; live = c.in_ok-go.ensures.lives; stands = c.in_ok-go.ensures.position }) c.in_ok-go.ensures.goes c.clear.ensures.items
