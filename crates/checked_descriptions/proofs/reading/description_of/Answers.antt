use Rattle.checked_descriptions.proofs.Faulty.{unread_finds}
use Rattle.checked_descriptions.proofs.reading.description_of.Goals as goal

pub returns-in-Err : goal.returns-in-Err
returns-in-Err c = rw c.unread.ensures (unread_finds c.args.bytes.now c.in-Err.fault c.in-Err.ensures.fault c.in-Err.ensures.only)
