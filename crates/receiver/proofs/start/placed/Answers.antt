-- `receiver::start::placed` meets its contract. Assumes nothing.
use Rattle.receiver.specs.Channels.{key_count}
use Rattle.receiver.proofs.KeyPlaces.{places_whole}
use Rattle.receiver.proofs.start.placed.Goals as goal

pub returns : goal.returns
returns c = rw c.copy_from_slice.ensures.after (places_whole c.args.unused key_count c.args.numbers.now c.requires)
