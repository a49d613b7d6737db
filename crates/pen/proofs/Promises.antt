-- The promises of specs/Promises. Assumes nothing.
use mathlib.Core.Path.{refl}
use lib.ListN.{length}
use Rattle.pen.specs.Promises.{WhatIsStoredLastIsPut, WhatIsWrittenBehindIsAdded}
use Rattle.pen.proofs.Adding.{adds_then, stored-bits}

pub what_is_stored_last_is_put : WhatIsStoredLastIsPut
what_is_stored_last_is_put w bs s f l h = stored-bits w (length bs) s bs f refl l h

pub what_is_written_behind_is_added : WhatIsWrittenBehindIsAdded
what_is_written_behind_is_added x y z bs cs f g = adds_then f g
