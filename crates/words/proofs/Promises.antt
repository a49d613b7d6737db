-- What is promised of reading that does not ask, proved. Assumes nothing.
use Rattle.words.specs.Promises.{WhatEndsInsideIsRead}
use Rattle.words.proofs.Unasked.{ends-inside}

pub what_ends_inside_is_read : WhatEndsInsideIsRead
what_ends_inside_is_read A g s p a q e l = ends-inside g s p a q e l
