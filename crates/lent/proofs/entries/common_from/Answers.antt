-- `lent::entries::common_from` meets its contract. Assumes nothing.
use mathlib.Core.Path.{refl}
use Rattle.arrays.specs.Limits.{octet}
use Rattle.nch.specs.Places.{cellcount_at, fullrate_at, halfrate_at}
use Rattle.nch.specs.NotificationNumbers.{most, release6_by, release7_by, record_by}
use Rattle.nch.proofs.NotificationFits.{fits-at}
use native.Mathlib.Omega.{arith}
use Rattle.lent.proofs.entries.common_from.Goals as goal

pub overflow_cast-result : goal.overflow_cast-result
unfolding most
overflow_cast-result c = omega (arith, fits-at _ c.requires cellcount_at octet (omega arith) (omega arith) refl)

pub overflow_cast-result-2 : goal.overflow_cast-result-2
unfolding most
overflow_cast-result-2 c = omega (arith, fits-at _ c.requires fullrate_at octet (omega arith) (omega arith) refl)

pub overflow_cast-result-3 : goal.overflow_cast-result-3
unfolding most
overflow_cast-result-3 c = omega (arith, fits-at _ c.requires halfrate_at octet (omega arith) (omega arith) refl)

pub returns : goal.returns
unfolding record_by release6_by release7_by
returns c = refl
