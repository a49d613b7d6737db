-- `host_views::state::asternhaken_is_set_up` meets its contract. Assumes nothing.
use mathlib.Core.Path.{ap, ◌∙◌}
use Rattle.csn1.specs.Told.{as_bit}
use Rattle.csn1.proofs.Writing.{flag_byte}
use Rattle.host_views.proofs.state.asternhaken_is_set_up.Goals as goal

pub returns : goal.returns
returns c = flag_byte c.is_set_up.result ∙ ap as_bit c.is_set_up.ensures
