-- `host_trace::asternhaken_nch_trace` meets its contract. Assumes nothing.
use native.Mathlib.Omega.{arith}
use Rattle.trace.proofs.Broad.{no_message_has_more_fields_than_bits}
use Rattle.host_trace.proofs.asternhaken_nch_trace.Goals as goal

pub overflow_cast-result : goal.overflow_cast-result
overflow_cast-result c =
    omega (arith, c.nch.ensures.0, (no_message_has_more_fields_than_bits c.args.octets.now).0)
