-- How what was read of a call is told, with the place behind it. Assumes nothing.
use Rattle.csn1.specs.Format.{Res, ok, bad, no_refusal}
use Rattle.call.specs.Call.{CallValue, call_of, no_call}
use Rattle.call.specs.declared.CallAt.{CallAt}

abbrev pub call_at_of : Res CallValue → CallAt
call_at_of (bad r) = record { refusal = r; call = no_call; at = 0 }
call_at_of (ok v q) = record { refusal = no_refusal; call = call_of v; at = q }
