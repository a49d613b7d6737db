-- The grammar of NOTIFICATION/FACCH is numbered as the theorems over all grammars ask. Assumes nothing.
use mathlib.Core.Path.{refl}
use native.Mathlib.Omega.{arith}
use Rattle.csn1.specs.Grammar.{later, one_of, Numbered}
use Rattle.call.specs.Call.{call_grammar}
use Rattle.call.proofs.Numbering.{call-numbered}
use Rattle.facch.specs.Message.{identity, paging, release6, release7, message}

pub identity-numbered : Numbered identity
identity-numbered = ((omega arith, omega arith, refl, tt), λ n. tt)

pub paging-numbered : Numbered paging
paging-numbered = (identity-numbered, (tt, tt))

pub notified-numbered : Numbered (one_of call_grammar paging)
notified-numbered = (call-numbered, paging-numbered)

pub numbered6 : Numbered (later release6)
numbered6 = (refl, ((tt, tt), tt))

pub numbered7 : Numbered (later release7)
numbered7 = (refl, (tt, (tt, tt)))

pub message-numbered : Numbered message
message-numbered = (tt, (notified-numbered, (numbered6, numbered7)))
