-- The grammar of NT/N Rest Octets is numbered as the theorems over all grammars ask. Assumes nothing.
use mathlib.Core.Path.{refl}
use native.Mathlib.Omega.{arith}
use Rattle.csn1.specs.Grammar.{later, Numbered}
use Rattle.call.proofs.Numbering.{call-numbered}
use Rattle.nch.specs.Octets.{reduced, release6, release7, rest_parts, rest_octets}

pub reduced-numbered : Numbered reduced
reduced-numbered = (omega arith, omega arith, refl, tt)

pub numbered6 : Numbered (later release6)
numbered6 = (refl, (tt, (reduced-numbered, (tt, tt))))

pub numbered7 : Numbered (later release7)
numbered7 = (refl, (tt, (tt, ((tt, tt), (tt, tt)))))

pub parts-numbered : Numbered rest_parts
parts-numbered = (tt, (call-numbered, (numbered6, numbered7)))

pub octets-numbered : Numbered rest_octets
octets-numbered = (omega arith, omega arith, refl, (omega arith, omega arith, refl, parts-numbered))
