-- The grammar of a call is numbered as the theorems over all grammars ask, and has no later release and none of its numbers. Assumes nothing.
use mathlib.Core.Path.{refl}
use native.Mathlib.Omega.{arith}
use Rattle.csn1.specs.Grammar.{Numbered}
use Rattle.csn1.specs.Clip.{Outside, Plain}
use Rattle.call.specs.Call.{frequencies, description, call_grammar}

pub frequencies-numbered : Numbered frequencies
frequencies-numbered = (((omega arith, omega arith, refl, tt), λ n. tt), tt)

pub description-numbered : Numbered description
description-numbered = ((omega arith, omega arith, refl, (tt, tt)), λ v. frequencies-numbered)

pub call-numbered : Numbered call_grammar
call-numbered = ((omega arith, omega arith, refl, tt), description-numbered)

pub call_plain : Plain call_grammar
unfolding Plain
call_plain = (tt, ((tt, tt), λ v. ((tt, λ n. tt), tt)))

pub call-outside : Outside call_grammar
unfolding Outside
call-outside = (tt, ((tt, tt), λ v. ((tt, λ n. tt), tt)))
