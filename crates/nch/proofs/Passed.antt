-- How what the readers of parts pass on tells what was read. Assumes nothing.
use mathlib.Core.Path.{refl}
use mathlib.Core.List.{List}
use mathlib.Core.Option.{Option}
use Rattle.csn1.proofs.Answers.{Telling}
use Rattle.call.specs.Call.{CallValue}
use Rattle.nch.specs.declared.lists.CallsPassed.{CallsPassed}
use Rattle.nch.specs.declared.lists.ListPassed.{ListPassed}
use Rattle.nch.specs.declared.additions.Release6Passed.{Release6Passed}
use Rattle.nch.specs.declared.additions.PartPassed.{PartPassed}
use Rattle.nch.specs.Octets.{Release6Value, Release7Value}
use Rattle.nch.specs.Inner.{calls_passed, list_passed, part_passed, release6_passed, release7_passed}

abbrev pub calls : Telling (List CallValue) CallsPassed
calls = record { of = calls_passed; refusal = λ r. r.refusal; at = λ r. r.at; fine = λ l q. refl; place = λ l q. refl; why = λ r. refl }

abbrev pub lists : {A : Type 0} → Telling (List A) ListPassed
lists = record { of = list_passed; refusal = λ r. r.refusal; at = λ r. r.at; fine = λ l q. refl; place = λ l q. refl; why = λ r. refl }

abbrev pub parts : {A : Type 0} → Telling A PartPassed
parts = record { of = part_passed; refusal = λ r. r.refusal; at = λ r. r.at; fine = λ l q. refl; place = λ l q. refl; why = λ r. refl }

abbrev pub six : Telling (Option Release6Value) Release6Passed
six = record { of = release6_passed; refusal = λ r. r.refusal; at = λ r. r.at; fine = λ l q. refl; place = λ l q. refl; why = λ r. refl }

abbrev pub seven : Telling (Option Release7Value) ListPassed
seven = record { of = release7_passed; refusal = λ r. r.refusal; at = λ r. r.at; fine = λ l q. refl; place = λ l q. refl; why = λ r. refl }
