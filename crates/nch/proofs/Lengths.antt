-- How many numbers each part of a record has. Assumes nothing.
use mathlib.Core.Path.{◌≡◌, refl}
use mathlib.Core.Bool.{Bool}
use lib.ListN.{length}
use Rattle.call.specs.declared.Call.{Call}
use Rattle.nch.specs.declared.Reduced.{Reduced}
use Rattle.nch.specs.declared.Random.{Random}
use Rattle.nch.specs.declared.Release7.{Release7}
use Rattle.nch.specs.Places.{call_length, reduced_length, random_length}
use Rattle.nch.specs.CallNumbers.{call_numbers}
use Rattle.nch.specs.NotificationNumbers.{reduced_numbers, random_numbers, mark_numbers, parts_numbers}

pub length-call : (c : Call) → length (call_numbers c) ≡ call_length
unfolding call_numbers
length-call c = refl

pub length-reduced : (r : Reduced) → length (reduced_numbers r) ≡ reduced_length
unfolding reduced_numbers
length-reduced r = refl

pub length-random : (r : Random) → length (random_numbers r) ≡ random_length
unfolding random_numbers
length-random r = refl

pub length_mark : (b : Bool) → length (mark_numbers b) ≡ 1
unfolding mark_numbers
length_mark b = refl

pub length-parts : (r : Release7) → length (parts_numbers r) ≡ 10
unfolding parts_numbers
length-parts r = refl
