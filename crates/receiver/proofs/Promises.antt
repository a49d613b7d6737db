-- The promises of specs/Promises: of the halving, and of the keys of a setup. Assumes nothing.
use native.Mathlib.Omega.{arith}
use lib.ListN.{length}
use Rattle.csn1.specs.Format.{ground}
use Rattle.receiver.specs.Channels.{key_count}
use Rattle.receiver.specs.Halving.{halving}
use Rattle.receiver.specs.Model.{setup_right, started_of}
use Rattle.receiver.specs.Promises.{FewerThanAPowerOfTwoTakeThatManyLooks, FiftyKeysTakeAtMostSixLooks, NoKeysTakeNoLook, WhatIsFoundHasTheKey}
use Rattle.receiver.specs.Promises.{RisingKeysAreFoundAsFromTheFront, KeysThatDoNotRiseAreRefused, TheLentKeysAreLookedAmong}
use Rattle.receiver.proofs.Cases.{by-test}
use Rattle.receiver.proofs.Halving.{few_looks, none_left, rising, as_from-front}
use Rattle.receiver.proofs.Keys.{found, right_keys}
use Rattle.receiver.proofs.KeyPlaces.{keys_there}

-- ## The halving

pub fewer_than_a_power_of_two_take_that_many_looks : FewerThanAPowerOfTwoTakeThatManyLooks
unfolding halving
fewer_than_a_power_of_two_take_that_many_looks keys key k h = few_looks (length keys) k keys key 0 (length keys) (omega arith)

pub fifty_keys_take_at_most_six_looks : FiftyKeysTakeAtMostSixLooks
fifty_keys_take_at_most_six_looks keys key h = fewer_than_a_power_of_two_take_that_many_looks keys key 6 (omega arith)

pub no_keys_take_no_look : NoKeysTakeNoLook
unfolding halving
no_keys_take_no_look key = none_left 0 _ key 0 0 (omega arith)

pub what_is_found_has_the_key : WhatIsFoundHasTheKey
what_is_found_has_the_key keys key h = found keys key h

pub rising_keys_are_found_as_from_the_front : RisingKeysAreFoundAsFromTheFront
rising_keys_are_found_as_from_the_front keys r key = as_from-front keys r key

-- ## Setup

pub keys_that_do_not_rise_are_refused : KeysThatDoNotRiseAreRefused
unfolding started_of ground
keys_that_do_not_rise_are_refused s keys sets i j l h g =
    by-test (setup_right s keys sets) (λ p. absurd (omega (arith, rising keys (right_keys s keys sets p).1 i j l h))) (λ p. rw p)

pub the_lent_keys_are_looked_among : TheLentKeysAreLookedAmong
unfolding started_of ground
the_lent_keys_are_looked_among s keys sets z =
    by-test (setup_right s keys sets)
    (λ p. (rising keys (right_keys s keys sets p).1, rw p (keys_there key_count keys (right_keys s keys sets p).0)))
    (λ p. absurd (omega (arith, rw p at z)))
