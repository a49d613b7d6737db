-- The promises of specs/Promises, from the one theorem over all grammars. Assumes nothing.
use mathlib.Core.Path.{◌≡◌, refl, sym, ap, subst}
use mathlib.Core.List.{List}
use mathlib.Core.Bool.{Bool, true, false}
use Prim.Native.Nat.{ℕ}
use native.Mathlib.Omega.{arith}
use lib.ListN.{length}
use lib.Dec.{leb}
use borrow.Author.Tests.{le-leb}
use Rattle.bits.specs.Field.{bit, field, both, pick}
use Rattle.csn1.specs.Format.{Res, ok, bad, ground, pad_bit}
use Rattle.csn1.specs.Promises.{Stands, Grounded, Lawful}
use Rattle.csn1.proofs.Promises.{lawful}
use Rattle.call.specs.Call.{group_call}
use Rattle.facch.specs.Message.{Value, message, notification, read_octets}
use Rattle.facch.specs.Told.{record_of, reading_of}
use Rattle.facch.specs.Back.{value_of}
use Rattle.facch.proofs.Numbering.{message-numbered}
use Rattle.facch.proofs.Back.{a_record_tells_its_message}
use Rattle.facch.specs.Promises.{StandsThere, EveryReadingStandsInTheOctets, WhatStandsInTheOctetsIsRead, ListedRecords}

pub notification-lawful : Lawful notification
unfolding notification
notification-lawful = lawful message message-numbered

-- what was read stands there
read-stands : (s : List ℕ) (v : Value) (q : ℕ) → read_octets s ≡ ok v q → notification.read s 0 ≡ ok v q → StandsThere s
read-stands s v q e x =
    let d : Stands notification s 0 v q = notification-lawful.stands s 0 v q (omega arith) x in
    record {
      first = v.0;
      stands =
          subst (λ (y : Res Value). Stands notification s 0 (value_of v.0 (reading_of y).«record») (reading_of y).used) (sym e)
          (subst (λ (w : Value). Stands notification s 0 w q) (sym (a_record_tells_its_message v d.fitting)) d);
      told =
          subst (λ (y : Res Value). record_of (value_of v.0 (reading_of y).«record») ≡ (reading_of y).«record») (sym e)
          (ap record_of (a_record_tells_its_message v d.fitting));
    }

pub every_reading_stands_in_the_octets : EveryReadingStandsInTheOctets
unfolding ground
every_reading_stands_in_the_octets s z = go (both (leb 2 (length s)) (leb (length s) 23)) (notification.read s 0) refl refl (notification-lawful.grounds s 0) z
  where
    go : (t : Bool) (x : Res Value) → both (leb 2 (length s)) (leb (length s) 23) ≡ t → notification.read s 0 ≡ x → Grounded x
        → (reading_of (pick t x (bad (ground 1)))).refusal.number ≡ 0 → StandsThere s
    go true (ok v q) a b g z = read-stands s v q (rw (a, b)) b
    go true (bad r) a b g z = absurd (omega arith)
    go false x a b g z = absurd (omega arith)

pub what_stands_in_the_octets_is_read : WhatStandsInTheOctetsIsRead
what_stands_in_the_octets_is_read s v h l f w k =
    rw (le-leb 2 (length s) h, le-leb (length s) 23 l, notification-lawful.back s 0 v f (omega arith) k)
    (ap (λ (n : ℕ). reading_of (ok v n)) (omega arith))

pub listed_records : ListedRecords
unfolding notification group_call field bit pad_bit ground
listed_records = record { uplink = refl; emergency = refl; paged = refl; no_identity = refl; long-identity = refl }
