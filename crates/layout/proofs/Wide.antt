-- Records whose numbers fit their octets. Assumes nothing.
use mathlib.Core.Bool.{Bool, true, false}
use mathlib.Core.List.{List}
use Prim.Native.Nat.{ℕ, ◌+◌, ◌<◌}
use lib.Dec.{lit<}
use lib.ListN.{get_or}
use Rattle.bits.specs.Field.{pick}
use Rattle.receiver.specs.declared.Record.{Record}
use Rattle.receiver.specs.Model.{no_record, joined_of}
use Rattle.layout.specs.Layout.{record_at}
use Rattle.layout.proofs.Numbers.{le_below}

-- every octet is below 256
abbrev pub Octs : List ℕ → Type 0
Octs l = (j : ℕ) → get_or l j 0 < 256

pub record Wide (r : Record) : Type 0 where
  pub reference : r.call.reference < 4294967296
  pub channel : r.call.description.channel < 4294967296
  pub frequencies : r.call.description.frequencies < 18446744073709551616
  pub rand : r.rand < 18446744073709551616
  pub priority : r.call.priority < 256
  pub cipher : r.call.cipher < 256
  pub size : r.call.description.length < 256
  pub cellcount : r.common.cellcount < 256
  pub fullrate : r.common.fullrate < 256
  pub halfrate : r.common.halfrate < 256

pub wide-none : Wide no_record
wide-none =
    record {
      reference = lit< tt;
      channel = lit< tt;
      frequencies = lit< tt;
      rand = lit< tt;
      priority = lit< tt;
      cipher = lit< tt;
      size = lit< tt;
      cellcount = lit< tt;
      fullrate = lit< tt;
      halfrate = lit< tt;
    }

pub wide_at : (l : List ℕ) (at : ℕ) → Octs l → Wide (record_at l at)
unfolding record_at
wide_at l at o =
    record {
      reference = le_below 4 l at o;
      channel = le_below 4 l (at + 4) o;
      frequencies = le_below 8 l (at + 8) o;
      rand = le_below 8 l (at + 16) o;
      priority = o (at + 44);
      cipher = o (at + 45);
      size = o (at + 46);
      cellcount = o (at + 47);
      fullrate = o (at + 48);
      halfrate = o (at + 49);
    }

pick-below : (b : Bool) {m n k : ℕ} → m < k → n < k → pick b m n < k
pick-below true p q = p
pick-below false p q = q

pub wide-join : (a b : Record) → Wide a → Wide b → Wide (joined_of a b)
unfolding joined_of
wide-join a b p q =
    record {
      reference = p.reference;
      channel = p.channel;
      frequencies = p.frequencies;
      rand = q.rand;
      priority = p.priority;
      cipher = p.cipher;
      size = p.size;
      cellcount = pick-below b.common.hasCount q.cellcount p.cellcount;
      fullrate = p.fullrate;
      halfrate = p.halfrate;
    }
