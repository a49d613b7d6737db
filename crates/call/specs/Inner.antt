-- What only private functions' contracts speak of; nothing public rests on it. Assumes nothing.
use Rattle.std.specs.Prelude.{◌≡◌, List, Bool, false, true, ◌⊎◌, ℕ, ◌+◌, ◌*◌, ◌/◌, ◌%◌, ◌≤◌, ◌<◌, length}
use Rattle.std.proofs.Math.Option.{some}
use Rattle.std.proofs.Common.{inl, inr}
use Rattle.csn1.specs.Format.{Res, ok, bad, no_refusal, Format}
use Rattle.csn1.specs.Told.{is_one, as_bit}
use Rattle.call.specs.Call.{CallValue, DescriptionValue, allocation_length, allocation_octets, description_of, no_description}
use Rattle.call.specs.Told.{call_at_of}
use Rattle.call.specs.declared.Call.{Call}
use Rattle.call.specs.declared.Description.{Description}
use Rattle.call.specs.declared.CallAt.{CallAt}
use Rattle.call.specs.declared.DescriptionAt.{DescriptionAt}
use Rattle.call.specs.declared.FrequenciesAt.{FrequenciesAt}
use Rattle.call.specs.declared.Flat.{Flat}
use Rattle.call.specs.declared.Quick.{Quick}

-- ## Reading

abbrev pub description_at_of : Res DescriptionValue → DescriptionAt
description_at_of (bad r) = record { refusal = r; description = no_description; at = 0 }
description_at_of (ok v q) = record { refusal = no_refusal; description = description_of (some v); at = q }

abbrev pub frequencies_at_of : Res ((ℕ × ℕ) ⊎ ℕ) → FrequenciesAt
frequencies_at_of (bad r) = record { refusal = r; shortlist = false; length = 0; frequencies = 0; at = 0 }
frequencies_at_of (ok (inl a) q) = record { refusal = no_refusal; shortlist = false; length = allocation_length a; frequencies = allocation_octets a; at = q }
frequencies_at_of (ok (inr l) q) = record { refusal = no_refusal; shortlist = true; length = 0; frequencies = l; at = q }

-- a call from its 36 bits as one number
abbrev pub call_from_head : ℕ → Bool → Description → Call
call_from_head head described description =
    record {
      reference = head / 512;
      vgcs = is_one (head / 256 % 2);
      acknowledged = is_one (head / 128 % 2);
      priority = head / 16 % 8;
      cipher = head % 16;
      hasDescription = described;
      description = description;
    }

-- a call from its fields
abbrev pub gathered : Flat → CallAt
gathered p =
    record {
      refusal = p.refusal;
      call =
          record {
            reference = p.reference;
            vgcs = p.vgcs;
            acknowledged = p.acknowledged;
            priority = p.priority;
            cipher = p.cipher;
            hasDescription = p.hasDescription;
            description = record { channel = p.channel; hopping = p.hopping; shortlist = p.shortlist; length = p.length; frequencies = p.frequencies };
          };
      at = p.at;
    }

-- a call that does not hop, from its 36 bits and the flag behind them as one number
abbrev pub flat_from : ℕ → Bool → ℕ → ℕ → Flat
flat_from led described channel at =
    record {
      refusal = no_refusal;
      reference = led / 1024;
      vgcs = is_one (led / 512 % 2);
      acknowledged = is_one (led / 256 % 2);
      priority = led / 32 % 8;
      cipher = led / 2 % 16;
      hasDescription = described;
      channel = channel;
      hopping = false;
      shortlist = false;
      length = 0;
      frequencies = 0;
      at = at;
    }

abbrev pub not_quick : Quick
not_quick = record { done = false; led = 0; hasDescription = false; channel = 0; at = 0 }

-- where it was done, it tells what was read
pub record Quickly (q : Quick) (x : Res CallValue) : Type 0 where
  pub small : q.led < 137438953472
  pub right : q.done ≡ true → gathered (flat_from q.led q.hasDescription q.channel q.at) ≡ call_at_of x

-- ## Writing

-- the 36 bits and the flag behind them, as one number
abbrev pub head_number : Call → ℕ
head_number c =
    ((c.reference * 4 + as_bit c.vgcs * 2 + as_bit c.acknowledged) * 256 + c.priority * 32) + c.cipher * 2 + as_bit c.hasDescription

-- a part that can be written, and octets, not too many, that have its bits from p on
pub record Room {A : Type 0} (F : Format A) (v : A) (s : List ℕ) (p : ℕ) : Type 0 where
  pub fits : F.fits v
  pub enough : p + length (F.bits 0 0 v) ≤ length s * 8
  pub few : length s ≤ 4096
