-- What only private functions' contracts speak of; nothing public rests on it. Assumes nothing.
use Rattle.std.specs.Prelude.{◌≡◌, List, Bool, true, false, ◌⊎◌, ℕ, ◌+◌, ◌*◌, ◌≤◌, length}
use Rattle.std.proofs.Math.Option.{Option}
use Rattle.bits.specs.Field.{field}
use Rattle.csn1.specs.Format.{Res, ok, bad, no_refusal}
use Rattle.csn1.specs.Grammar.{number, low-high, flagged, later}
use Rattle.csn1.specs.Told.{is_there, or_zero, is_one}
use Rattle.call.specs.Call.{CallValue, no_call}
use Rattle.words.specs.Unasked.{Took, took, taken}
use Rattle.facch.specs.Message.{length_octet, first_identity_octet, other_identity_octets, PagingValue, counts, Release6Value, release6, Release7Value, release7}
use Rattle.facch.specs.Told.{no_page, page_of, cell_count_in, b22_count_in, release6_of, release7_of, is_paging, call_in, page_in}
use Rattle.facch.specs.declared.Reading.{Reading}
use Rattle.facch.specs.declared.NotifiedAt.{NotifiedAt}
use Rattle.facch.specs.declared.pages.IdentityAt.{IdentityAt}
use Rattle.facch.specs.declared.pages.PageAt.{PageAt}
use Rattle.facch.specs.declared.additions.CountAt.{CountAt}
use Rattle.facch.specs.declared.taking.TakenCount.{TakenCount}
use Rattle.facch.specs.declared.taking.TakenFlag.{TakenFlag}
use Rattle.facch.specs.declared.taking.TakenSix.{TakenSix}
use Rattle.facch.specs.declared.taking.TakenSeven.{TakenSeven}
use Rattle.facch.specs.declared.taking.Quick.{Quick}

-- ## What was read of a part, and the place behind it

abbrev pub identity_at_of : Res (ℕ × List ℕ) → IdentityAt
identity_at_of (bad r) = record { refusal = r; length = 0; first = 0; rest = 0; at = 0 }
identity_at_of (ok v q) = record { refusal = no_refusal; length = length_octet v; first = first_identity_octet v; rest = other_identity_octets v; at = q }

abbrev pub page_at_of : Res PagingValue → PageAt
page_at_of (bad r) = record { refusal = r; page = no_page; at = 0 }
page_at_of (ok v q) = record { refusal = no_refusal; page = page_of v; at = q }

abbrev pub notified_at_of : Res (CallValue ⊎ PagingValue) → NotifiedAt
notified_at_of (bad r) = record { refusal = r; paging = false; call = no_call; page = no_page; at = 0 }
notified_at_of (ok v q) = record { refusal = no_refusal; paging = is_paging v; call = call_in v; page = page_in v; at = q }

-- the counts behind their flag
abbrev pub count_at_of : Res (Option (ℕ × ℕ)) → CountAt
count_at_of (bad r) = record { refusal = r; hasCount = false; cellcount = 0; b22 = false; at = 0 }
count_at_of (ok v q) = record { refusal = no_refusal; hasCount = is_there v; cellcount = cell_count_in v; b22 = b22_count_in v; at = q }

-- ## What is taken of a part without asking: its value, told, and how far it reaches, wherever x is the 64 bits from a place on

pub record CountTold (r : TakenCount) (p : ℕ) (t : Took (Option (ℕ × ℕ))) : Type 0 where
  pub value : Option (ℕ × ℕ)
  pub is : t ≡ took value (p + r.next)
  pub there : r.hasCount ≡ is_there value
  pub cells : r.cellcount ≡ cell_count_in value
  pub b22 : r.b22 ≡ b22_count_in value

abbrev pub CountTaken : ℕ → TakenCount → Type 0
CountTaken x r = (r.next ≤ 5) × ((s : List ℕ) (p : ℕ) → x ≡ field s p 64 → CountTold r p (taken (flagged counts) s (p + 1)))

pub record FlagTold (r : TakenFlag) (p : ℕ) (t : Took (Option ℕ)) : Type 0 where
  pub value : Option ℕ
  pub is : t ≡ took value (p + r.next)
  pub there : r.hasValue ≡ is_there value
  pub number : r.value ≡ or_zero value

abbrev pub FlagTaken : ℕ → ℕ → ℕ → TakenFlag → Type 0
FlagTaken x from w r = (r.next ≤ from + 1 + w) × ((s : List ℕ) (p : ℕ) → x ≡ field s p 64 → FlagTold r p (taken (flagged (number w)) s (p + from)))

pub record Coded (h : Bool) (p : ℕ) (t : Took ℕ) : Type 0 where
  pub value : ℕ
  pub is : t ≡ took value (p + 1)
  pub told : h ≡ is_one value

abbrev pub HighTaken : ℕ → ℕ → ℕ → Bool → Type 0
HighTaken x from at h = (s : List ℕ) → x ≡ field s at 64 → Coded h (at + from) (taken low-high s (at + from))

pub record SixTold (r : TakenSix) (p : ℕ) (t : Took (Option Release6Value)) : Type 0 where
  pub value : Option Release6Value
  pub is : t ≡ took value (p + r.next)
  pub told : r.release ≡ release6_of value

abbrev pub SixTaken : ℕ → ℕ → ℕ → TakenSix → Type 0
SixTaken x at end r = (r.next ≤ 42) × ((s : List ℕ) → x ≡ field s at 64 → length s * 8 ≡ end → SixTold r at (taken (later release6) s at))

pub record SevenTold (r : TakenSeven) (p : ℕ) (t : Took (Option Release7Value)) : Type 0 where
  pub value : Option Release7Value
  pub is : t ≡ took value (p + r.next)
  pub told : r.release ≡ release7_of value

abbrev pub SevenTaken : ℕ → ℕ → ℕ → ℕ → TakenSeven → Type 0
SevenTaken x from at end r = (r.next ≤ 47) × ((s : List ℕ) → x ≡ field s at 64 → length s * 8 ≡ end → SevenTold r at (taken (later release7) s (at + from)))

-- a message of a call, from what was taken of it
abbrev pub quick_reading : Quick → Reading
quick_reading q =
    record {
      refusal = no_refusal;
      used = q.used;
      «record» = record { paging = false; call = q.call; page = no_page; release6 = q.release6; release7 = q.release7 };
    }

-- where it was done, it tells what is read
abbrev pub Quickly : Quick → Reading → Type 0
Quickly q r = q.done ≡ true → quick_reading q ≡ r
