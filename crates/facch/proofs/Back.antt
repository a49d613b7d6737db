-- The value that a record says: it comes back but for the first octet. Assumes nothing.
use mathlib.Core.Path.{◌≡◌, refl, ap, ap₂}
use mathlib.Core.List.{List, [], ◌∷◌}
use mathlib.Core.Option.{Option, none, some}
use mathlib.Core.Logic.{◌⊎◌, inl, inr}
use Prim.Native.Nat.{ℕ, ◌-◌, ◌*◌}
use Rattle.bits.specs.Field.{pick}
use Rattle.csn1.specs.Format.{RowFits, OptFits, EitherFits}
use Rattle.csn1.specs.Grammar.{format}
use Rattle.csn1.specs.Told.{there}
use Rattle.csn1.proofs.Flags.{bit-value}
use Rattle.csn1.proofs.Telling.{number-back}
use Rattle.csn1.proofs.Writing.{bit-back}
use Rattle.call.specs.Call.{CallValue, call_grammar, group_call, call_value}
use Rattle.call.proofs.Record.{value-back}
use Rattle.facch.specs.Message.{PagingValue, Release6Value, Release7Value, paging, release6, release7, notification}
use Rattle.facch.specs.Told.{page_of, release6_of, release7_of, is_paging, call_in, page_in}
use Rattle.facch.specs.Back.{paging_value, release6_value, release7_value}
use Rattle.facch.specs.Promises.{ARecordTellsItsMessage}

page_back : (p : PagingValue) → (format paging).fits p → paging_value (page_of p) ≡ p
page_back ((n, l), (c, o)) h = ap₂ (λ (x : List ℕ) (y : Option ℕ). ((n, x), (c, y))) (octets-back l h.0.1) (number-back o)
  where
    octets-back : (l : List ℕ) → RowFits (8 ∷ 8 * (n - 1) ∷ []) l → (paging_value (page_of ((n, l), (c, o)))).0.1 ≡ l
    octets-back [] f = absurd f
    octets-back (a ∷ []) f = absurd f.1
    octets-back (a ∷ b ∷ []) f = refl
    octets-back (a ∷ b ∷ d ∷ l) f = absurd f.1.1

notified-back : (x : CallValue ⊎ PagingValue) → EitherFits (format call_grammar) (format paging) x
    → pick (is_paging x) (inr (paging_value (page_in x))) (inl (call_value (call_in x))) ≡ x
unfolding group_call
notified-back (inl c) h = ap inl (value-back c h)
notified-back (inr p) h = ap inr (page_back p h)

six-back : (v : Option Release6Value) → OptFits (format release6) v → there (release6_of v).hasRelease (release6_value (release6_of v)) ≡ v
six-back none h = refl
six-back (some (none, r)) h = ap (λ (x : Option ℕ). some (none, x)) (number-back r)
six-back (some (some (n, b), r)) h =
    ap₂ (λ (y : ℕ) (x : Option ℕ). some (some (n, y), x)) (bit-back b h.0.1) (number-back r)

seven-back : (v : Option Release7Value) → OptFits (format release7) v → there (release7_of v).hasRelease (release7_value (release7_of v)) ≡ v
seven-back none h = refl
seven-back (some (u, (e, c))) h = rw (bit-back u h.0, bit-back e h.1.0, bit-value c h.1.1)

pub a_record_tells_its_message : ARecordTellsItsMessage
unfolding notification
a_record_tells_its_message v h = rw (notified-back v.1.0 h.1.0, six-back v.1.1.0 h.1.1.0, seven-back v.1.1.1 h.1.1.1)
