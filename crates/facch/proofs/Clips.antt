-- Where bits ran out in NOTIFICATION/FACCH, and messages that are cut, from the theorems over all grammars. Assumes nothing.
use mathlib.Core.Path.{◌≡◌, refl, sym, ap, ◌∙◌}
use mathlib.Core.List.{List}
use mathlib.Core.Bool.{Bool, true, false}
use mathlib.Core.Option.{Option, none, some}
use mathlib.Core.Logic.{◌⊎◌, inl, inr}
use Prim.Native.Nat.{ℕ, ◌*◌, ◌/◌, ◌%◌, ◌≤◌, ◌<◌}
use native.Mathlib.Omega.{arith}
use lib.ListN.{length, take}
use lib.Dec.{leb}
use lib.Seq.{take_all}
use borrow.Author.Tests.{le-leb, leb-true, leb-false}
use Rattle.bits.specs.Field.{bit, field, both, pick}
use Rattle.csn1.specs.Format.{Res, ok, bad, no_refusal, ground, ran_out, renumbered, pad_bit}
use Rattle.csn1.specs.Grammar.{number, ◌and◌, flagged, low-high, later, one_of, format}
use Rattle.csn1.specs.Clip.{Outside, BothThere, Bare, Without, Plain, Steady, Cut}
use Rattle.csn1.specs.Told.{code_of}
use Rattle.csn1.proofs.Numbers.{the_number_says_the_release as says}
use Rattle.csn1.proofs.Messages.{Why, by_grammar, by_length, not_refused, clip_in, clip-refused, no_place, none-refused, result_tells}
use Rattle.csn1.proofs.Cutting.{plain_whole, plain_steady, length-first, a_cut_is_told_as_a_cut}
use Rattle.csn1.specs.Promises.{Grounded}
use Rattle.csn1.proofs.Promises.{lawful}
use Rattle.call.specs.Call.{call_grammar, group_call}
use Rattle.call.proofs.Numbering.{call_plain, call-outside}
use Rattle.facch.specs.declared.Reading.{Reading}
use Rattle.facch.specs.Message.{counts, release6, release7, paging, Value, message, notification}
use Rattle.facch.specs.Told.{record_of, reading_of, read_of}
use Rattle.facch.specs.Promises.{AClipIsToldWhereItIs, TheNumberSaysTheRelease, TheListedClipsAreToldSo, ToldAsAClip, refused}
use Rattle.facch.specs.Promises.{before-release7, before-release6, AClipIsToldAsAClip, without_both, without7}
use Rattle.facch.proofs.Numbering.{message-numbered}

-- ## Where bits ran out

abbrev pub Fits : List ℕ → Type 0
Fits s = (2 ≤ length s) × (length s ≤ 23)

both_true : (a b : Bool) → both a b ≡ true → (a ≡ true) × (b ≡ true)
both_true true true e = (refl, refl)
both_true true false e = (refl, e)
both_true false b e = absurd (let w : ◌≡◌ {A = ℕ} 0 1 = cc in omega arith)

why : (s : List ℕ) → Why message (Fits s) s (read_of s).refusal
unfolding notification
why s = go (both (leb 2 (length s)) (leb (length s) 23)) refl (notification.read s 0) refl
  where
    go : (b : Bool) → both (leb 2 (length s)) (leb (length s) 23) ≡ b → (x : Res Value) → notification.read s 0 ≡ x
        → Why message (Fits s) s (reading_of (pick b x (bad (ground 1)))).refusal
    go true e (ok v q) x = not_refused refl
    go true e (bad r) x =
        let f = both_true (leb 2 (length s)) (leb (length s) 23) e in
        by_grammar ((leb-true 2 (length s) f.0, leb-true (length s) 23 f.1)) x
    go false e x y = by_length refl

pub a_clip_is_told_where_it_is : AClipIsToldWhereItIs
a_clip_is_told_where_it_is s =
    (clip_in message message-numbered (Fits s) s (read_of s).refusal (why s), no_place message message-numbered (Fits s) s (read_of s).refusal (why s))

-- number 0 is no refusal
pub not_refused-at-all : (s : List ℕ) → (read_of s).refusal.number ≡ 0 → (read_of s).refusal ≡ no_refusal
not_refused-at-all s z = none-refused message message-numbered (Fits s) s (read_of s).refusal (why s) z

-- what a C function returns tells number and bit
pub told_by_result : (s : List ℕ) → (code_of (read_of s).refusal % 256 ≡ (read_of s).refusal.number) × (code_of (read_of s).refusal / 256 ≡ (read_of s).refusal.bit)
told_by_result s = result_tells message message-numbered (Fits s) s (read_of s).refusal (λ l. omega (arith, l.1)) (why s)

outside : Outside (number 8 and one_of call_grammar paging and (flagged counts and flagged (number 36)) and low-high and low-high and flagged (number 1))
unfolding Outside
outside = (tt, ((call-outside, ((tt, λ n. tt), (tt, tt))), (((tt, tt), tt), (tt, (tt, tt)))))

pub the_number_says_the_release : TheNumberSaysTheRelease
the_number_says_the_release s c =
    says _ _ _ _ (number 8) (one_of call_grammar paging) (flagged counts and flagged (number 36)) (low-high and low-high and flagged (number 1)) message-numbered outside s 0
    (read_of s).refusal (omega arith) (clip-refused message message-numbered (Fits s) s (read_of s).refusal (why s) c) c

-- ## Messages that are cut

plain6 : Plain release6
unfolding Plain
plain6 = ((tt, tt), tt)

plain7 : Plain release7
unfolding Plain
plain7 = (tt, (tt, tt))

plain_call : Plain (one_of call_grammar paging)
unfolding Plain
plain_call = (call_plain, ((tt, λ n. tt), (tt, tt)))

steady : Steady message
unfolding Steady
steady = (tt, (plain_steady (one_of call_grammar paging) plain_call, (plain_steady release6 plain6, plain_steady release7 plain7)))

never : {A : Type 0} (W : A → A → Type 0) → ((a b : A) → W a b → ⊥) → (x y : Option A) → BothThere W x y → ⊥
never W h none y w = w
never W h (some a) none w = w
never W h (some a) (some b) w = h a b w

-- what is left of a message that was cut: without Release 7, or without both
data LeftOf (v w : Value) : Type 0 where
  six-left : record_of w ≡ without7 (record_of v) → LeftOf v w
  none_left : record_of w ≡ without_both (record_of v) → LeftOf v w

module _ (v w : Value) (same : v.1.0 ≡ w.1.0) where
  made7 : v.1.1.0 ≡ w.1.1.0 → w.1.1.1 ≡ none → record_of w ≡ without7 (record_of v)
  made7 e f = rw (← same, ← e, f)

  made6 : w.1.1.0 ≡ none → w.1.1.1 ≡ none → record_of w ≡ without_both (record_of v)
  made6 e f = rw (← same, e, f)

  gone6 : (w.1.1.0 ≡ none) ⊎ BothThere (λ x y. Without release6 x y) v.1.1.0 w.1.1.0 → w.1.1.0 ≡ none
  gone6 (inl e) = e
  gone6 (inr b) = absurd (never (λ x y. Without release6 x y) (plain_whole release6 plain6) v.1.1.0 w.1.1.0 b)

  gone7 : (w.1.1.1 ≡ none) ⊎ BothThere (λ x y. Without release7 x y) v.1.1.1 w.1.1.1 → w.1.1.1 ≡ none
  gone7 (inl e) = e
  gone7 (inr b) = absurd (never (λ x y. Without release7 x y) (plain_whole release7 plain7) v.1.1.1 w.1.1.1 b)

  releases : Without (later release6 and later release7) v.1.1 w.1.1 → LeftOf v w
  unfolding Without Bare
  releases (inl h) = none_left (made6 (gone6 h.0) h.1)
  releases (inr h) = six-left (made7 h.0 (gone7 h.1))

behind-first : (v w : Value) → Without (one_of call_grammar paging and later release6 and later release7) v.1 w.1 → LeftOf v w
unfolding Without
behind-first v w (inl h) = absurd (plain_whole (one_of call_grammar paging) plain_call v.1.0 w.1.0 h.0)
behind-first v w (inr h) = releases v w h.0 h.1

left_of : (v w : Value) → Without message v w → LeftOf v w
unfolding Without
left_of v w (inl h) = absurd h.0
left_of v w (inr h) = behind-first v w h.1

-- an accepted message
pub record Accepted (s : List ℕ) (m : Reading) : Type 0 where
  pub fits : Fits s
  value : Value
  place : ℕ
  read : (format message).read s 0 ≡ ok value place
  told : m ≡ reading_of (ok value place)

pub accepted : (s : List ℕ) → (read_of s).refusal.number ≡ 0 → Accepted s (read_of s)
unfolding notification ground
accepted s z = go (both (leb 2 (length s)) (leb (length s) 23)) refl (notification.read s 0) refl ((lawful message message-numbered).grounds s 0) z
  where
    go : (b : Bool) → both (leb 2 (length s)) (leb (length s) 23) ≡ b → (x : Res Value) → notification.read s 0 ≡ x → Grounded x
        → (reading_of (pick b x (bad (ground 1)))).refusal.number ≡ 0 → Accepted s (reading_of (pick b x (bad (ground 1))))
    go true e (ok v q) x g z =
        let f = both_true (leb 2 (length s)) (leb (length s) 23) e in
        record { fits = (leb-true 2 (length s) f.0, leb-true (length s) 23 f.1); value = v; place = q; read = x; told = refl }
    go true e (bad r) x g z = absurd (omega arith)
    go false e x y g z = absurd (omega arith)

-- a message of a right length is read by its grammar
by-message : (s : List ℕ) → Fits s → (x : Res Value) → (format message).read s 0 ≡ x → read_of s ≡ reading_of x
unfolding notification
by-message s f x e = rw (le-leb 2 (length s) f.0, le-leb (length s) 23 f.1, e)

module _ (s : List ℕ) (a : Accepted s (read_of s)) (n : ℕ) (two : 2 ≤ n) where
  used-is : (read_of s).used ≡ a.place
  used-is = ap (λ (m : Reading). m.used) a.told

  record_is : (read_of s).«record» ≡ record_of a.value
  record_is = ap (λ (m : Reading). m.«record») a.told

  within : a.place ≤ length s * 8
  within = ((lawful message message-numbered).stands s 0 a.value a.place (omega arith) a.read).within

  fits-still : n < length s → Fits (take n s)
  fits-still l = let e = length-first n s (omega arith) in (omega arith, omega (arith, a.fits.1))

  law : (n * 8 < a.place → Cut message n a.value ((format message).read (take n s) 0)) × (a.place ≤ n * 8 → (format message).read (take n s) 0 ≡ ok a.value a.place)
  law = a_cut_is_told_as_a_cut Value message message-numbered steady s 0 a.value a.place (omega arith) a.read n (omega arith)

  by-cut : (x : Res Value) → read_of (take n s) ≡ reading_of x → Cut message n a.value x → ToldAsAClip s n
  by-cut (bad r) e c = refused (rw e c.0) (rw e c.1)
  by-cut (ok w q) e c = go (left_of a.value w c.0)
    where
      go : LeftOf a.value w → ToldAsAClip s n
      go (six-left l) = before-release7 (e ∙ rw (c.1, l, record_is))
      go (none_left l) = before-release6 (e ∙ rw (c.1, l, record_is))

  cut_so : n * 8 < a.place → ToldAsAClip s n
  cut_so l = by-cut ((format message).read (take n s) 0) (by-message (take n s) (fits-still (omega (arith, within))) ((format message).read (take n s) 0) refl) (law.0 l)

  same_so : a.place ≤ n * 8 → read_of (take n s) ≡ read_of s
  same_so l = go (leb (length s) n) refl
    where
      go : (b : Bool) → leb (length s) n ≡ b → read_of (take n s) ≡ read_of s
      go true e = ap read_of (take_all n s (leb-true (length s) n e))
      go false e =
          by-message (take n s) (fits-still (omega (arith, leb-false (length s) n e))) (ok a.value a.place) (law.1 l) ∙ sym a.told

pub a_clip_is_told_as_a_clip : AClipIsToldAsAClip
a_clip_is_told_as_a_clip s z n two =
    let a = accepted s z in (
      λ l. cut_so s a n two (omega (arith, used-is s a n two)),
      λ l. same_so s a n two (omega (arith, used-is s a n two)),
    )

-- ## Listed clips

pub the_listed_clips_are_told_so : TheListedClipsAreToldSo
unfolding notification group_call field bit pad_bit ran_out renumbered
the_listed_clips_are_told_so = refl
