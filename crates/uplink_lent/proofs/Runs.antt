-- Octets that a setup and events left are read as the uplink by value, and their results are its answers. Assumes nothing.
use mathlib.Core.Path.{◌≡◌, refl, ◌∙◌}
use mathlib.Core.Bool.{Bool, true, false}
use mathlib.Core.List.{List, [], ◌∷◌}
use mathlib.Core.Logic.{inl}
use Prim.Native.Nat.{ℕ, ◌^◌, ◌≤◌, ◌<◌}
use native.Mathlib.Omega.{arith}
use lib.Dec.{leb}
use lib.ListN.{length, replicate}
use borrow.Author.Tests.{leb-true, eqb-true, eq-eqb}
use Rattle.bits.specs.Field.{pick, set_field}
use Rattle.bits.proofs.Laws.{field_lt, length-set_field, field-set-same, field-set-other}
use Rattle.bits.proofs.Answers.{both_true}
use Rattle.uplink.specs.declared.Uplink.{Uplink}
use Rattle.uplink.specs.declared.Signal.{Signal}
use Rattle.uplink.specs.declared.Setup.{Setup}
use Rattle.uplink.specs.Uplink.{Event, passed, after_signal, step_of, longest, new_uplink, started_of}
use Rattle.uplink.specs.Promises.{reply_of, after}
use Rattle.uplink.proofs.Tests.{by_clock, by-signal}
use Rattle.uplink.proofs.Sums.{late-step, timely-step, asks-keeps, timer-right, started}
use Rattle.uplink_lent.specs.State.{uplink_length, is_uplink, uplink_of, octets_of, result_of, setup_code, setup_octets, code_of, octets_after}
use Rattle.uplink_lent.specs.Promises.{left_after, Ticks}
use Rattle.uplink_lent.proofs.Standing.{Wide}
use Rattle.uplink_lent.proofs.Octets.{length-octets}

-- ## What is written is read back

pub read_wide : (l : List ℕ) → Wide (uplink_of l)
unfolding uplink_of
read_wide l = record { tick = field_lt l 0 32; timer = field_lt l 32 32; free = field_lt l 64 32; wait = field_lt l 96 32 }

module _ (u : Uplink) (w : Wide u) where
  abbrev s0 : List ℕ
  s0 = replicate uplink_length 0

  abbrev s1 : List ℕ
  s1 = set_field s0 0 32 u.tick

  abbrev s2 : List ℕ
  s2 = set_field s1 32 32 u.t3128

  abbrev s3 : List ℕ
  s3 = set_field s2 64 32 u.free

  abbrev s4 : List ℕ
  s4 = set_field s3 96 32 u.wait

  pub read_back : uplink_of (octets_of u) ≡ u
  unfolding uplink_of octets_of
  read_back = λ i.
      record {
        tick =
            (field-set-other s3 96 32 u.wait 0 32 (inl (omega arith)) ∙ field-set-other s2 64 32 u.free 0 32 (inl (omega arith))
            ∙ field-set-other s1 32 32 u.t3128 0 32 (inl (omega arith)) ∙ field-set-same s0 0 32 u.tick w.tick (omega arith))
            i;
        t3128 =
            (field-set-other s3 96 32 u.wait 32 32 (inl (omega arith)) ∙ field-set-other s2 64 32 u.free 32 32 (inl (omega arith))
            ∙ field-set-same s1 32 32 u.t3128 w.timer (simp length-set_field (omega arith)))
            i;
        free =
            (field-set-other s3 96 32 u.wait 64 32 (inl (omega arith))
            ∙ field-set-same s2 64 32 u.free w.free (simp length-set_field (omega arith)))
            i;
        wait = field-set-same s3 96 32 u.wait w.wait (simp length-set_field (omega arith)) i;
      }

-- ## Every uplink that is reached is one of 32 bits

wide-passed : (u : Uplink) (now : ℕ) → now < 2 ^ 32 → Wide u → Wide (passed u now)
unfolding passed
wide-passed u now h w = record { tick = h; timer = w.timer; free = omega arith; wait = omega arith }

wide-after : (v : Uplink) (s : Signal) → Wide v → Wide (after_signal v s)
unfolding after_signal
wide-after v s w =
    by-signal (λ (s : Signal). Wide (after_signal v s)) (record { tick = w.tick; timer = w.timer; free = omega arith; wait = omega arith })
    (record { tick = w.tick; timer = w.timer; free = omega arith; wait = w.wait })
    (asks-keeps v Wide (record { tick = w.tick; timer = w.timer; free = w.free; wait = w.timer }) w) w s

-- ## Octets in a row

-- the octets are a state, and read as the uplink
pub record Reads (l : List ℕ) (u : Uplink) : Type 0 where
  pub size : length l ≡ uplink_length
  pub uplink : uplink_of l ≡ u

reads-octets : (u : Uplink) → Wide u → Reads (octets_of u) u
reads-octets u w = record { size = length-octets u; uplink = read_back u w }

module _ (l : List ℕ) (u : Uplink) (r : Reads l u) (e : Event) where
  pub code_is : code_of l e ≡ result_of (reply_of (step_of u e))
  unfolding code_of
  code_is = rw (eq-eqb (length l) uplink_length r.size, r.uplink)

  pub reads_on : e.tick < 2 ^ 32 → Reads (octets_after l e) (step_of u e).uplink
  unfolding octets_after
  reads_on h =
      let w : Wide u = rw r.uplink at (read_wide l) in
      by_clock e.tick u.tick (λ q. rw (eq-eqb (length l) uplink_length r.size, r.uplink, late-step u e q) r)
      (λ q. rw (eq-eqb (length l) uplink_length r.size, r.uplink, timely-step u e q)
      (reads-octets (after_signal (passed u e.tick) e.signal) (wide-after (passed u e.tick) e.signal (wide-passed u e.tick h w))))

pub reads-after : (es : List Event) (l : List ℕ) (u : Uplink) → Reads l u → Ticks es → Reads (left_after l es) (after u es)
unfolding left_after after
reads-after [] l u r k = r
reads-after (e ∷ es) l u r k = reads-after es (octets_after l e) (step_of u e).uplink (reads_on l u r e k.0) k.1

-- ## What a setup leaves

accepted_in : (b : Bool) (n : ℕ) → pick b n 13 ≡ 0 → (b ≡ true) × (n ≡ 0)
accepted_in true n p = (refl, p)
accepted_in false n p = absurd (omega arith)

module _ (l : List ℕ) (s : Setup) (p : setup_code l s ≡ 0) where
  -- the length is right, and so is T3128
  pub setup_size : length l ≡ uplink_length
  unfolding setup_code
  setup_size = eqb-true (length l) uplink_length (accepted_in (is_uplink l) (started_of s).refusal p).0

  pub setup_right : (started_of s).refusal ≡ 0
  unfolding setup_code
  setup_right = (accepted_in (is_uplink l) (started_of s).refusal p).1

  short : s.t3128 ≤ longest
  short = leb-true s.t3128 longest (both_true (leb 1 s.t3128) (leb s.t3128 longest) (timer-right s setup_right)).1

  pub setup_reads : s.tick < 2 ^ 32 → Reads (setup_octets l s) (started_of s).uplink
  unfolding setup_octets
  setup_reads h =
      rw (eq-eqb (length l) uplink_length setup_size, eq-eqb (started_of s).refusal 0 setup_right, started s setup_right)
      (reads-octets (new_uplink s.tick s.t3128) (record { tick = h; timer = omega (arith, short); free = omega arith; wait = omega arith }))
