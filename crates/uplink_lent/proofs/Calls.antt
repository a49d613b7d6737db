-- What setup and events leave: octets of another length, refused, accepted. Assumes nothing.
use mathlib.Core.Path.{◌≡◌, sym, ap, ◌∙◌}
use mathlib.Core.Bool.{Bool, true, false}
use mathlib.Core.List.{List}
use Prim.Native.Nat.{ℕ}
use lib.Dec.{eqb}
use lib.ListN.{length}
use native.Mathlib.Omega.{arith}
use borrow.Author.Tests.{eqb-true, eq-eqb, ne_eqb}
use Rattle.uplink.specs.declared.Uplink.{Uplink}
use Rattle.uplink.specs.declared.Signal.{Signal}
use Rattle.uplink.specs.declared.Signal.TheVariants.{Free, Busy, Request, Tick}
use Rattle.uplink.specs.declared.Answer.{Answer}
use Rattle.uplink.specs.declared.Setup.{Setup}
use Rattle.uplink.specs.declared.Started.{Started}
use Rattle.uplink.specs.Uplink.{Event, by_signal, passed, after_signal, step_of, started_of}
use Rattle.uplink.specs.Promises.{reply_of}
use Rattle.uplink.proofs.Tests.{by_clock}
use Rattle.uplink.proofs.Sums.{late-step, timely-step}
use Rattle.uplink_lent.specs.Inner.{Stands}
use Rattle.uplink_lent.specs.State.{uplink_length, uplink_of, octets_of, result_of, setup_code, setup_octets, code_of, octets_after}
use Rattle.uplink_lent.proofs.Standing.{not_so}

-- ## A setup, with what the uplink by value answers

module _ (l : List ℕ) (s : Setup) where
  pub setup_strange : (length l ≡ uplink_length → ⊥) → (13 ≡ setup_code l s) × (l ≡ setup_octets l s)
  unfolding setup_code setup_octets
  setup_strange z = (rw (ne_eqb (length l) uplink_length z), rw (ne_eqb (length l) uplink_length z))

  module _ (n : length l ≡ uplink_length) (r : Started) (e : r ≡ started_of s) where
    pub setup_refused : (r.refusal ≡ 0 → ⊥) → (r.refusal ≡ setup_code l s) × (l ≡ setup_octets l s)
    unfolding setup_code setup_octets
    setup_refused z = (rw (eq-eqb (length l) uplink_length n, ← e), rw (eq-eqb (length l) uplink_length n, ← e, ne_eqb r.refusal 0 z))

    pub setup_accepted : r.refusal ≡ 0 → (left : List ℕ) → left ≡ octets_of r.uplink → (0 ≡ setup_code l s) × (left ≡ setup_octets l s)
    unfolding setup_code setup_octets
    setup_accepted p left q =
        (rw (eq-eqb (length l) uplink_length n, ← e, p), q ∙ rw (eq-eqb (length l) uplink_length n, ← e, eq-eqb r.refusal 0 p))

-- ## An event, likewise

module _ (l : List ℕ) (e : Event) where
  pub event_strange : (length l ≡ uplink_length → ⊥) → (13 ≡ code_of l e) × (l ≡ octets_after l e)
  unfolding code_of octets_after
  event_strange z = (rw (ne_eqb (length l) uplink_length z), rw (ne_eqb (length l) uplink_length z))

  module _ (n : length l ≡ uplink_length) (u : Uplink) (a : Answer) (code : ℕ) (p : u ≡ uplink_of l) (q : a ≡ step_of u e) (c : code ≡ result_of (reply_of a)) where
    answered : a ≡ step_of (uplink_of l) e
    answered = q ∙ ap (λ (v : Uplink). step_of v e) p

    event-code : code ≡ code_of l e
    unfolding code_of
    event-code = c ∙ rw (eq-eqb (length l) uplink_length n, ← answered)

    pub event-refused : (a.refusal ≡ 0 → ⊥) → (code ≡ code_of l e) × (l ≡ octets_after l e)
    unfolding octets_after
    event-refused z = (event-code, rw (eq-eqb (length l) uplink_length n, ← answered, ne_eqb a.refusal 0 z))

    pub event-accepted : a.refusal ≡ 0 → (left : List ℕ) → left ≡ octets_of a.uplink → (code ≡ code_of l e) × (left ≡ octets_after l e)
    unfolding octets_after
    event-accepted z left o = (event-code, o ∙ rw (eq-eqb (length l) uplink_length n, ← answered, eq-eqb a.refusal 0 z))

-- ## What a tick leaves of a "free" that no longer counts

free-after : (u : Uplink) (n : ℕ) (s : Signal) → by_signal s false false false (eqb u.free 0) ≡ true → (after_signal (passed u n) s).free ≡ u.free
unfolding after_signal passed
free-after u n Free p = absurd (not_so p)
free-after u n Busy p = absurd (not_so p)
free-after u n Request p = absurd (not_so p)
free-after u n Tick p = let z = eqb-true u.free 0 p in omega arith

free-kept : (u : Uplink) (e : Event) → by_signal e.signal false false false (eqb u.free 0) ≡ true → (step_of u e).uplink.free ≡ u.free
free-kept u e p =
    by_clock e.tick u.tick (λ q. ap (λ (a : Answer). a.uplink.free) (late-step u e q))
    (λ q. ap (λ (a : Answer). a.uplink.free) (timely-step u e q) ∙ free-after u e.tick e.signal p)

pub free-stands : (l : List ℕ) (e : Event) (u : Uplink) (a : Answer) → a ≡ step_of u e → Stands l 8 u.free → (stays : Bool)
    → stays ≡ by_signal e.signal false false false (eqb u.free 0) → stays ≡ true → Stands l 8 a.uplink.free
free-stands l e u a q s stays r t = rw (q, free-kept u e (sym r ∙ t)) s
