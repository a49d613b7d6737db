-- What a request is given by results is what it is given by the uplink by value, in the header's numbers. Assumes nothing.
use mathlib.Core.Path.{◌≡◌, refl, sym, ap, ◌∙◌}
use mathlib.Core.List.{List, [], ◌∷◌, ◌++◌, map}
use Prim.Native.Nat.{ℕ, ◌<◌}
use native.Mathlib.Omega.{arith}
use lib.Dec.{eqb}
use Rattle.bits.specs.Field.{pick}
use Rattle.uplink.specs.declared.Uplink.{Uplink}
use Rattle.uplink.specs.declared.End.{End}
use Rattle.uplink.specs.declared.Told.{Told}
use Rattle.uplink.specs.declared.Answer.{Answer}
use Rattle.uplink.specs.Uplink.{Event, step_of}
use Rattle.uplink.specs.History.{Reply}
use Rattle.uplink.specs.Promises.{reply_of, replies_from, at_once, given, until_waiting, ends_in}
use Rattle.uplink.proofs.Tests.{by_clock}
use Rattle.uplink.proofs.Sums.{late-step, timely-step}
use Rattle.uplink_lent.specs.State.{end_number, told_number, result_of, code_of, octets_after}
use Rattle.uplink_lent.specs.Promises.{refusal_in, end_in, told_in_of, Ticks, results, ends_among, given_in}
use Rattle.uplink_lent.proofs.Octets.{small-end, small-told}
use Rattle.uplink_lent.proofs.Runs.{Reads, code_is, reads_on}

-- ## The octets of a result

module _ (r : Reply) (h : r.refusal < 256) where
  pub refusal-told : refusal_in (result_of r) ≡ r.refusal
  refusal-told = omega (arith, small-end r.end, small-told r.told)

  pub end-told : end_in (result_of r) ≡ end_number r.end
  end-told = omega (arith, small-end r.end, small-told r.told)

  pub request-told : told_in_of (result_of r) ≡ told_number r.told
  request-told = omega (arith, small-end r.end, small-told r.told)

-- a refusal is 0 or 9
small : (u : Uplink) (e : Event) → (step_of u e).refusal < 256
small u e =
    by_clock e.tick u.tick (λ q. let z = ap (λ (a : Answer). a.refusal) (late-step u e q) in omega arith)
    (λ q. let z = ap (λ (a : Answer). a.refusal) (timely-step u e q) in omega arith)

-- those of the result of an event, on octets that read as an uplink
module _ (l : List ℕ) (u : Uplink) (r : Reads l u) (e : Event) where
  abbrev reply : Reply
  reply = reply_of (step_of u e)

  pub refusal_in_lem : refusal_in (code_of l e) ≡ reply.refusal
  refusal_in_lem = ap refusal_in (code_is l u r e) ∙ refusal-told reply (small u e)

  pub end_in_lem : end_in (code_of l e) ≡ end_number reply.end
  end_in_lem = ap end_in (code_is l u r e) ∙ end-told reply (small u e)

  pub told_in : told_in_of (code_of l e) ≡ told_number reply.told
  told_in = ap told_in_of (code_is l u r e) ∙ request-told reply (small u e)

-- ## Lists of ends

abbrev pub numbered : List End → List ℕ
numbered = map end_number

numbered-both : (a b : List End) → numbered (a ++ b) ≡ numbered a ++ numbered b
numbered-both [] b = refl
numbered-both (x ∷ a) b = ap (λ (l : List ℕ). end_number x ∷ l) (numbered-both a b)

given-numbered : (x : End) → pick (eqb (end_number x) 0) [] (end_number x ∷ []) ≡ numbered (given x)
given-numbered End.Nothing = refl
given-numbered End.Granted = refl
given-numbered End.Rejected = refl

until_numbered : (t : Told) (l : List End) → pick (eqb (told_number t) 3) [] (numbered l) ≡ numbered (until_waiting t l)
until_numbered Told.Nothing l = refl
until_numbered Told.Granted l = refl
until_numbered Told.Waiting l = refl
until_numbered Told.AlreadyWaiting l = refl

at_once-numbered : (t : Told) → pick (eqb (told_number t) 1) (1 ∷ []) [] ≡ numbered (at_once t)
at_once-numbered Told.Nothing = refl
at_once-numbered Told.Granted = refl
at_once-numbered Told.Waiting = refl
at_once-numbered Told.AlreadyWaiting = refl

-- ## What is given

pub ends-numbered : (fs : List Event) (l : List ℕ) (u : Uplink) → Reads l u → Ticks fs → ends_among (results l fs) ≡ numbered (ends_in (replies_from u fs))
unfolding ends_among results ends_in replies_from
ends-numbered [] l u r k = refl
ends-numbered (e ∷ fs) l u r k =
    let a = step_of u e in
    let rest = ends_in (replies_from a.uplink fs) in
    rw (end_in_lem l u r e, told_in l u r e, ends-numbered fs (octets_after l e) a.uplink (reads_on l u r e k.0) k.1)
    (rw (given-numbered a.«end», until_numbered a.told rest) (sym (numbered-both (given a.«end») (until_waiting a.told rest))))

pub given_is : (l : List ℕ) (u : Uplink) → Reads l u → (e : Event) (fs : List Event) → Ticks (e ∷ fs)
    → given_in l e fs ≡ numbered (at_once (step_of u e).told ++ ends_in (replies_from (step_of u e).uplink fs))
given_is l u r e fs k =
    let a = step_of u e in
    let later = ends_in (replies_from a.uplink fs) in
    rw (told_in l u r e, ends-numbered fs (octets_after l e) a.uplink (reads_on l u r e k.0) k.1)
    (rw (at_once-numbered a.told) (sym (numbered-both (at_once a.told) later)))
