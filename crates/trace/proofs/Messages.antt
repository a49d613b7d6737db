-- Whole messages: what the two public functions answer. Assumes nothing.
use mathlib.Core.Path.{◌≡◌, refl, ◌∙◌}
use mathlib.Core.List.{List, []}
use mathlib.Core.Bool.{true}
use Prim.Native.Nat.{ℕ, ◌≤◌, ◌<◌}
use native.Mathlib.Omega.{arith}
use lib.ListN.{length}
use borrow.Author.Tests.{le-leb, lt-leb, eq-eqb, ne_eqb}
use Rattle.nch.specs.Octets.{rest_parts}
use Rattle.facch.specs.Message.{message}
use Rattle.trace.specs.declared.fields.Trace.{Trace}
use Rattle.trace.specs.Fields.{Met, met_of, listing}
use Rattle.trace.specs.NchKinds.{nch_kinds, nch_met}
use Rattle.trace.specs.FacchKinds.{facch_kinds, facch_met}
use Rattle.trace.specs.Inner.{Traced}

abbrev begun : Trace
begun = record { at = 0; met = 0; good = true }

abbrev Answer : ℕ → List ℕ → List ℕ → List Met → Type 0
Answer r l m xs = (r ≡ length xs) × (m ≡ listing l 0 xs)

no_field : (l : List ℕ) → Answer 0 l l []
unfolding listing
no_field l = (refl, refl)

module _ (s l : List ℕ) where
  pub nch-none : (length s ≡ 20 → ⊥) → Answer 0 l l (nch_met s)
  nch-none n = rw (ne_eqb (length s) 20 n) (no_field l)

  pub facch-short : length s < 2 → Answer 0 l l (facch_met s)
  facch-short h = rw (lt-leb 2 (length s) h) (no_field l)

  pub facch-long : 2 ≤ length s → 23 < length s → Answer 0 l l (facch_met s)
  facch-long g h = rw (le-leb 2 (length s) g, lt-leb (length s) 23 h) (no_field l)

  module _ {r : Trace} {m : List ℕ} where
    pub nch-all : length s ≡ 20 → Traced rest_parts nch_kinds s begun l r m → Answer r.met l m (nch_met s)
    unfolding met_of
    nch-all e h = rw (eq-eqb (length s) 20 e) (let o = h.step.on refl in (o.met ∙ omega arith, o.list))

    pub facch-all : 2 ≤ length s → length s ≤ 23 → Traced message facch_kinds s begun l r m → Answer r.met l m (facch_met s)
    facch-all d e h = rw (le-leb 2 (length s) d, le-leb (length s) 23 e) (let o = h.step.on refl in (o.met ∙ omega arith, o.list))
