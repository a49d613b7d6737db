-- Octets mended one by one have copied and listed what the parts are that they make: whole fields, and a torn one at the end. Assumes nothing.
use mathlib.Core.Path.{◌≡◌, refl, sym, ap, ◌∙◌}
use mathlib.Core.Bool.{true, false}
use mathlib.Core.List.{List, [], ◌∷◌, ◌++◌, append-nil, append_assoc}
use native.Mathlib.Omega.{arith}
use borrow.Author.Tests.{leb-true, leb-false, lt-ltb, eqb-true}
use Prim.Native.Nat.{ℕ, zero, suc, ◌+◌, ◌≤◌, ◌<◌}
use lib.ListN.{length, take, drop, length-append, length-drop}
use lib.Seq.{take_all, take_at, drop_at, append_snoc}
use lib.Dec.{leb, ltb, eqb}
use Rattle.receiver.proofs.Cases.{by-test}
use Rattle.capture.specs.Capture.{field_octets, head_length, length_in, is_whole, Part, whole, parts_from}
use Rattle.capture.specs.Replay.{Said, is_over, said_of, input_ends}
use Rattle.capture.specs.Machine.{kept_length, kept_with, is_last, took_more, took_last, took_one}
use Rattle.capture.specs.Mend.{copy_of, left_text, list_of, further_by, Parted, nothing, ahead, then_listed, mend_from}
use Rattle.capture.specs.Mending.{Mending, mended_one, refusal_one, mend_ending}
use Rattle.mending.specs.Promises.{Octets}
use Rattle.capture.proofs.Shortened.{accepted-short}
use Rattle.capture.proofs.Wholes.{Holds, holds-none, holds-next, last-whole, headed, exact, same_head, whole-then}
use Rattle.capture.proofs.Wholes.{field-then, parts_none, parts-torn, no_ending, got-whole, said-whole, stage-whole, parts-here}
use Rattle.mending.proofs.Mends.{octets_are, octets-behind, over-after}
use Rattle.mending.proofs.Runs.{copy_by, list_by, copy_one, list_one, parted_all, mend_after}

-- what octets bring, with the end behind them
abbrev ran : Mending → List ℕ → Parted
ran m s = then_listed (parted_all m s) (mend_ending (mend_after m s))

-- what the parts of octets bring
abbrev due : Mending → List Part → Parted
due m ps = mend_from m.machine.number m.offset m.machine.stage ps

-- ## Once the run is over

over-parted : (m : Mending) (s : List ℕ) → is_over m.machine.stage ≡ true → parted_all m s ≡ nothing
unfolding parted_all copy_one list_one mended_one took_one
over-parted m [] e = refl
over-parted m (o ∷ s) e = rw e (ap (λ (p : Parted). ahead [] [] p) (over-parted m s e))

over_mended : (m : Mending) (s : List ℕ) → is_over m.machine.stage ≡ true → mend_after m s ≡ m
unfolding mend_after mended_one took_one
over_mended m [] e = refl
over_mended m (o ∷ s) e = rw e (over_mended m s e)

over-ran : (m : Mending) (s : List ℕ) (ps : List Part) → is_over m.machine.stage ≡ true → ran m s ≡ due m ps
over-ran m s ps e =
    rw (over-parted m s e, over_mended m s e, e, no_ending (ltb 0 m.machine.got), over-after m.machine.number m.offset m.machine.stage ps e)

-- ## The end of the octets

module _ (m : Mending) (p : List ℕ) (goes : is_over m.machine.stage ≡ false) (h : Holds m.machine.kept m.machine.got p) (not_yet : is_whole p ≡ false) where
  end_none : (k : ℕ) → length p ≡ 0 → then_listed nothing (mend_ending m) ≡ due m (parts_from k p)
  unfolding mend_from parts_from
  end_none k e = by p e h.counted
    where
      by : (p : List ℕ) → length p ≡ 0 → m.machine.got ≡ length p → then_listed nothing (mend_ending m) ≡ due m (parts_from k p)
      by [] e c = rw (c, parts_none k)
      by (t ∷ p) e c = absurd (omega arith)

  end-torn : (k : ℕ) → 0 < length p → then_listed nothing (mend_ending m) ≡ due m (parts_from (suc k) p)
  unfolding mend_from
  end-torn k q =
      rw (parts-torn k p q not_yet, goes, h.counted, lt-ltb 0 (length p) q)
      (ap (λ (x : List ℕ). record { copied = []; listed = x }) (sym (append-nil (left_text m.machine.number m.offset input_ends))))

  end-ran : (k : ℕ) → length p ≤ k → then_listed nothing (mend_ending m) ≡ due m (parts_from k p)
  end-ran zero q = end_none zero (omega arith)
  end-ran (suc k) q = by-test (leb 1 (length p)) (λ e. end-torn k (leb-true 1 (length p) e)) (λ e. end_none (suc k) (omega (arith, leb-false 1 (length p) e)))

none-ran : (m : Mending) → ran m [] ≡ then_listed nothing (mend_ending m)
unfolding parted_all mend_after
none-ran m = refl

-- ## The octet that ends a field: what it brings, and the rest from there

module _ (m : Mending) (p : List ℕ) (o : ℕ) (s : List ℕ) (k : ℕ) (goes : is_over m.machine.stage ≡ false) (h : Holds m.machine.kept m.machine.got p) (not_yet : is_whole p ≡ false)
    (now : is_whole (p ++ (o ∷ [])) ≡ true) (octets : Octets ((p ++ (o ∷ [])) ++ s)) (last : is_last (kept_with m.machine o) m.machine.got ≡ true) where
  abbrev q : List ℕ
  q = p ++ (o ∷ [])

  abbrev part : Part
  part = whole (got-whole m.machine p o s k goes h not_yet now)

  holds : Holds (kept_with m.machine o) (suc m.machine.got) q
  holds = holds-next m.machine.kept m.machine.got p h o

  field-octets : field_octets (got-whole m.machine p o s k goes h not_yet now) ≡ q
  field-octets =
      ap field_octets (sym (field-then p o not_yet now s)) ∙ octets_are (q ++ s) octets (whole-then p o not_yet now s)
      ∙ rw (same_head p o not_yet now s) (take_at q s (head_length + length_in q) (sym (exact p o not_yet now)))

  so_long : suc m.machine.got ≡ head_length + length (drop head_length q)
  so_long = omega (arith, holds.counted, length-drop head_length q, headed p o not_yet now)

  -- a field that is accepted is short, so that all its octets are kept
  kept-octets : (said_of part m.machine.stage).refusal ≡ 0 → take (suc m.machine.got) (kept_with m.machine o) ≡ field_octets (got-whole m.machine p o s k goes h not_yet now)
  kept-octets e =
      let short = accepted-short _ (drop head_length q) m.machine.stage e in
      ap (λ (i : ℕ). take i (kept_with m.machine o)) holds.counted ∙ holds.same ∙ take_all kept_length q (omega (arith, short, so_long, holds.counted)) ∙ sym field-octets

  refusal_is : refusal_one m.machine o ≡ (said_of part m.machine.stage).refusal
  refusal_is = ap (λ (a : Said). a.refusal) (said-whole m.machine p o s k goes h not_yet now)

  copy_is : copy_one m o ≡ copy_of part m.machine.stage
  unfolding copy_one
  copy_is =
      rw (goes, last)
      (ap (copy_by (take (suc m.machine.got) (kept_with m.machine o))) refusal_is
      ∙ by-test (eqb (said_of part m.machine.stage).refusal 0)
      (λ e. rw e (kept-octets (eqb-true (said_of part m.machine.stage).refusal 0 e)))
      (λ e. rw e))

  list-is : list_one m o ≡ list_of m.machine.number m.offset (said_of part m.machine.stage)
  unfolding list_one
  list-is = rw (goes, last) (ap (list_by m.machine.number m.offset) refusal_is)

  abbrev behind : Mending
  behind = record { machine = took_last m.machine o; offset = further_by m.offset (suc m.machine.got) }

  last_mended : mended_one m o ≡ behind
  unfolding mended_one took_one
  last_mended = rw (goes, last)

  last-ran : (rest : Parted) → rest ≡ due behind (parts_from k s)
      → ahead (copy_of part m.machine.stage) (list_of m.machine.number m.offset (said_of part m.machine.stage)) rest ≡ due m (parts_from (suc k) (q ++ s))
  unfolding mend_from
  last-ran rest e = rw (parts-here m.machine p o s k goes h not_yet now, goes, e, stage-whole m.machine p o s k goes h not_yet now, so_long)

-- ## All octets

one-ran : (m : Mending) (o : ℕ) (s : List ℕ) (c l : List ℕ) (m' : Mending) → copy_one m o ≡ c → list_one m o ≡ l → mended_one m o ≡ m' → ran m (o ∷ s) ≡ ahead c l (ran m' s)
unfolding parted_all mend_after
one-ran m o s c l m' e f g =
    let p : Parted = parted_all (mended_one m o) s in
    ap (λ (x : List ℕ). record { copied = copy_one m o ++ p.copied; listed = x }) (append_assoc (list_one m o) p.listed (mend_ending (mend_after (mended_one m o) s)))
    ∙ ap (λ (x : List ℕ). ahead x (list_one m o) (ran (mended_one m o) s)) e ∙ ap (λ (x : List ℕ). ahead c x (ran (mended_one m o) s)) f ∙ ap (λ (x : Mending). ahead c l (ran x s)) g

-- an octet that ends no field
module _ (m : Mending) (o : ℕ) (goes : is_over m.machine.stage ≡ false) (e : is_last (kept_with m.machine o) m.machine.got ≡ false) where
  abbrev further : Mending
  further = record { machine = took_more m.machine o; offset = m.offset }

  none-copied : copy_one m o ≡ []
  unfolding copy_one
  none-copied = rw (goes, e)

  none-listed : list_one m o ≡ []
  unfolding list_one
  none-listed = rw (goes, e)

  more_mended : mended_one m o ≡ further
  unfolding mended_one took_one
  more_mended = rw (goes, e)

pub run_mended : (s : List ℕ) (k : ℕ) (p : List ℕ) (m : Mending) → Holds m.machine.kept m.machine.got p → is_whole p ≡ false → length (p ++ s) ≤ k → Octets (p ++ s)
    → then_listed (parted_all m s) (mend_ending (mend_after m s)) ≡ mend_from m.machine.number m.offset m.machine.stage (parts_from k (p ++ s))
run_mended [] k p m h w l v =
    by-test (is_over m.machine.stage) (λ e. over-ran m [] (parts_from k (p ++ [])) e)
    (λ e. none-ran m ∙ rw (append-nil p) (end-ran m p e h w k (rw (append-nil p) at l)))
run_mended (o ∷ s) zero p m h w l v = absurd (omega (arith, length-append p (o ∷ s)))
run_mended (o ∷ s) (suc k) p m h w l v =
    let q : List ℕ = p ++ (o ∷ []) in
    let n : Holds (kept_with m.machine o) (suc m.machine.got) q = holds-next m.machine.kept m.machine.got p h o in
    let b : is_last (kept_with m.machine o) m.machine.got ≡ is_whole q = last-whole (kept_with m.machine o) m.machine.got q n in
    let t : q ++ s ≡ p ++ (o ∷ s) = append_snoc p o s in
    let z : length (q ++ s) ≤ suc k = rw t l in
    let x : Octets (q ++ s) = rw t v in
    by-test (is_over m.machine.stage) (λ e. over-ran m (o ∷ s) (parts_from (suc k) (p ++ (o ∷ s))) e)
    (λ e.
    by-test (is_whole q)
    (λ u.
    let m' : Mending = record { machine = took_last m.machine o; offset = further_by m.offset (suc m.machine.got) } in
    let y : Octets s = rw (← drop_at q s (length q) refl) (octets-behind (q ++ s) (length q) x) in
    let i = run_mended s k [] m' (holds-none m'.machine.kept n.long) refl (omega (arith, length-append p (o ∷ s))) y in
    one-ran m o s _ _ m' (copy_is m p o s k e h w u x (b ∙ u)) (list-is m p o s k e h w u x (b ∙ u)) (last_mended m p o s k e h w u x (b ∙ u))
    ∙ rw (← t) (last-ran m p o s k e h w u x (b ∙ u) (ran m' s) i))
    (λ u.
    let a = b ∙ u in
    one-ran m o s [] [] (further m o e a) (none-copied m o e a) (none-listed m o e a) (more_mended m o e a)
    ∙ rw (← t) (run_mended s (suc k) q (record { machine = took_more m.machine o; offset = m.offset }) n u z x)))
