-- Octets gathered to a field, and what taking them one by one makes of what is held. Assumes nothing.
use Rattle.std.proofs.Common.{◌≡◌, ℕ, suc, ◌+◌, ◌<◌, ◌≤◌, Bool, true, false, leb, List, [], ◌∷◌, length, get_or, drop, set, sym, refl, ap, ◌∙◌, add-zero, add-one, arith, length-set}
use Rattle.std.proofs.Common.{drop_of_length-le, drop-cons, leb-true}
use Rattle.bits.specs.Field.{both, pick}
use Rattle.receiver.proofs.Cases.{by-test}
use Rattle.text.specs.Lines.{Line, added}
use Rattle.capture.specs.Capture.{head_length, whole}
use Rattle.capture.specs.Replay.{is_over, said_of, stage_after, line_text, next_number}
use Rattle.capture.specs.Machine.{Machine, field_kept, state_after, is_last, kept_with, took_one, text_one, has_room, Taken, more, fed_by}
use Rattle.capture.specs.Inner.{Gathering, further, gathering}

-- ## The loop that gathers

further_then : (m n : ℕ) (g : Gathering) → further m (further n g) ≡ further (m + n) g
further_then m n g = let z : m + (n + g.taken) ≡ m + n + g.taken = omega arith in ap (λ k. record { kept = g.kept; taken = k; whole = g.whole; have = g.have }) z

module _ (all : Gathering) (kept piece : List ℕ) (have i : ℕ) (there : i < length piece) (so : all ≡ further i (gathering kept have (drop i piece))) where
  o : ℕ
  o = get_or piece i 0

  pub gather_last : is_last (set kept have (get_or piece i 0)) have ≡ true → record { kept = set kept have (get_or piece i 0); taken = i + 1; whole = true; have = have } ≡ all
  unfolding gathering
  gather_last e = sym (so ∙ rw (drop-cons piece i 0 there, e))

  pub gather_more : is_last (set kept have (get_or piece i 0)) have ≡ false → all ≡ further (i + 1) (gathering (set kept have (get_or piece i 0)) (have + 1) (drop (i + 1) piece))
  unfolding gathering
  gather_more e =
      so
      ∙ rw (drop-cons piece i 0 there, e)
      (further_then i 1 (gathering (set kept have (get_or piece i 0)) (suc have) (drop (suc i) piece))
      ∙ rw (add-one have, add-one i))

pub gather_none : (all : Gathering) (kept piece : List ℕ) (have i : ℕ) → length piece ≤ i → all ≡ further i (gathering kept have (drop i piece))
    → record { kept = kept; taken = i; whole = false; have = have } ≡ all
unfolding gathering
gather_none all kept piece have i h so =
    let e : gathering kept have (drop i piece) ≡ record { kept = kept; taken = 0; whole = false; have = have } = rw (drop_of_length-le piece {i = i} h) in
    sym (so ∙ ap (further i) e ∙ rw (add-zero i))

-- ## What is gathered

pub gather_length : (kept : List ℕ) (got : ℕ) (s : List ℕ) → length (gathering kept got s).kept ≡ length kept
unfolding gathering
gather_length kept got [] = refl
gather_length kept got (o ∷ s) =
    by-test (is_last (set kept got o) got) (λ e. rw e (length-set kept got o)) (λ e. rw e (gather_length (set kept got o) (suc got) s ∙ length-set kept got o))

pub gather_within : (kept : List ℕ) (got : ℕ) (s : List ℕ) → (gathering kept got s).taken ≤ length s
unfolding gathering
gather_within kept got [] = omega arith
gather_within kept got (o ∷ s) =
    by-test (is_last (set kept got o) got) (λ e. rw e (omega arith)) (λ e. rw e (omega (arith, gather_within (set kept got o) (suc got) s)))

pub gather_some : (kept : List ℕ) (got : ℕ) (s : List ℕ) → 0 < length s → 0 < (gathering kept got s).taken
unfolding gathering
gather_some kept got [] h = absurd (omega arith)
gather_some kept got (o ∷ s) h = by-test (is_last (set kept got o) got) (λ e. rw e (omega arith)) (λ e. rw e (omega arith))

pub first_of : (a b : Bool) → both a b ≡ true → a ≡ true
first_of true b e = refl
first_of false b e = e

-- the octet that ends a field stands behind its head's first two
pub gather_head : (kept : List ℕ) (got : ℕ) (s : List ℕ) → (gathering kept got s).whole ≡ true → 2 ≤ (gathering kept got s).have
unfolding gathering
gather_head kept got [] w = absurd (never w)
  where
    never : ◌≡◌ {A = Bool} false true → ⊥
    never e = let z : ◌≡◌ {A = ℕ} 0 1 = cc in omega arith
gather_head kept got (o ∷ s) w =
    by-test (is_last (set kept got o) got)
    (λ e. rw e (omega (arith, leb-true head_length (suc got) (first_of (leb head_length (suc got)) _ e))))
    (λ e. rw e (gather_head (set kept got o) (suc got) s (rw e at w)))

-- ## Octet by octet

-- the field goes on
abbrev pub gone_on : Machine → List ℕ → ℕ → Machine
gone_on m kept have = record { number = m.number; stage = m.stage; got = have; kept = kept; state = m.state }

-- it ends
abbrev pub ended_with : Machine → List ℕ → ℕ → Machine
ended_with m kept have =
    record {
      number = next_number m.number;
      stage = stage_after (whole (field_kept kept have)) m.stage;
      got = 0;
      kept = kept;
      state = state_after (field_kept kept have) m.stage m.state;
    }

abbrev pub text_with : Machine → List ℕ → ℕ → List ℕ
text_with m kept have = line_text m.number (said_of (whole (field_kept kept have)) m.stage)

abbrev pub rest_by : Machine → List ℕ → Line → Gathering → Taken
rest_by m s l g =
    pick g.whole (more g.taken (fed_by (ended_with m g.kept g.have) (drop g.taken s) (added (text_with m g.kept g.have) l)))
    (more g.taken (fed_by (gone_on m g.kept g.have) (drop g.taken s) l))

more-none : (t : Taken) → t ≡ more 0 t
more-none t = let z : t.taken ≡ 0 + t.taken = omega arith in ap (λ n. record { machine = t.machine; taken = n; line = t.line }) z

pub more-then : (m n : ℕ) (t : Taken) → more m (more n t) ≡ more (m + n) t
more-then m n t = let z : m + (n + t.taken) ≡ m + n + t.taken = omega arith in ap (λ k. record { machine = t.machine; taken = k; line = t.line }) z

one_more : (m : Machine) (o : ℕ) (s : List ℕ) (l : Line) (g : Gathering) → more 1 (rest_by m s l g) ≡ rest_by m (o ∷ s) l (further 1 g)
one_more m o s l g = by g g.whole refl
  where
    z : (n : ℕ) → 1 + n ≡ suc n
    z n = omega arith

    by : (g : Gathering) (b : Bool) → g.whole ≡ b → more 1 (rest_by m s l g) ≡ rest_by m (o ∷ s) l (further 1 g)
    by g true e = rw (e, z g.taken) (more-then 1 g.taken _ ∙ rw (z g.taken))
    by g false e = rw (e, z g.taken) (more-then 1 g.taken _ ∙ rw (z g.taken))

-- taking octets one by one is gathering them, and what is left
pub taken-gathered : (m : Machine) (s : List ℕ) (l : Line) → is_over m.stage ≡ false → has_room l ≡ true → fed_by m s l ≡ rest_by m s l (gathering m.kept m.got s)
unfolding fed_by gathering took_one text_one
taken-gathered m [] l n r = more-none (fed_by m [] l)
taken-gathered m (o ∷ s) l n r =
    by-test (is_last (kept_with m o) m.got)
    (λ e. rw (r, n, e))
    (λ e. rw (r, n, e) (ap (more 1) (taken-gathered (gone_on m (kept_with m o) (suc m.got)) s l n r) ∙ one_more m o s l (gathering (kept_with m o) (suc m.got) s)))

-- ## Once the run is over

pub over-taken : (m : Machine) (s : List ℕ) (l : Line) → is_over m.stage ≡ true → has_room l ≡ true → fed_by m s l ≡ record { machine = m; taken = length s; line = l }
unfolding fed_by took_one
over-taken m [] l n r = refl
over-taken m (o ∷ s) l n r =
    let z : 1 + length s ≡ suc (length s) = omega arith in
    rw (r, n) (ap (more 1) (over-taken m s l n r) ∙ rw z)
