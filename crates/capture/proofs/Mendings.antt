-- Mending, a field at a time: what a step and a call leave is what mending octet by octet gives. Assumes nothing.
use Rattle.std.proofs.Common.{Some, ◌≡◌, ℕ, suc, ◌+◌, ◌%◌, ◌^◌, ◌<◌, ◌≤◌, min, Bool, true, false, not, eqb, ltb, leb, List, [], ◌∷◌, ◌++◌, length, take, drop, sym, refl, ap, ◌∙◌, append_assoc}
use Rattle.std.proofs.Common.{arith, length-append, length-drop, drop_of_length-le, take_all, drop-drop, eq-eqb, ne_eqb, eqb-true, leb-false, leb-true}
use Rattle.bits.specs.Field.{both, pick}
use Rattle.receiver.proofs.Cases.{by-test}
use Rattle.layout.specs.Layout.{state_length, Last, last_of}
use Rattle.text.specs.Lines.{Line, added}
use Rattle.text.specs.Digits.{decimal}
use Rattle.text.proofs.Lines.{line, parted}
use Rattle.capture.specs.declared.Mend.{Mend}
use Rattle.capture.specs.declared.Mended.{Mended}
use Rattle.capture.specs.declared.answers.Answered.{Answered}
use Rattle.capture.specs.Capture.{whole}
use Rattle.capture.specs.Replay.{Said, Stage, is_over, said_of, next_number, blank, line_end}
use Rattle.capture.specs.Machine.{kept_length, Machine, stage_in, machine_of, field_kept, kept_with, is_last, took_one}
use Rattle.capture.specs.Mend.{left_text, further_by}
use Rattle.capture.specs.Mending.{Mending, mending_of, mended_one, Lines, wrote, most_listed, room_for, have_room, MendTaken, none_mended, more_mended, mended_by, MendFed, mend_ended_by, mend_place_ended}
use Rattle.capture.specs.Inner.{Gathering, further, gathering, shown_by, Answers, MendStepped}
use Rattle.capture.proofs.Texts.{nothing-added, then-added, length-number}
use Rattle.capture.proofs.Gathered.{gather_some, gather_within, gone_on, ended_with}
use Rattle.capture.proofs.Stepping.{over-same}

abbrev pub lines : List ℕ → ℕ → List ℕ → ℕ → Lines
lines copy copied list listed = record { copy = line copy copied; list = line list listed }

-- ## Two tests

pub second-of : (a b : Bool) → both a b ≡ true → b ≡ true
second-of true b e = e
second-of false b e = absurd (never e)
  where
    never : ◌≡◌ {A = Bool} false true → ⊥
    never e = let z : ◌≡◌ {A = ℕ} 0 1 = cc in omega arith

-- ## A line of the list

pub three-added : (l : List ℕ) (at : ℕ) → at + 63 ≤ length l → (n t r : ℕ) (w x y : Line) → w ≡ added (decimal n ++ (blank ∷ [])) (line l at) → x ≡ added (decimal t ++ (blank ∷ [])) w
    → y ≡ added (decimal r ++ (line_end ∷ [])) x → y ≡ added (left_text n t r) (line l at)
unfolding left_text
three-added l at h n t r w x y e f g =
    let s1 : List ℕ = decimal n ++ (blank ∷ []) in
    let s2 : List ℕ = decimal t ++ (blank ∷ []) in
    let s3 : List ℕ = decimal r ++ (line_end ∷ []) in
    let k1 : length s1 ≤ 21 = length-number n blank in
    let k2 : length s2 ≤ 21 = length-number t blank in
    let k3 : length s3 ≤ 21 = length-number r line_end in
    let m2 : length (s1 ++ s2) ≡ length s1 + length s2 = length-append s1 s2 in
    let a = then-added s1 s2 l at w x (omega arith) e f in
    let q : (s1 ++ s2) ++ s3 ≡ left_text n t r = simp append_assoc in
    then-added (s1 ++ s2) s3 l at x y (omega arith) a g ∙ ap (λ (s : List ℕ). added s (line l at)) q

-- ## What a field has written

module _ (octets : List ℕ) (n offset refusal : ℕ) (copy : List ℕ) (copied : ℕ) (list : List ℕ) (listed : ℕ) where
  pub wrote-copy : refusal ≡ 0 → (copy' : List ℕ) (copied' : ℕ) → line copy' copied' ≡ added octets (line copy copied)
      → lines copy' copied' list listed ≡ wrote octets n offset refusal (lines copy copied list listed)
  unfolding wrote
  wrote-copy z copy' copied' e = rw (eq-eqb refusal 0 z) (ap (λ (x : Line). record { copy = x; list = line list listed }) e)

  pub wrote-left : (refusal ≡ 0 → ⊥) → (list' : List ℕ) (listed' : ℕ) → line list' listed' ≡ added (left_text n offset refusal) (line list listed)
      → lines copy copied list' listed' ≡ wrote octets n offset refusal (lines copy copied list listed)
  unfolding wrote
  wrote-left z list' listed' e = rw (ne_eqb refusal 0 z) (ap (λ (x : Line). record { copy = line copy copied; list = x }) e)

-- the refusal that is shown is the number
shown-refusal : (tag n : ℕ) (a : Last) → (shown_by tag n a).refusal ≡ n
shown-refusal tag n a = by-test (eqb n 0) (λ e. rw e (sym (eqb-true n 0 e))) (λ e. rw e)

pub wrap_twice : (x h y z : ℕ) → y ≡ (x + h) % 2 ^ 64 → z ≡ (y + 1) % 2 ^ 64 → z ≡ further_by x (suc h)
wrap_twice x h y z e f = omega arith

-- all that is kept
pub kept-take : (l : List ℕ) (have end : ℕ) → length l ≡ kept_length → end ≡ min (suc have) kept_length → take end l ≡ take (suc have) l
kept-take l have end w e =
    by-test (leb (suc have) kept_length)
    (λ q.
    let b : suc have ≤ kept_length = leb-true (suc have) kept_length q in
    let z : end ≡ suc have = omega arith in
    rw z)
    (λ q.
    let b : kept_length < suc have = leb-false (suc have) kept_length q in
    take_all end l (omega arith) ∙ sym (take_all (suc have) l (omega arith)))

-- ## Octet by octet

abbrev pub mend_gone : Mending → List ℕ → ℕ → Mending
mend_gone m kept have = record { machine = gone_on m.machine kept have; offset = m.offset }

abbrev pub mend_ended : Mending → List ℕ → ℕ → Mending
mend_ended m kept have = record { machine = ended_with m.machine kept have; offset = further_by m.offset (suc have) }

abbrev pub mend_wrote : Mending → List ℕ → ℕ → Lines → Lines
mend_wrote m kept have l = wrote (take (suc have) kept) m.machine.number m.offset (said_of (whole (field_kept kept have)) m.machine.stage).refusal l

abbrev pub mend_rest : Mending → List ℕ → Lines → Gathering → MendTaken
mend_rest m s l g =
    pick g.whole (more_mended g.taken (mended_by (mend_ended m g.kept g.have) (drop g.taken s) (mend_wrote m g.kept g.have l)))
    (more_mended g.taken (mended_by (mend_gone m g.kept g.have) (drop g.taken s) l))

more-none : (t : MendTaken) → t ≡ more_mended 0 t
more-none t = let z : t.taken ≡ 0 + t.taken = omega arith in ap (λ n. record { mending = t.mending; taken = n; lines = t.lines }) z

pub more-then : (m n : ℕ) (t : MendTaken) → more_mended m (more_mended n t) ≡ more_mended (m + n) t
more-then m n t = let z : m + (n + t.taken) ≡ m + n + t.taken = omega arith in ap (λ k. record { mending = t.mending; taken = k; lines = t.lines }) z

one_more : (m : Mending) (o : ℕ) (s : List ℕ) (l : Lines) (g : Gathering) → more_mended 1 (mend_rest m s l g) ≡ mend_rest m (o ∷ s) l (further 1 g)
one_more m o s l g = by g g.whole refl
  where
    z : (n : ℕ) → 1 + n ≡ suc n
    z n = omega arith

    by : (g : Gathering) (b : Bool) → g.whole ≡ b → more_mended 1 (mend_rest m s l g) ≡ mend_rest m (o ∷ s) l (further 1 g)
    by g true e = rw (e, z g.taken) (more-then 1 g.taken _ ∙ rw (z g.taken))
    by g false e = rw (e, z g.taken) (more-then 1 g.taken _ ∙ rw (z g.taken))

-- mending octets one by one is gathering them, and what is left
mended_gathered : (m : Mending) (s : List ℕ) (l : Lines) → is_over m.machine.stage ≡ false → have_room l ≡ true
    → mended_by m s l ≡ mend_rest m s l (gathering m.machine.kept m.machine.got s)
unfolding mended_by gathering took_one mended_one
mended_gathered m [] l n r = more-none (mended_by m [] l)
mended_gathered m (o ∷ s) l n r =
    let k : List ℕ = kept_with m.machine o in
    by-test (is_last (kept_with m.machine o) m.machine.got)
    (λ e. rw (r, n, e))
    (λ e. rw (r, n, e) (ap (more_mended 1) (mended_gathered (mend_gone m k (suc m.machine.got)) s l n r) ∙ one_more m o s l (gathering k (suc m.machine.got) s)))

over_mended : (m : Mending) (s : List ℕ) (l : Lines) → is_over m.machine.stage ≡ true → have_room l ≡ true → mended_by m s l ≡ record { mending = m; taken = length s; lines = l }
unfolding mended_by took_one mended_one
over_mended m [] l n r = refl
over_mended m (o ∷ s) l n r =
    let z : 1 + length s ≡ suc (length s) = omega arith in
    rw (r, n) (ap (more_mended 1) (over_mended m s l n r) ∙ rw z)

pub no_room : (m : Mending) (s : List ℕ) (l : Lines) → have_room l ≡ false → mended_by m s l ≡ none_mended m l
unfolding mended_by
no_room m [] l e = refl
no_room m (o ∷ s) l e = rw e

-- ## A step

module _ (m : Mend) (kept state piece copy : List ℕ) (copied : ℕ) (list : List ℕ) (listed : ℕ) (goes : is_over (stage_in m.replay.phase []) ≡ false)
    (room : have_room (lines copy copied list listed) ≡ true) (any : 0 < length piece)
    (kept' : List ℕ) (taken have : ℕ) (w : Bool) (g : record { kept = kept'; taken = taken; whole = w; have = have } ≡ gathering kept m.replay.got piece) where
  abbrev all : MendTaken
  all = mended_by (mending_of m kept state) piece (lines copy copied list listed)

  rest-is : all ≡ mend_rest (mending_of m kept state) piece (lines copy copied list listed) (record { kept = kept'; taken = taken; whole = w; have = have })
  rest-is =
      mended_gathered (mending_of m kept state) piece (lines copy copied list listed) (over-same m.replay.phase state [] ∙ goes) room
      ∙ ap (mend_rest (mending_of m kept state) piece (lines copy copied list listed)) (sym g)

  some-taken : 0 < taken
  some-taken = rw (ap (λ (x : Gathering). x.taken) g) (gather_some kept m.replay.got piece any)

  within-piece : taken ≤ length piece
  within-piece = rw (ap (λ (x : Gathering). x.taken) g) (gather_within kept m.replay.got piece)

  pub mend_more : w ≡ false
      → MendStepped (mending_of m kept state) piece (lines copy copied list listed)
      (record { mend = record { replay = record { number = m.replay.number; phase = m.replay.phase; got = have }; offset = m.offset }; taken = taken; copied = copied; listed = listed })
      kept' state copy list
  mend_more e = record { rest = rest-is ∙ rw e; any = some-taken; within = within-piece }

  module _ (a : Answered) (left : List ℕ) (answers : Answers (field_kept kept' have) (stage_in m.replay.phase state) state a left) where
    abbrev here : Machine
    here = ended_with (machine_of m.replay kept state) kept' have

    ended_is : (n o : ℕ) → n ≡ next_number m.replay.number → o ≡ further_by m.offset (suc have)
        → mend_ended (mending_of m kept state) kept' have ≡ mending_of (record { replay = record { number = n; phase = a.phase; got = 0 }; offset = o }) kept' left
    ended_is n o e f =
        ap (λ (k : ℕ). record { machine = here; offset = k }) (sym f)
        ∙ ap (λ (k : ℕ). record { machine = record { number = k; stage = here.stage; got = 0; kept = kept'; state = here.state }; offset = o }) (sym e)
        ∙ ap (λ (s : Stage). record { machine = record { number = n; stage = s; got = 0; kept = kept'; state = here.state }; offset = o }) (sym answers.stage)
        ∙ ap (λ (s : List ℕ). record { machine = record { number = n; stage = stage_in a.phase left; got = 0; kept = kept'; state = s }; offset = o }) (sym answers.octets)

    refusal_is : (said_of (whole (field_kept kept' have)) (stage_in m.replay.phase state)).refusal ≡ a.refusal
    refusal_is = ap (λ (s : Said). s.refusal) (sym answers.said) ∙ shown-refusal (field_kept kept' have).tag a.refusal (last_of left)

    pub mend_whole : w ≡ true → (n o copied' listed' : ℕ) (octets copy' list' : List ℕ) → n ≡ next_number m.replay.number → o ≡ further_by m.offset (suc have)
        → octets ≡ take (suc have) kept'
        → lines copy' copied' list' listed' ≡ wrote octets m.replay.number m.offset a.refusal (lines copy copied list listed)
        → MendStepped (mending_of m kept state) piece (lines copy copied list listed)
        (record { mend = record { replay = record { number = n; phase = a.phase; got = 0 }; offset = o }; taken = taken; copied = copied'; listed = listed' }) kept' left copy' list'
    mend_whole e n o copied' listed' octets copy' list' f h q t =
        let l : Lines = lines copy copied list listed in
        let text : mend_wrote (mending_of m kept state) kept' have (lines copy copied list listed) ≡ lines copy' copied' list' listed' =
        ap (λ (k : ℕ). wrote (take (suc have) kept') m.replay.number m.offset k l) refusal_is
        ∙ ap (λ (s : List ℕ). wrote s m.replay.number m.offset a.refusal l) (sym q) ∙ sym t in
        record { rest = rest-is ∙ rw (e, ended_is n o f h, text); any = some-taken; within = within-piece }

-- ## A call

module _ (m : Mend) (kept state piece copy : List ℕ) (copied : ℕ) (list : List ℕ) (listed : ℕ) where
  pub mend_not_kept : (length kept ≡ kept_length → ⊥)
      → MendFed (mending_of m kept state) piece (lines copy copied list listed) (record { mend = m; taken = 0; copied = copied; listed = listed }) kept state copy list
  mend_not_kept z = record { taken = rw (ne_eqb (length kept) kept_length z) }

  pub mend_not_lent : length kept ≡ kept_length → (length state ≡ state_length → ⊥)
      → MendFed (mending_of m kept state) piece (lines copy copied list listed) (record { mend = m; taken = 0; copied = copied; listed = listed }) kept state copy list
  mend_not_lent h z = record { taken = rw (eq-eqb (length kept) kept_length h, ne_eqb (length state) state_length z) }

-- what the loop keeps to: what is left to take gives the whole
pub record MendGoing (all : MendTaken) (copy₀ list₀ piece kept state copy list : List ℕ) (held : Mend) (end left i : ℕ) : Type 0 where
  pub low : i ≤ length piece
  pub long : length kept ≡ kept_length
  pub lent : length state ≡ state_length
  pub copies : length copy ≡ length copy₀
  pub lists : length list ≡ length list₀
  pub rest : all ≡ more_mended i (mended_by (mending_of held kept state) (drop i piece) (lines copy end list left))

module _ (m : Mend) (kept₀ state₀ piece copy₀ : List ℕ) (copied : ℕ) (list₀ : List ℕ) (listed : ℕ) (h : length kept₀ ≡ kept_length) (g : length state₀ ≡ state_length) where
  abbrev whole-call : MendTaken
  whole-call = mended_by (mending_of m kept₀ state₀) piece (lines copy₀ copied list₀ listed)

  pub mend_first : MendGoing whole-call copy₀ list₀ piece kept₀ state₀ copy₀ list₀ m copied listed 0
  mend_first = record { low = omega arith; long = h; lent = g; copies = refl; lists = refl; rest = more-none whole-call }

  module _ (kept state copy list : List ℕ) (held : Mend) (end left i : ℕ) (goes : MendGoing whole-call copy₀ list₀ piece kept state copy list held end left i) where
    finished : (n : ℕ) → mended_by (mending_of held kept state) (drop i piece) (lines copy end list left)
        ≡ record { mending = mending_of held kept state; taken = n; lines = lines copy end list left }
        → (k : ℕ) → k ≡ i + n
        → MendFed (mending_of m kept₀ state₀) piece (lines copy₀ copied list₀ listed) (record { mend = held; taken = k; copied = end; listed = left }) kept state copy list
    finished n e k q =
        let a = goes.rest ∙ ap (more_mended i) e ∙ ap (λ j. record { mending = mending_of held kept state; taken = j; lines = lines copy end list left }) (sym q) in
        record { taken = rw (eq-eqb (length kept₀) kept_length h, eq-eqb (length state₀) state_length g) (sym a) }

    pub mend_all : length piece ≤ i
        → MendFed (mending_of m kept₀ state₀) piece (lines copy₀ copied list₀ listed) (record { mend = held; taken = i; copied = end; listed = left }) kept state copy list
    unfolding mended_by
    mend_all q = finished 0 (rw (drop_of_length-le piece {i = i} q)) i (omega arith)

    pub mend_full : have_room (lines copy end list left) ≡ false
        → MendFed (mending_of m kept₀ state₀) piece (lines copy₀ copied list₀ listed) (record { mend = held; taken = i; copied = end; listed = left }) kept state copy list
    mend_full e = finished 0 (no_room (mending_of held kept state) (drop i piece) (lines copy end list left) e) i (omega arith)

    pub mend_over : have_room (lines copy end list left) ≡ true → is_over (stage_in held.replay.phase []) ≡ true
        → MendFed (mending_of m kept₀ state₀) piece (lines copy₀ copied list₀ listed) (record { mend = held; taken = length piece; copied = end; listed = left }) kept state copy list
    mend_over e v =
        finished (length (drop i piece)) (over_mended (mending_of held kept state) (drop i piece) (lines copy end list left) (over-same held.replay.phase state [] ∙ v) e) (length piece)
        (rw length-drop (omega (arith, goes.low)))

    pub mend_next : (f : Mended) (kept' state' copy' list' : List ℕ) → length kept' ≡ length kept → length state' ≡ length state → length copy' ≡ length copy → length list' ≡ length list
        → MendStepped (mending_of held kept state) (drop i piece) (lines copy end list left) f kept' state' copy' list'
        → MendGoing whole-call copy₀ list₀ piece kept' state' copy' list' f.mend f.copied f.listed (i + f.taken)
    mend_next f kept' state' copy' list' a b c d s =
        let l : Lines = lines copy' f.copied list' f.listed in
        record {
          low = omega (arith, goes.low, s.within, length-drop i piece);
          long = a ∙ goes.long;
          lent = b ∙ goes.lent;
          copies = c ∙ goes.copies;
          lists = d ∙ goes.lists;
          rest =
              goes.rest ∙ ap (more_mended i) s.rest ∙ more-then i f.taken (mended_by (mending_of f.mend kept' state') (drop f.taken (drop i piece)) l)
              ∙ ap (λ (p : List ℕ). more_mended (i + f.taken) (mended_by (mending_of f.mend kept' state') p l)) (drop-drop f.taken i piece);
        }

-- ## The end

module _ (m : Mending) (l : List ℕ) (at : ℕ) where
  module _ (room : room_for most_listed (line l at) ≡ true) where
    pub mend_ended-none : both (ltb 0 m.machine.got) (not (is_over m.machine.stage)) ≡ false → (at ≡ (mend_ended_by m (line l at)).at) × (l ≡ (mend_ended_by m (line l at)).octets)
    mend_ended-none e = parted (rw (room, e) (nothing-added l at (omega (arith, leb-true (at + most_listed) (length l) room))))

    pub mend_ended-torn : both (ltb 0 m.machine.got) (not (is_over m.machine.stage)) ≡ true → (o : List ℕ) (end : ℕ)
        → line o end ≡ added (left_text m.machine.number m.offset 18) (line l at) → (end ≡ (mend_ended_by m (line l at)).at) × (o ≡ (mend_ended_by m (line l at)).octets)
    mend_ended-torn e o end f = parted (rw (room, e) f)

-- the place that is answered, where there is room
pub mend_ended_place : (m : Mending) (l : List ℕ) (at end : ℕ) → room_for most_listed (line l at) ≡ true → end ≡ (mend_ended_by m (line l at)).at → Some end ≡ mend_place_ended m (line l at)
mend_ended_place m l at end room e = let f = rw room at e in rw room (ap Some f)
