-- A step takes octets up to a field's end, and steps make a call: what each leaves is what taking octet by octet gives. Assumes nothing.
use Rattle.std.proofs.Common.{Some, ◌≡◌, ℕ, zero, suc, ◌+◌, ◌-◌, ◌<◌, ◌≤◌, min, Bool, true, false, not, ltb, leb, List, [], ◌∷◌, ◌++◌, length, get_or, take, drop, sym, refl, ap, ◌∙◌, arith}
use Rattle.std.proofs.Common.{length-drop, drop_of_length-le, length-take-le, take_all, drop-drop, take-add, drop_at, lt-ltb, eq-eqb, ne_eqb, le-leb, leb-false, leb-true}
use Rattle.bits.specs.Field.{both}
use Rattle.receiver.proofs.Cases.{by-test}
use Rattle.layout.specs.Layout.{state_length, last_of}
use Rattle.text.specs.Lines.{Line, added}
use Rattle.text.proofs.Lines.{line, parted}
use Rattle.capture.specs.declared.Phase.{Phase}
use Rattle.capture.specs.declared.Phase.TheVariants.{Before, Running, Over}
use Rattle.capture.specs.declared.Replay.{Replay}
use Rattle.capture.specs.declared.Fed.{Fed}
use Rattle.capture.specs.declared.answers.Answered.{Answered}
use Rattle.capture.specs.Capture.{head_length}
use Rattle.capture.specs.Replay.{Stage, is_over, field_text, line_text, next_number}
use Rattle.capture.specs.Machine.{kept_length, Machine, stage_in, machine_of, field_kept, most_text, has_room, Taken, none_taken, more, fed_by, Replayed, ended_by, place_ended}
use Rattle.capture.specs.Inner.{Gathering, gathering, shown_by, Answers, Stepped}
use Rattle.capture.proofs.Texts.{nothing-added}
use Rattle.capture.proofs.Telling.{torn-text}
use Rattle.capture.proofs.Gathered.{gather_length, gather_head, gather_some, gather_within, ended_with, text_with, rest_by, more-then, taken-gathered, over-taken}

-- whether the run is over does not hang on the lent octets
pub over-same : (p : Phase) (a b : List ℕ) → is_over (stage_in p a) ≡ is_over (stage_in p b)
over-same Before a b = refl
over-same Running a b = refl
over-same Over a b = refl

-- ## The contents of a field, as they are lent

pub kept-part : (l : List ℕ) (have end : ℕ) → length l ≡ kept_length → end ≡ min (suc have) kept_length → 2 ≤ have
    → take (end - head_length) (drop head_length l) ≡ drop head_length (take (suc have) l)
kept-part l have end w e h =
    let a : head_length + (end - head_length) ≡ end = omega arith in
    let s : take end l ≡ take head_length l ++ take (end - head_length) (drop head_length l) = rw a at (take-add head_length (end - head_length) l) in
    let t : take end l ≡ take (suc have) l = by-test (leb (suc have) kept_length) (λ q. short (leb-true (suc have) kept_length q)) (λ q. long (leb-false (suc have) kept_length q)) in
    sym (ap (drop head_length) (sym t ∙ s) ∙ drop_at (take head_length l) (take (end - head_length) (drop head_length l)) head_length (length-take-le head_length l (omega arith)))
  where
    short : suc have ≤ kept_length → take end l ≡ take (suc have) l
    short q = let z : end ≡ suc have = omega arith in rw z

    long : kept_length < suc have → take end l ≡ take (suc have) l
    long q = take_all end l (omega arith) ∙ sym (take_all (suc have) l (omega arith))

-- a field that is whole has its head
pub whole-head : (kept piece kept' : List ℕ) (got taken have : ℕ) (w : Bool) → record { kept = kept'; taken = taken; whole = w; have = have } ≡ gathering kept got piece → w ≡ true → 2 ≤ have
whole-head kept piece kept' got taken have w g e =
    rw (ap (λ (x : Gathering). x.have) g) (gather_head kept got piece (sym (ap (λ (x : Gathering). x.whole) g) ∙ e))

pub kept-length : (kept piece kept' : List ℕ) (got taken have : ℕ) (w : Bool) → record { kept = kept'; taken = taken; whole = w; have = have } ≡ gathering kept got piece → length kept' ≡ length kept
kept-length kept piece kept' got taken have w g = rw (ap (λ (x : Gathering). x.kept) g) (gather_length kept got piece)

-- ## A step

module _ (r : Replay) (kept state piece out : List ℕ) (at : ℕ) (goes : is_over (stage_in r.phase []) ≡ false) (room : at + most_text ≤ length out) (any : 0 < length piece) where
  module _ (kept' : List ℕ) (taken have : ℕ) (w : Bool) (g : record { kept = kept'; taken = taken; whole = w; have = have } ≡ gathering kept r.got piece) where
    rest-is : fed_by (machine_of r kept state) piece (line out at) ≡ rest_by (machine_of r kept state) piece (line out at) (record { kept = kept'; taken = taken; whole = w; have = have })
    rest-is =
        taken-gathered (machine_of r kept state) piece (line out at) (over-same r.phase state [] ∙ goes) (le-leb (at + most_text) (length out) room)
        ∙ ap (rest_by (machine_of r kept state) piece (line out at)) (sym g)

    some-taken : 0 < taken
    some-taken = rw (ap (λ (x : Gathering). x.taken) g) (gather_some kept r.got piece any)

    within-piece : taken ≤ length piece
    within-piece = rw (ap (λ (x : Gathering). x.taken) g) (gather_within kept r.got piece)

    pub step-more : w ≡ false
        → Stepped (machine_of r kept state) piece (line out at) (record { replay = record { number = r.number; phase = r.phase; got = have }; taken = taken; at = at }) kept' state out
    step-more e = record { rest = rest-is ∙ rw e; any = some-taken; within = within-piece }

    module _ (a : Answered) (left : List ℕ) (answers : Answers (field_kept kept' have) (stage_in r.phase state) state a left) where
      ended_is : (n : ℕ) → n ≡ next_number r.number → ended_with (machine_of r kept state) kept' have ≡ machine_of (record { number = n; phase = a.phase; got = 0 }) kept' left
      ended_is n e =
          let w : Machine = ended_with (machine_of r kept state) kept' have in
          ap (λ (k : ℕ). record { number = k; stage = w.stage; got = 0; kept = kept'; state = w.state }) (sym e)
          ∙ ap (λ (s : Stage). record { number = n; stage = s; got = 0; kept = kept'; state = w.state }) (sym answers.stage)
          ∙ ap (λ (s : List ℕ). record { number = n; stage = stage_in a.phase left; got = 0; kept = kept'; state = s }) (sym answers.octets)

      pub step-whole : w ≡ true → (n end : ℕ) (out' : List ℕ) → n ≡ next_number r.number
          → line out' end ≡ added (line_text r.number (shown_by (get_or kept' 0 0) a.refusal (last_of left))) (line out at)
          → Stepped (machine_of r kept state) piece (line out at) (record { replay = record { number = n; phase = a.phase; got = 0 }; taken = taken; at = end }) kept' left out'
      step-whole e n end out' f t =
          let text : added (text_with (machine_of r kept state) kept' have) (line out at) ≡ line out' end = sym (t ∙ ap (λ s. added (line_text r.number s) (line out at)) answers.said) in
          record { rest = rest-is ∙ rw (e, ended_is n f, text); any = some-taken; within = within-piece }

-- ## A call

pub no_room : (m : Machine) (s : List ℕ) (l : Line) → has_room l ≡ false → fed_by m s l ≡ none_taken m l
unfolding fed_by
no_room m [] l e = refl
no_room m (o ∷ s) l e = rw e

ready : (m : Machine) (s : List ℕ) (l : Line) (f : Fed) (kept state out : List ℕ) → length m.kept ≡ kept_length → length m.state ≡ state_length
    → record { machine = machine_of f.replay kept state; taken = f.taken; line = line out f.at } ≡ fed_by m s l → Replayed m s l f kept state out
ready m s l f kept state out h g e = record { taken = rw (eq-eqb (length m.kept) kept_length h, eq-eqb (length m.state) state_length g) e }

pub not_kept : (r : Replay) (kept state piece out : List ℕ) (at : ℕ) → (length kept ≡ kept_length → ⊥)
    → Replayed (machine_of r kept state) piece (line out at) (record { replay = r; taken = 0; at = at }) kept state out
not_kept r kept state piece out at z = record { taken = rw (ne_eqb (length kept) kept_length z) }

pub not_lent : (r : Replay) (kept state piece out : List ℕ) (at : ℕ) → length kept ≡ kept_length → (length state ≡ state_length → ⊥)
    → Replayed (machine_of r kept state) piece (line out at) (record { replay = r; taken = 0; at = at }) kept state out
not_lent r kept state piece out at h z = record { taken = rw (eq-eqb (length kept) kept_length h, ne_eqb (length state) state_length z) }

-- what the loop keeps to: what is left to take gives the whole
pub record Going (all : Taken) (kept₀ state₀ out₀ piece : List ℕ) (kept state out : List ℕ) (held : Replay) (end i : ℕ) : Type 0 where
  pub low : i ≤ length piece
  pub long : length kept ≡ kept_length
  pub lent : length state ≡ state_length
  pub text : length out ≡ length out₀
  pub rest : all ≡ more i (fed_by (machine_of held kept state) (drop i piece) (line out end))

pub going-first : (kept state out piece : List ℕ) (r : Replay) (at : ℕ) → length kept ≡ kept_length → length state ≡ state_length
    → Going (fed_by (machine_of r kept state) piece (line out at)) kept state out piece kept state out r at 0
going-first kept state out piece r at h g =
    let t : Taken = fed_by (machine_of r kept state) piece (line out at) in
    let z : t.taken ≡ 0 + t.taken = omega arith in
    record { low = omega arith; long = h; lent = g; text = refl; rest = ap (λ n. record { machine = t.machine; taken = n; line = t.line }) z }

module _ (r : Replay) (kept₀ state₀ out₀ piece : List ℕ) (at : ℕ) (kept state out : List ℕ) (held : Replay) (end i : ℕ) (h : length kept₀ ≡ kept_length) (g : length state₀ ≡ state_length)
    (goes : Going (fed_by (machine_of r kept₀ state₀) piece (line out₀ at)) kept₀ state₀ out₀ piece kept state out held end i) where
  abbrev said : Taken → Type 0
  said t = fed_by (machine_of held kept state) (drop i piece) (line out end) ≡ t

  finished : (n : ℕ) → fed_by (machine_of held kept state) (drop i piece) (line out end) ≡ record { machine = machine_of held kept state; taken = n; line = line out end }
      → (k : ℕ) → k ≡ i + n → Replayed (machine_of r kept₀ state₀) piece (line out₀ at) (record { replay = held; taken = k; at = end }) kept state out
  finished n e k q =
      ready (machine_of r kept₀ state₀) piece (line out₀ at) (record { replay = held; taken = k; at = end }) kept state out h g
      (sym (goes.rest ∙ ap (more i) e ∙ ap (λ j. record { machine = machine_of held kept state; taken = j; line = line out end }) (sym q)))

  pub fed-all : length piece ≤ i → Replayed (machine_of r kept₀ state₀) piece (line out₀ at) (record { replay = held; taken = i; at = end }) kept state out
  unfolding fed_by
  fed-all q = finished 0 (rw (drop_of_length-le piece {i = i} q)) i (omega arith)

  pub fed-full : has_room (line out end) ≡ false → Replayed (machine_of r kept₀ state₀) piece (line out₀ at) (record { replay = held; taken = i; at = end }) kept state out
  fed-full e = finished 0 (no_room (machine_of held kept state) (drop i piece) (line out end) e) i (omega arith)

  pub fed-over : has_room (line out end) ≡ true → is_over (stage_in held.phase []) ≡ true
      → Replayed (machine_of r kept₀ state₀) piece (line out₀ at) (record { replay = held; taken = length piece; at = end }) kept state out
  fed-over e v =
      finished (length (drop i piece)) (over-taken (machine_of held kept state) (drop i piece) (line out end) (over-same held.phase state [] ∙ v) e) (length piece)
      (rw length-drop (omega (arith, goes.low)))

  pub fed-next : (f : Fed) (kept' state' out' : List ℕ) → length kept' ≡ length kept → length state' ≡ length state → length out' ≡ length out
      → Stepped (machine_of held kept state) (drop i piece) (line out end) f kept' state' out'
      → Going (fed_by (machine_of r kept₀ state₀) piece (line out₀ at)) kept₀ state₀ out₀ piece kept' state' out' f.replay f.at (i + f.taken)
  fed-next f kept' state' out' a b c s =
      record {
        low = omega (arith, goes.low, s.within, length-drop i piece);
        long = a ∙ goes.long;
        lent = b ∙ goes.lent;
        text = c ∙ goes.text;
        rest =
            goes.rest ∙ ap (more i) s.rest ∙ more-then i f.taken (fed_by (machine_of f.replay kept' state') (drop f.taken (drop i piece)) (line out' f.at))
            ∙ ap (λ (p : List ℕ). more (i + f.taken) (fed_by (machine_of f.replay kept' state') p (line out' f.at))) (drop-drop f.taken i piece);
      }

-- ## The end

module _ (m : Machine) (l : List ℕ) (at : ℕ) where
  module _ (room : has_room (line l at) ≡ true) where
    pub ended_none : both (ltb 0 m.got) (not (is_over m.stage)) ≡ false → (at ≡ (ended_by m (line l at)).at) × (l ≡ (ended_by m (line l at)).octets)
    ended_none e = parted (rw (room, e) (nothing-added l at (omega (arith, leb-true (at + most_text) (length l) room))))

    pub ended_torn : both (ltb 0 m.got) (not (is_over m.stage)) ≡ true → (o : List ℕ) (end tag : ℕ) → tag ≡ get_or m.kept 0 0
        → line o end ≡ added (field_text m.number tag 18 0) (line l at) → (end ≡ (ended_by m (line l at)).at) × (o ≡ (ended_by m (line l at)).octets)
    ended_torn e o end tag t f = parted (rw (room, e, ← t, ← torn-text m.number tag) f)

-- the place that is answered, where there is room
pub ended_place : (m : Machine) (l : List ℕ) (at end : ℕ) → has_room (line l at) ≡ true → end ≡ (ended_by m (line l at)).at → Some end ≡ place_ended m (line l at)
ended_place m l at end room e = let f = rw room at e in rw room (ap Some f)

pub not_begun : (b : Bool) (got : ℕ) → got ≡ 0 → both (ltb 0 got) b ≡ false
not_begun b got e = rw e

pub over_none : (got : ℕ) (b : Bool) → b ≡ true → both (ltb 0 got) (not b) ≡ false
over_none got b e = rw e (never (ltb 0 got))
  where
    never : (a : Bool) → both a false ≡ false
    never true = refl
    never false = refl

pub positive : (n : ℕ) → (n ≡ 0 → ⊥) → 0 < n
positive zero h = absurd (h refl)
positive (suc n) h = omega arith

pub begun-torn : (got : ℕ) (b : Bool) → (got ≡ 0 → ⊥) → b ≡ false → both (ltb 0 got) (not b) ≡ true
begun-torn got b n e = rw (e, lt-ltb 0 got (positive got n))
