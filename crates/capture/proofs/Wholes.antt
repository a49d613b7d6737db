-- Octets taken one by one bring the text of the parts that they make: whole fields, and a torn one at the end. Assumes nothing.
use Rattle.std.proofs.Common.{◌≡◌, ℕ, zero, suc, ◌+◌, ◌-◌, ◌<◌, ◌≤◌, Bool, true, false, ltb, leb, List, [], ◌∷◌, ◌++◌, length, get_or, take, drop, set, sym, refl, ap, ◌∙◌, append_assoc}
use Rattle.std.proofs.Common.{append-nil, arith, length-append, length-drop, length-set, length-take-le, take_all, get_or-take, take-suc-set, take_at, take-add, drop_at, lt-ltb, le-leb}
use Rattle.std.proofs.Common.{leb-false, leb-true}
use lib.ListN.{get_or-append}
use lib.Seq.{set_out, take-append-le, drop-append-le, append_snoc}
use Rattle.bits.specs.Field.{both}
use Rattle.receiver.proofs.Cases.{by-test}
use Rattle.capture.specs.Capture.{Field, head_length, length_in, is_whole, first_field, behind_first, Part, whole, torn, parts_from}
use Rattle.capture.specs.Replay.{Stage, is_over, said_of, stage_after, line_text, next_number, text_from}
use Rattle.capture.specs.Machine.{kept_length, Machine, kept_with, is_last, field_kept, took_more, took_last, took_one, text_one, ending}
use Rattle.capture.proofs.Shortened.{most, same-short}
use Rattle.capture.proofs.Runs.{text_all, after_all}

-- ## What is kept of the octets that came

pub record Holds (kept : List ℕ) (got : ℕ) (p : List ℕ) : Type 0 where
  pub counted : got ≡ length p
  pub long : length kept ≡ kept_length
  pub same : take (length p) kept ≡ take kept_length p

pub holds-none : (kept : List ℕ) → length kept ≡ kept_length → Holds kept 0 []
holds-none kept h = record { counted = refl; long = h; same = refl }

module _ (kept : List ℕ) (got : ℕ) (p : List ℕ) (h : Holds kept got p) (o : ℕ) where
  abbrev then : List ℕ
  then = p ++ (o ∷ [])

  then-length : length then ≡ suc (length p)
  then-length = length-append p (o ∷ []) ∙ (let z : length p + 1 ≡ suc (length p) = omega arith in z)

  kept-early : length p < kept_length → take (suc (length p)) (set kept (length p) o) ≡ take kept_length then
  kept-early q =
      take-suc-set kept (length p) o (omega (arith, h.long)) ∙ ap (λ (l : List ℕ). l ++ (o ∷ [])) (h.same ∙ take_all kept_length p (omega arith))
      ∙ sym (take_all kept_length then (omega (arith, then-length)))

  kept-late : kept_length ≤ length p → take (suc (length p)) (set kept (length p) o) ≡ take kept_length then
  kept-late q =
      ap (take (suc (length p))) (set_out kept (length p) o (omega (arith, h.long))) ∙ take_all (suc (length p)) kept (omega (arith, h.long))
      ∙ sym (take_all (length p) kept (omega (arith, h.long))) ∙ h.same ∙ sym (take-append-le kept_length p (o ∷ []) q)

  pub holds-next : Holds (set kept got o) (suc got) then
  holds-next =
      rw h.counted
      (record {
        counted = sym then-length;
        long = length-set kept (length p) o ∙ h.long;
        same =
            rw then-length (by-test (leb kept_length (length p)) (λ q. kept-late (leb-true kept_length (length p) q)) (λ q. kept-early (leb-false kept_length (length p) q)));
      })

-- the first octets are there
module _ (kept : List ℕ) (got : ℕ) (p : List ℕ) (h : Holds kept got p) where
  pub octet-same : (i : ℕ) → i < length p → i < kept_length → get_or kept i 0 ≡ get_or p i 0
  octet-same i a b = sym (get_or-take (length p) kept i 0 a) ∙ ap (λ (l : List ℕ). get_or l i 0) h.same ∙ get_or-take kept_length p i 0 b

  head-same : head_length ≤ length p → length_in kept ≡ length_in p
  head-same a = rw (octet-same 1 (omega arith) (omega arith), octet-same 2 (omega arith) (omega arith))

-- the octet that ends a field makes it whole
pub last-whole : (kept : List ℕ) (got : ℕ) (q : List ℕ) → Holds kept (suc got) q → is_last kept got ≡ is_whole q
last-whole kept got q h =
    rw h.counted
    (by-test (leb head_length (length q)) (λ e. rw (e, head-same kept (suc got) q h (leb-true head_length (length q) e))) (λ e. rw e))

-- ## A field that an octet makes whole

second : (a b : Bool) → both a b ≡ true → b ≡ true
second true b e = e
second false b e = absurd (let z : ◌≡◌ {A = ℕ} 0 1 = cc in (omega arith))

first : (a b : Bool) → both a b ≡ true → a ≡ true
first true b e = refl
first false b e = e

not_second : (a b : Bool) → both a b ≡ false → a ≡ true → b ≡ false
not_second true b e f = e
not_second false b e f = absurd (let z : ◌≡◌ {A = ℕ} 0 1 = cc in (omega arith))

module _ (p : List ℕ) (o : ℕ) (not_yet : is_whole p ≡ false) (now : is_whole (p ++ (o ∷ [])) ≡ true) where
  abbrev q : List ℕ
  q = p ++ (o ∷ [])

  q-length : length q ≡ length p + 1
  q-length = length-append p (o ∷ [])

  pub headed : head_length ≤ length q
  headed = leb-true head_length (length q) (first (leb head_length (length q)) (leb (head_length + length_in q) (length q)) now)

  at_least : head_length + length_in q ≤ length q
  at_least = leb-true (head_length + length_in q) (length q) (second (leb head_length (length q)) (leb (head_length + length_in q) (length q)) now)

  before-length : head_length ≤ length p → length_in q ≡ length_in p
  before-length h = rw (get_or-append p (o ∷ []) 0 1 (omega arith), get_or-append p (o ∷ []) 0 2 (omega arith))

  at_most : length q ≤ head_length + length_in q
  at_most = by-test (leb head_length (length p)) late early
    where
      late : leb head_length (length p) ≡ true → length q ≤ head_length + length_in q
      late e =
          let l = leb-false (head_length + length_in p) (length p) (not_second (leb head_length (length p)) (leb (head_length + length_in p) (length p)) not_yet e) in
          omega (arith, before-length (leb-true head_length (length p) e), q-length)

      early : leb head_length (length p) ≡ false → length q ≤ head_length + length_in q
      early e = omega (arith, leb-false head_length (length p) e, q-length)

  pub exact : head_length + length_in q ≡ length q
  exact = omega (arith, at_least, at_most)

  contents-length : length (drop head_length q) ≡ length_in q
  contents-length = length-drop head_length q ∙ (let z : length q - head_length ≡ length_in q = omega (arith, exact) in z)

  -- with what stands behind it
  module _ (s : List ℕ) where
    pub same_head : length_in (q ++ s) ≡ length_in q
    same_head = rw (get_or-append q s 0 1 (omega (arith, headed)), get_or-append q s 0 2 (omega (arith, headed)))

    pub whole-then : is_whole (q ++ s) ≡ true
    whole-then =
        let n = length-append q s in
        rw (le-leb head_length (length (q ++ s)) (omega (arith, headed)), same_head) (le-leb (head_length + length_in q) (length (q ++ s)) (omega (arith, at_least)))

    pub field-then : first_field (q ++ s) ≡ record { tag = get_or q 0 0; contents = drop head_length q }
    field-then =
        rw
        (same_head, get_or-append q s 0 0 (omega (arith, headed)), drop-append-le head_length q s headed, take_at (drop head_length q) s (length_in q) contents-length)

    pub behind-then : behind_first (q ++ s) ≡ s
    behind-then = rw same_head (drop_at q s (head_length + length_in q) (sym exact))

  -- what is kept of it is its first octets
  pub field-kept : (kept : List ℕ) (got : ℕ) → Holds kept (suc got) q → field_kept kept got ≡ record { tag = get_or q 0 0; contents = take most (drop head_length q) }
  field-kept kept got h =
      let t : take (suc got) kept ≡ take kept_length q = rw h.counted h.same in
      let d : drop head_length (take kept_length q) ≡ take most (drop head_length q) =
      ap (drop head_length) (take-add head_length most q) ∙ drop_at (take head_length q) (take most (drop head_length q)) head_length (length-take-le head_length q headed) in
      rw (t, d, octet-same kept (suc got) q h 0 (omega (arith, headed)) (omega arith))

-- ## Parts

pub parts_none : (k : ℕ) → parts_from k [] ≡ []
unfolding parts_from
parts_none zero = refl
parts_none (suc k) = refl

pub parts_whole : (k : ℕ) (q : List ℕ) → 0 < length q → is_whole q ≡ true → parts_from (suc k) q ≡ whole (first_field q) ∷ parts_from k (behind_first q)
unfolding parts_from
parts_whole k [] h e = absurd (omega arith)
parts_whole k (t ∷ s) h e = rw e

pub parts-torn : (k : ℕ) (q : List ℕ) → 0 < length q → is_whole q ≡ false → parts_from (suc k) q ≡ torn (get_or q 0 0) ∷ []
unfolding parts_from
parts-torn k [] h e = absurd (omega arith)
parts-torn k (t ∷ s) h e = rw e

-- ## Once the run is over

over-text : (m : Machine) (s : List ℕ) → is_over m.stage ≡ true → text_all m s ≡ []
unfolding text_all text_one took_one
over-text m [] e = refl
over-text m (o ∷ s) e = rw e (over-text m s e)

over-after : (m : Machine) (s : List ℕ) → is_over m.stage ≡ true → after_all m s ≡ m
unfolding after_all took_one
over-after m [] e = refl
over-after m (o ∷ s) e = rw e (over-after m s e)

pub no_ending : (a : Bool) → both a false ≡ false
no_ending true = refl
no_ending false = refl

over-parts : (n : ℕ) (st : Stage) (ps : List Part) → is_over st ≡ true → text_from n st ps ≡ []
unfolding text_from
over-parts n st [] e = refl
over-parts n st (p ∷ ps) e = rw e

over-run : (m : Machine) (s : List ℕ) (ps : List Part) → is_over m.stage ≡ true → text_all m s ++ ending (after_all m s) ≡ text_from m.number m.stage ps
over-run m s ps e = rw (over-text m s e, over-after m s e, e, no_ending (ltb 0 m.got), over-parts m.number m.stage ps e)

-- ## The end of the octets

module _ (m : Machine) (p : List ℕ) (goes : is_over m.stage ≡ false) (h : Holds m.kept m.got p) (not_yet : is_whole p ≡ false) where
  end_none : (k : ℕ) → length p ≡ 0 → ending m ≡ text_from m.number m.stage (parts_from k p)
  unfolding text_from parts_from
  end_none k e = by p e h.counted
    where
      by : (p : List ℕ) → length p ≡ 0 → m.got ≡ length p → ending m ≡ text_from m.number m.stage (parts_from k p)
      by [] e c = rw (c, parts_none k)
      by (t ∷ p) e c = absurd (omega arith)

  end-torn : (k : ℕ) → 0 < length p → ending m ≡ text_from m.number m.stage (parts_from (suc k) p)
  unfolding text_from
  end-torn k q =
      rw (parts-torn k p q not_yet, goes, h.counted, lt-ltb 0 (length p) q, octet-same m.kept m.got p h 0 q (omega arith))
      (sym (append-nil (line_text m.number (said_of (torn (get_or p 0 0)) m.stage))))

  end-run : (k : ℕ) → length p ≤ k → ending m ≡ text_from m.number m.stage (parts_from k p)
  end-run zero q = end_none zero (omega arith)
  end-run (suc k) q = by-test (leb 1 (length p)) (λ e. end-torn k (leb-true 1 (length p) e)) (λ e. end_none (suc k) (omega (arith, leb-false 1 (length p) e)))

-- ## All octets

-- the octet that ends a field: its line, and the rest from there
module _ (m : Machine) (p : List ℕ) (o : ℕ) (s : List ℕ) (k : ℕ) (goes : is_over m.stage ≡ false) (h : Holds m.kept m.got p) (not_yet : is_whole p ≡ false)
    (now : is_whole (p ++ (o ∷ [])) ≡ true) where
  abbrev pub got-whole : Field
  got-whole = record { tag = get_or (p ++ (o ∷ [])) 0 0; contents = drop head_length (p ++ (o ∷ [])) }

  pub is-kept : field_kept (kept_with m o) m.got ≡ record { tag = get_or (p ++ (o ∷ [])) 0 0; contents = take most (drop head_length (p ++ (o ∷ []))) }
  is-kept = field-kept p o not_yet now (kept_with m o) m.got (holds-next m.kept m.got p h o)

  pub said-whole : said_of (whole (field_kept (kept_with m o) m.got)) m.stage ≡ said_of (whole got-whole) m.stage
  said-whole = ap (λ (f : Field). said_of (whole f) m.stage) is-kept ∙ (same-short (get_or (p ++ (o ∷ [])) 0 0) (drop head_length (p ++ (o ∷ []))) m.stage).0

  pub stage-whole : stage_after (whole (field_kept (kept_with m o) m.got)) m.stage ≡ stage_after (whole got-whole) m.stage
  stage-whole = ap (λ (f : Field). stage_after (whole f) m.stage) is-kept ∙ (same-short (get_or (p ++ (o ∷ [])) 0 0) (drop head_length (p ++ (o ∷ []))) m.stage).1

  pub parts-here : parts_from (suc k) ((p ++ (o ∷ [])) ++ s) ≡ whole got-whole ∷ parts_from k s
  parts-here =
      parts_whole k ((p ++ (o ∷ [])) ++ s) (omega (arith, length-append (p ++ (o ∷ [])) s, length-append p (o ∷ []))) (whole-then p o not_yet now s)
      ∙ rw (field-then p o not_yet now s, behind-then p o not_yet now s)

  pub last-run : (rest : List ℕ) → rest ≡ text_from (next_number m.number) (stage_after (whole (field_kept (kept_with m o) m.got)) m.stage) (parts_from k s)
      → line_text m.number (said_of (whole (field_kept (kept_with m o) m.got)) m.stage) ++ rest ≡ text_from m.number m.stage (parts_from (suc k) ((p ++ (o ∷ [])) ++ s))
  unfolding text_from
  last-run rest e = rw (parts-here, goes, e, said-whole, stage-whole)

none-run : (m : Machine) → text_all m [] ++ ending (after_all m []) ≡ ending m
unfolding text_all after_all
none-run m = refl

-- one octet more
module _ (m : Machine) (o : ℕ) (s : List ℕ) (goes : is_over m.stage ≡ false) where
  last-took : is_last (kept_with m o) m.got ≡ true → took_one m o ≡ took_last m o
  unfolding took_one
  last-took e = rw (goes, e)

  last-text : is_last (kept_with m o) m.got ≡ true → text_one m o ≡ line_text m.number (said_of (whole (field_kept (kept_with m o) m.got)) m.stage)
  unfolding text_one
  last-text e = rw (goes, e)

  more-took : is_last (kept_with m o) m.got ≡ false → took_one m o ≡ took_more m o
  unfolding took_one
  more-took e = rw (goes, e)

  more-text : is_last (kept_with m o) m.got ≡ false → text_one m o ≡ []
  unfolding text_one
  more-text e = rw (goes, e)

  one-run : (t : List ℕ) (m' : Machine) → text_one m o ≡ t → took_one m o ≡ m' → text_all m (o ∷ s) ++ ending (after_all m (o ∷ s)) ≡ t ++ (text_all m' s ++ ending (after_all m' s))
  unfolding text_all after_all
  one-run t m' e f =
      append_assoc (text_one m o) (text_all (took_one m o) s) (ending (after_all (took_one m o) s)) ∙ ap (λ (x : List ℕ). x ++ (text_all (took_one m o) s ++ ending (after_all (took_one m o) s))) e
      ∙ ap (λ (x : Machine). t ++ (text_all x s ++ ending (after_all x s))) f

pub run-text : (s : List ℕ) (k : ℕ) (p : List ℕ) (m : Machine) → Holds m.kept m.got p → is_whole p ≡ false → length (p ++ s) ≤ k
    → text_all m s ++ ending (after_all m s) ≡ text_from m.number m.stage (parts_from k (p ++ s))
run-text [] k p m h w l =
    by-test (is_over m.stage) (λ e. over-run m [] (parts_from k (p ++ [])) e)
    (λ e. none-run m ∙ rw (append-nil p) (end-run m p e h w k (rw (append-nil p) at l)))
run-text (o ∷ s) zero p m h w l = absurd (omega (arith, length-append p (o ∷ s)))
run-text (o ∷ s) (suc k) p m h w l =
    let q : List ℕ = p ++ (o ∷ []) in
    let n : Holds (kept_with m o) (suc m.got) q = holds-next m.kept m.got p h o in
    let b : is_last (kept_with m o) m.got ≡ is_whole q = last-whole (kept_with m o) m.got q n in
    let t : q ++ s ≡ p ++ (o ∷ s) = append_snoc p o s in
    let z : length (q ++ s) ≤ suc k = rw t l in
    by-test (is_over m.stage) (λ e. over-run m (o ∷ s) (parts_from (suc k) (p ++ (o ∷ s))) e)
    (λ e.
    by-test (is_whole q)
    (λ u.
    let m' : Machine = took_last m o in
    let i = run-text s k [] m' (holds-none m'.kept n.long) refl (omega (arith, length-append p (o ∷ s))) in
    one-run m o s e _ m' (last-text m o s e (b ∙ u)) (last-took m o s e (b ∙ u)) ∙ rw (← t) (last-run m p o s k e h w u (text_all m' s ++ ending (after_all m' s)) i))
    (λ u. one-run m o s e [] (took_more m o) (more-text m o s e (b ∙ u)) (more-took m o s e (b ∙ u)) ∙ rw (← t) (run-text s (suc k) q (took_more m o) n u z)))
