-- The sweep as its code goes: one place, a run of places, a group of eight. Assumes nothing.
use mathlib.Core.Path.{◌≡◌, refl, ap, ap₂, sym, ◌∙◌}
use mathlib.Core.Bool.{Bool, true, false, not}
use mathlib.Core.List.{List}
use Prim.Native.Nat.{ℕ, ◌+◌, ◌≤◌, ◌<◌, ◌*◌, ◌/◌}
use native.Mathlib.Nat.{add-zero, zero-add, add_assoc}
use native.Mathlib.Numerals.{add-one}
use native.Mathlib.Omega.{arith}
use lib.Dec.{leb}
use lib.ListN.{length, get_or}
use borrow.Author.Tests.{ne_eqb}
use Rattle.bits.specs.Field.{both, pick}
use Rattle.csn1.specs.Told.{as_bit}
use Rattle.receiver.specs.declared.Rule.{Rule}
use Rattle.receiver.specs.Channels.{channels, key_count, places}
use Rattle.receiver.specs.Model.{empty_slot, wrap_sub, spares, ran_out_of, taken_of, count_at, expired_of, dropped_of}
use Rattle.layout.specs.Octets.{le_at, tabulate}
use Rattle.layout.specs.Layout.{kinds_from, state_length, is_state, kind_place, since_place, slot_no, decode_of, put_slot}
use Rattle.layout.specs.Sweep.{timer_no, goes, swept_at, swept_run, swept_octets}
use Rattle.layout.proofs.Decoding.{slot_held}
use Rattle.layout.proofs.States.{at-state}
use Rattle.layout.proofs.Sweeps.{ran-empty, swept_kept, taken-empty, goes-empty, length_run, run-then, run-timer, run-slot, run-still, count_run}
use Rattle.layout.proofs.Sweeps.{count-zero, count_next, count-then, count_most, count_ext, count-table, count-expired, count-dropped, still-expired, still-dropped}

-- ## One place

-- whether its half ran out, and whether the rule takes it
abbrev pub ran_at : ℕ → List ℕ → ℕ → Bool
ran_at now l i = ran_out_of now (timer_no l i) (slot_no l i)

abbrev pub taken_at : ℕ → Rule → List ℕ → ℕ → Bool
taken_at now rule l i = taken_of now (timer_no l i) rule i (slot_no l i)

-- the test of the code, by its numbers
pub age-said : (now : ℕ) (l : List ℕ) (i timer since age : ℕ) → timer ≡ timer_no l i → since ≡ le_at 4 l (since_place i) → age ≡ wrap_sub now since
    → leb (timer_no l i) (wrap_sub now (le_at 4 l (since_place i))) ≡ leb timer age
age-said now l i timer since age p q r = ap₂ leb (sym p) (sym (r ∙ ap (λ (x : ℕ). wrap_sub now x) q))

pub ran-held : (now : ℕ) (l : List ℕ) (i : ℕ) → (get_or l (kind_place i) 0 ≡ 0 → ⊥) → ran_at now l i ≡ leb (timer_no l i) (wrap_sub now (le_at 4 l (since_place i)))
unfolding ran_out_of
ran-held now l i held = rw (slot_held l i held, ne_eqb _ _ held)

module _ (now : ℕ) (rule : Rule) (l : List ℕ) (i x d : ℕ) where
  -- what is counted with a place, beside x and d, and what it leaves
  abbrev pub Placed : ℕ → ℕ → List ℕ → Type 0
  Placed x₁ d₁ k = (x₁ ≡ x + as_bit (ran_at now l i)) × ((d₁ ≡ d + as_bit (taken_at now rule l i)) × (k ≡ swept_at now rule l i))

  pub place-empty : get_or l (kind_place i) 0 ≡ 0 → Placed x d l
  place-empty e =
      (rw (ran-empty now l i e) (sym (add-zero x)), (rw (taken-empty now rule l i e) (sym (add-zero d)), sym (swept_kept now rule l i (goes-empty now rule l i e))))

  module _ (held : get_or l (kind_place i) 0 ≡ 0 → ⊥) where
    taken-held : taken_at now rule l i ≡ both (not (ran_at now l i)) (not (spares rule i))
    unfolding taken_of
    taken-held = rw (slot_held l i held, ne_eqb _ _ held)

    pub place_out : leb (timer_no l i) (wrap_sub now (le_at 4 l (since_place i))) ≡ true → Placed (x + 1) d (put_slot l i empty_slot)
    unfolding swept_at
    place_out p =
        let r : ran_at now l i ≡ true = ran-held now l i held ∙ p in
        (rw r, (rw (taken-held, r) (sym (add-zero d)), rw r))

    module _ (young : leb (timer_no l i) (wrap_sub now (le_at 4 l (since_place i))) ≡ false) where
      pub place-taken : spares rule i ≡ false → Placed x (d + 1) (put_slot l i empty_slot)
      unfolding swept_at
      place-taken p =
          let r : ran_at now l i ≡ false = ran-held now l i held ∙ young in
          (rw r (sym (add-zero x)), (rw (taken-held, r, p), rw (r, taken-held, r, p)))

      pub place-stays : spares rule i ≡ true → Placed x d l
      unfolding swept_at
      place-stays p =
          let r : ran_at now l i ≡ false = ran-held now l i held ∙ young in
          (rw r (sym (add-zero x)), (rw (taken-held, r, p) (sym (add-zero d)), rw (r, taken-held, r, p)))

-- ## Places one after the other

-- a place's fate does not depend on those before it
module _ (now : ℕ) (rule : Rule) (from k : ℕ) (l : List ℕ) (m : length l ≡ state_length) (i : ℕ) (lt : i < places) (h : from + k ≤ i) where
  ran-there : ran_at now (swept_run now rule from k l) i ≡ ran_at now l i
  ran-there =
      ap₂ (λ t s. ran_out_of now t s) (run-timer now rule from k l (omega arith) i) (run-slot now rule from k l i m (omega arith) lt (λ x. h))

  taken-there : taken_at now rule (swept_run now rule from k l) i ≡ taken_at now rule l i
  taken-there =
      ap₂ (λ t s. taken_of now t rule i s) (run-timer now rule from k l (omega arith) i) (run-slot now rule from k l i m (omega arith) lt (λ x. h))

-- k places from a place on are swept: what is left, and what was counted beside x₀ and d₀
pub record Sweeping (now : ℕ) (rule : Rule) (from : ℕ) (l : List ℕ) (x₀ d₀ k : ℕ) (b : List ℕ) (x d : ℕ) : Type 0 where
  pub octets : b ≡ swept_run now rule from k l
  pub expired : x ≡ x₀ + count_run (ran_at now l) from k
  pub dropped : d ≡ d₀ + count_run (taken_at now rule l) from k

pub sweeping_none : (now : ℕ) (rule : Rule) (from : ℕ) (l : List ℕ) (x₀ d₀ : ℕ) → Sweeping now rule from l x₀ d₀ 0 l x₀ d₀
unfolding swept_run
sweeping_none now rule from l x₀ d₀ =
    record {
      octets = refl;
      expired = sym (ap (λ n. x₀ + n) (count-zero (ran_at now l) from) ∙ add-zero x₀);
      dropped = sym (ap (λ n. d₀ + n) (count-zero (taken_at now rule l) from) ∙ add-zero d₀);
    }

module _ {now : ℕ} {rule : Rule} {from : ℕ} {l : List ℕ} {x₀ d₀ k : ℕ} {b : List ℕ} {x d : ℕ} (s : Sweeping now rule from l x₀ d₀ k b x d) where
  pub sweeping_few : (x ≤ x₀ + k) × (d ≤ d₀ + k)
  sweeping_few = (
    rw s.expired (omega (arith, count_most (ran_at now l) from k)),
    rw s.dropped (omega (arith, count_most (taken_at now rule l) from k)),
  )

  pub sweeping_length : length b ≡ length l
  sweeping_length = ap length s.octets ∙ length_run now rule from k l

  pub sweeping_timer : (i : ℕ) → from + k ≤ places → timer_no b i ≡ timer_no l i
  sweeping_timer i h = rw s.octets (run-timer now rule from k l h i)

  module _ (m : length l ≡ state_length) {x₁ d₁ : ℕ} {b₁ : List ℕ} where
    -- one place more
    pub sweeping_next : from + k < places → Placed now rule b (from + k) x d x₁ d₁ b₁ → Sweeping now rule from l x₀ d₀ (k + 1) b₁ x₁ d₁
    unfolding swept_run
    sweeping_next h p =
        let r : ran_at now b (from + k) ≡ ran_at now l (from + k) = rw s.octets (ran-there now rule from k l m (from + k) h (omega arith)) in
        let t : taken_at now rule b (from + k) ≡ taken_at now rule l (from + k) =
        rw s.octets (taken-there now rule from k l m (from + k) h (omega arith))
        in
        rw (add-one k)
        (record {
          octets = p.1.1 ∙ ap (λ y. swept_at now rule y (from + k)) s.octets;
          expired = p.0 ∙ ap₂ (λ a c. a + as_bit c) s.expired r ∙ add_assoc x₀ _ _ ∙ ap (λ n. x₀ + n) (sym (count_next (ran_at now l) from k));
          dropped =
              p.1.0 ∙ ap₂ (λ a c. a + as_bit c) s.dropped t ∙ add_assoc d₀ _ _ ∙ ap (λ n. d₀ + n) (sym (count_next (taken_at now rule l) from k));
        })

    -- a run more
    pub sweeping_run : {n : ℕ} → from + k + n ≤ places → Sweeping now rule (from + k) b x d n b₁ x₁ d₁ → Sweeping now rule from l x₀ d₀ (k + n) b₁ x₁ d₁
    sweeping_run {n} h p =
        let r : count_run (ran_at now b) (from + k) n ≡ count_run (ran_at now l) (from + k) n =
        count_ext (ran_at now b) (ran_at now l) (from + k) n
        (λ j q. rw s.octets (ran-there now rule from k l m (from + k + j) (omega arith) (omega arith)))
        in
        let t : count_run (taken_at now rule b) (from + k) n ≡ count_run (taken_at now rule l) (from + k) n =
        count_ext (taken_at now rule b) (taken_at now rule l) (from + k) n
        (λ j q. rw s.octets (taken-there now rule from k l m (from + k + j) (omega arith) (omega arith)))
        in
        record {
          octets = p.octets ∙ ap (swept_run now rule (from + k) n) s.octets ∙ sym (run-then now rule from k n l);
          expired = p.expired ∙ ap₂ ◌+◌ s.expired r ∙ add_assoc x₀ _ _ ∙ ap (λ a. x₀ + a) (sym (count-then (ran_at now l) from k n));
          dropped = p.dropped ∙ ap₂ ◌+◌ s.dropped t ∙ add_assoc d₀ _ _ ∙ ap (λ a. d₀ + a) (sym (count-then (taken_at now rule l) from k n));
        }

-- ## What is counted of a table of places

module _ (now : ℕ) (rule : Rule) (from n : ℕ) (l : List ℕ) (x₀ d₀ : ℕ) where
  -- what the code of a run says
  abbrev pub Counted : ℕ → ℕ → List ℕ → Type 0
  Counted x d k =
      (x ≡ x₀ + count_at (λ i s. ran_out_of now (timer_no l i) s) from (tabulate (slot_no l) from n))
      × ((d ≡ d₀ + count_at (λ i s. taken_of now (timer_no l i) rule i s) from (tabulate (slot_no l) from n)) × (k ≡ swept_run now rule from n l))

  ran-counted : count_at (λ i s. ran_out_of now (timer_no l i) s) from (tabulate (slot_no l) from n) ≡ count_run (ran_at now l) from n
  ran-counted = count-table (λ i s. ran_out_of now (timer_no l i) s) (slot_no l) from n

  taken-counted : count_at (λ i s. taken_of now (timer_no l i) rule i s) from (tabulate (slot_no l) from n) ≡ count_run (taken_at now rule l) from n
  taken-counted = count-table (λ i s. taken_of now (timer_no l i) rule i s) (slot_no l) from n

  pub run-said : (b : List ℕ) (x d : ℕ) → Sweeping now rule from l x₀ d₀ n b x d → Counted x d b
  run-said b x d s =
      (s.expired ∙ ap (λ a. x₀ + a) (sym ran-counted), (s.dropped ∙ ap (λ a. d₀ + a) (sym taken-counted), s.octets))

  pub said-run : (b : List ℕ) (x d : ℕ) → Counted x d b → Sweeping now rule from l x₀ d₀ n b x d
  said-run b x d p =
      record { octets = p.1.1; expired = p.0 ∙ ap (λ a. x₀ + a) ran-counted; dropped = p.1.0 ∙ ap (λ a. d₀ + a) taken-counted }

  -- nothing goes
  pub places-still : ((k : ℕ) → k < n → goes l now rule (from + k) ≡ false) → Sweeping now rule from l x₀ d₀ n l x₀ d₀
  places-still e =
      record {
        octets = sym (run-still now rule from n l e);
        expired = sym (ap (λ a. x₀ + a) (still-expired l now rule from n e) ∙ add-zero x₀);
        dropped = sym (ap (λ a. d₀ + a) (still-dropped l now rule from n e) ∙ add-zero d₀);
      }

  -- places whose kinds are 0
  places-empty : ((k : ℕ) → k < n → get_or l (kind_place (from + k)) 0 ≡ 0) → Sweeping now rule from l x₀ d₀ n l x₀ d₀
  places-empty z = places-still (λ k q. goes-empty now rule l (from + k) (z k q))

  -- 24 kinds that are 0, those of all these places among them
  pub group_empty : n ≤ 24 → ((k : ℕ) → k < 24 → get_or l (kind_place from + k) 0 ≡ 0) → Counted x₀ d₀ l
  group_empty h z = run-said l x₀ d₀ (places-empty (λ k q. ap (λ j. get_or l j 0) (sym (add_assoc kinds_from from k)) ∙ z k (omega arith)))

-- the places of a key more
pub sweeping_key : (now : ℕ) (rule : Rule) (from : ℕ) (l : List ℕ) (x₀ d₀ k : ℕ) {b : List ℕ} {x d : ℕ} → Sweeping now rule (channels * from) l x₀ d₀ (channels * k) b x d
    → length l ≡ state_length → from + k < key_count → (x₁ d₁ : ℕ) (b₁ : List ℕ) → Counted now rule (channels * (from + k)) channels b x d x₁ d₁ b₁
    → Sweeping now rule (channels * from) l x₀ d₀ (channels * (k + 1)) b₁ x₁ d₁
sweeping_key now rule from l x₀ d₀ k {b} {x} {d} s m h x₁ d₁ b₁ p =
    let e : channels * (from + k) ≡ channels * from + channels * k = omega arith in
    let f : channels * k + channels ≡ channels * (k + 1) = omega arith in
    let r = said-run now rule (channels * (from + k)) channels b x d b₁ x₁ d₁ p in
    rw f at (sweeping_run s m (omega arith) (rw e at r))

-- ## All of them

-- the keys in whole groups of eight
abbrev pub whole : ℕ
whole = key_count / 8 * 8

module _ (now : ℕ) (rule : Rule) (l : List ℕ) where
  -- what the code of the sweep says
  abbrev pub Swept : ℕ → ℕ → List ℕ → Type 0
  Swept x d b =
      (x ≡ expired_of (decode_of l) now (decode_of l).slots) × ((d ≡ dropped_of (decode_of l) now rule) × (b ≡ swept_octets now rule l))

  pub swept-said : {b : List ℕ} {x d : ℕ} → Sweeping now rule 0 l 0 0 places b x d → Swept x d b
  swept-said s = (
    s.expired ∙ zero-add _ ∙ sym (count-expired l now),
    (s.dropped ∙ zero-add _ ∙ sym (count-dropped l now rule), s.octets),
  )

  -- a group more
  pub sweeping_group : length l ≡ state_length → {i : ℕ} {b : List ℕ} {x d : ℕ} → Sweeping now rule 0 l 0 0 i b x d → (n x₁ d₁ : ℕ) (b₁ : List ℕ)
      → i + n ≤ places → Counted now rule i n b x d x₁ d₁ b₁ → Sweeping now rule 0 l 0 0 (i + n) b₁ x₁ d₁
  sweeping_group m {i} {b} {x} {d} s n x₁ d₁ b₁ h p =
      sweeping_run s m (omega arith) (rw (zero-add i) (said-run now rule i n b x d b₁ x₁ d₁ p))

  pub swept-idle : ((k : ℕ) → k < places → get_or l (kind_place k) 0 ≡ 0) → Swept 0 0 l
  swept-idle z = swept-said (places-empty now rule 0 places l 0 0 (λ k q. rw (zero-add k) (z k q)))

-- what the code says of a state, as it is said of any octets
pub swept-total : (now : ℕ) (rule : Rule) (l : List ℕ) (x d : ℕ) (b : List ℕ) → length l ≡ state_length → Swept now rule l x d b
    → (x ≡ pick (is_state l) (expired_of (decode_of l) now (decode_of l).slots) 0)
    × ((d ≡ pick (is_state l) (dropped_of (decode_of l) now rule) 0) × (b ≡ pick (is_state l) (swept_octets now rule l) l))
swept-total now rule l x d b m p = (p.0 ∙ sym (at-state l _ _ m), (p.1.0 ∙ sym (at-state l _ _ m), p.1.1 ∙ sym (at-state l _ _ m)))
