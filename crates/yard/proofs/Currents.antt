-- What a place shows after an event: the latest complete record, or what the time and the cell's changes left. Assumes nothing.
use mathlib.Core.Path.{◌≡◌, refl, sym, ap, ◌∙◌}
use mathlib.Core.Bool.{Bool, true, false}
use mathlib.Core.List.{List, [], ◌∷◌}
use mathlib.Core.Option.{Option, none, some}
use Prim.Native.Nat.{ℕ, zero, suc, ◌+◌, ◌^◌, ◌≤◌, ◌<◌}
use native.Mathlib.Omega.{arith}
use lib.Dec.{leb, eqb}
use lib.ListN.{length, take, get_or, length-set}
use lib.Seq.{get_or-set_same, get_or-set_other}
use borrow.Author.Tests.{leb-true, leb-false, lt-ltb, le-ltb, eqb-true, eqb-false}
use Rattle.bits.specs.Field.{both, pick}
use Rattle.csn1.specs.Told.{padded}
use Rattle.receiver.specs.declared.Told.{Told}
use Rattle.receiver.specs.Halving.{rises}
use Rattle.receiver.specs.Channels.{key_count}
use Rattle.receiver.specs.Model.{wrap_sub, late_step, index_of}
use Rattle.receiver.specs.Step.{no_told}
use Rattle.receiver.proofs.Cases.{by-test}
use Rattle.receiver.proofs.Keys.{own-index, same_index}
use Rattle.isolation.specs.One.{Said}
use Rattle.isolation.specs.Promises.{under}
use Rattle.isolation.proofs.Clock.{elapsed, ageless}
use Rattle.layout.specs.Layout.{carries}
use Rattle.yard.specs.Yard.{Shown, call_timer, left_call, brought_in, all_in}
use Rattle.yard.specs.History.{Current, or_else, latest_in, found, older}

-- ## What a place shows

abbrev pub said_in : Told → Said
said_in t = record { number = t.number; told = t.«record»; follow = t.follow; kept = t.kept }

abbrev pub current : ℕ → Option Shown → Option Current
current now none = none
current now (some s) = some (record { said = said_in s.told; age = wrap_sub now s.since })

-- it is the call of a key, and younger than 30,000 ms
abbrev pub Fits : ℕ → ℕ → Option Shown → Type 0
Fits key now none = Unit {0}
Fits key now (some s) = (s.told.key ≡ key) × ((s.since < 2 ^ 32) × (wrap_sub now s.since < 30000))

-- ## Time, and the cell's changes

-- the code's timer is that of the history
out_at : (n m : ℕ) → n ≡ m → call_timer ≤ n → 30000 ≤ m
out_at n m e h = omega (arith, e, h)

in_at : (n m : ℕ) → n ≡ m → n < call_timer → m < 30000
in_at n m e h = omega (arith, e, h)

module _ (key tick new : ℕ) (a : tick < 2 ^ 32) (b : new < 2 ^ 32) (h : wrap_sub new tick < late_step) where
  -- the wrapped difference is the sum
  sum : (s : Shown) → Fits key tick (some s) → wrap_sub new s.since ≡ wrap_sub tick s.since + wrap_sub new tick
  sum s f = elapsed s.since tick new f.1.0 a b (omega (arith, f.1.1)) h

  pub left-current : (all : Bool) (c : Option Shown) → Fits key tick c → current new (left_call all new c) ≡ pick all none (older (wrap_sub new tick) (current tick c))
  unfolding left_call
  left-current true none f = refl
  left-current true (some s) f = refl
  left-current false none f = refl
  left-current false (some s) f =
      by-test (leb call_timer (wrap_sub new s.since))
      (λ p. rw (p, le-ltb (wrap_sub tick s.since + wrap_sub new tick) 30000 (out_at _ _ (sum s f) (leb-true call_timer (wrap_sub new s.since) p))))
      (λ p.
      rw (p, lt-ltb (wrap_sub tick s.since + wrap_sub new tick) 30000 (in_at _ _ (sum s f) (leb-false call_timer (wrap_sub new s.since) p)))
      (ap (λ (n : ℕ). some (record { said = said_in s.told; age = n })) (sum s f)))

  pub left-fits : (all : Bool) (c : Option Shown) → Fits key tick c → Fits key new (left_call all new c)
  unfolding left_call
  left-fits true none f = tt
  left-fits true (some s) f = tt
  left-fits false none f = tt
  left-fits false (some s) f =
      by-test (leb call_timer (wrap_sub new s.since))
      (λ p. rw p tt)
      (λ p. rw p ((f.0, (f.1.0, in_at _ _ refl (leb-false call_timer (wrap_sub new s.since) p)))))

-- ## An entry with a complete record

abbrev or_told : Option Told → Option Told → Option Told
or_told none w = w
or_told (some v) w = some v

-- the last one under a key
pub latest_told : ℕ → List Told → Option Told
latest_told key [] = none
latest_told key (t ∷ ts) = or_told (latest_told key ts) (pick (both (eqb t.key key) (carries t.number)) (some t) none)

abbrev come : ℕ → Option Told → Option Shown → Option Shown
come now none c = c
come now (some t) c = some (record { since = now; told = t })

abbrev saids : Option Told → Option Said
saids none = none
saids (some t) = some (said_in t)

Keyed : ℕ → Option Told → Type 0
Keyed key none = Unit {0}
Keyed key (some t) = t.key ≡ key

keyed_or : (key : ℕ) (x y : Option Told) → Keyed key x → Keyed key y → Keyed key (or_told x y)
unfolding Keyed
keyed_or key none y p q = q
keyed_or key (some v) y p q = p

keyed-one : (key : ℕ) (t : Told) (c : Bool) → Keyed key (pick (both (eqb t.key key) c) (some t) none)
unfolding Keyed
keyed-one key t true = by-test (eqb t.key key) (λ p. rw p (eqb-true t.key key p)) (λ p. rw p tt)
keyed-one key t false = by-test (eqb t.key key) (λ p. rw p tt) (λ p. rw p tt)

latest_keyed : (key : ℕ) (ts : List Told) → Keyed key (latest_told key ts)
unfolding latest_told Keyed
latest_keyed key [] = tt
latest_keyed key (t ∷ ts) = keyed_or key (latest_told key ts) _ (latest_keyed key ts) (keyed-one key t (carries t.number))

said_or : (x : Option Told) (b : Bool) (t : Told) → saids (or_told x (pick b (some t) none)) ≡ or_else (saids x) (pick b (some (said_in t)) none)
said_or none true t = refl
said_or none false t = refl
said_or (some v) b t = refl

or_none : (x : Option Told) → or_told x none ≡ x
or_none none = refl
or_none (some v) = refl

latest_said : (key : ℕ) (ts : List Told) → saids (latest_told key ts) ≡ latest_in (under key ts)
unfolding latest_told under latest_in
latest_said key [] = refl
latest_said key (t ∷ ts) =
    by-test (eqb t.key key)
    (λ p. rw p (said_or (latest_told key ts) (carries t.number) t ∙ ap (λ (w : Option Said). or_else w (pick (carries t.number) (some (said_in t)) none)) (latest_said key ts)))
    (λ p. rw p (ap saids (or_none (latest_told key ts)) ∙ latest_said key ts))

-- entries that are not there do not count
none_first : (key : ℕ) (x : Option Told) → or_told x (pick (both (eqb 0 key) false) (some no_told) none) ≡ x
none_first key x = by-test (eqb 0 key) (λ p. rw p (or_none x)) (λ p. rw p (or_none x))

latest_padded : (key n : ℕ) (ts : List Told) → latest_told key (take (length ts) (padded no_told n ts)) ≡ latest_told key (padded no_told n ts)
unfolding latest_told
latest_padded key zero [] = refl
latest_padded key zero (t ∷ ts) = refl
latest_padded key (suc n) [] = latest_padded key n [] ∙ sym (none_first key (latest_told key (padded no_told n [])))
latest_padded key (suc n) (t ∷ ts) =
    ap (λ (x : Option Told). or_told x (pick (both (eqb t.key key) (carries t.number)) (some t) none)) (latest_padded key n ts)

come-current : (now : ℕ) (x : Option Told) (c : Option Shown) → current now (come now x c) ≡ found (saids x) 0 (current now c)
come-current now none c = refl
come-current now (some t) c = ap (λ (n : ℕ). some (record { said = said_in t; age = n })) (ageless now)

come-fits : (key now : ℕ) → now < 2 ^ 32 → (x : Option Told) → Keyed key x → (c : Option Shown) → Fits key now c → Fits key now (come now x c)
unfolding Keyed
come-fits key now h none k c f = f
come-fits key now h (some t) k c f = (k, (h, omega (arith, ageless now)))

come-come : (now : ℕ) (x y : Option Told) (c : Option Shown) → come now x (come now y c) ≡ come now (or_told x y) c
come-come now none y c = refl
come-come now (some v) y c = refl

length_in : (keys : List ℕ) (now : ℕ) (calls : List (Option Shown)) (t : Told) → length (brought_in keys now calls t) ≡ length calls
unfolding brought_in
length_in keys now calls t = by-test (carries t.number) (λ p. rw p (length-set calls (index_of keys t.key) _)) (λ p. rw p)

pub length_in-all : (keys : List ℕ) (now : ℕ) (ts : List Told) (calls : List (Option Shown)) → length (all_in keys now calls ts) ≡ length calls
unfolding all_in
length_in-all keys now [] calls = refl
length_in-all keys now (t ∷ ts) calls = length_in-all keys now ts (brought_in keys now calls t) ∙ length_in keys now calls t

-- ## The place of a key

module _ (keys : List ℕ) (r : rises keys ≡ true) (few : length keys ≤ key_count) (i : ℕ) (h : i < length keys) where
  abbrev key : ℕ
  key = get_or keys i 0

  own : index_of keys key ≡ i
  own = own-index keys r i h

  same_place : (k : ℕ) → k ≡ key → index_of keys k ≡ i
  same_place k e = ap (index_of keys) e ∙ own

  other_place : (k : ℕ) → (k ≡ key → ⊥) → i ≡ index_of keys k → ⊥
  other_place k z e = z (sym (same_index keys key k (rw own (omega (arith, few, h))) (own ∙ e)))

  module _ (now : ℕ) where
    one_in : (calls : List (Option Shown)) → i < length calls → (t : Told)
        → get_or (brought_in keys now calls t) i none ≡ come now (pick (both (eqb t.key key) (carries t.number)) (some t) none) (get_or calls i none)
    unfolding brought_in
    one_in calls lt t =
        by-test (eqb t.key key)
        (λ q.
        by-test (carries t.number)
        (λ p. rw (p, q, same_place t.key (eqb-true t.key key q)) (get_or-set_same calls i _ none lt))
        (λ p. rw (p, q)))
        (λ q.
        by-test (carries t.number)
        (λ p. rw (p, q) (get_or-set_other calls (index_of keys t.key) i _ none (other_place t.key (eqb-false t.key key q))))
        (λ p. rw (p, q)))

    in_place : (ts : List Told) (calls : List (Option Shown)) → i < length calls → get_or (all_in keys now calls ts) i none ≡ come now (latest_told key ts) (get_or calls i none)
    unfolding all_in latest_told
    in_place [] calls lt = refl
    in_place (t ∷ ts) calls lt =
        in_place ts (brought_in keys now calls t) (omega (arith, lt, length_in keys now calls t))
        ∙ ap (come now (latest_told key ts)) (one_in calls lt t)
        ∙ come-come now (latest_told key ts) (pick (both (eqb t.key key) (carries t.number)) (some t) none) (get_or calls i none)

    -- what it shows when the entries of an answer have come in
    pub all-current : (n : ℕ) (ts : List Told) (calls : List (Option Shown)) → i < length calls
        → current now (get_or (all_in keys now calls (padded no_told n ts)) i none)
        ≡ found (latest_in (under key (take (length ts) (padded no_told n ts)))) 0 (current now (get_or calls i none))
    all-current n ts calls lt =
        ap (current now) (in_place (padded no_told n ts) calls lt)
        ∙ come-current now (latest_told key (padded no_told n ts)) (get_or calls i none)
        ∙ ap (λ (w : Option Said). found w 0 (current now (get_or calls i none)))
        (ap saids (sym (latest_padded key n ts)) ∙ latest_said key (take (length ts) (padded no_told n ts)))

    pub all-fits : now < 2 ^ 32 → (ts : List Told) (calls : List (Option Shown)) → i < length calls → Fits key now (get_or calls i none)
        → Fits key now (get_or (all_in keys now calls ts) i none)
    all-fits k ts calls lt f = rw (in_place ts calls lt) (come-fits key now k (latest_told key ts) (latest_keyed key ts) (get_or calls i none) f)

-- a place that no key has
module _ (keys : List ℕ) (now i : ℕ) (z : (k : ℕ) → i ≡ index_of keys k → ⊥) where
  one_else : (calls : List (Option Shown)) (t : Told) → get_or (brought_in keys now calls t) i none ≡ get_or calls i none
  unfolding brought_in
  one_else calls t = by-test (carries t.number) (λ p. rw p (get_or-set_other calls (index_of keys t.key) i _ none (z t.key))) (λ p. rw p)

  pub all_else : (ts : List Told) (calls : List (Option Shown)) → get_or (all_in keys now calls ts) i none ≡ get_or calls i none
  unfolding all_in
  all_else [] calls = refl
  all_else (t ∷ ts) calls = all_else ts (brought_in keys now calls t) ∙ one_else calls t
