-- What only private functions' contracts speak of; nothing public rests on it. Assumes nothing.
use Rattle.std.specs.Prelude.{◌≡◌, List, [], ◌∷◌, Bool, true, false, ℕ, ◌+◌, ◌*◌, ◌≤◌, length, leb}
use Rattle.bits.specs.Field.{field, pick}
use Rattle.csn1.specs.Format.{Res, ok, bad, total}
use Rattle.csn1.specs.Grammar.{Grammar, format}
use Rattle.csn1.specs.Told.{as_bit, lead}
use Rattle.trace.specs.declared.fields.Trace.{Trace}
use Rattle.trace.specs.declared.fields.Noted.{Noted}
use Rattle.trace.specs.Fields.{Met, Kinds, met_of, lead_met, listing}
use Rattle.trace.specs.Promises.{end_of}

-- ## A trace

-- in a message of ours, no more fields than bits
pub record Bound (s : List ℕ) (t : Trace) : Type 0 where
  pub short : length s ≤ 23
  pub less : t.met ≤ t.at
  pub within : t.at ≤ length s * 8

-- reading ends here
abbrev pub stopped : Trace → Trace
stopped t = record { at = t.at; met = t.met; good = false }

-- the same, where the reference at p is there and above 99,999,999
abbrev pub low_from : List ℕ → ℕ → Trace → Trace
low_from s p t = pick (leb (p + 27) (length s * 8)) (pick (leb (field s p 27) 99999999) t (stopped t)) t

-- ## What a function leaves of a trace and an array

abbrev pub is_ok : {A : Type 0} → Res A → Bool
is_ok (ok a q) = true
is_ok (bad r) = false

-- the number v of what was read, 0 where that was refused
abbrev pub number_in : {A : Type 0} → (A → ℕ) → Res A → ℕ
number_in v (ok a q) = v a
number_in v (bad r) = 0

-- the fields xs were met, and reading gave x
pub record On {A : Type 0} (xs : List Met) (x : Res A) (t : Trace) (l : List ℕ) (r : Trace) (after : List ℕ) : Type 0 where
  pub at : r.at ≡ end_of t.at xs
  pub met : r.met ≡ t.met + length xs
  pub good : r.good ≡ is_ok x
  pub list : after ≡ listing l t.met xs

-- reading had ended, and nothing was done
pub record Idle (t : Trace) (l : List ℕ) (r : Trace) (after : List ℕ) : Type 0 where
  pub at : r.at ≡ t.at
  pub met : r.met ≡ t.met
  pub good : r.good ≡ false
  pub list : after ≡ l

pub record Stepped {A : Type 0} (xs : List Met) (x : Res A) (s : List ℕ) (t : Trace) (l : List ℕ) (r : Trace) (after : List ℕ) : Type 0 where
  pub on : t.good ≡ true → On xs x t l r after
  pub idle : t.good ≡ false → Idle t l r after
  pub bound : Bound s r

-- a grammar's part was listed
pub record Traced {A : Type 0} (g : Grammar A) (k : Kinds) (s : List ℕ) (t : Trace) (l : List ℕ) (r : Trace) (after : List ℕ) : Type 0 where
  pub step : Stepped (met_of g k s t.at) ((format g).read s t.at) s t l r after

-- the same, and the number v of what was read came back
pub record Noting {A : Type 0} (v : A → ℕ) (g : Grammar A) (k : Kinds) (s : List ℕ) (t : Trace) (l : List ℕ) (n : Noted) (after : List ℕ) : Type 0 where
  pub step : Stepped (met_of g k s t.at) ((format g).read s t.at) s t l n.trace after
  pub value : t.good ≡ true → n.value ≡ number_in v ((format g).read s t.at)
  pub nothing : t.good ≡ false → n.value ≡ 0

-- what leads a later release was listed, and 1 came back where it is H
pub record Leading (k : ℕ) (s : List ℕ) (t : Trace) (l : List ℕ) (n : Noted) (after : List ℕ) : Type 0 where
  pub step : Stepped (lead_met k s t.at) (lead s t.at) s t l n.trace after
  pub value : t.good ≡ true → n.value ≡ number_in as_bit (lead s t.at)
  pub nothing : t.good ≡ false → n.value ≡ 0

-- ## Fields side by side

-- no width is above 64
abbrev pub Narrow : List ℕ → Type 0
Narrow [] = Unit {0}
Narrow (w ∷ ws) = (w ≤ 64) × Narrow ws

-- kinds and widths of as many fields, none of them too wide
pub record Row (ks ws : List ℕ) : Type 0 where
  pub many : length ks ≡ length ws
  pub narrow : Narrow ws

-- and how many bits they have in all: no fewer than there are fields
pub record Whole (ks ws : List ℕ) (n : ℕ) : Type 0 where
  pub row : Row ks ws
  pub all : n ≡ total ws
  pub few : length ws ≤ n
  pub most : n ≤ 72
