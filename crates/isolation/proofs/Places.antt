-- Where the halves of the channels stand, and what a timer and a rule say there. Assumes nothing.
use mathlib.Core.Path.{◌≡◌, refl, sym, ap, ◌∙◌}
use mathlib.Core.Bool.{Bool, true, false}
use Prim.Native.Nat.{ℕ, ◌<◌}
use native.Mathlib.Omega.{arith}
use lib.Dec.{eqb}
use Rattle.bits.specs.Field.{pick}
use Rattle.receiver.specs.declared.Receiver.{Receiver}
use Rattle.receiver.specs.Channels.{channels, key_count, places, place_on, side_of, index_in, by_number_of, Channel, onNch, onFacch, onPch, number_of, by_channel}
use Rattle.receiver.specs.Model.{rule_for, keep, spares, timer_at}

-- ## By number and by name

pub number_lt : (c : Channel) → number_of c < channels
number_lt onNch = omega arith
number_lt onFacch = omega arith
number_lt onPch = omega arith

-- what goes by a channel's number goes by its name
by_number : {A : Type 0} (c : Channel) (a b d : A) → by_number_of (number_of c) a b d ≡ by_channel c a b d
by_number onNch a b d = refl
by_number onFacch a b d = refl
by_number onPch a b d = refl

-- one thing for each channel
by-each : {A : Type 0} (f : Channel → A) (c : Channel) → by_channel c (f onNch) (f onFacch) (f onPch) ≡ f c
by-each f onNch = refl
by-each f onFacch = refl
by-each f onPch = refl

by_all : {A : Type 0} (ch : ℕ) (a : A) → by_number_of ch a a a ≡ a
by_all ch a = either (eqb ch 0) (eqb ch 1)
  where
    either : (b d : Bool) → pick b a (pick d a a) ≡ a
    either true d = refl
    either false true = refl
    either false false = refl

-- what holds of each holds of the channel's own
pub for_each : {A : Type 0} (P : A → Type 0) (c : Channel) (a b d : A) → P a → P b → P d → P (by_channel c a b d)
for_each P onNch a b d p q w = p
for_each P onFacch a b d p q w = q
for_each P onPch a b d p q w = w

-- ## The places

pub side_of_lem : (n : ℕ) (c : Channel) → side_of (place_on n (number_of c)) ≡ number_of c
side_of_lem n c = omega (arith, number_lt c)

pub index-of : (n : ℕ) (c : Channel) → index_in (place_on n (number_of c)) ≡ n
index-of n c = omega (arith, number_lt c)

pub place_lt : (n : ℕ) (c : Channel) → n < key_count → place_on n (number_of c) < places
place_lt n c h = omega (arith, number_lt c)

pub same_place : (a b : ℕ) (c d : Channel) → place_on a (number_of c) ≡ place_on b (number_of d) → a ≡ b
same_place a b c d e = sym (index-of a c) ∙ ap index_in e ∙ index-of b d

pub same_side : (a b : ℕ) (c d : Channel) → place_on a (number_of c) ≡ place_on b (number_of d) → number_of c ≡ number_of d
same_side a b c d e = sym (side_of_lem a c) ∙ ap side_of e ∙ side_of_lem b d

-- T3206 runs for the NCH, T3208 for the FACCH, T3210 for the PCH
abbrev pub timer_in : Channel → Receiver → ℕ
timer_in c r = by_channel c r.t3206 r.t3208 r.t3210

pub timer-at : (r : Receiver) (n : ℕ) (c : Channel) → timer_at r (place_on n (number_of c)) ≡ timer_in c r
timer-at r n c = rw (side_of_lem n c) (by_number c _ _ _)

-- ## The rules

pub spares-keep : (i : ℕ) → spares keep i ≡ true
unfolding spares
spares-keep i = rw (by_all (side_of i) false)

-- a rule at the place of a key on a channel
pub spares-at : (n : ℕ) (c : Channel) (goes : Channel → Bool) (but : ℕ) → spares (rule_for goes but) (place_on n (number_of c)) ≡ pick (goes c) (eqb n but) true
unfolding spares
spares-at n c goes but = rw (side_of_lem n c, index-of n c, by_number c, by-each goes c)
